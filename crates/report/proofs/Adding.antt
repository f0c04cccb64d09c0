-- Laws of bytes that are put at the place of a text, one after the other. Assumes nothing.
use Prim.Native.Nat.{ℕ, ◌+◌, ◌≤◌}
use mathlib.Core.List.{List, ◌++◌, append_assoc}
use mathlib.Core.Path.{◌≡◌, sym, ap, ap₂, subst, ◌∙◌}
use native.Mathlib.Nat.{add_assoc}
use native.Mathlib.Omega.{arith}
use lib.ListN.{length, drop, take, length-append}
use lib.Seq.{length-take-le, take_at, drop_at, drop-drop}
use Rattle.words.specs.Bytes.{put}
use Rattle.words.proofs.Laws.{put_length}
use Rattle.report.specs.declared.text.Text.{Text}
use Rattle.report.specs.Inner.{Added, Fits}

-- a place that is passed is as good as a list that is split there
put_again : (bytes : List ℕ) (place : ℕ) (a b : List ℕ) → place + (length a + length b) ≤ length bytes
    → put (put bytes place a) (place + length a) b ≡ put bytes place (a ++ b)
put_again bytes place a b fits =
    let rest = drop (place + length a) bytes in
    let front : length (take place bytes ++ a) ≡ place + length a = rw (length-append, length-take-le place bytes (omega arith)) in
    let behind : drop (place + length a + length b) (put bytes place a) ≡ drop (place + length (a ++ b)) bytes =
    sym (drop-drop (length b) (place + length a) (take place bytes ++ a ++ rest))
    ∙ ap (drop (length b)) (drop_at (take place bytes ++ a) rest (place + length a) front)
    ∙ drop-drop (length b) (place + length a) bytes
    ∙ rw (length-append a b, add_assoc) in
    rw (behind, take_at (take place bytes ++ a) rest (place + length a) front) (simp append_assoc)

module _ {text : Text} where
  pub added_length : {bytes : List ℕ} {after : Text} → Added bytes text after → Fits (length bytes) text
      → length after.bytes.now ≡ length text.bytes.now
  added_length {bytes} p fits = ap length p.left ∙ put_length text.bytes.now text.place bytes fits

  pub added_then : {a b : List ℕ} {middle after : Text} → Added a text middle → Added b middle after → Fits (length a + length b) text
      → Added (a ++ b) text after
  added_then {a} {b} {middle} {after} first second fits = record {
    next = second.next ∙ rw (first.next, length-append, add_assoc);
    left = second.left ∙ ap₂ (λ (t : List ℕ) (p : ℕ). put t p b) first.left first.next ∙ put_again text.bytes.now text.place a b fits;
  }

  pub added_as : {a b : List ℕ} {after : Text} → a ≡ b → Added a text after → Added b text after
  added_as {after = after} e p = subst (λ (bytes : List ℕ). Added bytes text after) e p
