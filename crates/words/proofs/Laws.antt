-- Laws of the bytes of a space, for the proofs above: what `four`, `word` and `put` come to inside and outside the space, and what stands in a
-- space after a `put`. Assumes nothing.
use Prim.Native.Nat.{ℕ, zero, suc, ◌+◌, ◌-◌, ◌%◌, ◌≤◌, ◌<◌}
use mathlib.Core.Bool.{Bool, true, false, cond, ◌&&◌}
use mathlib.Core.List.{List, [], ◌∷◌, ◌++◌}
use mathlib.Core.Logic.{◌⊎◌, inl, inr, ⊎_elim}
use mathlib.Core.Path.{◌≡◌, refl, sym, ap, ◌∙◌, subst}
use native.Mathlib.Nat.{add-zero}
use native.Mathlib.Omega.{arith}
use borrow.Author.Tests.{le-leb, lt-leb, ltb-true, ltb-false, leb-true, eqb-true}
use lib.Dec.{leb, ltb, eqb}
use lib.Seq.{length-take-le, drop-cons, get_or-take, get_or-drop, get_or-append-add, take-append-le, take_at, drop_at}
use lib.ListN.{length, length-append, length-take, length-drop, get_or, take, drop, drop_of_length-le, get_or-append}
use Rattle.words.specs.Bytes.{byte, four, put, four_or_zero, Puts}
use Rattle.words.specs.Fields.{word, word_or_zero}
use Rattle.words.specs.Places.{placed}

pub four_inside : (s : List ℕ) (at : ℕ) → at + 4 ≤ length s → four_or_zero s at ≡ four s at
unfolding four_or_zero
four_inside s at h = rw (le-leb (at + 4) (length s) h)

pub four_outside : (s : List ℕ) (at : ℕ) → length s < at + 4 → four_or_zero s at ≡ 0 ∷ 0 ∷ 0 ∷ 0 ∷ []
unfolding four_or_zero
four_outside s at h = rw (lt-leb (at + 4) (length s) h)

pub word_inside : (s : List ℕ) (at : ℕ) → at + 4 ≤ length s → word_or_zero s at ≡ word s at
unfolding word_or_zero
word_inside s at h = rw (le-leb (at + 4) (length s) h)

pub word_outside : (s : List ℕ) (at : ℕ) → length s < at + 4 → word_or_zero s at ≡ 0
unfolding word_or_zero
word_outside s at h = rw (lt-leb (at + 4) (length s) h)

-- the four bytes that are read make the word that is read
pub word_joins : (s : List ℕ) (at : ℕ) → word (four_or_zero s at) 0 ≡ word_or_zero s at
unfolding four_or_zero word_or_zero
word_joins s at = go (leb (at + 4) (length s))
  where
    go : (inside : Bool) → word (cond inside (four s at) (0 ∷ 0 ∷ 0 ∷ 0 ∷ [])) 0 ≡ cond inside (word s at) 0
    go true = refl
    go false = refl

-- one of the four bytes
pub four_at : (s : List ℕ) (at k : ℕ) → k < 4 → byte (four s at) k ≡ byte s (at + k)
four_at s at zero h = ap (byte s) (sym (add-zero at))
four_at s at (suc zero) h = refl
four_at s at (suc (suc zero)) h = refl
four_at s at (suc (suc (suc zero))) h = refl
four_at s at (suc (suc (suc (suc k)))) h = absurd (omega arith)

module _ (s : List ℕ) (at : ℕ) (bytes : List ℕ) where
  pub puts_inside : at + length bytes ≤ length s → Puts s at bytes true (put s at bytes)
  puts_inside h = record { fitted = sym (le-leb _ _ h); left = rw (le-leb (at + length bytes) (length s) h) }

  pub puts_outside : length s < at + length bytes → Puts s at bytes false s
  puts_outside h = record { fitted = sym (lt-leb _ _ h); left = rw (lt-leb (at + length bytes) (length s) h) }

  -- what a call of `words::put` that fits has left
  pub puts_is : {said : Bool} {after : List ℕ} → Puts s at bytes said after → at + length bytes ≤ length s → after ≡ put s at bytes
  puts_is p h = p.left ∙ rw (le-leb (at + length bytes) (length s) h)

  pub put_length : at + length bytes ≤ length s → length (put s at bytes) ≡ length s
  put_length h = simp (length-append, length-take, length-drop) (omega arith)

  -- what stands in a space after a `put`: the bytes there, and every other byte as it was
  module _ (h : at + length bytes ≤ length s) where
    before_length : length (take at s ++ bytes) ≡ at + length bytes
    before_length = simp (length-append, length-take) (omega arith)

    pub put_there : (k : ℕ) → k < length bytes → byte (put s at bytes) (at + k) ≡ byte bytes k
    put_there k small =
        get_or-append (take at s ++ bytes) (drop (at + length bytes) s) 0 (at + k) (rw before_length (omega arith))
        ∙ ap (λ (n : ℕ). get_or (take at s ++ bytes) (n + k) 0) (sym (length-take-le at s (omega arith)))
        ∙ get_or-append-add (take at s) bytes k 0

    pub put_before : (k : ℕ) → k < at → byte (put s at bytes) k ≡ byte s k
    put_before k small =
        get_or-append (take at s ++ bytes) (drop (at + length bytes) s) 0 k (rw before_length (omega arith))
        ∙ get_or-append (take at s) bytes 0 k (rw (length-take-le at s (omega arith)) small)
        ∙ get_or-take at s k 0 small

    pub put_after : (k : ℕ) → at + length bytes ≤ k → byte (put s at bytes) k ≡ byte s k
    put_after k large =
        let j : ℕ = k - (at + length bytes) in
        ap (get_d' (put s at bytes)) (split ∙ ap (λ (n : ℕ). n + j) (sym before_length))
        ∙ get_or-append-add (take at s ++ bytes) (drop (at + length bytes) s) j 0
        ∙ get_or-drop (at + length bytes) s j 0
        ∙ ap (get_d' s) (sym split)
      where
        get_d' : List ℕ → ℕ → ℕ
        get_d' l n = get_or l n 0

        split : k ≡ (at + length bytes) + (k - (at + length bytes))
        split = omega arith

-- what is put over what was put is what stands there: as many bytes
pub put_again : (s : List ℕ) (at : ℕ) (old new : List ℕ) → at + length old ≤ length s → length new ≡ length old → put (put s at old) at new ≡ put s at new
put_again s at old new h same =
    λ i. kept i ++ new ++ (behind ∙ ap (λ (n : ℕ). drop (at + n) s) (sym same)) i
  where
    kept : take at (put s at old) ≡ take at s
    kept =
        take-append-le at (take at s ++ old) (drop (at + length old) s) (rw (before_length s at old h) (omega arith))
        ∙ take_at (take at s) old at (length-take-le at s (omega arith))

    behind : drop (at + length new) (put s at old) ≡ drop (at + length old) s
    behind = drop_at (take at s ++ old) (drop (at + length old) s) (at + length new) (before_length s at old h ∙ ap (λ (n : ℕ). at + n) (sym same))

-- a byte outside the word at an offset
abbrev pub Outside : ℕ → ℕ → Type 0
Outside at k = (k < at) ⊎ (at + 4 ≤ k)

-- spaces that agree outside a word have their other words in common: no two offsets that are multiples of 4 reach the same byte
pub words_agree : (s t : List ℕ) (at o : ℕ) → at % 4 ≡ 0 → o % 4 ≡ 0 → (o ≡ at → ⊥) → ((k : ℕ) → Outside at k → byte s k ≡ byte t k)
    → four s o ≡ four t o
words_agree s t at o a b apart agree = go (ltb o at) refl
  where
    each : ((k : ℕ) → k < 4 → Outside at (o + k)) → four s o ≡ four t o
    each f =
        λ i. subst (λ (n : ℕ). byte s n ≡ byte t n) (add-zero o) (agree (o + 0) (f 0 (omega arith))) i
        ∷ agree (o + 1) (f 1 (omega arith)) i ∷ agree (o + 2) (f 2 (omega arith)) i ∷ agree (o + 3) (f 3 (omega arith)) i ∷ []

    go : (less : Bool) → ltb o at ≡ less → four s o ≡ four t o
    go true e = each (λ k small. inl (omega (arith, ltb-true o at e)))
    go false e = each (λ k small. inr (omega (arith, ltb-false o at e)))

pub four_elsewhere : (s : List ℕ) (at : ℕ) (bytes : List ℕ) (o : ℕ) → at + length bytes ≤ length s → length bytes ≡ 4 → at % 4 ≡ 0 → o % 4 ≡ 0
    → (o ≡ at → ⊥) → four (put s at bytes) o ≡ four s o
four_elsewhere s at bytes o h size a b apart =
    words_agree (put s at bytes) s at o a b apart
    (λ k. ⊎_elim (put_before s at bytes h k) (λ large. put_after s at bytes h k (omega arith)))

-- spaces that agree at a place agree there with the same bytes put into both
pub puts_agree : (s t : List ℕ) (at : ℕ) (bytes : List ℕ) → at + length bytes ≤ length s → at + length bytes ≤ length t → (k : ℕ)
    → byte s k ≡ byte t k → byte (put s at bytes) k ≡ byte (put t at bytes) k
puts_agree s t at bytes hs ht k same = go (ltb k at) (ltb k (at + length bytes)) refl refl
  where
    there : (l : List ℕ) → at + length bytes ≤ length l → at ≤ k → k < at + length bytes → byte (put l at bytes) k ≡ byte bytes (k - at)
    there l h low high =
        let split : k ≡ at + (k - at) = omega arith in
        ap (byte (put l at bytes)) split ∙ put_there l at bytes h (k - at) (omega arith)

    go : (less within : Bool) → ltb k at ≡ less → ltb k (at + length bytes) ≡ within → byte (put s at bytes) k ≡ byte (put t at bytes) k
    go true within e f = let h = ltb-true k at e in put_before s at bytes hs k h ∙ same ∙ sym (put_before t at bytes ht k h)
    go false true e f =
        let h = ltb-false k at e in
        let j = ltb-true k (at + length bytes) f in
        there s hs h j ∙ sym (there t ht h j)
    go false false e f =
        let j = ltb-false k (at + length bytes) f in
        put_after s at bytes hs k j ∙ same ∙ sym (put_after t at bytes ht k j)

-- ---- where something may stand

pub record Place (at low high : ℕ) : Type 0 where
  pub aligned : at % 4 ≡ 0
  pub above : low ≤ at
  pub below : at ≤ high

pub and_both : (a b : Bool) → (a && b) ≡ true → (a ≡ true) × (b ≡ true)
and_both true b e = (refl, e)
and_both false b e = let z : ◌≡◌ {A = ℕ} 0 1 = cc in absurd (omega arith)

pub placed_true : (at low high : ℕ) → placed at low high ≡ true → Place at low high
unfolding placed
placed_true at low high e =
    let a = and_both (eqb (at % 4) 0) (leb low at && leb at high) e in
    let b = and_both (leb low at) (leb at high) a.1 in
    record { aligned = eqb-true _ _ a.0; above = leb-true _ _ b.0; below = leb-true _ _ b.1 }

-- ---- a list is its bytes

-- so many bytes from a place on
unfoldable pub listed : List ℕ → ℕ → ℕ → List ℕ
listed s at zero = []
listed s at (suc n) = byte s at ∷ listed s (suc at) n

pub listed_from : (s : List ℕ) (at n : ℕ) → length s ≡ at + n → drop at s ≡ listed s at n
unfolding listed
listed_from s at zero e = drop_of_length-le s {i = at} (omega arith)
listed_from s at (suc n) e = drop-cons s at 0 (omega arith) ∙ ap (λ (l : List ℕ). byte s at ∷ l) (listed_from s (suc at) n (omega arith))
