-- A record that is a Dual-BDF record but for its vector, as the code tests it. Assumes nothing.
use Prim.Native.Nat.{ℕ, ◌+◌}
use mathlib.Core.Bool.{true}
use mathlib.Core.List.{List}
use mathlib.Core.Path.{◌≡◌, refl, sym, ap, ap₂, ◌∙◌}
use native.Mathlib.Omega.{arith}
use borrow.Author.Tests.{eq-eqb}
use lib.Count.{ones}
use lib.ListN.{length}
use Rattle.answers.specs.declared.Refusal.TheVariants.{NotOneFunction}
use Rattle.std.specs.Prelude.{Err}
use Rattle.words.specs.Bytes.{byte}
use Rattle.words.specs.Fields.{bits, word_or_zero}
use Rattle.words.specs.Places.{placed}
use Rattle.words.proofs.Laws.{placed_true}
use Rattle.records.specs.DualRule.{fits_dual, is_dual, one_set, dual_says, DualTold}
use Rattle.records.proofs.Masks.{word_read}
use Rattle.records.proofs.OneBit.{not_one_set}
use Rattle.records.proofs.Told.{sized_is, dual_refused, dual_number_lem}

pub not_one_function : (s : List ℕ) (at : ℕ) {w v vector : ℕ} → length s ≡ 4096 → placed at 0x040 0x0fc ≡ true → byte s at ≡ 0x09
    → w ≡ word_or_zero s (at + 4) → fits_dual at (byte s (at + 2)) w ≡ true → v ≡ word_or_zero s (at + 8) → is_dual w v ≡ true
    → vector ≡ bits 23 16 v → (ones vector ≡ 1 → ⊥) → ◌≡◌ {A = DualTold} (record { number = 10; function = 0; device = 0 }) (dual_says s at)
not_one_function s at {w = w} {v = v} {vector = vector} size there vendor e fits f dual g other =
    let here = placed_true at 0x040 0x0fc there in
    let second = word_read s (at + 4) size (omega arith) e in
    let third = word_read s (at + 8) size (omega arith) f in
    dual_refused s at {r = Err NotOneFunction} refl refl
    (dual_number_lem s at (sized_is s (eq-eqb _ 4096 size)) there (eq-eqb _ 0x09 vendor) (ap (fits_dual at (byte s (at + 2))) (sym second) ∙ fits)
    (ap₂ is_dual (sym second) (sym third) ∙ dual) (ap one_set (ap (bits 23 16) (sym third) ∙ sym g) ∙ not_one_set vector (omega arith) other))
