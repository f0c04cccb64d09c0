-- `records::dual_bdf` meets its contract: each way out gives the number of the first fact that is missing.
-- Assumes nothing.
use Prim.Native.Nat.{ℕ, ◌+◌, ◌<◌}
use mathlib.Core.Bool.{Bool, true, not, cond}
use mathlib.Core.List.{List}
use mathlib.Core.Path.{◌≡◌, refl, sym, ap, ap₂, ◌∙◌}
use native.Mathlib.Omega.{arith}
use borrow.Author.Tests.{eqb-true, eqb-false}
use lib.Dec.{eqb}
use lib.ListN.{length}
use Rattle.std.proofs.Common.{rules}
use Rattle.std.specs.Prelude.{Result, Err}
use Rattle.answers.specs.declared.Refusal.{Refusal}
use Rattle.answers.specs.declared.Refusal.TheVariants.{NotOneFunction}
use Rattle.records.specs.declared.Alternate.{Alternate}
use Rattle.words.specs.Bytes.{byte}
use Rattle.words.specs.Fields.{bits, word, word_or_zero}
use Rattle.words.specs.Places.{placed}
use Rattle.words.proofs.Laws.{Place, placed_true}
use Rattle.records.specs.DualRule.{fits_dual, is_dual, one_set, vector_at, alternate_of, dual_number, tells_dual, dual_says}
use Rattle.records.proofs.NotOne.{not_one_function}
use Rattle.records.proofs.Masks.{word_read}
use Rattle.records.proofs.OneBit.{one_set_lem}
use Rattle.records.proofs.Told.{sized_is, dual_refused, dual_found, dual_number_lem}
use Rattle.records.proofs.dual_bdf.Goals as goal

-- what is known past the test of the place, of a space and an offset
place : {said : Bool} (at : ℕ) → said ≡ placed at 0x040 0x0fc → said ≡ true → Place at 0x040 0x0fc
place at e there = placed_true at 0x040 0x0fc (sym e ∙ there)

module _ (s : List ℕ) (at : ℕ) (sized : eqb (length s) 4096 ≡ true) (here : Place at 0x040 0x0fc) where
  -- the second word, and what is tested with it
  second : {w : ℕ} → w ≡ word_or_zero s (at + 4) → w ≡ word s (at + 4)
  second e = word_read s (at + 4) (eqb-true _ _ sized) (omega arith) e

  fits_tested : {w : ℕ} {said : Bool} → w ≡ word_or_zero s (at + 4) → said ≡ fits_dual at (byte s (at + 2)) w
      → fits_dual at (byte s (at + 2)) (word s (at + 4)) ≡ said
  fits_tested e tested = sym (tested ∙ ap (fits_dual at (byte s (at + 2))) (second e))

  -- the third word, and what is tested with it
  third : {w : ℕ} → w ≡ word_or_zero s (at + 8) → w ≡ word s (at + 8)
  third e = word_read s (at + 8) (eqb-true _ _ sized) (omega arith) e

  dual_tested : {w v : ℕ} {said : Bool} → w ≡ word_or_zero s (at + 4) → v ≡ word_or_zero s (at + 8) → said ≡ is_dual w v
      → is_dual (word s (at + 4)) (word s (at + 8)) ≡ said
  dual_tested e f tested = sym (tested ∙ ap₂ is_dual (second e) (third f))

  vector_is : {v vector : ℕ} → v ≡ word_or_zero s (at + 8) → vector ≡ bits 23 16 v → vector ≡ vector_at s at
  vector_is f e = e ∙ ap (bits 23 16) (third f)

  -- what is known past the test of the pair, for the vector
  number : {v vector : ℕ} {set : Bool} → placed at 0x040 0x0fc ≡ true → eqb (byte s at) 0x09 ≡ true
      → fits_dual at (byte s (at + 2)) (word s (at + 4)) ≡ true → is_dual (word s (at + 4)) (word s (at + 8)) ≡ true
      → v ≡ word_or_zero s (at + 8) → vector ≡ bits 23 16 v → one_set vector ≡ set → dual_number s at ≡ cond (not set) 10 0
  number there vendor fits dual f e set =
      dual_number_lem s at (sized_is s sized) there vendor fits dual (ap one_set (sym (vector_is f e)) ∙ set)

pub returns-in_err-required : goal.returns-in_err-required
returns-in_err-required c =
    dual_refused _ _ (search rules) c.in_err-required.ensures.1 (dual_number_lem _ _ (sized_is _ c.in_err-required.ensures.0) refl refl refl refl refl)

pub returns-in_err-required-2 : goal.returns-in_err-required-2
returns-in_err-required-2 c =
    dual_refused _ _ (search rules) c.in_err-required-2.ensures.1
    (dual_number_lem _ _ (sized_is _ c.in_ok-required.ensures) (sym c.placed-placed.ensures ∙ c.in_err-required-2.ensures.0) refl refl refl refl)

-- the offset is inside the space
inside : (at n : ℕ) {said : Bool} → said ≡ placed at 0x040 0x0fc → said ≡ true → eqb n 4096 ≡ true → at + 2 < n
inside at n e there size = omega (arith, place at e there, eqb-true n 4096 size)

pub bounds-space-at : goal.bounds-space-at
bounds-space-at c = omega (arith, inside c.args.at _ c.placed-placed.ensures c.in_ok-required-2.ensures c.in_ok-required.ensures)

pub returns-in_err-required-3 : goal.returns-in_err-required-3
returns-in_err-required-3 c =
    dual_refused _ _ (search rules) c.in_err-required-3.ensures.1
    (dual_number_lem _ _ (sized_is _ c.in_ok-required.ensures) (sym c.placed-placed.ensures ∙ c.in_ok-required-2.ensures)
    c.in_err-required-3.ensures.0 refl refl refl)

pub bounds-space-at-2 : goal.bounds-space-at-2
bounds-space-at-2 c = inside c.args.at _ c.placed-placed.ensures c.in_ok-required-2.ensures c.in_ok-required.ensures

pub fits_dual-requires : goal.fits_dual-requires
fits_dual-requires c = (place c.args.at c.placed-placed.ensures c.in_ok-required-2.ensures).below

pub returns-in_err-required-4 : goal.returns-in_err-required-4
returns-in_err-required-4 c =
    let a = c.args in
    let size = c.in_ok-required.ensures in
    let there = c.in_ok-required-2.ensures in
    let here = place a.at c.placed-placed.ensures there in
    dual_refused _ _ (search rules) c.in_err-required-4.ensures.1
    (dual_number_lem _ _ (sized_is _ size) (sym c.placed-placed.ensures ∙ there) c.in_ok-required-3.ensures
    (fits_tested a.space.now a.at size here c.word-second.ensures c.fits_dual.ensures ∙ c.in_err-required-4.ensures.0) refl refl)

pub returns-in_err-required-5 : goal.returns-in_err-required-5
returns-in_err-required-5 c =
    let a = c.args in
    let size = c.in_ok-required.ensures in
    let there = c.in_ok-required-2.ensures in
    let here = place a.at c.placed-placed.ensures there in
    dual_refused _ _ (search rules) c.in_err-required-5.ensures.1
    (dual_number_lem _ _ (sized_is _ size) (sym c.placed-placed.ensures ∙ there) c.in_ok-required-3.ensures
    (fits_tested a.space.now a.at size here c.word-second.ensures c.fits_dual.ensures ∙ c.in_ok-required-4.ensures)
    (dual_tested a.space.now a.at size here c.word-second.ensures c.word-third.ensures c.is_dual.ensures ∙ c.in_err-required-5.ensures.0) refl)

pub alternate_of-requires : goal.alternate_of-requires
alternate_of-requires c = one_set_lem _ (omega (arith, c.vector_of-vector.ensures)) (eqb-true _ 1 c.in_ok-required-6.ensures)

-- where the vector has not one bit: the answer that is told
told : (s : List ℕ) (at : ℕ) {r : Result Alternate Refusal} {refusal : Refusal} → r ≡ Err refusal → refusal ≡ NotOneFunction
    → tells_dual (Err NotOneFunction) ≡ dual_says s at → tells_dual r ≡ dual_says s at
told s at is same e = rw (is, same) e

pub returns-in_err-required-6 : goal.returns-in_err-required-6
returns-in_err-required-6 c =
    let a = c.args in
    told a.space.now a.at (search rules) c.in_err-required-6.ensures.1
    (not_one_function a.space.now a.at (eqb-true _ _ c.in_ok-required.ensures) (sym c.placed-placed.ensures ∙ c.in_ok-required-2.ensures)
    (eqb-true _ _ c.in_ok-required-3.ensures) c.word-second.ensures (sym c.fits_dual.ensures ∙ c.in_ok-required-4.ensures) c.word-third.ensures
    (sym c.is_dual.ensures ∙ c.in_ok-required-5.ensures) c.vector_of-vector.ensures (eqb-false _ 1 c.in_err-required-6.ensures.0))

pub returns : goal.returns
returns c =
    let a = c.args in
    let size = c.in_ok-required.ensures in
    let there = c.in_ok-required-2.ensures in
    let here = place a.at c.placed-placed.ensures there in
    rw (c.alternate_of.ensures ∙ ap₂ alternate_of (third a.space.now a.at size here c.word-third.ensures) (vector_is a.space.now a.at size here c.word-third.ensures c.vector_of-vector.ensures))
    (dual_found _ _
    (number a.space.now a.at size here (sym c.placed-placed.ensures ∙ there) c.in_ok-required-3.ensures
    (fits_tested a.space.now a.at size here c.word-second.ensures c.fits_dual.ensures ∙ c.in_ok-required-4.ensures)
    (dual_tested a.space.now a.at size here c.word-second.ensures c.word-third.ensures c.is_dual.ensures ∙ c.in_ok-required-5.ensures)
    c.word-third.ensures c.vector_of-vector.ensures (one_set_lem _ (omega (arith, c.vector_of-vector.ensures)) (eqb-true _ 1 c.in_ok-required-6.ensures))))
