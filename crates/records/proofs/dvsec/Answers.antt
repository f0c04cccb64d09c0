-- `records::dvsec` meets its contract: each way out gives the number of the first fact that is missing. Assumes nothing.
use Prim.Native.Nat.{ℕ, ◌+◌, ◌%◌}
use mathlib.Core.Bool.{Bool, true, false}
use mathlib.Core.List.{List}
use mathlib.Core.Path.{◌≡◌, refl, sym, ap, ap₂, ◌∙◌}
use native.Mathlib.Omega.{arith}
use borrow.Author.Tests.{eqb-true, leb-false, lt-leb}
use lib.Dec.{eqb, leb}
use lib.ListN.{length}
use Rattle.std.proofs.Common.{rules}
use Rattle.words.specs.Fields.{word, word_or_zero}
use Rattle.words.specs.Places.{placed}
use Rattle.words.proofs.Laws.{Place, placed_true}
use Rattle.records.specs.declared.DvsecHeader.{DvsecHeader}
use Rattle.records.specs.DvsecRule.{is_dvsec, extends, header_of, header_at}
use Rattle.records.proofs.Masks.{word_read}
use Rattle.records.proofs.Told.{sized_is, dvsec_refused, dvsec_found, dvsec_number_lem}
use Rattle.records.proofs.dvsec.Goals as goal

-- what is known past the test of the place, of a space and an offset
place : {said : Bool} (at : ℕ) → said ≡ placed at 0x100 0xffc → said ≡ true → Place at 0x100 0xffc
place at e there = placed_true at 0x100 0xffc (sym e ∙ there)

module _ (s : List ℕ) (at : ℕ) (sized : eqb (length s) 4096 ≡ true) (here : Place at 0x100 0xffc) where
  -- what the code tests is the word that stands there
  tested : {w : ℕ} {said : Bool} → w ≡ word_or_zero s at → said ≡ is_dvsec w → is_dvsec (word s at) ≡ said
  tested e says = sym (says ∙ ap is_dvsec (word_read s at (eqb-true _ _ sized) here.aligned e))

  header_is : {first second : ℕ} {header : DvsecHeader} → first ≡ word_or_zero s (at + 4) → second ≡ word_or_zero s (at + 8)
      → header ≡ header_of first second → header ≡ header_at s at
  header_is e f is =
      is ∙ ap₂ header_of (word_read s (at + 4) (eqb-true _ _ sized) (omega arith) e) (word_read s (at + 8) (eqb-true _ _ sized) (omega arith) f)

-- what the code tests is the length that stands there
extent : (s : List ℕ) (at : ℕ) {header : DvsecHeader} {said : Bool} → header ≡ header_at s at → said ≡ extends at header.length
    → extends at (header_at s at).length ≡ said
extent s at e says = sym (says ∙ ap (λ (h : DvsecHeader). extends at h.length) e)

-- past the last place with 0Ah bytes left, no length extends
none_left : (at length : ℕ) → leb at 0xff4 ≡ false → at % 4 ≡ 0 → extends at length ≡ false
unfolding extends
none_left at length h a = rw (lt-leb (at + 0x0a) 0x1000 (omega (arith, leb-false at 0xff4 h)))

pub returns-in_err-required : goal.returns-in_err-required
returns-in_err-required c =
    dvsec_refused _ _ (search rules) c.in_err-required.ensures.1 (dvsec_number_lem _ _ (sized_is _ c.in_err-required.ensures.0) refl refl refl)

pub returns-in_err-required-2 : goal.returns-in_err-required-2
returns-in_err-required-2 c =
    dvsec_refused _ _ (search rules) c.in_err-required-2.ensures.1
    (dvsec_number_lem _ _ (sized_is _ c.in_ok-required.ensures) (sym c.placed-placed.ensures ∙ c.in_err-required-2.ensures.0) refl refl)

pub returns-in_err-required-3 : goal.returns-in_err-required-3
returns-in_err-required-3 c =
    let a = c.args in
    let size = c.in_ok-required.ensures in
    let there = c.in_ok-required-2.ensures in
    let here = place a.at c.placed-placed.ensures there in
    dvsec_refused _ _ (search rules) c.in_err-required-3.ensures.1
    (dvsec_number_lem _ _ (sized_is _ size) (sym c.placed-placed.ensures ∙ there)
    (tested a.space.now a.at size here c.word-first.ensures c.is_dvsec.ensures ∙ c.in_err-required-3.ensures.0) refl)

pub returns-in_err-required-4 : goal.returns-in_err-required-4
returns-in_err-required-4 c =
    let a = c.args in
    let size = c.in_ok-required.ensures in
    let there = c.in_ok-required-2.ensures in
    let here = place a.at c.placed-placed.ensures there in
    dvsec_refused _ _ (search rules) c.in_err-required-4.ensures.1
    (dvsec_number_lem _ _ (sized_is _ size) (sym c.placed-placed.ensures ∙ there)
    (tested a.space.now a.at size here c.word-first.ensures c.is_dvsec.ensures ∙ c.in_ok-required-3.ensures)
    (none_left _ _ c.in_err-required-4.ensures.0 here.aligned))

pub extends-requires : goal.extends-requires
extends-requires c = (
  (place c.args.at c.placed-placed.ensures c.in_ok-required-2.ensures).below,
  omega (arith, ap (λ (h : DvsecHeader). h.length) c.header_of-header.ensures),
)

pub returns-in_err-required-5 : goal.returns-in_err-required-5
returns-in_err-required-5 c =
    let a = c.args in
    let s = a.space.now in
    let size = c.in_ok-required.ensures in
    let there = c.in_ok-required-2.ensures in
    let here = place a.at c.placed-placed.ensures there in
    dvsec_refused _ _ (search rules) c.in_err-required-5.ensures.1
    (dvsec_number_lem _ _ (sized_is _ size) (sym c.placed-placed.ensures ∙ there)
    (tested s a.at size here c.word-first.ensures c.is_dvsec.ensures ∙ c.in_ok-required-3.ensures)
    (extent s a.at (header_is s a.at size here c.word.ensures c.word-2.ensures c.header_of-header.ensures) c.extends.ensures ∙ c.in_err-required-5.ensures.0))

pub returns : goal.returns
returns c =
    let a = c.args in
    let s = a.space.now in
    let size = c.in_ok-required.ensures in
    let there = c.in_ok-required-2.ensures in
    let here = place a.at c.placed-placed.ensures there in
    let header = header_is s a.at size here c.word.ensures c.word-2.ensures c.header_of-header.ensures in
    rw header
    (dvsec_found _ _
    (dvsec_number_lem _ _ (sized_is _ size) (sym c.placed-placed.ensures ∙ there)
    (tested s a.at size here c.word-first.ensures c.is_dvsec.ensures ∙ c.in_ok-required-3.ensures)
    (extent s a.at header c.extends.ensures ∙ c.in_ok-required-5.ensures)))
