-- The twelve P examples of the bench sheet hold for the written rules: one check over all twelve. P1 to P11 are computed; P12 is about every
-- walk, by what the header there is computed to point to. Assumes nothing.
use mathlib.Core.Path.{◌≡◌, refl}
use lib.Dec.{lit≤}
use Rattle.board.proofs.Computing.{computing}
use Rattle.lists.specs.declared.Kind.TheVariants.{Extended}
use Rattle.lists.specs.Table.{describe, extended_start, extended_next}
use Rattle.lists.specs.Chain.{first, follows}
use Rattle.lists.specs.Breaks.{met, holder, Breaks, Breaks.turns}
use Rattle.lists.proofs.Tested.{reached_by_test}
use Rattle.lists.proofs.Telling.{told_as_broken}
use Rattle.records.specs.Required.{sized}
use Rattle.records.specs.DvsecRule.{is_dvsec, extends, dvsec_number, dvsec_says, dvsec_body}
use Rattle.records.specs.DualRule.{fits_dual, known_pair, is_dual, set_places, one_set, set_place, dual_number, dual_says}
use Rattle.sheet.specs.Sheet.{circle, rules, sheet, TwelfthHolds}

-- the statement
abbrev pub SheetHolds : Type 0
SheetHolds = (rules ≡ sheet) × TwelfthHolds

-- the header at 100h leads back to 100h
circle_breaks : Breaks (describe Extended) circle 12 0x100
unfolding met holder first follows extended_start extended_next
circle_breaks = turns 1 (reached_by_test (describe Extended) circle 1 refl) (record { earlier = 0; before = lit≤ tt; same = refl }) refl refl

pub sheet_holds : SheetHolds
unfolding computing sized is_dvsec extends dvsec_number dvsec_says dvsec_body fits_dual known_pair is_dual set_places one_set set_place dual_number dual_says
sheet_holds = (
  refl,
  λ room r after roomy w. told_as_broken Extended circle 12 0x100 circle_breaks room r after refl roomy w,
)
