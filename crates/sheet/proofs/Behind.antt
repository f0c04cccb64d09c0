-- THEOREM. Request 2/13 of document 02, "we lose every record behind it": of the list that was lost, any walk now lists four offsets, and at the
-- second of them P11's record reads as it does at 100h, header and body. Assumes nothing.
use Prim.Native.Nat.{ℕ}
use mathlib.Core.List.{List, [], ◌∷◌}
use mathlib.Core.Path.{◌≡◌, refl, ap}
use lib.ListN.{length, get_or}
use Rattle.board.proofs.Computing.{computing}
use Rattle.lists.specs.declared.Kind.TheVariants.{Extended}
use Rattle.lists.specs.Walks.{Roomy, Walks, number_given, count_given, Walked}
use Rattle.lists.proofs.Decides.{served_lists, served_iff_legal}
use Rattle.lists.proofs.Lost.{lost, whole_now}
use Rattle.records.specs.Required.{sized}
use Rattle.records.specs.DvsecRule.{is_dvsec, extends, dvsec_number, dvsec_says, dvsec_body}
use Rattle.sheet.specs.Sheet.{vendor}

-- the record at 140h, which is no refusal
abbrev pub ReadsAlike : Type 0
ReadsAlike = ((dvsec_says lost 0x140).number ≡ 0) × (dvsec_says lost 0x140 ≡ dvsec_says vendor 0x100) × (dvsec_body lost 0x140 ≡ dvsec_body vendor 0x100)

abbrev pub RecordBehind : Type 0
RecordBehind = (room : List ℕ) (r : Walked) (after : List ℕ) → Roomy Extended room → Walks Extended lost room r after
    → (number_given r ≡ 0) × (count_given r ≡ 4) × (get_or after 1 0 ≡ 0x140) × ReadsAlike

lost_whole : length lost ≡ 4096
unfolding lost
lost_whole = refl

reads_alike : ReadsAlike
unfolding computing lost sized is_dvsec extends dvsec_number dvsec_says dvsec_body
reads_alike = (refl, refl, refl)

pub record_behind : RecordBehind
record_behind room r after roomy w =
    let z = (served_iff_legal Extended lost room r after w lost_whole roomy).0.1 (0x100 ∷ 0x140 ∷ 0x180 ∷ 0x1c0 ∷ [], whole_now) in
    let l = served_lists w z whole_now in
    (z, l.counted, ap (λ (a : List ℕ). get_or a 1 0) l.listed, reads_alike)
