-- The Dual-BDF record in the primary's space: where it reads without refusal and names the alternate's number, every Type 0 or trusted request for the function that it
-- names is the alternate's, and is served as the alternate serves it. And an example: the record reads back as this board's second function, and a Type 0 write to the device
-- and function that it names, and a trusted read after it, are answered by the alternate. Assumes nothing.
use Prim.Native.Nat.{ℕ}
use mathlib.Core.Bool.{true, not, ◌&&◌}
use mathlib.Core.List.{List, [], ◌∷◌}
use mathlib.Core.Path.{◌≡◌, refl, ap, ◌∙◌}
use borrow.Author.Tests.{eq-eqb}
use Rattle.packet.specs.declared.Target.{Target}
use Rattle.packet.specs.declared.Target.TheVariants.{Type0, Type1, Trusted}
use Rattle.packet.specs.Request.{number_under, request_of}
use Rattle.records.specs.Required.{sized}
use Rattle.records.specs.DualRule.{DualTold, dual_says, dual_number, fits_dual, known_pair, is_dual, set_places, one_set, set_place}
use Rattle.capture.specs.declared.Capture.TheVariants.{Nothing}
use Rattle.board.specs.Access.{is_type1}
use Rattle.runs.specs.Run.{Event}
use Rattle.runs.specs.Bench.{zeros, holding, bench_rules, p2}
use Rattle.shares.proofs.Examples.{sent, plain}
use Rattle.shares.proofs.Bite.{completed}
use Rattle.pair.specs.Pair.{Pair, Primary, Alternate, WellPaired}
use Rattle.pair.specs.Pair as pairs
use Rattle.pair.specs.Serving.{served_by, serve_pair}
use Rattle.pair.proofs.Laws.{for_target, own_answers}
use Rattle.pair.proofs.Computing.{pair_computing}
use Rattle.isolation.specs.Rows.{runs, end}
use Rattle.isolation.specs.Views.{own_sights}
use Rattle.witnesses.proofs.Examples.{side_with, paired, another, to, trusted4}
use Rattle.witnesses.proofs.Bite.{nth_sight}

-- the record at an offset of the primary's ordinary space reads without refusal, and names the alternate's number
pub record NamesAlternate (pair : Pair) (at : ℕ) : Type 0 where
  pub read : (dual_says pair.primary.ordinary.bytes at).number ≡ 0
  pub named : (dual_says pair.primary.ordinary.bytes at).function ≡ pairs.number_of Alternate pair

-- the statement
abbrev pub IsSecondFunction : Type 0
IsSecondFunction =
    (pair : Pair) (at : ℕ) → WellPaired pair → NamesAlternate pair at → (p : List ℕ) (size : ℕ) → number_under pair.edition p ≡ 0
    → ((request_of p).target ≡ Type1 → ⊥) → (request_of p).function ≡ (dual_says pair.primary.ordinary.bytes at).function
    → serve_pair pair p size ≡ served_by Alternate pair p size

-- of Type 0 or trusted
not_type1 : (t : Target) → (t ≡ Type1 → ⊥) → not (is_type1 t) ≡ true
not_type1 Type0 h = refl
not_type1 Type1 h = absurd (h refl)
not_type1 Trusted h = refl

pub is_second_function : IsSecondFunction
is_second_function pair at w n p size sound target names =
    own_answers pair w p size Alternate
    (for_target pair.edition (pairs.number_of Alternate pair) p (request_of p) (request_of p).target sound refl refl
    ∙ (λ i. not_type1 (request_of p).target target i && eq-eqb (request_of p).function (pairs.number_of Alternate pair) (names ∙ n.named) i))

-- ---- the example: function 2 with the record at 040h, and function 3 beside it

-- "Dual-BDF": ID 09h, length 0Ch; vendor 8086h, revision 0, length 00Ch; ID 0009h, bit 3 of the vector, device 3
abbrev pub dual_record : List ℕ
dual_record = 0x09 ∷ 0x00 ∷ 0x0c ∷ 0x00 ∷ 0x86 ∷ 0x80 ∷ 0xc0 ∷ 0x00 ∷ 0x09 ∷ 0x00 ∷ 0x08 ∷ 0x03 ∷ []

abbrev pub with_record : Pair
with_record = paired Primary (side_with 2 0x104 0x00c Nothing (plain (holding 0x040 dual_record) bench_rules) (plain zeros bench_rules)) another

-- a Type 0 write to device 3 and function 3, which the record names (byte 9 is 3 × 8 + 3), and a trusted read of the same function
abbrev pub asked : List Event
asked = sent (to 0x1b p2) ∷ sent (to 0x1b trusted4) ∷ []

pub record ReadsBack : Type 0 where
  pub told : dual_says with_record.primary.ordinary.bytes 0x040 ≡ record { number = 0; function = 3; device = 3 }
  pub names : NamesAlternate with_record 0x040
  pub well : WellPaired with_record
  pub answered : (nth_sight 1 (own_sights runs Alternate with_record asked)).written ≡ completed (0x05 ∷ 0x1b ∷ []) 0x08 (0xff ∷ 0xff ∷ 0xff ∷ 0xff ∷ [])
  pub still_told : dual_says (end runs with_record asked).primary.ordinary.bytes 0x040 ≡ record { number = 0; function = 3; device = 3 }

reads : dual_says with_record.primary.ordinary.bytes 0x040 ≡ record { number = 0; function = 3; device = 3 }
unfolding pair_computing sized dual_says dual_number fits_dual known_pair is_dual set_places one_set set_place
reads = refl

kept : (end runs with_record asked).primary.ordinary.bytes ≡ with_record.primary.ordinary.bytes
unfolding pair_computing
kept = refl

pub reads_back : ReadsBack
unfolding pair_computing
reads_back =
    record {
      told = reads;
      names = record { read = ap (λ (t : DualTold). t.number) reads; named = ap (λ (t : DualTold). t.function) reads };
      well = refl;
      answered = refl;
      still_told = ap (λ (s : List ℕ). dual_says s 0x040) kept ∙ reads;
    }
