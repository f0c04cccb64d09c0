-- THEOREM. A second result that meets a promise of this crate is the same result: the answer of `dvsec` and of `dual_bdf`, and for
-- `dvsec_body` the bytes and their place in memory. Assumes nothing.
use Prim.Native.Nat.{ℕ}
use mathlib.Core.List.{List}
use mathlib.Core.Path.{◌≡◌, sym, ap, ap₂, ◌∙◌}
use Rattle.std.specs.Prelude.{Result, Ok, Err}
use Rattle.records.specs.declared.DvsecHeader.{DvsecHeader}
use Rattle.records.specs.declared.Alternate.{Alternate}
use Rattle.answers.specs.declared.Refusal.{Refusal}
use Rattle.answers.proofs.Unique.{number_positive, number_tells}
use Rattle.records.specs.DvsecRule.{DvsecTold, tells_dvsec, dvsec_says, BodyLies}
use Rattle.records.specs.DualRule.{DualTold, tells_dual, dual_says}

abbrev pub DvsecUnique : Type 0
DvsecUnique = (s : List ℕ) (at : ℕ) (r q : Result DvsecHeader Refusal) → tells_dvsec r ≡ dvsec_says s at → tells_dvsec q ≡ dvsec_says s at → r ≡ q

abbrev pub DualBdfUnique : Type 0
DualBdfUnique = (s : List ℕ) (at : ℕ) (r q : Result Alternate Refusal) → tells_dual r ≡ dual_says s at → tells_dual q ≡ dual_says s at → r ≡ q

abbrev pub DvsecBodyUnique : Type 0
DvsecBodyUnique = (place : ℕ × ℕ) (s : List ℕ) (at : ℕ) (p q : ℕ × ℕ) (l m : List ℕ) → BodyLies place s at p l → BodyLies place s at q m
    → (p ≡ q) × (l ≡ m)

-- an answer is told by what it tells
dvsec_same : (r q : Result DvsecHeader Refusal) → tells_dvsec r ≡ tells_dvsec q → r ≡ q
dvsec_same (Ok h) (Ok k) e =
    ap (λ (t : DvsecTold). Ok (record { vendor = t.vendor; revision = t.revision; id = t.id; length = t.length })) e
dvsec_same (Ok h) (Err x) e = absurd (number_positive x (sym (ap (λ (t : DvsecTold). t.number) e)))
dvsec_same (Err x) (Ok k) e = absurd (number_positive x (ap (λ (t : DvsecTold). t.number) e))
dvsec_same (Err x) (Err y) e = ap Err (number_tells x y (ap (λ (t : DvsecTold). t.number) e))

dual_same : (r q : Result Alternate Refusal) → tells_dual r ≡ tells_dual q → r ≡ q
dual_same (Ok a) (Ok b) e = ap (λ (t : DualTold). Ok (record { function = t.function; device = t.device })) e
dual_same (Ok a) (Err x) e = absurd (number_positive x (sym (ap (λ (t : DualTold). t.number) e)))
dual_same (Err x) (Ok b) e = absurd (number_positive x (ap (λ (t : DualTold). t.number) e))
dual_same (Err x) (Err y) e = ap Err (number_tells x y (ap (λ (t : DualTold). t.number) e))

pub dvsec_unique : DvsecUnique
dvsec_unique s at r q e f = dvsec_same r q (e ∙ sym f)

pub dual_bdf_unique : DualBdfUnique
dual_bdf_unique s at r q e f = dual_same r q (e ∙ sym f)

pub dvsec_body_unique : DvsecBodyUnique
dvsec_body_unique place s at p q l m a b =
    (ap₂ (λ (x y : ℕ). (x, y)) (a.block ∙ sym b.block) (a.offset ∙ sym b.offset), a.same ∙ sym b.same)
