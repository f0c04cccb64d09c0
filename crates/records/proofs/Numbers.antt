-- THEOREMS. What the number of each record says, both ways: 0 exactly if all that document 01 requires is there, and any other number is that
-- of the first requirement, in document 01's order, that is not; no number is given but the record's own. A refusal tells nothing else: 0 for
-- every field, and an empty body. Assumes nothing.
use Prim.Native.Nat.{ℕ}
use mathlib.Core.List.{List, [], ◌∷◌, Memᴰ}
use mathlib.Core.Path.{◌≡◌}
use native.Mathlib.Omega.{arith}
use borrow.Author.Tests.{ne_eqb}
use Rattle.std.specs.Prelude.{Result}
use Rattle.records.specs.declared.DvsecHeader.{DvsecHeader}
use Rattle.records.specs.declared.Alternate.{Alternate}
use Rattle.answers.specs.declared.Refusal.{Refusal}
use Rattle.answers.proofs.Checks.{First, Positive, gives_first, gives_one_of}
use Rattle.records.specs.DvsecRule.{tells_dvsec, dvsec_checks, dvsec_number, dvsec_says, dvsec_body}
use Rattle.records.specs.DualRule.{tells_dual, dual_checks, dual_number, dual_says}

-- the statements, of any answer that meets its promise
abbrev pub DvsecNumber : Type 0
DvsecNumber =
    (s : List ℕ) (at : ℕ) (r : Result DvsecHeader Refusal) → tells_dvsec r ≡ dvsec_says s at
    → First (dvsec_checks s at) (tells_dvsec r).number × Memᴰ (tells_dvsec r).number (0 ∷ 1 ∷ 8 ∷ 9 ∷ [])

abbrev pub DualNumber : Type 0
DualNumber =
    (s : List ℕ) (at : ℕ) (r : Result Alternate Refusal) → tells_dual r ≡ dual_says s at
    → First (dual_checks s at) (tells_dual r).number × Memᴰ (tells_dual r).number (0 ∷ 1 ∷ 8 ∷ 9 ∷ 10 ∷ [])

abbrev pub RefusalsTellNothing : Type 0
RefusalsTellNothing =
    (s : List ℕ) (at : ℕ)
    → (((dvsec_says s at).number ≡ 0 → ⊥)
    → (dvsec_says s at ≡ record { number = (dvsec_says s at).number; vendor = 0; revision = 0; id = 0; length = 0 }) × (dvsec_body s at ≡ []))
    × (((dual_says s at).number ≡ 0 → ⊥) → dual_says s at ≡ record { number = (dual_says s at).number; function = 0; device = 0 })

-- ---- the numbers

dvsec_one_of : (n : ℕ) → Memᴰ n (0 ∷ 1 ∷ 1 ∷ 8 ∷ 9 ∷ []) → Memᴰ n (0 ∷ 1 ∷ 8 ∷ 9 ∷ [])
dvsec_one_of n (Memᴰ.head e) = Memᴰ.head e
dvsec_one_of n (Memᴰ.tail (Memᴰ.head e)) = Memᴰ.tail (Memᴰ.head e)
dvsec_one_of n (Memᴰ.tail (Memᴰ.tail m)) = Memᴰ.tail m

dual_one_of : (n : ℕ) → Memᴰ n (0 ∷ 1 ∷ 1 ∷ 8 ∷ 9 ∷ 8 ∷ 10 ∷ []) → Memᴰ n (0 ∷ 1 ∷ 8 ∷ 9 ∷ 10 ∷ [])
dual_one_of n (Memᴰ.head e) = Memᴰ.head e
dual_one_of n (Memᴰ.tail (Memᴰ.head e)) = Memᴰ.tail (Memᴰ.head e)
dual_one_of n (Memᴰ.tail (Memᴰ.tail (Memᴰ.head e))) = Memᴰ.tail (Memᴰ.head e)
dual_one_of n (Memᴰ.tail (Memᴰ.tail (Memᴰ.tail (Memᴰ.head e)))) = Memᴰ.tail (Memᴰ.tail (Memᴰ.head e))
dual_one_of n (Memᴰ.tail (Memᴰ.tail (Memᴰ.tail (Memᴰ.tail (Memᴰ.head e))))) =
    Memᴰ.tail (Memᴰ.tail (Memᴰ.tail (Memᴰ.head e)))
dual_one_of n (Memᴰ.tail (Memᴰ.tail (Memᴰ.tail (Memᴰ.tail (Memᴰ.tail (Memᴰ.head e)))))) =
    Memᴰ.tail (Memᴰ.tail (Memᴰ.head e))
dual_one_of n (Memᴰ.tail (Memᴰ.tail (Memᴰ.tail (Memᴰ.tail (Memᴰ.tail (Memᴰ.tail m)))))) =
    Memᴰ.tail (Memᴰ.tail (Memᴰ.tail (Memᴰ.tail m)))

dvsec_positive : (s : List ℕ) (at : ℕ) → Positive (dvsec_checks s at)
dvsec_positive s at = omega arith

dual_positive : (s : List ℕ) (at : ℕ) → Positive (dual_checks s at)
dual_positive s at = omega arith

-- of what is said
pub dvsec_number_says : (s : List ℕ) (at : ℕ)
    → First (dvsec_checks s at) (dvsec_says s at).number × Memᴰ (dvsec_says s at).number (0 ∷ 1 ∷ 8 ∷ 9 ∷ [])
unfolding dvsec_says dvsec_number
dvsec_number_says s at =
    (gives_first (dvsec_checks s at) (dvsec_positive s at), dvsec_one_of _ (gives_one_of (dvsec_checks s at)))

pub dual_number_says : (s : List ℕ) (at : ℕ)
    → First (dual_checks s at) (dual_says s at).number × Memᴰ (dual_says s at).number (0 ∷ 1 ∷ 8 ∷ 9 ∷ 10 ∷ [])
unfolding dual_says dual_number
dual_number_says s at = (gives_first (dual_checks s at) (dual_positive s at), dual_one_of _ (gives_one_of (dual_checks s at)))

-- of an answer
pub dvsec_number_lem : DvsecNumber
dvsec_number_lem s at r e = rw e (dvsec_number_says s at)

pub dual_number_lem : DualNumber
dual_number_lem s at r e = rw e (dual_number_says s at)

-- ---- a refusal

pub refusals_tell_nothing : RefusalsTellNothing
unfolding dvsec_says dvsec_body dual_says
refusals_tell_nothing s at = (
  (λ n. let e = ne_eqb (dvsec_number s at) 0 n in (rw e, rw e)),
  (λ n. rw (ne_eqb (dual_number s at) 0 n)),
)
