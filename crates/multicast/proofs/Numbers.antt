-- THEOREMS. What the number of the reading says, both ways: 0 exactly if all that the request requires is there, and any other number is that of the first
-- requirement, in its order, that is not; no number is given but 0, 1, 8, 9 and 13. A refusal tells nothing else: 0 for every field. Assumes nothing.
use Prim.Native.Nat.{ℕ}
use mathlib.Core.List.{List, [], ◌∷◌, Memᴰ}
use mathlib.Core.Path.{◌≡◌, sym, ap, subst, ◌∙◌}
use native.Mathlib.Omega.{arith}
use borrow.Author.Tests.{ne_eqb}
use Rattle.answers.proofs.Checks.{First, Positive, gives_first, gives_one_of}
use Rattle.std.specs.Prelude.{Result}
use Rattle.answers.specs.declared.Refusal.{Refusal}
use Rattle.multicast.specs.declared.Record.{Record}
use Rattle.multicast.specs.Capability.{CapabilityTold, tells_capability, capability_checks, capability_number, no_fields, capability_says}

-- the statements, of any answer that meets its promise
abbrev pub ReadNumber : Type 0
ReadNumber =
    (s : List ℕ) (at : ℕ) (r : Result Record Refusal) → tells_capability r ≡ capability_says s at
    → First (capability_checks s at) (tells_capability r).number × Memᴰ (tells_capability r).number (0 ∷ 1 ∷ 8 ∷ 9 ∷ 13 ∷ [])

abbrev pub RefusedReadTellsNothing : Type 0
RefusedReadTellsNothing =
    (s : List ℕ) (at : ℕ) (r : Result Record Refusal) → tells_capability r ≡ capability_says s at → ((tells_capability r).number ≡ 0 → ⊥)
    → (tells_capability r).fields ≡ no_fields

one_of : (n : ℕ) → Memᴰ n (0 ∷ 1 ∷ 1 ∷ 8 ∷ 9 ∷ 13 ∷ []) → Memᴰ n (0 ∷ 1 ∷ 8 ∷ 9 ∷ 13 ∷ [])
one_of n (Memᴰ.head e) = Memᴰ.head e
one_of n (Memᴰ.tail (Memᴰ.head e)) = Memᴰ.tail (Memᴰ.head e)
one_of n (Memᴰ.tail (Memᴰ.tail m)) = Memᴰ.tail m

positive : (s : List ℕ) (at : ℕ) → Positive (capability_checks s at)
positive s at = omega arith

pub number_says : (s : List ℕ) (at : ℕ)
    → First (capability_checks s at) (capability_says s at).number × Memᴰ (capability_says s at).number (0 ∷ 1 ∷ 8 ∷ 9 ∷ 13 ∷ [])
unfolding capability_says capability_number
number_says s at = (gives_first (capability_checks s at) (positive s at), one_of _ (gives_one_of (capability_checks s at)))

pub read_number : ReadNumber
read_number s at r e =
    subst (λ (n : ℕ). First (capability_checks s at) n × Memᴰ n (0 ∷ 1 ∷ 8 ∷ 9 ∷ 13 ∷ [])) (sym (ap (λ (t : CapabilityTold). t.number) e)) (number_says s at)

pub says_nothing : (s : List ℕ) (at : ℕ) → ((capability_says s at).number ≡ 0 → ⊥) → (capability_says s at).fields ≡ no_fields
unfolding capability_says
says_nothing s at n = rw (ne_eqb (capability_number s at) 0 n)

pub refused_read_tells_nothing : RefusedReadTellsNothing
refused_read_tells_nothing s at r e n =
    ap (λ (t : CapabilityTold). t.fields) e ∙ says_nothing s at (λ z. n (ap (λ (t : CapabilityTold). t.number) e ∙ z))
