-- Laws of what document 02, 8/13, says of a capability: what each test of the code tells, the number that is then given, and what is said with that number.
-- Assumes nothing.
use Prim.Native.Nat.{ℕ, ◌+◌}
use mathlib.Core.Bool.{Bool}
use mathlib.Core.List.{List, [], ◌∷◌}
use mathlib.Core.Path.{◌≡◌}
use borrow.Author.Tests.{ne_eqb}
use lib.Dec.{leb}
use Rattle.std.specs.Prelude.{Err}
use Rattle.answers.proofs.Unique.{number_positive}
use Rattle.answers.specs.declared.Refusal.{Refusal}
use Rattle.answers.specs.Numbers.{number_of}
use Rattle.answers.specs.Checks.{check, first_that_applies}
use Rattle.words.specs.Fields.{word}
use Rattle.words.specs.Places.{placed}
use Rattle.records.specs.Required.{required, sized}
use Rattle.multicast.specs.Capability.{is_multicast, clashes, record_at, capability_number, CapabilityTold, tells_capability, capability_says}

module _ (s : List ℕ) (at : ℕ) where
  pub capability_refused : (refusal : Refusal) → capability_number s at ≡ number_of refusal → tells_capability (Err refusal) ≡ capability_says s at
  unfolding capability_says
  capability_refused refusal e = rw (e, ne_eqb (number_of refusal) 0 (number_positive refusal))

  pub capability_found : capability_number s at ≡ 0 → ◌≡◌ {A = CapabilityTold} (record { number = 0; fields = record_at s at }) (capability_says s at)
  unfolding capability_says
  capability_found e = rw e

  -- the number, by what the tests say: a fact that is not tested stands for itself
  pub capability_number_lem : {a b c d e : Bool} → sized s ≡ a → placed at 0x100 0xffc ≡ b → is_multicast (word s at) ≡ c → leb (at + 0x28) 0x1000 ≡ d
      → clashes (record_at s at) ≡ e
      → capability_number s at
      ≡ first_that_applies (required a 1 ∷ required b 1 ∷ required c 8 ∷ required d 9 ∷ check 13 e ∷ [])
  unfolding capability_number
  capability_number_lem a b c d e = rw (a, b, c, d, e)
