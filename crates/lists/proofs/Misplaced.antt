-- THEOREMS. The walks that a newcomer writes for request 3/13 of document 02 do not meet the promise: such as take one number for the other, of any list
-- that breaks; and such as tell, in the place of the structure that holds the pointer, where that pointer leads, the list's start, nothing, or the
-- structure at which a count of the maximum's headers ends, of any list where that is another place. In document 01's list 100h, 140h, 180h, 140h each
-- of these is another place than the one to tell, 180h. And two lists with a fault that is not reached, where the first one counts. Assumes nothing.
use Prim.Native.Nat.{ℕ, zero, suc, ◌<◌}
use mathlib.Core.List.{List, [], ◌∷◌}
use mathlib.Core.Path.{◌≡◌, refl, sym, ◌∙◌}
use native.Mathlib.Omega.{arith}
use lib.Dec.{lit<, lit≤}
use lib.ListN.{replicate}
use borrow.Author.Tests.{eqb-false}
use Rattle.words.specs.Bytes.{put}
use Rattle.lists.specs.declared.Kind.{Kind}
use Rattle.lists.specs.declared.Kind.TheVariants.{Extended}
use Rattle.lists.specs.Table.{describe, extended_start, extended_next}
use Rattle.lists.specs.Chain.{first, follows}
use Rattle.lists.specs.Breaks.{met, holder, Reached, Breaks, Breaks.falls, Breaks.turns}
use Rattle.lists.specs.Walks.{WholeSpace, Roomy, number_given, Walks, place_given, Walked}
use Rattle.lists.proofs.Breaking.{steps}
use Rattle.lists.proofs.Tested.{reached_by_test}
use Rattle.lists.proofs.Telling.{Tells, told_as_broken, other_told}

-- what is told in the place of the structure, of a list that breaks at its n-th pointer
pub data Misplaced : Type 0 where
  leads_to : Misplaced
  start : Misplaced
  nothing : Misplaced
  counted : Misplaced

abbrev pub place_by : Misplaced → Kind → List ℕ → ℕ → ℕ
place_by leads_to kind s n = met (describe kind) s n
place_by start kind s n = first (describe kind) s
place_by nothing kind s n = 0
place_by counted kind s n = holder (describe kind) s (describe kind).maximum

-- the statements. A walk that tells such a place, where it is another
abbrev pub MisplacedCaught : Type 0
MisplacedCaught =
    (m : Misplaced) (kind : Kind) (s room : List ℕ) (number place : ℕ) (b : Breaks (describe kind) s number place) (r : Walked) (after : List ℕ)
    → WholeSpace s → Roomy kind room → (place_by m kind s (steps b) ≡ place → ⊥) → place_given r ≡ place_by m kind s (steps b)
    → Walks kind s room r after → ⊥

-- where the pointer is below the floor, the place that it leads to is always another
abbrev pub LeadsElsewhere : Type 0
LeadsElsewhere = (kind : Kind) (s : List ℕ) (place : ℕ) (b : Breaks (describe kind) s 11 place) → met (describe kind) s (steps b) ≡ place → ⊥

-- a walk that takes one number for the other
abbrev pub SwappedCaught : Type 0
SwappedCaught = (kind : Kind) (s room : List ℕ) (place : ℕ) (r : Walked) (after : List ℕ) → WholeSpace s → Roomy kind room
    → (Breaks (describe kind) s 11 place → number_given r ≡ 12 → Walks kind s room r after → ⊥)
    × (Breaks (describe kind) s 12 place → number_given r ≡ 11 → Walks kind s room r after → ⊥)

-- ---- the theorems

pub misplaced_caught : MisplacedCaught
misplaced_caught m kind s room number place b r after whole roomy other e w =
    other_told kind s room number place r after whole roomy b (λ t. other (sym e ∙ t.1)) w

pub swapped_caught : SwappedCaught
swapped_caught kind s room place r after whole roomy = (
  (λ b e w. other_told kind s room 11 place r after whole roomy b (λ t. omega (arith, t.0, e)) w),
  (λ b e w. other_told kind s room 12 place r after whole roomy b (λ t. omega (arith, t.0, e)) w),
)

leads_past : (kind : Kind) (s : List ℕ) (n : ℕ) → Reached (describe kind) s n → (met (describe kind) s n ≡ 0 → ⊥)
    → met (describe kind) s n < (describe kind).floor → met (describe kind) s n ≡ holder (describe kind) s n → ⊥
unfolding holder
leads_past kind s zero r some low e = some e
leads_past kind s (suc n) r some low e = omega (arith, (r n (omega arith)).above)

pub leads_elsewhere : LeadsElsewhere
leads_elsewhere kind s place (falls n r b e f) same = leads_past kind s n r b.onward b.low (same ∙ f)
leads_elsewhere kind s place (turns n r b e f) same = omega arith

-- ---- "100h to 140h to 180h to 140h never comes back to 100h"

-- extended headers with ID 000Bh and version 1, at offsets that point to multiples of 16
unfoldable pub headers : List ℕ → List (ℕ × ℕ) → List ℕ
headers s [] = s
headers s ((at, high) ∷ rest) = put (headers s rest) at (0x0b ∷ 0x00 ∷ 0x01 ∷ high ∷ [])

unfoldable pub looping : List ℕ
looping = headers (replicate 4096 0) ((0x100, 0x14) ∷ (0x140, 0x18) ∷ (0x180, 0x14) ∷ [])

pub looping_breaks : Breaks (describe Extended) looping 12 0x180
unfolding looping headers met holder first follows extended_start extended_next
looping_breaks = turns 3 (reached_by_test (describe Extended) looping 3 refl) (record { earlier = 1; before = lit≤ tt; same = refl }) refl refl

abbrev pub LoopingTold : Type 0
LoopingTold = Tells Extended looping 12 0x180 × ((m : Misplaced) → place_by m Extended looping (steps looping_breaks) ≡ 0x180 → ⊥)

pub looping_told : LoopingTold
unfolding looping looping_breaks headers met holder first follows extended_start extended_next
looping_told = (told_as_broken Extended looping 12 0x180 looping_breaks, other)
  where
    other : (m : Misplaced) → place_by m Extended looping (steps looping_breaks) ≡ 0x180 → ⊥
    other leads_to = eqb-false 0x140 0x180 refl
    other start = eqb-false 0x100 0x180 refl
    other nothing = eqb-false 0 0x180 refl
    other counted = eqb-false (met (describe Extended) looping 959) 0x180 refl

-- ---- two lists with a fault that is not reached

-- 100h and 140h go round, and 180h, which nothing leads to, points below the floor; and the other way round, 140h points below it and 180h to itself
unfoldable pub round_first : List ℕ
round_first = headers (replicate 4096 0) ((0x100, 0x14) ∷ (0x140, 0x10) ∷ (0x180, 0x0f) ∷ [])

unfoldable pub below_first : List ℕ
below_first = headers (replicate 4096 0) ((0x100, 0x14) ∷ (0x140, 0x0f) ∷ (0x180, 0x18) ∷ [])

abbrev pub FirstCounts : Type 0
FirstCounts = Tells Extended round_first 12 0x140 × Tells Extended below_first 11 0x140

pub first_counts : FirstCounts
unfolding round_first below_first headers met holder first follows extended_start extended_next
first_counts = (
  told_as_broken Extended round_first 12 0x140
      (turns 2 (reached_by_test (describe Extended) round_first 2 refl) (record { earlier = 0; before = lit≤ tt; same = refl }) refl refl),
  told_as_broken Extended below_first 11 0x140
      (falls 2 (reached_by_test (describe Extended) below_first 2 refl) (record { onward = eqb-false 0x0f0 0 refl; low = lit< tt }) refl refl),
)
