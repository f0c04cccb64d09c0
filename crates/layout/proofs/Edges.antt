-- EXAMPLES, computed from the definitions: 960 structures of 4 bytes fill the space exactly, and one byte more is 14; a single structure of 3,840 bytes; what a length rounds up
-- to; each cause of 1 at its edge. What is said of answers is said of every planner that meets the promise. Assumes nothing.
use Prim.Native.Nat.{ℕ, ◌≤◌, ◌<◌}
use mathlib.Core.Bool.{true, false}
use mathlib.Core.List.{List, [], ◌∷◌, ◌++◌}
use mathlib.Core.Path.{◌≡◌, refl, ap}
use native.Mathlib.Omega.{arith}
use lib.Dec.{lit<, lit≤}
use lib.ListN.{length, replicate}
use Rattle.std.specs.Prelude.{⊤, Result}
use Rattle.answers.specs.Numbers.{answered}
use Rattle.answers.specs.declared.Refusal.{Refusal}
use Rattle.layout.specs.declared.Structure.{Structure}
use Rattle.layout.specs.Structures.{is_bad, are_bad}
use Rattle.layout.specs.Accepting.{offset_at}
use Rattle.layout.specs.Proposing.{rounded_up, needed, Lowest, Plans}
use Rattle.layout.specs.Inner.{fits_from, packed_from}
use Rattle.layout.proofs.Numbers.{Described, plan_number}
use Rattle.layout.proofs.Packing.{packed_is_lowest}
use Rattle.layout.proofs.Sound.{given, bad_exactly}
use Rattle.layout.proofs.Unique.{unlike, lowest_unique}

-- a structure of so many bytes
abbrev pub of : ℕ → Structure
of n = record { id = 0x000b; version = 1; length = n }

-- so many of 4 bytes, and a last one
unfoldable pub full_with : ℕ → ℕ → List Structure
full_with n last = replicate n (of 4) ++ of last ∷ []

-- what every planner answers, with room enough
abbrev pub Answers : List Structure → ℕ → Type 0
Answers structures number =
    (room : List ℕ) (r : Result ⊤ Refusal) (after : List ℕ) → length structures ≤ length room → Plans structures room r after → answered r ≡ number

described : (structures : List Structure) → are_bad structures ≡ false → Described structures
described structures good cause = unlike ((bad_exactly structures).1 cause) good

fits : (structures : List Structure) → are_bad structures ≡ false → needed structures ≤ 3840 → Answers structures 0
fits structures good h room r after roomy p = (plan_number structures room r after p).zero.1 (described structures good, roomy, h)

exceeds : (structures : List Structure) → are_bad structures ≡ false → 3840 < needed structures → Answers structures 14
exceeds structures good h room r after roomy p = (plan_number structures room r after p).exceeds.1 (described structures good, roomy, h)

-- "960 structures of 4 bytes fill the space exactly": the last stands at FFCh, and every proposal that lies lowest says so
pub full_fits : Answers (full_with 959 4) 0
unfolding full_with are_bad is_bad
full_fits = fits (full_with 959 4) refl (lit≤ tt)

pub full_last : (offsets : List ℕ) → Lowest (full_with 959 4) offsets → offset_at offsets 959 ≡ 0xffc
unfolding full_with are_bad is_bad fits_from packed_from
full_last offsets low = ap (λ (l : List ℕ). offset_at l 959) (lowest_unique low (packed_is_lowest (given (full_with 959 4) refl) refl))

-- "and one more byte is 14", in the last one or in the first; one more structure is 1
pub one_byte_more : Answers (full_with 959 5) 14
unfolding full_with are_bad is_bad
one_byte_more = exceeds (full_with 959 5) refl (lit< tt)

pub one_byte_first : Answers (of 5 ∷ full_with 958 4) 14
unfolding full_with are_bad is_bad
one_byte_first = exceeds (of 5 ∷ full_with 958 4) refl (lit< tt)

pub one_structure_more : Answers (full_with 960 4) 1
unfolding full_with are_bad
one_structure_more room r after roomy p = (plan_number (full_with 960 4) room r after p).one.1 ((bad_exactly (full_with 960 4)).0 refl)

-- "a single structure of 3,840", and behind one of four bytes there are 3,836
pub longest_fits : Answers (of 3840 ∷ []) 0
unfolding are_bad is_bad
longest_fits = fits (of 3840 ∷ []) refl (lit≤ tt)

pub behind_four : Answers (of 4 ∷ of 3836 ∷ []) 0 × Answers (of 4 ∷ of 3837 ∷ []) 14
unfolding are_bad is_bad
behind_four = (fits (of 4 ∷ of 3836 ∷ []) refl (lit≤ tt), exceeds (of 4 ∷ of 3837 ∷ []) refl (lit< tt))

-- 4 stays 4, and 5 to 8 round to the same: behind each of these there are as many bytes (for any structures: proofs/Packing: same_rounded)
pub rounds : (rounded_up 4 ≡ 4) × (rounded_up 5 ≡ 8) × (rounded_up 6 ≡ 8) × (rounded_up 7 ≡ 8) × (rounded_up 8 ≡ 8)
rounds = (refl, refl, refl, refl, refl)

-- behind a first one of so many bytes a last one of 3,832 fits, and one of 3,833 does not
abbrev pub LeavesAsEight : ℕ → Type 0
LeavesAsEight n = Answers (of n ∷ of 3832 ∷ []) 0 × Answers (of n ∷ of 3833 ∷ []) 14

leaves_as_eight : (n : ℕ) → are_bad (of n ∷ of 3832 ∷ []) ≡ false → are_bad (of n ∷ of 3833 ∷ []) ≡ false → rounded_up n ≡ 8 → LeavesAsEight n
leaves_as_eight n good fine e =
    (fits (of n ∷ of 3832 ∷ []) good (omega arith), exceeds (of n ∷ of 3833 ∷ []) fine (omega arith))

pub behind_five_to_eight : LeavesAsEight 5 × LeavesAsEight 6 × LeavesAsEight 7 × LeavesAsEight 8
unfolding are_bad is_bad
behind_five_to_eight =
    (leaves_as_eight 5 refl refl refl, leaves_as_eight 6 refl refl refl, leaves_as_eight 7 refl refl refl, leaves_as_eight 8 refl refl refl)

-- each cause of 1 at its edge
pub bad_edges :
    (is_bad (record { id = 0x0000; version = 1; length = 4 }) ≡ true) × (is_bad (record { id = 0x0001; version = 15; length = 4 }) ≡ false)
    × (is_bad (record { id = 0xffff; version = 16; length = 4 }) ≡ true) × (is_bad (of 3) ≡ true) × (is_bad (of 3841) ≡ true) × (are_bad [] ≡ true)
unfolding are_bad is_bad
bad_edges = (refl, refl, refl, refl, refl, refl)
