-- What `lists::walk` promises of any list, space and room: document 01, "Three lists" and "Answer numbers", with document 02, 3/13. Assumes nothing.
use Rattle.std.specs.Prelude.{ℕ, ◌≤◌, List, ◌++◌, ◌≡◌, length, drop, Result, Ok, Err}
use Rattle.answers.specs.Numbers.{number_of}
use Rattle.lists.specs.declared.Kind.{Kind}
use Rattle.lists.specs.declared.Refused.{Refused}
use Rattle.lists.specs.Table.{describe}
use Rattle.lists.specs.Chain.{HasChain}
use Rattle.lists.specs.Breaks.{Breaks}

-- "Each is read from a lent space of 4,096 bytes."
abbrev pub WholeSpace : List ℕ → Type 0
WholeSpace s = length s ≡ 4096

-- the list room is not "under the list's maximum"
abbrev pub Roomy : Kind → List ℕ → Type 0
Roomy kind room = (describe kind).maximum ≤ length room

-- what a walk answers: the count of the headers read, or a refusal with a place
abbrev pub Walked : Type 0
Walked = Result ℕ Refused

-- document 01's number for the answer of a walk
abbrev pub number_given : Walked → ℕ
number_given (Ok count) = 0
number_given (Err refused) = number_of refused.refusal

-- the count that it reports
abbrev pub count_given : Walked → ℕ
count_given (Ok count) = count
count_given (Err refused) = 0

-- the place that it tells, or 0
abbrev pub place_given : Walked → ℕ
place_given (Ok count) = 0
place_given (Err refused) = refused.place

-- "Every number but 0 leaves … list room unchanged, and reports … count 0 … apart from a place … that it is said to tell"
pub record Refuses (number place : ℕ) (room : List ℕ) (r : Walked) (after : List ℕ) : Type 0 where
  pub given : number_given r ≡ number
  pub none : count_given r ≡ 0
  pub told : place_given r ≡ place
  pub kept : after ≡ room

-- "If one exists, the answer is 0, its offsets in order are in a lent list of 16-bit numbers, the rest of the list stays, and the count
-- of headers read is the chain's length"; there is no place to tell
pub record Lists (chain room : List ℕ) (r : Walked) (after : List ℕ) : Type 0 where
  pub given : number_given r ≡ 0
  pub counted : count_given r ≡ length chain
  pub whole : place_given r ≡ 0
  pub listed : after ≡ chain ++ drop (length chain) room

-- "the lowest applicable number is given": 1 the space, 2 the room, 11 or 12 what broke and where, 0 the legal chain
pub data Walks (kind : Kind) (s room : List ℕ) (r : Walked) (after : List ℕ) : Type 0 where
  misdescribed : (WholeSpace s → ⊥) → Refuses 1 0 room r after → Walks kind s room r after
  roomless : WholeSpace s → (Roomy kind room → ⊥) → Refuses 2 0 room r after → Walks kind s room r after
  broken : WholeSpace s → Roomy kind room → (number place : ℕ) → Breaks (describe kind) s number place → Refuses number place room r after
      → Walks kind s room r after
  listed : WholeSpace s → Roomy kind room → (chain : List ℕ) → HasChain (describe kind) s chain → Lists chain room r after
      → Walks kind s room r after
