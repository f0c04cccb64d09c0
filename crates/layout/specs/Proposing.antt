-- Document 02, 10/13: "a planner proposes offsets". Which proposal it is, when there is none, and what `plan` promises. Assumes nothing.
use Rattle.std.specs.Prelude.{ℕ, ◌+◌, ◌*◌, ◌/◌, ◌≤◌, ◌<◌, true, false, List, [], ◌∷◌, ◌++◌, ◌≡◌, length, drop, Result, ⊤}
use Rattle.answers.specs.Numbers.{answered}
use Rattle.answers.specs.declared.Refusal.{Refusal}
use Rattle.layout.specs.declared.Structure.{Structure}
use Rattle.layout.specs.Structures.{extent, are_bad}
use Rattle.layout.specs.Accepting.{offset_at, Acceptable, Refuses}

-- "no such proposal exists"
abbrev pub NoneAcceptable : List Structure → Type 0
NoneAcceptable structures = (offsets : List ℕ) → Acceptable structures offsets → ⊥

-- "rounded up to 4"
abbrev pub rounded_up : ℕ → ℕ
rounded_up n = 4 * ((n + 3) / 4)

-- "the lengths before the last, each rounded up to 4, plus the last as it stands": of a first structure and those behind it
abbrev pub needed_by : Structure → List Structure → ℕ
needed_by structure [] = extent structure
needed_by structure (behind ∷ rest) = rounded_up (extent structure) + needed_by behind rest

abbrev pub needed : List Structure → ℕ
needed [] = 0
needed (structure ∷ rest) = needed_by structure rest

-- which one is proposed, the request leaves open (DECISIONS 84): the lowest. It is acceptable, and every acceptable one lies, offset by offset, at or above it
pub record Lowest (structures : List Structure) (offsets : List ℕ) : Type 0 where
  pub acceptable : Acceptable structures offsets
  pub lowest : (others : List ℕ) → Acceptable structures others → (k : ℕ) → k < length structures → offset_at offsets k ≤ offset_at others k

-- the promise of `plan`: 1 the structures, 2 "offset room below the count", 14 "exactly if no such proposal exists", 0 a proposal, with the rest of the room as it was
pub data Plans (structures : List Structure) (room : List ℕ) (r : Result ⊤ Refusal) (after : List ℕ) : Type 0 where
  misdescribed : are_bad structures ≡ true → Refuses 1 room r after → Plans structures room r after
  roomless : are_bad structures ≡ false → length room < length structures → Refuses 2 room r after → Plans structures room r after
  unplaced : are_bad structures ≡ false → length structures ≤ length room → NoneAcceptable structures → Refuses 14 room r after
      → Plans structures room r after
  proposed : are_bad structures ≡ false → length structures ≤ length room → (offsets : List ℕ) → Lowest structures offsets → answered r ≡ 0
      → after ≡ offsets ++ drop (length offsets) room → Plans structures room r after
