-- Document 02, 10/13: "a separate small checker decides". Which proposals it accepts, and what `check` promises. Assumes nothing.
use Rattle.std.specs.Prelude.{ℕ, ◌+◌, ◌%◌, ◌≤◌, ◌<◌, true, false, List, ◌≡◌, length, get_or, Result, ⊤}
use Rattle.answers.specs.Numbers.{answered}
use Rattle.answers.specs.declared.Refusal.{Refusal}
use Rattle.layout.specs.declared.Structure.{Structure}
use Rattle.layout.specs.Structures.{extent, structure_at, are_bad}

-- offset k of a proposal
abbrev pub offset_at : List ℕ → ℕ → ℕ
offset_at offsets k = get_or offsets k 0

-- where structure k ends: the first byte behind it
abbrev pub end_at : List Structure → List ℕ → ℕ → ℕ
end_at structures offsets k = offset_at offsets k + extent (structure_at structures k)

-- a byte of the space that structure k takes
pub record Takes (structures : List Structure) (offsets : List ℕ) (k place : ℕ) : Type 0 where
  pub from : offset_at offsets k ≤ place
  pub before : place < end_at structures offsets k

-- "It accepts exactly the proposals of"
pub record Acceptable (structures : List Structure) (offsets : List ℕ) : Type 0 where
  -- "one offset a structure"
  pub each : length offsets ≡ length structures
  -- "where the first is at 100h"
  pub first : offset_at offsets 0 ≡ 0x100
  -- "all are multiples of 4"
  pub aligned : (k : ℕ) → k < length offsets → offset_at offsets k % 4 ≡ 0
  -- "in the given order and rising"
  pub rising : (j k : ℕ) → j < k → k < length offsets → offset_at offsets j < offset_at offsets k
  -- "no two overlap": no byte is in two of them
  pub apart : (j k place : ℕ) → j < k → k < length offsets → Takes structures offsets j place → Takes structures offsets k place → ⊥
  -- "and all end by 1000h"
  pub inside : (k : ℕ) → k < length offsets → end_at structures offsets k ≤ 0x1000

-- "Every number but 0 leaves spaces [..] and list room unchanged": of a room or a space, as lent and afterwards
pub record Refuses (number : ℕ) (lent : List ℕ) (r : Result ⊤ Refusal) (after : List ℕ) : Type 0 where
  pub given : answered r ≡ number
  pub kept : after ≡ lent

-- the promise of `check`: 1 the structures, 18 a proposal that is not acceptable, 0 one that is
pub data Checks (structures : List Structure) (offsets : List ℕ) (r : Result ⊤ Refusal) : Type 0 where
  misdescribed : are_bad structures ≡ true → answered r ≡ 1 → Checks structures offsets r
  unaccepted : are_bad structures ≡ false → (Acceptable structures offsets → ⊥) → answered r ≡ 18 → Checks structures offsets r
  accepted : are_bad structures ≡ false → Acceptable structures offsets → answered r ≡ 0 → Checks structures offsets r
