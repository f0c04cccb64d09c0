-- Document 02, 3/13, "Say what broke": why a list breaks, and where. It takes the place of document 01's 7, "broken chain". Assumes nothing.
use Rattle.std.specs.Prelude.{ℕ, zero, suc, ◌≤◌, ◌<◌, List, ◌≡◌}
use Rattle.lists.specs.Table.{ListRule}
use Rattle.lists.specs.Chain.{first, follows}

-- the walk from the start, pointer by pointer: the first is the start, and each next one is that of the structure that the one before leads to
unfoldable pub met : ListRule → List ℕ → ℕ → ℕ
met list s zero = first list s
met list s (suc n) = follows list s (met list s n)

-- "the offset of the structure holding that pointer, or 0 where the start itself is at fault"
unfoldable pub holder : ListRule → List ℕ → ℕ → ℕ
holder list s zero = 0
holder list s (suc n) = met list s n

-- "a pointer below the floor": pointer 0 is none, it ends the list
pub record Below (list : ListRule) (s : List ℕ) (n : ℕ) : Type 0 where
  pub onward : met list s n ≡ 0 → ⊥
  pub low : met list s n < list.floor

-- "a pointer to an offset already in the chain": an earlier pointer led there
pub record Back (list : ListRule) (s : List ℕ) (n : ℕ) : Type 0 where
  pub earlier : ℕ
  pub before : earlier < n
  pub same : met list s n ≡ met list s earlier

-- a pointer that the walk goes on by: it does not end the list, it is not below the floor, and it leads to an offset that is not in the chain yet
pub record Passed (list : ListRule) (s : List ℕ) (n : ℕ) : Type 0 where
  pub onward : met list s n ≡ 0 → ⊥
  pub above : list.floor ≤ met list s n
  pub new : Back list s n → ⊥

-- "the first fault is the one told": the walk comes to a pointer, since it goes on by every one before
abbrev pub Reached : ListRule → List ℕ → ℕ → Type 0
Reached list s n = (k : ℕ) → k < n → Passed list s k

-- "11 for a pointer below the floor, 12 for a pointer to an offset already in the chain. Each tells the offset of the structure holding that
-- pointer": the list breaks, with this number and this place
pub data Breaks (list : ListRule) (s : List ℕ) (number place : ℕ) : Type 0 where
  falls : (n : ℕ) → Reached list s n → Below list s n → number ≡ 11 → place ≡ holder list s n → Breaks list s number place
  turns : (n : ℕ) → Reached list s n → Back list s n → number ≡ 12 → place ≡ holder list s n → Breaks list s number place
