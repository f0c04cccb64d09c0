-- Document 01, "Three lists": what a legal chain is, for any list that is described. Assumes nothing.
use Rattle.std.specs.Prelude.{ℕ, ◌*◌, ◌/◌, ◌≤◌, List, [], ◌∷◌, ◌≡◌}
use Rattle.lists.specs.Table.{ListRule}

-- "The bottom two bits of every pointer are dropped first."
abbrev pub dropped : ℕ → ℕ
dropped pointer = 4 * (pointer / 4)

-- "the first the start"
unfoldable pub first : ListRule → List ℕ → ℕ
first list s = dropped (list.start s)

-- "each next the one its predecessor points to"
unfoldable pub follows : ListRule → List ℕ → ℕ → ℕ
follows list s at = dropped (list.next s at)

-- "A legal chain is a finite list of offsets, the first the start, each next the one its predecessor points to, none below the floor,
-- the last pointing to 0. With start 0 the chain is empty": from a pointer, the chain that is legal
pub data Legal (list : ListRule) (s : List ℕ) : ℕ → List ℕ → Type 0 where
  ends : {pointer : ℕ} {chain : List ℕ} → pointer ≡ 0 → chain ≡ [] → Legal list s pointer chain
  goes : {pointer : ℕ} {chain rest : List ℕ} → (pointer ≡ 0 → ⊥) → list.floor ≤ pointer → Legal list s (follows list s pointer) rest
      → chain ≡ pointer ∷ rest → Legal list s pointer chain

-- the list of a space has this chain
abbrev pub HasChain : ListRule → List ℕ → List ℕ → Type 0
HasChain list s chain = Legal list s (first list s) chain

-- "If none exists"
abbrev pub NoChain : ListRule → List ℕ → Type 0
NoChain list s = (chain : List ℕ) → HasChain list s chain → ⊥
