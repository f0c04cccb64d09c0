-- The promise of the entry of this crate, over the merge of document 01 with document 02, 6/13. Assumes nothing.
use Rattle.std.specs.Prelude.{ℕ, List, ◌≡◌}
use Rattle.registers.specs.Merge.{merged}

-- the four bytes as they were lent, the rule bytes, the marks, the data bytes, the enables, and the four bytes as they are left
abbrev pub Merges : List ℕ → List ℕ → List ℕ → List ℕ → ℕ → List ℕ → Type 0
Merges old rules marks new enables after = after ≡ merged old rules marks new enables
