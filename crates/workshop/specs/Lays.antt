-- What the exported functions for a new board promise: the promises of `layout`, with a host's numbers in the place of enums. Assumes nothing.
use Rattle.std.specs.Prelude.{ℕ, List, ◌≡◌, Result, ⊤}
use Rattle.answers.specs.Numbers.{answered}
use Rattle.answers.specs.declared.Refusal.{Refusal}
use Rattle.layout.specs.declared.Structure.{Structure}
use Rattle.layout.specs.Accepting.{Checks}
use Rattle.layout.specs.Proposing.{Plans}
use Rattle.layout.specs.Laying.{Writes}

-- the structures, the room as lent, the number that comes back, and the room afterwards: what is told is an answer that `Plans` allows
pub record HostPlans (structures : List Structure) (room : List ℕ) (r : ℕ) (after : List ℕ) : Type 0 where
  pub answer : Result ⊤ Refusal
  pub plans : Plans structures room answer after
  pub told : r ≡ answered answer

-- the structures, the offsets and the number: what is told is an answer that `Checks` allows
pub record HostChecks (structures : List Structure) (offsets : List ℕ) (r : ℕ) : Type 0 where
  pub answer : Result ⊤ Refusal
  pub checks : Checks structures offsets answer
  pub told : r ≡ answered answer

-- the structures, the offsets, the space as lent, the number, and the space afterwards: what is told is an answer that `Writes` allows
pub record HostWrites (structures : List Structure) (offsets s : List ℕ) (r : ℕ) (after : List ℕ) : Type 0 where
  pub answer : Result ⊤ Refusal
  pub writes : Writes structures offsets s answer after
  pub told : r ≡ answered answer
