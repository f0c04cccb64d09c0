-- What the exported walks promise: `lists::walk`'s promise, with the number, the place and the count in the place of the result. Assumes nothing.
use Rattle.std.specs.Prelude.{ℕ, List, ◌≡◌}
use Rattle.lists.specs.declared.Kind.{Kind}
use Rattle.lists.specs.Walks.{Walked, Walks, number_given, count_given, place_given}
use Rattle.thawribbon.specs.declared.HostWalked.{HostWalked}

-- the answer of a walk, as a host is told it
abbrev pub told_walk : Walked → HostWalked
told_walk walked = record { count = count_given walked; number = number_given walked; place = place_given walked }

-- the list, the space and the room as lent, the result, and the room afterwards: what is told is an answer that `Walks` allows
pub record HostWalks (kind : Kind) (s room : List ℕ) (r : HostWalked) (after : List ℕ) : Type 0 where
  pub answer : Walked
  pub walks : Walks kind s room answer after
  pub told : r ≡ told_walk answer
