-- What the inner functions of this crate ask of each other; no entry's promise rests on it. Assumes nothing.
use Rattle.std.specs.Prelude.{ℕ, ◌≤◌, List, ◌≡◌, Some, length}
use Rattle.packet.specs.declared.Access.{Access}
use Rattle.packet.specs.Request.{typed}

-- what the checks 3 and 4 leave: a whole header, of a known type
pub record KnownHeader (p : List ℕ) (access : Access) : Type 0 where
  pub long : 12 ≤ length p
  pub known : typed p ≡ Some access
