-- Routers in a row: a packet's way through them. For the theorems; no entry's promise rests on it. Assumes nothing.
use Rattle.std.specs.Prelude.{ℕ, List, [], ◌∷◌, ◌≡◌}
use Rattle.ports.specs.declared.Port.{Port}
use Rattle.router.specs.Routing.{leaves_by, route}

-- a router: its ports, and the size of the buffer that it is lent
pub record Router : Type 0 where
  pub ports : List Port
  pub size : ℕ

-- a packet leaves a router by some port, as another
abbrev pub Passes : Router → List ℕ → List ℕ → Type 0
Passes router p left = (place : ℕ) × (route router.ports p router.size ≡ leaves_by place left)

-- a packet goes through a row of routers, what leaves one into the next, and arrives as another
pub data Way : List Router → List ℕ → List ℕ → Type 0 where
  arrived : (p : List ℕ) → Way [] p p
  onward : (router : Router) (row : List Router) (p left end : List ℕ) → Passes router p left → Way row left end → Way (router ∷ row) p end

-- a packet goes through a row, and leaves every router as it is
pub data Unaltered : List Router → List ℕ → Type 0 where
  arrived : (p : List ℕ) → Unaltered [] p
  onward : (router : Router) (row : List Router) (p : List ℕ) → Passes router p p → Unaltered row p → Unaltered (router ∷ row) p
