-- Any router, and the lists that newcomers' routers let pass. For the theorems; no entry's promise rests on it. Assumes nothing.
use Rattle.std.specs.Prelude.{ℕ, ◌≤◌, ◌<◌, List, ◌≡◌, length, get_or}
use Rattle.ports.specs.declared.Port.{Port}
use Rattle.ports.specs.Noting.{no_port}
use Rattle.router.specs.Routing.{route}
use Rattle.router.specs.Promise.{Seen, shows}

-- any router: from the ports, the packet and the buffer to all that its caller sees
abbrev pub AnyRouter : Type 0
AnyRouter = List Port → List ℕ → List ℕ → Seen

-- it is right about this list, packet and buffer
abbrev pub RightAt : AnyRouter → List Port → List ℕ → List ℕ → Type 0
RightAt f ports p buffer = f ports p buffer ≡ shows (route ports p (length buffer)) buffer

-- two different places of a list, whose ports are in order
pub record TwoPlaces (ports : List Port) (i j : ℕ) : Type 0 where
  pub different : i ≡ j → ⊥
  pub inside : (i < length ports) × (j < length ports)
  pub ordered : ((get_or ports i no_port).secondary ≤ (get_or ports i no_port).subordinate) × ((get_or ports j no_port).secondary ≤ (get_or ports j no_port).subordinate)

-- one port's range has another's inside it; the two may stand in either order, among any others
pub record Contains (ports : List Port) (i j : ℕ) : Type 0 where
  pub two : TwoPlaces ports i j
  pub below : (get_or ports i no_port).secondary ≤ (get_or ports j no_port).secondary
  pub above : (get_or ports j no_port).subordinate ≤ (get_or ports i no_port).subordinate

-- one port's range ends with the bus that another's begins with
pub record ShareOneEnd (ports : List Port) (i j : ℕ) : Type 0 where
  pub two : TwoPlaces ports i j
  pub end : (get_or ports i no_port).subordinate ≡ (get_or ports j no_port).secondary
