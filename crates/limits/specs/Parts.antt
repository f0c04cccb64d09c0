-- Two successful writes that are swapped or joined: with one thing less in common than document 02, 12/13, asks. Assumes nothing.
use Rattle.std.specs.Prelude.{ℕ, ◌≤◌, true, false, cond, List, ◌≡◌, eqb, length}
use Rattle.words.specs.Bytes.{byte}
use Rattle.packet.specs.declared.Status.TheVariants.{Unsupported}
use Rattle.packet.specs.Completion.{status_byte}
use Rattle.packet.specs.Fields.{data_of}
use Rattle.packet.specs.Request.{request_of}
use Rattle.board.specs.Description.{Board, WellDescribed}
use Rattle.board.specs.Serving.{serve}
use Rattle.pair.specs.Pair.{Pair, WellPaired}
use Rattle.pair.specs.Serving.{serve_pair}
use Rattle.runs.specs.Run.{packet}
use Rattle.retry.specs.Rows.{Answer, answered, pair_answer_to}
use Rattle.retry.specs.Writes.{SameWrite, Successful, BothEnables, board_fits, pair_fits}

-- "of the same type, bus, device, function, offset and data"
pub data Part : Type 0 where
  type : Part
  bus : Part
  device : Part
  function : Part
  offset : Part
  «data» : Part

abbrev pub place : Part → ℕ
place type = 0
place bus = 1
place device = 2
place function = 3
place offset = 4
place «data» = 5

-- what is asked of a part, where it is not the one that is free
abbrev pub unless : Part → Part → Type 0 → Type 0
unless free part same = cond (eqb (place free) (place part)) (Unit {0}) same

-- two writes with all of these in common but one
pub record SameBut (free : Part) (p q : List ℕ) : Type 0 where
  pub writes : ((request_of p).writes ≡ true) × ((request_of q).writes ≡ true)
  pub same_type : unless free type ((request_of p).target ≡ (request_of q).target)
  pub same_bus : unless free bus ((request_of p).bus ≡ (request_of q).bus)
  pub same_device : unless free device ((request_of p).device ≡ (request_of q).device)
  pub same_function : unless free function ((request_of p).function ≡ (request_of q).function)
  pub same_offset : unless free offset ((request_of p).offset ≡ (request_of q).offset)
  pub same_data : unless free «data» (data_of p ≡ data_of q)

-- "may be swapped": what both orders leave
abbrev pub SwapsBut : Part → Type 0
SwapsBut free =
    (d : Board) (p q : List ℕ) (m n : ℕ) → WellDescribed d → SameBut free p q
    → Successful (answered (serve d p m)) → Successful (answered (serve (serve d p m).after q n))
    → (serve (serve d q n).after p m).after ≡ (serve (serve d p m).after q n).after

-- "and leave what one write with both sets of enables leaves": one of the first's type, bus, device, function, offset and data. (Where only the bus or the device differs,
-- one of the second's leaves what both leave.)
abbrev pub JoinsBut : Part → Type 0
JoinsBut free =
    (d : Board) (p q r : List ℕ) (m n k : ℕ) → WellDescribed d → SameBut free p q → BothEnables p q r → board_fits d r k
    → Successful (answered (serve d p m)) → Successful (answered (serve (serve d p m).after q n))
    → (serve d r k).after ≡ (serve (serve d p m).after q n).after

-- of a board of two functions: on a board of one, two writes that succeed have its function both
abbrev pub PairJoinsBut : Part → Type 0
PairJoinsBut free =
    (pair : Pair) (p q r : List ℕ) (m n k : ℕ) → WellPaired pair → SameBut free p q → BothEnables p q r → pair_fits pair r k
    → Successful (pair_answer_to pair (packet p m)) → Successful (pair_answer_to (serve_pair pair p m).after (packet q n))
    → (serve_pair pair r k).after ≡ (serve_pair (serve_pair pair p m).after q n).after

-- "two successful writes": where the second is answered UR instead. It is then answered the same, whichever came first (what both leave is the same in either order)
abbrev pub Unsuccessful : Answer → Type 0
Unsuccessful a = (a.number ≡ 0) × (12 ≤ length a.written) × (byte a.written 6 ≡ status_byte Unsupported)

abbrev pub SwapsThough : Type 0
SwapsThough =
    (d : Board) (p q : List ℕ) (m n : ℕ) → WellDescribed d → SameWrite p q
    → Successful (answered (serve d p m)) → Unsuccessful (answered (serve (serve d p m).after q n))
    → answered (serve d q n) ≡ answered (serve (serve d p m).after q n)

abbrev pub JoinsThough : Type 0
JoinsThough =
    (d : Board) (p q r : List ℕ) (m n k : ℕ) → WellDescribed d → SameWrite p q → BothEnables p q r → board_fits d r k
    → Successful (answered (serve d p m)) → Unsuccessful (answered (serve (serve d p m).after q n))
    → (serve d r k).after ≡ (serve (serve d p m).after q n).after

-- a read of the word between the two: it is answered the same, whichever came first; and as it would be after both together
pub record ReadThere (p x : List ℕ) : Type 0 where
  pub reads : (request_of x).writes ≡ false
  pub target : (request_of x).target ≡ (request_of p).target
  pub bus : (request_of x).bus ≡ (request_of p).bus
  pub device : (request_of x).device ≡ (request_of p).device
  pub function : (request_of x).function ≡ (request_of p).function
  pub offset : (request_of x).offset ≡ (request_of p).offset

abbrev pub SameReadBetween : Type 0
SameReadBetween =
    (d : Board) (p q x : List ℕ) (m n k : ℕ) → WellDescribed d → SameWrite p q → ReadThere p x
    → Successful (answered (serve d p m)) → Successful (answered (serve (serve d p m).after q n))
    → answered (serve (serve d q n).after x k) ≡ answered (serve (serve d p m).after x k)

abbrev pub SameReadJoined : Type 0
SameReadJoined =
    (d : Board) (p q r x : List ℕ) (m n k l : ℕ) → WellDescribed d → SameWrite p q → ReadThere p x → BothEnables p q r → board_fits d r l
    → Successful (answered (serve d p m)) → Successful (answered (serve (serve d p m).after q n))
    → answered (serve (serve d r l).after x k) ≡ answered (serve (serve d p m).after x k)
