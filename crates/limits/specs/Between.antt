-- A packet, something between, and the packet again: what would have to hold, and what comes between. Document 02, 12/13, asks for "the same state, with equal reply
-- sizes and nothing between". Assumes nothing.
use Rattle.std.specs.Prelude.{ℕ, ◌<◌, Bool, true, not, cond, List, [], ◌∷◌, ◌≡◌}
use Rattle.std.specs.Int.Bits.{bit_and, bit_or}
use Rattle.words.specs.Bytes.{byte, put}
use Rattle.packet.specs.declared.Target.TheVariants.{Type0}
use Rattle.packet.specs.Request.{is_trusted, request_of}
use Rattle.board.specs.Description.{Space, Board, with_bytes, WellDescribed}
use Rattle.board.specs.Serving.{serve}
use Rattle.runs.specs.Run.{Event, packet, reset, next}
use Rattle.retry.specs.Rows.{answered}
use Rattle.retry.specs.Writes.{Successful}

-- a board, a packet that succeeds there, and something that happens then: the kinds below are of these
abbrev pub Kind : Type 1
Kind = Board → List ℕ → Event → Type 0

-- "gives the same reply twice", though something is between
abbrev pub SameReplyAfter : Kind → Type 0
SameReplyAfter kind =
    (d : Board) (p : List ℕ) (size : ℕ) (event : Event) → WellDescribed d → Successful (answered (serve d p size)) → kind (serve d p size).after p event
    → answered (serve (next (serve d p size).after event) p size) ≡ answered (serve d p size)

-- "and leaves what one leaves": the repeat changes nothing of what then stands there
abbrev pub SameLeftAfter : Kind → Type 0
SameLeftAfter kind =
    (d : Board) (p : List ℕ) (size : ℕ) (event : Event) → WellDescribed d → Successful (answered (serve d p size)) → kind (serve d p size).after p event
    → (serve (next (serve d p size).after event) p size).after ≡ next (serve d p size).after event

-- ---- what is between

-- a packet for the trusted space, or an ordinary one
abbrev pub OfSpace : Bool → List ℕ → Type 0
OfSpace trusted p = is_trusted (request_of p).target ≡ trusted

-- a successful write
pub record SomeWrite (d : Board) (event : Event) (q : List ℕ) : Type 0 where
  pub size : ℕ
  pub is : event ≡ packet q size
  pub writes : (request_of q).writes ≡ true
  pub successful : Successful (answered (serve d q size))

-- to the same place, of the same type, bus, device and function; data and enables may be others. Between a write and its repeat, or a read and its
pub record WriteThere (trusted writes : Bool) (d : Board) (p : List ℕ) (event : Event) : Type 0 where
  pub space : OfSpace trusted p
  pub kind : (request_of p).writes ≡ writes
  pub other : List ℕ
  pub write : SomeWrite d event other
  pub target : (request_of other).target ≡ (request_of p).target
  pub bus : (request_of other).bus ≡ (request_of p).bus
  pub device : (request_of other).device ≡ (request_of p).device
  pub function : (request_of other).function ≡ (request_of p).function
  pub offset : (request_of other).offset ≡ (request_of p).offset

-- to the other space
pub record WriteOther (trusted : Bool) (d : Board) (p : List ℕ) (event : Event) : Type 0 where
  pub space : OfSpace trusted p
  pub other : List ℕ
  pub write : SomeWrite d event other
  pub other_space : OfSpace (not trusted) other

-- a reset
pub record Reset (trusted : Bool) (d : Board) (p : List ℕ) (event : Event) : Type 0 where
  pub space : OfSpace trusted p
  pub is : event ≡ reset

-- another's capture: a Type 0 write to another bus, or another device, and to another place
pub record OtherBus (trusted : Bool) (d : Board) (p : List ℕ) (event : Event) : Type 0 where
  pub space : OfSpace trusted p
  pub other : List ℕ
  pub write : SomeWrite d event other
  pub type0 : (request_of other).target ≡ Type0
  pub bus : (request_of other).bus ≡ (request_of p).bus → ⊥
  pub device : (request_of other).device ≡ (request_of p).device
  pub offset : (request_of other).offset ≡ (request_of p).offset → ⊥

pub record OtherDevice (trusted : Bool) (d : Board) (p : List ℕ) (event : Event) : Type 0 where
  pub space : OfSpace trusted p
  pub other : List ℕ
  pub write : SomeWrite d event other
  pub type0 : (request_of other).target ≡ Type0
  pub bus : (request_of other).bus ≡ (request_of p).bus
  pub device : (request_of other).device ≡ (request_of p).device → ⊥
  pub offset : (request_of other).offset ≡ (request_of p).offset → ⊥

-- ---- another reply size

abbrev pub SameWithSizes : Type 0
SameWithSizes =
    (d : Board) (p : List ℕ) (m n : ℕ) → WellDescribed d → Successful (answered (serve d p m)) → answered (serve (serve d p m).after p n) ≡ answered (serve d p m)

-- ---- bits that the board itself sets

-- The documents have no event for it: 02, 6/13, says how error status bits are cleared, and not how they come to be set. Here marked bits of one byte of a space are set,
-- by no packet: the byte's place, and which of its bits
abbrev pub set_in : Space → ℕ → ℕ → Space
set_in s at bits = with_bytes s (put s.bytes at (bit_or (byte s.bytes at) (bit_and bits (byte s.marks at)) ∷ []))

abbrev pub set_anew : Bool → Board → ℕ → ℕ → Board
set_anew trusted d at bits =
    record {
      description = d.description;
      capture = d.capture;
      ordinary = cond trusted d.ordinary (set_in d.ordinary at bits);
      trusted = cond trusted (set_in d.trusted at bits) d.trusted;
    }

-- a repeat leaves them
abbrev pub SameLeftAnew : Bool → Type 0
SameLeftAnew trusted =
    (d : Board) (p : List ℕ) (size at bits : ℕ) → WellDescribed d → OfSpace trusted p → Successful (answered (serve d p size)) → at < 4096
    → (serve (set_anew trusted (serve d p size).after at bits) p size).after ≡ set_anew trusted (serve d p size).after at bits
