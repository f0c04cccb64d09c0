-- Document 02, 6/13, "Bits cleared by writing one": faults of a server, for any server at all, and in either space. Assumes nothing.
use Rattle.std.specs.Prelude.{ℕ, ◌+◌, ◌<◌, Bool, true, false, cond, List, ◌≡◌, length}
use Rattle.words.specs.Bytes.{byte, four}
use Rattle.words.specs.Fields.{bit}
use Rattle.registers.specs.Merge.{enabled}
use Rattle.packet.specs.Fields.{data_of}
use Rattle.packet.specs.Request.{is_trusted, request_of}
use Rattle.board.specs.Description.{Space, Board}
use Rattle.board.specs.Access.{unsupported}
use Rattle.board.specs.Promise.{Seen}
use Rattle.runs.specs.Servers.{Server}

-- the trusted space or the ordinary one, and its bytes as a server leaves them
abbrev pub space_for : Bool → Board → Space
space_for trusted d = cond trusted d.trusted d.ordinary

abbrev pub left_in : Bool → Seen → List ℕ
left_in trusted x = cond trusted x.trusted x.ordinary

-- a request that succeeds, for the trusted space or away from A for the ordinary one: whether it writes
pub record Succeeds (trusted : Bool) (d : Board) (p : List ℕ) (writes : Bool) : Type 0 where
  pub kind : (request_of p).writes ≡ writes
  pub target : is_trusted (request_of p).target ≡ trusted
  pub supported : unsupported d.description d.capture (request_of p) ≡ false
  pub away : trusted ≡ false → (request_of p).offset ≡ d.description.a → ⊥

-- bit j of byte k at the place that is asked for, of any buffer
abbrev pub asked : List ℕ → List ℕ → ℕ → ℕ → ℕ
asked p buffer k j = bit j (byte buffer ((request_of p).offset + k))

-- such a bit has a mark
abbrev pub Marked : Bool → Board → List ℕ → ℕ → ℕ → Type 0
Marked trusted d p k j = (k < 4) × (j < 8) × (asked p (space_for trusted d).marks k j ≡ 1)

-- ---- what it leaves of the space that is asked for

-- it clears where a byte is not enabled
abbrev pub ClearsDisabled : Bool → Server → Type 0
ClearsDisabled trusted server =
    (d : Board) (p reply : List ℕ) → Succeeds trusted d p true → (server d p reply).number ≡ 0
    → (k j : ℕ) → Marked trusted d p k j → bit j (byte (data_of p) k) ≡ 1 → enabled k (request_of p).enables ≡ false
    → asked p (left_in trusted (server d p reply)) k j ≡ 0

-- it clears on a read
abbrev pub ClearsOnRead : Bool → Server → Type 0
ClearsOnRead trusted server =
    (d : Board) (p reply : List ℕ) → Succeeds trusted d p false → (server d p reply).number ≡ 0
    → (k j : ℕ) → Marked trusted d p k j → asked p (left_in trusted (server d p reply)) k j ≡ 0

-- it takes a marked bit as writable
abbrev pub TakesMarked : Bool → Server → Type 0
TakesMarked trusted server =
    (d : Board) (p reply : List ℕ) → Succeeds trusted d p true → (server d p reply).number ≡ 0
    → (k j : ℕ) → Marked trusted d p k j → enabled k (request_of p).enables ≡ true
    → asked p (left_in trusted (server d p reply)) k j ≡ bit j (byte (data_of p) k)

-- it keeps a marked bit, as if there were no marks
abbrev pub KeepsMarked : Bool → Server → Type 0
KeepsMarked trusted server =
    (d : Board) (p reply : List ℕ) → Succeeds trusted d p true → (server d p reply).number ≡ 0
    → (k j : ℕ) → Marked trusted d p k j
    → asked p (left_in trusted (server d p reply)) k j ≡ asked p (space_for trusted d).bytes k j

-- ---- what an ordinary write at A leaves

-- such a write that succeeds
pub record AtA (d : Board) (p : List ℕ) : Type 0 where
  pub kind : (request_of p).writes ≡ true
  pub target : is_trusted (request_of p).target ≡ false
  pub supported : unsupported d.description d.capture (request_of p) ≡ false
  pub place : (request_of p).offset ≡ d.description.a

-- it clears the marked bits of a buffer at an offset, where the enabled data bit is 1: the marks there, and the bytes that are left
abbrev pub Cleared : List ℕ → List ℕ → ℕ → List ℕ → Type 0
Cleared p marks at left =
    (k j : ℕ) → k < 4 → j < 8 → bit j (byte marks (at + k)) ≡ 1 → bit j (byte (data_of p) k) ≡ 1 → enabled k (request_of p).enables ≡ true
    → bit j (byte left (at + k)) ≡ 0

-- it clears at A, in the ordinary space
abbrev pub ClearsAtA : Server → Type 0
ClearsAtA server =
    (d : Board) (p reply : List ℕ) → AtA d p → (server d p reply).number ≡ 0
    → Cleared p d.ordinary.marks d.description.a (server d p reply).ordinary

-- it clears through A, in the trusted word at B, which is what A shows
abbrev pub ClearsThroughA : Server → Type 0
ClearsThroughA server =
    (d : Board) (p reply : List ℕ) → AtA d p → (server d p reply).number ≡ 0
    → Cleared p d.trusted.marks d.description.b (server d p reply).trusted

-- ---- what it looks at

-- a board with other marks of both spaces
abbrev pub with_marks : Space → List ℕ → Space
with_marks s marks = record { bytes = s.bytes; rules = s.rules; marks = marks }

abbrev pub remarked : Board → List ℕ → List ℕ → Board
remarked d ordinary trusted =
    record {
      description = d.description;
      capture = d.capture;
      ordinary = with_marks d.ordinary ordinary;
      trusted = with_marks d.trusted trusted;
    }

-- it tests the overlap at the word accessed only: other marks, as many, make no difference to its number where they are the same there
abbrev pub LooksThere : Server → Type 0
LooksThere server =
    (d : Board) (ordinary trusted p reply : List ℕ) → length ordinary ≡ length d.ordinary.marks → length trusted ≡ length d.trusted.marks
    → four ordinary (request_of p).offset ≡ four d.ordinary.marks (request_of p).offset
    → four trusted (request_of p).offset ≡ four d.trusted.marks (request_of p).offset
    → (server (remarked d ordinary trusted) p reply).number ≡ (server d p reply).number

-- in one space only: other trusted marks, as many, make no difference, or other ordinary ones
abbrev pub LooksAtOrdinary : Server → Type 0
LooksAtOrdinary server =
    (d : Board) (trusted p reply : List ℕ) → length trusted ≡ length d.trusted.marks
    → (server (remarked d d.ordinary.marks trusted) p reply).number ≡ (server d p reply).number

abbrev pub LooksAtTrusted : Server → Type 0
LooksAtTrusted server =
    (d : Board) (ordinary p reply : List ℕ) → length ordinary ≡ length d.ordinary.marks
    → (server (remarked d ordinary d.trusted.marks) p reply).number ≡ (server d p reply).number
