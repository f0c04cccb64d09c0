-- Document 01, "Tried against them, and refused": what each of the wrong servers does, for any server at all, and the newcomers' traps that
-- concern packets. A server here is what a caller sees of it. Assumes nothing.
use Rattle.std.specs.Prelude.{ℕ, ◌≤◌, Bool, true, false, List, [], ◌∷◌, ◌≡◌, length, take, drop, replicate}
use Rattle.words.specs.Bytes.{byte, four}
use Rattle.registers.specs.Shown.{shown}
use Rattle.packet.specs.declared.Target.{Target}
use Rattle.packet.specs.declared.Target.TheVariants.{Type0, Trusted}
use Rattle.packet.specs.declared.Status.TheVariants.{Unsupported}
use Rattle.packet.specs.Request.{request_of}
use Rattle.packet.specs.Completion.{status_byte}
use Rattle.capture.specs.declared.Capture.TheVariants.{Nothing, Number}
use Rattle.board.specs.Description.{Board}
use Rattle.board.specs.Serving.{serve}
use Rattle.board.specs.Promise.{Seen, after_call, shows}
use Rattle.runs.specs.Bench.{changed}

-- any server: the board, the packet and the reply as lent, and what is seen afterwards
abbrev pub Server : Type 0
Server = Board → List ℕ → List ℕ → Seen

-- what the promise of `Board::serve` wants seen
abbrev pub promised : Server
promised d p reply = shows (serve d p (length reply)) reply

-- a server is right about a packet, with a reply of 16 bytes
abbrev pub untouched : List ℕ
untouched = replicate 16 0xee

abbrev pub RightAt : Server → Board → List ℕ → Type 0
RightAt server d p = server d p untouched ≡ promised d p untouched

-- the bytes of the reply that it says it wrote
abbrev pub completion : Seen → List ℕ
completion x = take x.count x.reply

-- ---- the wrong servers

-- "a server that answers UR to everything": each completion has status 20h
abbrev pub AnswersUR : Server → Type 0
AnswersUR server =
    (d : Board) (p reply : List ℕ) → (server d p reply).number ≡ 0 → byte (completion (server d p reply)) 6 ≡ status_byte Unsupported

-- "one fixed completion"
abbrev pub Always : List ℕ → Server → Type 0
Always fixed server = (d : Board) (p reply : List ℕ) → (server d p reply).number ≡ 0 → completion (server d p reply) ≡ fixed

-- "a server that replies and stores nothing": it leaves the ordinary bytes as they are; it leaves the trusted bytes as they are
abbrev pub LeavesOrdinary : Server → Type 0
LeavesOrdinary server = (d : Board) (p reply : List ℕ) → (server d p reply).ordinary ≡ d.ordinary.bytes

abbrev pub LeavesTrusted : Server → Type 0
LeavesTrusted server = (d : Board) (p reply : List ℕ) → (server d p reply).trusted ≡ d.trusted.bytes

-- a server with a memory of its own, of any kind: how it answers with it, and what it remembers of a packet
pub record Remembering : Type 1 where
  pub Memory : Type 0
  pub start : Memory
  pub answers : Memory → Server
  pub remembers : Memory → Board → List ℕ → List ℕ → Memory

-- "one that serves the first packet and afterwards only replies": once it has served a packet, it leaves the ordinary bytes as they are
abbrev pub StoresOnce : Remembering → Type 0
StoresOnce m =
    (d : Board) (p reply : List ℕ) → (m.answers m.start d p reply).number ≡ 0 → LeavesOrdinary (m.answers (m.remembers m.start d p reply))

-- what the caller holds after a packet, and what is seen over a sequence of packets: of such a server, and as promised
abbrev pub board_after : Board → Seen → Board
board_after d x = after_call d x.capture x.ordinary x.trusted

abbrev pub seen_over : (m : Remembering) → m.Memory → Board → List (List ℕ) → List Seen
seen_over m memory d [] = []
seen_over m memory d (p ∷ ps) =
    let x = m.answers memory d p untouched in
    x ∷ seen_over m (m.remembers memory d p untouched) (board_after d x) ps

abbrev pub promised_over : Board → List (List ℕ) → List Seen
promised_over d [] = []
promised_over d (p ∷ ps) = let x = promised d p untouched in x ∷ promised_over (board_after d x) ps

-- ---- the traps

-- a write, poisoned or not, for the board's own function
pub record OwnWrite (d : Board) (p : List ℕ) (target : Target) (poisoned : Bool) : Type 0 where
  pub writes : (request_of p).writes ≡ true
  pub own : (request_of p).function ≡ d.description.function
  pub for : (request_of p).target ≡ target
  pub poison : (request_of p).poisoned ≡ poisoned

-- "Capturing from a trusted write": while nothing is captured, since one that succeeds names what is captured
abbrev pub CapturesTrusted : Server → Type 0
CapturesTrusted server =
    (d : Board) (p reply : List ℕ) → OwnWrite d p Trusted false → d.capture ≡ Nothing → (server d p reply).number ≡ 0
    → (server d p reply).capture ≡ Number (request_of p).bus (request_of p).device

-- ".. or from a poisoned one"
abbrev pub CapturesPoisoned : Server → Type 0
CapturesPoisoned server =
    (d : Board) (p reply : List ℕ) → OwnWrite d p Type0 true → (server d p reply).number ≡ 0
    → (server d p reply).capture ≡ Number (request_of p).bus (request_of p).device

-- "Dropping the extended register bits, so that 104h and 004h meet.": byte 10 makes no difference
abbrev pub DropsRegisterBits : Server → Type 0
DropsRegisterBits server = (d : Board) (p reply : List ℕ) → 12 ≤ length p → server d p reply ≡ server d (changed p 10 0x00) reply

-- a read of the word at A, for the board's own function
pub record ReadAtA (d : Board) (p : List ℕ) : Type 0 where
  pub reads : (request_of p).writes ≡ false
  pub own : (request_of p).function ≡ d.description.function
  pub ordinary : (request_of p).target ≡ Type0
  pub at_a : (request_of p).offset ≡ d.description.a

-- "Letting an ordinary read at A show the stale ordinary bytes."
abbrev pub ShowsStale : Server → Type 0
ShowsStale server =
    (d : Board) (p reply : List ℕ) → ReadAtA d p → (server d p reply).number ≡ 0
    → drop 12 (completion (server d p reply)) ≡ shown (four d.ordinary.bytes d.description.a)
