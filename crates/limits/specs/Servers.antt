-- What servers do that a repeat or a swap brings to light, for any server at all: faults against document 02's 12/13 that a newcomer would make. A server here is what a caller
-- sees of it, with a memory of its own or without (`runs`). Assumes nothing.
use Rattle.std.specs.Prelude.{ℕ, ◌+◌, ◌<◌, Bool, true, false, List, ◌≡◌}
use Rattle.words.specs.Bytes.{byte}
use Rattle.words.specs.Fields.{bit}
use Rattle.registers.specs.Merge.{enabled}
use Rattle.packet.specs.declared.Target.TheVariants.{Type0}
use Rattle.packet.specs.declared.Status.TheVariants.{Unsupported}
use Rattle.packet.specs.Fields.{data_of}
use Rattle.packet.specs.Request.{request_of}
use Rattle.packet.specs.Completion.{status_byte}
use Rattle.board.specs.Description.{Board}
use Rattle.board.specs.Serving.{completer_of}
use Rattle.runs.specs.Servers.{Server, completion, Remembering, OwnWrite}
use Rattle.runs.specs.Clearing.{space_for, left_in, Succeeds, asked, Marked}

-- ---- without a memory

-- it flips marked bits: one that is 0 is set where the data's is 1, so that a repeat sets again what the write had cleared
abbrev pub FlipsMarked : Bool → Server → Type 0
FlipsMarked trusted server =
    (d : Board) (p reply : List ℕ) → Succeeds trusted d p true → (server d p reply).number ≡ 0
    → (k j : ℕ) → Marked trusted d p k j → enabled k (request_of p).enables ≡ true → bit j (byte (data_of p) k) ≡ 1
    → asked p (space_for trusted d).bytes k j ≡ 0 → asked p (left_in trusted (server d p reply)) k j ≡ 1

-- it writes its completion before it captures: the first reply has the old completer ID, and the repeat's has the new one
abbrev pub CompletesFirst : Server → Type 0
CompletesFirst server =
    (d : Board) (p reply : List ℕ) → OwnWrite d p Type0 false → (server d p reply).number ≡ 0
    → (byte (completion (server d p reply)) 4 ≡ (completer_of d).high) × (byte (completion (server d p reply)) 5 ≡ (completer_of d).low)

-- it writes 00h to the bytes that are not enabled: what one of two writes has left, the other takes away
abbrev pub ZeroesDisabled : Bool → Server → Type 0
ZeroesDisabled trusted server =
    (d : Board) (p reply : List ℕ) → Succeeds trusted d p true → (server d p reply).number ≡ 0
    → (k : ℕ) → k < 4 → enabled k (request_of p).enables ≡ false → byte (left_in trusted (server d p reply)) ((request_of p).offset + k) ≡ 0

-- ---- with a memory: once it has served a packet as the first, and another one then or none, it is asked the first again

module _ (m : Remembering) where
  abbrev pub after_one : Board → List ℕ → List ℕ → m.Memory
  after_one d p reply = m.remembers m.start d p reply

  abbrev pub after_two : Board → Board → List ℕ → List ℕ → List ℕ → m.Memory
  after_two d e p q reply = m.remembers (after_one d p reply) e q reply

  -- it answers a read from memory: as it did, whatever has been written since
  abbrev pub RepliesFromMemory : Type 0
  RepliesFromMemory =
      (d e f : Board) (p q reply : List ℕ) → (request_of p).writes ≡ false → (m.answers m.start d p reply).number ≡ 0
      → completion (m.answers (after_two d e p q reply) f p reply) ≡ completion (m.answers m.start d p reply)

  -- it stores nothing for a write that it has stored already
  abbrev pub StoresNotAgain : Type 0
  StoresNotAgain =
      (d e f : Board) (p q reply : List ℕ) → (request_of p).writes ≡ true → (m.answers m.start d p reply).number ≡ 0
      → (m.answers (after_two d e p q reply) f p reply).ordinary ≡ f.ordinary.bytes

  -- it refuses a write that it has served, as a double
  abbrev pub RefusesAgain : Type 0
  RefusesAgain =
      (d e : Board) (p reply : List ℕ) → (request_of p).writes ≡ true → (m.answers m.start d p reply).number ≡ 0
      → (m.answers (after_one d p reply) e p reply).number ≡ 0 → ⊥

  -- or answers it with UR
  abbrev pub UnsupportedAgain : Type 0
  UnsupportedAgain =
      (d e : Board) (p reply : List ℕ) → (request_of p).writes ≡ true → (m.answers m.start d p reply).number ≡ 0
      → byte (completion (m.answers (after_one d p reply) e p reply)) 6 ≡ status_byte Unsupported
