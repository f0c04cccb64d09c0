-- The night shift's sentence: what a completion that reads back tells about the board. Issue of 02, 5/13: "success without data": the enabled writable
-- bits at that place of that space equal the data and nothing else changed (at A: nothing changed); "success with data": the data is what the space
-- shows there; UR: nothing changed. With 02, 6/13, a third case: "A marked bit becomes 0 if the enabled data bit is 1, else stays." With 02, 7/13, what the
-- space shows is "all four bytes whatever the enables, also at A". Assumes nothing.
use Rattle.std.specs.Prelude.{ℕ, ◌+◌, ◌≤◌, ◌<◌, Bool, true, false, cond, List, ◌⊎◌, ◌≡◌, eqb, length}
use Rattle.words.specs.Bytes.{byte, four}
use Rattle.words.specs.Fields.{bit}
use Rattle.registers.specs.Merge.{enabled}
use Rattle.registers.specs.Shown.{shown}
use Rattle.packet.specs.Fields.{type_of}
use Rattle.packet.specs.Request.{is_trusted, target_of}
use Rattle.capture.specs.declared.Capture.TheVariants.{Number}
use Rattle.asking.specs.declared.Parts.{Parts}
use Rattle.asking.specs.declared.Said.{Said}
use Rattle.asking.specs.declared.Said.TheVariants.{Shown, Done, Unsupported}
use Rattle.asking.specs.Writing.{asks_write}
use Rattle.board.specs.Description.{Space, Board}
use Rattle.board.specs.Access.{correlation}

-- a request for the trusted space, by its kind
abbrev pub asks_trusted : Parts → Bool
asks_trusted a = is_trusted (target_of (type_of a.kind))

-- Issue of 6/13: "written bits equal the data, marked bits are cleared exactly where the data has a 1, all others stay": a space before and after, the offset,
-- the enables, the data. Bit j of the byte at offset + k is enabled where k is, writable where its rule bit is 1, and marked where its mark is 1
pub record BitsLanded (before after : Space) (at enables : ℕ) (new : List ℕ) : Type 0 where
  pub taken : (k j : ℕ) → k < 4 → j < 8 → enabled k enables ≡ true → bit j (byte before.rules (at + k)) ≡ 1
      → bit j (byte after.bytes (at + k)) ≡ bit j (byte new k)
  pub cleared : (k j : ℕ) → k < 4 → j < 8 → enabled k enables ≡ true → bit j (byte before.marks (at + k)) ≡ 1 → bit j (byte new k) ≡ 1
      → bit j (byte after.bytes (at + k)) ≡ 0
  pub spared : (k j : ℕ) → k < 4 → j < 8 → bit j (byte before.marks (at + k)) ≡ 1 → bit j (byte new k) ≡ 0
      → bit j (byte after.bytes (at + k)) ≡ bit j (byte before.bytes (at + k))
  pub kept : (k j : ℕ) → k < 4 → j < 8
      → (enabled k enables ≡ false) ⊎ ((bit j (byte before.rules (at + k)) ≡ 0) × (bit j (byte before.marks (at + k)) ≡ 0))
      → bit j (byte after.bytes (at + k)) ≡ bit j (byte before.bytes (at + k))
  pub elsewhere : (k : ℕ) → (k < at) ⊎ (at + 4 ≤ k) → byte after.bytes k ≡ byte before.bytes k
  pub size : length after.bytes ≡ length before.bytes
  pub rules : after.rules ≡ before.rules
  pub marks : after.marks ≡ before.marks

-- "at that place of that space [..] (at A: nothing changed)": a trusted write, an ordinary one at A, any other ordinary one. Beside the spaces, an ordinary
-- write captures its bus and device number (document 01, "The access")
pub record Landed (d e : Board) (a : Parts) (new : List ℕ) : Type 0 where
  pub trusted : asks_trusted a ≡ true
      → BitsLanded d.trusted e.trusted a.offset a.enables new × (e.ordinary ≡ d.ordinary) × (e.capture ≡ d.capture)
  pub at_a : asks_trusted a ≡ false → a.offset ≡ d.description.a
      → (e.ordinary ≡ d.ordinary) × (e.trusted ≡ d.trusted) × (e.capture ≡ Number a.bus a.device)
  pub ordinary : asks_trusted a ≡ false → (a.offset ≡ d.description.a → ⊥)
      → BitsLanded d.ordinary e.ordinary a.offset a.enables new × (e.trusted ≡ d.trusted) × (e.capture ≡ Number a.bus a.device)
  pub description : e.description ≡ d.description

-- "what the space shows there": the four bytes, as a read shows them; at A, the correlation register
abbrev pub shown_there : Board → Parts → List ℕ
shown_there d a =
    shown
    (cond (asks_trusted a)
    (four d.trusted.bytes a.offset)
    (cond (eqb a.offset d.description.a) (correlation d) (four d.ordinary.bytes a.offset)))

-- what it means that a completion says something: the board before and after, the request's parts and data
abbrev pub Means : Board → Board → Parts → List ℕ → Said → Type 0
Means d e a new Done = (asks_write a ≡ true) × Landed d e a new
Means d e a new (Shown word) = (asks_write a ≡ false) × (word ≡ shown_there d a) × (e ≡ d)
Means d e a new Unsupported = e ≡ d
