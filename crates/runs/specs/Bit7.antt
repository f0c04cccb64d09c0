-- Document 02, 9/13, "Two editions of byte 0": faults of a server that does not keep to the edition, for any server at all. Assumes nothing.
use Rattle.std.specs.Prelude.{ℕ, ◌≤◌, true, List, ◌≡◌, length}
use Rattle.words.specs.Bytes.{byte}
use Rattle.packet.specs.Fields.{bit7_set}
use Rattle.packet.specs.Request.{packet_number}
use Rattle.board.specs.Description.{Board, with_edition, WellDescribed}
use Rattle.runs.specs.Servers.{Server}

-- a well-described board of an edition, a packet with bit 7 set, and room for a reply
pub record Bit7Sent (edition : ℕ) (d : Board) (p reply : List ℕ) : Type 0 where
  pub is : d.description.edition ≡ edition
  pub well : WellDescribed d
  pub set : bit7_set (byte p 0) ≡ true
  pub room : 16 ≤ length reply

-- edition 2 tests bit 7 before the length: 4 however short the packet is
abbrev pub TestsBit7First : Server → Type 0
TestsBit7First server = (d : Board) (p reply : List ℕ) → Bit7Sent 2 d p reply → (server d p reply).number ≡ 4

-- it tests it after the other checks: where the packet has a fault besides, that one's number is given
abbrev pub TestsBit7Last : Server → Type 0
TestsBit7Last server =
    (d : Board) (p reply : List ℕ) → Bit7Sent 2 d p reply → (packet_number p ≡ 0 → ⊥) → (server d p reply).number ≡ packet_number p

-- edition 1 refuses bit 7 too
abbrev pub RefusesUnderOne : Server → Type 0
RefusesUnderOne server = (d : Board) (p reply : List ℕ) → Bit7Sent 1 d p reply → 12 ≤ length p → (server d p reply).number ≡ 4

-- one edition is taken for another: 2 for 1, as where it is not asked; or 0 for 1
abbrev pub TakesFor : ℕ → ℕ → Server → Type 0
TakesFor edition other server =
    (d : Board) (p reply : List ℕ) → (server (with_edition d edition) p reply).number ≡ (server (with_edition d other) p reply).number
