-- The bench sheet of document 01, from the asking side: P1's and P2's packets are what the writer writes from their parts, and the replies of P1, P2 and P3
-- read back. Computed. Assumes nothing.
use Prim.Native.Nat.{ℕ}
use mathlib.Core.List.{List, [], ◌∷◌}
use mathlib.Core.Path.{◌≡◌, refl}
use Rattle.packet.specs.Fields.{type_of}
use Rattle.asking.specs.declared.Parts.{Parts}
use Rattle.asking.specs.declared.Said.{Said}
use Rattle.asking.specs.declared.Said.TheVariants.{Shown, Done, Unsupported}
use Rattle.asking.specs.declared.Completion.{Completion}
use Rattle.asking.specs.Writing.{write_number, header_of, packet_of}
use Rattle.asking.specs.Reading.{read_number, completion_of}
use Rattle.circle.proofs.Heard.{ReadsAs}

-- bus 05h, device 3, function 0, offset 004h, all four bytes; requester 01 00: a kind and a tag
abbrev parts : ℕ → ℕ → Parts
parts kind tag =
    record { kind = kind; requester = record { high = 0x01; low = 0x00 }; tag = tag; bus = 0x05; device = 3; function = 0; offset = 0x004; enables = 0xf }

abbrev data2 : List ℕ
data2 = 0x11 ∷ 0x22 ∷ 0x33 ∷ 0x44 ∷ []

-- a completion from a completer's number, for requester 01 00
abbrev from : ℕ → ℕ → ℕ → Said → Completion
from high low tag said = record { completer = record { high = high; low = low }; requester = record { high = 0x01; low = 0x00 }; tag = tag; said = said }

pub record BenchAsked : Type 0 where
  -- "`1B 00 00 01 01 00 08 0F 05 18 00 04`", with 12 bytes of room
  pub first : (write_number (parts 0x1b 0x08) 12 ≡ 0)
      × (packet_of (parts 0x1b 0x08) data2 ≡ 0x1b ∷ 0x00 ∷ 0x00 ∷ 0x01 ∷ 0x01 ∷ 0x00 ∷ 0x08 ∷ 0x0f ∷ 0x05 ∷ 0x18 ∷ 0x00 ∷ 0x04 ∷ [])
  -- "`44 00 00 01 01 00 07 0F 05 18 00 04 11 22 33 44`", with 16
  pub second : (write_number (parts 0x44 0x07) 16 ≡ 0)
      × (packet_of (parts 0x44 0x07) data2
      ≡ 0x44 ∷ 0x00 ∷ 0x00 ∷ 0x01 ∷ 0x01 ∷ 0x00 ∷ 0x07 ∷ 0x0f ∷ 0x05 ∷ 0x18 ∷ 0x00 ∷ 0x04 ∷ 0x11 ∷ 0x22 ∷ 0x33 ∷ 0x44 ∷ [])
  -- "`0A 00 00 00 00 00 20 04 01 00 08 00`": UR, nothing captured
  pub unsupported : ReadsAs (0x0a ∷ 0x00 ∷ 0x00 ∷ 0x00 ∷ 0x00 ∷ 0x00 ∷ 0x20 ∷ 0x04 ∷ 0x01 ∷ 0x00 ∷ 0x08 ∷ 0x00 ∷ []) (from 0x00 0x00 0x08 Unsupported)
  -- "`0A 00 00 00 05 18 00 04 01 00 07 00`": success without data
  pub done : ReadsAs (0x0a ∷ 0x00 ∷ 0x00 ∷ 0x00 ∷ 0x05 ∷ 0x18 ∷ 0x00 ∷ 0x04 ∷ 0x01 ∷ 0x00 ∷ 0x07 ∷ 0x00 ∷ []) (from 0x05 0x18 0x07 Done)
  -- "`4A 00 00 01 05 18 00 04 01 00 08 00 08 00 00 00`": success with data
  pub shown : ReadsAs (0x4a ∷ 0x00 ∷ 0x00 ∷ 0x01 ∷ 0x05 ∷ 0x18 ∷ 0x00 ∷ 0x04 ∷ 0x01 ∷ 0x00 ∷ 0x08 ∷ 0x00 ∷ 0x08 ∷ 0x00 ∷ 0x00 ∷ 0x00 ∷ [])
      (from 0x05 0x18 0x08 (Shown (0x08 ∷ 0x00 ∷ 0x00 ∷ 0x00 ∷ [])))
  -- 15 bytes are too few for the write, 11 for the read; kind 84h is 1, also without room; UR with data is 6
  pub refused : (write_number (parts 0x44 0x07) 15 ≡ 2) × (write_number (parts 0x1b 0x08) 11 ≡ 2) × (write_number (parts 0x84 0x07) 0 ≡ 1)
      × (read_number (0x4a ∷ 0x00 ∷ 0x00 ∷ 0x01 ∷ 0x05 ∷ 0x18 ∷ 0x20 ∷ 0x04 ∷ 0x01 ∷ 0x00 ∷ 0x08 ∷ 0x00 ∷ 0x08 ∷ 0x00 ∷ 0x00 ∷ 0x00 ∷ []) ≡ 6)

pub bench_asked : BenchAsked
unfolding type_of header_of packet_of completion_of
bench_asked =
    record {
      first = (refl, refl);
      second = (refl, refl);
      unsupported = record { number = refl; same = refl };
      done = record { number = refl; same = refl };
      shown = record { number = refl; same = refl };
      refused = (refl, refl, refl, refl);
    }
