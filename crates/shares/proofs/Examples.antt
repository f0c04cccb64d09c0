-- Packets, boards and runs for the examples: runs A and B of the first half, C and D of the second, and each pair under edition 2, with a
-- packet whose bit 7 is set in A, B and D (02, 9/13; docs/SHARED.md shows A and B, and both under edition 2).
-- Assumes nothing.
use Prim.Native.Nat.{ℕ}
use mathlib.Core.List.{List, [], ◌∷◌, ◌++◌}
use Rattle.words.specs.Bytes.{put}
use Rattle.capture.specs.declared.Capture.{Capture}
use Rattle.capture.specs.declared.Capture.TheVariants.{Nothing, Number}
use Rattle.board.specs.Description.{Space, Board, with_edition}
use Rattle.runs.specs.Run.{Event, packet, reset}
use Rattle.runs.specs.Bench.{zeros, holding, bench_rules, p2, read_at, changed}

-- ---- packets, by bytes 10 and 11, and for a write its enables and data

abbrev pub trusted_read_at : ℕ → ℕ → List ℕ
trusted_read_at ten eleven = 0x1b ∷ 0x00 ∷ 0x00 ∷ 0x01 ∷ 0x01 ∷ 0x00 ∷ 0x08 ∷ 0x0f ∷ 0x05 ∷ 0x18 ∷ ten ∷ eleven ∷ []

abbrev pub trusted_write_at : ℕ → ℕ → ℕ → List ℕ → List ℕ
trusted_write_at enables ten eleven new =
    (0x5b ∷ 0x00 ∷ 0x00 ∷ 0x01 ∷ 0x01 ∷ 0x00 ∷ 0x0a ∷ enables ∷ 0x05 ∷ 0x18 ∷ ten ∷ eleven ∷ []) ++ new

-- a packet with a reply of 16 bytes
abbrev pub sent : List ℕ → Event
sent bytes = packet bytes 16

abbrev pub ones : List ℕ
ones = 0xff ∷ 0xff ∷ 0xff ∷ 0xff ∷ []

-- ---- boards

-- of edition 1, by the function number, A and B, the capture, and the ordinary and the trusted space
abbrev pub board_of : ℕ → ℕ → ℕ → Capture → Space → Space → Board
board_of function a b kept ordinary trusted =
    record { description = record { function = function; a = a; b = b; edition = 1 }; capture = kept; ordinary = ordinary; trusted = trusted }

-- a space without marks, and a space with four bytes of status at 008h: FFh, each bit of which is cleared by writing 1
abbrev pub plain : List ℕ → List ℕ → Space
plain bytes rules = record { bytes = bytes; rules = rules; marks = zeros }

abbrev pub with_status : Space → Space
with_status s = record { bytes = put s.bytes 0x008 ones; rules = s.rules; marks = put s.marks 0x008 ones }

-- function 0, A 104h, B 00Ch, bus 05h and device 3 captured
abbrev pub usual : Space → Space → Board
usual ordinary trusted = board_of 0 0x104 0x00c (Number 0x05 0x03) ordinary trusted

-- zero but for four bytes, all of them writable there
abbrev pub register : ℕ → Space
register at = plain (holding at (0x01 ∷ 0x02 ∷ 0x03 ∷ 0x04 ∷ [])) (holding at ones)

-- stale bytes at A, writable bytes at 004h, and the status
abbrev pub stale : Space
stale = with_status (plain (holding 0x104 (0xaa ∷ 0xaa ∷ 0xaa ∷ 0xaa ∷ [])) bench_rules)

-- ---- the first half: B at 00Ch and at 010h, each holding the same four bytes; one has a trusted status

abbrev pub board_a : Board
board_a = board_of 0 0x104 0x00c Nothing stale (register 0x00c)

abbrev pub board_b : Board
board_b = board_of 0 0x104 0x010 Nothing stale (with_status (register 0x010))

-- an ordinary write that captures; one that clears bits of the status; the register is given a new value; a read at A; a reset; a read of the
-- status, and one of what was written
abbrev pub run_a : List Event
run_a =
    sent p2
    ∷ sent (changed p2 0xb 0x08)
    ∷ sent (trusted_write_at 0x0f 0x00 0x0c (0x5a ∷ 0x6b ∷ 0x7c ∷ 0x8d ∷ []))
    ∷ sent (read_at 0x01 0x04)
    ∷ reset
    ∷ sent (read_at 0x00 0x08)
    ∷ sent (read_at 0x00 0x04)
    ∷ []

-- the same, but that the register gets its value in two halves, with a trusted read between; the trusted status is cleared; and another
-- trusted read is answered UR after the reset
abbrev pub run_b : List Event
run_b =
    sent p2
    ∷ sent (changed p2 0xb 0x08)
    ∷ sent (trusted_write_at 0x03 0x00 0x10 (0x5a ∷ 0x6b ∷ 0x00 ∷ 0x00 ∷ []))
    ∷ sent (trusted_read_at 0x00 0x10)
    ∷ sent (trusted_write_at 0x0c 0x00 0x10 (0x00 ∷ 0x00 ∷ 0x7c ∷ 0x8d ∷ []))
    ∷ sent (trusted_write_at 0x0f 0x00 0x08 ones)
    ∷ sent (read_at 0x01 0x04)
    ∷ reset
    ∷ sent (trusted_read_at 0x00 0x10)
    ∷ sent (read_at 0x00 0x08)
    ∷ sent (read_at 0x00 0x04)
    ∷ []

-- ---- the second half: other A and B, ordinary bytes, ordinary rules, ordinary marks and capture; the same trusted status

abbrev pub board_c : Board
board_c = board_of 0 0x104 0x00c Nothing (with_status (plain zeros bench_rules)) (with_status (register 0x010))

abbrev pub board_d : Board
board_d = board_of 0 0x108 0x010 (Number 0x07 0x01) (plain (holding 0x004 ones) zeros) (with_status (register 0x010))

-- a write that captures; a trusted write and a trusted read; a trusted write that clears bits of the status, and a read of it
abbrev pub run_c : List Event
run_c =
    sent p2
    ∷ sent (trusted_write_at 0x0f 0x00 0x10 (0x5a ∷ 0x6b ∷ 0x7c ∷ 0x8d ∷ []))
    ∷ sent (trusted_read_at 0x00 0x10)
    ∷ sent (trusted_write_at 0x0f 0x00 0x08 (0x11 ∷ 0x22 ∷ 0x33 ∷ 0x44 ∷ []))
    ∷ sent (trusted_read_at 0x00 0x08)
    ∷ []

-- the same trusted packets, among resets, an empty packet, a read at A, and writes that capture another bus and then the same again
abbrev pub run_d : List Event
run_d =
    reset
    ∷ sent []
    ∷ sent (changed p2 0xb 0x08)
    ∷ sent (trusted_write_at 0x0f 0x00 0x10 (0x5a ∷ 0x6b ∷ 0x7c ∷ 0x8d ∷ []))
    ∷ sent (changed p2 0x8 0x09)
    ∷ sent (read_at 0x01 0x08)
    ∷ reset
    ∷ sent (changed p2 0xb 0x0c)
    ∷ sent (trusted_read_at 0x00 0x10)
    ∷ sent (trusted_write_at 0x0f 0x00 0x08 (0x11 ∷ 0x22 ∷ 0x33 ∷ 0x44 ∷ []))
    ∷ sent (trusted_read_at 0x00 0x08)
    ∷ []

-- ---- under edition 2: A and B, C and D, with a trusted code whose bit 7 is set in all but C

-- a trusted write but for its bit 7, which is set, by byte 11
abbrev pub bit7_write : ℕ → List ℕ
bit7_write eleven = changed (trusted_write_at 0x0f 0x00 eleven (0xd1 ∷ 0xd2 ∷ 0xd3 ∷ 0xd4 ∷ [])) 0 0xdb

abbrev pub board_a2 : Board
board_a2 = with_edition board_a 2

abbrev pub board_b2 : Board
board_b2 = with_edition board_b 2

-- the same write with bit 7 in both, to where the register of one is, and a read at A. At the write with bit 7, which is not served, the registers differ
abbrev pub run_a2 : List Event
run_a2 = sent p2 ∷ sent (trusted_write_at 0x0f 0x00 0x0c (0x5a ∷ 0x6b ∷ 0x7c ∷ 0x8d ∷ [])) ∷ sent (bit7_write 0x0c) ∷ sent (read_at 0x01 0x04) ∷ []

abbrev pub run_b2 : List Event
run_b2 =
    sent p2
    ∷ sent (trusted_write_at 0x03 0x00 0x10 (0x5a ∷ 0x6b ∷ 0x00 ∷ 0x00 ∷ []))
    ∷ sent (bit7_write 0x0c)
    ∷ sent (trusted_write_at 0x0c 0x00 0x10 (0x00 ∷ 0x00 ∷ 0x7c ∷ 0x8d ∷ []))
    ∷ sent (read_at 0x01 0x04)
    ∷ []

abbrev pub board_c2 : Board
board_c2 = with_edition board_c 2

abbrev pub board_d2 : Board
board_d2 = with_edition board_d 2

-- the write with bit 7 in one of them alone, between a trusted write and a trusted read of the same place
abbrev pub run_c2 : List Event
run_c2 = sent p2 ∷ sent (trusted_write_at 0x0f 0x00 0x10 (0x5a ∷ 0x6b ∷ 0x7c ∷ 0x8d ∷ [])) ∷ sent (trusted_read_at 0x00 0x10) ∷ []

abbrev pub run_d2 : List Event
run_d2 =
    sent p2
    ∷ sent (trusted_write_at 0x0f 0x00 0x10 (0x5a ∷ 0x6b ∷ 0x7c ∷ 0x8d ∷ []))
    ∷ sent (bit7_write 0x10)
    ∷ sent (trusted_read_at 0x00 0x10)
    ∷ []
