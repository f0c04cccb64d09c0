-- Document 01, "Bench sheet": the board and the packets that its examples name. Assumes nothing.
use Rattle.std.specs.Prelude.{ℕ, List, [], ◌∷◌, replicate}
use Rattle.words.specs.Bytes.{put}
use Rattle.capture.specs.declared.Capture.TheVariants.{Number}
use Rattle.board.specs.declared.Description.{Description}
use Rattle.board.specs.Description.{Space, Board}
use Rattle.runs.specs.Run.{fresh_board}

-- 4,096 bytes of 00h, and some bytes put at an offset
abbrev pub zeros : List ℕ
zeros = replicate 4096 0

abbrev pub holding : ℕ → List ℕ → List ℕ
holding at bytes = put zeros at bytes

-- "rules FFh at 004h in both spaces"
abbrev pub bench_rules : List ℕ
bench_rules = holding 0x004 (0xff ∷ 0xff ∷ 0xff ∷ 0xff ∷ [])

-- a space of the bench: those rules, and no bit that is cleared by writing 1, of which document 01 does not know
abbrev pub bench_space : List ℕ → Space
bench_space bytes = record { bytes = bytes; rules = bench_rules; marks = zeros }

-- "Function 0"; A and B at the lowest places they may have; and edition 1, which ignores bit 7 as document 01 has it
abbrev pub bench_description : Description
bench_description = record { function = 0; a = 0x104; b = 0x00c; edition = 1 }

-- fresh, with the trusted space given
abbrev pub bench : List ℕ → Board
bench trusted = fresh_board bench_description (bench_space zeros) (bench_space trusted)

-- the same, once a write to bus 05h and device 3 has been captured, as P2's is
abbrev pub bench_after : List ℕ → List ℕ → Board
bench_after ordinary trusted =
    record {
      description = bench_description;
      capture = Number 0x05 0x03;
      ordinary = bench_space ordinary;
      trusted = bench_space trusted;
    }

-- P1's packet, a trusted read at 004h, and P2's, a Type 0 write there
abbrev pub p1 : List ℕ
p1 = 0x1b ∷ 0x00 ∷ 0x00 ∷ 0x01 ∷ 0x01 ∷ 0x00 ∷ 0x08 ∷ 0x0f ∷ 0x05 ∷ 0x18 ∷ 0x00 ∷ 0x04 ∷ []

abbrev pub p2 : List ℕ
p2 =
    0x44 ∷ 0x00 ∷ 0x00 ∷ 0x01 ∷ 0x01 ∷ 0x00 ∷ 0x07 ∷ 0x0f ∷ 0x05 ∷ 0x18 ∷ 0x00 ∷ 0x04 ∷ 0x11 ∷ 0x22 ∷ 0x33 ∷ 0x44 ∷ []

-- a Type 0 read of four bytes, by bytes 10 and 11
abbrev pub read_at : ℕ → ℕ → List ℕ
read_at ten eleven = 0x04 ∷ 0x00 ∷ 0x00 ∷ 0x01 ∷ 0x01 ∷ 0x00 ∷ 0x09 ∷ 0x0f ∷ 0x05 ∷ 0x18 ∷ ten ∷ eleven ∷ []

-- a packet with another byte at a place
abbrev pub changed : List ℕ → ℕ → ℕ → List ℕ
changed p at byte = put p at (byte ∷ [])
