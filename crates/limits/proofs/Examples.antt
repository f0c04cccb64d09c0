-- The boards and packets of the examples. Assumes nothing.
use Prim.Native.Nat.{ℕ}
use mathlib.Core.List.{List, [], ◌∷◌}
use Rattle.words.specs.Bytes.{put}
use Rattle.capture.specs.declared.Capture.{Capture}
use Rattle.capture.specs.declared.Capture.TheVariants.{Nothing, Number}
use Rattle.board.specs.Description.{Space, Board}
use Rattle.pair.specs.Pair.{Side, Pair}
use Rattle.runs.specs.Bench.{zeros, holding, bench_rules, bench_description}

-- writable at 004h and 00Ch, and error status bits at 008h
abbrev pub rules : List ℕ
rules = put bench_rules 0x00c (0xff ∷ 0xff ∷ 0xff ∷ 0xff ∷ [])

abbrev pub marks : List ℕ
marks = holding 0x008 (0xff ∷ [])

abbrev pub space : List ℕ → Space
space bytes = record { bytes = bytes; rules = rules; marks = marks }

-- function 0, A at 104h, B at 00Ch, edition 1: with a capture, and the same bytes in both spaces
abbrev pub board_with : Capture → List ℕ → Board
board_with kept bytes = record { description = bench_description; capture = kept; ordinary = space bytes; trusted = space bytes }

abbrev pub fresh : Board
fresh = board_with Nothing zeros

-- bus 05h and device 3 captured
abbrev pub ready : Board
ready = board_with (Number 0x05 0x03) zeros

-- an error is up in both spaces: bit 0 at 008h
abbrev pub failing : Board
failing = board_with (Number 0x05 0x03) (holding 0x008 (0x01 ∷ []))

-- two such functions, 0 and 1, under edition 2
abbrev pub side_with : ℕ → Side
side_with number = record { function = record { number = number; a = 0x104; b = 0x00c }; capture = Number 0x05 0x03; ordinary = space zeros; trusted = space zeros }

abbrev pub paired : Pair
paired = record { edition = 2; primary = side_with 0; alternate = side_with 1 }

-- a request: byte 0, bus, byte 9, bytes 10 and 11, enables, and the data of a write
abbrev pub ask : ℕ → ℕ → ℕ → ℕ → ℕ → ℕ → List ℕ → List ℕ
ask first bus nine ten eleven enables new =
    first ∷ 0x00 ∷ 0x00 ∷ 0x01 ∷ 0x01 ∷ 0x00 ∷ 0x07 ∷ enables ∷ bus ∷ nine ∷ ten ∷ eleven ∷ new

-- a read for bus 05h, device 3, function 0
abbrev pub read : ℕ → ℕ → ℕ → List ℕ
read first ten eleven = ask first 0x05 0x18 ten eleven 0x0f []

-- a write of 11 22 33 44, below 100h
abbrev pub write : ℕ → ℕ → ℕ → ℕ → ℕ → List ℕ
write first bus nine eleven enables = ask first bus nine 0x00 eleven enables (0x11 ∷ 0x22 ∷ 0x33 ∷ 0x44 ∷ [])

-- and of other data
abbrev pub rewrite : ℕ → ℕ → ℕ → ℕ → ℕ → List ℕ
rewrite first bus nine eleven enables = ask first bus nine 0x00 eleven enables (0xaa ∷ 0xbb ∷ 0xcc ∷ 0xdd ∷ [])

-- the captured numbers, 0 where nothing is captured
unfoldable pub captured_bus : Capture → ℕ
captured_bus Nothing = 0
captured_bus (Number bus device) = bus

unfoldable pub captured_device : Capture → ℕ
captured_device Nothing = 0
captured_device (Number bus device) = device
