-- Functions, pairs, packets and runs for the examples. Assumes nothing.
use Prim.Native.Nat.{ℕ}
use mathlib.Core.List.{List, [], ◌∷◌, ◌++◌}
use Rattle.capture.specs.declared.Capture.{Capture}
use Rattle.capture.specs.declared.Capture.TheVariants.{Nothing, Number}
use Rattle.board.specs.Description.{Space}
use Rattle.runs.specs.Run.{Event, packet, reset}
use Rattle.runs.specs.Bench.{zeros, holding, bench_rules, p2, read_at, changed}
use Rattle.shares.proofs.Examples.{trusted_read_at, trusted_write_at, sent, ones, plain, with_status}
use Rattle.pair.specs.Pair.{Side, Pair, Role, Primary, Alternate}

-- ---- functions and pairs

-- by the number, A and B, the capture, and the ordinary and the trusted space
abbrev pub side_with : ℕ → ℕ → ℕ → Capture → Space → Space → Side
side_with number a b kept ordinary trusted =
    record { function = record { number = number; a = a; b = b }; capture = kept; ordinary = ordinary; trusted = trusted }

-- a pair of edition 1 with one function in a role, and another in the other
abbrev pub paired : Role → Side → Side → Pair
paired Primary s t = record { edition = 1; primary = s; alternate = t }
paired Alternate s t = record { edition = 1; primary = t; alternate = s }

abbrev pub with_pair_edition : Pair → ℕ → Pair
with_pair_edition pair edition = record { edition = edition; primary = pair.primary; alternate = pair.alternate }

-- four bytes at 004h, writable there
abbrev pub writable : List ℕ → Space
writable four = plain (holding 0x004 four) bench_rules

-- function 2, with nothing captured
abbrev pub mine : Side
mine = side_with 2 0x104 0x00c Nothing (writable (0x01 ∷ 0x02 ∷ 0x03 ∷ 0x04 ∷ [])) (writable (0x05 ∷ 0x06 ∷ 0x07 ∷ 0x08 ∷ []))

-- the other function in one run, and in the other run: other numbers, offsets, captures, bytes, rules and marks
abbrev pub another : Side
another = side_with 3 0x104 0x00c Nothing (writable ones) (writable ones)

abbrev pub changed_other : Side
changed_other = side_with 4 0x108 0x010 (Number 0x09 0x01) (with_status (plain zeros zeros)) (with_status (plain zeros zeros))

-- ---- packets, by the function that byte 9 names: bus 05h and device 3

abbrev pub to : ℕ → List ℕ → List ℕ
to nine p = changed p 9 nine

-- to the function that is compared, to the other in one run and in the other run, and to none of them
abbrev pub to_mine : List ℕ → Event
to_mine p = sent (to 0x1a p)

abbrev pub to_another : List ℕ → Event
to_another p = sent (to 0x1b p)

abbrev pub to_changed : List ℕ → Event
to_changed p = sent (to 0x1c p)

abbrev pub to_neither : List ℕ → Event
to_neither p = sent (to 0x1d p)

-- a Type 1 read, and a read with a byte too many
abbrev pub type1 : List ℕ
type1 = changed (read_at 0x00 0x04) 0 0x05

abbrev pub too_long : List ℕ
too_long = read_at 0x00 0x04 ++ (0x00 ∷ [])

abbrev pub secret : List ℕ
secret = trusted_write_at 0x0f 0x00 0x04 (0x5a ∷ 0x6b ∷ 0x7c ∷ 0x8d ∷ [])

abbrev pub read4 : List ℕ
read4 = read_at 0x00 0x04

abbrev pub trusted4 : List ℕ
trusted4 = trusted_read_at 0x00 0x04

-- ---- two runs: the same for `mine` and for neither, and the same resets; one packet for the other function, and four for it
abbrev pub one_run : List Event
one_run =
    to_mine p2
    ∷ to_another p2
    ∷ to_mine secret
    ∷ to_neither read4
    ∷ to_mine trusted4
    ∷ to_another type1
    ∷ to_another too_long
    ∷ reset
    ∷ to_mine read4
    ∷ []

abbrev pub other_run : List Event
other_run =
    to_changed (changed p2 0xc 0xee)
    ∷ to_mine p2
    ∷ to_changed secret
    ∷ to_mine secret
    ∷ to_neither read4
    ∷ to_mine trusted4
    ∷ to_changed read4
    ∷ to_another type1
    ∷ to_another too_long
    ∷ reset
    ∷ packet (to 0x1c p2) 3
    ∷ to_mine read4
    ∷ []

-- ---- under edition 2: a trusted write but for its bit 7, which is set, that names the other function of one run; in one run alone a packet for the other function
abbrev pub bit7_other : Event
bit7_other = to_another (changed secret 0 0xdb)

abbrev pub one_run2 : List Event
one_run2 = to_mine p2 ∷ bit7_other ∷ to_mine read4 ∷ []

abbrev pub other_run2 : List Event
other_run2 = to_mine p2 ∷ to_another secret ∷ bit7_other ∷ to_mine read4 ∷ []
