-- Examples. What is said of addresses at the edges, computed from the definitions: one under the base, at it, the last address of the last group and the next;
-- index 12 and 63; a base at FFFF_FFFF_FFFF_F000h; windows that would end past 2^64; groups 31, 32, 40 and 63; lists of 0, 32 and 33 ports. And what is read of
-- capabilities, in bytes: each number, the order of two that apply, and each field. Assumes nothing.
use Prim.Native.Nat.{ℕ, ◌+◌, ◌-◌, ◌^◌}
use mathlib.Core.List.{List, [], ◌∷◌, ◌++◌}
use mathlib.Core.Path.{◌≡◌, refl}
use lib.ListN.{length, replicate}
use Rattle.words.specs.Places.{placed}
use Rattle.records.specs.Required.{sized}
use Rattle.multicast.specs.declared.Record.{Record}
use Rattle.multicast.specs.Capability.{is_multicast, record_at, clashes, capability_number, capability_says}
use Rattle.multicast.specs.Records.{is_record}
use Rattle.multicast.specs.Judging.{is_bad, is_hit, told, no_hit, dropped, leaves, unsaid, entering_by, judged, is_member, leaves_by}

-- a port with this Num Group, index and base, enabled, that receives and blocks these groups
abbrev port : ℕ → ℕ → ℕ → ℕ → ℕ → Record
port num index base receive block_all =
    record { max_group = 63; num_group = num; enable = 1; index = index; base = base; receive = receive; block_all = block_all }

-- what is said of an address at the first of three ports: groups 0 to num of it, group 3 is blocked there, group 2 leaves by the second, and group 40 by the third
abbrev three : ℕ → ℕ → ℕ → List Record
three num index base =
    port num index base (2 ^ 64 - 1) (2 ^ 3) ∷ port 63 12 0 (2 ^ 2) (2 ^ 64 - 1) ∷ port 0 63 0 (2 ^ 40) 0 ∷ []

pub window_edges : (judged (three 3 12 0x800000000) 0 0x7ffffffff ≡ told 0 no_hit 0)
    × (judged (three 3 12 0x800000000) 0 0x800000000 ≡ told 0 leaves 0)
    × (judged (three 3 12 0x800000000) 0 0x800000fff ≡ told 0 leaves 0)
    × (judged (three 3 12 0x800000000) 0 0x800001000 ≡ told 0 leaves 1)
    × (judged (three 3 12 0x800000000) 0 0x800003fff ≡ told 0 dropped 3)
    × (judged (three 3 12 0x800000000) 0 0x800004000 ≡ told 0 no_hit 0)
unfolding judged is_bad is_record clashes entering_by is_hit
window_edges = (refl, refl, refl, refl, refl, refl)

-- 2^64 - 1 is the last address; with index 63 group 0 is the lower half of all addresses and group 1 the upper, and group 2 would begin past the end
pub highest_edges : (judged (three 63 63 0) 0 0x7fffffffffffffff ≡ told 0 leaves 0)
    × (judged (three 63 63 0) 0 0x8000000000000000 ≡ told 0 leaves 1)
    × (judged (three 63 63 0) 0 0xffffffffffffffff ≡ told 0 leaves 1)
    × (judged (three 0 63 0) 0 0xffffffffffffffff ≡ told 0 no_hit 0)
    × (judged (three 63 63 0x8000000000001000) 0 0xffffffffffffffff ≡ told 0 leaves 0)
    × (judged (three 0 12 0xfffffffffffff000) 0 0xffffffffffffefff ≡ told 0 no_hit 0)
    × (judged (three 0 12 0xfffffffffffff000) 0 0xfffffffffffff000 ≡ told 0 leaves 0)
    × (judged (three 63 12 0xfffffffffffff000) 0 0xffffffffffffffff ≡ told 0 leaves 0)
    × (judged (three 63 63 0xfffffffffffff000) 0 0xffffffffffffffff ≡ told 0 leaves 0)
    × (judged (three 63 63 0xfffffffffffff000) 0 0 ≡ told 0 no_hit 0)
unfolding judged is_bad is_record clashes entering_by is_hit
highest_edges = (refl, refl, refl, refl, refl, refl, refl, refl, refl, refl)

-- the ports: of group 2 the second, of group 40 the third, of group 41 none, although the first, by which they enter, receives all; and the second blocks all
pub port_edges : (judged (three 63 12 0) 0 0x2000 ≡ told 0 leaves 2)
    × (leaves_by (three 63 12 0) 0 (told 0 leaves 2) 0 ≡ 0)
    × (leaves_by (three 63 12 0) 0 (told 0 leaves 2) 1 ≡ 1)
    × (leaves_by (three 63 12 0) 0 (told 0 leaves 2) 2 ≡ 0)
    × (judged (three 63 12 0) 0 0x28000 ≡ told 0 leaves 40)
    × (leaves_by (three 63 12 0) 0 (told 0 leaves 40) 0 ≡ 0)
    × (leaves_by (three 63 12 0) 0 (told 0 leaves 40) 1 ≡ 0)
    × (leaves_by (three 63 12 0) 0 (told 0 leaves 40) 2 ≡ 1)
    × (judged (three 63 12 0) 0 0x29000 ≡ told 0 leaves 41)
    × (leaves_by (three 63 12 0) 0 (told 0 leaves 41) 0 ≡ 0)
    × (leaves_by (three 63 12 0) 0 (told 0 leaves 41) 1 ≡ 0)
    × (leaves_by (three 63 12 0) 0 (told 0 leaves 41) 2 ≡ 0)
    × (leaves_by (three 63 12 0) 0 (told 0 leaves 41) 3 ≡ 0)
    × (judged (three 63 12 0) 3 0x2000 ≡ told 1 unsaid 0)
unfolding judged is_bad is_record clashes entering_by is_hit is_member
port_edges = (refl, refl, refl, refl, refl, refl, refl, refl, refl, refl, refl, refl, refl, refl)

-- groups on both sides of the registers' middle, the last, and what would be the next
pub group_edges : (judged (three 63 12 0) 0 0x1ffff ≡ told 0 leaves 31)
    × (judged (three 63 12 0) 0 0x20000 ≡ told 0 leaves 32)
    × (judged (three 63 12 0) 0 0x3ffff ≡ told 0 leaves 63)
    × (judged (three 63 12 0) 0 0x40000 ≡ told 0 no_hit 0)
unfolding judged is_bad is_record clashes entering_by is_hit
group_edges = (refl, refl, refl, refl)

-- no port, 32 entered by the last and by none, and 33
pub list_edges : (judged [] 0 0 ≡ told 1 unsaid 0)
    × (judged (replicate 32 (port 63 12 0 0 0)) 31 0x3ffff ≡ told 0 leaves 63)
    × (judged (replicate 32 (port 63 12 0 0 0)) 32 0 ≡ told 1 unsaid 0)
    × (judged (replicate 33 (port 63 12 0 0 0)) 0 0 ≡ told 1 unsaid 0)
unfolding judged is_bad is_record clashes entering_by is_hit
list_edges = (refl, refl, refl, refl)

-- a capability's first bytes: its version, Max Group, Num Group, the byte with Enable, and the index; and a space with some bytes at an offset and 00h else
abbrev header : ℕ → ℕ → ℕ → ℕ → ℕ → List ℕ → List ℕ
header version maximum num control index rest = 0x12 ∷ 0 ∷ version ∷ 0 ∷ maximum ∷ 0 ∷ num ∷ control ∷ index ∷ rest

abbrev space_at : ℕ → List ℕ → List ℕ
space_at at bytes = replicate at 0 ++ bytes ++ replicate (4096 - (at + length bytes)) 0

abbrev number_at : ℕ → List ℕ → ℕ → ℕ
number_at at bytes asked = (capability_says (space_at at bytes) asked).number

pub number_edges : (number_at 0x100 (header 1 63 3 0x80 12 []) 0x100 ≡ 0)
    × (number_at 0x100 (header 1 63 3 0x80 12 []) 0x102 ≡ 1)
    × (number_at 0x0fc (header 1 63 3 0x80 12 []) 0x0fc ≡ 1)
    × (number_at 0x100 (header 2 63 3 0x80 12 []) 0x100 ≡ 8)
    × (number_at 0xfd8 (header 1 63 3 0x80 12 []) 0xfd8 ≡ 0)
    × (number_at 0xfdc (header 1 3 63 0x80 12 []) 0xfdc ≡ 9)
    × (number_at 0xfdc (header 2 63 3 0x80 12 []) 0xfdc ≡ 8)
    × (number_at 0x100 (header 1 3 4 0x00 12 []) 0x100 ≡ 13)
    × (number_at 0x100 (header 1 3 3 0x80 11 []) 0x100 ≡ 13)
    × (number_at 0x100 (header 1 3 3 0x7f 11 []) 0x100 ≡ 0)
unfolding capability_says capability_number sized placed is_multicast clashes record_at
number_edges = (refl, refl, refl, refl, refl, refl, refl, refl, refl, refl)

-- every field by a number of its own, with the bits beside it set
pub field_edges : capability_says (space_at 0x100 (0x12 ∷ 0x00 ∷ 0xf1 ∷ 0xff ∷ 0xe5 ∷ 0xff ∷ 0xc4 ∷ 0xff
    ∷ 0xcd ∷ 0x2f ∷ 0x43 ∷ 0x65 ∷ 0x87 ∷ 0xa9 ∷ 0xcb ∷ 0xed
    ∷ 1 ∷ 2 ∷ 3 ∷ 4 ∷ 5 ∷ 6 ∷ 7 ∷ 8 ∷ 0x11 ∷ 0x12 ∷ 0x13 ∷ 0x14 ∷ 0x15 ∷ 0x16 ∷ 0x17 ∷ 0x18 ∷ [])) 0x100
    ≡ record { number = 0; fields = record { max_group = 0x25; num_group = 4; enable = 1; index = 0x0d; base = 0xedcba98765432000; receive = 0x0807060504030201; block_all = 0x1817161514131211 } }
unfolding capability_says capability_number sized placed is_multicast clashes record_at
field_edges = refl
