-- Document 02, 8/13: "Read the Multicast extended capability": the number and the fields of the one asked for at an offset. Assumes nothing.
use Rattle.std.specs.Prelude.{ℕ, ◌+◌, ◌*◌, ◌^◌, Bool, not, ◌&&◌, cond, List, [], ◌∷◌, eqb, leb, ltb, Result, Ok, Err}
use Rattle.answers.specs.Checks.{Check, check, first_that_applies, any}
use Rattle.answers.specs.declared.Refusal.{Refusal}
use Rattle.answers.specs.Numbers.{number_of}
use Rattle.words.specs.Bytes.{byte}
use Rattle.words.specs.Fields.{bits, bit, word}
use Rattle.words.specs.Places.{placed}
use Rattle.records.specs.Required.{all, required, sized}
use Rattle.multicast.specs.declared.Record.{Record}

-- a record is seven numbers
abbrev pub max_group : Record → ℕ
max_group fields = fields.max_group

abbrev pub num_group : Record → ℕ
num_group fields = fields.num_group

abbrev pub enable : Record → ℕ
enable fields = fields.enable

abbrev pub index : Record → ℕ
index fields = fields.index

abbrev pub base : Record → ℕ
base fields = fields.base

abbrev pub receive : Record → ℕ
receive fields = fields.receive

abbrev pub block_all : Record → ℕ
block_all fields = fields.block_all

-- these, in the order in which the request names them
abbrev pub numbers : Record → List ℕ
numbers fields =
    max_group fields ∷ num_group fields ∷ enable fields ∷ index fields ∷ base fields ∷ receive fields ∷ block_all fields ∷ []

-- "ID 0012h, version 1", of the header there: document 01, "ID 15:0, version 19:16"
unfoldable pub is_multicast : ℕ → Bool
is_multicast w = all (eqb (bits 15 0 w) 0x0012 ∷ eqb (bits 19 16 w) 0x1 ∷ [])

-- a number of 16 bits and one of 64: the lower address first, as document 01 has it of words
abbrev pub half_of : ℕ → ℕ → ℕ
half_of low high = low + 256 * high

abbrev pub half : List ℕ → ℕ → ℕ
half s at = half_of (byte s at) (byte s (at + 1))

abbrev pub long_of : ℕ → ℕ → ℕ
long_of low high = low + 4294967296 * high

abbrev pub long : List ℕ → ℕ → ℕ
long s at = long_of (word s at) (word s (at + 4))

-- "at +4 Max Group 5:0; at +6 Num Group 5:0 and Enable 15; at +8, 64 bits, Index Position 5:0 and base address 63:12; at +10h Receive and at +18h
-- Block All, 64 bits each": of what stands at these five places. The base address is its bits in their place
abbrev pub record_of : ℕ → ℕ → ℕ → ℕ → ℕ → Record
record_of maximum control window receive block_all = record {
  max_group = bits 5 0 maximum;
  num_group = bits 5 0 control;
  enable = bit 15 control;
  index = bits 5 0 window;
  base = bits 63 12 window * 2 ^ 12;
  receive = receive;
  block_all = block_all;
}

unfoldable pub record_at : List ℕ → ℕ → Record
record_at s at = record_of (half s (at + 4)) (half s (at + 6)) (long s (at + 8)) (long s (at + 0x10)) (long s (at + 0x18))

-- "while enabled"
abbrev pub is_enabled : Record → Bool
is_enabled fields = not (eqb (enable fields) 0)

-- "Num Group over Max Group, or index under 12 while enabled"
unfoldable pub clashes : Record → Bool
clashes fields = any (ltb (max_group fields) (num_group fields) ∷ (is_enabled fields && ltb (index fields) 12) ∷ [])

-- "asked for at the same offsets as a DVSEC", which document 01 has: a multiple of 4 from 100h to FFCh, else 1. "Not this structure: 8; fewer than 28h
-- bytes left: 9; [these two]: 13." What is required, in that order, and the number
abbrev pub capability_checks : List ℕ → ℕ → List Check
capability_checks s at =
    required (sized s) 1
    ∷ required (placed at 0x100 0xffc) 1
    ∷ required (is_multicast (word s at)) 8
    ∷ required (leb (at + 0x28) 0x1000) 9
    ∷ check 13 (clashes (record_at s at))
    ∷ []

unfoldable pub capability_number : List ℕ → ℕ → ℕ
capability_number s at = first_that_applies (capability_checks s at)

-- the number, and the seven fields
pub record CapabilityTold : Type 0 where
  pub number : ℕ
  pub fields : Record

-- "0 for every field of a record"
abbrev pub no_fields : Record
no_fields = record { max_group = 0; num_group = 0; enable = 0; index = 0; base = 0; receive = 0; block_all = 0 }

-- what an answer tells
abbrev pub tells_capability : Result Record Refusal → CapabilityTold
tells_capability (Ok fields) = record { number = 0; fields = fields }
tells_capability (Err refusal) = record { number = number_of refusal; fields = no_fields }

-- what the request says of the capability asked for
unfoldable pub capability_says : List ℕ → ℕ → CapabilityTold
capability_says s at =
    record { number = capability_number s at; fields = cond (eqb (capability_number s at) 0) (record_at s at) no_fields }
