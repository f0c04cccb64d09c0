-- Document 01, "Three lists": the table. Each list is described by its start, its header, its floor and its maximum. Assumes nothing.
use Rattle.std.specs.Prelude.{ℕ, ◌+◌, Bool, cond, List, eqb}
use Rattle.words.specs.Bytes.{byte}
use Rattle.words.specs.Fields.{bit, bits, word}
use Rattle.lists.specs.declared.Kind.{Kind}
use Rattle.lists.specs.declared.Kind.TheVariants.{Compatible, Extended, Trusted}

-- the pointer to the first header, the pointer in the header at an offset, the floor and the maximum
pub record ListRule : Type 0 where
  pub start : List ℕ → ℕ
  pub next : List ℕ → ℕ → ℕ
  pub floor : ℕ
  pub maximum : ℕ

-- "a list that the table calls empty counts as having start 0, whatever its pointers hold"
abbrev pub unless_empty : Bool → ℕ → ℕ
unless_empty empty start = cond empty 0 start

-- "byte 34h; empty if byte 06h bit 4 is 0"
unfoldable pub compatible_start : List ℕ → ℕ
compatible_start s = unless_empty (eqb (bit 4 (byte s 0x06)) 0) (byte s 0x34)

-- "100h; empty if the ID there is 0000h", which document 02, 2/13, corrects: "the extended list is empty only if the whole word at 100h is zero.
-- Otherwise the structure is listed with ID 0000h."
unfoldable pub extended_start : List ℕ → ℕ
extended_start s = unless_empty (eqb (word s 0x100) 0) 0x100

-- "bits 11:0 of the word at 004h"
unfoldable pub trusted_start : List ℕ → ℕ
trusted_start s = bits 11 0 (word s 0x004)

-- "ID byte, next byte"
unfoldable pub compatible_next : List ℕ → ℕ → ℕ
compatible_next s at = byte s (at + 1)

-- "next 31:20"
unfoldable pub extended_next : List ℕ → ℕ → ℕ
extended_next s at = bits 31 20 (word s at)

-- "compatible … 040h, 48"; "extended … 100h, 960"; "trusted … as extended … 008h, 1,022"
abbrev pub describe : Kind → ListRule
describe Compatible = record { start = compatible_start; next = compatible_next; floor = 0x040; maximum = 48 }
describe Extended = record { start = extended_start; next = extended_next; floor = 0x100; maximum = 960 }
describe Trusted = record { start = trusted_start; next = extended_next; floor = 0x008; maximum = 1022 }
