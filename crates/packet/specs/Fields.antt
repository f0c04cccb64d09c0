-- Document 01, "The packet": "Bytes as sent". Assumes nothing.
use Rattle.std.specs.Prelude.{ℕ, ◌+◌, ◌*◌, Bool, true, false, not, ◌&&◌, cond, List, [], ◌∷◌, Option, Some, None, eqb}
use Rattle.answers.specs.Checks.{any}
use Rattle.words.specs.Bytes.{byte, four}
use Rattle.words.specs.Fields.{bits, bit}
use Rattle.packet.specs.declared.Id.{Id}
use Rattle.packet.specs.declared.Access.{Access}
use Rattle.packet.specs.declared.Target.{Target}
use Rattle.packet.specs.declared.Target.TheVariants.{Type0, Type1, Trusted}

-- "0: bit 7 reserved and ignored; bits 6 to 0 the type code."
abbrev pub type_code : ℕ → ℕ
type_code first = bits 6 0 first

-- 02, 9/13, "The board description gets an edition", in the place of "ignored": "1 ignores bit 7 as now, 2 gives answer 4 when it is set.": whether
-- byte 0 has the bit set; whether an edition refuses a packet for it
abbrev pub bit7_set : ℕ → Bool
bit7_set first = eqb (bit 7 first) 1

abbrev pub refuses_bit7 : ℕ → ℕ → Bool
refuses_bit7 edition first = eqb edition 2 && bit7_set first

-- "1: bits 6:4 TC."
abbrev pub traffic : ℕ → ℕ
traffic one = bits 6 4 one

-- "2: bit 7 digest present, bit 6 poisoned, bits 5:4 Attr, bits 1:0 with byte 3 the Length."
abbrev pub digest : ℕ → ℕ
digest two = bit 7 two

abbrev pub poison : ℕ → ℕ
poison two = bit 6 two

abbrev pub attributes : ℕ → ℕ
attributes two = bits 5 4 two

abbrev pub length_field : ℕ → ℕ → ℕ
length_field two three = 256 * bits 1 0 two + three

-- "4, 5 requester ID; 6 tag; 7: bits 7:4 last enables, bits 3:0 first enables."
abbrev pub requester_of : List ℕ → Id
requester_of p = record { high = byte p 4; low = byte p 5 }

abbrev pub last_enables : ℕ → ℕ
last_enables seven = bits 7 4 seven

abbrev pub first_enables : ℕ → ℕ
first_enables seven = bits 3 0 seven

-- "8 bus; 9: bits 7:3 device, bits 2:0 function."
abbrev pub device_of : ℕ → ℕ
device_of nine = bits 7 3 nine

abbrev pub function_of : ℕ → ℕ
function_of nine = bits 2 0 nine

-- "10: bits 3:0, 11: bits 7:2. Offset = 256 × (byte 10 mod 16) + 4 × floor(byte 11 / 4)."
abbrev pub offset_of : ℕ → ℕ → ℕ
offset_of ten eleven = 256 * bits 3 0 ten + 4 * bits 7 2 eleven

-- the four data bytes of a write
abbrev pub data_of : List ℕ → List ℕ
data_of p = four p 12

-- what a served type code stands for: whether it writes, and where it goes
abbrev pub known : Bool → Target → Option Access
known writes target = Some (record { writes = writes; target = target })

-- "Six type codes are served: 04h and 44h (read, write, Type 0), 05h and 45h (read, write, Type 1), 1Bh and 5Bh (trusted read, write)."
unfoldable pub type_of : ℕ → Option Access
type_of code =
    cond (eqb code 0x04) (known false Type0)
    (cond (eqb code 0x44) (known true Type0)
    (cond (eqb code 0x05) (known false Type1)
    (cond (eqb code 0x45) (known true Type1)
    (cond (eqb code 0x1b) (known false Trusted)
    (cond (eqb code 0x5b) (known true Trusted)
    None)))))

-- "TC, Attr and last enables must be 0 and Length must be 1, else 6.": bytes 1, 2, 3 and 7
abbrev pub wrong_field : ℕ → ℕ → ℕ → ℕ → Bool
wrong_field one two three seven =
    any (not (eqb (traffic one) 0) ∷ not (eqb (attributes two) 0) ∷ not (eqb (last_enables seven) 0) ∷ not (eqb (length_field two three) 1) ∷ [])

-- "The whole packet is 12 bytes, plus 4 data bytes for a write, plus 4 if the digest bit is set": whether it writes, and byte 2
abbrev pub whole_length : Bool → ℕ → ℕ
whole_length writes two = 12 + cond writes 4 0 + 4 * digest two
