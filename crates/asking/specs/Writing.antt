-- Document 02, 5/13, the writer: "from kind, requester, tag, target, offset, enables and data (ignored for a read), write the 12 or 16 bytes into a
-- lent buffer". Assumes nothing.
use Rattle.std.specs.Prelude.{ℕ, zero, suc, ◌+◌, ◌*◌, ◌/◌, ◌%◌, Bool, not, cond, List, [], ◌∷◌, ◌++◌, ◌≡◌, Result, Ok, Err, eqb, ltb, length, drop}
use Rattle.answers.specs.declared.Refusal.{Refusal}
use Rattle.answers.specs.Checks.{Check, check, first_that_applies, any}
use Rattle.answers.specs.Numbers.{number_of}
use Rattle.words.specs.Bytes.{four}
use Rattle.packet.specs.Fields.{type_of}
use Rattle.packet.specs.Request.{unknown, writes_of}
use Rattle.asking.specs.declared.Parts.{Parts}

-- "Refuse with 1 [..] a device over 31, a function over 7, an offset over FFCh or not a multiple of 4, or enables over 15"
abbrev pub out_of_range : Parts → List Bool
out_of_range a =
    ltb 31 a.device
    ∷ ltb 7 a.function
    ∷ ltb 0xffc a.offset
    ∷ not (eqb (a.offset % 4) 0)
    ∷ ltb 15 a.enables
    ∷ []

-- "a kind outside the six": the kind is document 01's type code, with no bit ignored (DECISIONS 50); or one of those above
abbrev pub outside : Parts → List Bool
outside a = unknown (type_of a.kind) ∷ out_of_range a

-- a write, by its kind
abbrev pub asks_write : Parts → Bool
asks_write a = writes_of (type_of a.kind)

-- "the 12 or 16 bytes"
abbrev pub whole_of : Parts → ℕ
whole_of a = cond (asks_write a) 16 12

-- "after that, refuse with 2 a buffer shorter than those bytes": the parts, the buffer's size
abbrev pub write_checks : Parts → ℕ → List Check
write_checks a size = check 1 (any (outside a)) ∷ check 2 (ltb size (whole_of a)) ∷ []

abbrev pub write_number : Parts → ℕ → ℕ
write_number a size = first_that_applies (write_checks a size)

-- document 01, "Bytes as sent", with the "digest bit clear, reserved bits 0": the type code; TC, digest, poison and Attr 0, and a Length of 1;
-- requester ID and tag; last enables 0 with the first enables; bus, device and function; the offset in two bytes
unfoldable pub header_of : Parts → List ℕ
header_of a =
    a.kind ∷ 0 ∷ 0 ∷ 1
    ∷ a.requester.high ∷ a.requester.low ∷ a.tag ∷ a.enables
    ∷ a.bus ∷ (a.device * 8 + a.function) ∷ (a.offset / 256) ∷ (a.offset % 256)
    ∷ []

-- "data (ignored for a read)": the bytes of the request, with the four data bytes of a write
unfoldable pub packet_of : Parts → List ℕ → List ℕ
packet_of a new = header_of a ++ cond (asks_write a) (four new 0) []

-- what is written: nothing where it is refused
abbrev pub written_by : ℕ → Parts → List ℕ → List ℕ
written_by zero a new = packet_of a new
written_by (suc n) a new = []

-- as answered: the number and the count of bytes written; and the lent buffer
pub record SeenWritten : Type 0 where
  pub number : ℕ
  pub count : ℕ
  pub buffer : List ℕ

abbrev pub told_written : Result ℕ Refusal → List ℕ → SeenWritten
told_written (Ok count) after = record { number = 0; count = count; buffer = after }
told_written (Err refusal) after = record { number = number_of refusal; count = 0; buffer = after }

-- what it should show: bytes past the written ones stay as lent, all of them where it is refused
unfoldable pub shows_written : Parts → List ℕ → List ℕ → SeenWritten
shows_written a new buffer =
    let n = write_number a (length buffer) in
    let bytes = written_by n a new in
    record { number = n; count = length bytes; buffer = bytes ++ drop (length bytes) buffer }

-- the promise of `asking::write_request`: the parts, the data and the buffer as lent, the result, and the buffer at its end
abbrev pub Writes : Parts → List ℕ → List ℕ → Result ℕ Refusal → List ℕ → Type 0
Writes a new buffer r after = told_written r after ≡ shows_written a new buffer
