-- Document 01, "The completion": the bytes of a reply. Assumes nothing.
use Rattle.std.specs.Prelude.{ℕ, List, [], ◌∷◌, ◌++◌}
use Rattle.words.specs.Bytes.{byte}
use Rattle.packet.specs.declared.Id.{Id}
use Rattle.packet.specs.declared.Status.{Status}
use Rattle.packet.specs.declared.Status.TheVariants.{Success, Unsupported}

-- "Status byte: 00h success, 20h UR."
abbrev pub status_byte : Status → ℕ
status_byte Success = 0x00
status_byte Unsupported = 0x20

-- "completer ID, status byte, 04h, requester ID, tag, 00"
abbrev pub same_eight : Id → Status → Id → ℕ → List ℕ
same_eight completer status requester tag =
    completer.high ∷ completer.low ∷ status_byte status ∷ 0x04 ∷ requester.high ∷ requester.low ∷ tag ∷ 0x00 ∷ []

-- "Successful read, 16 bytes: 4Ah 00 00 01, [the eight], four data bytes."
unfoldable pub with_data : Id → Id → ℕ → List ℕ → List ℕ
with_data completer requester tag four =
    0x4a ∷ 0x00 ∷ 0x00 ∷ 0x01 ∷ (same_eight completer Success requester tag ++ (byte four 0 ∷ byte four 1 ∷ byte four 2 ∷ byte four 3 ∷ []))

-- "Otherwise 12 bytes: 0Ah 00 00 00, then the same eight without data."
unfoldable pub without_data : Id → Status → Id → ℕ → List ℕ
without_data completer status requester tag = 0x0a ∷ 0x00 ∷ 0x00 ∷ 0x00 ∷ same_eight completer status requester tag
