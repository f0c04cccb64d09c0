-- Document 02, 5/13, the reader: "Then read completions back: success with data, success without, UR." Assumes nothing.
use Rattle.std.specs.Prelude.{ℕ, Bool, not, cond, ◌||◌, ◌&&◌, List, [], ◌∷◌, ◌≡◌, Result, Ok, Err, eqb, ltb, length}
use Rattle.answers.specs.declared.Refusal.{Refusal}
use Rattle.answers.specs.Checks.{Check, check, first_that_applies, any}
use Rattle.answers.specs.Numbers.{number_of}
use Rattle.words.specs.Bytes.{byte, four}
use Rattle.packet.specs.declared.Status.TheVariants.{Success, Unsupported}
use Rattle.packet.specs.Completion.{status_byte}
use Rattle.asking.specs.declared.Said.{Said}
use Rattle.asking.specs.declared.Said.TheVariants.{Shown, Done}
use Rattle.asking.specs.declared.Said.TheVariants as said
use Rattle.asking.specs.declared.Completion.{Completion}

-- a completion has data, by its first byte
abbrev pub has_data : List ℕ → Bool
has_data c = eqb (byte c 0) 0x4a

-- a status byte that no reply has, with data or without: document 01, "Successful read [4Ah ..] Otherwise [0Ah ..] Status byte: 00h success, 20h UR."
abbrev pub other_status : Bool → ℕ → Bool
other_status with_data six = not (eqb six (status_byte Success)) && (with_data || not (eqb six (status_byte Unsupported)))

-- "6 any other byte that no reply of document 01 with that first byte has at its place": with data or without, the bytes 1, 2, 3, 6, 7 and 11. That these
-- are the places where a reply has not every byte, and which bytes it has there, is shown over the board: circle/proofs/Exactly.antt
abbrev pub other_bytes : Bool → ℕ → ℕ → ℕ → ℕ → ℕ → ℕ → List Bool
other_bytes with_data one two three six seven eleven =
    not (eqb one 0x00)
    ∷ not (eqb two 0x00)
    ∷ not (eqb three (cond with_data 1 0))
    ∷ other_status with_data six
    ∷ not (eqb seven 0x04)
    ∷ not (eqb eleven 0x00)
    ∷ []

abbrev pub never_sent_at : Bool → ℕ → ℕ → ℕ → ℕ → ℕ → ℕ → Bool
never_sent_at with_data one two three six seven eleven = any (other_bytes with_data one two three six seven eleven)

abbrev pub never_sent : List ℕ → Bool
never_sent c = never_sent_at (has_data c) (byte c 1) (byte c 2) (byte c 3) (byte c 6) (byte c 7) (byte c 11)

-- "Refused, lowest first: 3 under 12 bytes; 4 a first byte other than 4Ah and 0Ah; 5 a length other than 16 or 12 for that byte; 6 [as above]"
abbrev pub read_checks : List ℕ → List Check
read_checks c =
    check 3 (ltb (length c) 12)
    ∷ check 4 (not (eqb (byte c 0) 0x4a || eqb (byte c 0) 0x0a))
    ∷ check 5 (not (eqb (length c) (cond (has_data c) 16 12)))
    ∷ check 6 (never_sent c)
    ∷ []

abbrev pub read_number : List ℕ → ℕ
read_number c = first_that_applies (read_checks c)

-- "success with data, success without, UR"
abbrev pub said_by : List ℕ → Said
said_by c = cond (has_data c) (Shown (four c 12)) (cond (eqb (byte c 6) (status_byte Success)) Done said.Unsupported)

-- the completion that bytes without a fault are
unfoldable pub completion_of : List ℕ → Completion
completion_of c =
    record {
      completer = record { high = byte c 4; low = byte c 5 };
      requester = record { high = byte c 8; low = byte c 9 };
      tag = byte c 10;
      said = said_by c;
    }

-- the promise of `asking::read_completion`: the completion, or the refusal with the lowest number
abbrev pub Reads : List ℕ → Result Completion Refusal → Type 0
Reads c (Ok completion) = (read_number c ≡ 0) × (completion ≡ completion_of c)
Reads c (Err refusal) = read_number c ≡ number_of refusal
