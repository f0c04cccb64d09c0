-- What the inner functions of this crate ask of each other; no entry's promise rests on it. Assumes nothing.
use Rattle.std.specs.Prelude.{ℕ, ◌≤◌, Bool, not, cond, List, [], ◌∷◌, ◌++◌, ◌≡◌, Option, Some, None, eqb, length, drop}
use Rattle.answers.specs.Checks.{any}
use Rattle.words.specs.Bytes.{byte, fits}
use Rattle.asking.specs.declared.Parts.{Parts}
use Rattle.asking.specs.declared.Said.{Said}
use Rattle.asking.specs.Writing.{SeenWritten}
use Rattle.asking.specs.Reading.{other_status, said_by}

-- what the check 1 leaves that the header's bytes need
pub record Inside (a : Parts) : Type 0 where
  pub device : a.device ≤ 31
  pub function : a.function ≤ 7
  pub offset : a.offset ≤ 0xffc

-- what bytes put into a buffer show: 0 and the bytes, or 2 where they do not fit: the bytes, the buffer as lent
abbrev pub shows_put : List ℕ → List ℕ → SeenWritten
shows_put bytes buffer =
    cond (fits buffer 0 bytes)
    (record { number = 0; count = length bytes; buffer = bytes ++ drop (length bytes) buffer })
    (record { number = 2; count = 0; buffer = buffer })

-- what the checks 3 and 4 leave: twelve bytes, of which the first is 4Ah or 0Ah
pub record Begun (c : List ℕ) (with_data : Bool) : Type 0 where
  pub long : 12 ≤ length c
  pub first : byte c 0 ≡ cond with_data 0x4a 0x0a

-- and what the check 5 leaves
pub record Whole (c : List ℕ) (with_data : Bool) : Type 0 where
  pub long : 12 ≤ length c
  pub first : byte c 0 ≡ cond with_data 0x4a 0x0a
  pub size : length c ≡ cond with_data 16 12

-- a byte, but for the status, that no reply has at its place
abbrev pub misplaced : List ℕ → Bool → Bool
misplaced c with_data =
    any (not (eqb (byte c 1) 0x00) ∷ not (eqb (byte c 2) 0x00) ∷ not (eqb (byte c 3) (cond with_data 1 0)) ∷ not (eqb (byte c 7) 0x04) ∷ not (eqb (byte c 11) 0x00) ∷ [])

-- and what its status says, where a reply has it
abbrev pub says : List ℕ → Bool → Option Said
says c with_data = cond (other_status with_data (byte c 6)) None (Some (said_by c))
