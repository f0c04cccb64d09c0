-- Document 02, 10/13: "An accepted layout is then written as headers into a lent space, changing header words only". What `write` promises. Assumes nothing.
use Rattle.std.specs.Prelude.{ℕ, suc, ◌+◌, ◌*◌, ◌/◌, ◌%◌, ◌^◌, ◌≤◌, ◌<◌, true, false, List, [], ◌∷◌, ◌⊎◌, ◌≡◌, length, Result, ⊤}
use Rattle.answers.specs.Numbers.{answered}
use Rattle.answers.specs.declared.Refusal.{Refusal}
use Rattle.words.specs.Bytes.{byte, four}
use Rattle.layout.specs.declared.Structure.{Structure}
use Rattle.layout.specs.Structures.{identity, version, structure_at, are_bad}
use Rattle.layout.specs.Accepting.{offset_at, Acceptable, Refuses}

-- document 01, "ID 15:0, version 19:16, next 31:20": the header of a structure that points to an offset
abbrev pub header_word : Structure → ℕ → ℕ
header_word structure next = identity structure + 2 ^ 16 * version structure + 2 ^ 20 * next

-- "Words are little-endian": the four bytes of a word, the lowest address first
abbrev pub four_of : ℕ → List ℕ
four_of w = w % 256 ∷ w / 256 % 256 ∷ w / 65536 % 256 ∷ w / 16777216 % 256 ∷ []

-- the pointer of structure k: to the one behind it, and 0 in the last, "the last pointing to 0"
abbrev pub next_at : List ℕ → ℕ → ℕ
next_at offsets k = offset_at offsets (suc k)

-- a byte of a header word
pub record InHeader (offsets : List ℕ) (place : ℕ) : Type 0 where
  pub which : ℕ
  pub one : which < length offsets
  pub from : offset_at offsets which ≤ place
  pub before : place < offset_at offsets which + 4

-- a space with these headers written into it: "changing header words only"
pub record Written (structures : List Structure) (offsets s after : List ℕ) : Type 0 where
  pub sized : length after ≡ length s
  pub headers : (k : ℕ) → k < length offsets → four after (offset_at offsets k) ≡ four_of (header_word (structure_at structures k) (next_at offsets k))
  pub others : (place : ℕ) → (InHeader offsets place → ⊥) → byte after place ≡ byte s place

-- the promise of `write`: 1 the space or the structures, 18 "One the checker doesn't accept is refused there with 18 and changes nothing", 0 the headers are written
pub data Writes (structures : List Structure) (offsets s : List ℕ) (r : Result ⊤ Refusal) (after : List ℕ) : Type 0 where
  misdescribed : (length s ≡ 4096 → ⊥) ⊎ (are_bad structures ≡ true) → Refuses 1 s r after → Writes structures offsets s r after
  unaccepted : length s ≡ 4096 → are_bad structures ≡ false → (Acceptable structures offsets → ⊥) → Refuses 18 s r after
      → Writes structures offsets s r after
  written : length s ≡ 4096 → are_bad structures ≡ false → Acceptable structures offsets → answered r ≡ 0 → Written structures offsets s after
      → Writes structures offsets s r after
