-- Fields of bytes and words, in the words of document 01: "bits 6:4" of a byte, words little-endian. Assumes nothing.
use Rattle.std.specs.Prelude.{ℕ, suc, ◌+◌, ◌-◌, ◌*◌, ◌/◌, ◌%◌, ◌^◌, cond, List, leb, length}
use Rattle.words.specs.Bytes.{byte}

-- bits high:low of a number, as a number
abbrev pub bits : ℕ → ℕ → ℕ → ℕ
bits high low n = (n / 2 ^ low) % 2 ^ (suc high - low)

-- bit k of a number, 0 or 1
abbrev pub bit : ℕ → ℕ → ℕ
bit k n = (n / 2 ^ k) % 2

-- "Words are little-endian": the word of four bytes, the lowest address first
abbrev pub joined : ℕ → ℕ → ℕ → ℕ → ℕ
joined first second third fourth = first + 256 * second + 65536 * third + 16777216 * fourth

-- the word at an offset
abbrev pub word : List ℕ → ℕ → ℕ
word s at = joined (byte s at) (byte s (at + 1)) (byte s (at + 2)) (byte s (at + 3))

-- what `words::word` answers for any offset
unfoldable pub word_or_zero : List ℕ → ℕ → ℕ
word_or_zero s at = cond (leb (at + 4) (length s)) (word s at) 0
