-- Document 01, "The access": "The merge takes four data bytes, four rule bytes and four enables (enable bit 0 is the byte at the
-- lowest address)."; with document 02, 6/13, "Bits cleared by writing one", also four bytes of marks. Assumes nothing.
use Rattle.std.specs.Prelude.{ℕ, zero, suc, ◌+◌, ◌*◌, ◌/◌, ◌%◌, ◌^◌, Bool, cond, List, [], ◌∷◌, eqb}
use Rattle.words.specs.Bytes.{byte}
use Rattle.words.specs.Fields.{bit}

-- "takes the data bit where the rule bit is 1 and keeps the old bit where it is 0": the rule bit, the old bit, the data bit
abbrev pub merged_bit : ℕ → ℕ → ℕ → ℕ
merged_bit zero old new = old
merged_bit (suc one) old new = new

-- 02, 6/13: "A marked bit becomes 0 if the enabled data bit is 1, else stays.": its mark, the data bit, the bit that it would be without a mark
abbrev pub cleared_bit : ℕ → ℕ → ℕ → ℕ
cleared_bit zero new unmarked = unmarked
cleared_bit (suc one) zero unmarked = unmarked
cleared_bit (suc one) (suc set) unmarked = 0

-- the rule bit, the mark, the old bit, the data bit. No bit of a well-described board has both a rule and a mark; here one that has is cleared last
abbrev pub written_bit : ℕ → ℕ → ℕ → ℕ → ℕ
written_bit rule mark old new = cleared_bit mark new (merged_bit rule old new)

-- the number whose bit k is `f k`, for each k below n
abbrev pub from_bits : (ℕ → ℕ) → ℕ → ℕ
from_bits f zero = 0
from_bits f (suc k) = from_bits f k + 2 ^ k * f k

-- the old byte, the rule byte, the marks, the data byte: the eight written bits
unfoldable pub merged_byte : ℕ → ℕ → ℕ → ℕ → ℕ
merged_byte old rule mark new = from_bits (λ k. written_bit (bit k rule) (bit k mark) (bit k old) (bit k new)) 8

-- the lowest enable is set; the byte at place k is enabled
abbrev pub lowest_set : ℕ → Bool
lowest_set enables = eqb (enables % 2) 1

abbrev pub enabled : ℕ → ℕ → Bool
enabled k enables = lowest_set (enables / 2 ^ k)

-- "For an enabled byte, a write takes ..": the byte at place k. "A byte not enabled stays."
abbrev pub written_byte : ℕ → List ℕ → List ℕ → List ℕ → List ℕ → ℕ → ℕ
written_byte enables old rules marks new k =
    cond (enabled k enables) (merged_byte (byte old k) (byte rules k) (byte marks k) (byte new k)) (byte old k)

-- the merge: old bytes, rule bytes, marks, data bytes, enables
unfoldable pub merged : List ℕ → List ℕ → List ℕ → List ℕ → ℕ → List ℕ
merged old rules marks new enables =
    let at = written_byte enables old rules marks new in
    at 0 ∷ at 1 ∷ at 2 ∷ at 3 ∷ []
