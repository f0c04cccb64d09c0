-- Document 01, "The listing program": its text as bytes, its digits and its lines. Assumes nothing.
use Prim.Native.Char.{code}
use Rattle.std.specs.Prelude.{ℕ, zero, suc, ◌/◌, ◌%◌, ◌^◌, cond, List, [], ◌∷◌, ◌++◌, ltb, get_or}
use Prim.Native.String.{String}
use Prim.Native.String as string

-- the bytes of a text: a byte for each of its characters
abbrev pub ascii : String → List ℕ
ascii string.[] = []
ascii (string.◌∷◌ character rest) = code character ∷ ascii rest

-- "Each line ends with byte 0Ah."
abbrev pub line : List ℕ → List ℕ
line text = text ++ 0x0a ∷ []

-- "upper-case digits"
unfoldable pub digit : ℕ → ℕ
digit n = get_or (ascii "0123456789ABCDEF") n 0

-- a number in so many digits of a base, the most significant first
abbrev pub digits : ℕ → ℕ → ℕ → List ℕ
digits base zero n = []
digits base (suc k) n = digit (n / base ^ k % base) ∷ digits base k n

-- "offsets, IDs and the version are hex in three, two or four, and one upper-case digits"
abbrev pub hex : ℕ → ℕ → List ℕ
hex k n = digits 16 k n

-- "Counts are decimal": in as few digits as hold the number, and no count is over 960
abbrev pub figures : ℕ → ℕ
figures n = cond (ltb n 10) 1 (cond (ltb n 100) 2 3)

unfoldable pub decimal : ℕ → List ℕ
decimal n = digits 10 (figures n) n
