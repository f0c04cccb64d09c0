-- Bytes of a space, as document 01 speaks of them: the byte at an offset, the four bytes at an offset, a space with bytes put at an
-- offset. Assumes nothing.
use Rattle.std.specs.Prelude.{ℕ, ◌+◌, Bool, cond, ◌≡◌, List, [], ◌∷◌, ◌++◌, leb, length, get_or, take, drop}

-- the byte at an offset
abbrev pub byte : List ℕ → ℕ → ℕ
byte s at = get_or s at 0

-- the four bytes at an offset, the lowest address first
abbrev pub four : List ℕ → ℕ → List ℕ
four s at = byte s at ∷ byte s (at + 1) ∷ byte s (at + 2) ∷ byte s (at + 3) ∷ []

-- a space with some bytes at an offset, and every other byte as it was
abbrev pub put : List ℕ → ℕ → List ℕ → List ℕ
put s at bytes = take at s ++ bytes ++ drop (at + length bytes) s

-- all of the bytes lie in the space
abbrev pub fits : List ℕ → ℕ → List ℕ → Bool
fits s at bytes = leb (at + length bytes) (length s)

-- what `words::four` answers for any offset
unfoldable pub four_or_zero : List ℕ → ℕ → List ℕ
four_or_zero s at = cond (leb (at + 4) (length s)) (four s at) (0 ∷ 0 ∷ 0 ∷ 0 ∷ [])

-- what `words::put` says and leaves for any offset
pub record Puts (s : List ℕ) (at : ℕ) (bytes : List ℕ) (said : Bool) (after : List ℕ) : Type 0 where
  pub fitted : said ≡ fits s at bytes
  pub left : after ≡ cond (fits s at bytes) (put s at bytes) s
