-- Laws of the record that stands at an offset of a space, by the parts that the code reads. Assumes nothing.
use Prim.Native.Nat.{ℕ, ◌+◌, ◌*◌}
use mathlib.Core.List.{List}
use mathlib.Core.Path.{◌≡◌, ap, ap₂, ◌∙◌}
use native.Mathlib.Omega.{arith}
use lib.ListN.{get_or}
use Rattle.words.specs.Bytes.{byte, four}
use Rattle.words.specs.Fields.{joined}
use Rattle.multicast.specs.declared.Record.{Record}
use Rattle.multicast.specs.Capability.{half_of, half, long_of, long, record_of, record_at}

-- the number of eight bytes, the lowest first, by the lower four and the higher
abbrev pub number : List ℕ → List ℕ → ℕ
number low high =
    get_or low 0 0 + get_or low 1 0 * 256 + get_or low 2 0 * 65536 + get_or low 3 0 * 16777216 + get_or high 0 0 * 4294967296
    + get_or high 1 0 * 1099511627776
    + get_or high 2 0 * 281474976710656
    + get_or high 3 0 * 72057594037927936

module _ (s : List ℕ) (at : ℕ) where
  -- the two registers of 16 bits, of the four bytes that are read at once
  pub first_half : {counts : List ℕ} {n : ℕ} → counts ≡ four s (at + 4) → n ≡ get_or counts 0 0 + get_or counts 1 0 * 256 → n ≡ half s (at + 4)
  first_half e is = is ∙ ap (λ (bytes : List ℕ). get_or bytes 0 0 + get_or bytes 1 0 * 256) e ∙ joins (byte s (at + 4)) (byte s (at + 4 + 1))
    where
      joins : (low high : ℕ) → low + high * 256 ≡ half_of low high
      joins low high = omega arith

  pub second_half : {counts : List ℕ} {n : ℕ} → counts ≡ four s (at + 4) → n ≡ get_or counts 2 0 + get_or counts 3 0 * 256 → n ≡ half s (at + 6)
  second_half e is = is ∙ ap (λ (bytes : List ℕ). get_or bytes 2 0 + get_or bytes 3 0 * 256) e ∙ joins (at + 4 + 2) (at + 4 + 3) (omega arith) (omega arith)
    where
      joins : (i j : ℕ) → i ≡ at + 6 → j ≡ at + 6 + 1 → byte s i + byte s j * 256 ≡ half s (at + 6)
      joins i j e f = rw (e, f) (omega arith)

  -- a register of 64 bits, of eight bytes that are read in two fours
  pub long_stands : {low high : List ℕ} {n : ℕ} → low ≡ four s at → high ≡ four s (at + 4) → n ≡ number low high → n ≡ long s at
  long_stands e f is =
      is ∙ ap₂ number e f
      ∙ joins (byte s at) (byte s (at + 1)) (byte s (at + 2)) (byte s (at + 3)) (byte s (at + 4)) (byte s (at + 4 + 1)) (byte s (at + 4 + 2)) (byte s (at + 4 + 3))
    where
      joins : (a b c d e f g h : ℕ)
          → a + b * 256 + c * 65536 + d * 16777216 + e * 4294967296 + f * 1099511627776 + g * 281474976710656 + h * 72057594037927936
          ≡ long_of (joined a b c d) (joined e f g h)
      joins a b c d e f g h = omega arith

  pub record_stands : {maximum control window receive block_all : ℕ} {r : Record} → r ≡ record_of maximum control window receive block_all
      → maximum ≡ half s (at + 4) → control ≡ half s (at + 6) → window ≡ long s (at + 8) → receive ≡ long s (at + 0x10) → block_all ≡ long s (at + 0x18)
      → r ≡ record_at s at
  unfolding record_at
  record_stands e a b c d f = rw (e, a, b, c, d, f)
