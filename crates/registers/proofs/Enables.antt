-- The enables as a mask of four bytes, and rule and marks under it: a merge without a test of an enable does what the documents say. Assumes nothing.
use Prim.Native.Nat.{ℕ, zero, suc, ◌+◌, ◌*◌, ◌/◌, ◌%◌, ◌^◌, ◌≤◌, ◌<◌}
use mathlib.Core.Bool.{Bool, true, false, cond}
use mathlib.Core.List.{List, [], ◌∷◌}
use mathlib.Core.Path.{◌≡◌, refl, sym, ap, ap₂, ◌∙◌}
use native.Mathlib.Nat.{mod-lt, zero-lt-suc, mul-le-mul, lt_of_le_of_lt}
use native.Mathlib.Omega.{arith}
use lib.Dec.{eqb}
use lib.Bits.{bit_and, and_mask, and_high, and_block, and_le_l, and_le_r, and_zero_r, or_zero_r}
use Rattle.words.specs.Fields.{bit, joined}
use Rattle.registers.specs.Merge.{lowest_set, enabled, merged_byte}
use Rattle.std.specs.Int.{w32, to_le_bytes}
use Rattle.registers.specs.Inner.{mask_of, enabled_bytes}
use Rattle.registers.proofs.Masks.{masks_merge}

-- a number's four bytes, the lowest first
abbrev apart : ℕ → List ℕ
apart n = n % 0x100 ∷ n / 0x100 % 0x100 ∷ n / 0x10000 % 0x100 ∷ n / 0x1000000 ∷ []

-- what the code makes of the enables: four copies, each seven bits above the one before, of these bits 0, 8, 16 and 24, and 255 times that
abbrev mask : ℕ → ℕ
mask enables = bit_and (enables % 16 * 0x00204081) 0x01010101 * 255

-- the statements. Its bytes are the masks of the four enables
abbrev pub MaskApart : Type 0
MaskApart = (enables : ℕ) → apart (mask enables) ≡ enabled_bytes enables

-- and rule and marks under such a mask give the merged byte where it is enabled, and else leave the old one
abbrev pub RuleUnderMask : Type 0
RuleUnderMask = (old rule mark new : ℕ) → old < 256 → rule < 256 → mark < 256 → new < 256 → (enable : Bool)
    → merged_byte old (bit_and rule (mask_of enable)) (bit_and mark (mask_of enable)) new ≡ cond enable (merged_byte old rule mark new) old

-- of the four copies, each seven bits above the one before, the k-th keeps enable bit k: that is bit 8k of all
lowest : (n : ℕ) → n < 128 → bit_and (n * 0x00204081) 0x01010101 ≡ joined (bit 0 n) (bit 1 n) (bit 2 n) (bit 3 n)
lowest n h =
    ap (λ (x : ℕ). bit_and x 0x01010101) copies
    ∙ above ((n * 128 + n) * 128 + n) ((8 * 128 + 4) * 128 + 2) 1 (omega arith)
    ∙ rw (above (n * 128 + n) (8 * 128 + 4) 2 (omega arith), above n 8 4 (omega arith), and_high n 1 3, and_high n 1 2, and_high n 1 1, and_mask n 1) (omega arith)
  where
    copies : n * 0x00204081 ≡ ((n * 128 + n) * 128 + n) * 128 + n
    copies = omega arith

    above : (x m one : ℕ) → one < 128 → bit_and (x * 128 + n) (m * 128 + one) ≡ bit_and x m * 128 + bit_and n one
    above x m one small = and_block 7 x m n one h small

-- four bytes fit a word, and its highest byte is one
pub mask_fits : (copies by : ℕ) → by ≤ 255 → bit_and copies 0x01010101 * by < 0x100000000
mask_fits copies by small = lt_of_le_of_lt (mul-le-mul (and_le_r copies 0x01010101) small) (omega arith)

-- the library's four bytes of a number that has no more
pub bytes_apart : (n : ℕ) → n < 0x100000000 → to_le_bytes w32 n ≡ apart n
bytes_apart n small = ap (λ (highest : ℕ). n % 0x100 ∷ n / 0x100 % 0x100 ∷ n / 0x10000 % 0x100 ∷ highest ∷ []) (omega arith)

-- four bytes, joined and taken apart again
module _ (a b c d : ℕ) (ha : a < 256) (hb : b < 256) (hc : c < 256) (hd : d < 256) where
  first : joined a b c d % 0x100 ≡ a
  first = omega arith

  second : joined a b c d / 0x100 % 0x100 ≡ b
  second = omega arith

  third : joined a b c d / 0x10000 % 0x100 ≡ c
  third = omega arith

  fourth : joined a b c d / 0x1000000 ≡ d
  fourth = omega arith

  joined_apart : apart (joined a b c d) ≡ a ∷ b ∷ c ∷ d ∷ []
  joined_apart = simp (first, second, third, fourth)

-- a bit as a byte of its own
filled : (n : ℕ) → n % 2 * 255 ≡ mask_of (lowest_set n)
filled n = go (n % 2) (mod-lt n (zero-lt-suc 1))
  where
    go : (b : ℕ) → b < 2 → b * 255 ≡ mask_of (eqb b 1)
    go zero h = refl
    go (suc zero) h = refl
    go (suc (suc b)) h = absurd (omega arith)

-- the enables are the four lowest bits
low : (k n : ℕ) → k < 4 → bit k (n % 16) ≡ bit k n
low zero n h = omega arith
low (suc zero) n h = omega arith
low (suc (suc zero)) n h = omega arith
low (suc (suc (suc zero))) n h = omega arith
low (suc (suc (suc (suc k)))) n h = absurd (omega arith)

scaled : (a b c d : ℕ) → joined a b c d * 255 ≡ joined (a * 255) (b * 255) (c * 255) (d * 255)
scaled a b c d = omega arith

module _ (enables : ℕ) where
  byte_at : (k : ℕ) → k < 4 → bit k (enables % 16) * 255 ≡ mask_of (enabled k enables)
  byte_at k h = ap (λ (b : ℕ). b * 255) (low k enables h) ∙ filled (enables / 2 ^ k)

  mask_joins : mask enables ≡ joined (mask_of (enabled 0 enables)) (mask_of (enabled 1 enables)) (mask_of (enabled 2 enables)) (mask_of (enabled 3 enables))
  mask_joins =
      ap (λ (x : ℕ). x * 255) (lowest (enables % 16) (omega arith))
      ∙ scaled (bit 0 (enables % 16)) (bit 1 (enables % 16)) (bit 2 (enables % 16)) (bit 3 (enables % 16))
      ∙ rw (byte_at 0 (omega arith), byte_at 1 (omega arith), byte_at 2 (omega arith), byte_at 3 (omega arith))

  small : (k : ℕ) → mask_of (enabled k enables) < 256
  small k = go (enabled k enables)
    where
      go : (e : Bool) → mask_of e < 256
      go true = omega arith
      go false = omega arith

pub mask_apart : MaskApart
unfolding enabled_bytes
mask_apart enables = ap apart (mask_joins enables) ∙ joined_apart _ _ _ _ (small enables 0) (small enables 1) (small enables 2) (small enables 3)

-- all bits of a byte are the byte
all_bits : (n : ℕ) → n < 256 → bit_and n 255 ≡ n
all_bits n h = and_mask n 8 ∙ omega arith

pub rule_under_mask : RuleUnderMask
rule_under_mask old rule mark new ho hr hm hn true =
    ap₂ (λ (r m : ℕ). merged_byte old r m new) (all_bits rule hr) (all_bits mark hm)
rule_under_mask old rule mark new ho hr hm hn false =
    ap₂ (λ (r m : ℕ). merged_byte old r m new) (and_zero_r rule) (and_zero_r mark)
    ∙ sym (masks_merge old 0 0 new ho (omega arith) hn)
    ∙ rw (and_zero_r, or_zero_r) (all_bits (bit_and old 255) (lt_of_le_of_lt (and_le_l old 255) ho) ∙ all_bits old ho)
