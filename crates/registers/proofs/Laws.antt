-- Laws of the merge and the read, for the proofs above: callers use these and not the definitions' text. Assumes nothing.
use Prim.Native.Nat.{ℕ, suc, zero, ◌+◌, ◌*◌, ◌/◌, ◌^◌, ◌<◌}
use mathlib.Core.Bool.{Bool, true, false}
use mathlib.Core.List.{List, [], ◌∷◌}
use mathlib.Core.Logic.{◌⊎◌, inl, inr}
use mathlib.Core.Path.{◌≡◌, refl, ap, ◌∙◌}
use native.Mathlib.Nat.{mod-lt, zero-lt-suc, le_of_suc-le-suc, not-suc-le-zero, pow-suc}
use native.Mathlib.Omega.{arith}
use lib.ListN.{length}
use Rattle.words.specs.Bytes.{byte, four}
use Rattle.words.specs.Fields.{bit}
use Rattle.registers.specs.Merge.{enabled, written_byte, merged, merged_byte, merged_bit, cleared_bit, written_bit, from_bits}
use Rattle.registers.specs.Shown.{shown}
use Rattle.registers.proofs.Masks.{from_low, bit_suc, bit_zero}

-- a read shows four bytes as four
pub shown_four : (w x y z : ℕ) → let s = shown (w ∷ x ∷ y ∷ z ∷ []) in (byte s 0 ∷ byte s 1 ∷ byte s 2 ∷ byte s 3 ∷ []) ≡ s
unfolding shown
shown_four w x y z = refl

-- and as they are
pub shown_whole : (bytes : List ℕ) → shown bytes ≡ bytes
unfolding shown
shown_whole bytes = refl

-- four bytes stay four
pub merged_length : (old rules marks new : List ℕ) (enables : ℕ) → length (merged old rules marks new enables) ≡ 4
unfolding merged
merged_length old rules marks new enables = refl

-- the number made of bits has those bits
from_bits_bit : (f : ℕ → ℕ) → ((k : ℕ) → f k < 2) → (n k : ℕ) → k < n → bit k (from_bits f n) ≡ f k
from_bits_bit f small zero k h = absurd (not-suc-le-zero h)
from_bits_bit f small (suc n) zero h = rw (from_low f n, bit_zero) (omega (arith, small 0))
from_bits_bit f small (suc n) (suc k) h =
    ap (bit (suc k)) (from_low f n) ∙ bit_suc k _ ∙ ap (bit k) (upper (from_bits (λ j. f (suc j)) n) (f 0) (small 0))
    ∙ from_bits_bit (λ j. f (suc j)) (λ j. small (suc j)) n k (le_of_suc-le-suc h)
  where
    upper : (q r : ℕ) → r < 2 → (q * 2 + r) / 2 ≡ q
    upper q r h = omega arith

bit_small : (k n : ℕ) → bit k n < 2
bit_small k n = mod-lt _ (zero-lt-suc 1)

merged_bit_small : (r o d : ℕ) → o < 2 → d < 2 → merged_bit r o d < 2
merged_bit_small zero o d ho hd = ho
merged_bit_small (suc r) o d ho hd = hd

cleared_bit_small : (m d x : ℕ) → x < 2 → cleared_bit m d x < 2
cleared_bit_small zero d x hx = hx
cleared_bit_small (suc m) zero x hx = hx
cleared_bit_small (suc m) (suc d) x hx = omega arith

written_bit_small : (old rule mark new j : ℕ) → written_bit (bit j rule) (bit j mark) (bit j old) (bit j new) < 2
written_bit_small old rule mark new j =
    cleared_bit_small (bit j mark) (bit j new) (merged_bit (bit j rule) (bit j old) (bit j new))
    (merged_bit_small (bit j rule) (bit j old) (bit j new) (bit_small j old) (bit_small j new))

-- bit by bit, the merged byte is what the documents say
pub merged_byte_bit : (old rule mark new k : ℕ) → k < 8
    → bit k (merged_byte old rule mark new) ≡ written_bit (bit k rule) (bit k mark) (bit k old) (bit k new)
unfolding merged_byte
merged_byte_bit old rule mark new k h =
    from_bits_bit (λ j. written_bit (bit j rule) (bit j mark) (bit j old) (bit j new)) (written_bit_small old rule mark new) 8 k h

from_bits_lt : (f : ℕ → ℕ) → ((k : ℕ) → f k < 2) → (n : ℕ) → from_bits f n < 2 ^ n
from_bits_lt f small zero = omega arith
from_bits_lt f small (suc n) =
    rw (from_low f n, pow-suc) (omega (arith, from_bits_lt (λ j. f (suc j)) (λ j. small (suc j)) n, small 0))

-- and it has no other bits
pub merged_byte_lt : (old rule mark new : ℕ) → merged_byte old rule mark new < 256
unfolding merged_byte
merged_byte_lt old rule mark new =
    from_bits_lt (λ j. written_bit (bit j rule) (bit j mark) (bit j old) (bit j new)) (written_bit_small old rule mark new) 8

-- the four bytes of a merge are the merge
pub merged_four : (old rules marks new : List ℕ) (enables : ℕ) → four (merged old rules marks new enables) 0 ≡ merged old rules marks new enables
unfolding merged
merged_four old rules marks new enables = refl

-- ---- a merge, bit by bit

-- where the data bit is 0, a mark moves nothing
unmoved : (mark b : ℕ) → cleared_bit mark 0 b ≡ b
unmoved zero b = refl
unmoved (suc mark) b = refl

module _ (old rules marks new : List ℕ) (enables : ℕ) where
  -- the byte at each place of a merge
  merged_at : (k : ℕ) → k < 4 → byte (merged old rules marks new enables) k ≡ written_byte enables old rules marks new k
  unfolding merged
  merged_at zero h = refl
  merged_at (suc zero) h = refl
  merged_at (suc (suc zero)) h = refl
  merged_at (suc (suc (suc zero))) h = refl
  merged_at (suc (suc (suc (suc k)))) h = absurd (omega arith)

  module _ (k j : ℕ) (h : k < 4) (i : j < 8) where
    after : ℕ
    after = bit j (byte (merged old rules marks new enables) k)

    merged_bit_lem : enabled k enables ≡ true
        → after ≡ written_bit (bit j (byte rules k)) (bit j (byte marks k)) (bit j (byte old k)) (bit j (byte new k))
    unfolding after
    merged_bit_lem e =
        ap (bit j) (merged_at k h ∙ rw e) ∙ merged_byte_bit (byte old k) (byte rules k) (byte marks k) (byte new k) j i

    -- a byte that is not enabled stays
    pub merged_disabled : enabled k enables ≡ false → bit j (byte (merged old rules marks new enables) k) ≡ bit j (byte old k)
    merged_disabled e = ap (bit j) (merged_at k h ∙ rw e)

    -- of one that is, a writable bit without a mark is the data's
    pub merged_taken : enabled k enables ≡ true → bit j (byte rules k) ≡ 1 → bit j (byte marks k) ≡ 0
        → bit j (byte (merged old rules marks new enables) k) ≡ bit j (byte new k)
    unfolding after
    merged_taken e w m = merged_bit_lem e ∙ rw (w, m)

    -- a marked bit is 0 where the data's is 1
    pub merged_cleared : enabled k enables ≡ true → bit j (byte marks k) ≡ 1 → bit j (byte new k) ≡ 1
        → bit j (byte (merged old rules marks new enables) k) ≡ 0
    unfolding after
    merged_cleared e m d = merged_bit_lem e ∙ rw (m, d)

    kept_by : (enable : Bool) → enabled k enables ≡ enable → bit j (byte rules k) ≡ 0 → (bit j (byte marks k) ≡ 0) ⊎ (bit j (byte new k) ≡ 0)
        → bit j (byte (merged old rules marks new enables) k) ≡ bit j (byte old k)
    unfolding after
    kept_by false e w c = merged_disabled e
    kept_by true e w (inl m) = merged_bit_lem e ∙ rw (w, m)
    kept_by true e w (inr d) = merged_bit_lem e ∙ rw (w, d, unmoved (bit j (byte marks k)) (bit j (byte old k)))

    -- and a bit that is not writable stays where it has no mark, or the data's is 0
    pub merged_kept : bit j (byte rules k) ≡ 0 → (bit j (byte marks k) ≡ 0) ⊎ (bit j (byte new k) ≡ 0)
        → bit j (byte (merged old rules marks new enables) k) ≡ bit j (byte old k)
    merged_kept w c = kept_by _ refl w c
