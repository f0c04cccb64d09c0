-- Masks on whole bytes do what the documents say bit by bit: old and not rule, or data and rule, then and not (data and mark). Proved once, over
-- the number of bits. Assumes nothing.
use Prim.Native.Nat.{ℕ, zero, suc, ◌+◌, ◌-◌, ◌*◌, ◌/◌, ◌%◌, ◌^◌, ◌<◌, min, max}
use mathlib.Core.Path.{◌≡◌, sym, ap, ap₂, ◌∙◌, fun_ext}
use native.Mathlib.Nat.{pow-suc, mod-lt, zero-lt-suc, div-div-eq-div-mul, div-lt_iff_lt-mul, mul_comm, lt_of_le_of_lt}
use native.Mathlib.Omega.{arith}
use lib.Arith.{lt-one}
use lib.Bits.{bit_and, bit_or, and_step, or_step, and_le_l}
use Rattle.words.specs.Fields.{bit}
use Rattle.registers.specs.Merge.{merged_bit, cleared_bit, written_bit, from_bits, merged_byte}

-- the statement, at the eight bits of a byte
abbrev pub MasksMerge : Type 0
MasksMerge =
    (old rule mark new : ℕ) → old < 256 → rule < 256 → new < 256
    → bit_and (bit_or (bit_and old (255 - rule)) (bit_and new rule)) (255 - bit_and new mark) ≡ merged_byte old rule mark new

-- the lowest bit first, then the others
pub from_low : (f : ℕ → ℕ) (n : ℕ) → from_bits f (suc n) ≡ from_bits (λ k. f (suc k)) n * 2 + f 0
from_low f zero = omega arith
from_low f (suc n) = rw (from_low f n, pow-suc) (omega arith)

pub bit_suc : (k n : ℕ) → bit (suc k) n ≡ bit k (n / 2)
bit_suc k n = rw (pow-suc, mul_comm (2 ^ k) 2, ← (div-div-eq-div-mul n 2 (2 ^ k)))

pub bit_zero : (n : ℕ) → bit 0 n ≡ n % 2
bit_zero n = omega arith

-- one bit: the old bit where the rule bit is 0, or the data bit where it is 1; then what mark and data bit leave of that
one_merged : (o r d : ℕ) → o < 2 → r < 2 → d < 2 → max (min o (1 - r)) (min d r) ≡ merged_bit r o d
one_merged o zero d ho hr hd = omega arith
one_merged o (suc r) d ho hr hd = omega arith

one_cleared : (m d x : ℕ) → m < 2 → d < 2 → x < 2 → min x (1 - min d m) ≡ cleared_bit m d x
one_cleared zero d x hm hd hx = omega arith
one_cleared (suc m) zero x hm hd hx = omega arith
one_cleared (suc m) (suc d) x hm hd hx = omega arith

one_bit : (o r m d : ℕ) → o < 2 → r < 2 → m < 2 → d < 2 → min (max (min o (1 - r)) (min d r)) (1 - min d m) ≡ written_bit r m o d
one_bit o r m d ho hr hm hd =
    one_cleared m d (max (min o (1 - r)) (min d r)) hm hd (omega arith) ∙ ap (cleared_bit m d) (one_merged o r d ho hr hd)

half_lt : (n k : ℕ) → n < 2 ^ suc k → n / 2 < 2 ^ k
half_lt n k h = (div-lt_iff_lt-mul (zero-lt-suc 1)).1 (rw pow-suc at h)

chosen : ℕ → ℕ → ℕ → ℕ → ℕ → ℕ
chosen o r m d k = written_bit (bit k r) (bit k m) (bit k o) (bit k d)

chosen_suc : (o r m d k : ℕ) → chosen o r m d (suc k) ≡ chosen (o / 2) (r / 2) (m / 2) (d / 2) k
unfolding chosen
chosen_suc o r m d k = rw (bit_suc k r, bit_suc k m, bit_suc k o, bit_suc k d)

chosen_zero : (o r m d : ℕ) → chosen o r m d 0 ≡ written_bit (r % 2) (m % 2) (o % 2) (d % 2)
unfolding chosen
chosen_zero o r m d = rw (bit_zero r, bit_zero m, bit_zero o, bit_zero d)

-- the operations and the complement, of the upper bits and of the lowest
and_low : (a b : ℕ) → bit_and a b % 2 ≡ min (a % 2) (b % 2)
and_low a b = rw and_step (omega arith)

and_half : (a b : ℕ) → bit_and a b / 2 ≡ bit_and (a / 2) (b / 2)
and_half a b = ap (λ (x : ℕ). x / 2) (and_step a b) ∙ omega arith

or_low : (a b : ℕ) → bit_or a b % 2 ≡ max (a % 2) (b % 2)
or_low a b = rw or_step (omega arith)

or_half : (a b : ℕ) → bit_or a b / 2 ≡ bit_or (a / 2) (b / 2)
or_half a b = ap (λ (x : ℕ). x / 2) (or_step a b) ∙ omega arith

half_not : (n r : ℕ) → r < 2 ^ suc n → (2 ^ suc n - 1 - r) / 2 ≡ 2 ^ n - 1 - r / 2
half_not n r h = rw pow-suc (omega (arith, rw pow-suc at h))

low_not : (n r : ℕ) → r < 2 ^ suc n → (2 ^ suc n - 1 - r) % 2 ≡ 1 - r % 2
low_not n r h = rw pow-suc (omega (arith, rw pow-suc at h))

-- what the masks leave of n bits
left : ℕ → ℕ → ℕ → ℕ → ℕ → ℕ
left n o r m d = bit_and (bit_or (bit_and o (2 ^ n - 1 - r)) (bit_and d r)) (2 ^ n - 1 - bit_and d m)

module _ (n o r m d : ℕ) (hr : r < 2 ^ suc n) (hd : d < 2 ^ suc n) where
  marked_lt : bit_and d m < 2 ^ suc n
  marked_lt = lt_of_le_of_lt (and_le_l d m) hd

  left_half : left (suc n) o r m d / 2 ≡ left n (o / 2) (r / 2) (m / 2) (d / 2)
  unfolding left
  left_half =
      let c : ℕ = 2 ^ suc n - 1 - r in
      and_half (bit_or (bit_and o c) (bit_and d r)) (2 ^ suc n - 1 - bit_and d m)
      ∙ ap₂ bit_and
      (or_half (bit_and o c) (bit_and d r) ∙ ap₂ bit_or (and_half o c ∙ ap (bit_and (o / 2)) (half_not n r hr)) (and_half d r))
      (half_not n (bit_and d m) marked_lt ∙ ap (λ (x : ℕ). 2 ^ n - 1 - x) (and_half d m))

  left_low : left (suc n) o r m d % 2 ≡ written_bit (r % 2) (m % 2) (o % 2) (d % 2)
  unfolding left
  left_low =
      let c : ℕ = 2 ^ suc n - 1 - r in
      and_low (bit_or (bit_and o c) (bit_and d r)) (2 ^ suc n - 1 - bit_and d m)
      ∙ ap₂ min
      (or_low (bit_and o c) (bit_and d r) ∙ ap₂ max (and_low o c ∙ ap (min (o % 2)) (low_not n r hr)) (and_low d r))
      (low_not n (bit_and d m) marked_lt ∙ ap (λ (x : ℕ). 1 - x) (and_low d m))
      ∙ one_bit (o % 2) (r % 2) (m % 2) (d % 2) (small o) (small r) (small m) (small d)
    where
      small : (x : ℕ) → x % 2 < 2
      small x = mod-lt x (zero-lt-suc 1)

masks : (n o r m d : ℕ) → o < 2 ^ n → r < 2 ^ n → d < 2 ^ n → left n o r m d ≡ from_bits (chosen o r m d) n
unfolding left
masks zero o r m d ho hr hd = rw (lt-one ho, lt-one hd)
masks (suc n) o r m d ho hr hd =
    divided (left (suc n) o r m d)
    ∙ ap₂ (λ (x y : ℕ). x * 2 + y)
    (left_half n o r m d hr hd
    ∙ masks n (o / 2) (r / 2) (m / 2) (d / 2) (half_lt o n ho) (half_lt r n hr) (half_lt d n hd)
    ∙ ap (λ (f : ℕ → ℕ). from_bits f n) (sym (fun_ext (chosen_suc o r m d))))
    (left_low n o r m d hr hd ∙ sym (chosen_zero o r m d))
    ∙ sym (from_low (chosen o r m d) n)
  where
    divided : (x : ℕ) → x ≡ x / 2 * 2 + x % 2
    divided x = omega arith

pub masks_merge : MasksMerge
unfolding merged_byte chosen left
masks_merge old rule mark new ho hr hd = masks 8 old rule mark new ho hr hd
