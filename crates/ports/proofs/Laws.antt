-- Laws of numbers and of the words that sets of buses are made of, for the proofs of this crate. Assumes nothing.
use Prim.Native.Nat.{ℕ, ◌-◌, ◌*◌, ◌/◌, ◌%◌, ◌^◌, ◌≤◌, ◌<◌}
use mathlib.Core.Path.{◌≡◌, sym, ap, ◌∙◌, subst}
use native.Mathlib.Nat.{mod-eq_of_lt, one-mul}
use native.Mathlib.Omega.{arith}
use lib.Bits.{bit_and, and_mask}
use lib.Pow.{pow_pos, pow-lt}
use borrow.Author.Tests.{lt-ltb, le-ltb}
use Rattle.ports.specs.Buses.{below}

-- ---- numbers

pub zero_is_not_one : (m : ℕ) → m ≡ 0 → m ≡ 1 → ⊥
zero_is_not_one m e f = omega arith

-- ---- `below`, by the three cases of the code

pub below_none : (end word : ℕ) → end / 64 < word → 0 ≡ below end (64 * word)
unfolding below
below_none end word h = let e : end - 64 * word ≡ 0 = omega arith in rw e

pub below_all : (end word : ℕ) → word < end / 64 → 18446744073709551615 ≡ below end (64 * word)
unfolding below
below_all end word h = rw (lt-ltb 63 (end - 64 * word) (omega arith))

-- the bits of `end` below the 64
pub low_bits : (end : ℕ) → bit_and end 63 ≡ end % 64
low_bits end = and_mask end 6

pub low_bits_few : (end : ℕ) → bit_and end 63 < 64
low_bits_few end = omega (arith, low_bits end)

shifted : (n : ℕ) → n < 64 → (1 * 2 ^ n) % 2 ^ 64 ≡ 2 ^ n
shifted n h = ap (λ (x : ℕ). x % 2 ^ 64) (one-mul (2 ^ n)) ∙ mod-eq_of_lt (pow-lt {i = n} {j = 64} h)

pub below_part : (end word : ℕ) → word ≤ end / 64 → end / 64 ≤ word → (1 * 2 ^ bit_and end 63) % 2 ^ 64 - 1 ≡ below end (64 * word)
unfolding below
below_part end word h j =
    let e : end - 64 * word ≡ bit_and end 63 = omega (arith, low_bits end) in
    rw (e, le-ltb 63 (bit_and end 63) (omega (arith, low_bits_few end)), shifted (bit_and end 63) (low_bits_few end))

pub shifted_positive : (end : ℕ) → 1 ≤ (1 * 2 ^ bit_and end 63) % 2 ^ 64
shifted_positive end = subst (λ (x : ℕ). 1 ≤ x) (sym (shifted (bit_and end 63) (low_bits_few end))) (pow_pos (bit_and end 63))
