-- Laws of sets as numbers, a bit for each place: a set that grows by a place below all that it has, and that its bits are all there is to it. Assumes nothing.
use Prim.Native.Nat.{ℕ, zero, suc, ◌+◌, ◌*◌, ◌/◌, ◌%◌, ◌^◌, ◌≤◌, ◌<◌}
use mathlib.Core.Bool.{Bool, true, false}
use mathlib.Core.Logic.{◌⊎◌, inl, inr}
use mathlib.Core.Path.{◌≡◌, refl, sym, ap, ◌∙◌, subst}
use native.Mathlib.Nat.{div-eq_of_lt, mod-lt, mod-eq_of_lt, pow-suc}
use native.Mathlib.Omega.{arith}
use borrow.Author.Tests.{ltb-true, ltb-false}
use lib.Bits.{bit_or, or_shifted}
use lib.Dec.{ltb}
use lib.Pow.{pow_mono, shr-shr}
use Rattle.words.specs.Fields.{bit}

pub below_or_from : (k n : ℕ) → (k < n) ⊎ (n ≤ k)
below_or_from k n = go (ltb k n) refl
  where
    go : (b : Bool) → ltb k n ≡ b → (k < n) ⊎ (n ≤ k)
    go true e = inl (ltb-true k n e)
    go false e = inr (ltb-false k n e)

pub bit_small : (k n : ℕ) → bit k n < 2
bit_small k n = mod-lt (n / 2 ^ k) (omega arith)

-- above all that it has, a number has no bit
pub bit_above : (k n x : ℕ) → x < 2 ^ n → n ≤ k → bit k x ≡ 0
bit_above k n x h l = ap (λ (q : ℕ). q % 2) (div-eq_of_lt (wide (2 ^ n) (2 ^ k) h (pow_mono l)))
  where
    wide : (a b : ℕ) → x < a → a ≤ b → x < b
    wide a b h l = omega arith

bit_half : (k x : ℕ) → bit (suc k) x ≡ bit k (x / 2)
bit_half k x = ap (λ (n : ℕ). x / 2 ^ n % 2) (omega arith) ∙ ap (λ (q : ℕ). q % 2) (sym (shr-shr x 1 k))

-- one more place, below a set
module _ (set t : ℕ) (small : t < 2) where
  pub below_set : set < 2 ^ 31 → bit_or (set * 2 % 2 ^ 32) t ≡ set * 2 + t
  below_set h = ap (λ (x : ℕ). bit_or x t) (mod-eq_of_lt {n = set * 2} {m = 2 ^ 32} (omega arith)) ∙ or_shifted set 1 t small

  pub lowest_bit : bit 0 (set * 2 + t) ≡ t
  lowest_bit = omega arith

  pub higher_bit : (k : ℕ) → bit (suc k) (set * 2 + t) ≡ bit k set
  higher_bit k = bit_half k (set * 2 + t) ∙ ap (bit k) (omega arith)

-- a number is its bits
pub same_bits : (n a b : ℕ) → a < 2 ^ n → b < 2 ^ n → ((k : ℕ) → k < n → bit k a ≡ bit k b) → a ≡ b
same_bits zero a b ha hb e = omega arith
same_bits (suc n) a b ha hb e =
    let low : a % 2 ≡ b % 2 = omega (arith, e 0 (omega arith)) in
    let high : a / 2 ≡ b / 2 = same_bits n (a / 2) (b / 2) (half a ha) (half b hb) (λ k h. sym (bit_half k a) ∙ e (suc k) (omega arith) ∙ bit_half k b) in
    omega arith
  where
    half : (x : ℕ) → x < 2 ^ suc n → x / 2 < 2 ^ n
    half x h = let wide : x < 2 ^ n * 2 = subst (λ (p : ℕ). x < p) (pow-suc 2 n) h in omega arith
