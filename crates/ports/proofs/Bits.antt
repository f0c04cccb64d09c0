-- The bits of words: of a conjunction, a disjunction and a difference, of all ones, and that a word without bits is 0. Assumes nothing.
use Prim.Native.Nat.{ℕ, zero, suc, ◌+◌, ◌-◌, ◌*◌, ◌/◌, ◌%◌, ◌^◌, ◌≤◌, ◌<◌, min, max}
use mathlib.Core.Logic.{◌⊎◌}
use mathlib.Core.Logic.◌⊎◌.{inl, inr}
use mathlib.Core.Path.{◌≡◌, refl, sym, ap, ap₂, ◌∙◌}
use native.Mathlib.Nat.{mod-lt, div-eq_of_lt, zero-max, div-add-mod', div-one, min-le_left, max-le, lt_of_lt_of_le}
use native.Mathlib.Omega.{arith}
use lib.Arith.{bin_ind}
use lib.Bits.{bit_and, bit_or, bit_xor, differ, and_step, or_step, xor_step, and_shr, or_shr, xor_shr}
use lib.Pow.{ones_lt, ones_split, high, low, pow_mono, shr-shr}

-- bit k of a word, 0 or 1
abbrev pub bit : ℕ → ℕ → ℕ
bit k n = n / 2 ^ k % 2

pub bit_below : (k n : ℕ) → bit k n < 2
bit_below k n = mod-lt (n / 2 ^ k) (omega arith)

last_digit : (x m : ℕ) → m < 2 → (x * 2 + m) % 2 ≡ m
last_digit x m h = low x 1 h

-- ---- two numbers that are 0 or 1

min_below : (x y : ℕ) → x < 2 → min x y < 2
min_below x y h = lt_of_le x y h (min-le_left x y)
  where
    lt_of_le : (x y : ℕ) → x < 2 → min x y ≤ x → min x y < 2
    lt_of_le x y h l = omega arith

max_below : (x y : ℕ) → x < 2 → y < 2 → max x y < 2
max_below x y h j = below (max x y) (max-le {a = x} {b = y} {k = 1} (omega arith) (omega arith))
  where
    below : (m : ℕ) → m ≤ 1 → m < 2
    below m l = omega arith

differ_below : (x y : ℕ) → x < 2 → y < 2 → differ x y < 2
differ_below zero y h j = j
differ_below (suc x) zero h j = h
differ_below (suc x) (suc y) h j = differ_below x y (omega arith) (omega arith)

pub max_one : (x y : ℕ) → x < 2 → max x y ≡ 1 → (x ≡ 1) ⊎ (y ≡ 1)
max_one zero y h e = inr (sym (zero-max y) ∙ e)
max_one (suc zero) y h e = inl refl
max_one (suc (suc x)) y h e = absurd (omega arith)

-- ---- the bits of the three operations

pub and_bit : (k a b : ℕ) → bit k (bit_and a b) ≡ min (bit k a) (bit k b)
and_bit k a b =
    ap (λ (n : ℕ). n % 2) (and_shr a b k ∙ and_step (a / 2 ^ k) (b / 2 ^ k))
    ∙ last_digit (bit_and (a / 2 ^ k / 2) (b / 2 ^ k / 2)) (min (bit k a) (bit k b)) (min_below (bit k a) (bit k b) (bit_below k a))

pub or_bit : (k a b : ℕ) → bit k (bit_or a b) ≡ max (bit k a) (bit k b)
or_bit k a b =
    ap (λ (n : ℕ). n % 2) (or_shr a b k ∙ or_step (a / 2 ^ k) (b / 2 ^ k))
    ∙ last_digit (bit_or (a / 2 ^ k / 2) (b / 2 ^ k / 2)) (max (bit k a) (bit k b)) (max_below (bit k a) (bit k b) (bit_below k a) (bit_below k b))

pub xor_bit : (k a b : ℕ) → bit k (bit_xor a b) ≡ differ (bit k a) (bit k b)
xor_bit k a b =
    ap (λ (n : ℕ). n % 2) (xor_shr a b k ∙ xor_step (a / 2 ^ k) (b / 2 ^ k))
    ∙ last_digit (bit_xor (a / 2 ^ k / 2) (b / 2 ^ k / 2)) (differ (bit k a) (bit k b)) (differ_below (bit k a) (bit k b) (bit_below k a) (bit_below k b))

-- ---- all ones, and none

pub one_inside : (k n : ℕ) → k < n → bit k (2 ^ n - 1) ≡ 1
one_inside k n h =
    let j : ℕ = n - k - 1 in
    let e : n ≡ suc j + k = omega arith in
    ap (λ (m : ℕ). bit k (2 ^ m - 1)) e
    ∙ ap (λ (m : ℕ). m / 2 ^ k % 2) (ones_split (suc j) k)
    ∙ ap (λ (m : ℕ). m % 2) (high (2 ^ suc j - 1) k (ones_lt k))
    ∙ ap (λ (m : ℕ). m % 2) (ap (λ (m : ℕ). 2 ^ m - 1) (omega arith) ∙ ones_split j 1)
    ∙ low (2 ^ j - 1) 1 (omega arith)

pub zero_outside : (k n : ℕ) → n ≤ k → bit k (2 ^ n - 1) ≡ 0
zero_outside k n h = ap (λ (m : ℕ). m % 2) (div-eq_of_lt (lt_of_lt_of_le (ones_lt n) (pow_mono h)))

pub no_bits : (n : ℕ) → ((k : ℕ) → bit k n ≡ 0) → n ≡ 0
no_bits = bin_ind (λ (n : ℕ). ((k : ℕ) → bit k n ≡ 0) → n ≡ 0) (λ z. refl) (λ n half z.
    sym (div-add-mod' n 2)
    ∙ ap₂ (λ (x y : ℕ). x * 2 + y) (half (λ k. ap (λ (m : ℕ). m % 2) (shr-shr n 1 k ∙ ap (λ (m : ℕ). n / 2 ^ m) (omega arith)) ∙ z (suc k))) (ap (λ (m : ℕ). m % 2) (sym (div-one n)) ∙ z 0))
