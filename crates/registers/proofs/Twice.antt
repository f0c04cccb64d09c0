-- A write twice, for the proofs above (document 02, 12/13): the same four data bytes merged under one set of enables and then under another leave what both sets
-- together leave. So the same merge twice is that merge, and the order of two does not matter. With any rules and marks. Assumes nothing.
use Prim.Native.Nat.{ℕ, zero, suc, ◌+◌, ◌*◌, ◌/◌, ◌%◌, ◌^◌, ◌<◌, max}
use mathlib.Core.Bool.{Bool, true, false, ◌||◌, cond}
use mathlib.Core.List.{List, [], ◌∷◌}
use mathlib.Core.Path.{◌≡◌, refl, sym, ap, ap₂, ◌∙◌}
use native.Mathlib.Omega.{arith}
use native.Mathlib.Nat.{mod-lt, zero-lt-suc}
use lib.Bits.{bit_or, or_step, or_shr}
use lib.Dec.{eqb}
use Rattle.words.specs.Bytes.{byte}
use Rattle.words.specs.Fields.{bit}
use Rattle.registers.specs.Merge.{enabled, merged, merged_byte, written_bit, written_byte, from_bits}
use Rattle.registers.proofs.Laws.{merged_byte_bit}

-- the statement: old bytes, rules, marks, data, and two sets of enables
abbrev pub MergedTwice : Type 0
MergedTwice =
    (old rules marks new : List ℕ) (first second : ℕ)
    → merged (merged old rules marks new first) rules marks new second ≡ merged old rules marks new (bit_or first second)

-- ---- one bit: what is written again stays

bit_again : (rule mark old new : ℕ) → written_bit rule mark (written_bit rule mark old new) new ≡ written_bit rule mark old new
bit_again zero zero old new = refl
bit_again zero (suc mark) old zero = refl
bit_again zero (suc mark) old (suc new) = refl
bit_again (suc rule) zero old new = refl
bit_again (suc rule) (suc mark) old zero = refl
bit_again (suc rule) (suc mark) old (suc new) = refl

-- ---- one byte

from_bits_same : (f g : ℕ → ℕ) (n : ℕ) → ((k : ℕ) → k < n → f k ≡ g k) → from_bits f n ≡ from_bits g n
from_bits_same f g zero same = refl
from_bits_same f g (suc n) same =
    ap₂ (λ (x y : ℕ). x + 2 ^ n * y) (from_bits_same f g n (λ k h. same k (omega arith))) (same n (omega arith))

rewritten : (once old rule mark new : ℕ) → ((k : ℕ) → k < 8 → bit k once ≡ written_bit (bit k rule) (bit k mark) (bit k old) (bit k new))
    → merged_byte once rule mark new ≡ merged_byte old rule mark new
unfolding merged_byte
rewritten once old rule mark new bits =
    from_bits_same _ _ 8
    (λ k h.
    ap (λ (x : ℕ). written_bit (bit k rule) (bit k mark) x (bit k new)) (bits k h)
    ∙ bit_again (bit k rule) (bit k mark) (bit k old) (bit k new))

byte_again : (old rule mark new : ℕ) → merged_byte (merged_byte old rule mark new) rule mark new ≡ merged_byte old rule mark new
byte_again old rule mark new = rewritten (merged_byte old rule mark new) old rule mark new (merged_byte_bit old rule mark new)

-- by two enables: the old byte, and what a write under an enable leaves of it
both : (first second : Bool) (old rule mark new : ℕ)
    → let once = cond first (merged_byte old rule mark new) old in
    cond second (merged_byte once rule mark new) once ≡ cond (first || second) (merged_byte old rule mark new) old
both true true old rule mark new = byte_again old rule mark new
both true false old rule mark new = refl
both false true old rule mark new = refl
both false false old rule mark new = refl

-- ---- two sets of enables

max_is : (x y : ℕ) → x < 2 → y < 2 → eqb (max x y) 1 ≡ (eqb x 1 || eqb y 1)
max_is zero zero h j = refl
max_is zero (suc zero) h j = refl
max_is (suc zero) zero h j = refl
max_is (suc zero) (suc zero) h j = refl
max_is (suc (suc x)) y h j = absurd (omega arith)
max_is zero (suc (suc y)) h j = absurd (omega arith)
max_is (suc zero) (suc (suc y)) h j = absurd (omega arith)

-- a byte is enabled by both sets together where it is by one of them
pub enabled_both : (k first second : ℕ) → enabled k (bit_or first second) ≡ (enabled k first || enabled k second)
enabled_both k first second =
    ap (λ (n : ℕ). eqb (n % 2) 1) (or_shr first second k ∙ or_step (first / 2 ^ k) (second / 2 ^ k))
    ∙ ap (λ (n : ℕ). eqb n 1) (low (bit_or (first / 2 ^ k / 2) (second / 2 ^ k / 2)) (bit k first) (bit k second) (mod-lt _ (zero-lt-suc 1)) (mod-lt _ (zero-lt-suc 1)))
    ∙ max_is (bit k first) (bit k second) (mod-lt _ (zero-lt-suc 1)) (mod-lt _ (zero-lt-suc 1))
  where
    low : (x a b : ℕ) → a < 2 → b < 2 → (x * 2 + max a b) % 2 ≡ max a b
    low x a b h j = omega arith

-- ---- four bytes

module _ (old rules marks new : List ℕ) (first second : ℕ) where
  at_byte : (k : ℕ)
      → let once = written_byte first old rules marks new k in
      cond (enabled k second) (merged_byte once (byte rules k) (byte marks k) (byte new k)) once ≡ written_byte (bit_or first second) old rules marks new k
  at_byte k =
      both (enabled k first) (enabled k second) (byte old k) (byte rules k) (byte marks k) (byte new k)
      ∙ ap (λ (b : Bool). cond b (merged_byte (byte old k) (byte rules k) (byte marks k) (byte new k)) (byte old k)) (sym (enabled_both k first second))

pub merged_twice : MergedTwice
unfolding merged
merged_twice old rules marks new first second =
    let at = at_byte old rules marks new first second in
    λ i. at 0 i ∷ at 1 i ∷ at 2 i ∷ at 3 i ∷ []
