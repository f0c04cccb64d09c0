-- A bit that is marked twice: what the loop has found so far, and that it is found exactly if there is one. Assumes nothing.
use Prim.Native.Nat.{ℕ, zero, suc, ◌+◌, ◌/◌, ◌%◌, ◌^◌, ◌≤◌, ◌<◌, min}
use mathlib.Core.Bool.{Bool, true, false, cond, not}
use mathlib.Core.List.{List, [], ◌∷◌}
use mathlib.Core.Path.{◌≡◌, refl, sym, ap, ◌∙◌}
use native.Mathlib.Nat.{div-eq_of_lt, pow-suc}
use native.Mathlib.Numerals.{add-one}
use native.Mathlib.Omega.{arith}
use lib.Bits.{bit_and, bit_or, or_zero_r, or_add_and, and_le_l, and_zero_l, and_zero_r, and_step, and_shr}
use lib.Dec.{eqb}
use lib.ListN.{length, take}
use lib.Pow.{pow_pos}
use lib.Seq.{take_all}
use borrow.Author.Tests.{ne_eqb, eqb-true, eqb-false}
use Rattle.words.specs.Bytes.{byte}
use Rattle.words.specs.Fields.{bit}
use Rattle.registers.proofs.Masks.{bit_suc}
use Rattle.board.specs.Description.{doubly_marked}

-- ---- the statements

-- some bit of some byte is marked in both: the rules, the marks, the place of the byte, the place of the bit
pub record MarkedTwice (rules marks : List ℕ) (k j : ℕ) : Type 0 where
  pub writable : bit j (byte rules k) ≡ 1
  pub marked : bit j (byte marks k) ≡ 1

-- what the test says: there is such a bit, wherever it is
abbrev pub FoundExactly : Type 0
FoundExactly =
    (rules marks : List ℕ)
    → (doubly_marked rules marks ≡ true → (k : ℕ) × (j : ℕ) × MarkedTwice rules marks k j)
    × ((k j : ℕ) → MarkedTwice rules marks k j → doubly_marked rules marks ≡ true)

-- ---- the loop

-- a byte more: what was found before, or in that byte
more : (both x : ℕ) (found : Bool) → not (eqb both 0) ≡ found → not (eqb (bit_or both x) 0) ≡ cond (eqb x 0) found true
more both zero found h = rw or_zero_r h
more both (suc x) found h =
    rw (
      ne_eqb (suc x) 0 (λ e. omega arith),
      ne_eqb (bit_or both (suc x)) 0 (λ e. omega (arith, or_add_and both (suc x), and_le_l both (suc x), e)),
    )

-- in which order two bytes are looked at makes no difference
either_order : (s t found : Bool) → cond s (cond t found true) true ≡ cond t (cond s found true) true
either_order true true found = refl
either_order true false found = refl
either_order false true found = refl
either_order false false found = refl

at_place : (rules marks : List ℕ) (i : ℕ) → i < length rules → i < length marks
    → doubly_marked (take (suc i) rules) (take (suc i) marks)
    ≡ cond (eqb (bit_and (byte rules i) (byte marks i)) 0) (doubly_marked (take i rules) (take i marks)) true
unfolding doubly_marked
at_place [] marks i h k = absurd (omega arith)
at_place (r ∷ rules) [] i h k = absurd (omega arith)
at_place (r ∷ rules) (m ∷ marks) zero h k = refl
at_place (r ∷ rules) (m ∷ marks) (suc i) h k =
    rw (at_place rules marks i (omega arith) (omega arith))
    (either_order (eqb (bit_and r m) 0) (eqb (bit_and (byte rules i) (byte marks i)) 0) (doubly_marked (take i rules) (take i marks)))

pub one_more : (rules marks : List ℕ) (both i : ℕ) → i < length rules → i < length marks
    → not (eqb both 0) ≡ doubly_marked (take i rules) (take i marks)
    → not (eqb (bit_or both (bit_and (byte rules i) (byte marks i))) 0) ≡ doubly_marked (take (i + 1) rules) (take (i + 1) marks)
one_more rules marks both i h k e =
    rw (add-one, at_place rules marks i h k)
    (more both (bit_and (byte rules i) (byte marks i)) (doubly_marked (take i rules) (take i marks)) e)

pub all_looked_at : (rules marks : List ℕ) (n : ℕ) → length rules ≤ n → length marks ≤ n
    → doubly_marked (take n rules) (take n marks) ≡ doubly_marked rules marks
all_looked_at rules marks n h k = rw (take_all n rules h, take_all n marks k)

-- ---- at every place

none_here : (t found : Bool) → cond t found true ≡ false → (t ≡ true) × (found ≡ false)
none_here true found e = (refl, e)
none_here false found e = (sym e, cc)

nowhere : (rules marks : List ℕ) → doubly_marked rules marks ≡ false → (k : ℕ) → bit_and (byte rules k) (byte marks k) ≡ 0
unfolding doubly_marked
nowhere [] marks e k = and_zero_l (byte marks k)
nowhere (r ∷ rules) [] e k = and_zero_r (byte (r ∷ rules) k)
nowhere (r ∷ rules) (m ∷ marks) e zero = eqb-true _ _ (none_here (eqb (bit_and r m) 0) (doubly_marked rules marks) e).0
nowhere (r ∷ rules) (m ∷ marks) e (suc k) = nowhere rules marks (none_here (eqb (bit_and r m) 0) (doubly_marked rules marks) e).1 k

-- the place of a byte that has such a bit
abbrev Somewhere : List ℕ → List ℕ → Type 0
Somewhere rules marks = (k : ℕ) × (bit_and (byte rules k) (byte marks k) ≡ 0 → ⊥)

here_or_later : (r m : ℕ) (rules marks : List ℕ) (t : Bool) → eqb (bit_and r m) 0 ≡ t → (t ≡ true → Somewhere rules marks)
    → Somewhere (r ∷ rules) (m ∷ marks)
here_or_later r m rules marks false e later = (0, eqb-false (bit_and r m) 0 e)
here_or_later r m rules marks true e later = let s = later refl in (suc s.0, s.1)

somewhere : (rules marks : List ℕ) → doubly_marked rules marks ≡ true → Somewhere rules marks
unfolding doubly_marked
somewhere [] marks e = let z : ◌≡◌ {A = ℕ} 0 1 = cc in absurd (omega arith)
somewhere (r ∷ rules) [] e = let z : ◌≡◌ {A = ℕ} 0 1 = cc in absurd (omega arith)
somewhere (r ∷ rules) (m ∷ marks) e =
    here_or_later r m rules marks (eqb (bit_and r m) 0) refl
    (λ t. somewhere rules marks (sym (ap (λ (x : Bool). cond x (doubly_marked rules marks) true) t) ∙ e))

-- ---- of two bytes

-- no bit in both: then none at any place
no_bit : (x y : ℕ) → bit_and x y ≡ 0 → (j : ℕ) → min (bit j x) (bit j y) ≡ 0
no_bit x y e j =
    let z : bit_and (x / 2 ^ j) (y / 2 ^ j) ≡ 0 = sym (and_shr x y j) ∙ ap (λ (n : ℕ). n / 2 ^ j) e ∙ div-eq_of_lt (pow_pos j) in
    omega (arith, and_step (x / 2 ^ j) (y / 2 ^ j))

-- a bit in both: then at some place
abbrev BothAt : ℕ → ℕ → Type 0
BothAt x y = (j : ℕ) × (bit j x ≡ 1) × (bit j y ≡ 1)

lowest_or_above : (x y low : ℕ) → min (x % 2) (y % 2) ≡ low → (low ≡ 0 → BothAt (x / 2) (y / 2)) → BothAt x y
lowest_or_above x y zero e above = let s = above refl in (suc s.0, bit_suc s.0 x ∙ s.1, bit_suc s.0 y ∙ s.2)
lowest_or_above x y (suc low) e above = (0, omega (arith, e), omega (arith, e))

some_bit : (w x y : ℕ) → x < 2 ^ w → (bit_and x y ≡ 0 → ⊥) → BothAt x y
some_bit zero x y h n = absurd (n (omega (arith, and_le_l x y)))
some_bit (suc w) x y h n =
    lowest_or_above x y (min (x % 2) (y % 2)) refl
    (λ e. some_bit w (x / 2) (y / 2) (omega (arith, rw pow-suc at h)) (λ f. n (omega (arith, and_step x y, e, f))))

-- a number is below the power of two that it names
below_power : (x : ℕ) → x < 2 ^ x
below_power zero = omega arith
below_power (suc x) = rw pow-suc (omega (arith, below_power x, pow_pos x))

-- ---- both ways

-- where no bit is marked twice, a writable bit has no mark
pub unmarked : (rules marks : List ℕ) → doubly_marked rules marks ≡ false → (k j : ℕ) → bit j (byte rules k) ≡ 1 → bit j (byte marks k) ≡ 0
unmarked rules marks e k j w = omega (arith, no_bit (byte rules k) (byte marks k) (nowhere rules marks e k) j, w)

-- and one that is marked is not writable
pub unwritable : (rules marks : List ℕ) → doubly_marked rules marks ≡ false → (k j : ℕ) → bit j (byte marks k) ≡ 1 → bit j (byte rules k) ≡ 0
unwritable rules marks e k j m = omega (arith, no_bit (byte rules k) (byte marks k) (nowhere rules marks e k) j, m)

pub found_exactly : FoundExactly
found_exactly rules marks = (there, found _ refl)
  where
    there : doubly_marked rules marks ≡ true → (k : ℕ) × (j : ℕ) × MarkedTwice rules marks k j
    there e =
        let s = somewhere rules marks e in
        let b = some_bit (byte rules s.0) (byte rules s.0) (byte marks s.0) (below_power (byte rules s.0)) s.1 in
        (s.0, b.0, record { writable = b.1; marked = b.2 })

    found : (f : Bool) → doubly_marked rules marks ≡ f → (k j : ℕ) → MarkedTwice rules marks k j → doubly_marked rules marks ≡ true
    found true e k j m = e
    found false e k j m = absurd (omega (arith, unmarked rules marks e k j m.writable, m.marked))
