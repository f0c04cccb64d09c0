-- THEOREMS. What is in the sets of buses that the code keeps as four words: the set of a port that is in order has exactly the buses of its range, two sets
-- together have exactly what one of them has, and a set shares a bus with a port's exactly if one of the 256 is in both. Assumes nothing.
use Prim.Native.Nat.{ℕ, zero, suc, ◌+◌, ◌-◌, ◌*◌, ◌/◌, ◌%◌, ◌≤◌, ◌<◌, min, max}
use mathlib.Core.Bool.{Bool, true, false, not, cond, ◌||◌, true≢false}
use mathlib.Core.Logic.{◌⊎◌, ⊎_elim}
use mathlib.Core.Path.{◌≡◌, refl, sym, ap, ap₂, ◌∙◌, subst}
use native.Mathlib.Nat.{mod-lt, div-add-mod, div-lt_iff_lt-mul, zero-min, min-zero, le-max_left, le-max_right}
use native.Mathlib.Omega.{arith}
use lib.Bits.{bit_and, bit_or, differ}
use lib.Dec.{eqb, ltb}
use borrow.Author.Tests.{ltb-true, ltb-false, eq-eqb, eqb-true}
use Rattle.std.proofs.lemmas.Bool.{cases_lt}
use Rattle.ports.specs.declared.Port.{Port}
use Rattle.ports.specs.declared.Buses.{Buses}
use Rattle.ports.specs.Buses.{width, below, range, buses_of, shared, together}
use Rattle.ports.proofs.Laws.{zero_is_not_one}
use Rattle.ports.proofs.Bits.{bit, bit_below, max_one, and_bit, or_bit, xor_bit, one_inside, zero_outside, no_bits}

-- the word for the buses from 64 × q on
abbrev pub quarter : Buses → ℕ → ℕ
quarter s zero = s.first
quarter s (suc zero) = s.second
quarter s (suc (suc zero)) = s.third
quarter s (suc (suc (suc q))) = s.fourth

-- a bus is in a set
abbrev pub In : Buses → ℕ → Type 0
In s x = bit (x % 64) (quarter s (x / 64)) ≡ 1

-- nothing is in the set that the walk begins with
abbrev pub no_buses : Buses
no_buses = record { first = 0; second = 0; third = 0; fourth = 0 }

pub nothing_in : (x : ℕ) → In no_buses x → ⊥
nothing_in x i = zero_is_not_one _ (ap (bit (x % 64)) (quarter_none (x / 64)) ∙ zero_outside (x % 64) 0 (omega arith)) i
  where
    quarter_none : (q : ℕ) → quarter no_buses q ≡ 0
    quarter_none zero = refl
    quarter_none (suc zero) = refl
    quarter_none (suc (suc zero)) = refl
    quarter_none (suc (suc (suc q))) = refl

-- ---- one word

-- bit k of `below` says whether bus base + k is below the end
inside : (k end base : ℕ) → k < 64 → base + k < end → bit k (below end base) ≡ 1
unfolding below
inside k end base h j = one_inside k (width end base) (wide (ltb 63 (end - base)))
  where
    wide : (b : Bool) → k < cond b 64 (end - base)
    wide true = h
    wide false = omega arith

capped : (w : ℕ) → (cond (ltb 63 w) 64 w ≤ w) × (cond (ltb 63 w) 64 w ≤ 64)
capped w = go (ltb 63 w) refl
  where
    go : (b : Bool) → ltb 63 w ≡ b → (cond b 64 w ≤ w) × (cond b 64 w ≤ 64)
    go true e = let h = ltb-true 63 w e in (omega arith, omega arith)
    go false e = let h = ltb-false 63 w e in (omega arith, omega arith)

outside : (k end base : ℕ) → end ≤ base + k → bit k (below end base) ≡ 0
unfolding below
outside k end base h = zero_outside k (width end base) (omega (arith, (capped (end - base)).0))

beyond : (k end base : ℕ) → 64 ≤ k → bit k (below end base) ≡ 0
unfolding below
beyond k end base h = zero_outside k (width end base) (omega (arith, (capped (end - base)).1))

-- ---- a port's range

range_bit : (k from end base a b : ℕ) → bit k (below end base) ≡ a → bit k (below from base) ≡ b → bit k (range from end base) ≡ differ a b
range_bit k from end base a b e f = xor_bit k (below end base) (below from base) ∙ ap₂ differ e f

range_beyond : (k from end base : ℕ) → 64 ≤ k → bit k (range from end base) ≡ 0
range_beyond k from end base h = range_bit k from end base 0 0 (beyond k end base h) (beyond k from base h)

-- a word of a port's range, for any of the four bases
quarter_of : (p : Port) (q : ℕ) → q < 4 → quarter (buses_of p) q ≡ range p.secondary (p.subordinate + 1) (64 * q)
unfolding buses_of
quarter_of p zero h = refl
quarter_of p (suc zero) h = refl
quarter_of p (suc (suc zero)) h = refl
quarter_of p (suc (suc (suc zero))) h = refl
quarter_of p (suc (suc (suc (suc q)))) h = absurd (omega arith)

-- a bus is so many times 64, and the rest
parts : (x : ℕ) → 64 * (x / 64) + x % 64 ≡ x
parts x = div-add-mod x 64

few : (x : ℕ) → x < 256 → x / 64 < 4
few x h = (div-lt_iff_lt-mul {k = 64} {x = x} {y = 4} (omega arith)).1 h

rest : (x : ℕ) → x % 64 < 64
rest x = mod-lt x (omega arith)

bit_of : (p : Port) (x : ℕ) → x < 256 → bit (x % 64) (quarter (buses_of p) (x / 64)) ≡ bit (x % 64) (range p.secondary (p.subordinate + 1) (64 * (x / 64)))
bit_of p x h = ap (bit (x % 64)) (quarter_of p (x / 64) (few x h))

-- every bus of a port's range is in its set
pub in_range : (p : Port) (x : ℕ) → x < 256 → p.secondary ≤ x → x ≤ p.subordinate → In (buses_of p) x
in_range p x h l u =
    let base : ℕ = 64 * (x / 64) in
    bit_of p x h
    ∙ range_bit (x % 64) p.secondary (p.subordinate + 1) base 1 0
    (inside (x % 64) (p.subordinate + 1) base (rest x) (omega (arith, parts x)))
    (outside (x % 64) p.secondary base (omega (arith, parts x)))

-- and, where the port is in order, no other
pub range_has : (p : Port) (x : ℕ) → x < 256 → p.secondary ≤ p.subordinate → In (buses_of p) x → (p.secondary ≤ x) × (x ≤ p.subordinate)
range_has p x h o i = ⊎_elim (λ l. absurd (low_end l)) (λ l. ⊎_elim (λ u. absurd (high_end u)) (λ u. (l, u)) (cases_lt p.subordinate x)) (cases_lt x p.secondary)
  where
    base : ℕ
    base = 64 * (x / 64)

    low_end : x < p.secondary → ⊥
    low_end l =
        zero_is_not_one (bit (x % 64) (quarter (buses_of p) (x / 64)))
        (bit_of p x h
        ∙ range_bit (x % 64) p.secondary (p.subordinate + 1) base 1 1
        (inside (x % 64) (p.subordinate + 1) base (rest x) (omega (arith, parts x)))
        (inside (x % 64) p.secondary base (rest x) (omega (arith, parts x))))
        i

    high_end : p.subordinate < x → ⊥
    high_end u =
        zero_is_not_one (bit (x % 64) (quarter (buses_of p) (x / 64)))
        (bit_of p x h
        ∙ range_bit (x % 64) p.secondary (p.subordinate + 1) base 0 0
        (outside (x % 64) (p.subordinate + 1) base (omega (arith, parts x)))
        (outside (x % 64) p.secondary base (omega (arith, parts x))))
        i

-- ---- two sets together

quarter_together : (a b : Buses) (q : ℕ) → quarter (together a b) q ≡ bit_or (quarter a q) (quarter b q)
unfolding together
quarter_together a b zero = refl
quarter_together a b (suc zero) = refl
quarter_together a b (suc (suc zero)) = refl
quarter_together a b (suc (suc (suc q))) = refl

bit_together : (a b : Buses) (x : ℕ) → bit (x % 64) (quarter (together a b) (x / 64)) ≡ max (bit (x % 64) (quarter a (x / 64))) (bit (x % 64) (quarter b (x / 64)))
bit_together a b x = ap (bit (x % 64)) (quarter_together a b (x / 64)) ∙ or_bit (x % 64) (quarter a (x / 64)) (quarter b (x / 64))

pub of_either : (a b : Buses) (x : ℕ) → In (together a b) x → In a x ⊎ In b x
of_either a b x i =
    max_one (bit (x % 64) (quarter a (x / 64))) (bit (x % 64) (quarter b (x / 64))) (bit_below (x % 64) (quarter a (x / 64))) (sym (bit_together a b x) ∙ i)

one_of : (m : ℕ) → 1 ≤ m → m < 2 → m ≡ 1
one_of m h j = omega arith

pub from_first : (a b : Buses) (x : ℕ) → In a x → In (together a b) x
from_first a b x i =
    one_of _ (subst (λ (m : ℕ). 1 ≤ m) (sym (bit_together a b x)) (subst (λ (m : ℕ). m ≤ max m (bit (x % 64) (quarter b (x / 64))) → 1 ≤ max m (bit (x % 64) (quarter b (x / 64)))) (sym i) (λ l. l) (le-max_left _ _)))
    (bit_below (x % 64) (quarter (together a b) (x / 64)))

pub from_second : (a b : Buses) (x : ℕ) → In b x → In (together a b) x
from_second a b x i =
    one_of _ (subst (λ (m : ℕ). 1 ≤ m) (sym (bit_together a b x)) (subst (λ (m : ℕ). m ≤ max (bit (x % 64) (quarter a (x / 64))) m → 1 ≤ max (bit (x % 64) (quarter a (x / 64))) m) (sym i) (λ l. l) (le-max_right _ _)))
    (bit_below (x % 64) (quarter (together a b) (x / 64)))

-- ---- what two sets share

none_shared : (a b : Buses) → shared a b ≡ false → (q : ℕ) → bit_and (quarter a q) (quarter b q) ≡ 0
unfolding shared
none_shared a b e = go (eqb (bit_and a.first b.first) 0) refl (eqb (bit_and a.second b.second) 0) refl (eqb (bit_and a.third b.third) 0) refl (eqb (bit_and a.fourth b.fourth) 0) refl e
  where
    go : (w : Bool) → eqb (bit_and a.first b.first) 0 ≡ w → (x : Bool) → eqb (bit_and a.second b.second) 0 ≡ x
        → (y : Bool) → eqb (bit_and a.third b.third) 0 ≡ y → (z : Bool) → eqb (bit_and a.fourth b.fourth) 0 ≡ z
        → not w || (not x || (not y || (not z || false))) ≡ false → (q : ℕ) → bit_and (quarter a q) (quarter b q) ≡ 0
    go true d true f true g true h e zero = eqb-true _ 0 d
    go true d true f true g true h e (suc zero) = eqb-true _ 0 f
    go true d true f true g true h e (suc (suc zero)) = eqb-true _ 0 g
    go true d true f true g true h e (suc (suc (suc q))) = eqb-true _ 0 h
    go false d x f y g z h e q = absurd (true≢false e)
    go true d false f y g z h e q = absurd (true≢false e)
    go true d true f false g z h e q = absurd (true≢false e)
    go true d true f true g false h e q = absurd (true≢false e)

-- sets that share nothing have no bus in common
pub apart_in : (a b : Buses) (x : ℕ) → shared a b ≡ false → In a x → In b x → ⊥
apart_in a b x e i j =
    let z : bit (x % 64) (bit_and (quarter a (x / 64)) (quarter b (x / 64))) ≡ 0 = ap (bit (x % 64)) (none_shared a b e (x / 64)) ∙ zero_bit (x % 64) in
    let o : min (bit (x % 64) (quarter a (x / 64))) (bit (x % 64) (quarter b (x / 64))) ≡ 1 = ap₂ min i j in
    let m = sym (and_bit (x % 64) (quarter a (x / 64)) (quarter b (x / 64))) ∙ z in
    omega (arith, m, o)
  where
    zero_bit : (k : ℕ) → bit k 0 ≡ 0
    zero_bit k = zero_outside k 0 (omega arith)

-- a set and a port's that have no bus in common share nothing
pub shares_none : (a : Buses) (p : Port) → ((x : ℕ) → x < 256 → In a x → In (buses_of p) x → ⊥) → shared a (buses_of p) ≡ false
unfolding shared
shares_none a p none = rw (eq-eqb _ 0 (word 0 (omega arith)), eq-eqb _ 0 (word 1 (omega arith)), eq-eqb _ 0 (word 2 (omega arith)), eq-eqb _ 0 (word 3 (omega arith)))
  where
    low_bit : (k q : ℕ) → k < 64 → q < 4 → (bit k (quarter a q) ≡ 1 → bit k (quarter (buses_of p) q) ≡ 1 → ⊥)
    low_bit k q h l i j =
        let d : (64 * q + k) / 64 ≡ q = omega arith in
        let m : (64 * q + k) % 64 ≡ k = omega arith in
        none (64 * q + k) (omega arith) (subst (λ (n : ℕ). bit n (quarter a ((64 * q + k) / 64)) ≡ 1) (sym m) (subst (λ (n : ℕ). bit k (quarter a n) ≡ 1) (sym d) i))
        (subst (λ (n : ℕ). bit n (quarter (buses_of p) ((64 * q + k) / 64)) ≡ 1) (sym m) (subst (λ (n : ℕ). bit k (quarter (buses_of p) n) ≡ 1) (sym d) j))

    min_zero_of : (x y : ℕ) → x < 2 → y < 2 → (x ≡ 1 → y ≡ 1 → ⊥) → min x y ≡ 0
    min_zero_of zero y h j n = zero-min y
    min_zero_of (suc zero) zero h j n = min-zero 1
    min_zero_of (suc zero) (suc zero) h j n = absurd (n refl refl)
    min_zero_of (suc zero) (suc (suc y)) h j n = absurd (omega arith)
    min_zero_of (suc (suc x)) y h j n = absurd (omega arith)

    each_bit : (q : ℕ) → q < 4 → (k : ℕ) → bit k (bit_and (quarter a q) (quarter (buses_of p) q)) ≡ 0
    each_bit q l k =
        and_bit k (quarter a q) (quarter (buses_of p) q)
        ∙ min_zero_of (bit k (quarter a q)) (bit k (quarter (buses_of p) q)) (bit_below k (quarter a q)) (bit_below k (quarter (buses_of p) q))
        (λ i j. ⊎_elim (λ h. low_bit k q h l i j) (λ h. zero_is_not_one _ (ap (bit k) (quarter_of p q l) ∙ range_beyond k p.secondary (p.subordinate + 1) (64 * q) h) j) (cases_lt k 64))

    word : (q : ℕ) → q < 4 → bit_and (quarter a q) (quarter (buses_of p) q) ≡ 0
    word q l = no_bits (bit_and (quarter a q) (quarter (buses_of p) q)) (each_bit q l)
