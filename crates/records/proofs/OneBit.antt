-- Laws of a vector of eight bits: the count of its ones is how many places are set, and where one is set, the zeros below it are its
-- place. Each is a test that is computed for all 256 vectors. Assumes nothing.
use Prim.Native.Nat.{ℕ, zero, suc, ◌<◌}
use mathlib.Core.Bool.{Bool, true, false, cond}
use mathlib.Core.Path.{◌≡◌, refl, sym, subst, ◌∙◌}
use native.Mathlib.Omega.{arith}
use borrow.Author.Tests.{eqb-true, eqb-false, eq-eqb, ne_eqb}
use lib.Count.{ones, count_trailing_zeros}
use lib.Dec.{T, eqb, eqb→eq}
use lib.ListN.{length}
use Rattle.records.specs.DualRule.{set_places, one_set, set_place}

-- a test passes at every number below one
abbrev every : (ℕ → Bool) → ℕ → Bool
every test zero = true
every test (suc n) = cond (test n) (every test n) false

cond_true : (a b : Bool) → T (cond a b false) → T a × T b
cond_true true b t = (tt, t)
cond_true false b t = absurd t

at_each : (test : ℕ → Bool) (n : ℕ) → T (every test n) → (k : ℕ) → k < n → T (test k)
at_each test zero t k h = absurd (omega arith)
at_each test (suc n) t k h = go (λ less. at_each test n both.1 k less) (eqb k n) refl
  where
    both : T (test n) × T (every test n)
    both = cond_true (test n) (every test n) t

    go : (k < n → T (test k)) → (same : Bool) → eqb k n ≡ same → T (test k)
    go below true e = subst (λ (j : ℕ). T (test j)) (sym (eqb-true k n e)) both.0
    go below false e = let other = eqb-false k n e in below (omega arith)

counted : ℕ → Bool
unfolding ones set_places
counted v = eqb (ones v) (length (set_places v))

-- the trailing zeros counted in so many bits
found : ℕ → ℕ → Bool
unfolding count_trailing_zeros set_places one_set set_place
found bits v = cond (one_set v) (eqb (count_trailing_zeros bits v) (set_place v)) true

all_counted : T (every counted 256)
unfolding counted
all_counted = tt

all_found : T (every (found 32) 256)
unfolding found
all_found = tt

all_found_in_byte : T (every (found 8) 256)
unfolding found
all_found_in_byte = tt

module _ (v : ℕ) (small : v < 256) where
  ones_places : ones v ≡ length (set_places v)
  unfolding counted
  ones_places = eqb→eq _ _ (at_each counted 256 all_counted v small)

  pub one_set_lem : ones v ≡ 1 → one_set v ≡ true
  unfolding one_set
  one_set_lem e = eq-eqb (length (set_places v)) 1 (sym ones_places ∙ e)

  pub not_one_set : (ones v ≡ 1 → ⊥) → one_set v ≡ false
  unfolding one_set
  not_one_set n = ne_eqb (length (set_places v)) 1 (λ e. n (ones_places ∙ e))

  pub set_place_lem : one_set v ≡ true → count_trailing_zeros 32 v ≡ set_place v
  unfolding found
  set_place_lem e = eqb→eq _ _ (rw e at (at_each (found 32) 256 all_found v small))

  -- and of a byte
  pub set_place_of_byte : one_set v ≡ true → count_trailing_zeros 8 v ≡ set_place v
  unfolding found
  set_place_of_byte e = eqb→eq _ _ (rw e at (at_each (found 8) 256 all_found_in_byte v small))
