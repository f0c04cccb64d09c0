-- Laws of numbers as text. Assumes nothing.
use Prim.Native.Nat.{ℕ, zero, suc, ◌/◌, ◌%◌, ◌≤◌, ◌<◌}
use mathlib.Core.Bool.{Bool, true, false, cond}
use mathlib.Core.List.{[], ◌∷◌}
use mathlib.Core.Path.{◌≡◌, refl, ap}
use native.Mathlib.Nat.{div-one}
use native.Mathlib.Omega.{arith}
use borrow.Author.Tests.{lt-ltb, le-ltb}
use lib.Dec.{ltb, lit≤}
use lib.ListN.{length}
use Rattle.report.specs.Text.{digit, digits, decimal, figures}

module _ (n : ℕ) where
  pub decimal_one : n < 10 → decimal n ≡ digit (n % 10) ∷ []
  unfolding decimal
  decimal_one h = rw (lt-ltb n 10 h, div-one)

  pub decimal_two : 10 ≤ n → n < 100 → decimal n ≡ digit (n / 10 % 10) ∷ digit (n % 10) ∷ []
  unfolding decimal
  decimal_two l h = rw (le-ltb n 10 l, lt-ltb n 100 h, div-one)

  pub decimal_three : 100 ≤ n → decimal n ≡ digit (n / 100 % 10) ∷ digit (n / 10 % 10) ∷ digit (n % 10) ∷ []
  unfolding decimal
  decimal_three l = rw (le-ltb n 10 (omega arith), le-ltb n 100 l, div-one)

digits_length : (base k n : ℕ) → length (digits base k n) ≡ k
digits_length base zero n = refl
digits_length base (suc k) n = ap suc (digits_length base k n)

pub decimal_length : (n : ℕ) → length (decimal n) ≡ figures n
unfolding decimal
decimal_length n = digits_length 10 (figures n) n

pub figures_most : (n : ℕ) → figures n ≤ 3
figures_most n = go (ltb n 10) (ltb n 100)
  where
    go : (a b : Bool) → cond a 1 (cond b 2 3) ≤ 3
    go true b = lit≤ tt
    go false true = lit≤ tt
    go false false = lit≤ tt

pub figures_few : (n : ℕ) → n < 100 → figures n ≤ 2
figures_few n h = rw (lt-ltb n 100 h) (go (ltb n 10))
  where
    go : (a : Bool) → cond a 1 2 ≤ 2
    go true = lit≤ tt
    go false = lit≤ tt
