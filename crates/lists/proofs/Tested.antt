-- A walk of so many pointers, tested by computing them: for examples. Assumes nothing.
use Prim.Native.Nat.{ℕ, zero, suc, ◌<◌}
use mathlib.Core.Bool.{Bool, true, false, ◌&&◌, not}
use mathlib.Core.List.{List}
use mathlib.Core.Logic.{⊎_elim}
use mathlib.Core.Path.{◌≡◌, refl, ap, ◌∙◌}
use native.Mathlib.Nat.{eq-or-lt_of_le, le_of_suc-le-suc}
use native.Mathlib.Omega.{arith}
use borrow.Author.Tests.{eqb-false, leb-true, not-true}
use lib.Dec.{eqb, leb}
use Rattle.lists.specs.Table.{ListRule}
use Rattle.lists.specs.Breaks.{met, Passed, Reached}
use Rattle.lists.proofs.Course.{one_more}

-- no number before the n-th is this one
abbrev differs : (ℕ → ℕ) → ℕ → ℕ → Bool
differs f x zero = true
differs f x (suc n) = not (eqb x (f n)) && differs f x n

-- each of the first n numbers is not 0, not below a floor, and none before it
abbrev pub passable : ℕ → (ℕ → ℕ) → ℕ → Bool
passable floor f zero = true
passable floor f (suc n) = not (eqb (f n) 0) && (leb floor (f n) && (differs f (f n) n && passable floor f n))

both : (a b : Bool) → a && b ≡ true → (a ≡ true) × (b ≡ true)
both true true e = (refl, refl)
both true false e = absurd (let z : ◌≡◌ {A = ℕ} 0 1 = cc in omega arith)
both false b e = absurd (let z : ◌≡◌ {A = ℕ} 0 1 = cc in omega arith)

differs_each : (f : ℕ → ℕ) (x n : ℕ) → differs f x n ≡ true → (k : ℕ) → k < n → x ≡ f k → ⊥
differs_each f x zero t k small e = omega arith
differs_each f x (suc n) t k small e =
    let p = both (not (eqb x (f n))) (differs f x n) t in
    ⊎_elim (λ q. eqb-false x (f n) (not-true (eqb x (f n)) p.0) (e ∙ ap f q)) (λ less. differs_each f x n p.1 k less e)
    (eq-or-lt_of_le (le_of_suc-le-suc small))

pub reached_by_test : (list : ListRule) (s : List ℕ) (n : ℕ) → passable list.floor (met list s) n ≡ true → Reached list s n
reached_by_test list s zero t = λ k small. absurd (omega arith)
reached_by_test list s (suc n) t =
    let a = both (not (eqb (met list s n) 0)) _ t in
    let b = both (leb list.floor (met list s n)) _ a.1 in
    let c = both (differs (met list s) (met list s n) n) _ b.1 in
    one_more (Passed list s) n (reached_by_test list s n c.1)
    (record {
      onward = eqb-false (met list s n) 0 (not-true (eqb (met list s n) 0) a.0);
      above = leb-true list.floor (met list s n) b.0;
      new = λ x. differs_each (met list s) (met list s n) n c.0 x.earlier x.before x.same;
    })
