-- Demand 1 for a board of two functions: a refusal changes nothing of either. Whatever result meets the promise of `pair::serve` with a number but 0 has
-- length 0 and both captures as they were, and leaves the four spaces and the reply as they were lent, every byte. The number is the lowest that applies, 0
-- exactly if none does, and no other than 0 to 6. Assumes nothing.
use Prim.Native.Nat.{ℕ, zero, suc}
use mathlib.Core.Bool.{Bool, true, false}
use mathlib.Core.List.{List, [], ◌∷◌, Memᴰ}
use mathlib.Core.Path.{◌≡◌, refl, sym, ap, ◌∙◌, subst}
use native.Mathlib.Omega.{arith}
use lib.ListN.{length}
use Rattle.answers.specs.Numbers.{answered}
use Rattle.answers.proofs.Checks.{Lowest, Positive, Rising, gives_lowest, gives_one_of}
use Rattle.board.specs.Promise.{count_of}
use Rattle.board.proofs.Refusals.{outcome_number}
use Rattle.pair.specs.Pair.{Pair, Primary, Alternate, board, is_for_role}
use Rattle.pair.specs.Serving.{served_by, delivered, pair_checks, pair_number, pair_refused, by_pair_number, serve_pair}
use Rattle.pair.specs.Promise.{Served, PairSeen, pair_shows, PairServes}
use Rattle.pair.proofs.Laws.{each_number}

-- the statements
abbrev pub PairRefusalKeeps : Type 0
PairRefusalKeeps =
    (pair : Pair) (p reply : List ℕ) (r : Served) (po pt ao at after : List ℕ) → PairServes pair p reply r po pt ao at after → (answered r.answer ≡ 0 → ⊥)
    → (count_of r.answer ≡ 0) × (r.kept ≡ record { primary = pair.primary.capture; alternate = pair.alternate.capture }) × (po ≡ pair.primary.ordinary.bytes)
    × (pt ≡ pair.primary.trusted.bytes) × (ao ≡ pair.alternate.ordinary.bytes) × (at ≡ pair.alternate.trusted.bytes) × (after ≡ reply)

-- what a number says: it is the lowest that applies, 0 exactly if none does, and no other than 0 to 6
pub record PairNumberSays (pair : Pair) (p : List ℕ) (size n : ℕ) : Type 0 where
  pub lowest : Lowest (pair_checks pair p size) n
  pub only : Memᴰ n (0 ∷ 1 ∷ 2 ∷ 3 ∷ 4 ∷ 5 ∷ 6 ∷ [])

abbrev pub PairNumberIsLowest : Type 0
PairNumberIsLowest =
    (pair : Pair) (p reply : List ℕ) (r : Served) (po pt ao at after : List ℕ) → PairServes pair p reply r po pt ao at after
    → PairNumberSays pair p (length reply) (answered r.answer)

-- ---- the number of an outcome is the number of the checks

delivered_number : (pair : Pair) (p : List ℕ) (size : ℕ) → pair_number pair p size ≡ 0 → (first second : Bool) → is_for_role Primary pair p ≡ first
    → is_for_role Alternate pair p ≡ second → (delivered pair p size).number ≡ 0
unfolding served_by
delivered_number pair p size n true second f s = rw f (outcome_number (board Primary pair) p size ∙ each_number Primary pair p size n)
delivered_number pair p size n false true f s = rw (f, s) (outcome_number (board Alternate pair) p size ∙ each_number Alternate pair p size n)
delivered_number pair p size n false false f s = rw (f, s)

by_number : (n : ℕ) (pair : Pair) (p : List ℕ) (size : ℕ) → pair_number pair p size ≡ n → (by_pair_number n pair p size).number ≡ n
by_number zero pair p size e = delivered_number pair p size e _ _ refl refl
by_number (suc n) pair p size e = refl

pub pair_outcome_number : (pair : Pair) (p : List ℕ) (size : ℕ) → (serve_pair pair p size).number ≡ pair_number pair p size
unfolding serve_pair
pair_outcome_number pair p size = by_number (pair_number pair p size) pair p size refl

-- ---- a refusal

refused_is : (n : ℕ) (pair : Pair) (p : List ℕ) (size : ℕ) → (n ≡ 0 → ⊥) → by_pair_number n pair p size ≡ pair_refused n pair
refused_is zero pair p size h = absurd (h refl)
refused_is (suc n) pair p size h = refl

pub pair_refused_lem : (pair : Pair) (p : List ℕ) (size : ℕ) → (pair_number pair p size ≡ 0 → ⊥) → serve_pair pair p size ≡ pair_refused (pair_number pair p size) pair
unfolding serve_pair
pair_refused_lem pair p size h = refused_is (pair_number pair p size) pair p size h

number_shown : (pair : Pair) (p reply : List ℕ) → (pair_shows (serve_pair pair p (length reply)) reply).number ≡ pair_number pair p (length reply)
unfolding pair_shows
number_shown pair p reply = pair_outcome_number pair p (length reply)

pub pair_refusal_keeps : PairRefusalKeeps
unfolding pair_shows
pair_refusal_keeps pair p reply r po pt ao at after e n =
    let h : pair_number pair p (length reply) ≡ 0 → ⊥ = λ z. n (ap (λ (x : PairSeen). x.number) e ∙ number_shown pair p reply ∙ z) in
    let s = e ∙ ap (λ (o : Rattle.pair.specs.Serving.PairOutcome). pair_shows o reply) (pair_refused_lem pair p (length reply) h) in (
      ap (λ (x : PairSeen). x.count) s,
      ap (λ (x : PairSeen). x.kept) s,
      ap (λ (x : PairSeen). x.primary_ordinary) s,
      ap (λ (x : PairSeen). x.primary_trusted) s,
      ap (λ (x : PairSeen). x.alternate_ordinary) s,
      ap (λ (x : PairSeen). x.alternate_trusted) s,
      ap (λ (x : PairSeen). x.reply) s,
    )

-- ---- the lowest number

positive : (pair : Pair) (p : List ℕ) (size : ℕ) → Positive (pair_checks pair p size)
positive pair p size = omega arith

rising : (pair : Pair) (p : List ℕ) (size : ℕ) → Rising (pair_checks pair p size)
rising pair p size = omega arith

pub pair_number_says : (pair : Pair) (p : List ℕ) (size : ℕ) → PairNumberSays pair p size (serve_pair pair p size).number
pair_number_says pair p size =
    let cs = pair_checks pair p size in
    rw (pair_outcome_number pair p size)
    (record { lowest = gives_lowest cs (positive pair p size) (rising pair p size); only = gives_one_of cs })

pub pair_number_is_lowest : PairNumberIsLowest
unfolding pair_shows
pair_number_is_lowest pair p reply r po pt ao at after e =
    subst (PairNumberSays pair p (length reply)) (sym (ap (λ (x : PairSeen). x.number) e)) (pair_number_says pair p (length reply))
