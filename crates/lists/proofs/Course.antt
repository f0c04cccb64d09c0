-- Laws of the walk as a sequence of pointers: a legal chain is what it meets up to the end, and where it comes back it goes round for ever.
-- Assumes nothing.
use Prim.Native.Nat.{ℕ, zero, suc, ◌+◌, ◌-◌, ◌≤◌, ◌<◌}
use mathlib.Core.Bool.{Bool, true, false}
use mathlib.Core.List.{List, [], ◌∷◌, ◌++◌, append_assoc, append-nil}
use mathlib.Core.Logic.{◌⊎◌, ⊎_elim}
use mathlib.Core.Path.{◌≡◌, refl, sym, ap, subst, ◌∙◌}
use native.Mathlib.Nat.{zero-add, add-zero, add-suc, eq-or-lt_of_le, le_of_suc-le-suc}
use native.Mathlib.Omega.{arith}
use borrow.Author.Tests.{ltb-true, ltb-false}
use lib.Dec.{ltb}
use lib.ListN.{length, take, get_or}
use lib.Seq.{take-suc}
use Rattle.lists.specs.Table.{ListRule}
use Rattle.lists.specs.Chain.{Legal, Legal.ends, Legal.goes, HasChain, NoChain, follows}
use Rattle.lists.specs.Breaks.{met, Back}
use Rattle.lists.specs.Inner.{Leading}

-- the offsets that the first so many pointers lead to, in order
unfoldable pub trail : ListRule → List ℕ → ℕ → List ℕ
trail list s zero = []
trail list s (suc n) = trail list s n ++ (met list s n ∷ [])

-- what holds below n and at n holds below its successor
pub one_more : (P : ℕ → Type 0) (n : ℕ) → ((k : ℕ) → k < n → P k) → P n → (k : ℕ) → k < suc n → P k
one_more P n all here k l = ⊎_elim (λ e. subst P (sym e) here) (λ lt. all k lt) (eq-or-lt_of_le (le_of_suc-le-suc l))

module _ {list : ListRule} {s : List ℕ} where
  pub leading_none : Leading list s 0
  leading_none = record { onward = λ k small. absurd (omega arith); above = λ k small. absurd (omega arith) }

  pub leading_more : {n : ℕ} → Leading list s n → (met list s n ≡ 0 → ⊥) → list.floor ≤ met list s n → Leading list s (suc n)
  leading_more {n} l on high =
      record {
        onward = one_more (λ k. met list s k ≡ 0 → ⊥) n l.onward on;
        above = one_more (λ k. list.floor ≤ met list s k) n l.above high;
      }

  -- ---- a chain is what is met up to the end

  onto : (n : ℕ) → Leading list s n → {rest : List ℕ} → Legal list s (met list s n) rest → HasChain list s (trail list s n ++ rest)
  unfolding met trail
  onto zero l {rest} legal = legal
  onto (suc n) l {rest} legal =
      rw append_assoc
      (onto n (record { onward = λ k small. l.onward k (omega arith); above = λ k small. l.above k (omega arith) })
      (goes (l.onward n (omega arith)) (l.above n (omega arith)) legal refl))

  pub chain_of : (n : ℕ) → Leading list s n → met list s n ≡ 0 → HasChain list s (trail list s n)
  chain_of n l z = subst (λ (chain : List ℕ). HasChain list s chain) (append-nil (trail list s n)) (onto n l (ends z refl))

  along : (n : ℕ) {pointer : ℕ} {chain : List ℕ} → pointer ≡ met list s n → Leading list s n → Legal list s pointer chain
      → Leading list s (n + length chain) × (met list s (n + length chain) ≡ 0)
  unfolding met
  along n {pointer} {chain} here l (ends z e) =
      let none : n + length chain ≡ n = omega (arith, ap length e) in
      rw none (l, sym here ∙ z)
  along n {pointer} {chain} here l (goes {rest = rest} m high legal e) =
      let more : n + length chain ≡ suc n + length rest = omega (arith, ap length e) in
      rw more
      (along (suc n) (ap (follows list s) here)
      (leading_more l (λ z. m (here ∙ z)) (subst (λ (p : ℕ). list.floor ≤ p) here high)) legal)

  -- a chain's pointers lead on, and the one behind them is the end
  pub chain_met : {chain : List ℕ} → HasChain list s chain → Leading list s (length chain) × (met list s (length chain) ≡ 0)
  unfolding met
  chain_met {chain} legal =
      subst (λ (n : ℕ). Leading list s n × (met list s n ≡ 0)) (zero-add (length chain)) (along 0 refl leading_none legal)

  -- ---- where it comes back, it goes round

  pub goes_round : {n : ℕ} (b : Back list s n) (i : ℕ) → met list s (n + i) ≡ met list s (b.earlier + i)
  unfolding met
  goes_round {n} b zero = ap (met list s) (add-zero n) ∙ b.same ∙ ap (met list s) (sym (add-zero b.earlier))
  goes_round {n} b (suc i) = ap (met list s) (add-suc n i) ∙ ap (follows list s) (goes_round b i) ∙ ap (met list s) (sym (add-suc b.earlier i))

  -- so before a pointer that leads nowhere none comes back
  pub new_before : {n : ℕ} → Leading list s n → (met list s n ≡ 0) ⊎ (met list s n < list.floor) → (k : ℕ) → k < n → Back list s k → ⊥
  new_before {n} l stop k small b =
      let there : k + (n - k) ≡ n = omega arith in
      let round : met list s n ≡ met list s (b.earlier + (n - k)) = ap (met list s) (sym there) ∙ goes_round b (n - k) in
      let sooner : b.earlier + (n - k) < n = omega (arith, b.before) in
      ⊎_elim (λ z. l.onward (b.earlier + (n - k)) sooner (sym round ∙ z)) (λ low. omega (arith, l.above (b.earlier + (n - k)) sooner, round)) stop

  -- a chain is at least as long as the way to a pointer before which the list does not end
  pub long_enough : {n : ℕ} → ((k : ℕ) → k < n → met list s k ≡ 0 → ⊥) → {chain : List ℕ} → HasChain list s chain → n ≤ length chain
  long_enough {n} on {chain} legal = go (ltb (length chain) n) refl
    where
      go : (less : Bool) → ltb (length chain) n ≡ less → n ≤ length chain
      go true e = absurd (on (length chain) (ltb-true (length chain) n e) (chain_met legal).1)
      go false e = ltb-false (length chain) n e

  pub back_unending : {n : ℕ} → Back list s n → ((k : ℕ) → k < n → met list s k ≡ 0 → ⊥) → NoChain list s
  back_unending {n} b on chain legal =
      let t = chain_met legal in
      let far = long_enough on legal in
      let there : n + (length chain - n) ≡ length chain = omega arith in
      t.0.onward (b.earlier + (length chain - n)) (omega (arith, b.before))
      (sym (goes_round b (length chain - n)) ∙ ap (met list s) there ∙ t.1)

-- what a log has of them
pub logged_trail : (list : ListRule) (s log : List ℕ) (n : ℕ) → n ≤ length log → ((k : ℕ) → k < n → get_or log k 0 ≡ met list s k)
    → take n log ≡ trail list s n
unfolding trail
logged_trail list s log zero fits logged = refl
logged_trail list s log (suc n) fits logged =
    rw (take-suc log n 0 (omega arith), logged n (omega arith), logged_trail list s log n (omega arith) (λ k small. logged k (omega arith)))
