-- THEOREMS. Request 3/13 of document 02, of any list: it breaks in one way and at one place at most; it breaks exactly if it has no legal chain, so "a
-- list is refused exactly when it was before"; it breaks behind the maximum of pointers at the latest; and the place is 0 exactly if the start is at
-- fault. Assumes nothing.
use Prim.Native.Nat.{ℕ, zero, suc, ◌%◌, ◌≤◌, ◌<◌}
use mathlib.Core.Bool.{Bool, true, false}
use mathlib.Core.List.{List}
use mathlib.Core.Logic.{◌↔◌, ◌⊎◌, ⊎_elim}
use mathlib.Core.Logic.◌⊎◌.{inl, inr}
use mathlib.Core.Path.{◌≡◌, refl, sym, ap, subst, ◌∙◌}
use native.Mathlib.Nat.{eq-or-lt_of_le}
use native.Mathlib.Omega.{arith}
use borrow.Author.Tests.{eqb-true, eqb-false, ltb-true, ltb-false}
use lib.Dec.{eqb, ltb, lit≤}
use Rattle.lists.specs.declared.Kind.{Kind}
use Rattle.lists.specs.declared.Kind.TheVariants.{Compatible, Extended, Trusted}
use Rattle.lists.specs.Table.{ListRule, describe}
use Rattle.lists.specs.Chain.{HasChain, NoChain}
use Rattle.lists.specs.Breaks.{met, holder, Below, Back, Passed, Reached, Breaks, Breaks.falls, Breaks.turns}
use Rattle.lists.specs.Inner.{Leading}
use Rattle.lists.proofs.Course.{trail, one_more, chain_of, chain_met, long_enough, back_unending}
use Rattle.lists.proofs.Pointers.{Bytes, span}
use Rattle.lists.proofs.Maxima.{met_within, leading_maximum}

-- the statements
abbrev pub BreaksUnique : Type 0
BreaksUnique = (list : ListRule) (s : List ℕ) (m n p q : ℕ) → Breaks list s m p → Breaks list s n q → (m ≡ n) × (p ≡ q)

-- "A list is refused exactly when it was before": when no legal chain exists
abbrev pub BreaksIffNone : Type 0
BreaksIffNone = (kind : Kind) (s : List ℕ) → Bytes s
    → ((number : ℕ) × (place : ℕ) × Breaks (describe kind) s number place) ↔ NoChain (describe kind) s

-- a list has a chain or breaks
abbrev pub ChainOrBreaks : Type 0
ChainOrBreaks = (kind : Kind) (s : List ℕ) → Bytes s
    → ((chain : List ℕ) × HasChain (describe kind) s chain) ⊎ ((number : ℕ) × (place : ℕ) × Breaks (describe kind) s number place)

-- how many pointers lead to a fault
abbrev pub steps : {list : ListRule} {s : List ℕ} {number place : ℕ} → Breaks list s number place → ℕ
steps (falls n r b e f) = n
steps (turns n r b e f) = n

-- an offset that a structure of a list can have
pub record Structure (kind : Kind) (at : ℕ) : Type 0 where
  pub above : (describe kind).floor ≤ at
  pub aligned : at % 4 ≡ 0
  pub inside : at < span kind

-- how soon a list breaks and where: behind the maximum of pointers at the latest; at its start, which is place 0, or at a structure
pub record Where (kind : Kind) (place passed : ℕ) : Type 0 where
  pub soon : passed ≤ (describe kind).maximum
  pub start : (place ≡ 0) ↔ (passed ≡ 0)
  pub behind : (place ≡ 0 → ⊥) → Structure kind place

abbrev pub BreaksWhere : Type 0
BreaksWhere = (kind : Kind) (s : List ℕ) → Bytes s → (number place : ℕ) (b : Breaks (describe kind) s number place) → Where kind place (steps b)

-- ---- a pointer at which a list breaks is reached, and does not lead on

pub span_most : (kind : Kind) → span kind ≤ 0x1000
span_most Compatible = lit≤ tt
span_most Extended = lit≤ tt
span_most Trusted = lit≤ tt

module _ {list : ListRule} {s : List ℕ} where
  reached_leading : {n : ℕ} → Reached list s n → Leading list s n
  reached_leading r = record { onward = λ k small. (r k small).onward; above = λ k small. (r k small).above }

  reached : {number place : ℕ} (b : Breaks list s number place) → Reached list s (steps b)
  reached (falls n r b e f) = r
  reached (turns n r b e f) = r

  not_passed : {number place : ℕ} (b : Breaks list s number place) → Passed list s (steps b) → ⊥
  not_passed (falls n r b e f) p = omega (arith, p.above, b.low)
  not_passed (turns n r b e f) p = p.new b

  told : {number place : ℕ} (b : Breaks list s number place) → place ≡ holder list s (steps b)
  told (falls n r b e f) = f
  told (turns n r b e f) = f

  -- ---- one way and one place

  no_sooner : {m n p q : ℕ} (a : Breaks list s m p) (b : Breaks list s n q) → steps a < steps b → ⊥
  no_sooner a b h = not_passed a (reached b (steps a) h)

  same_steps : {m n p q : ℕ} (a : Breaks list s m p) (b : Breaks list s n q) → steps a ≡ steps b
  same_steps a b = go (eqb (steps a) (steps b)) refl (ltb (steps a) (steps b)) refl
    where
      go : (same : Bool) → eqb (steps a) (steps b) ≡ same → (less : Bool) → ltb (steps a) (steps b) ≡ less → steps a ≡ steps b
      go true e less f = eqb-true (steps a) (steps b) e
      go false e true f = absurd (no_sooner a b (ltb-true (steps a) (steps b) f))
      go false e false f =
          absurd (no_sooner b a (omega (arith, ltb-false (steps a) (steps b) f, eqb-false (steps a) (steps b) e)))

  -- a pointer below the floor does not come back
  below_new : {n : ℕ} → Reached list s n → Below list s n → Back list s n → ⊥
  below_new {n} r b back = omega (arith, (r back.earlier back.before).above, back.same, b.low)

  same_number : {m n p q : ℕ} (a : Breaks list s m p) (b : Breaks list s n q) → steps a ≡ steps b → m ≡ n
  same_number (falls k r b e f) (falls l o c g h) same = e ∙ sym g
  same_number (falls k r b e f) (turns l o c g h) same = absurd (below_new r b (subst (λ (x : ℕ). Back list s x) (sym same) c))
  same_number (turns k r b e f) (falls l o c g h) same = absurd (below_new o c (subst (λ (x : ℕ). Back list s x) same b))
  same_number (turns k r b e f) (turns l o c g h) same = e ∙ sym g

pub breaks_unique : BreaksUnique
breaks_unique list s m n p q a b =
    let same = same_steps a b in
    (same_number a b same, told a ∙ ap (holder list s) same ∙ sym (told b))

-- ---- a list that breaks has no chain

module _ {list : ListRule} {s : List ℕ} where
  pub breaks_unending : {number place : ℕ} → Breaks list s number place → NoChain list s
  breaks_unending (falls n r b e f) chain legal =
      let t = chain_met legal in
      ⊎_elim (λ same. b.onward (ap (met list s) same ∙ t.1)) (λ less. omega (arith, t.0.above n less, b.low))
      (eq-or-lt_of_le (long_enough (λ k small. (r k small).onward) legal))
  breaks_unending (turns n r b e f) chain legal = back_unending b (λ k small. (r k small).onward) chain legal

-- ---- a list that has no chain breaks

module _ {list : ListRule} {s : List ℕ} where
  -- whether a pointer comes back, by a look at each before it
  found_back : (n : ℕ) (m : ℕ) → m ≤ n → Back list s n ⊎ ((k : ℕ) → k < m → met list s n ≡ met list s k → ⊥)
  found_back n zero h = inr (λ k small e. omega arith)
  found_back n (suc m) h = go (eqb (met list s n) (met list s m)) refl (found_back n m (omega arith))
    where
      go : (same : Bool) → eqb (met list s n) (met list s m) ≡ same → Back list s n ⊎ ((k : ℕ) → k < m → met list s n ≡ met list s k → ⊥)
          → Back list s n ⊎ ((k : ℕ) → k < suc m → met list s n ≡ met list s k → ⊥)
      go true e rest = inl (record { earlier = m; before = h; same = eqb-true (met list s n) (met list s m) e })
      go false e (inl b) = inl b
      go false e (inr none) = inr (λ k small same. ⊎_elim (λ q. eqb-false (met list s n) (met list s m) e (same ∙ ap (met list s) q)) (λ less. none k less same) (eq-or-lt_of_le (omega arith)))

  pub back_or_new : (n : ℕ) → Back list s n ⊎ (Back list s n → ⊥)
  back_or_new n = ⊎_elim inl (λ none. inr (λ b. none b.earlier b.before b.same)) (found_back n n (omega arith))

-- a walk of so many pointers: it came to an end or to a fault, or goes on
data Way (list : ListRule) (s : List ℕ) (n : ℕ) : Type 0 where
  over : (chain : List ℕ) → HasChain list s chain → Way list s n
  broke : (number place : ℕ) → Breaks list s number place → Way list s n
  onward : Reached list s n → Way list s n

way : (list : ListRule) (s : List ℕ) (n : ℕ) → Way list s n
way list s zero = onward (λ k small. absurd (omega arith))
way list s (suc n) = go (way list s n) (eqb (met list s n) 0) refl (ltb (met list s n) list.floor) refl (back_or_new n)
  where
    go : Way list s n → (z : Bool) → eqb (met list s n) 0 ≡ z → (low : Bool) → ltb (met list s n) list.floor ≡ low
        → Back list s n ⊎ (Back list s n → ⊥) → Way list s (suc n)
    go (over chain legal) z e low f b = over chain legal
    go (broke number place b) z e low f c = broke number place b
    go (onward r) true e low f b = over (trail list s n) (chain_of n (reached_leading r) (eqb-true (met list s n) 0 e))
    go (onward r) false e true f b =
        broke 11 (holder list s n)
        (falls n r (record { onward = eqb-false (met list s n) 0 e; low = ltb-true (met list s n) list.floor f }) refl refl)
    go (onward r) false e false f (inl b) = broke 12 (holder list s n) (turns n r b refl refl)
    go (onward r) false e false f (inr new) =
        onward
        (one_more (Passed list s) n r
        (record { onward = eqb-false (met list s n) 0 e; above = ltb-false (met list s n) list.floor f; new = new }))

pub chain_or_breaks : ChainOrBreaks
chain_or_breaks kind s bytes = go (way (describe kind) s (suc (describe kind).maximum))
  where
    go : Way (describe kind) s (suc (describe kind).maximum)
        → ((chain : List ℕ) × HasChain (describe kind) s chain) ⊎ ((number : ℕ) × (place : ℕ) × Breaks (describe kind) s number place)
    go (over chain legal) = inl (chain, legal)
    go (broke number place b) = inr (number, place, b)
    go (onward r) =
        let few = leading_maximum kind s bytes (suc (describe kind).maximum) (reached_leading r) (λ k small. (r k small).new) in
        absurd (omega arith)

pub breaks_iff_none : BreaksIffNone
breaks_iff_none kind s bytes = (
  (λ t. breaks_unending t.2),
  (λ none. ⊎_elim (λ t. absurd (none t.0 t.1)) (λ t. t) (chain_or_breaks kind s bytes)),
)

-- ---- how soon, and where

-- the place of a structure that was passed
passed_place : (kind : Kind) (s : List ℕ) → Bytes s → (n : ℕ) → Passed (describe kind) s n → Structure kind (met (describe kind) s n)
passed_place kind s bytes n p =
    let w = met_within kind s bytes n in
    record { above = p.above; aligned = omega (arith, w.aligned); inside = w.below }

place_zero : (kind : Kind) (s : List ℕ) (n : ℕ) → Reached (describe kind) s n → (holder (describe kind) s n ≡ 0) ↔ (n ≡ 0)
unfolding holder
place_zero kind s zero r = ((λ e. refl), (λ e. refl))
place_zero kind s (suc n) r = ((λ e. absurd ((r n (omega arith)).onward e)), (λ e. absurd (omega arith)))

place_behind : (kind : Kind) (s : List ℕ) → Bytes s → (n : ℕ) → Reached (describe kind) s n → (holder (describe kind) s n ≡ 0 → ⊥)
    → Structure kind (holder (describe kind) s n)
unfolding holder
place_behind kind s bytes zero r other = absurd (other refl)
place_behind kind s bytes (suc n) r other = passed_place kind s bytes n (r n (omega arith))

pub breaks_where : BreaksWhere
breaks_where kind s bytes number place b =
    let r = reached b in
    record {
      soon = leading_maximum kind s bytes (steps b) (reached_leading r) (λ k small. (r k small).new);
      start = subst (λ (p : ℕ). (p ≡ 0) ↔ (steps b ≡ 0)) (sym (told b)) (place_zero kind s (steps b) r);
      behind = subst (λ (p : ℕ). (p ≡ 0 → ⊥) → Structure kind p) (sym (told b)) (place_behind kind s bytes (steps b) r);
    }

-- ---- where the same pointers are met on the way, by two rules with one floor or in two spaces, the list breaks alike

-- up to the n-th pointer
abbrev pub SameWay : ListRule → List ℕ → ListRule → List ℕ → ℕ → Type 0
SameWay a s b t n = (k : ℕ) → k ≤ n → met a s k ≡ met b t k

module _ (a b : ListRule) (s t : List ℕ) where
  holder_carried : (n : ℕ) → SameWay a s b t n → holder a s n ≡ holder b t n
  unfolding holder
  holder_carried zero same = refl
  holder_carried (suc n) same = same n (omega arith)

  back_carried : (n : ℕ) → SameWay a s b t n → Back a s n → Back b t n
  back_carried n same x =
      record { earlier = x.earlier; before = x.before; same = sym (same n (omega arith)) ∙ x.same ∙ same x.earlier (omega (arith, x.before)) }

module _ (a b : ListRule) (s t : List ℕ) (floor : a.floor ≡ b.floor) where
  reached_carried : (n : ℕ) → SameWay a s b t n → Reached a s n → Reached b t n
  reached_carried n same r k small =
      let p = r k small in
      let here = same k (omega arith) in
      record {
        onward = λ z. p.onward (here ∙ z);
        above = omega (arith, p.above);
        new = λ x. p.new (back_carried b a t s k (λ j h. sym (same j (omega arith))) x);
      }

  pub breaks_carried : {number place : ℕ} (x : Breaks a s number place) → SameWay a s b t (steps x) → Breaks b t number place
  breaks_carried (falls n r x e f) same =
      let here = same n (omega arith) in
      falls n (reached_carried n same r) (record { onward = λ z. x.onward (here ∙ z); low = omega (arith, x.low) }) e
      (f ∙ holder_carried a b s t n same)
  breaks_carried (turns n r x e f) same =
      turns n (reached_carried n same r) (back_carried a b s t n same x) e (f ∙ holder_carried a b s t n same)
