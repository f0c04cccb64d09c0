-- THEOREM. No legal chain is longer than its list's maximum: 48, 960 and 1,022 are how many multiples of 4 lie from the floor to the end
-- of what the pointers reach, and a chain repeats none of them. Assumes nothing.
use Prim.Native.Nat.{ℕ, zero, suc, ◌+◌, ◌*◌, ◌/◌, ◌≤◌, ◌<◌}
use mathlib.Core.Bool.{Bool, true, false}
use mathlib.Core.List.Memᴰ
use mathlib.Core.List.{List, [], ◌∷◌, Memᴰ}
use mathlib.Core.Logic.{◌⊎◌, inl, inr, ⊎_elim}
use mathlib.Core.Path.{◌≡◌, refl, sym, ap, subst}
use native.Mathlib.Omega.{arith}
use borrow.Author.Tests.{eqb-true, eqb-false}
use lib.Dec.{eqb}
use lib.ListN.{length}
use Rattle.lists.specs.declared.Kind.{Kind}
use Rattle.lists.specs.declared.Kind.TheVariants.{Compatible, Extended, Trusted}
use Rattle.lists.specs.Table.{ListRule, describe}
use Rattle.lists.specs.Chain.{HasChain}
use Rattle.lists.specs.Breaks.{met, Back}
use Rattle.lists.specs.Inner.{Leading}
use Rattle.lists.proofs.Course.{chain_met, new_before}
use Rattle.lists.proofs.NoRepeats.{Distinct, Distinct.none, Distinct.more}
use Rattle.lists.proofs.Pointers.{Bytes, Within, span, first_within, follows_within}

abbrev pub ChainMaximum : Type 0
ChainMaximum = (kind : Kind) (s : List ℕ) → Bytes s → (chain : List ℕ) → HasChain (describe kind) s chain
    → length chain ≤ (describe kind).maximum

-- a list without one of its numbers: one shorter, still with no number twice, and that number is gone
record Lacks (v : ℕ) (l m : List ℕ) : Type 0 where
  shorter : length l ≡ suc (length m)
  distinct : Distinct m
  fewer : (x : ℕ) → Memᴰ x m → Memᴰ x l
  gone : Memᴰ v m → ⊥

-- a number stands in a list, which then has it taken out, or does not
taken_out : (v : ℕ) {l : List ℕ} → Distinct l → (Memᴰ v l → ⊥) ⊎ ((m : List ℕ) × Lacks v l m)
taken_out v none = inl Memᴰ.not-nil
taken_out v (more {x = x} {l = l} fresh d) = go (eqb v x) refl (taken_out v d)
  where
    go : (same : Bool) → eqb v x ≡ same → (Memᴰ v l → ⊥) ⊎ ((m : List ℕ) × Lacks v l m)
        → (Memᴰ v (x ∷ l) → ⊥) ⊎ ((m : List ℕ) × Lacks v (x ∷ l) m)
    go true e rest =
        let q = eqb-true v x e in
        inr (l, record { shorter = refl; distinct = d; fewer = λ y k. Memᴰ.tail k; gone = λ k. fresh (Memᴰ.cast (sym q) k) })
    go false e (inl out) = inl (λ k. ⊎_elim (eqb-false v x e) out (Memᴰ.cases_cons k))
    go false e (inr (m, r)) = inr (
      x ∷ m,
      record {
        shorter = ap suc r.shorter;
        distinct = more (λ k. fresh (r.fewer x k)) r.distinct;
        fewer = λ y k. ⊎_elim Memᴰ.head (λ h. Memᴰ.tail (r.fewer y h)) (Memᴰ.cases_cons k);
        gone = λ k. ⊎_elim (eqb-false v x e) r.gone (Memᴰ.cases_cons k);
      },
    )

-- a multiple of 4 that is one of n from a floor on
record Place (floor n x : ℕ) : Type 0 where
  aligned : x ≡ 4 * (x / 4)
  above : floor ≤ x
  below : x < floor + 4 * n

-- a list of different multiples of 4, each one of n from a floor on, has at most n
pigeonhole : (floor n : ℕ) → floor ≡ 4 * (floor / 4) → {l : List ℕ} → Distinct l → ((x : ℕ) → Memᴰ x l → Place floor n x)
    → length l ≤ n
pigeonhole floor zero a none places = omega arith
pigeonhole floor zero a (more {x = x} fresh d) places = let p = places x (Memᴰ.head refl) in omega (arith, p.above, p.below)
pigeonhole floor (suc n) a {l} d places = go (λ m e less. pigeonhole floor n a {l = m} e less) (taken_out (floor + 4 * n) d)
  where
    lower : (x : ℕ) → Place floor (suc n) x → (x ≡ floor + 4 * n → ⊥) → Place floor n x
    lower x p other = record { aligned = p.aligned; above = p.above; below = omega (arith, p.aligned, p.below) }

    go : ((m : List ℕ) → Distinct m → ((x : ℕ) → Memᴰ x m → Place floor n x) → length m ≤ n)
        → (Memᴰ (floor + 4 * n) l → ⊥) ⊎ ((m : List ℕ) × Lacks (floor + 4 * n) l m) → length l ≤ suc n
    go smaller (inl out) = let h = smaller l d (λ x k. lower x (places x k) (λ e. out (Memᴰ.cast (sym e) k))) in omega arith
    go smaller (inr (m, r)) =
        let h = smaller m r.distinct (λ x k. lower x (places x (r.fewer x k)) (λ e. r.gone (Memᴰ.cast (sym e) k))) in
        omega (arith, r.shorter)

-- the floor of a list and what its pointers stay below are as far apart as its maximum says
spans : (kind : Kind) → (describe kind).floor + 4 * (describe kind).maximum ≡ span kind
spans Compatible = refl
spans Extended = refl
spans Trusted = refl

floor_aligned : (kind : Kind) → (describe kind).floor ≡ 4 * ((describe kind).floor / 4)
floor_aligned Compatible = refl
floor_aligned Extended = refl
floor_aligned Trusted = refl

-- the offsets that the first so many pointers lead to, the last one first
passed : ListRule → List ℕ → ℕ → List ℕ
passed list s zero = []
passed list s (suc n) = met list s n ∷ passed list s n

passed_length : (list : ListRule) (s : List ℕ) (n : ℕ) → length (passed list s n) ≡ n
unfolding passed
passed_length list s zero = refl
passed_length list s (suc n) = ap suc (passed_length list s n)

passed_met : (list : ListRule) (s : List ℕ) (n : ℕ) {x : ℕ} → Memᴰ x (passed list s n) → (k : ℕ) × (k < n) × (x ≡ met list s k)
unfolding passed
passed_met list s zero m = absurd (Memᴰ.not-nil m)
passed_met list s (suc n) m =
    ⊎_elim (λ e. (n, omega arith, e)) (λ rest. let t = passed_met list s n rest in (t.0, omega (arith, t.1), t.2)) (Memᴰ.cases_cons m)

passed_distinct : (list : ListRule) (s : List ℕ) (n : ℕ) → ((k : ℕ) → k < n → Back list s k → ⊥) → Distinct (passed list s n)
unfolding passed
passed_distinct list s zero new = none
passed_distinct list s (suc n) new =
    more (λ m. let t = passed_met list s n m in new n (omega arith) (record { earlier = t.0; before = t.1; same = t.2 }))
    (passed_distinct list s n (λ k small. new k (omega arith)))

module _ (kind : Kind) (s : List ℕ) (bytes : Bytes s) where
  pub met_within : (n : ℕ) → Within kind (met (describe kind) s n)
  unfolding met
  met_within zero = first_within kind s bytes
  met_within (suc n) = follows_within kind s (met (describe kind) s n) bytes

  -- pointers that lead on, and of which none comes back, are at most the maximum
  pub leading_maximum : (n : ℕ) → Leading (describe kind) s n → ((k : ℕ) → k < n → Back (describe kind) s k → ⊥) → n ≤ (describe kind).maximum
  leading_maximum n l new =
      omega (
        arith,
        passed_length (describe kind) s n,
        pigeonhole (describe kind).floor (describe kind).maximum (floor_aligned kind) (passed_distinct (describe kind) s n new)
            (λ x m.
            let t = passed_met (describe kind) s n m in
            let w = met_within t.0 in
            subst (λ (y : ℕ). Place (describe kind).floor (describe kind).maximum y) (sym t.2)
            (record { aligned = w.aligned; above = l.above t.0 t.1; below = omega (arith, w.below, spans kind) })),
      )

pub chain_maximum : ChainMaximum
chain_maximum kind s bytes chain legal =
    let t = chain_met legal in
    leading_maximum kind s bytes (length chain) t.0 (new_before t.0 (inl t.1))
