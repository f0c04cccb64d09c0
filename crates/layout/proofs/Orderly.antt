-- Offsets in order, as the checker goes through them: each a multiple of 4, where all before have ended, and ending by 1000h. Of sound structures that is what the tenth
-- request of document 02 calls acceptable, but for the first at 100h. Assumes nothing.
use Prim.Native.Nat.{ℕ, zero, suc, ◌+◌, ◌%◌, ◌≤◌, ◌<◌}
use mathlib.Core.Bool.{true, false, ◌&&◌}
use mathlib.Core.List.{List, [], ◌∷◌}
use mathlib.Core.Path.{◌≡◌, refl, ap}
use native.Mathlib.Omega.{arith}
use borrow.Author.Tests.{eqb-true, leb-true, ltb-true, ltb-false, eq-eqb, le-leb}
use lib.Dec.{eqb, leb, ltb}
use lib.ListN.{length}
use Rattle.std.proofs.lemmas.Bool.{and_parts, both_ways}
use Rattle.layout.specs.declared.Structure.{Structure}
use Rattle.layout.specs.Structures.{extent}
use Rattle.layout.specs.Accepting.{offset_at, end_at, Acceptable}
use Rattle.layout.specs.Inner.{may_stand, stand_from, accepts}
use Rattle.layout.proofs.Sound.{AllSound, tested}

pub record Orderly (ended : ℕ) (structures : List Structure) (offsets : List ℕ) : Type 0 where
  pub each : length offsets ≡ length structures
  pub aligned : (k : ℕ) → k < length offsets → offset_at offsets k % 4 ≡ 0
  pub above : (k : ℕ) → k < length offsets → ended ≤ offset_at offsets k
  pub behind : (j k : ℕ) → j < k → k < length offsets → end_at structures offsets j ≤ offset_at offsets k
  pub inside : (k : ℕ) → k < length offsets → end_at structures offsets k ≤ 0x1000

-- a structure that may stand at an offset
pub record Standing (ended : ℕ) (structure : Structure) (at : ℕ) : Type 0 where
  pub aligned : at % 4 ≡ 0
  pub above : ended ≤ at
  pub inside : at + extent structure ≤ 0x1000

pub standing : (ended : ℕ) (structure : Structure) (at : ℕ) → may_stand ended (extent structure) at ≡ true → Standing ended structure at
standing ended structure at e =
    let a = and_parts (eqb (at % 4) 0) (leb ended at && leb (at + extent structure) 0x1000) e in
    let b = and_parts (leb ended at) (leb (at + extent structure) 0x1000) a.1 in
    record { aligned = eqb-true _ _ a.0; above = leb-true _ _ b.0; inside = leb-true _ _ b.1 }

pub stands : {ended : ℕ} {structure : Structure} {at : ℕ} → Standing ended structure at → may_stand ended (extent structure) at ≡ true
stands {ended} {structure} {at} s = rw (eq-eqb (at % 4) 0 s.aligned, le-leb ended at s.above, le-leb (at + extent structure) 0x1000 s.inside)

-- ---- one before the others

pub alone : (ended : ℕ) → Orderly ended [] []
alone ended =
    record {
      each = refl;
      aligned = λ k h. absurd (omega arith);
      above = λ k h. absurd (omega arith);
      behind = λ j k l h. absurd (omega arith);
      inside = λ k h. absurd (omega arith);
    }

module _ {ended : ℕ} {structure : Structure} {at : ℕ} {structures : List Structure} {offsets : List ℕ} where
  pub before : Standing ended structure at → Orderly (at + extent structure) structures offsets → Orderly ended (structure ∷ structures) (at ∷ offsets)
  before s o = record { each = ap suc o.each; aligned = aligned; above = above; behind = behind; inside = inside }
    where
      aligned : (k : ℕ) → k < length (at ∷ offsets) → offset_at (at ∷ offsets) k % 4 ≡ 0
      aligned zero h = s.aligned
      aligned (suc k) h = o.aligned k (omega arith)

      above : (k : ℕ) → k < length (at ∷ offsets) → ended ≤ offset_at (at ∷ offsets) k
      above zero h = s.above
      above (suc k) h = omega (arith, s.above, o.above k (omega arith))

      behind : (j k : ℕ) → j < k → k < length (at ∷ offsets) → end_at (structure ∷ structures) (at ∷ offsets) j ≤ offset_at (at ∷ offsets) k
      behind j zero l h = absurd (omega arith)
      behind zero (suc k) l h = o.above k (omega arith)
      behind (suc j) (suc k) l h = o.behind j k (omega arith) (omega arith)

      inside : (k : ℕ) → k < length (at ∷ offsets) → end_at (structure ∷ structures) (at ∷ offsets) k ≤ 0x1000
      inside zero h = s.inside
      inside (suc k) h = o.inside k (omega arith)

  pub first_of : Orderly ended (structure ∷ structures) (at ∷ offsets) → Standing ended structure at
  first_of o = record { aligned = o.aligned 0 (omega arith); above = o.above 0 (omega arith); inside = o.inside 0 (omega arith) }

  pub others_of : Orderly ended (structure ∷ structures) (at ∷ offsets) → Orderly (at + extent structure) structures offsets
  others_of o =
      record {
        each = omega (arith, o.each);
        aligned = λ k h. o.aligned (suc k) (omega arith);
        above = λ k h. o.behind 0 (suc k) (omega arith) (omega arith);
        behind = λ j k l h. o.behind (suc j) (suc k) (omega arith) (omega arith);
        inside = λ k h. o.inside (suc k) (omega arith);
      }

-- what ended sooner
pub sooner : {ended less : ℕ} {structures : List Structure} {offsets : List ℕ} → less ≤ ended → Orderly ended structures offsets
    → Orderly less structures offsets
sooner h o =
    record {
      each = o.each;
      aligned = o.aligned;
      above = λ k small. omega (arith, h, o.above k small);
      behind = o.behind;
      inside = o.inside;
    }

-- ---- the checker's way through them

pub stand_orderly : (ended : ℕ) (structures : List Structure) (offsets : List ℕ) → stand_from ended structures offsets ≡ true
    → Orderly ended structures offsets
unfolding stand_from
stand_orderly ended [] [] e = alone ended
stand_orderly ended [] (at ∷ offsets) e = cc
stand_orderly ended (structure ∷ structures) [] e = cc
stand_orderly ended (structure ∷ structures) (at ∷ offsets) e =
    let a = and_parts (may_stand ended (extent structure) at) (stand_from (at + extent structure) structures offsets) e in
    before (standing ended structure at a.0) (stand_orderly (at + extent structure) structures offsets a.1)

pub orderly_stand : (ended : ℕ) (structures : List Structure) (offsets : List ℕ) → Orderly ended structures offsets
    → stand_from ended structures offsets ≡ true
unfolding stand_from
orderly_stand ended [] [] o = refl
orderly_stand ended [] (at ∷ offsets) o = absurd (omega (arith, o.each))
orderly_stand ended (structure ∷ structures) [] o = absurd (omega (arith, o.each))
orderly_stand ended (structure ∷ structures) (at ∷ offsets) o =
    rw (stands (first_of o)) (orderly_stand (at + extent structure) structures offsets (others_of o))

-- ---- what is acceptable

module _ {structures : List Structure} {offsets : List ℕ} (sound : AllSound structures) where
  pub orderly_acceptable : offset_at offsets 0 ≡ 0x100 → Orderly 0x100 structures offsets → Acceptable structures offsets
  orderly_acceptable e o =
      record {
        each = o.each;
        first = e;
        aligned = o.aligned;
        rising = λ j k l h. omega (arith, o.behind j k l h, (sound j (omega (arith, o.each))).least);
        apart = λ j k place l h x y. omega (arith, o.behind j k l h, x.before, y.from);
        inside = o.inside;
      }

  -- where two do not overlap and the second is behind the first, the first ends before it
  ends_before : (a : Acceptable structures offsets) (j k : ℕ) → j < k → k < length offsets → end_at structures offsets j ≤ offset_at offsets k
  ends_before a j k l h =
      tested (ltb (offset_at offsets k) (end_at structures offsets j)) (λ t. absurd (overlap (ltb-true _ _ t))) (λ f. ltb-false _ _ f)
    where
      overlap : offset_at offsets k < end_at structures offsets j → ⊥
      overlap less =
          a.apart j k (offset_at offsets k) l h (record { from = omega (arith, a.rising j k l h); before = less })
          (record { from = omega arith; before = omega (arith, (sound k (omega (arith, a.each))).least) })

  pub acceptable_orderly : Acceptable structures offsets → Orderly 0x100 structures offsets
  acceptable_orderly a =
      record { each = a.each; aligned = a.aligned; above = above; behind = ends_before a; inside = a.inside }
    where
      above : (k : ℕ) → k < length offsets → 0x100 ≤ offset_at offsets k
      above zero h = omega (arith, a.first)
      above (suc k) h = omega (arith, a.first, a.rising 0 (suc k) (omega arith) h)

  -- "decided by the code, both ways"
  pub accepts_acceptable : accepts structures offsets ≡ true → Acceptable structures offsets
  unfolding accepts
  accepts_acceptable e =
      let a = and_parts (eqb (offset_at offsets 0) 0x100) (stand_from 0x100 structures offsets) e in
      orderly_acceptable (eqb-true _ _ a.0) (stand_orderly 0x100 structures offsets a.1)

  pub acceptable_accepts : Acceptable structures offsets → accepts structures offsets ≡ true
  unfolding accepts
  acceptable_accepts a =
      rw (eq-eqb (offset_at offsets 0) 0x100 a.first) (orderly_stand 0x100 structures offsets (acceptable_orderly a))

  pub refuses_acceptable : accepts structures offsets ≡ false → Acceptable structures offsets → ⊥
  refuses_acceptable e a = both_ways _ e (acceptable_accepts a)
