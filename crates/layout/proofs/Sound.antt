-- THEOREM. When structures are bad, as the tenth request of document 02 has it: there are none or more than 960, or one of them has the ID 0000h, a version over 15 or
-- a length outside 4 to 3,840. Assumes nothing.
use Prim.Native.Nat.{ℕ, zero, suc, ◌≤◌, ◌<◌}
use mathlib.Core.Bool.{Bool, true, false, or-false}
use mathlib.Core.List.{List, [], ◌∷◌}
use mathlib.Core.Logic.{◌↔◌, ◌⊎◌}
use mathlib.Core.Logic.◌⊎◌.{inl, inr}
use mathlib.Core.Path.{◌≡◌, refl, sym, ◌∙◌}
use native.Mathlib.Omega.{arith}
use borrow.Author.Tests.{eqb-true, eqb-false, ltb-true, ltb-false}
use lib.Dec.{eqb, ltb}
use lib.ListN.{length}
use Rattle.std.proofs.lemmas.Bool.{or_parts}
use Rattle.answers.proofs.Checks.{none_of}
use Rattle.layout.specs.declared.Structure.{Structure}
use Rattle.layout.specs.Structures.{identity, version, extent, structure_at, is_bad, one_bad, are_bad}

-- what makes a structure a bad one
pub data Faulty (structure : Structure) : Type 0 where
  unnamed : identity structure ≡ 0 → Faulty structure
  over_versioned : 15 < version structure → Faulty structure
  short : extent structure < 4 → Faulty structure
  long : 3840 < extent structure → Faulty structure

-- one of the structures is
pub record OneFaulty (structures : List Structure) : Type 0 where
  pub which : ℕ
  pub one : which < length structures
  pub faulty : Faulty (structure_at structures which)

-- the statement
abbrev pub BadExactly : Type 0
BadExactly = (structures : List Structure) → (are_bad structures ≡ true) ↔ ((length structures ≡ 0) ⊎ ((960 < length structures) ⊎ OneFaulty structures))

-- ---- a structure that is not bad

pub record Sound (structure : Structure) : Type 0 where
  pub named : identity structure ≡ 0 → ⊥
  pub versioned : version structure ≤ 15
  pub least : 4 ≤ extent structure
  pub most : extent structure ≤ 3840

-- each of them
abbrev pub AllSound : List Structure → Type 0
AllSound structures = (k : ℕ) → k < length structures → Sound (structure_at structures k)

-- ---- a test or its opposite

pub tested : {A : Type 0} (b : Bool) → (b ≡ true → A) → (b ≡ false → A) → A
tested true t f = t refl
tested false t f = f refl

is_sound : (structure : Structure) → is_bad structure ≡ false → Sound structure
unfolding is_bad
is_sound structure e =
    let n = none_of (eqb (identity structure) 0 ∷ ltb 15 (version structure) ∷ ltb (extent structure) 4 ∷ ltb 3840 (extent structure) ∷ []) e in
    record {
      named = eqb-false _ _ n.0;
      versioned = ltb-false _ _ n.1.0;
      least = ltb-false _ _ n.1.1.0;
      most = ltb-false _ _ n.1.1.1.0;
    }

is_faulty : (structure : Structure) → is_bad structure ≡ true → Faulty structure
unfolding is_bad
is_faulty structure e =
    tested (eqb (identity structure) 0) (λ t. unnamed (eqb-true _ _ t))
    (λ f.
    tested (ltb 15 (version structure)) (λ t. over_versioned (ltb-true _ _ t))
    (λ g. tested (ltb (extent structure) 4) (λ t. short (ltb-true _ _ t)) (λ h. long (ltb-true _ _ (last f g h)))))
  where
    last : eqb (identity structure) 0 ≡ false → ltb 15 (version structure) ≡ false → ltb (extent structure) 4 ≡ false
        → ltb 3840 (extent structure) ≡ true
    last f g h =
        tested (ltb 3840 (extent structure)) (λ t. t) (λ k. let z : ◌≡◌ {A = Bool} true false = sym e ∙ rw (f, g, h, k) in cc)

never_both : {structure : Structure} → Faulty structure → Sound structure → ⊥
never_both (unnamed e) s = s.named e
never_both (over_versioned h) s = omega (arith, s.versioned)
never_both (short h) s = omega (arith, s.least)
never_both (long h) s = omega (arith, s.most)

-- ---- all of them

none_is : (structures : List Structure) → one_bad structures ≡ false → AllSound structures
none_is [] e k h = absurd (omega arith)
none_is (structure ∷ structures) e zero h = is_sound structure (or_parts _ (one_bad structures) e).0
none_is (structure ∷ structures) e (suc k) h = none_is structures (or_parts (is_bad structure) _ e).1 k (omega arith)

one_is : (structures : List Structure) → one_bad structures ≡ true → OneFaulty structures
one_is [] e = cc
one_is (structure ∷ structures) e =
    tested (is_bad structure) (λ t. record { which = 0; one = omega arith; faulty = is_faulty structure t })
    (λ f. later (one_is structures (sym (rw f) ∙ e)))
  where
    later : OneFaulty structures → OneFaulty (structure ∷ structures)
    later o = record { which = suc o.which; one = omega (arith, o.one); faulty = o.faulty }

-- what is known of structures that are not bad
pub record Given (structures : List Structure) : Type 0 where
  pub some : 0 < length structures
  pub few : length structures ≤ 960
  pub sound : AllSound structures

pub given : (structures : List Structure) → are_bad structures ≡ false → Given structures
unfolding are_bad
given structures e =
    let n = none_of (eqb (length structures) 0 ∷ ltb 960 (length structures) ∷ one_bad structures ∷ []) e in
    let m = eqb-false (length structures) 0 n.0 in
    record { some = positive (length structures) m; few = ltb-false _ _ n.1.0; sound = none_is structures n.1.1.0 }
  where
    positive : (n : ℕ) → (n ≡ 0 → ⊥) → 0 < n
    positive zero m = absurd (m refl)
    positive (suc n) m = omega arith

-- ---- the theorem

pub bad_exactly : BadExactly
unfolding are_bad
bad_exactly structures = (there, back)
  where
    there : are_bad structures ≡ true → (length structures ≡ 0) ⊎ ((960 < length structures) ⊎ OneFaulty structures)
    there e =
        tested (eqb (length structures) 0) (λ t. inl (eqb-true _ _ t))
        (λ f.
        tested (ltb 960 (length structures)) (λ t. inr (inl (ltb-true _ _ t)))
        (λ g. inr (inr (one_is structures (sym (or-false (one_bad structures)) ∙ sym (rw (f, g)) ∙ e)))))

    back : (length structures ≡ 0) ⊎ ((960 < length structures) ⊎ OneFaulty structures) → are_bad structures ≡ true
    back cause = tested (are_bad structures) (λ t. t) (λ f. absurd (against (given structures f) cause))
      where
        against : Given structures → (length structures ≡ 0) ⊎ ((960 < length structures) ⊎ OneFaulty structures) → ⊥
        against g (inl e) = omega (arith, g.some)
        against g (inr (inl h)) = omega (arith, g.few)
        against g (inr (inr o)) = never_both o.faulty (g.sound o.which o.one)
