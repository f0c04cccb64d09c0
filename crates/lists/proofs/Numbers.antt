-- THEOREM. What the number of a walk says, and the place beside it, both ways: 1, 2, 11, 12 or 0 is given exactly if its cause is there and that of no lower
-- number is; 11 and 12 have the place at which the list breaks, and every other number has place 0; and no other number is given. Assumes nothing.
use Prim.Native.Nat.{ℕ}
use mathlib.Core.List.{List, [], ◌∷◌, Memᴰ}
use mathlib.Core.Logic.{◌↔◌, ⊎_elim}
use mathlib.Core.Path.{◌≡◌, sym, subst, ◌∙◌}
use native.Mathlib.Omega.{arith}
use Rattle.lists.specs.declared.Kind.{Kind}
use Rattle.lists.specs.Table.{ListRule, describe}
use Rattle.lists.specs.Chain.{HasChain}
use Rattle.lists.specs.Breaks.{Breaks}
use Rattle.lists.specs.Walks.{WholeSpace, Roomy, number_given, Walks, Walks.misdescribed, Walks.roomless, Walks.broken, Walks.listed, count_given, place_given, Walked}
use Rattle.lists.proofs.Breaking.{breaks_unique, breaks_unending}
use Rattle.lists.proofs.Decides.{Broken, which}

-- the list breaks, with this number
abbrev pub BreaksAs : Kind → List ℕ → ℕ → Type 0
BreaksAs kind s number = (place : ℕ) × Breaks (describe kind) s number place

pub record NumberSays (kind : Kind) (s room : List ℕ) (n place : ℕ) : Type 0 where
  pub one : (n ≡ 1) ↔ (WholeSpace s → ⊥)
  pub two : (n ≡ 2) ↔ (WholeSpace s × (Roomy kind room → ⊥))
  pub eleven : (n ≡ 11) ↔ (WholeSpace s × Roomy kind room × BreaksAs kind s 11)
  pub twelve : (n ≡ 12) ↔ (WholeSpace s × Roomy kind room × BreaksAs kind s 12)
  pub zero : (n ≡ 0) ↔ (WholeSpace s × Roomy kind room × ((chain : List ℕ) × HasChain (describe kind) s chain))
  pub told : Broken n → Breaks (describe kind) s n place
  pub untold : (Broken n → ⊥) → place ≡ 0
  pub only : Memᴰ n (0 ∷ 1 ∷ 2 ∷ 11 ∷ 12 ∷ [])

abbrev pub WalkNumber : Type 0
WalkNumber =
    (kind : Kind) (s room : List ℕ) (r : Walked) (after : List ℕ) → Walks kind s room r after → NumberSays kind s room (number_given r) (place_given r)

-- a list that breaks breaks as one number says, and a number that stands for neither of the two ways is not its own
as_is : {list : ListRule} {s : List ℕ} {number n place there : ℕ} → Breaks list s number place → Breaks list s n there → number ≡ n
as_is a b = (breaks_unique _ _ _ _ _ _ a b).0

not_broken : {n m : ℕ} → n ≡ m → (m ≡ 11 → ⊥) → (m ≡ 12 → ⊥) → Broken n → ⊥
not_broken e f g b = ⊎_elim (λ x. f (sym e ∙ x)) (λ x. g (sym e ∙ x)) b

pub walk_number : WalkNumber
walk_number kind s room r after (misdescribed n a) =
    record {
      one = ((λ e. n), (λ h. a.given));
      two = ((λ e. absurd (omega (arith, a.given, e))), (λ t. absurd (n t.0)));
      eleven = ((λ e. absurd (omega (arith, a.given, e))), (λ t. absurd (n t.0)));
      twelve = ((λ e. absurd (omega (arith, a.given, e))), (λ t. absurd (n t.0)));
      zero = ((λ e. absurd (omega (arith, a.given, e))), (λ t. absurd (n t.0)));
      told = λ b. absurd (not_broken a.given (λ e. omega arith) (λ e. omega arith) b);
      untold = λ b. a.told;
      only = Memᴰ.tail (Memᴰ.head a.given);
    }
walk_number kind s room r after (roomless whole n a) =
    record {
      one = ((λ e. absurd (omega (arith, a.given, e))), (λ h. absurd (h whole)));
      two = ((λ e. (whole, n)), (λ t. a.given));
      eleven = ((λ e. absurd (omega (arith, a.given, e))), (λ t. absurd (n t.1)));
      twelve = ((λ e. absurd (omega (arith, a.given, e))), (λ t. absurd (n t.1)));
      zero = ((λ e. absurd (omega (arith, a.given, e))), (λ t. absurd (n t.1)));
      told = λ b. absurd (not_broken a.given (λ e. omega arith) (λ e. omega arith) b);
      untold = λ b. a.told;
      only = Memᴰ.tail (Memᴰ.tail (Memᴰ.head a.given));
    }
walk_number kind s room r after (broken whole roomy number place b a) =
    let is = subst Broken (sym a.given) (which b) in
    record {
      one = ((λ e. absurd (not_broken e (λ x. omega arith) (λ x. omega arith) is)), (λ h. absurd (h whole)));
      two = ((λ e. absurd (not_broken e (λ x. omega arith) (λ x. omega arith) is)), (λ t. absurd (t.1 roomy)));
      eleven = ((λ e. (whole, roomy, (place, subst (λ (x : ℕ). Breaks (describe kind) s x place) (sym a.given ∙ e) b))), (λ t. a.given ∙ as_is b t.2.1));
      twelve = ((λ e. (whole, roomy, (place, subst (λ (x : ℕ). Breaks (describe kind) s x place) (sym a.given ∙ e) b))), (λ t. a.given ∙ as_is b t.2.1));
      zero = ((λ e. absurd (not_broken e (λ x. omega arith) (λ x. omega arith) is)), (λ t. absurd (breaks_unending b t.2.0 t.2.1)));
      told = λ o. rw (a.given, a.told) b;
      untold = λ other. absurd (other is);
      only =
          ⊎_elim (λ e. Memᴰ.tail (Memᴰ.tail (Memᴰ.tail (Memᴰ.head e))))
          (λ e. Memᴰ.tail (Memᴰ.tail (Memᴰ.tail (Memᴰ.tail (Memᴰ.head e))))) is;
    }
walk_number kind s room r after (listed whole roomy chain l a) =
    record {
      one = ((λ e. absurd (omega (arith, a.given, e))), (λ h. absurd (h whole)));
      two = ((λ e. absurd (omega (arith, a.given, e))), (λ t. absurd (t.1 roomy)));
      eleven = ((λ e. absurd (omega (arith, a.given, e))), (λ t. absurd (breaks_unending t.2.1 chain l)));
      twelve = ((λ e. absurd (omega (arith, a.given, e))), (λ t. absurd (breaks_unending t.2.1 chain l)));
      zero = ((λ e. (whole, roomy, (chain, l))), (λ t. a.given));
      told = λ b. absurd (not_broken a.given (λ e. omega arith) (λ e. omega arith) b);
      untold = λ b. a.whole;
      only = Memᴰ.head a.given;
    }

-- "Every number but 0 leaves [the] list room unchanged, and reports [..] count 0"
abbrev pub WalkRefusalKeeps : Type 0
WalkRefusalKeeps =
    (kind : Kind) (s room : List ℕ) (r : Walked) (after : List ℕ) → Walks kind s room r after → (number_given r ≡ 0 → ⊥)
    → (count_given r ≡ 0) × (after ≡ room)

pub walk_refusal_keeps : WalkRefusalKeeps
walk_refusal_keeps kind s room r after (misdescribed n a) h = (a.none, a.kept)
walk_refusal_keeps kind s room r after (roomless whole n a) h = (a.none, a.kept)
walk_refusal_keeps kind s room r after (broken whole roomy number place b a) h = (a.none, a.kept)
walk_refusal_keeps kind s room r after (listed whole roomy chain l a) h = absurd (h a.given)
