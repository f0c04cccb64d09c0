-- THEOREM. A second result that meets the promise of `lists::walk` is the same result: the answer, the place, the count and the room afterwards.
-- Assumes nothing.
use Prim.Native.Nat.{ℕ}
use mathlib.Core.List.{List}
use mathlib.Core.Path.{◌≡◌, sym, subst, ◌∙◌}
use Rattle.std.specs.Prelude.{Ok, Err}
use Rattle.answers.proofs.Unique.{number_tells, number_positive}
use Rattle.lists.specs.declared.Kind.{Kind}
use Rattle.lists.specs.Table.{ListRule}
use Rattle.lists.specs.Breaks.{Breaks}
use Rattle.lists.specs.Walks.{Refuses, Lists, number_given, count_given, place_given, Walks, Walks.misdescribed, Walks.roomless, Walks.broken, Walks.listed, Walked}
use Rattle.lists.proofs.OneChain.{legal_unique}
use Rattle.lists.proofs.Breaking.{breaks_unique, breaks_unending}

abbrev pub WalkUnique : Type 0
WalkUnique = (kind : Kind) (s room : List ℕ) (r q : Walked) (l m : List ℕ) → Walks kind s room r l → Walks kind s room q m → (r ≡ q) × (l ≡ m)

-- the number, the place and the count say the whole answer
same_walked : (r q : Walked) → number_given r ≡ number_given q → place_given r ≡ place_given q → count_given r ≡ count_given q → r ≡ q
same_walked (Ok m) (Ok n) e f g = λ i. Ok (g i)
same_walked (Ok m) (Err y) e f g = absurd (number_positive y.refusal (sym e))
same_walked (Err x) (Ok n) e f g = absurd (number_positive x.refusal e)
same_walked (Err x) (Err y) e f g = λ i. Err (record { refusal = number_tells x.refusal y.refusal e i; place = f i })

module _ {room : List ℕ} {r q : Walked} {l m : List ℕ} where
  refused_same : {n p : ℕ} → Refuses n p room r l → Refuses n p room q m → (r ≡ q) × (l ≡ m)
  refused_same a b =
      (same_walked r q (a.given ∙ sym b.given) (a.told ∙ sym b.told) (a.none ∙ sym b.none), a.kept ∙ sym b.kept)

  broken_same : {list : ListRule} {s : List ℕ} {n o p k : ℕ} → Breaks list s n p → Breaks list s o k → Refuses n p room r l → Refuses o k room q m
      → (r ≡ q) × (l ≡ m)
  broken_same x y a b =
      let same = breaks_unique _ _ _ _ _ _ x y in (
        same_walked r q (a.given ∙ same.0 ∙ sym b.given) (a.told ∙ same.1 ∙ sym b.told) (a.none ∙ sym b.none),
        a.kept ∙ sym b.kept,
      )

  listed_same : {chain : List ℕ} → Lists chain room r l → Lists chain room q m → (r ≡ q) × (l ≡ m)
  listed_same a b =
      (same_walked r q (a.given ∙ sym b.given) (a.whole ∙ sym b.whole) (a.counted ∙ sym b.counted), a.listed ∙ sym b.listed)

pub walk_unique : WalkUnique
walk_unique kind s room r q l m (misdescribed n a) (misdescribed o b) = refused_same a b
walk_unique kind s room r q l m (misdescribed n a) (roomless size o b) = absurd (n size)
walk_unique kind s room r q l m (misdescribed n a) (broken size roomy number place o b) = absurd (n size)
walk_unique kind s room r q l m (misdescribed n a) (listed size roomy chain o b) = absurd (n size)
walk_unique kind s room r q l m (roomless size n a) (misdescribed o b) = absurd (o size)
walk_unique kind s room r q l m (roomless size n a) (roomless same o b) = refused_same a b
walk_unique kind s room r q l m (roomless size n a) (broken same roomy number place o b) = absurd (n roomy)
walk_unique kind s room r q l m (roomless size n a) (listed same roomy chain o b) = absurd (n roomy)
walk_unique kind s room r q l m (broken size roomy number place n a) (misdescribed o b) = absurd (o size)
walk_unique kind s room r q l m (broken size roomy number place n a) (roomless same o b) = absurd (o roomy)
walk_unique kind s room r q l m (broken size roomy number place n a) (broken same still other there o b) = broken_same n o a b
walk_unique kind s room r q l m (broken size roomy number place n a) (listed same still chain o b) = absurd (breaks_unending n chain o)
walk_unique kind s room r q l m (listed size roomy chain n a) (misdescribed o b) = absurd (o size)
walk_unique kind s room r q l m (listed size roomy chain n a) (roomless same o b) = absurd (o roomy)
walk_unique kind s room r q l m (listed size roomy chain n a) (broken same still number place o b) = absurd (breaks_unending o chain n)
walk_unique kind s room r q l m (listed size roomy chain n a) (listed same still other o b) =
    listed_same a (subst (λ (c : List ℕ). Lists c room q m) (legal_unique o n) b)
