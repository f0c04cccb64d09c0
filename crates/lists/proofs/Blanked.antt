-- THEOREMS. Request 2/13 of document 02: what it corrects, and what it leaves. By document 01's row as it stood and by the one that holds, the
-- extended list is answered alike but for a space with ID 0000h and another bit set at 100h. There the answer was an empty list, and is now the
-- chain that begins at 100h, or what broke in it. Assumes nothing.
use Prim.Native.Nat.{ℕ}
use mathlib.Core.Bool.{Bool, true, false}
use mathlib.Core.List.{List, [], ◌++◌}
use mathlib.Core.Logic.{◌↔◌, ◌⊎◌}
use mathlib.Core.Logic.◌⊎◌.{inl, inr}
use mathlib.Core.Path.{◌≡◌, refl, sym, ap, subst, ◌∙◌}
use lib.Dec.{eqb}
use lib.ListN.{length, drop}
use borrow.Author.Tests.{eq-eqb, ne_eqb, eqb-true, eqb-false}
use Rattle.std.specs.Prelude.{Ok}
use Rattle.words.specs.Fields.{bits, word}
use Rattle.lists.specs.declared.Kind.TheVariants.{Extended}
use Rattle.lists.specs.Table.{ListRule, describe, unless_empty}
use Rattle.lists.specs.Chain.{Legal, Legal.ends, Legal.goes, HasChain, NoChain, dropped, first, follows}
use Rattle.lists.specs.Breaks.{Breaks}
use Rattle.lists.specs.Walks.{WholeSpace, Roomy, Refuses, Lists, Walks, Walks.misdescribed, Walks.roomless, Walks.broken, Walks.listed, number_given, count_given, Walked}
use Rattle.lists.proofs.Breaking.{breaks_unique, breaks_unending}
use Rattle.lists.proofs.Alike.{alike, breaks_alike}
use Rattle.lists.proofs.FirstWord.{first_none, first_some, empty_exactly}
use Rattle.lists.proofs.OneChain.{legal_unique}
use Rattle.lists.proofs.Unique.{walk_unique}

-- document 01's row as it stood: "100h; empty if the ID there is 0000h"
abbrev pub uncorrected : ListRule
uncorrected =
    record {
      start = λ s. unless_empty (eqb (bits 15 0 (word s 0x100)) 0) 0x100;
      next = (describe Extended).next;
      floor = (describe Extended).floor;
      maximum = (describe Extended).maximum;
    }

-- what a walk by a rule answers, of a space and a room that have their sizes: the rule's chain, or what broke
pub record AnswersBy (list : ListRule) (s room : List ℕ) (r : Walked) (after : List ℕ) : Type 0 where
  pub served : (chain : List ℕ) → HasChain list s chain → Lists chain room r after
  pub refused : (number place : ℕ) → Breaks list s number place → Refuses number place room r after

-- ID 0000h at 100h, and another bit of the word set
pub record Blanked (s : List ℕ) : Type 0 where
  pub no_id : bits 15 0 (word s 0x100) ≡ 0
  pub another : word s 0x100 ≡ 0 → ⊥

-- the statements. What is not blanked at 100h has the chains that it had, and none where it had none
abbrev pub ElsewhereAlike : Type 0
ElsewhereAlike = (s : List ℕ) → (Blanked s → ⊥) → (chain : List ℕ) → HasChain uncorrected s chain ↔ HasChain (describe Extended) s chain

-- every space that the old rule listed is listed the same, and one that it refused is refused
abbrev pub ListedTheSame : Type 0
ListedTheSame = (s : List ℕ)
    → ((chain : List ℕ) → (chain ≡ [] → ⊥) → HasChain uncorrected s chain → HasChain (describe Extended) s chain)
    × (NoChain uncorrected s → NoChain (describe Extended) s)

-- the two answers, of any walk by the old rule and any by the one that holds, differ exactly in a space that is blanked at 100h
abbrev pub DifferExactly : Type 0
DifferExactly = (s room : List ℕ) (r q : Walked) (l m : List ℕ) → WholeSpace s → Roomy Extended room → AnswersBy uncorrected s room r l
    → Walks Extended s room q m → (((r ≡ q) × (l ≡ m) → ⊥) ↔ Blanked s)

-- "At 100h our walker calls that an empty list"
abbrev pub LostBefore : Type 0
LostBefore = (s room : List ℕ) (r : Walked) (after : List ℕ) → Blanked s → AnswersBy uncorrected s room r after
    → (number_given r ≡ 0) × (count_given r ≡ 0) × (after ≡ room)

-- a walk by the old rule, whatever else it does, is wrong wherever a space is blanked at 100h. There is such a walk of any space: there one that
-- lists nothing, and elsewhere every walk that is right
abbrev pub OldRuleCaught : Type 0
OldRuleCaught = (s room : List ℕ) (r : Walked) (after : List ℕ) → WholeSpace s → Roomy Extended room → Blanked s
    → AnswersBy uncorrected s room r after → Walks Extended s room r after → ⊥

abbrev pub OldRuleAnswers : Type 0
OldRuleAnswers = (s room : List ℕ)
    → (Blanked s → AnswersBy uncorrected s room (Ok 0) room)
    × ((r : Walked) (after : List ℕ) → WholeSpace s → Roomy Extended room → (Blanked s → ⊥) → Walks Extended s room r after
    → AnswersBy uncorrected s room r after)

-- ---- where the list starts by the old rule

none_behind_zero : {list : ListRule} {s : List ℕ} {p : ℕ} {chain : List ℕ} → Legal list s p chain → p ≡ 0 → chain ≡ []
none_behind_zero (ends z e) q = e
none_behind_zero (goes n h l e) q = absurd (n q)

old_none : (s : List ℕ) → bits 15 0 (word s 0x100) ≡ 0 → first uncorrected s ≡ 0
unfolding first
old_none s z = ap (λ (empty : Bool). dropped (unless_empty empty 0x100)) (eq-eqb (bits 15 0 (word s 0x100)) 0 z)

old_some : (s : List ℕ) → (bits 15 0 (word s 0x100) ≡ 0 → ⊥) → first uncorrected s ≡ 0x100
unfolding first
old_some s n = ap (λ (empty : Bool). dropped (unless_empty empty 0x100)) (ne_eqb (bits 15 0 (word s 0x100)) 0 n)

blanked_or_not : (s : List ℕ) → Blanked s ⊎ (Blanked s → ⊥)
blanked_or_not s = go (eqb (bits 15 0 (word s 0x100)) 0) (eqb (word s 0x100) 0) refl refl
  where
    go : (i w : Bool) → eqb (bits 15 0 (word s 0x100)) 0 ≡ i → eqb (word s 0x100) 0 ≡ w → Blanked s ⊎ (Blanked s → ⊥)
    go false w e f = inr (λ b. eqb-false (bits 15 0 (word s 0x100)) 0 e b.no_id)
    go true true e f = inr (λ b. b.another (eqb-true (word s 0x100) 0 f))
    go true false e f = inl (record { no_id = eqb-true (bits 15 0 (word s 0x100)) 0 e; another = eqb-false (word s 0x100) 0 f })

same_first : (s : List ℕ) → (Blanked s → ⊥) → first uncorrected s ≡ first (describe Extended) s
same_first s not = go (eqb (word s 0x100) 0) refl
  where
    go : (w : Bool) → eqb (word s 0x100) 0 ≡ w → first uncorrected s ≡ first (describe Extended) s
    go true e = let z = eqb-true (word s 0x100) 0 e in old_none s (ap (bits 15 0) z) ∙ sym (first_none s z)
    go false e =
        let n = eqb-false (word s 0x100) 0 e in
        old_some s (λ z. not (record { no_id = z; another = n })) ∙ sym (first_some s n)

-- ---- the theorems

pub elsewhere_alike : ElsewhereAlike
unfolding follows
elsewhere_alike s not chain = alike (same_first s not) refl (λ at aligned. refl) chain

pub elsewhere_breaks : (s : List ℕ) → (Blanked s → ⊥) → (number place : ℕ) → Breaks uncorrected s number place ↔ Breaks (describe Extended) s number place
unfolding follows
elsewhere_breaks s not number place = breaks_alike (same_first s not) refl (λ at aligned. refl) number place

pub nothing_there : (s : List ℕ) → Blanked s → HasChain uncorrected s []
nothing_there s b = ends (old_none s b.no_id) refl

pub listed_the_same : ListedTheSame
listed_the_same s = (
  (λ chain some l. (elsewhere_alike s (λ b. some (none_behind_zero l (old_none s b.no_id))) chain).0 l),
  (λ none chain l. none chain ((elsewhere_alike s (λ b. none [] (nothing_there s b)) chain).1 l)),
)

pub lost_before : LostBefore
lost_before s room r after b a = let x = a.served [] (nothing_there s b) in (x.given, x.counted, x.listed)

-- a walk by the old rule meets the promise where nothing is blanked at 100h
meets : (s room : List ℕ) (r q : Walked) (l m : List ℕ) → WholeSpace s → Roomy Extended room → (Blanked s → ⊥)
    → AnswersBy uncorrected s room r l → Walks Extended s room q m → Walks Extended s room r l
meets s room r q l m whole roomy not a (misdescribed n x) = absurd (n whole)
meets s room r q l m whole roomy not a (roomless h n x) = absurd (n roomy)
meets s room r q l m whole roomy not a (broken h k number place b x) =
    broken whole roomy number place b (a.refused number place ((elsewhere_breaks s not number place).1 b))
meets s room r q l m whole roomy not a (listed h k chain has x) =
    listed whole roomy chain has (a.served chain ((elsewhere_alike s not chain).1 has))

pub differ_exactly : DifferExactly
differ_exactly s room r q l m whole roomy a w = ((λ differ. go differ (blanked_or_not s)), apart)
  where
    go : ((r ≡ q) × (l ≡ m) → ⊥) → Blanked s ⊎ (Blanked s → ⊥) → Blanked s
    go differ (inl b) = b
    go differ (inr not) = absurd (differ (walk_unique Extended s room r q l m (meets s room r q l m whole roomy not a w) w))

    apart : Blanked s → (r ≡ q) × (l ≡ m) → ⊥
    apart b same =
        let x = lost_before s room r l b a in
        b.another ((empty_exactly s room q m whole roomy w).0
        (ap number_given (sym same.0) ∙ x.0, ap count_given (sym same.0) ∙ x.1))

pub old_rule_caught : OldRuleCaught
old_rule_caught s room r after whole roomy b a w = (differ_exactly s room r r after after whole roomy a w).1 b (refl, refl)

-- a walk that meets the promise answers by the old rule where nothing is blanked at 100h
answers : (s room : List ℕ) (r : Walked) (after : List ℕ) → WholeSpace s → Roomy Extended room → (Blanked s → ⊥) → Walks Extended s room r after
    → AnswersBy uncorrected s room r after
answers s room r after whole roomy not (misdescribed n x) = absurd (n whole)
answers s room r after whole roomy not (roomless h n x) = absurd (n roomy)
answers s room r after whole roomy not (broken h k number place b x) =
    record {
      served = λ chain old. absurd (breaks_unending b chain ((elsewhere_alike s not chain).0 old));
      refused = λ other there old.
          let same = breaks_unique _ _ _ _ _ _ b ((elsewhere_breaks s not other there).0 old) in
          subst (λ (n : ℕ). Refuses n there room r after) same.0 (subst (λ (p : ℕ). Refuses number p room r after) same.1 x);
    }
answers s room r after whole roomy not (listed h k chain has x) =
    record {
      served =
          λ other old. subst (λ (c : List ℕ). Lists c room r after) (legal_unique has ((elsewhere_alike s not other).0 old)) x;
      refused = λ number place old. absurd (breaks_unending ((elsewhere_breaks s not number place).0 old) chain has);
    }

-- a walk that lists nothing answers by it where something is
nothing_listed : (s room : List ℕ) → Blanked s → AnswersBy uncorrected s room (Ok 0) room
nothing_listed s room b = record { served = none; refused = λ number place old. absurd (breaks_unending old [] (nothing_there s b)) }
  where
    none : (chain : List ℕ) → HasChain uncorrected s chain → Lists chain room (Ok 0) room
    none chain l =
        let e = none_behind_zero l (old_none s b.no_id) in
        record { given = refl; counted = sym (ap length e); whole = refl; listed = sym (ap (λ (c : List ℕ). c ++ drop (length c) room) e) }

pub old_rule_answers : OldRuleAnswers
old_rule_answers s room = (nothing_listed s room, answers s room)
