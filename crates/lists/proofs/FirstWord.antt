-- THEOREMS. The word at 100h and the extended list, as request 2/13 of document 02 has it: the list is empty exactly if that word is zero; otherwise
-- its chain begins at 100h and goes on where the pointer there leads, or it breaks, and the answer says what broke. Assumes nothing.
use Prim.Native.Nat.{ℕ, ◌<◌}
use mathlib.Core.Bool.{Bool, true, false}
use mathlib.Core.List.{List, ◌∷◌, ◌++◌}
use mathlib.Core.Logic.{◌↔◌, ◌⊎◌}
use mathlib.Core.Logic.◌⊎◌.{inl, inr}
use mathlib.Core.Path.{◌≡◌, refl, sym, ap, subst, ◌∙◌}
use native.Mathlib.Omega.{arith}
use lib.Dec.{eqb, lit≤}
use lib.ListN.{length, get_or, drop}
use borrow.Author.Tests.{eqb-true, eqb-false}
use Rattle.words.specs.Fields.{word}
use Rattle.lists.specs.declared.Kind.TheVariants.{Extended}
use Rattle.lists.specs.Table.{ListRule, describe}
use Rattle.lists.specs.Chain.{Legal, Legal.ends, Legal.goes, HasChain, dropped, first, follows}
use Rattle.lists.specs.Breaks.{Breaks}
use Rattle.lists.specs.Walks.{WholeSpace, Roomy, Refuses, Walks, Walks.misdescribed, Walks.roomless, Walks.broken, Walks.listed, number_given, count_given, Walked}
use Rattle.lists.proofs.Decides.{served_lists, served_iff_legal}
use Rattle.lists.proofs.Pointers.{extended_none, extended_some}
use Rattle.lists.proofs.Traps.{empty_lists}

-- the statements. "Otherwise the structure is listed": any word but zero starts a chain, which goes on where its pointer leads
abbrev pub StartsAChain : Type 0
StartsAChain = (s : List ℕ) → (word s 0x100 ≡ 0 → ⊥) → (chain : List ℕ)
    → HasChain (describe Extended) s chain
    ↔ ((rest : List ℕ) × Legal (describe Extended) s (follows (describe Extended) s 0x100) rest × (chain ≡ 0x100 ∷ rest))

-- "the extended list is empty only if the whole word at 100h is zero", of any walk
abbrev pub EmptyExactly : Type 0
EmptyExactly = (s room : List ℕ) (r : Walked) (after : List ℕ) → WholeSpace s → Roomy Extended room → Walks Extended s room r after
    → (((number_given r ≡ 0) × (count_given r ≡ 0)) ↔ (word s 0x100 ≡ 0))

-- of any walk where the word at 100h is not zero: 100h is listed first, or the list breaks, and the answer says how and where
abbrev pub ListedOrBroken : Type 0
ListedOrBroken = (s room : List ℕ) (r : Walked) (after : List ℕ) → WholeSpace s → Roomy Extended room → (word s 0x100 ≡ 0 → ⊥)
    → Walks Extended s room r after → ((number_given r ≡ 0) × (0 < count_given r) × (get_or after 0 0 ≡ 0x100))
    ⊎ ((number : ℕ) × (place : ℕ) × Breaks (describe Extended) s number place × Refuses number place room r after)

-- ---- where the list starts

pub first_none : (s : List ℕ) → word s 0x100 ≡ 0 → first (describe Extended) s ≡ 0
unfolding first
first_none s z = ap dropped (extended_none s z)

pub first_some : (s : List ℕ) → (word s 0x100 ≡ 0 → ⊥) → first (describe Extended) s ≡ 0x100
unfolding first
first_some s n = ap dropped (extended_some s n)

module _ {list : ListRule} {s : List ℕ} where
  begun : {p : ℕ} {chain : List ℕ} → Legal list s p chain → (p ≡ 0 → ⊥)
      → (rest : List ℕ) × Legal list s (follows list s p) rest × (chain ≡ p ∷ rest)
  begun (ends z e) n = absurd (n z)
  begun (goes {rest = rest} n h l e) m = (rest, l, e)

-- ---- the theorems

pub starts_a_chain : StartsAChain
starts_a_chain s some chain = (
  (λ l. begun (subst (λ (p : ℕ). Legal (describe Extended) s p chain) (first_some s some) l) (eqb-false 0x100 0 refl)),
  (λ t.
      subst (λ (p : ℕ). Legal (describe Extended) s p chain) (sym (first_some s some))
      (goes (eqb-false 0x100 0 refl) (lit≤ tt) t.1 t.2)),
)

pub empty_exactly : EmptyExactly
empty_exactly s room r after whole roomy w = (
  (λ t. go t (eqb (word s 0x100) 0) refl),
  (λ z. let x = (empty_lists s room r after whole).1 z roomy w in (x.0, x.1)),
)
  where
    go : (number_given r ≡ 0) × (count_given r ≡ 0) → (b : Bool) → eqb (word s 0x100) 0 ≡ b → word s 0x100 ≡ 0
    go t true e = eqb-true (word s 0x100) 0 e
    go t false e =
        let has = (served_iff_legal Extended s room r after w whole roomy).0.0 t.0 in
        let more = (starts_a_chain s (eqb-false (word s 0x100) 0 e) has.0).0 has.1 in
        absurd (omega (arith, t.1, (served_lists w t.0 has.1).counted, ap length more.2))

pub listed_or_broken : ListedOrBroken
listed_or_broken s room r after whole roomy some (misdescribed n x) = absurd (n whole)
listed_or_broken s room r after whole roomy some (roomless h n x) = absurd (n roomy)
listed_or_broken s room r after whole roomy some (broken h k number place b x) = inr (number, place, b, x)
listed_or_broken s room r after whole roomy some (listed h k chain has x) =
    let t = (starts_a_chain s some chain).0 has in
    inl (
      x.given,
      omega (arith, x.counted, ap length t.2),
      ap (λ (a : List ℕ). get_or a 0 0) (x.listed ∙ ap (λ (c : List ℕ). c ++ drop (length c) room) t.2),
    )
