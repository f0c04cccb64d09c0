-- THEOREM. A walk is served exactly if a legal chain exists: where the space and the room have their sizes, the answer is 0 if and only if
-- there is a chain, and 11 or 12 if and only if there is none. Document 02, 3/13: "A list is refused exactly when it was before." Assumes nothing.
use Prim.Native.Nat.{ℕ}
use mathlib.Core.List.{List}
use mathlib.Core.Logic.{◌↔◌, ◌⊎◌, ⊎_elim}
use mathlib.Core.Logic.◌⊎◌.{inl, inr}
use mathlib.Core.Path.{◌≡◌, sym, subst, ◌∙◌}
use native.Mathlib.Omega.{arith}
use Rattle.lists.specs.declared.Kind.{Kind}
use Rattle.lists.specs.Table.{ListRule, describe}
use Rattle.lists.specs.Chain.{HasChain, NoChain}
use Rattle.lists.specs.Breaks.{Breaks, Breaks.falls, Breaks.turns}
use Rattle.lists.specs.Walks.{WholeSpace, Roomy, Lists, number_given, Walks, Walks.misdescribed, Walks.roomless, Walks.broken, Walks.listed, Walked}
use Rattle.lists.proofs.OneChain.{legal_unique}
use Rattle.lists.proofs.Breaking.{breaks_unending}

-- the numbers of a list that is broken
abbrev pub Broken : ℕ → Type 0
Broken n = (n ≡ 11) ⊎ (n ≡ 12)

abbrev pub ServedIffLegal : Type 0
ServedIffLegal = (kind : Kind) (s room : List ℕ) (r : Walked) (after : List ℕ) → Walks kind s room r after → WholeSpace s → Roomy kind room
    → ((number_given r ≡ 0) ↔ ((chain : List ℕ) × HasChain (describe kind) s chain)) × (Broken (number_given r) ↔ NoChain (describe kind) s)

-- 11 or 12, and so not 0
pub which : {list : ListRule} {s : List ℕ} {number place : ℕ} → Breaks list s number place → Broken number
which (falls n r b e f) = inl e
which (turns n r b e f) = inr e

pub broken_number : {list : ListRule} {s : List ℕ} {number place : ℕ} → Breaks list s number place → number ≡ 0 → ⊥
broken_number b z = ⊎_elim (λ e. omega arith) (λ e. omega arith) (which b)

module _ {kind : Kind} {s room : List ℕ} {r : Walked} {after : List ℕ} where
  -- a walk that is served lists the chain that there is
  pub served_lists : Walks kind s room r after → number_given r ≡ 0 → {chain : List ℕ} → HasChain (describe kind) s chain
      → Lists chain room r after
  served_lists (misdescribed n a) z l = absurd (omega (arith, a.given, z))
  served_lists (roomless h n a) z l = absurd (omega (arith, a.given, z))
  served_lists (broken h k number place b a) z l = absurd (breaks_unending b _ l)
  served_lists (listed h k other o a) z l = subst (λ (c : List ℕ). Lists c room r after) (legal_unique o l) a

pub served_iff_legal : ServedIffLegal
served_iff_legal kind s room r after (misdescribed n a) size roomy = absurd (n size)
served_iff_legal kind s room r after (roomless h n a) size roomy = absurd (n roomy)
served_iff_legal kind s room r after (broken h k number place b a) size roomy = (
  ((λ z. absurd (broken_number b (sym a.given ∙ z))), (λ t. absurd (breaks_unending b t.0 t.1))),
  ((λ e. breaks_unending b), (λ none. subst Broken (sym a.given) (which b))),
)
served_iff_legal kind s room r after (listed h k chain l a) size roomy = (
  ((λ z. (chain, l)), (λ t. a.given)),
  ((λ e. absurd (⊎_elim (λ x. omega (arith, a.given, x)) (λ x. omega (arith, a.given, x)) e)), (λ none. absurd (none chain l))),
)
