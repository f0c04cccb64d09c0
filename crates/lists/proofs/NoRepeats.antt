-- THEOREM. A legal chain repeats no offset: a chain that came back to an offset would not end. Assumes nothing.
use Prim.Native.Nat.{ℕ, ◌≤◌}
use mathlib.Core.List.Memᴰ
use mathlib.Core.List.{List, [], ◌∷◌, Memᴰ}
use mathlib.Core.Logic.{◌⊎◌, inl, inr}
use mathlib.Core.Path.{◌≡◌, refl, sym, ap, subst}
use native.Mathlib.Nat.{le_refl}
use native.Mathlib.Omega.{arith}
use lib.ListN.{length}
use Rattle.lists.specs.Table.{ListRule}
use Rattle.lists.specs.Chain.{Legal, Legal.ends, Legal.goes}
use Rattle.lists.proofs.OneChain.{legal_unique}

-- no number stands twice in a list
pub data Distinct : List ℕ → Type 0 where
  none : Distinct []
  more : {x : ℕ} {l : List ℕ} → (Memᴰ x l → ⊥) → Distinct l → Distinct (x ∷ l)

abbrev pub LegalRepeatsNone : Type 0
LegalRepeatsNone = (d : ListRule) (s : List ℕ) (pointer : ℕ) (chain : List ℕ) → Legal d s pointer chain → Distinct chain

module _ {d : ListRule} {s : List ℕ} where
  -- from an offset of a chain a chain is legal, and no longer
  tail_of : {pointer x : ℕ} {chain : List ℕ} → Legal d s pointer chain → Memᴰ x chain
      → (tail : List ℕ) × Legal d s x tail × (length tail ≤ length chain)
  tail_of {pointer} {x} (ends p e) m = absurd (Memᴰ.not-nil (subst (λ (l : List ℕ). Memᴰ x l) e m))
  tail_of {pointer} {x} {chain} (goes {rest = rest} n h l e) m =
      go (λ k. tail_of l k) (Memᴰ.cases_cons (subst (λ (c : List ℕ). Memᴰ x c) e m))
    where
      go : (Memᴰ x rest → (tail : List ℕ) × Legal d s x tail × (length tail ≤ length rest)) → (x ≡ pointer) ⊎ Memᴰ x rest
          → (tail : List ℕ) × Legal d s x tail × (length tail ≤ length chain)
      go further (inl q) = (chain, subst (λ (y : ℕ). Legal d s y chain) (sym q) (goes n h l e), le_refl _)
      go further (inr k) = let t = further k in (t.0, t.1, omega (arith, ap length e))

  repeats_none : {pointer : ℕ} {chain : List ℕ} → Legal d s pointer chain → Distinct chain
  repeats_none (ends p e) = subst Distinct (sym e) none
  repeats_none {pointer} (goes {rest = rest} n h l e) = subst Distinct (sym e) (more fresh (repeats_none l))
    where
      fresh : Memᴰ pointer rest → ⊥
      fresh m =
          let t = tail_of l m in
          let same : t.0 ≡ pointer ∷ rest = legal_unique t.1 (goes n h l refl) in
          omega (arith, ap length same)

pub legal_repeats_none : LegalRepeatsNone
legal_repeats_none d s pointer chain l = repeats_none l
