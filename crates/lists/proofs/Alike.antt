-- Chains by two rules, or in two spaces, are the same where the rules' floors, the first pointers and the pointers in the words are; and so is what
-- breaks. Assumes nothing.
use Prim.Native.Nat.{ℕ, zero, suc, ◌%◌, ◌≤◌}
use mathlib.Core.List.{List}
use mathlib.Core.Logic.{◌↔◌}
use mathlib.Core.Path.{◌≡◌, sym, ap, subst, ◌∙◌}
use Rattle.lists.specs.Table.{ListRule}
use Rattle.lists.specs.Chain.{Legal, Legal.ends, Legal.goes, HasChain, first, follows}
use Rattle.lists.specs.Breaks.{met, Breaks}
use Rattle.lists.proofs.Breaking.{breaks_carried}
use Rattle.lists.proofs.Traps.{first_aligned, follows_aligned}

carried : {a b : ListRule} {s t : List ℕ} → a.floor ≡ b.floor → ((at : ℕ) → at % 4 ≡ 0 → follows a s at ≡ follows b t at) → {p : ℕ}
    → p % 4 ≡ 0 → {chain : List ℕ} → Legal a s p chain → Legal b t p chain
carried f g aligned (ends z e) = ends z e
carried {a} {b} {s} {t} f g {p} aligned (goes {rest = rest} n h l e) =
    goes n (subst (λ (x : ℕ). x ≤ p) f h)
    (subst (λ (x : ℕ). Legal b t x rest) (g p aligned) (carried f g (follows_aligned a s p) l)) e

pub alike : {a b : ListRule} {s t : List ℕ} → first a s ≡ first b t → a.floor ≡ b.floor
    → ((at : ℕ) → at % 4 ≡ 0 → follows a s at ≡ follows b t at) → (chain : List ℕ) → HasChain a s chain ↔ HasChain b t chain
alike {a} {b} {s} {t} e f g chain = (
  (λ l. subst (λ (x : ℕ). Legal b t x chain) e (carried f g (first_aligned a s) l)),
  (λ l. subst (λ (x : ℕ). Legal a s x chain) (sym e) (carried (sym f) (λ at m. sym (g at m)) (first_aligned b t) l)),
)

-- ---- what breaks

met_aligned : (list : ListRule) (s : List ℕ) (n : ℕ) → met list s n % 4 ≡ 0
unfolding met
met_aligned list s zero = first_aligned list s
met_aligned list s (suc n) = follows_aligned list s (met list s n)

met_alike : (a b : ListRule) (s t : List ℕ) → first a s ≡ first b t → ((at : ℕ) → at % 4 ≡ 0 → follows a s at ≡ follows b t at) → (n : ℕ)
    → met a s n ≡ met b t n
unfolding met
met_alike a b s t e g zero = e
met_alike a b s t e g (suc n) = g (met a s n) (met_aligned a s n) ∙ ap (follows b t) (met_alike a b s t e g n)

pub breaks_alike : {a b : ListRule} {s t : List ℕ} → first a s ≡ first b t → a.floor ≡ b.floor
    → ((at : ℕ) → at % 4 ≡ 0 → follows a s at ≡ follows b t at) → (number place : ℕ) → Breaks a s number place ↔ Breaks b t number place
breaks_alike {a} {b} {s} {t} e f g number place =
    let same = met_alike a b s t e g in
    ((λ x. breaks_carried a b s t f x (λ k h. same k)), (λ x. breaks_carried b a t s (sym f) x (λ k h. sym (same k))))
