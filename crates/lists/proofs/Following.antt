-- Laws of a chase: of the pointers that it has followed, and of what it may find at the next. Assumes nothing.
use Prim.Native.Nat.{ℕ, ◌+◌, ◌≤◌, ◌<◌}
use mathlib.Core.List.{List}
use mathlib.Core.Logic.{◌⊎◌, ⊎_elim}
use mathlib.Core.Logic.◌⊎◌.{inl, inr}
use mathlib.Core.Path.{◌≡◌, sym, ap, subst, ◌∙◌}
use native.Mathlib.Numerals.{add-one}
use native.Mathlib.Omega.{arith}
use borrow.Author.Count.{below_more}
use lib.ListN.{length, set, get_or, length-set}
use lib.Seq.{get_or-set_same, get_or-set_other}
use Rattle.lists.specs.Table.{describe}
use Rattle.lists.specs.Chain.{HasChain, first, follows}
use Rattle.lists.specs.Breaks.{met}
use Rattle.lists.specs.declared.Kind.{Kind}
use Rattle.lists.specs.declared.chase.Step.TheVariants.{Next, End}
use Rattle.std.specs.Prelude.{Ok}
use Rattle.lists.specs.Walks.{WholeSpace}
use Rattle.lists.specs.Inner.{offset_of, Underway, Waits, Leads, Chases, Counted}
use Rattle.lists.proofs.Course.{leading_none, leading_more, chain_of, logged_trail}

-- ---- the start

pub underway_start : {kind : Kind} {s log : List ℕ} {start : ℕ} → WholeSpace s → Counted kind (first (describe kind) s) start
    → Underway kind s log 0 (offset_of kind start)
unfolding met
underway_start size o =
    record {
      space = size;
      followed = record { fits = omega arith; leading = leading_none; logged = λ k small. absurd (omega arith) };
      here = o.is;
      inside = o.inside;
    }

-- ---- the end, or one pointer more

module _ {kind : Kind} {s log : List ℕ} {count : ℕ} (position : ℕ) (u : Underway kind s log count (offset_of kind position)) where
  pub chase_ends : Leads (describe kind) (offset_of kind position) End → Chases kind s (Ok count) log
  chase_ends z =
      let f = u.followed in (
        f.fits,
        subst (λ (chain : List ℕ). HasChain (describe kind) s chain) (sym (logged_trail (describe kind) s log count f.fits f.logged))
            (chain_of count f.leading (sym u.here ∙ z)),
      )

  module _ {at : ℕ} (l : Leads (describe kind) (offset_of kind position) (Next at)) where
    pub chase_goes : (count ≡ length log → ⊥) → {next : ℕ} → Counted kind (follows (describe kind) s (offset_of kind position)) next
        → Underway kind s (set log count at) (count + 1) (offset_of kind next)
    unfolding met
    chase_goes short o =
        let f = u.followed in
        let room : count < length log = omega (arith, f.fits) in
        let high : (describe kind).floor ≤ met (describe kind) s count = omega (arith, u.here, l.2) in
        record {
          space = u.space;
          followed =
              record {
                fits = simp length-set (omega arith);
                leading = rw (add-one count) (leading_more f.leading (λ z. l.1 (u.here ∙ z)) high);
                logged =
                    below_more (λ k. get_or (set log count at) k 0 ≡ met (describe kind) s k) count
                    (λ k small. get_or-set_other log count k at 0 (λ e. omega arith) ∙ f.logged k small)
                    (get_or-set_same log count at 0 room ∙ l.0 ∙ u.here);
              };
          here = rw (add-one count) (o.is ∙ ap (follows (describe kind) s) u.here);
          inside = o.inside;
        }

    pub waits_on : {waiting next : ℕ} → Waits kind s count waiting → (next ≡ waiting) ⊎ (next ≡ position)
        → Waits kind s (count + 1) next
    waits_on {waiting} w m =
        ⊎_elim
        (λ e. ⊎_elim (λ z. inl (e ∙ z)) (λ t. inr (t.0, omega (arith, t.1), ap (offset_of kind) e ∙ t.2)) w)
        (λ e. inr (count, omega arith, ap (offset_of kind) e ∙ u.here)) m
