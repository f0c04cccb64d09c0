-- THEOREMS. What the number that a host of the switch is told says: it is that of the first check that applies, and no other is given. And where nothing
-- leaves, nothing that the host holds is changed. Assumes nothing.
use Prim.Native.Nat.{ℕ}
use mathlib.Core.Bool.{Bool, true, false, cond}
use mathlib.Core.List.{List}
use mathlib.Core.Logic.{◌⊎◌}
use mathlib.Core.Logic.◌⊎◌.{inl, inr}
use mathlib.Core.Path.{◌≡◌, refl, sym, ap, ◌∙◌, subst}
use lib.ListN.{length}
use Rattle.ports.specs.declared.Port.{Port}
use Rattle.router.specs.Routing.{route}
use Rattle.router.specs.Promise.{shows}
use Rattle.router.proofs.Verdicts.{NumberSays, route_number_says, leaving_number, silent_outcome, silent_buffer}
use Rattle.backplane.specs.declared.HostRouted.{HostRouted}
use Rattle.backplane.specs.Routes.{HostSees, HostRoutes}

-- the statements: the number; and where nothing leaves, which is so with every number but 0, what stays
abbrev pub HostRouteNumber : Type 0
HostRouteNumber =
    (ports : List Port) (p buffer : List ℕ) (r : HostRouted) (after : List ℕ) → HostRoutes ports p buffer r after
    → NumberSays ports p (length buffer) r.number

abbrev pub HostRouteKeeps : Type 0
HostRouteKeeps =
    (ports : List Port) (p buffer : List ℕ) (r : HostRouted) (after : List ℕ) → HostRoutes ports p buffer r after
    → (((r.leaves ≡ 1) × (r.number ≡ 0)) ⊎ ((r.leaves ≡ 0) × (r.length ≡ 0) × (r.port ≡ 0) × (after ≡ buffer)))

module _ (ports : List Port) (p buffer : List ℕ) (r : HostRouted) (after : List ℕ) (e : HostRoutes ports p buffer r after) where
  routed_number : r.number ≡ (route ports p (length buffer)).number
  unfolding shows
  routed_number = ap (λ (x : HostSees). x.routed.number) e

  routed_leaves : r.leaves ≡ cond (route ports p (length buffer)).leaves 1 0
  unfolding shows
  routed_leaves = ap (λ (x : HostSees). x.routed.leaves) e

  left_or_kept : (b : Bool) → (route ports p (length buffer)).leaves ≡ b
      → ((r.leaves ≡ 1) × (r.number ≡ 0)) ⊎ ((r.leaves ≡ 0) × (r.length ≡ 0) × (r.port ≡ 0) × (after ≡ buffer))
  unfolding shows
  left_or_kept true l = inl (routed_leaves ∙ rw l, routed_number ∙ leaving_number ports p (length buffer) l)
  left_or_kept false l =
      let k = silent_outcome ports p (length buffer) l in
      inr (
        routed_leaves ∙ rw l,
        ap (λ (x : HostSees). x.routed.length) e ∙ ap length k.0,
        ap (λ (x : HostSees). x.routed.port) e ∙ k.1,
        ap (λ (x : HostSees). x.buffer) e ∙ silent_buffer ports p buffer l,
      )

pub host_route_number : HostRouteNumber
host_route_number ports p buffer r after e =
    subst (NumberSays ports p (length buffer)) (sym (routed_number ports p buffer r after e)) (route_number_says ports p (length buffer))

pub host_route_keeps : HostRouteKeeps
host_route_keeps ports p buffer r after e = left_or_kept ports p buffer r after e (route ports p (length buffer)).leaves refl
