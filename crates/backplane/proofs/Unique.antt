-- THEOREM. A second result that meets the promise of this crate is the same result, with the same buffer afterwards. Assumes nothing.
use Prim.Native.Nat.{ℕ}
use mathlib.Core.List.{List}
use mathlib.Core.Path.{◌≡◌, sym, ap, ◌∙◌}
use Rattle.ports.specs.declared.Port.{Port}
use Rattle.backplane.specs.declared.HostRouted.{HostRouted}
use Rattle.backplane.specs.Routes.{HostSees, host_sees, HostRoutes}

-- the statement
abbrev pub HostRouteUnique : Type 0
HostRouteUnique =
    (ports : List Port) (p buffer : List ℕ) (r q : HostRouted) (l m : List ℕ) → HostRoutes ports p buffer r l → HostRoutes ports p buffer q m → (r ≡ q) × (l ≡ m)

pub host_route_unique : HostRouteUnique
host_route_unique ports p buffer r q l m e f =
    let s : host_sees r l ≡ host_sees q m = e ∙ sym f in (ap (λ (x : HostSees). x.routed) s, ap (λ (x : HostSees). x.buffer) s)
