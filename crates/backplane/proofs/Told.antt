-- What the private functions tell each other gives what a host is promised. Assumes nothing.
use Prim.Native.Nat.{ℕ}
use mathlib.Core.List.{List}
use mathlib.Core.Path.{◌≡◌, refl, ap, ◌∙◌}
use Rattle.std.specs.Prelude.{Ok, Err}
use Rattle.ports.specs.Choice.{Choice}
use Rattle.router.specs.declared.Verdict.TheVariants.{Leaves, Unsupported}
use Rattle.router.specs.Promise.{Routed, told, Decides}
use Rattle.backplane.specs.declared.HostRouted.{HostRouted}
use Rattle.backplane.specs.Routes.{told_verdict, host_sees, host_shown, HostDecides}

-- a packet is routed by the choice that was made, and the verdict is told
verdict_seen : (v : Routed) (after : List ℕ) → host_sees (told_verdict v) after ≡ host_shown (told v after)
verdict_seen (Ok (Leaves port count)) after = refl
verdict_seen (Ok Unsupported) after = refl
verdict_seen (Err refusal) after = refl

pub decides_told : (c : Choice) (p buffer : List ℕ) (v : Routed) (r : HostRouted) (after : List ℕ) → Decides c p buffer v after → r ≡ told_verdict v
    → HostDecides c p buffer r after
decides_told c p buffer v r after decides verdict =
    ap (λ (x : HostRouted). host_sees x after) verdict ∙ verdict_seen v after ∙ ap host_shown decides
