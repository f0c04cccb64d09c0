-- What the function that is exported for a switch promises: `router::route`'s promise, with a host's numbers in the place of the result. Assumes nothing.
use Rattle.std.specs.Prelude.{ℕ, cond, List, Ok, Err, ◌≡◌, length}
use Rattle.answers.specs.Numbers.{number_of}
use Rattle.ports.specs.declared.Port.{Port}
use Rattle.ports.specs.Choice.{Choice}
use Rattle.router.specs.declared.Verdict.TheVariants.{Leaves, Unsupported}
use Rattle.router.specs.Routing.{decide, route}
use Rattle.router.specs.Promise.{Routed, Seen, shows}
use Rattle.backplane.specs.declared.HostRouted.{HostRouted}

-- a verdict, as a host is told it: `leaves` is 1 where the packet leaves and else 0
abbrev pub told_verdict : Routed → HostRouted
told_verdict (Ok (Leaves port count)) = record { length = count; number = 0; leaves = 1; port = port }
told_verdict (Ok Unsupported) = record { length = 0; number = 0; leaves = 0; port = 0 }
told_verdict (Err refusal) = record { length = 0; number = number_of refusal; leaves = 0; port = 0 }

-- what a host sees after a call: the result, and the lent buffer
pub record HostSees : Type 0 where
  pub routed : HostRouted
  pub buffer : List ℕ

abbrev pub host_sees : HostRouted → List ℕ → HostSees
host_sees r after = record { routed = r; buffer = after }

-- what it should see, by what a caller of `router::route` should
abbrev pub host_shown : Seen → HostSees
host_shown shown =
    record {
      routed = record { length = shown.count; number = shown.number; leaves = cond shown.leaves 1 0; port = shown.port };
      buffer = shown.buffer;
    }

-- the promise of `thawribbon_route`: the ports, the packet and the buffer as lent, the result, and the buffer at its end
abbrev pub HostRoutes : List Port → List ℕ → List ℕ → HostRouted → List ℕ → Type 0
HostRoutes ports p buffer r after = host_sees r after ≡ host_shown (shows (route ports p (length buffer)) buffer)

-- the same of the inner function that is given the choice for the packet's bus
abbrev pub HostDecides : Choice → List ℕ → List ℕ → HostRouted → List ℕ → Type 0
HostDecides c p buffer r after = host_sees r after ≡ host_shown (shows (decide c p (length buffer)) buffer)
