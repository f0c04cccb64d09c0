-- What the exported functions for multicast promise: the promises of `multicast`, with a host's numbers in the place of enums. Assumes nothing.
use Rattle.std.specs.Prelude.{ℕ, List, ◌≡◌, Result, Ok, Err}
use Rattle.answers.specs.declared.Refusal.{Refusal}
use Rattle.answers.specs.Numbers.{number_of}
use Rattle.multicast.specs.Capability.{CapabilityTold, capability_says}
use Rattle.multicast.specs.Judging.{Judges}
use Rattle.multicast.specs.declared.Record.{Record}
use Rattle.multicast.specs.declared.Judged.{Judged}
use Rattle.multicast.specs.declared.Judged.TheVariants.{NoHit, Dropped, Leaves}
use Rattle.offload.specs.declared.HostJudged.{HostJudged}

-- the space, the offset, the seven numbers as lent, which do not count, the number that comes back, and the seven afterwards
abbrev pub HostReads : List ℕ → ℕ → Record → ℕ → Record → Type 0
HostReads s at lent r after = ◌≡◌ {A = CapabilityTold} (record { number = r; fields = after }) (capability_says s at)

-- the answer of `judge`, as a host is told it: the verdict is 0 where it is refused, 1 no hit, 2 dropped, 3 leaves
abbrev pub told_judged : Result Judged Refusal → HostJudged
told_judged (Err refusal) = record { ports = 0; number = number_of refusal; verdict = 0; group = 0 }
told_judged (Ok NoHit) = record { ports = 0; number = 0; verdict = 1; group = 0 }
told_judged (Ok (Dropped group)) = record { ports = 0; number = 0; verdict = 2; group = group }
told_judged (Ok (Leaves group ports)) = record { ports = ports; number = 0; verdict = 3; group = group }

-- the list, the place that is entered by, the address and the result: what is told is an answer that `Judges` allows
pub record HostJudges (ports : List Record) (entering address : ℕ) (r : HostJudged) : Type 0 where
  pub answer : Result Judged Refusal
  pub judges : Judges ports entering address answer
  pub told : r ≡ told_judged answer
