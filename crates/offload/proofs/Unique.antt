-- THEOREMS. A second result that meets a promise of this crate is the same result, with the same numbers afterwards. Assumes nothing.
use Prim.Native.Nat.{ℕ}
use mathlib.Core.List.{List}
use mathlib.Core.Path.{◌≡◌, sym, ap, ◌∙◌}
use Rattle.multicast.specs.declared.Record.{Record}
use Rattle.multicast.specs.Capability.{CapabilityTold}
use Rattle.multicast.proofs.Unique.{judge_unique}
use Rattle.offload.specs.declared.HostJudged.{HostJudged}
use Rattle.offload.specs.Judges.{HostReads, told_judged, HostJudges}

-- the statements
abbrev pub HostMulticastUnique : Type 0
HostMulticastUnique =
    (s : List ℕ) (at r q : ℕ) (lent l m : Record) → HostReads s at lent r l → HostReads s at lent q m → (r ≡ q) × (l ≡ m)

abbrev pub HostJudgeUnique : Type 0
HostJudgeUnique =
    (ports : List Record) (entering address : ℕ) (r q : HostJudged) → HostJudges ports entering address r → HostJudges ports entering address q → r ≡ q

pub host_multicast_unique : HostMulticastUnique
host_multicast_unique s at r q lent l m e f =
    let same : ◌≡◌ {A = CapabilityTold} (record { number = r; fields = l }) (record { number = q; fields = m }) = e ∙ sym f in
    (ap (λ (t : CapabilityTold). t.number) same, ap (λ (t : CapabilityTold). t.fields) same)

pub host_judge_unique : HostJudgeUnique
host_judge_unique ports entering address r q a b =
    a.told ∙ ap told_judged (judge_unique ports entering address a.answer b.answer a.judges b.judges) ∙ sym b.told
