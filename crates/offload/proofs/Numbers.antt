-- THEOREMS. What a host is told, number by number. Of a capability the number is that of the first requirement that is not met, and no other is given; where it is not 0,
-- the seven numbers that were lent are 0 afterwards. Of an address: the number, the verdict and the group are those that are said of it, and bit k of the ports is 1
-- exactly if it leaves by port k; where the number is not 0, all else is 0. Assumes nothing.
use Prim.Native.Nat.{ℕ, ◌<◌}
use mathlib.Core.List.{List, [], ◌∷◌, Memᴰ}
use mathlib.Core.Path.{◌≡◌, refl, sym, ap, subst, ◌∙◌}
use Rattle.std.specs.Prelude.{Result, Ok, Err}
use Rattle.answers.specs.declared.Refusal.{Refusal}
use Rattle.answers.proofs.Checks.{First}
use Rattle.words.specs.Fields.{bit}
use Rattle.multicast.specs.declared.Record.{Record}
use Rattle.multicast.specs.Capability.{CapabilityTold, capability_checks, no_fields}
use Rattle.multicast.specs.Judging.{Verdict, unsaid, no_hit, dropped, leaves, JudgedTold, judged, leaves_by, tells_judged, ports_of}
use Rattle.multicast.specs.declared.Judged.{Judged}
use Rattle.multicast.specs.declared.Judged.TheVariants.{NoHit, Dropped, Leaves}
use Rattle.multicast.proofs.Numbers.{number_says, says_nothing}
use Rattle.multicast.proofs.Refusals.{refused_tells_nothing}
use Rattle.offload.specs.declared.HostJudged.{HostJudged}
use Rattle.offload.specs.Judges.{HostReads, told_judged, HostJudges}

-- a verdict as a host is told it
abbrev pub code : Verdict → ℕ
code unsaid = 0
code no_hit = 1
code dropped = 2
code leaves = 3

-- the statements
abbrev pub HostMulticastNumber : Type 0
HostMulticastNumber =
    (s : List ℕ) (at r : ℕ) (lent after : Record) → HostReads s at lent r after
    → First (capability_checks s at) r × Memᴰ r (0 ∷ 1 ∷ 8 ∷ 9 ∷ 13 ∷ [])

abbrev pub HostMulticastNothing : Type 0
HostMulticastNothing = (s : List ℕ) (at r : ℕ) (lent after : Record) → HostReads s at lent r after → (r ≡ 0 → ⊥) → after ≡ no_fields

pub record HostTold (ports : List Record) (entering address : ℕ) (r : HostJudged) : Type 0 where
  pub number : r.number ≡ (judged ports entering address).number
  pub verdict : r.verdict ≡ code (judged ports entering address).verdict
  pub group : r.group ≡ (judged ports entering address).group
  pub each : (k : ℕ) → k < 32 → bit k r.ports ≡ leaves_by ports entering (judged ports entering address) k

abbrev pub HostJudgeTold : Type 0
HostJudgeTold = (ports : List Record) (entering address : ℕ) (r : HostJudged) → HostJudges ports entering address r → HostTold ports entering address r

abbrev pub HostRefusedNothing : Type 0
HostRefusedNothing =
    (ports : List Record) (entering address : ℕ) (r : HostJudged) → HostJudges ports entering address r → (r.number ≡ 0 → ⊥)
    → r ≡ record { ports = 0; number = 1; verdict = 0; group = 0 }

pub host_multicast_number : HostMulticastNumber
host_multicast_number s at r lent after e =
    subst (λ (n : ℕ). First (capability_checks s at) n × Memᴰ n (0 ∷ 1 ∷ 8 ∷ 9 ∷ 13 ∷ [])) (sym (ap (λ (t : CapabilityTold). t.number) e)) (number_says s at)

pub host_multicast_nothing : HostMulticastNothing
host_multicast_nothing s at r lent after e n =
    ap (λ (t : CapabilityTold). t.fields) e ∙ says_nothing s at (λ z. n (ap (λ (t : CapabilityTold). t.number) e ∙ z))

-- ---- an answer, as a host is told it

told_number : (a : Result Judged Refusal) → (told_judged a).number ≡ (tells_judged a).number
told_number (Err refusal) = refl
told_number (Ok NoHit) = refl
told_number (Ok (Dropped group)) = refl
told_number (Ok (Leaves group ports)) = refl

told_verdict : (a : Result Judged Refusal) → (told_judged a).verdict ≡ code (tells_judged a).verdict
told_verdict (Err refusal) = refl
told_verdict (Ok NoHit) = refl
told_verdict (Ok (Dropped group)) = refl
told_verdict (Ok (Leaves group ports)) = refl

told_group : (a : Result Judged Refusal) → (told_judged a).group ≡ (tells_judged a).group
told_group (Err refusal) = refl
told_group (Ok NoHit) = refl
told_group (Ok (Dropped group)) = refl
told_group (Ok (Leaves group ports)) = refl

told_ports : (a : Result Judged Refusal) → (told_judged a).ports ≡ ports_of a
told_ports (Err refusal) = refl
told_ports (Ok NoHit) = refl
told_ports (Ok (Dropped group)) = refl
told_ports (Ok (Leaves group ports)) = refl

pub host_judge_told : HostJudgeTold
host_judge_told ports entering address r h =
    let a = h.answer in
    record {
      number = ap (λ (x : HostJudged). x.number) h.told ∙ told_number a ∙ ap (λ (t : JudgedTold). t.number) h.judges.tells;
      verdict = ap (λ (x : HostJudged). x.verdict) h.told ∙ told_verdict a ∙ ap (λ (t : JudgedTold). code t.verdict) h.judges.tells;
      group = ap (λ (x : HostJudged). x.group) h.told ∙ told_group a ∙ ap (λ (t : JudgedTold). t.group) h.judges.tells;
      each = λ k l. ap (bit k) (ap (λ (x : HostJudged). x.ports) h.told ∙ told_ports a) ∙ h.judges.each k l;
    }

pub host_refused_nothing : HostRefusedNothing
host_refused_nothing ports entering address r h n =
    h.told
    ∙ ap told_judged (refused_tells_nothing ports entering address h.answer h.judges (λ z. n (ap (λ (x : HostJudged). x.number) h.told ∙ told_number h.answer ∙ z)))
