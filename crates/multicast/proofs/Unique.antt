-- THEOREMS. A second result that meets the promise of an entry of this crate is the same result. Assumes nothing.
use Prim.Native.Nat.{ℕ}
use mathlib.Core.List.{List}
use mathlib.Core.Path.{◌≡◌, refl, sym, ap, ap₂, ◌∙◌}
use native.Mathlib.Omega.{arith}
use Rattle.answers.proofs.Unique.{number_positive, number_tells}
use Rattle.std.specs.Prelude.{Result, Ok, Err}
use Rattle.answers.specs.declared.Refusal.{Refusal}
use Rattle.multicast.specs.declared.Record.{Record}
use Rattle.multicast.specs.declared.Judged.{Judged}
use Rattle.multicast.specs.declared.Judged.TheVariants.{NoHit, Dropped, Leaves}
use Rattle.multicast.specs.Capability.{CapabilityTold, tells_capability, capability_says}
use Rattle.multicast.specs.Judging.{JudgedTold, Verdict, unsaid, no_hit, dropped, leaves, tells_judged, ports_of, Judges}
use Rattle.multicast.proofs.Sets.{same_bits}

-- the statements
abbrev pub ReadUnique : Type 0
ReadUnique = (s : List ℕ) (at : ℕ) (r q : Result Record Refusal) → tells_capability r ≡ capability_says s at → tells_capability q ≡ capability_says s at → r ≡ q

abbrev pub JudgeUnique : Type 0
JudgeUnique =
    (ports : List Record) (entering address : ℕ) (r q : Result Judged Refusal) → Judges ports entering address r → Judges ports entering address q → r ≡ q

-- what is told of a reading is all there is to it
read_apart : (r q : Result Record Refusal) → tells_capability r ≡ tells_capability q → r ≡ q
read_apart (Ok r) (Ok q) e = ap (λ (t : CapabilityTold). Ok t.fields) e
read_apart (Ok r) (Err y) e = absurd (number_positive y (sym (ap (λ (t : CapabilityTold). t.number) e)))
read_apart (Err x) (Ok q) e = absurd (number_positive x (ap (λ (t : CapabilityTold). t.number) e))
read_apart (Err x) (Err y) e = ap Err (number_tells x y (ap (λ (t : CapabilityTold). t.number) e))

pub read_unique : ReadUnique
read_unique s at r q e f = read_apart r q (e ∙ sym f)

-- two verdicts that are not the same one
kind : Verdict → ℕ
kind unsaid = 0
kind no_hit = 1
kind dropped = 2
kind leaves = 3

kinds : (r q : Result Judged Refusal) → tells_judged r ≡ tells_judged q → kind (tells_judged r).verdict ≡ kind (tells_judged q).verdict
kinds r q e = ap (λ (t : JudgedTold). kind t.verdict) e

-- what is told and the ports are all there is to an answer
pub told_apart : (r q : Result Judged Refusal) → tells_judged r ≡ tells_judged q → ports_of r ≡ ports_of q → r ≡ q
unfolding kind
told_apart (Err a) (Err b) e f = ap Err (number_tells a b (ap (λ (t : JudgedTold). t.number) e))
told_apart (Err a) (Ok NoHit) e f = absurd (omega (arith, kinds (Err a) (Ok NoHit) e))
told_apart (Err a) (Ok (Dropped g)) e f = absurd (omega (arith, kinds (Err a) (Ok (Dropped g)) e))
told_apart (Err a) (Ok (Leaves g p)) e f = absurd (omega (arith, kinds (Err a) (Ok (Leaves g p)) e))
told_apart (Ok NoHit) (Err b) e f = absurd (omega (arith, kinds (Ok NoHit) (Err b) e))
told_apart (Ok NoHit) (Ok NoHit) e f = refl
told_apart (Ok NoHit) (Ok (Dropped g)) e f = absurd (omega (arith, kinds (Ok NoHit) (Ok (Dropped g)) e))
told_apart (Ok NoHit) (Ok (Leaves g p)) e f = absurd (omega (arith, kinds (Ok NoHit) (Ok (Leaves g p)) e))
told_apart (Ok (Dropped g)) (Err b) e f = absurd (omega (arith, kinds (Ok (Dropped g)) (Err b) e))
told_apart (Ok (Dropped g)) (Ok NoHit) e f = absurd (omega (arith, kinds (Ok (Dropped g)) (Ok NoHit) e))
told_apart (Ok (Dropped g)) (Ok (Dropped h)) e f = ap (λ (t : JudgedTold). Ok (Dropped t.group)) e
told_apart (Ok (Dropped g)) (Ok (Leaves h p)) e f = absurd (omega (arith, kinds (Ok (Dropped g)) (Ok (Leaves h p)) e))
told_apart (Ok (Leaves g p)) (Err b) e f = absurd (omega (arith, kinds (Ok (Leaves g p)) (Err b) e))
told_apart (Ok (Leaves g p)) (Ok NoHit) e f = absurd (omega (arith, kinds (Ok (Leaves g p)) (Ok NoHit) e))
told_apart (Ok (Leaves g p)) (Ok (Dropped h)) e f = absurd (omega (arith, kinds (Ok (Leaves g p)) (Ok (Dropped h)) e))
told_apart (Ok (Leaves g p)) (Ok (Leaves h q)) e f = ap₂ (λ group ports. Ok (Leaves group ports)) (ap (λ (t : JudgedTold). t.group) e) f

pub judge_unique : JudgeUnique
judge_unique ports entering address r q a b =
    told_apart r q (a.tells ∙ sym b.tells) (same_bits 32 (ports_of r) (ports_of q) a.most b.most (λ k h. a.each k h ∙ sym (b.each k h)))
