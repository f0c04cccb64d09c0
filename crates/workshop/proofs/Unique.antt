-- THEOREMS. A second result that meets a promise of this crate is the same result, with the same room, or the same space, afterwards. Assumes nothing.
use Prim.Native.Nat.{ℕ}
use mathlib.Core.List.{List}
use mathlib.Core.Path.{◌≡◌, sym, ap, ◌∙◌}
use Rattle.answers.specs.Numbers.{answered}
use Rattle.layout.specs.declared.Structure.{Structure}
use Rattle.layout.proofs.Unique.{check_unique, plan_unique, write_unique}
use Rattle.workshop.specs.Lays.{HostPlans, HostChecks, HostWrites}

-- the statements
abbrev pub HostPlanUnique : Type 0
HostPlanUnique =
    (structures : List Structure) (room : List ℕ) (r q : ℕ) (l m : List ℕ) → HostPlans structures room r l → HostPlans structures room q m
    → (r ≡ q) × (l ≡ m)

abbrev pub HostCheckUnique : Type 0
HostCheckUnique =
    (structures : List Structure) (offsets : List ℕ) (r q : ℕ) → HostChecks structures offsets r → HostChecks structures offsets q → r ≡ q

abbrev pub HostWriteUnique : Type 0
HostWriteUnique =
    (structures : List Structure) (offsets s : List ℕ) (r q : ℕ) (l m : List ℕ) → HostWrites structures offsets s r l
    → HostWrites structures offsets s q m → (r ≡ q) × (l ≡ m)

pub host_plan_unique : HostPlanUnique
host_plan_unique structures room r q l m a b =
    let same = plan_unique structures room a.answer b.answer l m a.plans b.plans in
    (a.told ∙ ap answered same.0 ∙ sym b.told, same.1)

pub host_check_unique : HostCheckUnique
host_check_unique structures offsets r q a b =
    a.told ∙ ap answered (check_unique structures offsets a.answer b.answer a.checks b.checks) ∙ sym b.told

pub host_write_unique : HostWriteUnique
host_write_unique structures offsets s r q l m a b =
    let same = write_unique structures offsets s a.answer b.answer l m a.writes b.writes in
    (a.told ∙ ap answered same.0 ∙ sym b.told, same.1)
