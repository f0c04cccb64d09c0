-- `lists::broken` meets its contract: the pointer is below the floor, or the log is looked through. Assumes nothing.
use Rattle.std.proofs.Common.{◌≡◌, ◌≤◌, ℕ, refl, ap, ◌∙◌}
use Rattle.lists.specs.declared.chase.Step.{Step}
use Rattle.lists.specs.declared.chase.Step.TheVariants.{Next, End, Fault}
use Rattle.lists.specs.declared.Refused.{Refused}
use Rattle.answers.specs.declared.Refusal.TheVariants.{ComesBack}
use Rattle.lists.specs.Table.{ListRule, describe}
use Rattle.lists.specs.Inner.{Leads, Onward, Told.back}
use Rattle.lists.proofs.Walking.{last_front}
use Rattle.lists.proofs.broken.Goals as goal

-- a step that is no fault, from a pointer that is not the end, leads to an offset from the floor on
leads_on : (list : ListRule) {pointer : ℕ} (r : Step) → (r ≡ Fault → ⊥) → Onward pointer → Leads list pointer r → list.floor ≤ pointer
leads_on list (Next at) n o l = l.2
leads_on list End n o l = absurd (o.not_end l)
leads_on list Fault n o l = absurd (n refl)

at_place : {place there : ℕ} → place ≡ there → ◌≡◌ {A = Refused} (record { refusal = ComesBack; place = place }) (record { refusal = ComesBack; place = there })
at_place e = ap (λ (p : ℕ). record { refusal = ComesBack; place = p }) e

pub returns : goal.returns
returns g c =
    let f = c.first_again-index.ensures in
    back
    (leads_on (describe g.L.List.kind) c.step_to.result c.in_default.not-Fault c.requires.1 c.step_to.ensures)
    c.first_again-index.result f (at_place (c.last-2.ensures ∙ last_front c.args.passed.now c.first_again-index.result f.within))
