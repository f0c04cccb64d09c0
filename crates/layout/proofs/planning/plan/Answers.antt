-- `layout::planning::plan` meets its contract: what is packed is the lowest proposal, and where it does not fit, there is none. Assumes nothing.
use mathlib.Core.Path.{refl, sym, ◌∙◌}
use Rattle.layout.specs.Proposing.{Plans.unplaced, Plans.proposed}
use Rattle.layout.specs.Inner.{packed_from}
use Rattle.layout.proofs.Sound.{given}
use Rattle.layout.proofs.Steps.{packed_length}
use Rattle.layout.proofs.Packing.{packed_is_lowest, none_fits}
use Rattle.layout.proofs.planning.plan.Goals as goal

pub returns-then-not-fit : goal.returns-then-not-fit
returns-then-not-fit c =
    let good = sym c.are_bad.ensures ∙ c.if-are_bad.false in
    unplaced good c.if-room-structures.false (none_fits (given _ good) (sym c.fit.ensures ∙ c.if-not-fit.true))
    (record { given = refl; kept = refl })

pub returns : goal.returns
returns c =
    let good = sym c.are_bad.ensures ∙ c.if-are_bad.false in
    let s = c.args.structures.now in
    proposed good c.if-room-structures.false (packed_from 0x100 s)
    (packed_is_lowest (given _ good) (sym c.fit.ensures ∙ c.if-not-fit.false)) refl
    (rw (packed_length 0x100 s) c.propose.ensures)
