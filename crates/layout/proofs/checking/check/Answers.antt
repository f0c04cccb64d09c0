-- `layout::checking::check` meets its contract: what the code accepts is what is acceptable. Assumes nothing.
use mathlib.Core.Path.{refl, sym, ◌∙◌}
use Rattle.layout.specs.Accepting.{Checks.unaccepted, Checks.accepted}
use Rattle.layout.proofs.Sound.{given}
use Rattle.layout.proofs.Orderly.{accepts_acceptable, refuses_acceptable}
use Rattle.layout.proofs.checking.check.Goals as goal

pub returns-then-not-accepts : goal.returns-then-not-accepts
returns-then-not-accepts c =
    let good = sym c.are_bad.ensures ∙ c.if-are_bad.false in
    unaccepted good (refuses_acceptable (given _ good).sound (sym c.accepts.ensures ∙ c.if-not-accepts.true)) refl

pub returns : goal.returns
returns c =
    let good = sym c.are_bad.ensures ∙ c.if-are_bad.false in
    accepted good (accepts_acceptable (given _ good).sound (sym c.accepts.ensures ∙ c.if-not-accepts.false)) refl
