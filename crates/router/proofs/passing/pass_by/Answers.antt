-- `router::passing::pass_by` meets its contract. Assumes nothing.
use mathlib.Core.Path.{sym, ◌∙◌}
use Rattle.router.proofs.Laws.{ready, barred_shows, leaves_shows}
use Rattle.router.proofs.passing.pass_by.Goals as goal

pub returns-then-is_barred : goal.returns-then-is_barred
returns-then-is_barred c =
    let a = c.args in
    barred_shows a.exit a.packet.now a.request a.leaving.now c.requires (sym c.is_barred.ensures ∙ c.if-is_barred.true)

pub leave-requires : goal.leave-requires
leave-requires c =
    let a = c.args in
    ready a.exit a.packet.now a.request a.leaving.now c.requires _ c.turns.ensures

pub returns : goal.returns
returns c =
    let a = c.args in
    leaves_shows a.exit a.packet.now a.request a.leaving.now c.requires _ _ (sym c.is_barred.ensures ∙ c.if-is_barred.false) c.turns.ensures c.leave.ensures
