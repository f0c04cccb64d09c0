-- `Side::serve_beside` meets its contract: what it serves, unless the other is badly described. Assumes nothing.
use mathlib.Core.Path.{sym, ◌∙◌}
use Rattle.pair.specs.Pair.{board_of}
use Rattle.pair.specs.Promise.{lent_side}
use Rattle.pair.proofs.Outcomes.{beside_bad_seen, beside_served}
use Rattle.pair.proofs.Side.serve_beside.Goals as goal

pub returns-then-is_badly_described-clause-serves : goal.returns-then-is_badly_described-clause-serves
returns-then-is_badly_described-clause-serves c =
    let a = c.args in
    beside_bad_seen (board_of a.edition (lent_side a.self.now)) (board_of a.edition (lent_side a.other.now)) a.packet.now a.reply.now
    (sym c.is_badly_described.ensures ∙ c.if-is_badly_described.true)

pub returns-clause-serves : goal.returns-clause-serves
returns-clause-serves c =
    let a = c.args in
    beside_served (board_of a.edition (lent_side a.self.now)) (board_of a.edition (lent_side a.other.now)) a.packet.now a.reply.now _ _ _ _
    (sym c.is_badly_described.ensures ∙ c.if-is_badly_described.false) c.serve.ensures.serves
