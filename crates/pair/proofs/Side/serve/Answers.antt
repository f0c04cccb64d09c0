-- `Side::serve` meets its contract: what a board of its own serves. Assumes nothing.
use Rattle.std.proofs.Common.{rules}
use Rattle.pair.specs.Pair.{board_of}
use Rattle.pair.specs.Promise.{lent_side}
use Rattle.pair.proofs.Outcomes.{own_served}
use Rattle.pair.proofs.Side.serve.Goals as goal

pub returns-clause-serves : goal.returns-clause-serves
returns-clause-serves c =
    let a = c.args in
    let served = rw c.described.ensures at c.serve-answer.ensures.serves in
    own_served (board_of a.edition (lent_side a.self.now)) a.packet.now a.reply.now _ _ _ _ _ _ served (search rules) (search rules)
