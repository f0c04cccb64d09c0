-- `pair::serve` meets its contract: one of the two functions answers, beside the other. Assumes nothing.
use mathlib.Core.Path.{refl, sym, ◌∙◌}
use Rattle.board.specs.Promise.{Served}
use Rattle.pair.specs.Pair.{board_of}
use Rattle.pair.specs.Inner.{ServesBeside}
use Rattle.pair.specs.Promise.{lent_side, lent_pair, PairServes}
use Rattle.pair.proofs.Outcomes.{equal_seen, alternate_seen, primary_seen}
use Rattle.pair.proofs.serving.serve.Goals as goal

pub returns-then-primary-alternate-clause-serves : goal.returns-then-primary-alternate-clause-serves
returns-then-primary-alternate-clause-serves c =
    let a = c.args in
    equal_seen (lent_pair a.edition (lent_side a.primary.now) (lent_side a.alternate.now)) a.packet.now a.reply.now c.if-primary-alternate.true

pub returns-then-is_for-clause-serves : goal.returns-then-is_for-clause-serves
returns-then-is_for-clause-serves c =
    let a = c.args in
    let served = c.serve_beside in
    let told : Served = record { answer = served.result; capture = served.new.self.capture } in
    let by : ServesBeside (board_of a.edition (lent_side a.alternate.now)) (board_of a.edition (lent_side a.primary.now)) a.packet.now a.reply.now told
    served.new.self.ordinary.now served.new.self.trusted.now served.new.reply = cc in
    let seen : PairServes (lent_pair a.edition (lent_side a.primary.now) (lent_side a.alternate.now)) a.packet.now a.reply.now
    (record { answer = told.answer; kept = record { primary = a.primary.now.capture; alternate = told.capture } })
    a.primary.now.ordinary.now a.primary.now.trusted.now served.new.self.ordinary.now served.new.self.trusted.now served.new.reply
    = alternate_seen (lent_pair a.edition (lent_side a.primary.now) (lent_side a.alternate.now)) a.packet.now a.reply.now
    c.if-primary-alternate.false a.primary.now told _ _ _
    (sym c.is_for.ensures ∙ c.if-is_for.true) refl by in
    cc

pub returns-else-is_for-clause-serves : goal.returns-else-is_for-clause-serves
returns-else-is_for-clause-serves c =
    let a = c.args in
    let served = c.serve_beside-else-is_for in
    primary_seen (lent_pair a.edition (lent_side a.primary.now) (lent_side a.alternate.now)) a.packet.now a.reply.now
    c.if-primary-alternate.false a.alternate.now (record { answer = served.result; capture = served.new.self.capture }) _ _ _
    (sym c.is_for.ensures ∙ c.if-is_for.false) refl served.ensures.serves
