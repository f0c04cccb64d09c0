-- `Board::serve` meets its contract: the checks, lowest number first, then the request. Assumes nothing.
use mathlib.Core.Path.{sym, ◌∙◌}
use lib.ListN.{length}
use Rattle.std.proofs.lemmas.Result.{err_from_is_err_and}
use Rattle.answers.specs.declared.Refusal.TheVariants.{BadDescription, NoRoom}
use Rattle.board.specs.Promise.{lent}
use Rattle.board.proofs.Outcomes.{refused_seen, bad_number, room_number, packet_number, ready, in_bounds, served_seen, served_leaves}
use Rattle.board.proofs.Keeps.{serving_holds}
use Rattle.board.proofs.Board.serve.Goals as goal

pub returns-then-is_badly_described-clause-serves : goal.returns-then-is_badly_described-clause-serves
returns-then-is_badly_described-clause-serves c =
    let a = c.args in
    let d = lent a.self.now in
    refused_seen d a.packet.now a.reply.now BadDescription (bad_number d a.packet.now a.reply.now (sym c.is_badly_described.ensures ∙ c.if-is_badly_described.true))

pub returns-then-reply-lt-REPLY-clause-serves : goal.returns-then-reply-lt-REPLY-clause-serves
returns-then-reply-lt-REPLY-clause-serves c =
    let a = c.args in
    let d = lent a.self.now in
    refused_seen d a.packet.now a.reply.now NoRoom (room_number d a.packet.now a.reply.now (sym c.is_badly_described.ensures ∙ c.if-is_badly_described.false) c.if-reply-lt-REPLY.true)

pub respond_to-requires-clause-ready : goal.respond_to-requires-clause-ready
respond_to-requires-clause-ready c =
    let a = c.args in
    ready (lent a.self.now) a.packet.now a.reply.now (sym c.is_badly_described.ensures ∙ c.if-is_badly_described.false) c.if-reply-lt-REPLY.false _ c.in_ok-request.ensures

pub respond_to-requires-clause-in_bounds : goal.respond_to-requires-clause-in_bounds
respond_to-requires-clause-in_bounds c =
    let a = c.args in
    in_bounds (lent a.self.now) a.packet.now a.reply.now (sym c.is_badly_described.ensures ∙ c.if-is_badly_described.false) c.if-reply-lt-REPLY.false _ c.in_ok-request.ensures

pub returns-in_err-request-clause-serves : goal.returns-in_err-request-clause-serves
returns-in_err-request-clause-serves c =
    let a = c.args in
    let e = err_from_is_err_and c.from_residual.result c.from_residual.ensures.1 in
    rw (e.1, e.2)
    (refused_seen (lent a.self.now) a.packet.now a.reply.now c.in_err-request.field-0.0 (packet_number (lent a.self.now) a.packet.now a.reply.now (sym c.is_badly_described.ensures ∙ c.if-is_badly_described.false) c.if-reply-lt-REPLY.false ∙ c.in_err-request.ensures))

pub returns-clause-serves : goal.returns-clause-serves
returns-clause-serves c =
    let a = c.args in
    served_seen (lent a.self.now) a.packet.now a.reply.now (sym c.is_badly_described.ensures ∙ c.if-is_badly_described.false) c.if-reply-lt-REPLY.false _ c.in_ok-request.ensures (lent c.respond_to.new.self) _ _ c.respond_to.ensures.leaves

pub returns-clause-holds : goal.returns-clause-holds
returns-clause-holds c =
    let a = c.args in
    let d = lent a.self.now in
    serving_holds d a.packet.now (length a.reply.now) (lent c.respond_to.new.self)
    (served_leaves d a.packet.now a.reply.now (sym c.is_badly_described.ensures ∙ c.if-is_badly_described.false) c.if-reply-lt-REPLY.false _ c.in_ok-request.ensures (lent c.respond_to.new.self) _ _ c.respond_to.ensures.leaves)
