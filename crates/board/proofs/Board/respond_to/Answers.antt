-- `Board::respond_to` meets its contract: a write, with the data that the packet has. Assumes nothing.
use mathlib.Core.Path.{sym, ◌∙◌}
use native.Mathlib.Omega.{arith}
use Rattle.words.proofs.Laws.{four_inside}
use Rattle.packet.specs.Fields.{data_of}
use Rattle.board.specs.Promise.{lent}
use Rattle.board.proofs.Outcomes.{respond_write}
use Rattle.board.proofs.Board.respond_to.Goals as goal

pub returns-then-request-clause-leaves : goal.returns-then-request-clause-leaves
returns-then-request-clause-leaves c =
    let a = c.args in
    rw (
      respond_write (lent a.self.now) a.request (data_of a.packet.now) (sym c.is_unsupported.ensures ∙ c.if-is_unsupported.false) c.if-request.true,
      ← (four_inside a.packet.now 12 (omega (arith, c.requires.in_bounds c.if-request.true))),
      ← c.four.ensures,
      ← c.write.ensures.after,
    )
    c.reply_status-then-request.ensures
