-- `Board::write` meets its contract: a trusted write, or an ordinary one off the correlation word's place. Assumes nothing.
use mathlib.Core.Path.{sym, ◌∙◌}
use Rattle.board.specs.Promise.{lent}
use Rattle.board.proofs.Outcomes.{written_trusted, written_ordinary}
use Rattle.board.proofs.Board.write.Goals as goal

pub returns-then-is_trusted-clause-after : goal.returns-then-is_trusted-clause-after
returns-then-is_trusted-clause-after c =
    let a = c.args in
    written_trusted (lent a.self.now) a.request a.new c.store.new.bytes (sym c.is_trusted.ensures ∙ c.if-is_trusted.true) c.store.ensures

pub returns-then-request-self-clause-after : goal.returns-then-request-self-clause-after
returns-then-request-self-clause-after c =
    let a = c.args in
    rw c.capture-self.ensures
    (written_ordinary (lent a.self.now) a.request a.new (sym c.is_trusted.ensures ∙ c.if-is_trusted.false) c.store-then-request-self.new.bytes c.if-request-self.true c.store-then-request-self.ensures)
