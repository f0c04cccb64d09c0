-- `board::is_doubly_marked` meets its contract: what is found in the bytes so far, byte by byte. Assumes nothing.
use mathlib.Core.Path.{refl, ◌∙◌}
use native.Mathlib.Omega.{arith}
use borrow.Author.Rules.{rules}
use Rattle.board.specs.Description.{doubly_marked}
use Rattle.board.proofs.MarkedTwice.{one_more, all_looked_at}
use Rattle.board.proofs.marking.is_doubly_marked.Goals as goal

pub loop-at-init : goal.loop-at-init
unfolding doubly_marked
loop-at-init c = (search rules, refl)

pub loop-at-preserved : goal.loop-at-preserved
loop-at-preserved c =
    let l = c.loop-at in
    (search rules, one_more _ _ l.both l.at (search rules) (search rules) l.invariant.1)

pub returns : goal.returns
returns c = c.loop-at.invariant.1 ∙ all_looked_at _ _ c.loop-at.at (omega arith) (omega arith)
