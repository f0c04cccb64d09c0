-- `board::store` meets its contract: the four bytes, rules and marks are inside, and what is put is their merge. Assumes nothing.
use Rattle.board.specs.Promise.{space_of}
use Rattle.board.proofs.Laws.{stored_is}
use Rattle.board.proofs.access.store.Goals as goal

pub returns : goal.returns
returns c =
    let a = c.args in
    stored_is (space_of a.bytes.now a.rules.now a.marks.now) a.request _ _ _ _ _ _ _ c.requires c.four-old.ensures c.four-rule.ensures c.four-mark.ensures c.merge-merged.ensures c.put.ensures
