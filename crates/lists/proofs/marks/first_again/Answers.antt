-- `lists::marks::first_again` meets its contract: before the first offset nothing is marked. Assumes nothing.
use Rattle.lists.proofs.Marking.{marked_none}
use Rattle.lists.proofs.marks.first_again.Goals as goal

pub loop-index-init : goal.loop-index-init
loop-index-init c = marked_none c.args.log.now
