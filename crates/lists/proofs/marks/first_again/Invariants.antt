-- `lists::marks::first_again` meets its contract. The loop's invariant: the words of the places that were passed are different, and they and no
-- others are marked. Assumes nothing.
use Rattle.lists.proofs.Marking.{Marked}
use Rattle.lists.proofs.marks.first_again.Given as goal

abbrev pub invariant-loop-index : goal.invariant-loop-index
invariant-loop-index l = Marked l.log l.marks l.index
