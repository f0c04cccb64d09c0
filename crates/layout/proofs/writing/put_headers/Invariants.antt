-- `layout::writing::put_headers` meets its contract. The loop's invariant: the headers behind those that are left are laid, and the next pointer is to the first of them. Assumes nothing.
use Rattle.layout.proofs.Steps.{LaidBehind}
use Rattle.layout.proofs.writing.put_headers.Given as goal

abbrev pub invariant-loop-structure : goal.invariant-loop-structure
invariant-loop-structure l = let left = l.structure-iterator in LaidBehind l.structures l.offsets left.a.iter.rest.now left.b.iter.rest.now l.initial.space l.space l.next
