-- `layout::checking::accepts` meets its contract. The loop's invariant: those that are left stand behind what has ended exactly if all are accepted. Assumes nothing.
use mathlib.Core.Path.{◌≡◌}
use lib.ListN.{length}
use Rattle.layout.specs.Inner.{stand_from, accepts}
use Rattle.layout.proofs.checking.accepts.Given as goal

abbrev pub invariant-loop-structure : goal.invariant-loop-structure
invariant-loop-structure l = let left = l.structure-iterator in (length left.b.rest.now ≡ length left.a.rest.now) × (stand_from l.ended left.a.rest.now left.b.rest.now ≡ accepts l.structures l.offsets)
