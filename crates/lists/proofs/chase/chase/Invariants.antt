-- `lists::chase::chase` meets its contract. The loop's invariant: the chase is underway, with `count` offsets in the log and `position` reached,
-- and the position that waits was passed. Assumes nothing.
use Prim.Native.Nat.{◌-◌}
use mathlib.Core.Path.{◌≡◌}
use lib.ListN.{length}
use Rattle.lists.specs.Inner.{offset_of, Underway, Waits}
use Rattle.lists.proofs.chase.chase.Given as goal

abbrev pub invariant-loop-at : goal.invariant-loop-at
invariant-loop-at g l = Underway g.L.List.kind l.space l.log l.count (offset_of g.L.List.kind l.position) × (length l.log ≡ length l.initial.log) × Waits g.L.List.kind l.space l.count l.waiting

abbrev pub decreases-loop-at : goal.decreases-loop-at
decreases-loop-at g l = length l.log - l.count
