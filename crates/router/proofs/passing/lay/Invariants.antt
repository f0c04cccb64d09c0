-- `router::passing::lay` meets its contract. The loop's invariant: so many bytes are in place. Assumes nothing.
use Prim.Native.Nat.{◌≤◌}
use mathlib.Core.Path.{◌≡◌}
use lib.ListN.{length}
use lib.Seq.{paste}
use Rattle.router.proofs.passing.lay.Given as goal

abbrev pub invariant-loop-place : goal.invariant-loop-place
invariant-loop-place l = (length l.packet ≤ length l.initial.leaving) × (l.leaving ≡ paste l.initial.leaving 0 l.packet l.place)
