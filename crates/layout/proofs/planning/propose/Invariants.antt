-- `layout::planning::propose` meets its contract. The loop's invariant: so many offsets are in place, those that are left are packed from where it is, and they fit. Assumes nothing.
use Prim.Native.Nat.{◌≤◌}
use mathlib.Core.Bool.{true}
use mathlib.Core.Path.{◌≡◌}
use lib.ListN.{length, drop}
use lib.Seq.{paste}
use Rattle.layout.specs.Inner.{fits_from, packed_from}
use Rattle.layout.proofs.planning.propose.Given as goal

abbrev pub invariant-loop-place : goal.invariant-loop-place
invariant-loop-place l = (length l.structures ≤ length l.initial.room) × (fits_from l.at (drop l.place l.structures) ≡ true) × (drop l.place (packed_from 0x100 l.structures) ≡ packed_from l.at (drop l.place l.structures)) × (l.room ≡ paste l.initial.room 0 (packed_from 0x100 l.structures) l.place)
