-- `layout::planning::fit` meets its contract. The loop's invariant: those that are left fit from where it is exactly if all fit. Assumes nothing.
use Prim.Native.Nat.{◌≤◌}
use mathlib.Core.Path.{◌≡◌}
use lib.ListN.{drop}
use Rattle.layout.specs.Inner.{fits_from}
use Rattle.layout.proofs.planning.fit.Given as goal

abbrev pub invariant-loop-structure : goal.invariant-loop-structure
invariant-loop-structure l = (l.at ≤ 0x1003) × (fits_from l.at (drop l.structure-index l.structures) ≡ fits_from 0x100 l.structures)
