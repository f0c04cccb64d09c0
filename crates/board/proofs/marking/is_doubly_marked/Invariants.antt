-- `board::is_doubly_marked` meets its contract: what is found in the bytes so far, byte by byte. Assumes nothing.
use Prim.Native.Nat.{◌≤◌}
use mathlib.Core.Bool.{not}
use mathlib.Core.Path.{◌≡◌}
use lib.Dec.{eqb}
use lib.ListN.{take}
use Rattle.board.specs.Description.{doubly_marked}
use Rattle.board.proofs.marking.is_doubly_marked.Given as goal

abbrev pub invariant-loop-at : goal.invariant-loop-at
invariant-loop-at l = (l.at ≤ 4096) × (not (eqb l.both 0) ≡ doubly_marked (take l.at l.rules) (take l.at l.marks))
