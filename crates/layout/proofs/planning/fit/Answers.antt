-- `layout::planning::fit` meets its contract. The loop's invariant: those that are left fit from where it is exactly if all fit. Assumes nothing.
use Prim.Native.Nat.{◌+◌, ◌≤◌}
use mathlib.Core.Path.{◌∙◌}
use native.Mathlib.Omega.{arith}
use Rattle.layout.specs.Structures.{extent, structure_at}
use Rattle.layout.proofs.Steps.{fits_on, fits_not, all_fit}
use Rattle.layout.proofs.planning.fit.Goals as goal

pub returns-then-ends_at-gt-SPACE : goal.returns-then-ends_at-gt-SPACE
returns-then-ends_at-gt-SPACE c =
    let l = c.loop-structure in
    fits_not _ l.at l.structure-index c.loop-structure-test.true (omega (arith, c.ends_at.ensures)) ∙ l.invariant.1

pub loop-structure-preserved : goal.loop-structure-preserved
loop-structure-preserved c =
    let l = c.loop-structure in
    let h : l.at + extent (structure_at c.args.structures.now l.structure-index) ≤ 0x1000 = omega (arith, c.ends_at.ensures) in (
      omega (arith, c.rounded_up-at.ensures),
      rw c.rounded_up-at.ensures (fits_on _ l.at l.structure-index c.loop-structure-test.true h ∙ l.invariant.1),
    )

pub returns : goal.returns
returns c = let l = c.loop-structure in all_fit _ l.at l.structure-index (omega arith) ∙ l.invariant.1
