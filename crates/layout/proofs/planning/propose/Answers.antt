-- `layout::planning::propose` meets its contract. The loop's invariant: so many offsets are in place, those that are left are packed from where it is, and they fit. Assumes nothing.
use mathlib.Core.Path.{◌∙◌}
use native.Mathlib.Omega.{arith}
use Rattle.layout.proofs.Steps.{fits_on, fitting, packed_here, packed_on, packed_length, proposed_next, proposed_all}
use Rattle.layout.proofs.planning.propose.Goals as goal

pub overflow_cast-room : goal.overflow_cast-room
overflow_cast-room c = let l = c.loop-place in omega (arith, fitting _ l.at l.place c.loop-place-test.true l.invariant.1)

pub overflow_add-at : goal.overflow_add-at
overflow_add-at c = let l = c.loop-place in omega (arith, c.rounded_up-at.ensures, fitting _ l.at l.place c.loop-place-test.true l.invariant.1)

pub loop-place-preserved : goal.loop-place-preserved
loop-place-preserved c =
    let a = c.args in
    let l = c.loop-place in
    let here = c.loop-place-test.true in
    let same = packed_length 0x100 a.structures.now in
    let h = fitting a.structures.now l.at l.place here l.invariant.1 in
    let top = c.rounded_up-at.ensures in (
      l.invariant.0,
      rw top (fits_on _ l.at l.place here h ∙ l.invariant.1),
      rw top (packed_on _ l.at l.place _ same here l.invariant.2),
      proposed_next a.room.now l.room _ l.place l.invariant.3 (packed_here _ l.at l.place _ same here l.invariant.2) (omega arith) (omega arith),
    )

pub returns : goal.returns
returns c = let l = c.loop-place in proposed_all c.args.room.now l.room _ l.place l.invariant.3 (omega arith) (packed_length 0x100 _)
