-- `registers::merge` meets its contract: the mask of the enables, then four calls, a byte each. Assumes nothing.
use Rattle.registers.specs.Merge.{merged, enabled}
use Rattle.registers.specs.Inner.{enabled_bytes}
use Rattle.registers.proofs.merge.Goals as goal

pub returns : goal.returns
unfolding merged enabled_bytes
returns c =
    let e = c.args.enables in
    let mask = c.enabled_bytes-mask.ensures in
    simp (
      c.write_byte.ensures (enabled 0 e) (rw mask),
      c.write_byte-2.ensures (enabled 1 e) (rw mask),
      c.write_byte-3.ensures (enabled 2 e) (rw mask),
      c.write_byte-4.ensures (enabled 3 e) (rw mask),
    )
