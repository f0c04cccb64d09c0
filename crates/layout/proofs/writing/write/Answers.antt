-- `layout::writing::write` meets its contract: what the checker refuses is refused, and what it accepts is laid. Assumes nothing.
use mathlib.Core.Path.{refl}
use Rattle.layout.specs.Laying.{Writes.written}
use Rattle.layout.proofs.Sound.{given}
use Rattle.layout.proofs.Laid.{may_be_laid, laid_written, accepted_by}
use Rattle.layout.proofs.writing.write.Goals as goal

pub put_headers-requires : goal.put_headers-requires
put_headers-requires c =
    let y = accepted_by c.in_ok-check.ensures in
    may_be_laid _ (given _ y.0) c.if-space-ne-SPACE.false y.1

pub returns : goal.returns
returns c =
    let y = accepted_by c.in_ok-check.ensures in
    written c.if-space-ne-SPACE.false y.0 y.1 refl (rw c.put_headers.ensures (laid_written _ (given _ y.0) c.if-space-ne-SPACE.false y.1))
