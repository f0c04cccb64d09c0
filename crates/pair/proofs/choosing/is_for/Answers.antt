-- `is_for` tells whom a packet is for: one with a fault is for nobody. Assumes nothing.
use mathlib.Core.Path.{sym}
use Rattle.pair.proofs.Laws.{for_refused}
use Rattle.pair.proofs.choosing.is_for.Goals as goal

pub returns-in-Err : goal.returns-in-Err
returns-in-Err c = sym (for_refused c.args.edition c.args.number c.args.packet.now c.in-Err.field-0 c.in-Err.ensures)
