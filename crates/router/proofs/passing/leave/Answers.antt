-- `router::passing::leave` meets its contract: the packet over the buffer, and then its first byte. Assumes nothing.
use mathlib.Core.Path.{ap, ◌∙◌}
use lib.Bits.{bit_and}
use lib.ListN.{set}
use native.Mathlib.Omega.{arith}
use Rattle.words.specs.Bytes.{byte}
use Rattle.router.proofs.Laws.{turned_over}
use Rattle.router.proofs.passing.leave.Goals as goal

pub returns-then-turned : goal.returns-then-turned
returns-then-turned c =
    let p = c.args.packet.now in
    let b = c.args.leaving.now in
    rw c.if-turned.true
    (ap (λ l. set l 0 (bit_and (byte p 0) 254)) c.lay.ensures
    ∙ turned_over p b c.requires.faultless (c.requires.type1 c.if-turned.true) (omega (arith, c.type_inv.packet 0)))
