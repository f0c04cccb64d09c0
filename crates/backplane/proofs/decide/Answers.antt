-- `backplane::decide` meets its contract: `router::decide`'s, told. Assumes nothing.
use Rattle.backplane.proofs.Told.{decides_told}
use Rattle.backplane.proofs.decide.Goals as goal

pub returns : goal.returns
returns c =
    let a = c.args in
    decides_told a.choice a.packet.now a.leaving.now c.decide.result _ _ c.decide.ensures c.into.ensures
