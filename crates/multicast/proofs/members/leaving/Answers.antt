-- `multicast::members::leaving` meets its contract: the members above the place that is entered by, none there, and those below. Assumes nothing.
use Rattle.multicast.proofs.Held.{gathered_all}
use Rattle.multicast.proofs.members.leaving.Goals as goal

pub returns : goal.returns
returns c =
    let p = c.requires in
    gathered_all c.args.ports.now c.args.entering c.args.group p.0 p.1 c.gather-above.result c.gather.result c.gather-above.ensures c.gather.ensures
