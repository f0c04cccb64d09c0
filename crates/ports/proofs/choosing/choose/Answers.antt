-- `ports::choosing::choose` meets its contract: its turns are the first 33 ports, and that the last survey is the choice is proofs/Noted. Assumes nothing.
use Rattle.std.proofs.Common.{length, ◌∙◌}
use Rattle.std.proofs.lemmas.Iterator.{YieldsList-from_slice, YieldsList-from_take}
use Rattle.std.proofs.lemmas.Iterator.Consumers.{YieldsList-turn, YieldsList-end}
use Rattle.std.proofs.lemmas.List.{length_push}
use Rattle.ports.proofs.Noted.{walked_more, walked_all}
use Rattle.ports.proofs.choosing.choose.Goals as goal

pub loop-port-preserved : goal.loop-port-preserved
loop-port-preserved c =
    let road = YieldsList-from_take 33 (YieldsList-from_slice c.args.ports.now cc) cc in
    let turn = YieldsList-turn road c.loop-port.yielded _ c.loop-port.yielded_by _ _ c.in-Some.port c.in-Some.is c.next.ensures.steps in
    walked_more c.args.ports.now c.args.bus (length c.loop-port.yielded) _ c.in-Some.port.now c.loop-port.survey _ c.loop-port.invariant turn c.note.ensures
    (length_push c.loop-port.yielded c.in-Some.port)

pub returns : goal.returns
returns c =
    let road = YieldsList-from_take 33 (YieldsList-from_slice c.args.ports.now cc) cc in
    let end = YieldsList-end road c.loop-port.yielded _ c.loop-port.yielded_by _ _ c.in-None.is c.next.ensures.steps in
    c.conclude.ensures ∙ walked_all c.args.ports.now c.args.bus (length c.loop-port.yielded) c.loop-port.survey c.loop-port.invariant end.1
