-- `ports::choosing::choose`: after so many turns the survey is that of as many ports, and the buses of those are bytes.
use Rattle.std.proofs.Common.{length}
use Rattle.ports.proofs.Noted.{Walked}
use Rattle.ports.proofs.choosing.choose.Given as goal

abbrev pub invariant-loop-port : goal.invariant-loop-port
invariant-loop-port l = Walked l.ports l.bus (length l.yielded) l.survey
