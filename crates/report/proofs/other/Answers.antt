-- `report::other` meets its contract: the name, and that it is refused. Assumes nothing.
use lib.Dec.{lit≤}
use native.Mathlib.Omega.{arith}
use Rattle.report.specs.Text.{ascii}
use Rattle.report.proofs.Writing.{named_refused}
use Rattle.report.proofs.other.Goals as goal

pub returns-clause-written : goal.returns-clause-written
returns-clause-written c =
    named_refused (ascii "input") 1 (lit≤ tt) (omega (arith, c.requires)) c.append.ensures.written c.refused.ensures.written
