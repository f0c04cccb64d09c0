-- `report::parts` meets its contract: the two parts and the end, one after the other. Assumes nothing.
use borrow.Author.Rules.{rules}
use Rattle.report.proofs.Printing.{parts_told}
use Rattle.report.proofs.parts.Goals as goal

pub returns-clause-written : goal.returns-clause-written
returns-clause-written c =
    parts_told (search rules) c.requires c.write.ensures.written c.write-2.ensures.written c.append.ensures.written
