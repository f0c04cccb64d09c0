-- `report::section::Section::listed` meets its contract: the name, the count, and a line for each offset. Assumes nothing.
use Rattle.report.proofs.Adding.{added_as}
use Rattle.report.proofs.Writing.{headed, lines_ready, section_listed}
use Rattle.report.proofs.section.Section.listed.Goals as goal

pub entries-requires : goal.entries-requires
entries-requires c =
    lines_ready c.requires (headed c.requires (added_as c.name.ensures c.append.ensures.written) c.numbered.ensures.written)

pub returns-clause-written : goal.returns-clause-written
returns-clause-written c =
    section_listed c.requires (headed c.requires (added_as c.name.ensures c.append.ensures.written) c.numbered.ensures.written)
    c.entries.ensures.written
