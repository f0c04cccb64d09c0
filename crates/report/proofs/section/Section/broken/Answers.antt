-- `report::section::Section::broken` meets its contract: the name, and what broke and where. Assumes nothing.
use Rattle.answers.specs.Numbers.{number_of}
use Rattle.report.specs.Inner.{style}
use Rattle.report.proofs.Adding.{added_as}
use Rattle.report.proofs.Lines.{name_length}
use Rattle.report.proofs.Writing.{named_refused_at}
use Rattle.report.proofs.section.Section.broken.Goals as goal

pub returns-clause-written : goal.returns-clause-written
returns-clause-written c =
    named_refused_at (style c.args.self).name (number_of c.args.refused.refusal) (name_length c.args.self) c.args.refused.place c.requires
    (added_as c.name.ensures c.append.ensures.written) c.refused_at.ensures.written
