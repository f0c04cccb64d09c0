-- `report::section::Section::write` meets its contract: by what the walk of the list answered. Assumes nothing.
use mathlib.Core.Path.{refl}
use borrow.Author.Rules.{rules}
use Rattle.report.proofs.Walked.{walked_chained, walked_listed, walked_broken}
use Rattle.report.proofs.section.Section.write.Goals as goal

pub listed-requires : goal.listed-requires
listed-requires c =
    walked_chained c.args.self c.args.text.now (search rules) (search rules) c.requires refl c.from.ensures c.walk.ensures c.walk.auto.room
    c.in-Ok.is

pub returns-in-Ok-clause-written : goal.returns-in-Ok-clause-written
returns-in-Ok-clause-written c =
    walked_listed c.args.self c.args.text.now (search rules) (search rules) c.requires refl c.from.ensures c.walk.ensures c.walk.auto.room
    c.in-Ok.is c.listed.ensures.written

pub returns-in-Err-clause-written : goal.returns-in-Err-clause-written
returns-in-Err-clause-written c =
    walked_broken c.args.self c.args.text.now (search rules) (search rules) c.requires refl c.from.ensures c.walk.ensures c.walk.auto.room
    c.in-Err.is c.broken.ensures.written
