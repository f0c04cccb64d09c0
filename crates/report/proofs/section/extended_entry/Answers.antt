-- `report::section::extended_entry` meets its contract: each digit is the one that the line has there. Assumes nothing.
use mathlib.Core.Path.{◌∙◌}
use native.Mathlib.Omega.{arith}
use Rattle.words.proofs.Laws.{word_inside}
use Rattle.report.proofs.Lines.{extended_line}
use Rattle.report.proofs.section.extended_entry.Goals as goal

pub returns-clause-written : goal.returns-clause-written
returns-clause-written c =
    rw (
      extended_line c.args.space.now c.args.at,
      ← (c.word-header.ensures ∙ word_inside c.args.space.now c.args.at (omega (arith, c.requires))),
      ← c.hex_digit.ensures,
      ← c.hex_digit-2.ensures,
      ← c.hex_digit-3.ensures,
      ← c.hex_digit-4.ensures,
      ← c.hex_digit-5.ensures,
      ← c.hex_digit-6.ensures,
      ← c.hex_digit-7.ensures,
      ← c.hex_digit-8.ensures,
    ) c.append.ensures.written
