-- `report::section::compatible_entry` meets its contract: each digit is the one that the line has there. Assumes nothing.
use Rattle.report.proofs.Lines.{compatible_line}
use Rattle.report.proofs.section.compatible_entry.Goals as goal

pub returns-clause-written : goal.returns-clause-written
returns-clause-written c =
    let a = c.args in
    rw (
      compatible_line a.space.now a.at,
      ← c.hex_digit.ensures,
      ← c.hex_digit-2.ensures,
      ← c.hex_digit-3.ensures,
      ← c.hex_digit-4.ensures,
      ← c.hex_digit-5.ensures,
    ) c.append.ensures.written
