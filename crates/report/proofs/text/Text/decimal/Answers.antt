-- `report::text::Text::decimal` meets its contract: one, two or three digits. Assumes nothing.
use Rattle.report.proofs.Numerals.{decimal_one, decimal_two, decimal_three}
use Rattle.report.proofs.text.Text.decimal.Goals as goal

pub returns-then-number-lt10-clause-written : goal.returns-then-number-lt10-clause-written
returns-then-number-lt10-clause-written c =
    rw (decimal_one c.args.number c.if-number-lt10.true, ← c.decimal_digit-ones.ensures) c.append.ensures.written

pub returns-then-number-lt100-clause-written : goal.returns-then-number-lt100-clause-written
returns-then-number-lt100-clause-written c =
    rw (
      decimal_two c.args.number c.if-number-lt10.false c.if-number-lt100.true,
      ← c.decimal_digit-tens.ensures,
      ← c.decimal_digit-ones.ensures,
    ) c.append-then-number-lt100.ensures.written

pub returns-else-number-lt100-clause-written : goal.returns-else-number-lt100-clause-written
returns-else-number-lt100-clause-written c =
    rw (
      decimal_three c.args.number c.if-number-lt100.false,
      ← c.decimal_digit.ensures,
      ← c.decimal_digit-tens.ensures,
      ← c.decimal_digit-ones.ensures,
    ) c.append-else-number-lt100.ensures.written
