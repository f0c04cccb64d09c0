-- `report::text::Text::numbered` meets its contract: three pieces, one after the other. Assumes nothing.
use native.Mathlib.Omega.{arith}
use Rattle.report.proofs.Adding.{added_length, added_then}
use Rattle.report.proofs.Numerals.{decimal_length, figures_most}
use Rattle.report.proofs.text.Text.numbered.Goals as goal

pub append-requires-2 : goal.append-requires-2
append-requires-2 c =
    omega (
      arith,
      c.requires,
      c.append.ensures.written.next,
      added_length c.append.ensures.written (omega (arith, c.requires)),
      c.decimal.ensures.written.next,
      added_length c.decimal.ensures.written
          (omega (
            arith,
            c.requires,
            c.append.ensures.written.next,
            added_length c.append.ensures.written (omega (arith, c.requires)),
            decimal_length c.args.number,
            figures_most c.args.number,
          )),
      decimal_length c.args.number,
      figures_most c.args.number,
    )

pub returns-clause-written : goal.returns-clause-written
returns-clause-written c =
    added_then
    (added_then c.append.ensures.written c.decimal.ensures.written
    (omega (arith, c.requires, decimal_length c.args.number, figures_most c.args.number)))
    c.append-2.ensures.written
    (omega (arith, c.requires, decimal_length c.args.number, figures_most c.args.number))
