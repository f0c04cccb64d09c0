-- `report::text::Text::refused_at` meets its contract: the number, the three digits of the place and the end of the line, one after the other.
-- Assumes nothing.
use mathlib.Core.Path.{refl}
use native.Mathlib.Omega.{arith}
use Rattle.report.specs.Text.{ascii}
use Rattle.report.proofs.Adding.{added_length}
use Rattle.report.proofs.Lines.{hex_three}
use Rattle.report.proofs.Writing.{number_length, numbered_at}
use Rattle.report.proofs.text.Text.refused_at.Goals as goal

pub append-requires : goal.append-requires
append-requires c =
    let number = number_length c.number.result (ascii " ") in
    omega (
      arith,
      c.requires,
      number,
      c.numbered.ensures.written.next,
      added_length c.numbered.ensures.written (omega (arith, c.requires, number)),
    )

pub append-requires-2 : goal.append-requires-2
append-requires-2 c =
    let number = number_length c.number.result (ascii " ") in
    let first = added_length c.numbered.ensures.written (omega (arith, c.requires, number)) in
    omega (
      arith,
      c.requires,
      number,
      c.numbered.ensures.written.next,
      first,
      c.append.ensures.written.next,
      added_length c.append.ensures.written (omega (arith, c.requires, number, c.numbered.ensures.written.next, first)),
    )

pub returns-clause-written : goal.returns-clause-written
returns-clause-written c =
    rw (← c.number.ensures) (
    numbered_at c.number.result c.args.fault c.requires c.numbered.ensures.written c.append.ensures.written c.append-2.ensures.written
    (rw (
      hex_three c.args.fault,
      ← c.hex_digit.ensures,
      ← c.hex_digit-2.ensures,
      ← c.hex_digit-3.ensures,
    ) refl)
    )
