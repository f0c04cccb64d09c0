-- `asking::write_request` meets its contract: what the kind and the ranges leave is put down. Assumes nothing.
use mathlib.Core.Bool.{true, false}
use mathlib.Core.Path.{◌≡◌, sym, ◌∙◌}
use native.Mathlib.Omega.{arith}
use Rattle.asking.proofs.Laws.{kinds_served, write_unknown, write_out_of_range, write_put, bytes_of_write, bytes_of_read}
use Rattle.asking.proofs.writing.write_request.Goals as goal

pub returns-in_default : goal.returns-in_default
returns-in_default c =
    let a = c.args in
    write_unknown a.parts a.new a.buffer.now (sym c.type_of.ensures ∙ c.in_default.is)

pub returns-then-is_out_of_range : goal.returns-then-is_out_of_range
returns-then-is_out_of_range c =
    let a = c.args in
    write_out_of_range a.parts a.new a.buffer.now _ (sym c.type_of.ensures ∙ c.in-Some.is) (sym c.is_out_of_range.ensures ∙ c.if-is_out_of_range.true)

pub returns-then-access : goal.returns-then-access
returns-then-access c =
    let a = c.args in
    let known = sym c.type_of.ensures ∙ c.in-Some.is in
    let writes : c.in-Some.access.writes ≡ true = grind (arith, c.if-access.true, kinds_served a.parts.kind _ known) in
    c.put_down.ensures
    ∙ write_put a.parts a.new a.buffer.now _ known _ (sym c.is_out_of_range.ensures ∙ c.if-is_out_of_range.false)
    (bytes_of_write a.parts a.new _ _ _ c.header_of-header.ensures c.with_data.ensures writes)

pub returns-else-access : goal.returns-else-access
returns-else-access c =
    let a = c.args in
    let known = sym c.type_of.ensures ∙ c.in-Some.is in
    let reads : c.in-Some.access.writes ≡ false = grind (arith, c.if-access.false, kinds_served a.parts.kind _ known) in
    c.put_down-else-access.ensures
    ∙ write_put a.parts a.new a.buffer.now _ known _ (sym c.is_out_of_range.ensures ∙ c.if-is_out_of_range.false)
    (bytes_of_read a.parts a.new _ _ c.header_of-header.ensures reads)
