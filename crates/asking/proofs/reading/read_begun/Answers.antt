-- `asking::read_begun` meets its contract: its fields are those that `completion_of` lists, and its status says what it says. Assumes nothing.
use mathlib.Core.Bool.{cond}
use mathlib.Core.Path.{◌≡◌, sym, ◌∙◌}
use native.Mathlib.Omega.{arith}
use lib.ListN.{length}
use Rattle.std.proofs.lemmas.Grind.{common_steps}
use Rattle.asking.specs.Reading.{completion_of}
use Rattle.asking.proofs.Laws.{read_said}
use Rattle.asking.proofs.reading.read_begun.Goals as goal

pub returns : goal.returns
unfolding completion_of
returns c =
    let a = c.args in
    let size : length a.bytes.now ≡ cond a.«data» 16 12 = grind (arith, common_steps) in
    let said =
    read_said a.bytes.now a.«data» c.in_ok-said.said c.requires size (sym c.is_misplaced.ensures ∙ c.if-is_misplaced.false)
    (sym c.said_by.ensures ∙ c.in_ok-said.ensures.ok_part) in
    (said.0, rw said.1)
