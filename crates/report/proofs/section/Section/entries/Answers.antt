-- `report::section::Section::entries` meets its contract: a line more for each offset. Assumes nothing.
use mathlib.Core.Path.{◌∙◌}
use native.Mathlib.Omega.{arith}
use Rattle.report.proofs.Writing.{line_fits, line_more, all_written}
use Rattle.report.proofs.section.Section.entries.Goals as goal

pub entry-requires : goal.entry-requires
entry-requires c =
    let l = c.loop-at in
    (l.invariant.ready.inside l.at-index, line_fits l.invariant.ready l.at-index l.text (omega arith) l.invariant.passed)

pub loop-at-preserved : goal.loop-at-preserved
loop-at-preserved c =
    let l = c.loop-at in
    record {
      ready = l.invariant.ready;
      passed = line_more l.invariant.ready l.at-index l.text (omega arith) l.invariant.passed c.entry.ensures.written;
      same = c.entry.ensures.same_reference ∙ l.invariant.same;
    }

pub returns-clause-written : goal.returns-clause-written
returns-clause-written c = let l = c.loop-at in all_written l.invariant.ready l.at-index (omega arith) l.invariant.passed
