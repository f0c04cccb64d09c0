-- `report::section::Section::entries` meets its contract. The loop's invariant: the lines of the offsets passed are written. Assumes nothing.
use mathlib.Core.Path.{◌≡◌}
use Rattle.report.specs.Inner.{Ready}
use Rattle.report.proofs.Writing.{Passed}
use Rattle.report.proofs.section.Section.entries.Given as goal

abbrev pub invariant-loop-at : goal.invariant-loop-at
invariant-loop-at l = record {
  ready : Ready l.self l.space l.offsets l.initial.text;
  passed : Passed l.self l.space l.offsets l.initial.text l.at-index l.text;
  same : l.text.bytes.ghost_name ≡ l.initial.text.bytes.ghost_name;
}
