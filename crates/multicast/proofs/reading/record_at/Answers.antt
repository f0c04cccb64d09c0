-- `multicast::reading::record_at` meets its contract: the five registers are read where they stand. Assumes nothing.
use mathlib.Core.Path.{◌∙◌}
use native.Mathlib.Omega.{arith}
use Rattle.words.proofs.Laws.{four_inside}
use Rattle.multicast.proofs.Stands.{first_half, second_half, record_stands}
use Rattle.multicast.proofs.reading.record_at.Goals as goal

pub returns : goal.returns
returns c =
    let bytes = c.four.ensures ∙ four_inside _ _ (omega arith) in
    let a = c.args in
    record_stands _ _ c.record_of.ensures (first_half a.space.now a.at bytes c.from_le_bytes.ensures) (second_half a.space.now a.at bytes c.from_le_bytes-2.ensures) c.long_at.ensures c.long_at-2.ensures c.long_at-3.ensures
