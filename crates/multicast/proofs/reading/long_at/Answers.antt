-- `multicast::reading::long_at` meets its contract: eight bytes that lie in the space are joined. Assumes nothing.
use mathlib.Core.Path.{◌∙◌}
use native.Mathlib.Omega.{arith}
use Rattle.words.proofs.Laws.{four_inside}
use Rattle.multicast.proofs.Stands.{long_stands}
use Rattle.multicast.proofs.reading.long_at.Goals as goal

pub returns : goal.returns
returns c =
    long_stands c.args.space.now c.args.at (c.four.ensures ∙ four_inside _ _ (omega arith)) (c.four-2.ensures ∙ four_inside _ _ (omega arith)) c.from_le_bytes.ensures
