-- the start of `lists::table::Trusted` meets its contract: the low twelve bits of the word. Assumes nothing.
use Prim.Native.Nat.{ℕ}
use mathlib.Core.List.{List}
use mathlib.Core.Path.{◌≡◌, ◌∙◌}
use native.Mathlib.Omega.{arith}
use lib.Bits.{bit_and, and_mask, mask_lt}
use Rattle.words.specs.Fields.{word_or_zero}
use Rattle.words.proofs.Laws.{word_inside}
use Rattle.lists.specs.Table.{trusted_start}
use Rattle.lists.specs.Walks.{WholeSpace}
use Rattle.lists.specs.Inner.{Raw}
use Rattle.lists.proofs.table.TrustedList.start.Goals as goal

starts : (s : List ℕ) (n : ℕ) → WholeSpace s → n ≡ word_or_zero s 0x004 → Raw (trusted_start s) (bit_and n 0xfff)
unfolding trusted_start
starts s n size e = record { is = and_mask n 12 ∙ omega (arith, e ∙ word_inside s 0x004 (omega arith)); small = mask_lt n 12 }

pub returns : goal.returns
returns c = starts c.args.space.now c.word.result c.told-space c.word.ensures
