-- `registers::write_byte` meets its contract, by the law on rule and marks under a mask. Assumes nothing.
use Prim.Native.Nat.{ℕ}
use mathlib.Core.Path.{ap, ◌∙◌}
use lib.Bits.{bit_and}
use borrow.Author.Rules.{rules}
use Rattle.registers.specs.Merge.{merged_byte}
use Rattle.registers.proofs.Enables.{rule_under_mask}
use Rattle.registers.proofs.write_byte.Goals as goal

pub returns : goal.returns
returns c enable e =
    let a = c.args in
    c.merge_byte.ensures ∙ ap (λ (m : ℕ). merged_byte a.old (bit_and a.rule m) (bit_and a.mark m) a.new) e
    ∙ rule_under_mask a.old a.rule a.mark a.new (search rules) (search rules) (search rules) (search rules) enable
