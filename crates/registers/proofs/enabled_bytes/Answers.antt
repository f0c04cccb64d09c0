-- `registers::enabled_bytes` meets its contract: the four bytes of the mask. Assumes nothing.
use borrow.Author.Rules.{rules}
use mathlib.Core.Path.{◌∙◌}
use Rattle.registers.proofs.Enables.{mask_fits, bytes_apart, mask_apart}
use Rattle.registers.proofs.enabled_bytes.Goals as goal

pub overflow_mul-mask : goal.overflow_mul-mask
overflow_mul-mask c = search (rules, mask_fits)

pub returns : goal.returns
returns c = c.to_le_bytes.ensures ∙ bytes_apart _ (mask_fits _ _ (search rules)) ∙ mask_apart c.args.enables
