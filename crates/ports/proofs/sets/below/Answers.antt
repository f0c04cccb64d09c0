-- `ports::sets::below` meets its contract: all, none, or a power of two less one. Assumes nothing.
use Rattle.ports.proofs.Laws.{below_none, below_all, below_part, low_bits_few, shifted_positive}
use Rattle.ports.proofs.sets.below.Goals as goal

pub overflow_shl-part : goal.overflow_shl-part
overflow_shl-part c = low_bits_few c.args.end

pub overflow_sub-part : goal.overflow_sub-part
overflow_sub-part c = shifted_positive c.args.end

pub returns-then-word-whole : goal.returns-then-word-whole
returns-then-word-whole c = below_all c.args.end c.args.word c.if-word-whole.true

pub returns-then-whole-word : goal.returns-then-whole-word
returns-then-whole-word c = below_none c.args.end c.args.word c.if-whole-word.true

pub returns : goal.returns
returns c = below_part c.args.end c.args.word c.if-whole-word.false c.if-word-whole.false
