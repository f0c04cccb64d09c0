-- `layout::writing::put_headers` meets its contract. The loop's invariant: the headers behind those that are left are laid, and the next pointer is to the first of them. Assumes nothing.
use Rattle.std.proofs.Common.{◌≡◌, ap, ◌∙◌, rules, arith}
use Rattle.words.specs.Bytes.{put}
use Rattle.words.proofs.Laws.{puts_is}
use Rattle.layout.proofs.Steps.{none_laid, last_inside, laid_on}
use Rattle.layout.proofs.writing.put_headers.Goals as goal

pub loop-structure-init : goal.loop-structure-init
loop-structure-init c =
    let structures : c.into_iter-structure-iterator.result.a.iter.rest.now ≡ c.args.structures.now = search rules in
    let offsets : c.into_iter-structure-iterator.result.b.iter.rest.now ≡ c.args.offsets.now = search rules in
    rw (structures, offsets) (none_laid c.requires)

pub loop-structure-preserved : goal.loop-structure-preserved
loop-structure-preserved c =
    let l = c.loop-structure in
    let s = c.in-Some.ensures.steps in
    let at = c.in-Some.at.now in
    let inside = last_inside c.requires l.invariant _ _ _ _ s.0 s.1 in
    laid_on c.requires l.invariant _ _ _ _ s.0 s.1
    (puts_is l.space at _ (rw c.from.ensures at c.put.ensures) (rw c.header.ensures (omega (arith, inside, l.invariant.whole))) ∙ ap (put l.space at) c.header.ensures)
