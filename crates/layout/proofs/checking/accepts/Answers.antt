-- `layout::checking::accepts` meets its contract. The loop's invariant: those that are left stand behind what has ended exactly if all are accepted. Assumes nothing.
use Rattle.std.proofs.Common.{◌≡◌, sym, ap, ◌∙◌, length, arith, rules}
use Rattle.layout.specs.Accepting.{offset_at}
use Rattle.layout.proofs.Steps.{refused_count, refused_first, accepted_first, stands_not, stands_on, all_stand}
use Rattle.layout.proofs.checking.accepts.Goals as goal
use Rattle.layout.proofs.checking.accepts.Goals.{then-offsets-structures-via-then-offsets-structures, then-offsets-structures-via-else-offsets-structures+then-ne}

pub returns-then-offsets-structures : goal.returns-then-offsets-structures
returns-then-offsets-structures c =
    elim c.then-offsets-structures.branch [
      | then-offsets-structures-via-then-offsets-structures w ↦ refused_count _ _ w.if-offsets-structures.true
      | then-offsets-structures-via-else-offsets-structures+then-ne w ↦ (let other : offset_at c.args.offsets.now 0 ≡ 0x100 → ⊥ = search rules in refused_first _ _ other)
    ]

pub loop-structure-init : goal.loop-structure-init
loop-structure-init c =
    let first : offset_at c.args.offsets.now 0 ≡ 0x100 = search rules in
    let structures : c.into_iter-structure-iterator.result.a.rest.now ≡ c.args.structures.now = search rules in
    let offsets : c.into_iter-structure-iterator.result.b.rest.now ≡ c.args.offsets.now = search rules in
    rw (structures, offsets, c.from-ended.ensures) (c.if-offsets-structures.false, accepted_first c.args.structures.now c.args.offsets.now first)

pub returns-then-not-may_stand : goal.returns-then-not-may_stand
returns-then-not-may_stand c =
    let l = c.loop-structure in
    let s = c.in-Some.ensures.steps in
    stands_not l.ended s.0 s.1 (sym (rw c.from-at.ensures at c.may_stand.ensures) ∙ c.if-not-may_stand.true) ∙ l.invariant.1

pub loop-structure-preserved : goal.loop-structure-preserved
loop-structure-preserved c =
    let l = c.loop-structure in
    let s = c.in-Some.ensures.steps in
    let on = stands_on l.ended s.0 s.1 (sym (rw c.from-at.ensures at c.may_stand.ensures) ∙ c.if-not-may_stand.false) ∙ l.invariant.1 in
    (omega (arith, l.invariant.0, ap length s.0, ap length s.1), cc)

pub returns : goal.returns
returns c = let l = c.loop-structure in all_stand l.ended _ _ l.invariant.0 (search rules) ∙ l.invariant.1
