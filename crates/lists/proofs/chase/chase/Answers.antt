-- `lists::chase::chase` meets its contract: what the loop keeps stays true. Assumes nothing.
use Rattle.std.proofs.Common.{length-set}
use Rattle.lists.proofs.Following.{chase_goes, waits_on}
use Rattle.lists.proofs.chase.chase.Goals as goal

pub loop-at-preserved : goal.loop-at-preserved
loop-at-preserved g c =
    let l = c.loop-at in (
      chase_goes l.position l.invariant.0 c.in-Next.ensures c.if-count-log.false c.follow-position.ensures,
      simp length-set l.invariant.1,
      waits_on l.position l.invariant.0 c.in-Next.ensures l.invariant.2 c.moved_up-waiting.ensures,
    )
