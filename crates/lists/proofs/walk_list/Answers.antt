-- `lists::walk_list` meets its contract: the space that is walked is the one that was lent. Assumes nothing.
use Rattle.std.proofs.Common.{List, ℕ, subst}
use Rattle.lists.specs.Walks.{Walks}
use Rattle.lists.proofs.walk_list.Goals as goal

pub returns : goal.returns
returns g c =
    subst (λ (s : List ℕ). Walks g.L.List.kind s c.args.room.now c.walk_short.result c.walk_short.new.room) c.in-Ok.ensures.1.same c.walk_short.ensures
