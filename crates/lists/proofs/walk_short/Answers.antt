-- `lists::walk_short` meets its contract: by how the first chase ended. Assumes nothing.
use Rattle.lists.specs.Walks.{Walks.listed}
use Rattle.lists.proofs.Following.{underway_start}
use Rattle.lists.proofs.walk_short.Goals as goal

pub chase-requires : goal.chase-requires
chase-requires g c = underway_start c.told-space c.first-start.ensures

pub returns-in-Ok : goal.returns-in-Ok
returns-in-Ok g c = listed c.told-space c.requires _ c.in-Ok.ensures.1 c.list.ensures
