-- `lists::walk_long` meets its contract: the chase goes on in a log of the list's maximum, and ends there or is broken. Assumes nothing.
use Rattle.std.proofs.Common.{arith}
use Rattle.std.proofs.lemmas.Grind.{common_steps}
use Rattle.lists.specs.Walks.{Walks.listed}
use Rattle.lists.proofs.Walking.{maximum_bounds, broken_asks, walks_told}
use Rattle.lists.proofs.walk_long.Goals as goal

pub broken-requires : goal.broken-requires
broken-requires g c = broken_asks g.L.List.kind c.args.space.now c.chase.new.log (λ at. omega (arith, c.fits-space at)) c.in-Err.ensures

pub returns-in-Ok : goal.returns-in-Ok
returns-in-Ok g c = listed c.requires.0.space c.requires.1 _ c.in-Ok.ensures.1 c.list.ensures

pub returns-in-Err : goal.returns-in-Err
returns-in-Err g c =
    walks_told g.L.List.kind c.args.space.now c.chase.new.log (λ at. omega (arith, c.fits-space at)) c.in-Err.ensures
    (λ full. grind (arith, common_steps, maximum_bounds g.L.List.kind)) c.requires.1 c.broken.ensures
