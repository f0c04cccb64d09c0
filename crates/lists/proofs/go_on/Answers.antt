-- `lists::go_on` meets its contract: with a longer log, or the list is broken. Assumes nothing.
use Rattle.std.proofs.Common.{arith}
use Rattle.lists.proofs.Walking.{broken_asks, walks_told}
use Rattle.lists.proofs.go_on.Goals as goal
use Rattle.lists.proofs.go_on.Goals.{else-count-eq-SHORT-via-then-count-eq-SHORT+else-maximum-gt-SHORT, else-count-eq-SHORT-via-else-count-eq-SHORT}

pub broken-requires : goal.broken-requires
broken-requires g c =
    let a = c.args in
    broken_asks g.L.List.kind a.space.now a.short.now (λ at. omega (arith, c.fits-space at)) c.requires.0

pub returns : goal.returns
returns g c =
    let a = c.args in
    walks_told g.L.List.kind a.space.now a.short.now (λ at. omega (arith, c.fits-space at)) c.requires.0
    (λ full. elim c.else-count-eq-SHORT.branch [
      | else-count-eq-SHORT-via-then-count-eq-SHORT+else-maximum-gt-SHORT w ↦ omega arith
      | else-count-eq-SHORT-via-else-count-eq-SHORT w ↦ absurd (w.if-count-eq-SHORT.false (omega arith))
    ])
    c.requires.1 c.broken.ensures
