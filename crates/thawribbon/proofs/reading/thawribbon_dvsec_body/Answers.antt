-- `thawribbon_dvsec_body` tells the part that is the body, or 0 and 0 where the header is refused. Assumes nothing.
use mathlib.Core.Path.{◌≡◌, subst}
use native.Mathlib.Omega.{arith}
use Rattle.std.specs.Prelude.{Result}
use Rattle.answers.specs.declared.Refusal.{Refusal}
use Rattle.records.specs.declared.DvsecHeader.{DvsecHeader}
use Rattle.records.specs.DvsecRule.{tells_dvsec, dvsec_says}
use Rattle.records.proofs.Told.{found_stands}
use Rattle.thawribbon.proofs.Bodies.{part_found, part_refused}
use Rattle.thawribbon.proofs.reading.thawribbon_dvsec_body.Goals as goal

pub returns-in_default : goal.returns-in_default
returns-in_default c =
    let a = c.args in
    part_refused a.space.now a.at c.in_default.field-0
    (subst (λ (r : Result DvsecHeader Refusal). tells_dvsec r ≡ dvsec_says a.space.now a.at) c.in_default.is c.dvsec.ensures)

-- where a header is found, it stands there
pub overflow_add-result : goal.overflow_add-result
overflow_add-result c = omega (arith, (found_stands c.args.space.now c.args.at c.in-Ok.header c.in-Ok.is c.dvsec.ensures).inside)

pub overflow_sub-result : goal.overflow_sub-result
overflow_sub-result c = omega (arith, (found_stands c.args.space.now c.args.at c.in-Ok.header c.in-Ok.is c.dvsec.ensures).inside)

pub returns : goal.returns
returns c =
    let a = c.args in
    let f = found_stands a.space.now a.at c.in-Ok.header c.in-Ok.is c.dvsec.ensures in
    rw f.stated (part_found a.space.now a.at f.number)
