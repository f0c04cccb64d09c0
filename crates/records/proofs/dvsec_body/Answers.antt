-- `records::dvsec_body` meets its contract: the part is empty where the header is refused, and lies in the space where it is found.
-- Assumes nothing.
use mathlib.Core.Path.{◌≡◌, subst}
use native.Mathlib.Omega.{arith}
use Rattle.std.specs.Prelude.{Result}
use Rattle.records.specs.declared.DvsecHeader.{DvsecHeader}
use Rattle.answers.specs.declared.Refusal.{Refusal}
use Rattle.records.specs.DvsecRule.{tells_dvsec, dvsec_says}
use Rattle.records.proofs.Told.{found_stands, body_whole, body_empty}
use Rattle.records.proofs.dvsec_body.Goals as goal

pub returns-in_default : goal.returns-in_default
returns-in_default c =
    let a = c.args in
    body_empty a.space.now a.at a.space.ref_ptr c.in_default.field-0
    (subst (λ (r : Result DvsecHeader Refusal). tells_dvsec r ≡ dvsec_says a.space.now a.at) c.in_default.is c.dvsec.ensures)

-- where a header is found, it stands there
pub overflow_add-start : goal.overflow_add-start
overflow_add-start c = omega (arith, (found_stands c.args.space.now c.args.at c.in-Ok.header c.in-Ok.is c.dvsec.ensures).inside)

pub overflow_add-end : goal.overflow_add-end
overflow_add-end c = omega (arith, (found_stands c.args.space.now c.args.at c.in-Ok.header c.in-Ok.is c.dvsec.ensures).inside)

pub slice_bounds-result-count : goal.slice_bounds-result-count
slice_bounds-result-count c = omega (arith, (found_stands c.args.space.now c.args.at c.in-Ok.header c.in-Ok.is c.dvsec.ensures).inside)

pub slice_bounds-result-start : goal.slice_bounds-result-start
slice_bounds-result-start c = omega (arith, (found_stands c.args.space.now c.args.at c.in-Ok.header c.in-Ok.is c.dvsec.ensures).inside)

pub slice_bounds-result-end-2 : goal.slice_bounds-result-end-2
slice_bounds-result-end-2 c = omega (arith, (found_stands c.args.space.now c.args.at c.in-Ok.header c.in-Ok.is c.dvsec.ensures).inside)

pub returns : goal.returns
returns c =
    let a = c.args in
    let f = found_stands a.space.now a.at c.in-Ok.header c.in-Ok.is c.dvsec.ensures in
    rw f.stated (body_whole a.space.now a.at a.space.ref_ptr f.number)
