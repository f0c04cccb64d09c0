-- `multicast::groups::hit_by` meets its contract: the shift loses no bit of a group that is hit. Assumes nothing.
use mathlib.Core.Path.{refl}
use native.Mathlib.Omega.{arith}
use borrow.Author.Tests.{ne_eqb, le-leb}
use Rattle.multicast.specs.Capability.{num_group, enable, base}
use Rattle.multicast.specs.Judging.{group_of, is_hit}
use Rattle.multicast.proofs.Facts.{record_fields}
use Rattle.multicast.proofs.groups.hit_by.Goals as goal

pub overflow_shr-group : goal.overflow_shr-group
overflow_shr-group c = omega (arith, (record_fields _ c.requires).most)

pub overflow_cast-result : goal.overflow_cast-result
overflow_cast-result c =
    let f = record_fields _ c.requires in
    omega (arith, f.maximum, f.groups, c.if-port-group.false)

pub returns : goal.returns
unfolding is_hit
returns c =
    let port = c.args.port.now in
    let f = record_fields _ c.requires in
    (rw (ne_eqb (enable port) 0 c.if-port-eq0.false, le-leb (base port) c.args.address c.if-address-port.false, le-leb (group_of port c.args.address) (num_group port) c.if-port-group.false), refl, omega (arith, f.maximum, f.groups, c.if-port-group.false))
