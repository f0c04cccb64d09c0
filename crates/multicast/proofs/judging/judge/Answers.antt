-- `multicast::judge` meets its contract: each way out is a case of what is said of the address. Assumes nothing.
use Prim.Native.Nat.{ℕ, ◌≤◌, ◌<◌}
use mathlib.Core.Bool.{Bool, true, false}
use mathlib.Core.List.{List}
use mathlib.Core.Path.{◌≡◌, sym, subst, ◌∙◌}
use lib.ListN.{length}
use Rattle.std.specs.Prelude.{Option, Some}
use Rattle.multicast.specs.declared.Record.{Record}
use Rattle.multicast.specs.Inner.{Hits}
use Rattle.multicast.specs.Judging.{port_at, is_bad}
use Rattle.multicast.specs.Records.{are_records}
use Rattle.multicast.proofs.Judgments.{bad_long, bad_place, bad_record, good, judges_bad, judges_no_hit, judges_dropped, judges_leaves}
use Rattle.multicast.proofs.Walks.{record_among}
use Rattle.multicast.proofs.judging.judge.Goals.{then-ports-gt-MOST_PORTS-via-then-ports-gt-MOST_PORTS, then-ports-gt-MOST_PORTS-via-else-ports-gt-MOST_PORTS+then-ports-entering, then-ports-gt-MOST_PORTS-via-else-ports-gt-MOST_PORTS+else-ports-entering+then-not-are_records}
use Rattle.multicast.proofs.judging.judge.Goals as goal

-- past the test of the records, the list is a good one
is_good : (ports : List Record) (entering : ℕ) {said : Bool} → length ports ≤ 32 → entering < length ports → said ≡ are_records ports → said ≡ true
    → is_bad ports entering ≡ false
is_good ports entering few there e passed = good ports entering few there (sym e ∙ passed)

-- past the test of the address, a group is hit
hit : (port : Record) (address group : ℕ) {found : Option ℕ} → found ≡ Some group → Hits port address found → Hits port address (Some group)
hit port address group e h = subst (Hits port address) e h

pub returns-then-ports-gt-MOST_PORTS : goal.returns-then-ports-gt-MOST_PORTS
returns-then-ports-gt-MOST_PORTS c =
    judges_bad _ _ _
    (elim c.then-ports-gt-MOST_PORTS.branch [
      | then-ports-gt-MOST_PORTS-via-then-ports-gt-MOST_PORTS w ↦ bad_long c.args.ports.now c.args.entering w.if-ports-gt-MOST_PORTS.true
      | then-ports-gt-MOST_PORTS-via-else-ports-gt-MOST_PORTS+then-ports-entering w ↦
          bad_place c.args.ports.now c.args.entering w.if-ports-gt-MOST_PORTS.false w.if-ports-entering.true
      | then-ports-gt-MOST_PORTS-via-else-ports-gt-MOST_PORTS+else-ports-entering+then-not-are_records w ↦
          bad_record c.args.ports.now c.args.entering w.if-ports-gt-MOST_PORTS.false w.if-ports-entering.false (sym w.are_records.ensures ∙ w.if-not-are_records.true)
    ])

pub hit_by-requires : goal.hit_by-requires
hit_by-requires c =
    record_among c.args.ports.now c.args.entering (sym c.are_records.ensures ∙ c.if-not-are_records.false) c.if-ports-entering.false

pub returns-in_default : goal.returns-in_default
returns-in_default c =
    judges_no_hit _ _ _ (is_good _ _ c.if-ports-gt-MOST_PORTS.false c.if-ports-entering.false c.are_records.ensures c.if-not-are_records.false)
    (subst (Hits _ _) c.in_default.is c.hit_by.ensures)

pub bit_of-requires : goal.bit_of-requires
bit_of-requires c = (hit (port_at c.args.ports.now c.args.entering) c.args.address c.in-Some.group c.in-Some.is c.hit_by.ensures).2

pub returns-then-bit_of-eq1 : goal.returns-then-bit_of-eq1
returns-then-bit_of-eq1 c =
    let h = hit (port_at c.args.ports.now c.args.entering) c.args.address c.in-Some.group c.in-Some.is c.hit_by.ensures in
    judges_dropped _ _ _ c.in-Some.group
    (is_good _ _ c.if-ports-gt-MOST_PORTS.false c.if-ports-entering.false c.are_records.ensures c.if-not-are_records.false)
    h.0 h.1 (sym c.bit_of.ensures ∙ c.if-bit_of-eq1.true)

pub leaving-ports-requires : goal.leaving-ports-requires
leaving-ports-requires c = (
  c.if-ports-entering.false,
  c.if-ports-gt-MOST_PORTS.false,
  (hit (port_at c.args.ports.now c.args.entering) c.args.address c.in-Some.group c.in-Some.is c.hit_by.ensures).2,
)

pub returns : goal.returns
returns c =
    let h = hit (port_at c.args.ports.now c.args.entering) c.args.address c.in-Some.group c.in-Some.is c.hit_by.ensures in
    judges_leaves _ _ _ c.in-Some.group c.leaving-ports.result
    (is_good _ _ c.if-ports-gt-MOST_PORTS.false c.if-ports-entering.false c.are_records.ensures c.if-not-are_records.false)
    h.0 h.1 (λ b. c.if-bit_of-eq1.false (c.bit_of.ensures ∙ b)) c.leaving-ports.ensures
