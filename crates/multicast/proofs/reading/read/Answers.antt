-- `multicast::read` meets its contract: each way out gives the number of the first fact that is missing. Assumes nothing.
use Prim.Native.Nat.{ℕ, ◌+◌, ◌≤◌}
use mathlib.Core.Bool.{Bool, true}
use mathlib.Core.List.{List}
use mathlib.Core.Path.{◌≡◌, refl, sym, ap, ◌∙◌}
use native.Mathlib.Omega.{arith}
use borrow.Author.Tests.{eq-eqb, ne_eqb, lt-leb, le-leb}
use lib.Dec.{leb}
use lib.ListN.{length}
use Rattle.answers.specs.declared.Refusal.TheVariants.{BadDescription, OtherStructure, WrongExtent, WrongGroups}
use Rattle.words.specs.Fields.{word, word_or_zero}
use Rattle.words.specs.Places.{placed}
use Rattle.words.proofs.Laws.{Place, placed_true}
use Rattle.records.proofs.Masks.{word_read}
use Rattle.records.proofs.Told.{sized_is}
use Rattle.multicast.specs.declared.Record.{Record}
use Rattle.multicast.specs.Capability.{is_multicast, clashes}
use Rattle.multicast.proofs.Told.{capability_refused, capability_found, capability_number_lem}
use Rattle.multicast.proofs.reading.read.Goals.{then-space-ne-SPACE-via-then-space-ne-SPACE, then-space-ne-SPACE-via-else-space-ne-SPACE+then-not-placed}
use Rattle.multicast.proofs.reading.read.Goals as goal

-- what is known past the test of the place, of a space and an offset
place : {said : Bool} (at : ℕ) → said ≡ placed at 0x100 0xffc → said ≡ true → Place at 0x100 0xffc
place at e there = placed_true at 0x100 0xffc (sym e ∙ there)

-- what the code tests is the word that stands there
tested : (s : List ℕ) (at : ℕ) {w : ℕ} {said : Bool} → length s ≡ 4096 → Place at 0x100 0xffc → w ≡ word_or_zero s at → said ≡ is_multicast w
    → is_multicast (word s at) ≡ said
tested s at size here e says = sym (says ∙ ap is_multicast (word_read s at size here.aligned e))

-- what is known past the test of what is left
has_room : (at : ℕ) → at ≤ 0xfd8 → leb (at + 0x28) 0x1000 ≡ true
has_room at h = le-leb (at + 0x28) 0x1000 (omega arith)

-- what the code tests is the record that stands there
clash : {said : Bool} {fields found : Record} → fields ≡ found → said ≡ clashes fields → clashes found ≡ said
clash e says = sym (says ∙ ap clashes e)

pub returns-then-space-ne-SPACE : goal.returns-then-space-ne-SPACE
returns-then-space-ne-SPACE c =
    capability_refused c.args.space.now c.args.at BadDescription
    (elim c.then-space-ne-SPACE.branch [
      | then-space-ne-SPACE-via-then-space-ne-SPACE w ↦
          capability_number_lem _ _ (sized_is _ (ne_eqb _ 4096 w.if-space-ne-SPACE.true)) refl refl refl refl
      | then-space-ne-SPACE-via-else-space-ne-SPACE+then-not-placed w ↦
          capability_number_lem _ _ (sized_is _ (eq-eqb _ 4096 w.if-space-ne-SPACE.false)) (sym w.placed.ensures ∙ w.if-not-placed.true) refl refl refl
    ])

pub returns-then-not-is_multicast : goal.returns-then-not-is_multicast
returns-then-not-is_multicast c =
    let a = c.args in
    let here = place a.at c.placed.ensures c.if-not-placed.false in
    capability_refused _ _ OtherStructure
    (capability_number_lem _ _ (sized_is _ (eq-eqb _ 4096 c.if-space-ne-SPACE.false)) (sym c.placed.ensures ∙ c.if-not-placed.false)
    (tested a.space.now a.at c.if-space-ne-SPACE.false here c.word.ensures c.is_multicast.ensures ∙ c.if-not-is_multicast.true) refl refl)

pub returns-then-at-gt-LAST : goal.returns-then-at-gt-LAST
returns-then-at-gt-LAST c =
    let a = c.args in
    let here = place a.at c.placed.ensures c.if-not-placed.false in
    capability_refused _ _ WrongExtent
    (capability_number_lem _ _ (sized_is _ (eq-eqb _ 4096 c.if-space-ne-SPACE.false)) (sym c.placed.ensures ∙ c.if-not-placed.false)
    (tested a.space.now a.at c.if-space-ne-SPACE.false here c.word.ensures c.is_multicast.ensures ∙ c.if-not-is_multicast.false)
    (lt-leb (a.at + 0x28) 0x1000 (omega (arith, here.aligned))) refl)

pub record_at-record-requires : goal.record_at-record-requires
record_at-record-requires c = omega arith

pub returns-then-clashes : goal.returns-then-clashes
returns-then-clashes c =
    let a = c.args in
    let here = place a.at c.placed.ensures c.if-not-placed.false in
    capability_refused _ _ WrongGroups
    (capability_number_lem _ _ (sized_is _ (eq-eqb _ 4096 c.if-space-ne-SPACE.false)) (sym c.placed.ensures ∙ c.if-not-placed.false)
    (tested a.space.now a.at c.if-space-ne-SPACE.false here c.word.ensures c.is_multicast.ensures ∙ c.if-not-is_multicast.false)
    (has_room a.at c.if-at-gt-LAST.false) (clash c.record_at-record.ensures c.clashes.ensures ∙ c.if-clashes.true))

pub returns : goal.returns
returns c =
    let a = c.args in
    let here = place a.at c.placed.ensures c.if-not-placed.false in
    rw c.record_at-record.ensures
    (capability_found _ _
    (capability_number_lem _ _ (sized_is _ (eq-eqb _ 4096 c.if-space-ne-SPACE.false)) (sym c.placed.ensures ∙ c.if-not-placed.false)
    (tested a.space.now a.at c.if-space-ne-SPACE.false here c.word.ensures c.is_multicast.ensures ∙ c.if-not-is_multicast.false)
    (has_room a.at c.if-at-gt-LAST.false) (clash c.record_at-record.ensures c.clashes.ensures ∙ c.if-clashes.false)))
