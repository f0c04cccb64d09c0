-- THEOREMS. What a host plans it can write: where the planner tells 0, the checker tells 0 of the offsets that are then at the front of the room, and the writer tells
-- 0 for every space of 4,096 bytes. So a host that plans, and writes what was planned, is never told 18. Assumes nothing.
use Prim.Native.Nat.{ℕ}
use mathlib.Core.Bool.{false, true≢false}
use mathlib.Core.List.{List, ◌++◌}
use mathlib.Core.Logic.{⊎_elim}
use mathlib.Core.Path.{◌≡◌, sym, ap, subst, ◌∙◌}
use native.Mathlib.Omega.{arith}
use lib.ListN.{length, take, drop}
use lib.Seq.{take-append_seam}
use Rattle.std.specs.Prelude.{Result, ⊤}
use Rattle.answers.specs.Numbers.{answered}
use Rattle.answers.specs.declared.Refusal.{Refusal}
use Rattle.layout.specs.declared.Structure.{Structure}
use Rattle.layout.specs.Structures.{are_bad}
use Rattle.layout.specs.Accepting.{Acceptable}
use Rattle.layout.specs.Proposing.{Plans, Plans.misdescribed, Plans.roomless, Plans.unplaced, Plans.proposed}
use Rattle.layout.specs.Laying.{Writes, Writes.misdescribed, Writes.unaccepted, Writes.written}
use Rattle.workshop.specs.Lays.{HostPlans, HostChecks, HostWrites}
use Rattle.workshop.proofs.Numbers.{host_check_told}

-- the offsets at the front of a room, one a structure
abbrev pub front_of : List Structure → List ℕ → List ℕ
front_of structures room = take (length structures) room

-- the statements
abbrev pub HostPlannedAccepted : Type 0
HostPlannedAccepted =
    (structures : List Structure) (room after : List ℕ) (r : ℕ) → HostPlans structures room 0 after
    → HostChecks structures (front_of structures after) r → r ≡ 0

abbrev pub HostPlannedWritten : Type 0
HostPlannedWritten =
    (structures : List Structure) (room after s : List ℕ) (r : ℕ) (later : List ℕ) → HostPlans structures room 0 after → length s ≡ 4096
    → HostWrites structures (front_of structures after) s r later → r ≡ 0

-- structures that may be laid out, and offsets that are acceptable for them
abbrev Good : List Structure → List ℕ → Type 0
Good structures offsets = (are_bad structures ≡ false) × Acceptable structures offsets

seam_at : (offsets rest : List ℕ) (n : ℕ) → length offsets ≡ n → take n (offsets ++ rest) ≡ offsets
seam_at offsets rest n e = subst (λ (k : ℕ). take k (offsets ++ rest) ≡ offsets) e (take-append_seam offsets rest)

module _ (structures : List Structure) (room after : List ℕ) where
  at_front : (a : Result ⊤ Refusal) → 0 ≡ answered a → Plans structures room a after → Good structures (front_of structures after)
  at_front a told (misdescribed bad refused) = absurd (omega (arith, told, refused.given))
  at_front a told (roomless good small refused) = absurd (omega (arith, told, refused.given))
  at_front a told (unplaced good fits none refused) = absurd (omega (arith, told, refused.given))
  at_front a told (proposed good fits offsets lowest done put) =
      let front : front_of structures after ≡ offsets = ap (take (length structures)) put ∙ seam_at offsets (drop (length offsets) room) (length structures) lowest.acceptable.each in
      (good, subst (Acceptable structures) (sym front) lowest.acceptable)

  planned_good : HostPlans structures room 0 after → Good structures (front_of structures after)
  planned_good h = at_front h.answer h.told h.plans

good_written : (structures : List Structure) (offsets s : List ℕ) (a : Result ⊤ Refusal) (later : List ℕ) → Good structures offsets → length s ≡ 4096
    → Writes structures offsets s a later → answered a ≡ 0
good_written structures offsets s a later g whole (misdescribed bad refused) = absurd (⊎_elim (λ n. n whole) (λ b. true≢false (sym b ∙ g.0)) bad)
good_written structures offsets s a later g whole (unaccepted w good n refused) = absurd (n g.1)
good_written structures offsets s a later g whole (written w good acceptable given headers) = given

pub host_planned_accepted : HostPlannedAccepted
host_planned_accepted structures room after r p c =
    (host_check_told structures (front_of structures after) r c).accepted.1 (planned_good structures room after p)

pub host_planned_written : HostPlannedWritten
host_planned_written structures room after s r later p whole w =
    w.told ∙ good_written structures (front_of structures after) s w.answer later (planned_good structures room after p) whole w.writes
