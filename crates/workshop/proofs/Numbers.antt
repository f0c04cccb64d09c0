-- THEOREMS. What a host is told, number by number. Of structures to be planned: 0, 1, 2 or 14, and any but 0 leaves the room as it was lent; where the structures are
-- good and the room has their count, 14 exactly if no proposal is acceptable. Of a layout to be checked: 0, 1 or 18, and 0 exactly if the structures are good and it is
-- acceptable. Of one to be written: 0, 1 or 18, and any but 0 leaves the space as it was lent; 0 says that the structures are good, that it is acceptable, and that its
-- headers are written. Assumes nothing.
use Prim.Native.Nat.{ℕ, ◌≤◌}
use mathlib.Core.Bool.{false, true≢false}
use mathlib.Core.List.{List, [], ◌∷◌, Memᴰ}
use mathlib.Core.Logic.{◌↔◌}
use mathlib.Core.Path.{◌≡◌, sym, ◌∙◌}
use native.Mathlib.Omega.{arith}
use lib.ListN.{length}
use Rattle.std.specs.Prelude.{Result, ⊤}
use Rattle.answers.specs.Numbers.{answered}
use Rattle.answers.specs.declared.Refusal.{Refusal}
use Rattle.layout.specs.declared.Structure.{Structure}
use Rattle.layout.specs.Structures.{are_bad}
use Rattle.layout.specs.Accepting.{Acceptable, Checks, Checks.misdescribed, Checks.unaccepted, Checks.accepted}
use Rattle.layout.specs.Proposing.{NoneAcceptable, Plans, Plans.misdescribed, Plans.roomless, Plans.unplaced, Plans.proposed}
use Rattle.layout.specs.Laying.{Written, Writes, Writes.misdescribed, Writes.unaccepted, Writes.written}
use Rattle.workshop.specs.Lays.{HostPlans, HostChecks, HostWrites}

-- what a number says of structures that were to be planned
pub record PlanTold (structures : List Structure) (room : List ℕ) (r : ℕ) (after : List ℕ) : Type 0 where
  pub number : Memᴰ r (0 ∷ 1 ∷ 2 ∷ 14 ∷ [])
  pub kept : (r ≡ 0 → ⊥) → after ≡ room
  pub none : are_bad structures ≡ false → length structures ≤ length room → (r ≡ 14) ↔ NoneAcceptable structures

-- of a layout that was to be checked
pub record CheckTold (structures : List Structure) (offsets : List ℕ) (r : ℕ) : Type 0 where
  pub number : Memᴰ r (0 ∷ 1 ∷ 18 ∷ [])
  pub accepted : (r ≡ 0) ↔ (are_bad structures ≡ false) × Acceptable structures offsets

-- of a layout that was to be written
pub record WriteTold (structures : List Structure) (offsets s : List ℕ) (r : ℕ) (after : List ℕ) : Type 0 where
  pub number : Memᴰ r (0 ∷ 1 ∷ 18 ∷ [])
  pub kept : (r ≡ 0 → ⊥) → after ≡ s
  pub done : r ≡ 0 → (are_bad structures ≡ false) × Acceptable structures offsets × Written structures offsets s after

-- the statements
abbrev pub HostPlanTold : Type 0
HostPlanTold = (structures : List Structure) (room : List ℕ) (r : ℕ) (after : List ℕ) → HostPlans structures room r after → PlanTold structures room r after

abbrev pub HostCheckTold : Type 0
HostCheckTold = (structures : List Structure) (offsets : List ℕ) (r : ℕ) → HostChecks structures offsets r → CheckTold structures offsets r

abbrev pub HostWriteTold : Type 0
HostWriteTold =
    (structures : List Structure) (offsets s : List ℕ) (r : ℕ) (after : List ℕ) → HostWrites structures offsets s r after
    → WriteTold structures offsets s r after

module _ (structures : List Structure) (room : List ℕ) (r : ℕ) (after : List ℕ) (a : Result ⊤ Refusal) (told : r ≡ answered a) where
  plan_told : Plans structures room a after → PlanTold structures room r after
  plan_told (misdescribed bad refused) =
      record {
        number = Memᴰ.tail (Memᴰ.head (told ∙ refused.given));
        kept = λ n. refused.kept;
        none = λ good fits. absurd (true≢false (sym bad ∙ good));
      }
  plan_told (roomless good small refused) =
      record {
        number = Memᴰ.tail (Memᴰ.tail (Memᴰ.head (told ∙ refused.given)));
        kept = λ n. refused.kept;
        none = λ good fits. absurd (omega (arith, small, fits));
      }
  plan_told (unplaced good fits none refused) =
      record {
        number = Memᴰ.tail (Memᴰ.tail (Memᴰ.tail (Memᴰ.head (told ∙ refused.given))));
        kept = λ n. refused.kept;
        none = λ good fits. (λ e. none, λ n. told ∙ refused.given);
      }
  plan_told (proposed good fits offsets lowest done put) =
      record {
        number = Memᴰ.head (told ∙ done);
        kept = λ n. absurd (n (told ∙ done));
        none = λ good fits. (λ e. absurd (omega (arith, e, told, done)), λ n. absurd (n offsets lowest.acceptable));
      }

module _ (structures : List Structure) (offsets : List ℕ) (r : ℕ) (a : Result ⊤ Refusal) (told : r ≡ answered a) where
  check_told : Checks structures offsets a → CheckTold structures offsets r
  check_told (misdescribed bad given) =
      record {
        number = Memᴰ.tail (Memᴰ.head (told ∙ given));
        accepted = (λ e. absurd (omega (arith, e, told, given)), λ h. absurd (true≢false (sym bad ∙ h.0)));
      }
  check_told (unaccepted good n given) =
      record {
        number = Memᴰ.tail (Memᴰ.tail (Memᴰ.head (told ∙ given)));
        accepted = (λ e. absurd (omega (arith, e, told, given)), λ h. absurd (n h.1));
      }
  check_told (accepted good acceptable given) =
      record { number = Memᴰ.head (told ∙ given); accepted = (λ e. (good, acceptable), λ h. told ∙ given) }

module _ (structures : List Structure) (offsets s : List ℕ) (r : ℕ) (after : List ℕ) (a : Result ⊤ Refusal) (told : r ≡ answered a) where
  write_told : Writes structures offsets s a after → WriteTold structures offsets s r after
  write_told (misdescribed bad refused) =
      record {
        number = Memᴰ.tail (Memᴰ.head (told ∙ refused.given));
        kept = λ n. refused.kept;
        done = λ e. absurd (omega (arith, e, told, refused.given));
      }
  write_told (unaccepted whole good n refused) =
      record {
        number = Memᴰ.tail (Memᴰ.tail (Memᴰ.head (told ∙ refused.given)));
        kept = λ n. refused.kept;
        done = λ e. absurd (omega (arith, e, told, refused.given));
      }
  write_told (written whole good acceptable given headers) =
      record {
        number = Memᴰ.head (told ∙ given);
        kept = λ n. absurd (n (told ∙ given));
        done = λ e. (good, acceptable, headers);
      }

pub host_plan_told : HostPlanTold
host_plan_told structures room r after h = plan_told structures room r after h.answer h.told h.plans

pub host_check_told : HostCheckTold
host_check_told structures offsets r h = check_told structures offsets r h.answer h.told h.checks

pub host_write_told : HostWriteTold
host_write_told structures offsets s r after h = write_told structures offsets s r after h.answer h.told h.writes
