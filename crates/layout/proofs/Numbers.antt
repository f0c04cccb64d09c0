-- THEOREMS. What the number of each entry says, both ways: each is given exactly if its cause is there and that of none before it, and no other number is given. A refusal
-- leaves the room, or the space, as it was lent. Assumes nothing.
use Prim.Native.Nat.{ℕ, ◌≤◌, ◌<◌}
use mathlib.Core.Bool.{true, false}
use mathlib.Core.List.{List, [], ◌∷◌, Memᴰ}
use mathlib.Core.Logic.{◌↔◌, ◌⊎◌, ⊎_elim}
use mathlib.Core.Logic.◌⊎◌.{inl, inr}
use mathlib.Core.Path.{◌≡◌, sym, ◌∙◌}
use native.Mathlib.Omega.{arith}
use lib.ListN.{length}
use Rattle.std.specs.Prelude.{⊤, Result}
use Rattle.answers.specs.Numbers.{answered}
use Rattle.answers.specs.declared.Refusal.{Refusal}
use Rattle.layout.specs.declared.Structure.{Structure}
use Rattle.layout.specs.Structures.{are_bad}
use Rattle.layout.specs.Accepting.{Acceptable, Checks, Checks.misdescribed, Checks.unaccepted, Checks.accepted}
use Rattle.layout.specs.Proposing.{NoneAcceptable, needed, Plans, Plans.misdescribed, Plans.roomless, Plans.unplaced, Plans.proposed}
use Rattle.layout.specs.Laying.{Writes, Writes.misdescribed, Writes.unaccepted, Writes.written}
use Rattle.layout.proofs.Packing.{none_exactly, some_exactly}
use Rattle.layout.proofs.Sound.{OneFaulty, bad_exactly}
use Rattle.layout.proofs.Unique.{unlike}

-- "Bad counts, versions or lengths: 1", and an ID 0000h: none or more than 960 structures, or a faulty one
abbrev pub Misdescribed : List Structure → Type 0
Misdescribed structures = (length structures ≡ 0) ⊎ ((960 < length structures) ⊎ OneFaulty structures)

abbrev pub Described : List Structure → Type 0
Described structures = Misdescribed structures → ⊥

-- the statements. Of `check`
pub record CheckSays (structures : List Structure) (offsets : List ℕ) (n : ℕ) : Type 0 where
  pub one : (n ≡ 1) ↔ Misdescribed structures
  pub eighteen : (n ≡ 18) ↔ (Described structures × (Acceptable structures offsets → ⊥))
  pub zero : (n ≡ 0) ↔ (Described structures × Acceptable structures offsets)
  pub only : Memᴰ n (0 ∷ 1 ∷ 18 ∷ [])

abbrev pub CheckNumber : Type 0
CheckNumber = (structures : List Structure) (offsets : List ℕ) (r : Result ⊤ Refusal) → Checks structures offsets r → CheckSays structures offsets (answered r)

-- of `plan`: 14 "exactly if no such proposal exists", and by the arithmetic of the request
pub record PlanSays (structures : List Structure) (room : List ℕ) (n : ℕ) : Type 0 where
  pub one : (n ≡ 1) ↔ Misdescribed structures
  pub two : (n ≡ 2) ↔ (Described structures × (length room < length structures))
  pub fourteen : (n ≡ 14) ↔ (Described structures × (length structures ≤ length room) × NoneAcceptable structures)
  pub exceeds : (n ≡ 14) ↔ (Described structures × (length structures ≤ length room) × (3840 < needed structures))
  pub zero : (n ≡ 0) ↔ (Described structures × (length structures ≤ length room) × (needed structures ≤ 3840))
  pub only : Memᴰ n (0 ∷ 1 ∷ 2 ∷ 14 ∷ [])

abbrev pub PlanNumber : Type 0
PlanNumber =
    (structures : List Structure) (room : List ℕ) (r : Result ⊤ Refusal) (after : List ℕ) → Plans structures room r after
    → PlanSays structures room (answered r)

abbrev pub PlanRefusalKeeps : Type 0
PlanRefusalKeeps =
    (structures : List Structure) (room : List ℕ) (r : Result ⊤ Refusal) (after : List ℕ) → Plans structures room r after → (answered r ≡ 0 → ⊥)
    → after ≡ room

-- of `write`
pub record WriteSays (structures : List Structure) (offsets s : List ℕ) (n : ℕ) : Type 0 where
  pub one : (n ≡ 1) ↔ ((length s ≡ 4096 → ⊥) ⊎ Misdescribed structures)
  pub eighteen : (n ≡ 18) ↔ ((length s ≡ 4096) × Described structures × (Acceptable structures offsets → ⊥))
  pub zero : (n ≡ 0) ↔ ((length s ≡ 4096) × Described structures × Acceptable structures offsets)
  pub only : Memᴰ n (0 ∷ 1 ∷ 18 ∷ [])

abbrev pub WriteNumber : Type 0
WriteNumber =
    (structures : List Structure) (offsets s : List ℕ) (r : Result ⊤ Refusal) (after : List ℕ) → Writes structures offsets s r after
    → WriteSays structures offsets s (answered r)

abbrev pub WriteRefusalKeeps : Type 0
WriteRefusalKeeps =
    (structures : List Structure) (offsets s : List ℕ) (r : Result ⊤ Refusal) (after : List ℕ) → Writes structures offsets s r after
    → (answered r ≡ 0 → ⊥) → after ≡ s

-- ---- bad or not

module _ {structures : List Structure} where
  misdescribed_by : are_bad structures ≡ true → Misdescribed structures
  misdescribed_by = (bad_exactly structures).0

  described_by : are_bad structures ≡ false → Described structures
  described_by good cause = unlike ((bad_exactly structures).1 cause) good

-- a number that it is not
other : {n m k : ℕ} {A : Type 0} → n ≡ m → n ≡ k → (m ≡ k → ⊥) → A
other e f n = absurd (n (sym e ∙ f))

pub check_number : CheckNumber
check_number structures offsets r (misdescribed bad e) =
    let cause = misdescribed_by bad in
    record {
      one = ((λ f. cause), (λ x. e));
      eighteen = ((λ f. other e f (λ z. omega arith)), (λ t. absurd (t.0 cause)));
      zero = ((λ f. other e f (λ z. omega arith)), (λ t. absurd (t.0 cause)));
      only = Memᴰ.tail (Memᴰ.head e);
    }
check_number structures offsets r (unaccepted good n e) =
    let fine = described_by good in
    record {
      one = ((λ f. other e f (λ z. omega arith)), (λ x. absurd (fine x)));
      eighteen = ((λ f. (fine, n)), (λ t. e));
      zero = ((λ f. other e f (λ z. omega arith)), (λ t. absurd (n t.1)));
      only = Memᴰ.tail (Memᴰ.tail (Memᴰ.head e));
    }
check_number structures offsets r (accepted good a e) =
    let fine = described_by good in
    record {
      one = ((λ f. other e f (λ z. omega arith)), (λ x. absurd (fine x)));
      eighteen = ((λ f. other e f (λ z. omega arith)), (λ t. absurd (t.1 a)));
      zero = ((λ f. (fine, a)), (λ t. e));
      only = Memᴰ.head e;
    }

pub plan_number : PlanNumber
plan_number structures room r after (misdescribed bad a) =
    let cause = misdescribed_by bad in
    record {
      one = ((λ f. cause), (λ x. a.given));
      two = ((λ f. other a.given f (λ z. omega arith)), (λ t. absurd (t.0 cause)));
      fourteen = ((λ f. other a.given f (λ z. omega arith)), (λ t. absurd (t.0 cause)));
      exceeds = ((λ f. other a.given f (λ z. omega arith)), (λ t. absurd (t.0 cause)));
      zero = ((λ f. other a.given f (λ z. omega arith)), (λ t. absurd (t.0 cause)));
      only = Memᴰ.tail (Memᴰ.head a.given);
    }
plan_number structures room r after (roomless good h a) =
    let fine = described_by good in
    record {
      one = ((λ f. other a.given f (λ z. omega arith)), (λ x. absurd (fine x)));
      two = ((λ f. (fine, h)), (λ t. a.given));
      fourteen = ((λ f. other a.given f (λ z. omega arith)), (λ t. absurd (omega (arith, t.1))));
      exceeds = ((λ f. other a.given f (λ z. omega arith)), (λ t. absurd (omega (arith, t.1))));
      zero = ((λ f. other a.given f (λ z. omega arith)), (λ t. absurd (omega (arith, t.1))));
      only = Memᴰ.tail (Memᴰ.tail (Memᴰ.head a.given));
    }
plan_number structures room r after (unplaced good h none a) =
    let fine = described_by good in
    let much = (none_exactly structures good).0 none in
    record {
      one = ((λ f. other a.given f (λ z. omega arith)), (λ x. absurd (fine x)));
      two = ((λ f. other a.given f (λ z. omega arith)), (λ t. absurd (omega (arith, t.1))));
      fourteen = ((λ f. (fine, h, none)), (λ t. a.given));
      exceeds = ((λ f. (fine, h, much)), (λ t. a.given));
      zero = ((λ f. other a.given f (λ z. omega arith)), (λ t. absurd (omega (arith, much, t.2))));
      only = Memᴰ.tail (Memᴰ.tail (Memᴰ.tail (Memᴰ.head a.given)));
    }
plan_number structures room r after (proposed good h offsets low e f) =
    let fine = described_by good in
    let few = (some_exactly structures good).0 (offsets, low.acceptable) in
    record {
      one = ((λ g. other e g (λ z. omega arith)), (λ x. absurd (fine x)));
      two = ((λ g. other e g (λ z. omega arith)), (λ t. absurd (omega (arith, t.1))));
      fourteen = ((λ g. other e g (λ z. omega arith)), (λ t. absurd (t.2 offsets low.acceptable)));
      exceeds = ((λ g. other e g (λ z. omega arith)), (λ t. absurd (omega (arith, few, t.2))));
      zero = ((λ g. (fine, h, few)), (λ t. e));
      only = Memᴰ.head e;
    }

pub plan_refusal_keeps : PlanRefusalKeeps
plan_refusal_keeps structures room r after (misdescribed bad a) n = a.kept
plan_refusal_keeps structures room r after (roomless good h a) n = a.kept
plan_refusal_keeps structures room r after (unplaced good h none a) n = a.kept
plan_refusal_keeps structures room r after (proposed good h offsets low e f) n = absurd (n e)

pub write_number : WriteNumber
write_number structures offsets s r after (misdescribed cause a) =
    let blame = ⊎_elim inl (λ bad. inr (misdescribed_by bad)) cause in
    record {
      one = ((λ f. blame), (λ x. a.given));
      eighteen = ((λ f. other a.given f (λ z. omega arith)), (λ t. absurd (⊎_elim (λ n. n t.0) t.1 blame)));
      zero = ((λ f. other a.given f (λ z. omega arith)), (λ t. absurd (⊎_elim (λ n. n t.0) t.1 blame)));
      only = Memᴰ.tail (Memᴰ.head a.given);
    }
write_number structures offsets s r after (unaccepted whole good n a) =
    let fine = described_by good in
    record {
      one = ((λ f. other a.given f (λ z. omega arith)), (λ x. absurd (⊎_elim (λ m. m whole) fine x)));
      eighteen = ((λ f. (whole, fine, n)), (λ t. a.given));
      zero = ((λ f. other a.given f (λ z. omega arith)), (λ t. absurd (n t.2)));
      only = Memᴰ.tail (Memᴰ.tail (Memᴰ.head a.given));
    }
write_number structures offsets s r after (written whole good a e w) =
    let fine = described_by good in
    record {
      one = ((λ f. other e f (λ z. omega arith)), (λ x. absurd (⊎_elim (λ m. m whole) fine x)));
      eighteen = ((λ f. other e f (λ z. omega arith)), (λ t. absurd (t.2 a)));
      zero = ((λ f. (whole, fine, a)), (λ t. e));
      only = Memᴰ.head e;
    }

pub write_refusal_keeps : WriteRefusalKeeps
write_refusal_keeps structures offsets s r after (misdescribed cause a) n = a.kept
write_refusal_keeps structures offsets s r after (unaccepted whole good x a) n = a.kept
write_refusal_keeps structures offsets s r after (written whole good a e w) n = absurd (n e)
