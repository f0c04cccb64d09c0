-- THEOREMS. What the number that a test host is told says: it is the lowest that applies, and no other is given. A refusal leaves the buffer as lent and
-- tells nothing else. Assumes nothing.
use Prim.Native.Nat.{ℕ, zero, suc}
use mathlib.Core.List.{List, [], ◌∷◌, Memᴰ}
use mathlib.Core.Path.{◌≡◌, refl, sym, ap, ◌∙◌, subst}
use lib.ListN.{length}
use Rattle.answers.proofs.Checks.{Lowest, gives_lowest, gives_one_of}
use Rattle.asking.specs.declared.Said.{Said}
use Rattle.asking.specs.declared.Said.TheVariants.{Shown, Done, Unsupported}
use Rattle.asking.specs.declared.Completion.{Completion}
use Rattle.asking.specs.Writing.{write_checks, write_number, shows_written}
use Rattle.asking.specs.Reading.{read_checks, read_number, completion_of}
use Rattle.asking.proofs.Numbers.{positive, rising, refused_shown, read_positive, read_rising}
use Rattle.tester.specs.declared.HostParts.{HostParts}
use Rattle.tester.specs.declared.HostWritten.{HostWritten}
use Rattle.tester.specs.declared.HostHeard.{HostHeard}
use Rattle.tester.specs.Asks.{parts_by, data_by, HostSees, host_shown, HostWrites, told_fields, told_by_said, nothing_heard, heard_by, HostReads}

-- the statements
pub record HostWriteSays (p : HostParts) (buffer : List ℕ) (r : HostWritten) (after : List ℕ) : Type 0 where
  pub lowest : Lowest (write_checks (parts_by p) (length buffer)) r.number
  pub only : Memᴰ r.number (0 ∷ 1 ∷ 2 ∷ [])
  pub keeps : (r.number ≡ 0 → ⊥) → (r.length ≡ 0) × (after ≡ buffer)

abbrev pub HostWriteNumber : Type 0
HostWriteNumber = (p : HostParts) (buffer : List ℕ) (r : HostWritten) (after : List ℕ) → HostWrites p buffer r after → HostWriteSays p buffer r after

pub record HostReadSays (c : List ℕ) (r : HostHeard) : Type 0 where
  pub lowest : Lowest (read_checks c) r.number
  pub only : Memᴰ r.number (0 ∷ 3 ∷ 4 ∷ 5 ∷ 6 ∷ [])
  pub tells_nothing : (r.number ≡ 0 → ⊥) → r ≡ nothing_heard r.number

abbrev pub HostReadNumber : Type 0
HostReadNumber = (c : List ℕ) (r : HostHeard) → HostReads c r → HostReadSays c r

-- ---- the writer

module _ (p : HostParts) (buffer : List ℕ) (r : HostWritten) (after : List ℕ) (e : HostWrites p buffer r after) where
  written_number : r.number ≡ write_number (parts_by p) (length buffer)
  unfolding shows_written
  written_number = ap (λ (x : HostSees). x.result.number) e

  kept : (n : ℕ) → write_number (parts_by p) (length buffer) ≡ n → (n ≡ 0 → ⊥) → (r.length ≡ 0) × (after ≡ buffer)
  kept zero f h = absurd (h refl)
  kept (suc n) f h =
      let s = e ∙ ap host_shown (refused_shown (parts_by p) (data_by p) buffer n f) in
      (ap (λ (x : HostSees). x.result.length) s, ap (λ (x : HostSees). x.buffer) s)

  says : HostWriteSays p buffer r after
  says =
      let cs = write_checks (parts_by p) (length buffer) in
      record {
        lowest = subst (Lowest cs) (sym written_number) (gives_lowest cs (positive (parts_by p) (length buffer)) (rising (parts_by p) (length buffer)));
        only = subst (λ (n : ℕ). Memᴰ n (0 ∷ 1 ∷ 2 ∷ [])) (sym written_number) (gives_one_of cs);
        keeps = λ h. kept _ refl (λ z. h (written_number ∙ z));
      }

pub host_write_number : HostWriteNumber
host_write_number p buffer r after e = says p buffer r after e

-- ---- the reader

said_number : (c : Completion) (said : Said) → (told_by_said c said).number ≡ 0
unfolding told_fields
said_number c (Shown four) = refl
said_number c Done = refl
said_number c Unsupported = refl

heard_number : (n : ℕ) (c : List ℕ) → (heard_by n c).number ≡ n
unfolding nothing_heard
heard_number zero c = said_number (completion_of c) (completion_of c).said
heard_number (suc n) c = refl

nothing_else : (n : ℕ) (c : List ℕ) → (n ≡ 0 → ⊥) → heard_by n c ≡ nothing_heard n
nothing_else zero c h = absurd (h refl)
nothing_else (suc n) c h = refl

pub host_read_number : HostReadNumber
host_read_number c r e =
    let n : r.number ≡ read_number c = ap (λ (x : HostHeard). x.number) e ∙ heard_number (read_number c) c in
    record {
      lowest = subst (Lowest (read_checks c)) (sym n) (gives_lowest (read_checks c) (read_positive c) (read_rising c));
      only = subst (λ (k : ℕ). Memᴰ k (0 ∷ 3 ∷ 4 ∷ 5 ∷ 6 ∷ [])) (sym n) (gives_one_of (read_checks c));
      tells_nothing = λ h. e ∙ nothing_else (read_number c) c (λ z. h (n ∙ z)) ∙ ap nothing_heard (sym n);
    }
