-- THEOREM. A planner, the checker, the writer and the walker one after the other, over their promises alone: what the planner proposes the checker accepts, the writer writes into any
-- space of 4,096 bytes, and every walk of that space then lists as given. Assumes nothing.
use Prim.Native.Nat.{ℕ, ◌<◌}
use mathlib.Core.Bool.{false}
use mathlib.Core.List.{List}
use mathlib.Core.Path.{◌≡◌, sym, ap, subst, ◌∙◌}
use native.Mathlib.Omega.{arith}
use lib.ListN.{length, take, drop}
use lib.Seq.{take_at}
use Rattle.std.specs.Prelude.{⊤, Result}
use Rattle.answers.specs.Numbers.{answered}
use Rattle.answers.specs.declared.Refusal.{Refusal}
use Rattle.words.specs.Fields.{word}
use Rattle.lists.specs.declared.Kind.TheVariants.{Extended}
use Rattle.lists.specs.Walks.{Roomy, Lists, Walks, Walked}
use Rattle.layout.specs.declared.Structure.{Structure}
use Rattle.layout.specs.Structures.{identity, version, structure_at, are_bad}
use Rattle.layout.specs.Accepting.{offset_at, Acceptable, Checks, Checks.misdescribed, Checks.unaccepted, Checks.accepted}
use Rattle.layout.specs.Proposing.{Plans, Plans.misdescribed, Plans.roomless, Plans.unplaced, Plans.proposed}
use Rattle.layout.specs.Laying.{next_at, Writes, Writes.misdescribed, Writes.unaccepted, Writes.written}
use Rattle.layout.proofs.Headers.{Fields}
use Rattle.layout.proofs.Listed.{SixteenBits, walked_as_given, headed_as_given}
use Rattle.layout.proofs.Unique.{unlike, blamed}

-- what becomes of a proposal: any answer of the checker; of the writer, with any space; any walk of what it left, and the header at each offset
pub record Becomes (structures : List Structure) (offsets : List ℕ) : Type 0 where
  pub accepted : (r : Result ⊤ Refusal) → Checks structures offsets r → answered r ≡ 0
  pub written : (s : List ℕ) (r : Result ⊤ Refusal) (after : List ℕ) → length s ≡ 4096 → Writes structures offsets s r after → answered r ≡ 0
  pub listed : (s : List ℕ) (r : Result ⊤ Refusal) (after : List ℕ) → length s ≡ 4096 → Writes structures offsets s r after
      → (room : List ℕ) (q : Walked) (left : List ℕ) → Roomy Extended room → Walks Extended after room q left → Lists offsets room q left
  pub headed : (s : List ℕ) (r : Result ⊤ Refusal) (after : List ℕ) → length s ≡ 4096 → Writes structures offsets s r after → (k : ℕ) → k < length offsets
      → Fields (word after (offset_at offsets k)) (identity (structure_at structures k)) (version (structure_at structures k)) (next_at offsets k)

-- the statement. The proposal is what stands at the front of the room
abbrev pub PlannedIsListed : Type 0
PlannedIsListed =
    (structures : List Structure) (room : List ℕ) (r : Result ⊤ Refusal) (after : List ℕ) → SixteenBits structures → Plans structures room r after
    → answered r ≡ 0 → Becomes structures (take (length structures) after)

module _ {structures : List Structure} {offsets : List ℕ} (wide : SixteenBits structures) (good : are_bad structures ≡ false)
    (fine : Acceptable structures offsets) where
  checks : (r : Result ⊤ Refusal) → Checks structures offsets r → answered r ≡ 0
  checks r (misdescribed bad e) = absurd (unlike bad good)
  checks r (unaccepted x n e) = absurd (n fine)
  checks r (accepted x a e) = e

  writes : (s : List ℕ) (r : Result ⊤ Refusal) (after : List ℕ) → length s ≡ 4096 → Writes structures offsets s r after → answered r ≡ 0
  writes s r after whole (misdescribed cause e) = absurd (blamed structures s cause whole good)
  writes s r after whole (unaccepted h x n e) = absurd (n fine)
  writes s r after whole (written h x a e w) = e

  becomes : Becomes structures offsets
  becomes =
      record {
        accepted = checks;
        written = writes;
        listed = λ s r after whole x. walked_as_given structures offsets s r after wide x (writes s r after whole x);
        headed = λ s r after whole x. headed_as_given structures offsets s r after wide x (writes s r after whole x);
      }

pub planned_is_listed : PlannedIsListed
planned_is_listed structures room r after wide (misdescribed bad a) z = absurd (omega (arith, a.given))
planned_is_listed structures room r after wide (roomless good h a) z = absurd (omega (arith, a.given))
planned_is_listed structures room r after wide (unplaced good h none a) z = absurd (omega (arith, a.given))
planned_is_listed structures room r after wide (proposed good h offsets low e f) z =
    subst (Becomes structures) (sym front) (becomes wide good low.acceptable)
  where
    front : take (length structures) after ≡ offsets
    front = ap (take (length structures)) f ∙ take_at offsets (drop (length offsets) room) (length structures) low.acceptable.each
