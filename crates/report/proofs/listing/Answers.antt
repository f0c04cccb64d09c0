-- `report::listing` meets its contract: the size of the input decides. Assumes nothing.
use mathlib.Core.Path.{◌≡◌, refl, subst}
use mathlib.Core.List.{List}
use Prim.Native.Nat.{ℕ}
use Rattle.report.specs.Listing.{Says}
use Rattle.report.specs.Inner.{longest, Told}
use Rattle.report.specs.declared.text.Text.{Text}
use Rattle.report.proofs.Printing.{other_told, told_prints}
use Rattle.report.proofs.listing.Goals.{in-Ok, in-Err}
use Rattle.report.proofs.listing.Goals as goal

-- of the space that was lent, and not of another with the same bytes
of_lent : {s t : List ℕ} {text after : Text} → t ≡ s → Told (Says t) longest text after → Told (Says s) longest text after
of_lent {text = text} {after = after} e told = subst (λ (x : List ℕ). Told (Says x) longest text after) e told

pub returns : goal.returns
returns c =
    elim c.match-try_from.branch [
      | in-Ok w ↦ rw w.text-is (told_prints refl (of_lent w.in-Ok.ensures.1.same w.parts.ensures.written))
      | in-Err w ↦ rw w.text-is (told_prints refl (other_told w.in-Err.ensures.1 w.other.ensures.written))
    ]
