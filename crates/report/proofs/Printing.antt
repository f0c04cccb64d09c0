-- Laws of a listing as a whole: its parts one after the other, and the text that holds it. Assumes nothing.
use Prim.Native.Nat.{ℕ, ◌+◌, ◌≤◌}
use mathlib.Core.List.{List, ◌++◌}
use mathlib.Core.Path.{◌≡◌, refl, ap, ap₂, ◌∙◌}
use native.Mathlib.Omega.{arith}
use lib.Dec.{lit≤}
use lib.ListN.{length, take, drop, length-append}
use Rattle.lists.specs.Walks.{WholeSpace}
use Rattle.report.specs.declared.text.Text.{Text}
use Rattle.report.specs.declared.section.Section.TheVariants.{Compatible, Extended}
use Rattle.report.specs.Text.{ascii, line, decimal}
use Rattle.report.specs.Listing.{compatible, extended, refused, Part, Says, Says.other, Says.parts}
use Rattle.report.specs.Prints.{Prints}
use Rattle.report.specs.Inner.{longest, most, Added, Told, Fits}
use Rattle.report.proofs.Adding.{added_then}

module _ {s : List ℕ} {text : Text} (space : WholeSpace s) (fits : Fits longest text) where
  pub parts_told : {a b after : Text} → Told (Part compatible s) (most Compatible) text a
      → Told (Part extended s) (most Extended) a b → Added (line (ascii "end")) b after → Told (Says s) longest text after
  parts_told first second last = record {
    bytes = first.bytes ++ second.bytes ++ line (ascii "end");
    known = parts space first.bytes second.bytes first.known second.known refl;
    short = omega (arith, length-append (first.bytes ++ second.bytes) (line (ascii "end")), both, first.short, second.short);
    added = added_then (added_then first.added second.added (omega (arith, fits, first.short, second.short))) (last)
        (omega (arith, fits, both, first.short, second.short));
  }
    where
      both : length (first.bytes ++ second.bytes) ≡ length first.bytes + length second.bytes
      both = length-append first.bytes second.bytes

-- an input of another size
pub other_told : {s : List ℕ} {text after : Text} → (WholeSpace s → ⊥) → Added (refused (ascii "input") 1) text after → Told (Says s) longest text after
unfolding refused decimal
other_told n added = record { bytes = refused (ascii "input") 1; known = other n refl; short = lit≤ tt; added = added }

-- a listing at the start of a text
pub told_prints : {s : List ℕ} {text after : Text} → text.place ≡ 0 → Told (Says s) longest text after
    → Prints s text.bytes.now after.place after.bytes.now
told_prints {text = text} start told =
    let next : text.place + length told.bytes ≡ length told.bytes = omega arith in
    record {
      out = told.bytes;
      says = told.known;
      counted = told.added.next ∙ next;
      written = told.added.left
          ∙ ap₂ (λ (p k : ℕ). take p text.bytes.now ++ told.bytes ++ drop k text.bytes.now) start next;
    }

-- what was written lies in the text, as a caller that reads it needs
pub prints_inside : {s text after : List ℕ} {r : ℕ} → Prints s text r after → r ≤ length after
prints_inside {text = text} p = omega (arith, p.counted, ap length p.written, length-append p.out (drop (length p.out) text))
