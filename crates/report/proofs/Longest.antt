-- THEOREM. No listing is longer than the text that is lent for it: 10,927 bytes hold the listing of any input. Assumes nothing.
use Prim.Native.Nat.{ℕ, ◌≤◌}
use mathlib.Core.List.{List, ◌++◌}
use mathlib.Core.Path.{ap}
use native.Mathlib.Omega.{arith}
use lib.ListN.{length, length-append}
use Rattle.lists.proofs.Pointers.{Bytes}
use Rattle.lists.proofs.Maxima.{chain_maximum}
use Rattle.report.specs.declared.section.Section.{Section}
use Rattle.report.specs.declared.section.Section.TheVariants.{Compatible, Extended}
use Rattle.report.specs.Text.{ascii, line, decimal}
use Rattle.report.specs.Listing.{refused, Part, Part.listed, Part.broken, Says, Says.other, Says.parts}
use Rattle.report.specs.Inner.{kind_of, style, most}
use Rattle.report.proofs.Walked.{style_list}
use Rattle.report.proofs.Writing.{section_length, refused_length}

abbrev pub NoneLonger : Type 0
NoneLonger = (s out : List ℕ) → Bytes s → Says s out → length out ≤ 10927

part_length : (section : Section) {s out : List ℕ} → Bytes s → Part (style section) s out → length out ≤ most section
part_length section {s} bytes (listed chain l e) =
    omega (arith, ap length e, section_length section s chain (chain_maximum (kind_of section) s bytes chain (rw (style_list section) l)))
part_length section bytes (broken number place b e) = omega (arith, ap length e, refused_length section number place)

pub none_longer : NoneLonger
unfolding refused decimal
none_longer s out bytes (other n e) = omega (arith, ap length e)
none_longer s out bytes (parts size first second p q e) =
    omega (
      arith,
      ap length e,
      length-append (first ++ second) (line (ascii "end")),
      length-append first second,
      part_length Compatible bytes p,
      part_length Extended bytes q,
    )
