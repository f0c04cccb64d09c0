-- THEOREM. For document 01's sample, "P9 and P11 in one otherwise zero space with byte 06h = 10h and byte 34h = 40h", the listing is the
-- document's five lines and nothing else. Assumes nothing.
use Prim.Native.Nat.{ℕ}
use mathlib.Core.List.{List, [], ◌∷◌, ◌++◌}
use mathlib.Core.Logic.{◌↔◌}
use mathlib.Core.Path.{◌≡◌, refl, sym, subst}
use borrow.Author.Tests.{eqb-false}
use lib.Dec.{lit≤}
use lib.ListN.{replicate}
use Rattle.words.specs.Bytes.{put}
use Rattle.lists.specs.Table.{compatible_start, extended_start, compatible_next, extended_next}
use Rattle.lists.specs.Chain.{HasChain, Legal.ends, Legal.goes, first, follows}
use Rattle.report.specs.Text.{ascii, line, digit, decimal}
use Rattle.report.specs.Listing.{compatible, extended, compatible_entry, extended_entry, heading, Part, Part.listed, Says, Says.parts}
use Rattle.report.proofs.Unique.{says_unique}

-- `09 00 0C 00 C0 1E C0 00 02 00 02 03` at 040h, and `23 00 01 00 C0 1E 00 01 02 00` at 100h
pub sample : List ℕ
sample =
    put
    (put (put (put (replicate 4096 0) 0x06 (0x10 ∷ [])) 0x34 (0x40 ∷ [])) 0x040
    (0x09 ∷ 0x00 ∷ 0x0c ∷ 0x00 ∷ 0xc0 ∷ 0x1e ∷ 0xc0 ∷ 0x00 ∷ 0x02 ∷ 0x00 ∷ 0x02 ∷ 0x03 ∷ []))
    0x100 (0x23 ∷ 0x00 ∷ 0x01 ∷ 0x00 ∷ 0xc0 ∷ 0x1e ∷ 0x00 ∷ 0x01 ∷ 0x02 ∷ 0x00 ∷ [])

abbrev pub five_lines : List ℕ
five_lines =
    line (ascii "compatible 1") ++ line (ascii "040 09") ++ line (ascii "extended 1") ++ line (ascii "100 0023 1") ++ line (ascii "end")

abbrev pub SampleListing : Type 0
SampleListing = (out : List ℕ) → Says sample out ↔ (out ≡ five_lines)

compatible_chain : HasChain compatible.list sample (0x040 ∷ [])
unfolding sample first follows compatible_start compatible_next
compatible_chain = goes (eqb-false 0x040 0 refl) (lit≤ tt) (ends refl refl) refl

extended_chain : HasChain extended.list sample (0x100 ∷ [])
unfolding sample first follows extended_start extended_next
extended_chain = goes (eqb-false 0x100 0 refl) (lit≤ tt) (ends refl refl) refl

compatible_part : Part compatible sample (line (ascii "compatible 1") ++ line (ascii "040 09"))
unfolding sample heading decimal digit compatible_entry
compatible_part = listed (0x040 ∷ []) compatible_chain refl

extended_part : Part extended sample (line (ascii "extended 1") ++ line (ascii "100 0023 1"))
unfolding sample heading decimal digit extended_entry
extended_part = listed (0x100 ∷ []) extended_chain refl

says_five : Says sample five_lines
unfolding sample
says_five = parts refl _ _ compatible_part extended_part refl

-- a text that is right for a space is the only one
pub says_exactly : (s text : List ℕ) → Says s text → (out : List ℕ) → Says s out ↔ (out ≡ text)
says_exactly s text right out =
    ((λ says. says_unique s out text says right), (λ e. subst (λ (o : List ℕ). Says s o) (sym e) right))

pub sample_listing : SampleListing
sample_listing = says_exactly sample five_lines says_five
