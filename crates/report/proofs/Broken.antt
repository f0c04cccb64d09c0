-- THEOREMS. Request 3/13 of document 02, "the program writes 11 or 12 and the place in three hex digits, as `extended 12 100 refused` for P12": of any
-- space and either list, the part of a list that breaks is that one line and nothing else; and P12's listing, samples/self_pointing.space, is its
-- three lines and nothing else. Assumes nothing.
use Prim.Native.Nat.{ℕ}
use mathlib.Core.List.{List, [], ◌∷◌, ◌++◌}
use mathlib.Core.Logic.{◌↔◌}
use mathlib.Core.Path.{◌≡◌, refl, sym, subst}
use lib.Dec.{lit≤}
use lib.ListN.{replicate}
use Rattle.words.specs.Bytes.{put}
use Rattle.lists.specs.Table.{compatible_start, extended_start, extended_next}
use Rattle.lists.specs.Chain.{HasChain, Legal.ends, first, follows}
use Rattle.lists.specs.Breaks.{met, holder, Breaks, Breaks.turns}
use Rattle.lists.proofs.Tested.{reached_by_test}
use Rattle.report.specs.Text.{ascii, line, digit, decimal}
use Rattle.report.specs.Listing.{Style, compatible, extended, heading, refused_at, Part, Part.listed, Part.broken, Says, Says.parts}
use Rattle.report.proofs.Unique.{part_unique}
use Rattle.report.proofs.Sample.{says_exactly}

-- the statements. Of any list
abbrev pub BrokenLine : Type 0
BrokenLine = (style : Style) (s : List ℕ) (number place : ℕ) → Breaks style.list s number place → (out : List ℕ)
    → Part style s out ↔ (out ≡ refused_at style.name number place)

-- of P12: "header `23 00 01 10` at 100h (it points to itself)"
unfoldable pub circle : List ℕ
circle = put (replicate 4096 0) 0x100 (0x23 ∷ 0x00 ∷ 0x01 ∷ 0x10 ∷ [])

abbrev pub three_lines : List ℕ
three_lines = line (ascii "compatible 0") ++ line (ascii "extended 12 100 refused") ++ line (ascii "end")

abbrev pub CircleListing : Type 0
CircleListing = (out : List ℕ) → Says circle out ↔ (out ≡ three_lines)

-- ---- any list that breaks

pub broken_line : BrokenLine
broken_line style s number place b out = (
  (λ part. part_unique part (broken number place b refl)),
  (λ e. subst (λ (o : List ℕ). Part style s o) (sym e) (broken number place b refl)),
)

-- ---- P12

no_compatible : HasChain compatible.list circle []
unfolding circle first compatible_start
no_compatible = ends refl refl

compatible_part : Part compatible circle (line (ascii "compatible 0"))
unfolding heading decimal digit
compatible_part = listed [] no_compatible refl

circle_breaks : Breaks extended.list circle 12 0x100
unfolding circle met holder first follows extended_start extended_next
circle_breaks = turns 1 (reached_by_test extended.list circle 1 refl) (record { earlier = 0; before = lit≤ tt; same = refl }) refl refl

extended_part : Part extended circle (line (ascii "extended 12 100 refused"))
unfolding refused_at decimal digit
extended_part = broken 12 0x100 circle_breaks refl

says_three : Says circle three_lines
unfolding circle
says_three = parts refl _ _ compatible_part extended_part refl

pub circle_listing : CircleListing
circle_listing = says_exactly circle three_lines says_three
