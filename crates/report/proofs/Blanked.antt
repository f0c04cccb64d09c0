-- THEOREMS. Request 2/13 of document 02, "Otherwise the structure is listed with ID 0000h": where a space is blanked at 100h and the list has a
-- chain, the first line under the heading says 100h and ID 0000h, and the lines of what is behind it follow; and the listing of a list that was
-- lost, samples/blanked.space, is its seven lines and nothing else. Assumes nothing.
use Prim.Native.Nat.{ℕ}
use mathlib.Core.List.{List, [], ◌∷◌, ◌++◌}
use mathlib.Core.Logic.{◌↔◌}
use mathlib.Core.Path.{◌≡◌, refl, ap, ◌∙◌}
use lib.ListN.{length}
use Rattle.words.specs.Fields.{bits, word}
use Rattle.lists.specs.Table.{compatible_start}
use Rattle.lists.specs.Chain.{HasChain, Legal.ends, first}
use Rattle.lists.proofs.FirstWord.{starts_a_chain}
use Rattle.lists.proofs.Blanked.{Blanked}
use Rattle.lists.proofs.Lost.{lost, whole_now}
use Rattle.report.specs.Text.{ascii, line, digit, hex, decimal}
use Rattle.report.specs.Listing.{compatible, extended, extended_entry, heading, entries, Part, Part.listed, Says, Says.parts}
use Rattle.report.proofs.Unique.{part_unique}
use Rattle.report.proofs.Sample.{says_exactly}

-- the statements. The extended part of a space that is blanked at 100h
abbrev pub ListedAsNull : Type 0
ListedAsNull = (s out chain : List ℕ) → Blanked s → HasChain extended.list s chain → Part extended s out
    → (rest : List ℕ) × (chain ≡ 0x100 ∷ rest)
    × (out
    ≡ heading (ascii "extended") (length chain) ++ (line (ascii "100 0000 " ++ hex 1 (bits 19 16 (word s 0x100))) ++ entries extended s rest))

abbrev pub seven_lines : List ℕ
seven_lines =
    line (ascii "compatible 0") ++ line (ascii "extended 4") ++ line (ascii "100 0000 1") ++ line (ascii "140 0023 1") ++ line (ascii "180 0000 1")
    ++ line (ascii "1C0 000D 1") ++ line (ascii "end")

abbrev pub BlankedListing : Type 0
BlankedListing = (out : List ℕ) → Says lost out ↔ (out ≡ seven_lines)

-- ---- a structure without ID

null_entry : (s : List ℕ) → Blanked s → extended_entry s 0x100 ≡ ascii "100 0000 " ++ hex 1 (bits 19 16 (word s 0x100))
unfolding extended_entry digit
null_entry s b = rw b.no_id

first_line : (s rest : List ℕ) → Blanked s
    → entries extended s (0x100 ∷ rest) ≡ line (ascii "100 0000 " ++ hex 1 (bits 19 16 (word s 0x100))) ++ entries extended s rest
first_line s rest b = ap (λ (x : List ℕ). line x ++ entries extended s rest) (null_entry s b)

pub listed_as_null : ListedAsNull
listed_as_null s out chain b has part =
    let t = (starts_a_chain s b.another chain).0 has in
    let lines = ap (entries extended s) t.2 ∙ first_line s t.0 b in
    (t.0, t.2, part_unique part (listed chain has refl) ∙ ap (λ (x : List ℕ). heading (ascii "extended") (length chain) ++ x) lines)

-- ---- the sample

no_compatible : HasChain compatible.list lost []
unfolding lost first compatible_start
no_compatible = ends refl refl

compatible_part : Part compatible lost (line (ascii "compatible 0"))
unfolding heading decimal digit
compatible_part = listed [] no_compatible refl

extended_part : Part extended lost
    (line (ascii "extended 4") ++ line (ascii "100 0000 1") ++ line (ascii "140 0023 1") ++ line (ascii "180 0000 1") ++ line (ascii "1C0 000D 1"))
unfolding lost heading decimal digit extended_entry
extended_part = listed (0x100 ∷ 0x140 ∷ 0x180 ∷ 0x1c0 ∷ []) whole_now refl

says_seven : Says lost seven_lines
unfolding lost
says_seven = parts refl _ _ compatible_part extended_part refl

pub blanked_listing : BlankedListing
blanked_listing = says_exactly lost seven_lines says_seven
