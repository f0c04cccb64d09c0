-- EXAMPLE for request 2/13 of document 02, a list that was lost and is whole now: P11's record at 140h behind a capability that is blanked at 100h,
-- another one that is blanked at 180h, and a header at 1C0h. It is samples/blanked.space. Assumes nothing.
use Prim.Native.Nat.{ℕ}
use mathlib.Core.List.{List, [], ◌∷◌}
use mathlib.Core.Path.{refl}
use lib.Dec.{lit≤}
use lib.ListN.{replicate}
use borrow.Author.Tests.{eqb-false}
use Rattle.words.specs.Bytes.{put}
use Rattle.words.specs.Fields.{word}
use Rattle.lists.specs.declared.Kind.TheVariants.{Extended}
use Rattle.lists.specs.Table.{describe, extended_start, extended_next}
use Rattle.lists.specs.Chain.{Legal.ends, Legal.goes, HasChain, first, follows}
use Rattle.lists.proofs.Blanked.{uncorrected, Blanked, nothing_there}

unfoldable pub lost : List ℕ
lost =
    put
    (put
    (put (put (replicate 4096 0) 0x100 (0x00 ∷ 0x00 ∷ 0x01 ∷ 0x14 ∷ [])) 0x140
    (0x23 ∷ 0x00 ∷ 0x01 ∷ 0x18 ∷ 0xc0 ∷ 0x1e ∷ 0x00 ∷ 0x01 ∷ 0x02 ∷ 0x00 ∷ []))
    0x180 (0x00 ∷ 0x00 ∷ 0x01 ∷ 0x1c ∷ []))
    0x1c0 (0x0d ∷ 0x00 ∷ 0x01 ∷ 0x00 ∷ [])

abbrev pub LostAndWhole : Type 0
LostAndWhole = Blanked lost × HasChain uncorrected lost [] × HasChain (describe Extended) lost (0x100 ∷ 0x140 ∷ 0x180 ∷ 0x1c0 ∷ [])

lost_blanked : Blanked lost
unfolding lost
lost_blanked = record { no_id = refl; another = eqb-false (word lost 0x100) 0 refl }

pub whole_now : HasChain (describe Extended) lost (0x100 ∷ 0x140 ∷ 0x180 ∷ 0x1c0 ∷ [])
unfolding lost first follows extended_start extended_next
whole_now =
    goes (eqb-false 0x100 0 refl) (lit≤ tt)
    (goes (eqb-false 0x140 0 refl) (lit≤ tt)
    (goes (eqb-false 0x180 0 refl) (lit≤ tt) (goes (eqb-false 0x1c0 0 refl) (lit≤ tt) (ends refl refl) refl) refl) refl) refl

pub lost_and_whole : LostAndWhole
lost_and_whole = (lost_blanked, nothing_there lost lost_blanked, whole_now)
