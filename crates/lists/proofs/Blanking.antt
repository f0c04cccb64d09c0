-- THEOREMS. Request 2/13 of document 02: "zeroing its ID and keeping its pointer" loses nothing, whichever structure of a space it is done to and
-- wherever its list goes, unless it leaves a zero word at 100h: the extended list has the chain that it had, or breaks where it broke. For the IDs
-- and versions do not matter: spaces with the same pointers, and no zero word at 100h, have the same chains, and break alike. Assumes nothing.
use Prim.Native.Nat.{ℕ, zero, suc, ◌+◌, ◌-◌, ◌/◌, ◌%◌, ◌≤◌, ◌<◌}
use mathlib.Core.Bool.{Bool, true, false}
use mathlib.Core.List.{List, [], ◌∷◌}
use mathlib.Core.Logic.{◌↔◌}
use mathlib.Core.Path.{◌≡◌, refl, sym, ap, ◌∙◌}
use native.Mathlib.Omega.{arith}
use lib.Dec.{ltb, lit<, lit≤}
use lib.ListN.{length}
use borrow.Author.Tests.{ltb-true, ltb-false}
use Rattle.words.specs.Bytes.{byte, put}
use Rattle.words.specs.Fields.{bits, joined, word}
use Rattle.words.proofs.Laws.{put_there, put_before, put_after}
use Rattle.lists.specs.declared.Kind.TheVariants.{Extended}
use Rattle.lists.specs.Table.{describe, extended_next}
use Rattle.lists.specs.Chain.{HasChain, dropped, follows}
use Rattle.lists.specs.Breaks.{Breaks}
use Rattle.lists.specs.Walks.{WholeSpace}
use Rattle.lists.proofs.Pointers.{Bytes}
use Rattle.lists.proofs.Alike.{alike, breaks_alike}
use Rattle.lists.proofs.FirstWord.{first_some}
use Rattle.lists.proofs.Lost.{lost}

-- two spaces whose extended lists have the same chain, or break in the same way and at the same place
pub record SameList (s t : List ℕ) : Type 0 where
  pub chained : (chain : List ℕ) → HasChain (describe Extended) s chain ↔ HasChain (describe Extended) t chain
  pub broken : (number place : ℕ) → Breaks (describe Extended) s number place ↔ Breaks (describe Extended) t number place

-- the statements
abbrev pub SamePointers : Type 0
SamePointers = (s t : List ℕ) → (word s 0x100 ≡ 0 → ⊥) → (word t 0x100 ≡ 0 → ⊥)
    → ((at : ℕ) → at % 4 ≡ 0 → bits 31 20 (word s at) ≡ bits 31 20 (word t at)) → SameList s t

-- a space of bytes with the ID at an offset zeroed, "ID 15:0"
abbrev pub blanked_at : List ℕ → ℕ → List ℕ
blanked_at s at = put s at (0x00 ∷ 0x00 ∷ [])

abbrev pub BlankingLosesNone : Type 0
BlankingLosesNone = (s : List ℕ) (at : ℕ) → WholeSpace s → Bytes s → at % 4 ≡ 0 → at < 4096 → (word (blanked_at s at) 0x100 ≡ 0 → ⊥)
    → SameList s (blanked_at s at)

-- the list that was lost is one whose first structure was blanked
abbrev pub LostByBlanking : Type 0
LostByBlanking = (s : List ℕ) × WholeSpace s × Bytes s × (bits 15 0 (word s 0x100) ≡ 0x000b) × (blanked_at s 0x100 ≡ lost)

-- ---- pointers

pub same_pointers : SamePointers
unfolding follows extended_next
same_pointers s t n m g =
    let start = first_some s n ∙ sym (first_some t m) in
    record { chained = alike start refl (λ at aligned. ap dropped (g at aligned)); broken = breaks_alike start refl (λ at aligned. ap dropped (g at aligned)) }

-- the pointer of a word is in its last two bytes
pointer_of : (a b c d x y : ℕ) → a < 256 → b < 256 → x < 256 → y < 256 → bits 31 20 (joined a b c d) ≡ bits 31 20 (joined x y c d)
pointer_of a b c d x y ha hb hx hy = omega arith

-- ---- a space with an ID zeroed

zeros : (k : ℕ) → byte (0x00 ∷ 0x00 ∷ []) k ≡ 0
zeros zero = refl
zeros (suc zero) = refl
zeros (suc (suc k)) = refl

module _ (s : List ℕ) (at : ℕ) (aligned : at % 4 ≡ 0) (below : at < 4096) (whole : WholeSpace s) where
  inside : at + 2 ≤ length s
  inside = omega arith

  -- no byte is more than it was
  lowers : (i : ℕ) → byte (blanked_at s at) i ≤ byte s i
  lowers i = go (ltb i at) (ltb i (at + 2)) refl refl
    where
      go : (less within : Bool) → ltb i at ≡ less → ltb i (at + 2) ≡ within → byte (blanked_at s at) i ≤ byte s i
      go true within e f = omega (arith, put_before s at (0x00 ∷ 0x00 ∷ []) inside i (ltb-true i at e))
      go false true e f =
          let low = ltb-false i at e in
          let split : i ≡ at + (i - at) = omega arith in
          let there = ap (byte (blanked_at s at)) split ∙ put_there s at (0x00 ∷ 0x00 ∷ []) inside (i - at) (omega (arith, ltb-true i (at + 2) f)) in
          omega (arith, there ∙ zeros (i - at))
      go false false e f = omega (arith, put_after s at (0x00 ∷ 0x00 ∷ []) inside i (ltb-false i (at + 2) f))

  -- a zero word stays one
  zero_stays : (o : ℕ) → word s o ≡ 0 → word (blanked_at s at) o ≡ 0
  zero_stays o z = omega (arith, z, lowers o, lowers (o + 1), lowers (o + 2), lowers (o + 3))

  -- "keeping its pointer", and that of every other word
  kept : (o i : ℕ) → o % 4 ≡ 0 → 2 ≤ i → i < 4 → byte (blanked_at s at) (o + i) ≡ byte s (o + i)
  kept o i word_there low high = go (ltb o at) refl
    where
      go : (less : Bool) → ltb o at ≡ less → byte (blanked_at s at) (o + i) ≡ byte s (o + i)
      go true e = put_before s at (0x00 ∷ 0x00 ∷ []) inside (o + i) (omega (arith, ltb-true o at e))
      go false e = put_after s at (0x00 ∷ 0x00 ∷ []) inside (o + i) (omega (arith, ltb-false o at e))

  pointer_kept : Bytes s → (o : ℕ) → o % 4 ≡ 0 → bits 31 20 (word s o) ≡ bits 31 20 (word (blanked_at s at) o)
  pointer_kept b o word_there =
      let small : (i : ℕ) → byte (blanked_at s at) i < 256 = λ i. omega (arith, lowers i, b i) in
      rw (kept o 2 word_there (lit≤ tt) (lit≤ tt), kept o 3 word_there (lit≤ tt) (lit≤ tt))
      (pointer_of (byte s o) (byte s (o + 1)) (byte s (o + 2)) (byte s (o + 3)) (byte (blanked_at s at) o) (byte (blanked_at s at) (o + 1))
      (b o) (b (o + 1)) (small o) (small (o + 1)))

pub blanking_loses_none : BlankingLosesNone
blanking_loses_none s at whole b aligned below some =
    same_pointers s (blanked_at s at) (λ z. some (zero_stays s at aligned below whole 0x100 z)) some (pointer_kept s at aligned below whole b)

-- ---- the example

unblanked : List ℕ
unblanked = put lost 0x100 (0x0b ∷ 0x00 ∷ [])

-- what the elements of a list have over a byte
over : List ℕ → ℕ
over [] = 0
over (x ∷ rest) = x / 256 + over rest

none_over : (s : List ℕ) → over s ≡ 0 → Bytes s
unfolding over
none_over [] e at = lit< tt
none_over (x ∷ rest) e zero = omega (arith, e)
none_over (x ∷ rest) e (suc at) = none_over rest (omega (arith, e)) at

pub lost_by_blanking : LostByBlanking
unfolding lost unblanked over
lost_by_blanking = (unblanked, refl, none_over unblanked refl, refl, refl)
