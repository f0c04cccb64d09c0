-- THEOREMS. The planner's proposal, each structure at the first multiple of 4 behind the one before: where it ends by 1000h it is acceptable, and every acceptable proposal
-- lies, offset by offset, at or above it; where it does not, none is acceptable. And that is, as the tenth request of document 02 says, "when the lengths before the
-- last, each rounded up to 4, plus the last as it stands exceed 3,840". Rounding the last one too would change no answer. Assumes nothing.
use Prim.Native.Nat.{ℕ, zero, suc, ◌+◌, ◌%◌, ◌≤◌, ◌<◌}
use mathlib.Core.Bool.{Bool, true, false, ◌&&◌, and-true, and-false}
use mathlib.Core.List.{List, [], ◌∷◌}
use mathlib.Core.Logic.{◌↔◌}
use mathlib.Core.Path.{◌≡◌, refl, sym, ap, ◌∙◌}
use native.Mathlib.Omega.{arith}
use borrow.Author.Tests.{leb-true, leb-false, le-leb, lt-leb}
use lib.Dec.{leb}
use lib.ListN.{length}
use Rattle.std.proofs.lemmas.Bool.{and_parts, both_ways}
use Rattle.layout.specs.declared.Structure.{Structure}
use Rattle.layout.specs.Structures.{extent, are_bad}
use Rattle.layout.specs.Accepting.{offset_at, Acceptable}
use Rattle.layout.specs.Proposing.{NoneAcceptable, rounded_up, needed_by, needed, Lowest}
use Rattle.layout.specs.Inner.{fits_from, packed_from}
use Rattle.layout.proofs.Sound.{Given, given, tested}
use Rattle.layout.proofs.Orderly.{Orderly, alone, before, first_of, others_of, sooner, orderly_acceptable, acceptable_orderly}

-- the statements, of structures that are not bad. "Answer 14 [..] is given exactly if no such proposal exists, which is when [..]"
abbrev pub NoneExactly : Type 0
NoneExactly = (structures : List Structure) → are_bad structures ≡ false → NoneAcceptable structures ↔ (3840 < needed structures)

abbrev pub SomeExactly : Type 0
SomeExactly = (structures : List Structure) → are_bad structures ≡ false
    → ((offsets : List ℕ) × Acceptable structures offsets) ↔ (needed structures ≤ 3840)

-- the lengths with the last one rounded up too
abbrev pub all_rounded : List Structure → ℕ
all_rounded [] = 0
all_rounded (structure ∷ structures) = rounded_up (extent structure) + all_rounded structures

-- 3,840 is a multiple of 4, and so are the rounded lengths before the last
abbrev pub LastRoundedToo : Type 0
LastRoundedToo = (structures : List Structure) → (3840 < needed structures) ↔ (3840 < all_rounded structures)

-- nor does it in the checker: where an offset is a multiple of 4, a structure ends by 1000h exactly if it does with its length rounded up
abbrev pub EndRoundedToo : Type 0
EndRoundedToo = (at n : ℕ) → at % 4 ≡ 0 → (at + n ≤ 0x1000) ↔ (at + rounded_up n ≤ 0x1000)

-- lengths that round up to the same, before others, need the same
abbrev pub SameRounded : Type 0
SameRounded =
    (one other behind : Structure) (rest : List Structure) → rounded_up (extent one) ≡ rounded_up (extent other)
    → needed (one ∷ behind ∷ rest) ≡ needed (other ∷ behind ∷ rest)

-- ---- packed offsets are in order

pub packed_orderly : (at : ℕ) (structures : List Structure) → at % 4 ≡ 0 → fits_from at structures ≡ true
    → Orderly at structures (packed_from at structures)
unfolding fits_from packed_from
packed_orderly at [] a e = alone at
packed_orderly at (structure ∷ structures) a e =
    let f = and_parts (leb (at + extent structure) 0x1000) (fits_from (at + rounded_up (extent structure)) structures) e in
    before (record { aligned = a; above = omega arith; inside = leb-true _ _ f.0 })
    (sooner (omega arith) (packed_orderly (at + rounded_up (extent structure)) structures (omega arith) f.1))

-- ---- and the lowest

-- the next multiple of 4 behind a multiple of 4 and a length
behind_rounded : (low at n : ℕ) → low ≤ at → at % 4 ≡ 0 → low + rounded_up n ≤ rounded_up (at + n)
behind_rounded low at n h a = omega arith

pub packed_lowest : (at ended : ℕ) (structures : List Structure) (offsets : List ℕ) → at ≤ rounded_up ended → Orderly ended structures offsets
    → (k : ℕ) → k < length structures → offset_at (packed_from at structures) k ≤ offset_at offsets k
unfolding packed_from
packed_lowest at ended [] offsets h o k small = absurd (omega arith)
packed_lowest at ended (structure ∷ structures) [] h o k small = absurd (omega (arith, o.each))
packed_lowest at ended (structure ∷ structures) (first ∷ offsets) h o zero small =
    omega (arith, h, o.aligned 0 (omega arith), o.above 0 (omega arith))
packed_lowest at ended (structure ∷ structures) (first ∷ offsets) h o (suc k) small =
    let s = first_of o in
    packed_lowest (at + rounded_up (extent structure)) (first + extent structure) structures offsets
    (behind_rounded at first (extent structure) (omega (arith, h, s.aligned, s.above)) s.aligned) (others_of o) k (omega arith)

-- where something is in order, what is packed fits
pub orderly_fits : (at ended : ℕ) (structures : List Structure) (offsets : List ℕ) → at ≤ rounded_up ended → Orderly ended structures offsets
    → fits_from at structures ≡ true
unfolding fits_from
orderly_fits at ended [] offsets h o = refl
orderly_fits at ended (structure ∷ structures) [] h o = absurd (omega (arith, o.each))
orderly_fits at ended (structure ∷ structures) (first ∷ offsets) h o =
    let s = first_of o in
    let low : at ≤ first = omega (arith, h, s.aligned, s.above) in
    rw (le-leb (at + extent structure) 0x1000 (omega (arith, s.inside)))
    (orderly_fits (at + rounded_up (extent structure)) (first + extent structure) structures offsets
    (behind_rounded at first (extent structure) low s.aligned) (others_of o))

-- ---- the planner's two answers

module _ {structures : List Structure} (g : Given structures) where
  packed_first : (structures : List Structure) → 0 < length structures → offset_at (packed_from 0x100 structures) 0 ≡ 0x100
  unfolding packed_from
  packed_first [] h = absurd (omega arith)
  packed_first (structure ∷ structures) h = refl

  pub packed_is_lowest : fits_from 0x100 structures ≡ true → Lowest structures (packed_from 0x100 structures)
  packed_is_lowest e =
      record {
        acceptable = orderly_acceptable g.sound (packed_first structures g.some) (packed_orderly 0x100 structures refl e);
        lowest = λ others a. packed_lowest 0x100 0x100 structures others (omega arith) (acceptable_orderly g.sound a);
      }

  pub acceptable_fits : (offsets : List ℕ) → Acceptable structures offsets → fits_from 0x100 structures ≡ true
  acceptable_fits offsets a = orderly_fits 0x100 0x100 structures offsets (omega arith) (acceptable_orderly g.sound a)

  pub none_fits : fits_from 0x100 structures ≡ false → NoneAcceptable structures
  none_fits e offsets a = both_ways _ e (acceptable_fits offsets a)

-- ---- the arithmetic

-- the end of the last one decides
fits_needed : (at : ℕ) (structure : Structure) (structures : List Structure)
    → fits_from at (structure ∷ structures) ≡ leb (at + needed_by structure structures) 0x1000
unfolding fits_from
fits_needed at structure [] = and-true (leb (at + extent structure) 0x1000)
fits_needed at structure (behind ∷ rest) =
    ap (λ (b : Bool). leb (at + extent structure) 0x1000 && b) (fits_needed (at + rounded_up (extent structure)) behind rest ∙ regroup)
    ∙ last (leb (at + (rounded_up (extent structure) + needed_by behind rest)) 0x1000) refl
  where
    regroup : leb ((at + rounded_up (extent structure)) + needed_by behind rest) 0x1000 ≡ leb (at + (rounded_up (extent structure) + needed_by behind rest)) 0x1000
    regroup =
        let same : (at + rounded_up (extent structure)) + needed_by behind rest ≡ at + (rounded_up (extent structure) + needed_by behind rest) = omega arith in
        ap (λ (n : ℕ). leb n 0x1000) same

    last : (b : Bool) → leb (at + (rounded_up (extent structure) + needed_by behind rest)) 0x1000 ≡ b → (leb (at + extent structure) 0x1000 && b) ≡ b
    last true e = rw (le-leb (at + extent structure) 0x1000 (omega (arith, leb-true (at + (rounded_up (extent structure) + needed_by behind rest)) 0x1000 e)))
    last false e = and-false (leb (at + extent structure) 0x1000)

pub fits_exactly : (structures : List Structure) → 0 < length structures → fits_from 0x100 structures ≡ leb (0x100 + needed structures) 0x1000
fits_exactly [] h = absurd (omega arith)
fits_exactly (structure ∷ structures) h = fits_needed 0x100 structure structures

-- ---- the theorems

pub none_exactly : NoneExactly
none_exactly structures good = (there, back)
  where
    g : Given structures
    g = given structures good

    there : NoneAcceptable structures → 3840 < needed structures
    there none =
        tested (fits_from 0x100 structures) (λ t. absurd (none (packed_from 0x100 structures) (packed_is_lowest g t).acceptable))
        (λ f. omega (arith, leb-false (0x100 + needed structures) 0x1000 (sym (fits_exactly structures g.some) ∙ f)))

    back : 3840 < needed structures → NoneAcceptable structures
    back h = none_fits g (fits_exactly structures g.some ∙ lt-leb (0x100 + needed structures) 0x1000 (omega arith))

pub some_exactly : SomeExactly
some_exactly structures good = (there, back)
  where
    g : Given structures
    g = given structures good

    there : (offsets : List ℕ) × Acceptable structures offsets → needed structures ≤ 3840
    there t = omega (arith, leb-true (0x100 + needed structures) 0x1000 (sym (fits_exactly structures g.some) ∙ acceptable_fits g t.0 t.1))

    back : needed structures ≤ 3840 → (offsets : List ℕ) × Acceptable structures offsets
    back h = (
      packed_from 0x100 structures,
      (packed_is_lowest g (fits_exactly structures g.some ∙ le-leb (0x100 + needed structures) 0x1000 (omega arith))).acceptable,
    )

-- the lengths before the last are multiples of 4 together, and the last is rounded up to one
rounded_last : (structure : Structure) (structures : List Structure)
    → rounded_up (needed_by structure structures) ≡ all_rounded (structure ∷ structures)
rounded_last structure [] = omega arith
rounded_last structure (behind ∷ rest) = omega (arith, rounded_last behind rest)

pub last_rounded_too : LastRoundedToo
last_rounded_too [] = ((λ h. h), (λ h. h))
last_rounded_too (structure ∷ structures) =
    let e = rounded_last structure structures in ((λ h. omega (arith, e)), (λ h. omega (arith, e)))

pub end_rounded_too : EndRoundedToo
end_rounded_too at n a = ((λ h. omega arith), (λ h. omega arith))

pub same_rounded : SameRounded
same_rounded one other behind rest e = ap (λ (n : ℕ). n + needed_by behind rest) e
