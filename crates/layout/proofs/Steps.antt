-- Laws of the loops over structures and offsets: what is left to look at behind one more, and at the end. Assumes nothing.
use Prim.Native.Nat.{ℕ, suc, ◌+◌, ◌≤◌, ◌<◌}
use mathlib.Core.Bool.{true, false, ◌&&◌, or-false, and-false}
use mathlib.Core.List.{List, [], ◌∷◌, ◌++◌}
use mathlib.Core.Logic.{◌⊎◌}
use mathlib.Core.Logic.◌⊎◌.{inl, inr}
use mathlib.Core.Path.{◌≡◌, refl, sym, ap, ap₂, subst, ◌∙◌}
use native.Mathlib.Nat.{zero-add}
use native.Mathlib.Numerals.{add-one}
use native.Mathlib.Omega.{arith}
use borrow.Author.Tests.{eq-eqb, ne_eqb, le-ltb, le-leb, lt-leb, leb-true}
use lib.Dec.{eqb, leb}
use Rattle.std.proofs.lemmas.List.{append-nil}
use lib.ListN.{length, length-append, set, take, drop}
use lib.Seq.{append_snoc, drop-cons, drop-length, take-length, get_or-append_seam, paste, paste-suc}
use Rattle.words.specs.Bytes.{put}
use Rattle.std.proofs.lemmas.Bool.{and_parts}
use Rattle.words.proofs.Laws.{put_length}
use Rattle.layout.specs.declared.Structure.{Structure}
use Rattle.layout.specs.Structures.{extent, no_structure, structure_at, one_bad, are_bad}
use Rattle.layout.specs.Accepting.{offset_at}
use Rattle.layout.specs.Proposing.{rounded_up}
use Rattle.layout.specs.Laying.{four_of, header_word}
use Rattle.layout.specs.Inner.{may_stand, stand_from, accepts, fits_from, packed_from, laid, MayBeLaid}

-- ---- bad structures

-- 1 to 960 structures are bad where one of them is
pub counted : (structures : List Structure) → (length structures ≡ 0 → ⊥) → length structures ≤ 960 → one_bad structures ≡ are_bad structures
unfolding are_bad
counted structures some few =
    rw (ne_eqb (length structures) 0 some, le-ltb 960 (length structures) few) (sym (or-false (one_bad structures)))

-- ---- offsets where each structure may stand

-- as many offsets as structures, or none stand
pub uneven : (ended : ℕ) (structures : List Structure) (offsets : List ℕ) → (length offsets ≡ length structures → ⊥)
    → stand_from ended structures offsets ≡ false
unfolding stand_from
uneven ended [] [] n = absurd (n refl)
uneven ended [] (at ∷ offsets) n = refl
uneven ended (structure ∷ structures) [] n = refl
uneven ended (structure ∷ structures) (at ∷ offsets) n =
    rw (uneven (at + extent structure) structures offsets (λ e. n (ap suc e))) (and-false (may_stand ended (extent structure) at))

module _ (structures : List Structure) (offsets : List ℕ) where
  pub refused_count : (length offsets ≡ length structures → ⊥) → false ≡ accepts structures offsets
  unfolding accepts
  refused_count n = rw (uneven 0x100 structures offsets n) (sym (and-false (eqb (offset_at offsets 0) 0x100)))

  pub refused_first : (offset_at offsets 0 ≡ 0x100 → ⊥) → false ≡ accepts structures offsets
  unfolding accepts
  refused_first n = rw (ne_eqb (offset_at offsets 0) 0x100 n)

  pub accepted_first : offset_at offsets 0 ≡ 0x100 → stand_from 0x100 structures offsets ≡ accepts structures offsets
  unfolding accepts
  accepted_first e = rw (eq-eqb (offset_at offsets 0) 0x100 e)

-- the first of those that are left
module _ (ended : ℕ) {ahead behind : List Structure} {left rest : List ℕ} {structure : Structure} {at : ℕ} (here : ahead ≡ structure ∷ behind)
    (there : left ≡ at ∷ rest) where
  stand_next : stand_from ended ahead left ≡ may_stand ended (extent structure) at && stand_from (at + extent structure) behind rest
  unfolding stand_from
  stand_next = ap₂ (stand_from ended) here there

  pub stands_on : may_stand ended (extent structure) at ≡ true → stand_from (at + extent structure) behind rest ≡ stand_from ended ahead left
  stands_on e = sym (rw e at stand_next)

  pub stands_not : may_stand ended (extent structure) at ≡ false → false ≡ stand_from ended ahead left
  stands_not e = sym (rw e at stand_next)

pub all_stand : (ended : ℕ) (ahead : List Structure) (left : List ℕ) → length left ≡ length ahead → (length ahead ≡ 0) ⊎ (length left ≡ 0)
    → true ≡ stand_from ended ahead left
unfolding stand_from
all_stand ended [] [] same end = refl
all_stand ended [] (at ∷ left) same end = absurd (omega (arith, same))
all_stand ended (structure ∷ ahead) left same (inl z) = absurd (omega (arith, z))
all_stand ended (structure ∷ ahead) left same (inr z) = absurd (omega (arith, same, z))

-- ---- each as low as it can stand

module _ (structures : List Structure) (at place : ℕ) where
  fits_next : place < length structures
      → fits_from at (drop place structures)
      ≡ leb (at + extent (structure_at structures place)) 0x1000
      && fits_from (at + rounded_up (extent (structure_at structures place))) (drop (suc place) structures)
  unfolding fits_from
  fits_next here = ap (fits_from at) (drop-cons structures place no_structure here)

  pub fits_on : place < length structures → at + extent (structure_at structures place) ≤ 0x1000
      → fits_from (at + rounded_up (extent (structure_at structures place))) (drop (place + 1) structures) ≡ fits_from at (drop place structures)
  fits_on here h = rw (add-one place) (sym (rw (le-leb _ _ h) at (fits_next here)))

  pub fits_not : place < length structures → 0x1000 < at + extent (structure_at structures place) → false ≡ fits_from at (drop place structures)
  fits_not here h = sym (rw (lt-leb _ _ h) at (fits_next here))

  pub all_fit : place ≡ length structures → true ≡ fits_from at (drop place structures)
  unfolding fits_from
  all_fit end = sym (ap (fits_from at) (ap (λ (n : ℕ). drop n structures) end ∙ drop-length structures))

  -- of structures that fit, the next one ends by 1000h
  pub fitting : place < length structures → fits_from at (drop place structures) ≡ true → at + extent (structure_at structures place) ≤ 0x1000
  fitting here e =
      leb-true _ _ (and_parts _ (fits_from (at + rounded_up (extent (structure_at structures place))) (drop (suc place) structures)) (sym (fits_next here) ∙ e)).0

  packed_next : place < length structures
      → packed_from at (drop place structures) ≡ at ∷ packed_from (at + rounded_up (extent (structure_at structures place))) (drop (suc place) structures)
  unfolding packed_from
  packed_next here = ap (packed_from at) (drop-cons structures place no_structure here)

  -- of the offsets that are packed, the first from a place on, and those behind
  module _ (offsets : List ℕ) (same : length offsets ≡ length structures) (here : place < length structures)
      (left : drop place offsets ≡ packed_from at (drop place structures)) where
    split : offset_at offsets place ∷ drop (suc place) offsets
        ≡ at ∷ packed_from (at + rounded_up (extent (structure_at structures place))) (drop (suc place) structures)
    split = sym (drop-cons offsets place 0 (omega arith)) ∙ left ∙ packed_next here

    pub packed_here : offset_at offsets place ≡ at
    packed_here = ap (λ (l : List ℕ). offset_at l 0) split

    pub packed_on : drop (place + 1) offsets ≡ packed_from (at + rounded_up (extent (structure_at structures place))) (drop (place + 1) structures)
    packed_on = rw (add-one place) (ap (drop 1) split)

pub packed_length : (at : ℕ) (structures : List Structure) → length (packed_from at structures) ≡ length structures
unfolding packed_from
packed_length at [] = refl
packed_length at (structure ∷ structures) = ap suc (packed_length (at + rounded_up (extent structure)) structures)

-- ---- offsets put into the room, one behind the other

module _ (lent room offsets : List ℕ) (place : ℕ) (filled : room ≡ paste lent 0 offsets place) where
  pub proposed_next : {at : ℕ} → offset_at offsets place ≡ at → place < length lent → place < length offsets
      → set room place at ≡ paste lent 0 offsets (place + 1)
  proposed_next here h k =
      rw (filled, add-one place, ← here)
      (ap (λ (n : ℕ). set (paste lent 0 offsets place) n (offset_at offsets place)) (sym (zero-add place)) ∙ paste-suc lent 0 offsets place 0 (rw (zero-add place) h) k)

  pub proposed_all : {n : ℕ} → place ≡ n → length offsets ≡ n → room ≡ offsets ++ drop n lent
  proposed_all e same =
      filled
      ∙ ap₂ (λ (l : List ℕ) (m : ℕ). l ++ drop m lent) (ap (λ (m : ℕ). take m offsets) (e ∙ sym same) ∙ take-length offsets) (zero-add place ∙ e)

-- ---- headers put into a space, the last first

-- those that are left, and behind them those whose headers are laid
pub record LaidBehind (structures : List Structure) (offsets : List ℕ) (ahead : List Structure) (left lent space : List ℕ) (next : ℕ) : Type 0 where
  pub done : List Structure
  pub placed : List ℕ
  pub structured : structures ≡ ahead ++ done
  pub offset : offsets ≡ left ++ placed
  pub same : length left ≡ length ahead
  pub points : next ≡ offset_at placed 0
  pub low : next ≤ 0xfff
  pub whole : length space ≡ 4096
  pub laid_so : space ≡ laid done placed lent

module _ {structures : List Structure} {offsets lent : List ℕ} (m : MayBeLaid structures offsets lent) where
  pub none_laid : LaidBehind structures offsets structures offsets lent lent 0
  unfolding laid
  none_laid =
      record {
        done = [];
        placed = [];
        structured = sym (append-nil structures);
        offset = sym (append-nil offsets);
        same = m.each;
        points = refl;
        low = omega arith;
        whole = m.whole;
        laid_so = refl;
      }

  -- the last of those that are left
  module _ {ahead : List Structure} {left space : List ℕ} {next : ℕ} (b : LaidBehind structures offsets ahead left lent space next)
      (structures_left : List Structure) (structure : Structure) (offsets_left : List ℕ) (at : ℕ)
      (last : ahead ≡ structures_left ++ structure ∷ []) (there : left ≡ offsets_left ++ at ∷ []) where
    structured_on : structures ≡ structures_left ++ structure ∷ b.done
    structured_on = b.structured ∙ ap (λ (l : List Structure). l ++ b.done) last ∙ append_snoc structures_left structure b.done

    offset_on : offsets ≡ offsets_left ++ at ∷ b.placed
    offset_on = b.offset ∙ ap (λ (l : List ℕ). l ++ b.placed) there ∙ append_snoc offsets_left at b.placed

    same_on : length offsets_left ≡ length structures_left
    same_on = omega (arith, b.same, ap length last, ap length there, length-append structures_left (structure ∷ []), length-append offsets_left (at ∷ []))

    pub last_inside : at + 4 ≤ 4096
    last_inside =
        subst (λ (n : ℕ). n + 4 ≤ 4096)
        (ap (λ (l : List ℕ). offset_at l (length offsets_left)) offset_on ∙ get_or-append_seam offsets_left at b.placed 0)
        (m.inside (length offsets_left) (omega (arith, ap length offset_on, length-append offsets_left (at ∷ b.placed))))

    pub laid_on : {after : List ℕ} → after ≡ put space at (four_of (header_word structure next))
        → LaidBehind structures offsets structures_left offsets_left lent after at
    unfolding laid
    laid_on e =
        record {
          done = structure ∷ b.done;
          placed = at ∷ b.placed;
          structured = structured_on;
          offset = offset_on;
          same = same_on;
          points = refl;
          low = omega (arith, last_inside);
          whole = ap length e ∙ put_length space at (four_of (header_word structure next)) (omega (arith, b.whole, last_inside)) ∙ b.whole;
          laid_so = e ∙ ap₂ (λ (l : List ℕ) (n : ℕ). put l at (four_of (header_word structure n))) b.laid_so b.points;
        }
