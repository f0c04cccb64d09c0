-- Headers put into a space one after the other are written as the promise of `write` says: each header word has its header, and every other byte is as it was.
-- Assumes nothing.
use Prim.Native.Nat.{ℕ, zero, suc, ◌+◌, ◌≤◌, ◌<◌}
use mathlib.Core.Bool.{false}
use mathlib.Core.List.{List, [], ◌∷◌}
use mathlib.Core.Path.{◌≡◌, refl, sym, ap, ◌∙◌}
use native.Mathlib.Nat.{add-zero}
use native.Mathlib.Omega.{arith}
use borrow.Author.Tests.{ltb-true, ltb-false}
use lib.Dec.{ltb}
use lib.ListN.{length}
use Rattle.std.specs.Prelude.{⊤, Ok}
use Rattle.words.specs.Bytes.{byte, four, put}
use Rattle.words.proofs.Laws.{put_length, put_there, put_before, put_after, four_elsewhere}
use Rattle.layout.specs.declared.Structure.{Structure}
use Rattle.layout.specs.Structures.{extent, structure_at, are_bad}
use Rattle.layout.specs.Accepting.{offset_at, Acceptable, Checks, Checks.misdescribed, Checks.unaccepted, Checks.accepted}
use Rattle.layout.specs.Laying.{header_word, four_of, next_at, InHeader, Written, Writes.misdescribed, Writes.unaccepted}
use Rattle.layout.specs.Inner.{laid, MayBeLaid}
use Rattle.layout.proofs.Sound.{Given, tested}
use Rattle.layout.proofs.Orderly.{Orderly, others_of, acceptable_orderly}

-- ---- a header that is put

module _ (s : List ℕ) (at : ℕ) (structure : Structure) (next : ℕ) (fits : at + 4 ≤ length s) where
  pub header_there : four (put s at (four_of (header_word structure next))) at ≡ four_of (header_word structure next)
  header_there =
      λ i. first i ∷ put_there s at (four_of (header_word structure next)) fits 1 (omega arith) i
      ∷ put_there s at (four_of (header_word structure next)) fits 2 (omega arith) i
      ∷ put_there s at (four_of (header_word structure next)) fits 3 (omega arith) i
      ∷ []
    where
      first : byte (put s at (four_of (header_word structure next))) at ≡ byte (four_of (header_word structure next)) 0
      first =
          ap (byte (put s at (four_of (header_word structure next)))) (sym (add-zero at))
          ∙ put_there s at (four_of (header_word structure next)) fits 0 (omega arith)

  pub byte_kept : (place : ℕ) → (at ≤ place → place < at + 4 → ⊥) → byte (put s at (four_of (header_word structure next))) place ≡ byte s place
  byte_kept place out =
      tested (ltb place at) (λ t. put_before s at (four_of (header_word structure next)) fits place (ltb-true _ _ t))
      (λ f.
      tested (ltb place (at + 4)) (λ t. absurd (out (ltb-false _ _ f) (ltb-true _ _ t)))
      (λ g. put_after s at (four_of (header_word structure next)) fits place (ltb-false _ _ g)))

-- ---- all of them

-- each header inside a space
abbrev pub Inside : List ℕ → List ℕ → Type 0
Inside offsets s = (k : ℕ) → k < length offsets → offset_at offsets k + 4 ≤ length s

pub laid_length : (structures : List Structure) (offsets s : List ℕ) → Inside offsets s → length (laid structures offsets s) ≡ length s
unfolding laid
laid_length [] offsets s h = refl
laid_length (structure ∷ structures) [] s h = refl
laid_length (structure ∷ structures) (at ∷ offsets) s h =
    let rest = laid_length structures offsets s (λ k small. h (suc k) (omega arith)) in
    put_length (laid structures offsets s) at (four_of (header_word structure (offset_at offsets 0))) (omega (arith, rest, h 0 (omega arith))) ∙ rest

module _ (s : List ℕ) where
  laid_headers : (ended : ℕ) (structures : List Structure) (offsets : List ℕ) → Orderly ended structures offsets
      → ((k : ℕ) → k < length structures → 4 ≤ extent (structure_at structures k)) → Inside offsets s → (k : ℕ) → k < length offsets
      → four (laid structures offsets s) (offset_at offsets k) ≡ four_of (header_word (structure_at structures k) (next_at offsets k))
  unfolding laid
  laid_headers ended [] [] o long h k small = absurd (omega arith)
  laid_headers ended [] (at ∷ offsets) o long h k small = absurd (omega (arith, o.each))
  laid_headers ended (structure ∷ structures) [] o long h k small = absurd (omega arith)
  laid_headers ended (structure ∷ structures) (at ∷ offsets) o long h zero small =
      let rest = laid_length structures offsets s (λ k less. h (suc k) (omega arith)) in
      header_there (laid structures offsets s) at structure (offset_at offsets 0) (omega (arith, rest, h 0 (omega arith)))
  laid_headers ended (structure ∷ structures) (at ∷ offsets) o long h (suc k) small =
      let rest = laid_length structures offsets s (λ j less. h (suc j) (omega arith)) in
      let there = o.behind 0 (suc k) (omega arith) small in
      four_elsewhere (laid structures offsets s) at (four_of (header_word structure (offset_at offsets 0))) (offset_at offsets k)
      (omega (arith, rest, h 0 (omega arith))) refl (o.aligned 0 (omega arith)) (o.aligned (suc k) small)
      (λ e. omega (arith, there, long 0 (omega arith)))
      ∙ laid_headers (at + extent structure) structures offsets (others_of o) (λ j less. long (suc j) (omega arith))
      (λ j less. h (suc j) (omega arith)) k (omega arith)

  laid_others : (structures : List Structure) (offsets : List ℕ) → Inside offsets s → (place : ℕ) → (InHeader offsets place → ⊥)
      → byte (laid structures offsets s) place ≡ byte s place
  unfolding laid
  laid_others [] offsets h place out = refl
  laid_others (structure ∷ structures) [] h place out = refl
  laid_others (structure ∷ structures) (at ∷ offsets) h place out =
      let rest = laid_length structures offsets s (λ j less. h (suc j) (omega arith)) in
      byte_kept (laid structures offsets s) at structure (offset_at offsets 0) (omega (arith, rest, h 0 (omega arith))) place
      (λ low high. out (record { which = 0; one = omega arith; from = low; before = high }))
      ∙ laid_others structures offsets (λ j less. h (suc j) (omega arith)) place
      (λ i. out (record { which = suc i.which; one = omega (arith, i.one); from = i.from; before = i.before }))

module _ {structures : List Structure} {offsets : List ℕ} (s : List ℕ) (g : Given structures) (whole : length s ≡ 4096) (a : Acceptable structures offsets) where
  headers_inside : Inside offsets s
  headers_inside k small =
      omega (arith, a.inside k small, (g.sound k (omega (arith, a.each))).least)

  pub may_be_laid : MayBeLaid structures offsets s
  may_be_laid =
      record {
        whole = whole;
        each = a.each;
        small = λ k less. (g.sound k less).versioned;
        inside = λ k less. omega (arith, headers_inside k less);
      }

  pub laid_written : Written structures offsets s (laid structures offsets s)
  laid_written =
      record {
        sized = laid_length structures offsets s headers_inside;
        headers = laid_headers s 0x100 structures offsets (acceptable_orderly g.sound a) (λ k less. (g.sound k less).least) headers_inside;
        others = laid_others s structures offsets headers_inside;
      }

-- ---- what the checker has said: it accepted
pub accepted_by : {structures : List Structure} {offsets : List ℕ} {unit : ⊤} → Checks structures offsets (Ok unit)
    → (are_bad structures ≡ false) × Acceptable structures offsets
accepted_by (misdescribed bad e) = absurd (omega (arith, e))
accepted_by (unaccepted good n e) = absurd (omega (arith, e))
accepted_by (accepted good a e) = (good, a)
