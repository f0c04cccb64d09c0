-- THEOREMS. What has been written is listed as given, as the tenth request of document 02 wants it: whatever else the space held, every walk of its extended list with room enough
-- answers 0 with exactly these offsets, and the header at each has the ID and the version given. The compatible list is as it was, and every byte below 100h. Assumes nothing.
use Prim.Native.Nat.{ℕ, zero, suc, ◌+◌, ◌%◌, ◌≤◌, ◌<◌}
use mathlib.Core.Bool.{false}
use mathlib.Core.List.{List, [], ◌∷◌}
use mathlib.Core.Logic.{◌↔◌}
use mathlib.Core.Path.{◌≡◌, refl, sym, ap, subst, ◌∙◌}
use native.Mathlib.Omega.{arith}
use borrow.Author.Tests.{ltb-true, ltb-false}
use lib.Dec.{ltb, lit≤}
use lib.ListN.{length, get_or-eq_default}
use Rattle.std.specs.Prelude.{⊤, Result}
use Rattle.answers.specs.Numbers.{answered}
use Rattle.answers.specs.declared.Refusal.{Refusal}
use Rattle.words.specs.Bytes.{byte}
use Rattle.words.specs.Fields.{bits, word}
use Rattle.lists.specs.declared.Kind.TheVariants.{Compatible, Extended}
use Rattle.lists.specs.Table.{describe, compatible_start, compatible_next, extended_next}
use Rattle.lists.specs.Chain.{Legal, Legal.ends, Legal.goes, HasChain, dropped, first, follows}
use Rattle.lists.specs.Breaks.{met}
use Rattle.lists.specs.Walks.{Roomy, Lists, Walks, Walks.misdescribed, Walks.roomless, Walks.broken, Walks.listed, Walked}
use Rattle.lists.proofs.Breaking.{breaks_carried, breaks_unending}
use Rattle.lists.proofs.FirstWord.{first_some}
use Rattle.lists.proofs.Maxima.{met_within}
use Rattle.lists.proofs.OneChain.{legal_unique}
use Rattle.lists.proofs.Pointers.{Bytes, Within, first_within, follows_within}
use Rattle.layout.specs.declared.Structure.{Structure}
use Rattle.layout.specs.Structures.{identity, version, structure_at, are_bad}
use Rattle.layout.specs.Accepting.{offset_at, Acceptable}
use Rattle.layout.specs.Laying.{next_at, Written, Writes, Writes.misdescribed, Writes.unaccepted, Writes.written}
use Rattle.layout.proofs.Headers.{Fields, header_fields}
use Rattle.layout.proofs.Sound.{Given, given, tested}

-- what the form of a structure allows: an ID of 16 bits
abbrev pub SixteenBits : List Structure → Type 0
SixteenBits structures = (k : ℕ) → k < length structures → identity (structure_at structures k) < 65536

-- the statements, of any layout that `write` answered with 0. "the walker must list it as given": the offsets
abbrev pub WalkedAsGiven : Type 0
WalkedAsGiven =
    (structures : List Structure) (offsets s : List ℕ) (r : Result ⊤ Refusal) (after : List ℕ) → SixteenBits structures → Writes structures offsets s r after
    → answered r ≡ 0 → (room : List ℕ) (q : Walked) (left : List ℕ) → Roomy Extended room → Walks Extended after room q left
    → Lists offsets room q left

-- and the header at each of them
abbrev pub HeadedAsGiven : Type 0
HeadedAsGiven =
    (structures : List Structure) (offsets s : List ℕ) (r : Result ⊤ Refusal) (after : List ℕ) → SixteenBits structures → Writes structures offsets s r after
    → answered r ≡ 0 → (k : ℕ) → k < length offsets
    → Fields (word after (offset_at offsets k)) (identity (structure_at structures k)) (version (structure_at structures k)) (next_at offsets k)

-- the compatible list, also where nothing was written
abbrev pub CompatibleAsWas : Type 0
CompatibleAsWas =
    (structures : List Structure) (offsets s after : List ℕ) (r : Result ⊤ Refusal) → Bytes s → Writes structures offsets s r after
    → (room : List ℕ) (q : Walked) (left : List ℕ) → Walks Compatible s room q left ↔ Walks Compatible after room q left

-- with the ID of each of its headers: no byte below 100h changes
abbrev pub BelowAsWas : Type 0
BelowAsWas =
    (structures : List Structure) (offsets s : List ℕ) (r : Result ⊤ Refusal) (after : List ℕ) → Writes structures offsets s r after → (place : ℕ)
    → place < 0x100 → byte after place ≡ byte s place

-- ---- what an answer 0 says

-- a layout that was written
abbrev pub Laid : List Structure → List ℕ → List ℕ → List ℕ → Type 0
Laid structures offsets s after = (are_bad structures ≡ false) × Acceptable structures offsets × (length s ≡ 4096) × Written structures offsets s after

laid_by : {structures : List Structure} {offsets s : List ℕ} {r : Result ⊤ Refusal} {after : List ℕ} → Writes structures offsets s r after → answered r ≡ 0
    → Laid structures offsets s after
laid_by (misdescribed cause a) z = absurd (omega (arith, a.given))
laid_by (unaccepted whole good n a) z = absurd (omega (arith, a.given))
laid_by (written whole good fine e w) z = (good, fine, whole, w)

-- ---- the headers

module _ {structures : List Structure} {offsets s after : List ℕ} (wide : SixteenBits structures) (laid : Laid structures offsets s after) where
  g : Given structures
  g = given structures laid.0

  a : Acceptable structures offsets
  a = laid.1

  -- the pointer of each is a multiple of 4 of twelve bits
  next_aligned : (k : ℕ) → next_at offsets k % 4 ≡ 0
  next_aligned k =
      tested (ltb (suc k) (length offsets)) (λ t. a.aligned (suc k) (ltb-true _ _ t))
      (λ f. ap (λ (n : ℕ). n % 4) (get_or-eq_default offsets 0 (ltb-false _ _ f)))

  next_small : (k : ℕ) → next_at offsets k ≤ 0xfff
  next_small k =
      tested (ltb (suc k) (length offsets))
      (λ t. let h : suc k < length offsets = ltb-true _ _ t in omega (arith, a.inside (suc k) h, (g.sound (suc k) (omega (arith, a.each))).least))
      (λ f. let z = get_or-eq_default offsets 0 (ltb-false (suc k) (length offsets) f) in omega (arith, z))

  fields : (k : ℕ) → k < length offsets
      → Fields (word after (offset_at offsets k)) (identity (structure_at structures k)) (version (structure_at structures k)) (next_at offsets k)
  fields k h =
      let at = offset_at offsets k in
      let small : k < length structures = omega (arith, a.each) in
      header_fields (structure_at structures k) (next_at offsets k) (byte after at) (byte after (at + 1)) (byte after (at + 2)) (byte after (at + 3))
      (wide k small) (g.sound k small).versioned (next_small k) (laid.3.headers k h)

  -- where each points to
  leads : (k : ℕ) → k < length offsets → follows (describe Extended) after (offset_at offsets k) ≡ offset_at offsets (suc k)
  unfolding follows extended_next
  leads k h = ap dropped (fields k h).points ∙ omega (arith, next_aligned k)

  floored : (k : ℕ) → k < length offsets → 0x100 ≤ offset_at offsets k
  floored zero h = omega (arith, a.first)
  floored (suc k) h = omega (arith, a.first, a.rising 0 (suc k) (omega arith) h)

-- offsets that lead to each other, and the last to 0, are the chain from the first
chained : (s offsets : List ℕ) → ((k : ℕ) → k < length offsets → follows (describe Extended) s (offset_at offsets k) ≡ offset_at offsets (suc k))
    → ((k : ℕ) → k < length offsets → 0x100 ≤ offset_at offsets k) → Legal (describe Extended) s (offset_at offsets 0) offsets
chained s [] on above = ends refl refl
chained s (at ∷ offsets) on above =
    goes (λ (z : at ≡ 0). omega (arith, above 0 (omega arith))) (above 0 (omega arith))
    (subst (λ (p : ℕ). Legal (describe Extended) s p offsets) (sym (on 0 (omega arith)))
    (chained s offsets (λ k h. on (suc k) (omega arith)) (λ k h. above (suc k) (omega arith)))) refl

module _ {structures : List Structure} {offsets s after : List ℕ} (wide : SixteenBits structures) (laid : Laid structures offsets s after) where
  -- the word at 100h has an ID, and is not zero
  pub begins : word after 0x100 ≡ 0 → ⊥
  begins z =
      let gave = given structures laid.0 in
      let first_there = laid.1.first in
      let id = (fields wide laid 0 (omega (arith, laid.1.each, gave.some))).id in
      (gave.sound 0 gave.some).named (sym id ∙ ap (λ (n : ℕ). bits 15 0 n) (ap (word after) first_there ∙ z))

  pub laid_chain : HasChain (describe Extended) after offsets
  laid_chain =
      subst (λ (p : ℕ). Legal (describe Extended) after p offsets) (laid.1.first ∙ sym (first_some after begins))
      (chained after offsets (leads wide laid) (floored wide laid))

pub headed_as_given : HeadedAsGiven
headed_as_given structures offsets s r after wide x z = fields wide (laid_by x z)

laid_walks : {structures : List Structure} {offsets s after : List ℕ} → SixteenBits structures → Laid structures offsets s after → {room : List ℕ}
    {q : Walked} {left : List ℕ} → Roomy Extended room → Walks Extended after room q left → Lists offsets room q left
laid_walks wide laid roomy (misdescribed n x) = absurd (n (laid.3.sized ∙ laid.2))
laid_walks wide laid roomy (roomless h n x) = absurd (n roomy)
laid_walks {offsets = offsets} wide laid roomy (broken h k number place b x) = absurd (breaks_unending b offsets (laid_chain wide laid))
laid_walks wide laid {room} {q} {left} roomy (listed h k chain l x) =
    subst (λ (c : List ℕ). Lists c room q left) (legal_unique l (laid_chain wide laid)) x

pub walked_as_given : WalkedAsGiven
walked_as_given structures offsets s r after wide x z room q left roomy w = laid_walks wide (laid_by x z) roomy w

-- ---- the compatible list, in spaces that are the same below 100h

module _ (s t : List ℕ) (bytes : Bytes s) (size : length s ≡ length t) (same : (place : ℕ) → place < 0x100 → byte s place ≡ byte t place) where
  starts_alike : first (describe Compatible) s ≡ first (describe Compatible) t
  unfolding first compatible_start
  starts_alike = rw (same 0x06 (lit≤ tt), same 0x34 (lit≤ tt))

  leads_alike : (at : ℕ) → Within Compatible at → follows (describe Compatible) s at ≡ follows (describe Compatible) t at
  unfolding follows compatible_next
  leads_alike at h = ap dropped (same (at + 1) (omega (arith, h.aligned, h.below)))

  met_alike : (n : ℕ) → met (describe Compatible) s n ≡ met (describe Compatible) t n
  unfolding met
  met_alike zero = starts_alike
  met_alike (suc n) =
      leads_alike (met (describe Compatible) s n) (met_within Compatible s bytes n) ∙ ap (follows (describe Compatible) t) (met_alike n)

  chain_over : {p : ℕ} {chain : List ℕ} → Within Compatible p → Legal (describe Compatible) s p chain → Legal (describe Compatible) t p chain
  chain_over h (ends z e) = ends z e
  chain_over {p} h (goes {rest = rest} n low l e) =
      goes n low
      (subst (λ (q : ℕ). Legal (describe Compatible) t q rest) (leads_alike p h) (chain_over (follows_within Compatible s p bytes) l)) e

  chain_back : {p : ℕ} {chain : List ℕ} → Within Compatible p → Legal (describe Compatible) t p chain → Legal (describe Compatible) s p chain
  chain_back h (ends z e) = ends z e
  chain_back {p} h (goes {rest = rest} n low l e) =
      goes n low
      (subst (λ (q : ℕ). Legal (describe Compatible) s q rest) (sym (leads_alike p h))
      (chain_back (subst (Within Compatible) (leads_alike p h) (follows_within Compatible s p bytes)) l)) e

  walks_over : {room : List ℕ} {q : Walked} {left : List ℕ} → Walks Compatible s room q left → Walks Compatible t room q left
  walks_over (misdescribed n x) = misdescribed (λ h. n (size ∙ h)) x
  walks_over (roomless h n x) = roomless (sym size ∙ h) n x
  walks_over (broken h k number place b x) =
      broken (sym size ∙ h) k number place (breaks_carried (describe Compatible) (describe Compatible) s t refl b (λ j less. met_alike j)) x
  walks_over (listed h k chain l x) =
      listed (sym size ∙ h) k chain
      (subst (λ (p : ℕ). Legal (describe Compatible) t p chain) starts_alike (chain_over (first_within Compatible s bytes) l)) x

  walks_back : {room : List ℕ} {q : Walked} {left : List ℕ} → Walks Compatible t room q left → Walks Compatible s room q left
  walks_back (misdescribed n x) = misdescribed (λ h. n (sym size ∙ h)) x
  walks_back (roomless h n x) = roomless (size ∙ h) n x
  walks_back (broken h k number place b x) =
      broken (size ∙ h) k number place (breaks_carried (describe Compatible) (describe Compatible) t s refl b (λ j less. sym (met_alike j))) x
  walks_back (listed h k chain l x) =
      listed (size ∙ h) k chain
      (chain_back (first_within Compatible s bytes) (subst (λ (p : ℕ). Legal (describe Compatible) t p chain) (sym starts_alike) l)) x

-- no header word is below 100h
kept_below : {structures : List Structure} {offsets s after : List ℕ} → Acceptable structures offsets → Written structures offsets s after → (place : ℕ)
    → place < 0x100 → byte s place ≡ byte after place
kept_below {offsets = offsets} a w place small = sym (w.others place (λ i. above i.which i.one i.from))
  where
    above : (k : ℕ) → k < length offsets → offset_at offsets k ≤ place → ⊥
    above zero h low = omega (arith, a.first)
    above (suc k) h low = omega (arith, a.first, a.rising 0 (suc k) (omega arith) h)

-- a space that was left as it was
walks_kept : {s after : List ℕ} → after ≡ s → (room : List ℕ) (q : Walked) (left : List ℕ)
    → Walks Compatible s room q left ↔ Walks Compatible after room q left
walks_kept e room q left =
    (subst (λ (t : List ℕ). Walks Compatible t room q left) (sym e), subst (λ (t : List ℕ). Walks Compatible t room q left) e)

pub compatible_as_was : CompatibleAsWas
compatible_as_was structures offsets s after r bytes (misdescribed x e) room q left = walks_kept e.kept room q left
compatible_as_was structures offsets s after r bytes (unaccepted whole good n e) room q left = walks_kept e.kept room q left
compatible_as_was structures offsets s after r bytes (written whole good fine e w) room q left =
    let size = sym w.sized in
    (walks_over s after bytes size (kept_below fine w), walks_back s after bytes size (kept_below fine w))

pub below_as_was : BelowAsWas
below_as_was structures offsets s r after (misdescribed x e) place small = ap (λ (l : List ℕ). byte l place) e.kept
below_as_was structures offsets s r after (unaccepted whole good n e) place small = ap (λ (l : List ℕ). byte l place) e.kept
below_as_was structures offsets s r after (written whole good fine e w) place small = sym (kept_below fine w place small)
