-- THEOREMS. Programs that a newcomer would write, refuted whatever else they do, at every input where the fault shows; and for each fault there is such an input, of structures that
-- are not bad. Of checkers: an overlap tested by the starts of neighbours only, or not at all, so that offsets may be equal; the end of the last one not looked at; offsets beyond the
-- structures; and one that turns an acceptable proposal away, for a gap, for neighbours that touch, or for an end at 1000h. Of planners: one that does not round, one that gives 14 where there
-- is a layout, and one that proposes where there is none. Of writers: the last pointer left as it was, headers written before the checker was asked, and other bytes cleared.
-- Two that are no faults by themselves: a planner that rounds the last length too gives the right answers (proofs/Packing: last_rounded_too), and so does a checker that lets
-- offsets be equal and looks for overlaps, since equal offsets overlap (equal_overlap). Assumes nothing.
use Prim.Native.Nat.{ℕ, zero, suc, ◌+◌, ◌%◌, ◌≤◌, ◌<◌}
use mathlib.Core.Bool.{false}
use mathlib.Core.List.{List, [], ◌∷◌}
use mathlib.Core.Path.{◌≡◌, refl, sym, ap, ◌∙◌}
use native.Mathlib.Omega.{arith}
use lib.Dec.{lit<, lit≤}
use lib.ListN.{length, get_or, drop, replicate, get_or-append, get_or-eq_default}
use Rattle.std.specs.Prelude.{⊤, Result}
use Rattle.answers.specs.Numbers.{answered}
use Rattle.answers.specs.declared.Refusal.{Refusal}
use Rattle.words.specs.Bytes.{byte, four}
use Rattle.words.specs.Fields.{bits, word}
use Rattle.layout.specs.declared.Structure.{Structure}
use Rattle.layout.specs.Structures.{extent, structure_at, is_bad, are_bad}
use Rattle.layout.specs.Accepting.{offset_at, end_at, Takes, Acceptable, Checks}
use Rattle.layout.specs.Proposing.{needed, Plans, Plans.misdescribed, Plans.roomless, Plans.unplaced, Plans.proposed}
use Rattle.layout.specs.Laying.{header_word, four_of, next_at, InHeader, Writes, Writes.misdescribed, Writes.unaccepted, Writes.written}
use Rattle.layout.specs.Inner.{stand_from, accepts}
use Rattle.layout.proofs.Edges.{of}
use Rattle.layout.proofs.Listed.{SixteenBits, headed_as_given}
use Rattle.layout.proofs.Numbers.{check_number, plan_number}
use Rattle.layout.proofs.Orderly.{accepts_acceptable, refuses_acceptable}
use Rattle.layout.proofs.Sound.{given}

-- ---- checkers: any answer of any checker that meets the promise

-- "an overlap test between neighbours only by start": it accepts whatever is right but for an overlap
pub record RightButOverlap (structures : List Structure) (offsets : List ℕ) : Type 0 where
  pub each : length offsets ≡ length structures
  pub first : offset_at offsets 0 ≡ 0x100
  pub aligned : (k : ℕ) → k < length offsets → offset_at offsets k % 4 ≡ 0
  pub rising : (j k : ℕ) → j < k → k < length offsets → offset_at offsets j < offset_at offsets k
  pub inside : (k : ℕ) → k < length offsets → end_at structures offsets k ≤ 0x1000

pub record Overlap (structures : List Structure) (offsets : List ℕ) : Type 0 where
  pub one : ℕ
  pub other : ℕ
  pub place : ℕ
  pub before : one < other
  pub there : other < length offsets
  pub in_one : Takes structures offsets one place
  pub in_other : Takes structures offsets other place

abbrev pub NoOverlapLetThrough : Type 0
NoOverlapLetThrough =
    (structures : List Structure) (offsets : List ℕ) (r : Result ⊤ Refusal) → Checks structures offsets r → Overlap structures offsets → answered r ≡ 0 → ⊥

-- "offsets that may be equal": they overlap, where the structures are not bad
abbrev pub EqualOverlap : Type 0
EqualOverlap =
    (structures : List Structure) (offsets : List ℕ) → are_bad structures ≡ false → length offsets ≡ length structures → (j k : ℕ) → j < k
    → k < length offsets → offset_at offsets j ≡ offset_at offsets k → Overlap structures offsets

abbrev pub NoEqualLetThrough : Type 0
NoEqualLetThrough =
    (structures : List Structure) (offsets : List ℕ) (r : Result ⊤ Refusal) → Checks structures offsets r → (j k : ℕ) → j < k → k < length offsets
    → offset_at offsets j ≡ offset_at offsets k → answered r ≡ 0 → ⊥

-- one that ends past 1000h, and offsets of another count
abbrev pub NoLateEndLetThrough : Type 0
NoLateEndLetThrough =
    (structures : List Structure) (offsets : List ℕ) (r : Result ⊤ Refusal) → Checks structures offsets r → (k : ℕ) → k < length offsets
    → 0x1000 < end_at structures offsets k → answered r ≡ 0 → ⊥

abbrev pub NoOtherCountLetThrough : Type 0
NoOtherCountLetThrough =
    (structures : List Structure) (offsets : List ℕ) (r : Result ⊤ Refusal) → Checks structures offsets r → (length offsets ≡ length structures → ⊥)
    → answered r ≡ 0 → ⊥

-- one that is acceptable turned away
abbrev pub NoAcceptableTurnedAway : Type 0
NoAcceptableTurnedAway =
    (structures : List Structure) (offsets : List ℕ) (r : Result ⊤ Refusal) → Checks structures offsets r → are_bad structures ≡ false
    → Acceptable structures offsets → answered r ≡ 18 → ⊥

-- ---- planners

-- one that does not round puts a structure right behind one whose length is no multiple of 4
abbrev pub NoUnroundedProposed : Type 0
NoUnroundedProposed =
    (structures : List Structure) (room : List ℕ) (r : Result ⊤ Refusal) (after : List ℕ) → Plans structures room r after → (k : ℕ)
    → suc k < length structures → (extent (structure_at structures k) % 4 ≡ 0 → ⊥) → answered r ≡ 0
    → offset_at after (suc k) ≡ end_at structures after k → ⊥

-- 14 where there is a layout, and a proposal where there is none
abbrev pub NoFourteenTooSoon : Type 0
NoFourteenTooSoon =
    (structures : List Structure) (room : List ℕ) (r : Result ⊤ Refusal) (after : List ℕ) → Plans structures room r after → needed structures ≤ 3840
    → answered r ≡ 14 → ⊥

abbrev pub NoProposalTooLate : Type 0
NoProposalTooLate =
    (structures : List Structure) (room : List ℕ) (r : Result ⊤ Refusal) (after : List ℕ) → Plans structures room r after → 3840 < needed structures
    → answered r ≡ 0 → ⊥

-- ---- writers

-- "the last pointer left as it was": a space that has something there
abbrev pub NoLastPointerKept : Type 0
NoLastPointerKept =
    (structures : List Structure) (offsets s : List ℕ) (r : Result ⊤ Refusal) (after : List ℕ) → SixteenBits structures → Writes structures offsets s r after
    → (last : ℕ) → suc last ≡ length offsets → (bits 31 20 (word s (offset_at offsets last)) ≡ 0 → ⊥) → answered r ≡ 0
    → bits 31 20 (word after (offset_at offsets last)) ≡ bits 31 20 (word s (offset_at offsets last)) → ⊥

-- "writing before the check": a header is there, of a layout that is not accepted, where another word was
abbrev pub NoneWrittenBefore : Type 0
NoneWrittenBefore =
    (structures : List Structure) (offsets s : List ℕ) (r : Result ⊤ Refusal) (after : List ℕ) → Writes structures offsets s r after
    → (Acceptable structures offsets → ⊥) → (k : ℕ)
    → (four s (offset_at offsets k) ≡ four_of (header_word (structure_at structures k) (next_at offsets k)) → ⊥)
    → four after (offset_at offsets k) ≡ four_of (header_word (structure_at structures k) (next_at offsets k)) → ⊥

-- a byte that is in no header word and is another one afterwards
abbrev pub NoOtherByteChanged : Type 0
NoOtherByteChanged =
    (structures : List Structure) (offsets s : List ℕ) (r : Result ⊤ Refusal) (after : List ℕ) → Writes structures offsets s r after → (place : ℕ)
    → (InHeader offsets place → ⊥) → (byte after place ≡ byte s place → ⊥) → ⊥

-- ---- the theorems

accepted_is : {structures : List Structure} {offsets : List ℕ} {r : Result ⊤ Refusal} → Checks structures offsets r → answered r ≡ 0
    → Acceptable structures offsets
accepted_is {structures} {offsets} {r} c z = ((check_number structures offsets r c).zero.0 z).1

pub no_overlap_let_through : NoOverlapLetThrough
no_overlap_let_through structures offsets r c o z = (accepted_is c z).apart o.one o.other o.place o.before o.there o.in_one o.in_other

pub equal_overlap : EqualOverlap
equal_overlap structures offsets good same j k l h e =
    let sound = (given structures good).sound in
    record {
      one = j;
      other = k;
      place = offset_at offsets k;
      before = l;
      there = h;
      in_one = record { from = omega arith; before = omega (arith, (sound j (omega arith)).least) };
      in_other = record { from = omega arith; before = omega (arith, (sound k (omega arith)).least) };
    }

pub no_equal_let_through : NoEqualLetThrough
no_equal_let_through structures offsets r c j k l h e z = omega (arith, (accepted_is c z).rising j k l h)

pub no_late_end_let_through : NoLateEndLetThrough
no_late_end_let_through structures offsets r c k h late z = omega (arith, (accepted_is c z).inside k h)

pub no_other_count_let_through : NoOtherCountLetThrough
no_other_count_let_through structures offsets r c n z = n (accepted_is c z).each

pub no_acceptable_turned_away : NoAcceptableTurnedAway
no_acceptable_turned_away structures offsets r c good fine e = ((check_number structures offsets r c).eighteen.0 e).1 fine

pub no_unrounded_proposed : NoUnroundedProposed
no_unrounded_proposed structures room r after (misdescribed bad a) k h odd z e = omega (arith, a.given)
no_unrounded_proposed structures room r after (roomless good x a) k h odd z e = omega (arith, a.given)
no_unrounded_proposed structures room r after (unplaced good x none a) k h odd z e = omega (arith, a.given)
no_unrounded_proposed structures room r after (proposed good x offsets low y f) k h odd z e =
    let fine = low.acceptable in
    let there : (j : ℕ) → j < length offsets → offset_at after j ≡ offset_at offsets j =
    λ j less. ap (λ (l : List ℕ). offset_at l j) f ∙ get_or-append offsets (drop (length offsets) room) 0 j less in
    let here : suc k < length offsets = omega (arith, fine.each) in
    let a = there k (omega arith) in
    let b = there (suc k) here in
    let c = fine.aligned k (omega arith) in
    let d = fine.aligned (suc k) here in
    odd (remains (offset_at offsets k) (offset_at offsets (suc k)) (extent (structure_at structures k)) c d (omega arith))
  where
    remains : (o p n : ℕ) → o % 4 ≡ 0 → p % 4 ≡ 0 → p ≡ o + n → n % 4 ≡ 0
    remains o p n c d e = omega arith

pub no_fourteen_too_soon : NoFourteenTooSoon
no_fourteen_too_soon structures room r after p few e = omega (arith, ((plan_number structures room r after p).exceeds.0 e).2)

pub no_proposal_too_late : NoProposalTooLate
no_proposal_too_late structures room r after p much z = omega (arith, ((plan_number structures room r after p).zero.0 z).2)

pub no_last_pointer_kept : NoLastPointerKept
no_last_pointer_kept structures offsets s r after wide (misdescribed cause a) last end some z e = omega (arith, a.given)
no_last_pointer_kept structures offsets s r after wide (unaccepted whole good n a) last end some z e = omega (arith, a.given)
no_last_pointer_kept structures offsets s r after wide (written whole good fine y w) last end some z e =
    let points = (headed_as_given structures offsets s r after wide (written whole good fine y w) z last (omega arith)).points in
    some (sym e ∙ points ∙ get_or-eq_default offsets 0 (omega arith))

pub no_other_byte_changed : NoOtherByteChanged
no_other_byte_changed structures offsets s r after (misdescribed cause a) place out other = other (ap (λ (l : List ℕ). byte l place) a.kept)
no_other_byte_changed structures offsets s r after (unaccepted whole good n a) place out other = other (ap (λ (l : List ℕ). byte l place) a.kept)
no_other_byte_changed structures offsets s r after (written whole good fine e w) place out other = other (w.others place out)

pub none_written_before : NoneWrittenBefore
none_written_before structures offsets s r after x refused k other e =
    other (ap (λ (l : List ℕ). four l (offset_at offsets k)) (sym (kept x)) ∙ e)
  where
    kept : Writes structures offsets s r after → after ≡ s
    kept (misdescribed cause a) = a.kept
    kept (unaccepted whole good n a) = a.kept
    kept (written whole good fine y w) = absurd (refused fine)

-- ---- an input at which each fault shows, of structures that are not bad

-- eight bytes and four; four and eight; five and four
abbrev pub eight_and_four : List Structure
eight_and_four = of 8 ∷ of 4 ∷ []

abbrev pub four_and_eight : List Structure
four_and_eight = of 4 ∷ of 8 ∷ []

abbrev pub five_and_four : List Structure
five_and_four = of 5 ∷ of 4 ∷ []

pub none_is_bad : (are_bad eight_and_four ≡ false) × (are_bad four_and_eight ≡ false) × (are_bad five_and_four ≡ false)
unfolding are_bad is_bad
none_is_bad = (refl, refl, refl)

two_less : (A : ℕ → Type 0) → A 0 → A 1 → (k : ℕ) → k < 2 → A k
two_less A a b zero h = a
two_less A a b (suc zero) h = b
two_less A a b (suc (suc k)) h = absurd (omega arith)

pair_rises : (a b : ℕ) → a < b → (j k : ℕ) → j < k → k < 2 → offset_at (a ∷ b ∷ []) j < offset_at (a ∷ b ∷ []) k
pair_rises a b less zero (suc zero) l h = less
pair_rises a b less j zero l h = absurd (omega arith)
pair_rises a b less (suc j) (suc zero) l h = absurd (omega arith)
pair_rises a b less j (suc (suc k)) l h = absurd (omega arith)

-- the second in the first: all but the overlap is right, the starts rise
pub overlap_shows : RightButOverlap eight_and_four (0x100 ∷ 0x104 ∷ []) × Overlap eight_and_four (0x100 ∷ 0x104 ∷ [])
overlap_shows = (
  record {
    each = refl;
    first = refl;
    aligned = two_less (λ k. offset_at (0x100 ∷ 0x104 ∷ []) k % 4 ≡ 0) refl refl;
    rising = pair_rises 0x100 0x104 (lit< tt);
    inside = two_less (λ k. end_at eight_and_four (0x100 ∷ 0x104 ∷ []) k ≤ 0x1000) (lit≤ tt) (lit≤ tt);
  },
  record {
    one = 0;
    other = 1;
    place = 0x104;
    before = lit< tt;
    there = lit< tt;
    in_one = record { from = lit≤ tt; before = lit< tt };
    in_other = record { from = lit≤ tt; before = lit< tt };
  },
)

-- both at 100h, each of which may stand there by itself
pub equal_shows : offset_at (0x100 ∷ 0x100 ∷ []) 0 ≡ offset_at (0x100 ∷ 0x100 ∷ []) 1
equal_shows = refl

-- eight bytes at FFCh: all but the end is right
pub late_end_shows :
    (offset_at (0x100 ∷ 0xffc ∷ []) 1 % 4 ≡ 0) × (end_at four_and_eight (0x100 ∷ 0xffc ∷ []) 0 ≤ 0xffc) × (0x1000 < end_at four_and_eight (0x100 ∷ 0xffc ∷ []) 1)
late_end_shows = (refl, lit≤ tt, lit< tt)

-- what is acceptable, and three that a strict checker turns away: touching, with a gap, and with an end at 1000h
pub acceptable_shows :
    Acceptable eight_and_four (0x100 ∷ 0x108 ∷ []) × Acceptable eight_and_four (0x100 ∷ 0x110 ∷ []) × Acceptable eight_and_four (0x100 ∷ 0xffc ∷ [])
unfolding are_bad is_bad accepts stand_from
acceptable_shows =
    let sound = (given eight_and_four refl).sound in
    (accepts_acceptable sound refl, accepts_acceptable sound refl, accepts_acceptable sound refl)

-- the same with an offset more, and with one fewer
pub count_shows :
    (length {A = ℕ} (0x100 ∷ 0x108 ∷ 0x200 ∷ []) ≡ length eight_and_four → ⊥) × (length {A = ℕ} (0x100 ∷ []) ≡ length eight_and_four → ⊥)
count_shows = ((λ e. omega arith), (λ e. omega arith))

-- five bytes and four behind them, which fit; what just fits, and what does not
pub planners_show :
    (extent (structure_at five_and_four 0) % 4 ≡ 0 → ⊥) × (needed five_and_four ≤ 3840) × (needed (of 3840 ∷ []) ≤ 3840)
    × (3840 < needed (of 4 ∷ of 3837 ∷ []))
planners_show = ((λ e. omega arith), lit≤ tt, lit≤ tt, lit< tt)

-- a space of FFh: with the acceptable layout above the last pointer is not 0, and there are bytes in no header word
pub last_pointer_shows : bits 31 20 (word (replicate 4096 0xff) 0x108) ≡ 0 → ⊥
last_pointer_shows e = omega arith

pub other_bytes_show : (InHeader (0x100 ∷ 0x108 ∷ []) 0x104 → ⊥) × (byte (replicate 4096 0xff) 0x104 ≡ 0 → ⊥)
other_bytes_show = ((λ i. outside i.which i.one i.from i.before), (λ e. omega arith))
  where
    outside : (k : ℕ) → k < 2 → offset_at (0x100 ∷ 0x108 ∷ []) k ≤ 0x104 → 0x104 < offset_at (0x100 ∷ 0x108 ∷ []) k + 4 → ⊥
    outside zero h low high = omega arith
    outside (suc zero) h low high = omega arith
    outside (suc (suc k)) h low high = omega arith

-- and with the overlapping one, which no checker accepts, no header stands at 100h
pub before_the_check_shows :
    (Acceptable eight_and_four (0x100 ∷ 0x104 ∷ []) → ⊥) × (four (replicate 4096 0xff) 0x100 ≡ four_of (header_word (of 8) 0x104) → ⊥)
unfolding are_bad is_bad accepts stand_from
before_the_check_shows = (
  refuses_acceptable (given eight_and_four refl).sound refl,
  (λ e. let z : ◌≡◌ {A = ℕ} 0xff 0x0b = ap (λ (l : List ℕ). get_or l 0 0) e in omega arith),
)
