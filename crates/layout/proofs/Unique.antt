-- THEOREMS. A second result that meets the promise of an entry of this crate is the same result: the answer, and the room or the space afterwards. Assumes nothing.
use Prim.Native.Nat.{ℕ, zero, suc, ◌+◌, ◌-◌, ◌≤◌, ◌<◌}
use mathlib.Core.Bool.{Bool, true, false}
use mathlib.Core.List.{List, [], ◌∷◌, ◌++◌}
use mathlib.Core.Logic.{◌⊎◌, ⊎_elim}
use mathlib.Core.Logic.◌⊎◌.{inl, inr}
use mathlib.Core.Path.{◌≡◌, refl, sym, ap, ◌∙◌}
use native.Mathlib.Omega.{arith}
use borrow.Author.Tests.{ltb-true, ltb-false}
use lib.Dec.{ltb}
use lib.ListN.{length, drop}
use lib.Seq.{ext_get_or}
use Rattle.std.specs.Prelude.{⊤, Result}
use Rattle.answers.specs.Numbers.{answered}
use Rattle.answers.specs.declared.Refusal.{Refusal}
use Rattle.answers.proofs.Unique.{answer_tells}
use Rattle.words.specs.Bytes.{byte, four}
use Rattle.words.proofs.Laws.{four_at}
use Rattle.layout.specs.declared.Structure.{Structure}
use Rattle.layout.specs.Structures.{are_bad}
use Rattle.layout.specs.Accepting.{offset_at, Checks, Checks.misdescribed, Checks.unaccepted, Checks.accepted, Refuses}
use Rattle.layout.specs.Proposing.{Lowest, Plans, Plans.misdescribed, Plans.roomless, Plans.unplaced, Plans.proposed}
use Rattle.layout.specs.Laying.{InHeader, Written, Writes, Writes.misdescribed, Writes.unaccepted, Writes.written}
use Rattle.layout.proofs.Sound.{tested}

-- the statements
abbrev pub CheckUnique : Type 0
CheckUnique =
    (structures : List Structure) (offsets : List ℕ) (r q : Result ⊤ Refusal) → Checks structures offsets r → Checks structures offsets q → r ≡ q

abbrev pub PlanUnique : Type 0
PlanUnique =
    (structures : List Structure) (room : List ℕ) (r q : Result ⊤ Refusal) (l m : List ℕ) → Plans structures room r l → Plans structures room q m
    → (r ≡ q) × (l ≡ m)

abbrev pub WriteUnique : Type 0
WriteUnique =
    (structures : List Structure) (offsets s : List ℕ) (r q : Result ⊤ Refusal) (l m : List ℕ) → Writes structures offsets s r l
    → Writes structures offsets s q m → (r ≡ q) × (l ≡ m)

-- two answers with the same number, and a number that two answers can't both have
same : {r q : Result ⊤ Refusal} {n : ℕ} → answered r ≡ n → answered q ≡ n → r ≡ q
same {r} {q} e f = answer_tells ⊤ (λ x y. refl) r q (e ∙ sym f)

pub unlike : {b : Bool} → b ≡ true → b ≡ false → ⊥
unlike e f = cc

pub check_unique : CheckUnique
check_unique structures offsets r q (misdescribed bad e) (misdescribed x f) = same e f
check_unique structures offsets r q (misdescribed bad e) (unaccepted good n f) = absurd (unlike bad good)
check_unique structures offsets r q (misdescribed bad e) (accepted good a f) = absurd (unlike bad good)
check_unique structures offsets r q (unaccepted good n e) (misdescribed bad f) = absurd (unlike bad good)
check_unique structures offsets r q (unaccepted good n e) (unaccepted x m f) = same e f
check_unique structures offsets r q (unaccepted good n e) (accepted x a f) = absurd (n a)
check_unique structures offsets r q (accepted good a e) (misdescribed bad f) = absurd (unlike bad good)
check_unique structures offsets r q (accepted good a e) (unaccepted x n f) = absurd (n a)
check_unique structures offsets r q (accepted good a e) (accepted x b f) = same e f

-- ---- the planner: two lowest proposals are the same one

pub lowest_unique : {structures : List Structure} {a b : List ℕ} → Lowest structures a → Lowest structures b → a ≡ b
lowest_unique {a = a} {b = b} x y =
    let p = x.acceptable.each in
    let q = y.acceptable.each in
    ext_get_or 0 a b (p ∙ sym q)
    (λ k h.
    let low = x.lowest b y.acceptable k (omega arith) in
    let high = y.lowest a x.acceptable k (omega arith) in
    omega arith)

refused_same : {n : ℕ} {lent l m : List ℕ} {r q : Result ⊤ Refusal} → Refuses n lent r l → Refuses n lent q m → (r ≡ q) × (l ≡ m)
refused_same a b = (same a.given b.given, a.kept ∙ sym b.kept)

pub plan_unique : PlanUnique
plan_unique structures room r q l m (misdescribed bad a) (misdescribed x b) = refused_same a b
plan_unique structures room r q l m (misdescribed bad a) (roomless good h b) = absurd (unlike bad good)
plan_unique structures room r q l m (misdescribed bad a) (unplaced good h n b) = absurd (unlike bad good)
plan_unique structures room r q l m (misdescribed bad a) (proposed good h o low e f) = absurd (unlike bad good)
plan_unique structures room r q l m (roomless good h a) (misdescribed bad b) = absurd (unlike bad good)
plan_unique structures room r q l m (roomless good h a) (roomless x k b) = refused_same a b
plan_unique structures room r q l m (roomless good h a) (unplaced x k n b) = absurd (omega arith)
plan_unique structures room r q l m (roomless good h a) (proposed x k o low e f) = absurd (omega arith)
plan_unique structures room r q l m (unplaced good h n a) (misdescribed bad b) = absurd (unlike bad good)
plan_unique structures room r q l m (unplaced good h n a) (roomless x k b) = absurd (omega arith)
plan_unique structures room r q l m (unplaced good h n a) (unplaced x k o b) = refused_same a b
plan_unique structures room r q l m (unplaced good h n a) (proposed x k o low e f) = absurd (n o low.acceptable)
plan_unique structures room r q l m (proposed good h o low e f) (misdescribed bad b) = absurd (unlike bad good)
plan_unique structures room r q l m (proposed good h o low e f) (roomless x k b) = absurd (omega arith)
plan_unique structures room r q l m (proposed good h o low e f) (unplaced x k n b) = absurd (n o low.acceptable)
plan_unique structures room r q l m (proposed good h o low e f) (proposed x k p high g i) =
    (same e g, f ∙ ap (λ (offsets : List ℕ). offsets ++ drop (length offsets) room) (lowest_unique low high) ∙ sym i)

-- ---- the writer: every byte is a header's, or as it was

-- a byte is in a header word or in none
in_or_out : (offsets : List ℕ) (place : ℕ) → InHeader offsets place ⊎ (InHeader offsets place → ⊥)
in_or_out [] place = inr (λ i. omega (arith, i.one))
in_or_out (at ∷ offsets) place =
    let rest = in_or_out offsets place in
    tested (ltb place at) (λ t. behind rest (λ low high. omega (arith, ltb-true place at t)))
    (λ f.
    tested (ltb place (at + 4)) (λ t. inl (record { which = 0; one = omega arith; from = ltb-false _ _ f; before = ltb-true _ _ t }))
    (λ g. behind rest (λ low high. omega (arith, ltb-false place (at + 4) g))))
  where
    neither : (at ≤ place → place < at + 4 → ⊥) → (InHeader offsets place → ⊥) → (k : ℕ) → k < length (at ∷ offsets)
        → offset_at (at ∷ offsets) k ≤ place → place < offset_at (at ∷ offsets) k + 4 → ⊥
    neither out n zero h low high = out low high
    neither out n (suc k) h low high = n (record { which = k; one = omega arith; from = low; before = high })

    -- where it is not in the first, it is in one of the others, or in none
    behind : InHeader offsets place ⊎ (InHeader offsets place → ⊥) → (at ≤ place → place < at + 4 → ⊥)
        → InHeader (at ∷ offsets) place ⊎ (InHeader (at ∷ offsets) place → ⊥)
    behind rest out =
        ⊎_elim (λ i. inl (record { which = suc i.which; one = omega (arith, i.one); from = i.from; before = i.before }))
        (λ n. inr (λ i. neither out n i.which i.one i.from i.before)) rest

pub written_unique : {structures : List Structure} {offsets s l m : List ℕ} → Written structures offsets s l → Written structures offsets s m → l ≡ m
written_unique {offsets = offsets} {l = l} {m = m} a b =
    ext_get_or 0 l m (a.sized ∙ sym b.sized) (λ place h. ⊎_elim inside (λ out. a.others place out ∙ sym (b.others place out)) (in_or_out offsets place))
  where
    inside : {place : ℕ} → InHeader offsets place → byte l place ≡ byte m place
    inside {place} i =
        let at = offset_at offsets i.which in
        let split : place ≡ at + (place - at) = omega (arith, i.from) in
        let less : place - at < 4 = omega (arith, i.from, i.before) in
        let words : four l at ≡ four m at = a.headers i.which i.one ∙ sym (b.headers i.which i.one) in
        ap (byte l) split ∙ sym (four_at l at (place - at) less) ∙ ap (λ (w : List ℕ). byte w (place - at)) words ∙ four_at m at (place - at) less
        ∙ ap (byte m) (sym split)

-- a cause of 1 is there, or none is
pub blamed : (structures : List Structure) (s : List ℕ) → (length s ≡ 4096 → ⊥) ⊎ (are_bad structures ≡ true) → length s ≡ 4096
    → are_bad structures ≡ false → ⊥
blamed structures s cause whole good = ⊎_elim (λ n. n whole) (λ bad. unlike bad good) cause

pub write_unique : WriteUnique
write_unique structures offsets s r q l m (misdescribed x a) (misdescribed y b) = refused_same a b
write_unique structures offsets s r q l m (misdescribed x a) (unaccepted whole good n b) = absurd (blamed structures s x whole good)
write_unique structures offsets s r q l m (misdescribed x a) (written whole good n e w) = absurd (blamed structures s x whole good)
write_unique structures offsets s r q l m (unaccepted whole good n a) (misdescribed x b) = absurd (blamed structures s x whole good)
write_unique structures offsets s r q l m (unaccepted whole good n a) (unaccepted h g k b) = refused_same a b
write_unique structures offsets s r q l m (unaccepted whole good n a) (written h g k e w) = absurd (n k)
write_unique structures offsets s r q l m (written whole good n e w) (misdescribed x b) = absurd (blamed structures s x whole good)
write_unique structures offsets s r q l m (written whole good n e w) (unaccepted h g k b) = absurd (k n)
write_unique structures offsets s r q l m (written whole good n e w) (written h g k f v) = (same e f, written_unique w v)
