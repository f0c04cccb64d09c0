-- THEOREMS. What any walk tells of a list that breaks, with a space and a room of their sizes, as request 3/13 of document 02 has it: of a start below the
-- floor, of a structure that points below the floor, and of one that points back, to itself, to the start or anywhere between; and that only the
-- pointers on the way there matter, whatever stands elsewhere. No walk that tells another number or another place meets the promise. Assumes nothing.
use Prim.Native.Nat.{ℕ, zero, suc, ◌≤◌, ◌<◌}
use mathlib.Core.List.{List}
use mathlib.Core.Path.{◌≡◌, refl, ap, ◌∙◌}
use native.Mathlib.Omega.{arith}
use Rattle.words.specs.Fields.{bits, word}
use Rattle.lists.specs.declared.Kind.{Kind}
use Rattle.lists.specs.declared.Kind.TheVariants.{Trusted}
use Rattle.lists.specs.Table.{ListRule, describe, trusted_start}
use Rattle.lists.specs.Chain.{first, follows}
use Rattle.lists.specs.Breaks.{met, holder, Below, Reached, Breaks, Breaks.falls, Breaks.turns}
use Rattle.lists.specs.Walks.{WholeSpace, Roomy, number_given, Walks, Walks.misdescribed, Walks.roomless, Walks.broken, Walks.listed, place_given, Walked}
use Rattle.lists.proofs.Breaking.{steps, SameWay, breaks_unique, breaks_unending, breaks_carried}

-- what every walk of a list tells, in a space and a room of their sizes
abbrev pub Tells : Kind → List ℕ → ℕ → ℕ → Type 0
Tells kind s number place =
    (room : List ℕ) (r : Walked) (after : List ℕ) → WholeSpace s → Roomy kind room → Walks kind s room r after
    → (number_given r ≡ number) × (place_given r ≡ place)

-- the statements. Of a list that breaks
abbrev pub ToldAsBroken : Type 0
ToldAsBroken = (kind : Kind) (s : List ℕ) (number place : ℕ) → Breaks (describe kind) s number place → Tells kind s number place

-- "0 where the start itself is at fault": any start below the floor; for the trusted list, 4 to 7
abbrev pub StartBelow : Type 0
StartBelow = (kind : Kind) (s : List ℕ) → (first (describe kind) s ≡ 0 → ⊥) → first (describe kind) s < (describe kind).floor → Tells kind s 11 0

abbrev pub TrustedStartBelow : Type 0
TrustedStartBelow = (s : List ℕ) → 4 ≤ bits 11 0 (word s 0x004) → bits 11 0 (word s 0x004) < 8 → Tells Trusted s 11 0

-- "the offset of the structure holding that pointer": the walk goes on by n pointers and the next, which leads to a structure. Its pointer is
-- below the floor
abbrev pub PointsBelow : Type 0
PointsBelow = (kind : Kind) (s : List ℕ) (n : ℕ) → Reached (describe kind) s (suc n) → Below (describe kind) s (suc n)
    → Tells kind s 11 (met (describe kind) s n)

-- or it leads to the offset that the k-th pointer led to: to itself, where k is n; to the start, where it is 0
abbrev pub PointsBack : Type 0
PointsBack = (kind : Kind) (s : List ℕ) (n k : ℕ) → Reached (describe kind) s (suc n) → k ≤ n
    → met (describe kind) s (suc n) ≡ met (describe kind) s k → Tells kind s 12 (met (describe kind) s n)

-- "the first fault is the one told": in a space with the same start, and the same pointer in each structure on the way, the list breaks alike, whatever
-- stands elsewhere
abbrev pub OnlyTheWay : Type 0
OnlyTheWay = (list : ListRule) (s t : List ℕ) (number place : ℕ) (b : Breaks list s number place) → first list s ≡ first list t
    → ((k : ℕ) → k < steps b → follows list s (met list s k) ≡ follows list t (met list s k)) → Breaks list t number place

-- a walk that tells another number or another place
abbrev pub OtherTold : Type 0
OtherTold = (kind : Kind) (s room : List ℕ) (number place : ℕ) (r : Walked) (after : List ℕ) → WholeSpace s → Roomy kind room
    → Breaks (describe kind) s number place → ((number_given r ≡ number) × (place_given r ≡ place) → ⊥) → Walks kind s room r after → ⊥

-- ---- the theorems

pub told_as_broken : ToldAsBroken
told_as_broken kind s number place b room r after whole roomy (misdescribed n a) = absurd (n whole)
told_as_broken kind s number place b room r after whole roomy (roomless h n a) = absurd (n roomy)
told_as_broken kind s number place b room r after whole roomy (broken h k other there o a) =
    let same = breaks_unique (describe kind) s other number there place o b in
    (a.given ∙ same.0, a.told ∙ same.1)
told_as_broken kind s number place b room r after whole roomy (listed h k chain l a) = absurd (breaks_unending b chain l)

none_before : {list : ListRule} {s : List ℕ} → Reached list s 0
none_before k small = absurd (omega arith)

pub start_below : StartBelow
unfolding met holder
start_below kind s some low = told_as_broken kind s 11 0 (falls 0 none_before (record { onward = some; low = low }) refl refl)

pub trusted_start_below : TrustedStartBelow
unfolding first trusted_start
trusted_start_below s low high = start_below Trusted s (λ z. omega arith) (omega arith)

pub points_below : PointsBelow
unfolding holder
points_below kind s n r b = told_as_broken kind s 11 (met (describe kind) s n) (falls (suc n) r b refl refl)

pub points_back : PointsBack
unfolding holder
points_back kind s n k r less same =
    told_as_broken kind s 12 (met (describe kind) s n) (turns (suc n) r (record { earlier = k; before = omega arith; same = same }) refl refl)

same_way : (list : ListRule) (s t : List ℕ) {n : ℕ} → first list s ≡ first list t
    → ((k : ℕ) → k < n → follows list s (met list s k) ≡ follows list t (met list s k)) → SameWay list s list t n
unfolding met
same_way list s t start pointers zero h = start
same_way list s t start pointers (suc k) h = pointers k h ∙ ap (follows list t) (same_way list s t start pointers k (omega arith))

pub only_the_way : OnlyTheWay
only_the_way list s t number place b start pointers = breaks_carried list list s t refl b (same_way list s t start pointers)

pub other_told : OtherTold
other_told kind s room number place r after whole roomy b other w = other (told_as_broken kind s number place b room r after whole roomy w)
