-- THEOREMS. A good list, place by place: `bad_list` says no exactly if there are at most 32 ports, no secondary exceeds its subordinate, and no two
-- ports at different places meet. Two ranges in order meet exactly if a bus is in both. Assumes nothing.
use Prim.Native.Nat.{ℕ, zero, suc, ◌≤◌, ◌<◌, max}
use mathlib.Core.Bool.{true, false, ◌||◌}
use mathlib.Core.List.{List, [], ◌∷◌}
use mathlib.Core.Logic.{◌↔◌}
use mathlib.Core.Path.{◌≡◌, refl}
use native.Mathlib.Nat.{le-max_left, le-max_right, max-le}
use native.Mathlib.Omega.{arith}
use lib.Dec.{ltb, leb}
use lib.ListN.{length, get_or}
use borrow.Author.Tests.{le-ltb, ltb-false, le-leb, leb-true}
use Rattle.std.proofs.Math.Bool.{and_comm}
use Rattle.std.proofs.lemmas.Bool.{and_parts, or_parts}
use Rattle.ports.specs.declared.Port.{Port}
use Rattle.ports.specs.Ports.{has, exceeds, meet, one_exceeds, meets_one_of, two_meet, bad_list}
use Rattle.ports.specs.Noting.{no_port}

-- the port at a place
abbrev pub port_at : List Port → ℕ → Port
port_at ps i = get_or ps i no_port

-- of the first n ports, each is in order, and no two at different places meet
pub record Sound (ps : List Port) (n : ℕ) : Type 0 where
  pub ordered : (i : ℕ) → i < n → (port_at ps i).secondary ≤ (port_at ps i).subordinate
  pub apart : (i j : ℕ) → i < j → j < n → meet (port_at ps i) (port_at ps j) ≡ false

pub record Good (ps : List Port) : Type 0 where
  pub few : length ps ≤ 32
  pub sound : Sound ps (length ps)

-- the statements
abbrev pub GoodIff : Type 0
GoodIff = (ps : List Port) → (bad_list ps ≡ false) ↔ Good ps

abbrev pub InBoth : Port → Port → ℕ → Type 0
InBoth p q x = (has p x ≡ true) × (has q x ≡ true)

abbrev pub MeetIff : Type 0
MeetIff =
    (p q : Port) → p.secondary ≤ p.subordinate → q.secondary ≤ q.subordinate → (meet p q ≡ true) ↔ ((x : ℕ) × InBoth p q x)

abbrev pub MeetComm : Type 0
MeetComm = (p q : Port) → meet p q ≡ meet q p

-- ---- a bus in a range

pub has_is : (p : Port) (x : ℕ) → has p x ≡ true → (p.secondary ≤ x) × (x ≤ p.subordinate)
has_is p x e = let b = and_parts (leb p.secondary x) (leb x p.subordinate) e in (leb-true _ _ b.0, leb-true _ _ b.1)

pub is_has : (p : Port) (x : ℕ) → p.secondary ≤ x → x ≤ p.subordinate → has p x ≡ true
is_has p x l u = rw (le-leb p.secondary x l, le-leb x p.subordinate u)

-- ---- two ranges

pub meet_comm : MeetComm
meet_comm p q = and_comm (leb p.secondary q.subordinate) (leb q.secondary p.subordinate)

pub in_both_meet : (p q : Port) (x : ℕ) → has p x ≡ true → has q x ≡ true → meet p q ≡ true
in_both_meet p q x e f =
    let a = has_is p x e in
    let b = has_is q x f in
    rw (le-leb p.secondary q.subordinate (omega arith), le-leb q.secondary p.subordinate (omega arith))

pub meet_in_both : (p q : Port) → p.secondary ≤ p.subordinate → q.secondary ≤ q.subordinate → meet p q ≡ true
    → InBoth p q (max p.secondary q.secondary)
meet_in_both p q o r e =
    let b = and_parts (leb p.secondary q.subordinate) (leb q.secondary p.subordinate) e in
    let l = leb-true _ _ b.0 in
    let u = leb-true _ _ b.1 in (
      is_has p _ (le-max_left p.secondary q.secondary) (max-le o u),
      is_has q _ (le-max_right p.secondary q.secondary) (max-le l r),
    )

pub meet_iff : MeetIff
meet_iff p q o r = (λ e. (max p.secondary q.secondary, meet_in_both p q o r e), λ h. in_both_meet p q h.0 h.1.0 h.1.1)

-- ---- the lists, place by place

in_order : (p : Port) → exceeds p ≡ false → p.secondary ≤ p.subordinate
in_order p e = ltb-false p.subordinate p.secondary e

each_ordered : (ps : List Port) → one_exceeds ps ≡ false → (i : ℕ) → i < length ps → (port_at ps i).secondary ≤ (port_at ps i).subordinate
each_ordered [] e i h = absurd (omega arith)
each_ordered (p ∷ ps) e zero h = in_order p (or_parts (exceeds p) (one_exceeds ps) e).0
each_ordered (p ∷ ps) e (suc i) h = each_ordered ps (or_parts (exceeds p) (one_exceeds ps) e).1 i (omega arith)

none_exceeds : (ps : List Port) → ((i : ℕ) → i < length ps → (port_at ps i).secondary ≤ (port_at ps i).subordinate) → one_exceeds ps ≡ false
none_exceeds [] o = refl
none_exceeds (p ∷ ps) o = rw (le-ltb p.subordinate p.secondary (o 0 (omega arith))) (none_exceeds ps (λ i h. o (suc i) (omega arith)))

meets_none : (p : Port) (qs : List Port) → meets_one_of p qs ≡ false → (i : ℕ) → i < length qs → meet p (port_at qs i) ≡ false
meets_none p [] e i h = absurd (omega arith)
meets_none p (q ∷ qs) e zero h = (or_parts (meet p q) (meets_one_of p qs) e).0
meets_none p (q ∷ qs) e (suc i) h = meets_none p qs (or_parts (meet p q) (meets_one_of p qs) e).1 i (omega arith)

none_met : (p : Port) (qs : List Port) → ((i : ℕ) → i < length qs → meet p (port_at qs i) ≡ false) → meets_one_of p qs ≡ false
none_met p [] a = refl
none_met p (q ∷ qs) a = rw (a 0 (omega arith)) (none_met p qs (λ i h. a (suc i) (omega arith)))

each_apart : (ps : List Port) → two_meet ps ≡ false → (i j : ℕ) → i < j → j < length ps → meet (port_at ps i) (port_at ps j) ≡ false
each_apart [] e i j h l = absurd (omega arith)
each_apart (p ∷ ps) e i zero h l = absurd (omega arith)
each_apart (p ∷ ps) e zero (suc j) h l = meets_none p ps (or_parts (meets_one_of p ps) (two_meet ps) e).0 j (omega arith)
each_apart (p ∷ ps) e (suc i) (suc j) h l = each_apart ps (or_parts (meets_one_of p ps) (two_meet ps) e).1 i j (omega arith) (omega arith)

no_two_meet : (ps : List Port) → ((i j : ℕ) → i < j → j < length ps → meet (port_at ps i) (port_at ps j) ≡ false) → two_meet ps ≡ false
no_two_meet [] a = refl
no_two_meet (p ∷ ps) a =
    rw (none_met p ps (λ j l. a 0 (suc j) (omega arith) (omega arith)))
    (no_two_meet ps (λ i j h l. a (suc i) (suc j) (omega arith) (omega arith)))

-- ---- the whole list

pub good_of : (ps : List Port) → bad_list ps ≡ false → Good ps
unfolding bad_list
good_of ps e =
    let a = or_parts (ltb 32 (length ps)) (one_exceeds ps || (two_meet ps || false)) e in
    let b = or_parts (one_exceeds ps) (two_meet ps || false) a.1 in
    let c = or_parts (two_meet ps) false b.1 in
    record { few = ltb-false 32 (length ps) a.0; sound = record { ordered = each_ordered ps b.0; apart = each_apart ps c.0 } }

pub of_good : (ps : List Port) → Good ps → bad_list ps ≡ false
unfolding bad_list
of_good ps g =
    rw (le-ltb 32 (length ps) g.few, none_exceeds ps g.sound.ordered, no_two_meet ps g.sound.apart)

pub good_iff : GoodIff
good_iff ps = (good_of ps, of_good ps)
