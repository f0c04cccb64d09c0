-- THEOREM. The choice does not depend on the ports' order but for its place: a list with the same ports in another order is bad or good like it, and of
-- good ones the same port is chosen, or none. Assumes nothing.
use Prim.Native.Nat.{ℕ, suc}
use mathlib.Core.Bool.{Bool, true, false, cond, ◌||◌, true≢false}
use mathlib.Core.List.{List, [], ◌∷◌}
use mathlib.Core.Path.{◌≡◌, refl, sym, ap, ap₂, ◌∙◌}
use Rattle.std.proofs.lemmas.Bool.{or_parts}
use Rattle.std.specs.Prelude.{Option, Some, None, Ok, Err}
use lib.Dec.{ltb}
use lib.ListN.{length}
use Rattle.ports.specs.declared.Port.{Port}
use Rattle.ports.specs.declared.Exit.{Exit}
use Rattle.ports.specs.Ports.{has, exceeds, meet, one_exceeds, meets_one_of, two_meet, bad_list}
use Rattle.ports.specs.Choice.{Choice, exit_at, list_refused, port_from, choice}
use Rattle.ports.proofs.Pairs.{meet_comm, in_both_meet}

-- the same ports in another order
pub data Reordered : List Port → List Port → Type 0 where
  none : Reordered [] []
  keep : (p : Port) (ps qs : List Port) → Reordered ps qs → Reordered (p ∷ ps) (p ∷ qs)
  swap : (p q : Port) (ps : List Port) → Reordered (p ∷ q ∷ ps) (q ∷ p ∷ ps)
  next : (ps qs rs : List Port) → Reordered ps qs → Reordered qs rs → Reordered ps rs

-- a choice but for its place
abbrev pub unplaced_exit : Option Exit → Option Exit
unplaced_exit None = None
unplaced_exit (Some e) = Some (exit_at 0 e.port)

abbrev pub unplaced : Choice → Choice
unplaced (Ok o) = Ok (unplaced_exit o)
unplaced (Err e) = Err e

-- the statement
abbrev pub OrderFree : Type 0
OrderFree = (ps qs : List Port) → Reordered ps qs → (bus : ℕ) → unplaced (choice ps bus) ≡ unplaced (choice qs bus)

-- ---- a list is bad in any order

same_length : {ps qs : List Port} → Reordered ps qs → length ps ≡ length qs
same_length Reordered.none = refl
same_length (Reordered.keep p ps qs r) = ap suc (same_length r)
same_length (Reordered.swap p q ps) = refl
same_length (Reordered.next ps qs rs r s) = same_length r ∙ same_length s

or_swap : (a b c : Bool) → a || (b || c) ≡ b || (a || c)
or_swap true true c = refl
or_swap true false c = refl
or_swap false true c = refl
or_swap false false c = refl

same_exceeds : {ps qs : List Port} → Reordered ps qs → one_exceeds ps ≡ one_exceeds qs
same_exceeds Reordered.none = refl
same_exceeds (Reordered.keep p ps qs r) = ap (λ (b : Bool). exceeds p || b) (same_exceeds r)
same_exceeds (Reordered.swap p q ps) = or_swap (exceeds p) (exceeds q) (one_exceeds ps)
same_exceeds (Reordered.next ps qs rs r s) = same_exceeds r ∙ same_exceeds s

same_meets : (x : Port) {ps qs : List Port} → Reordered ps qs → meets_one_of x ps ≡ meets_one_of x qs
same_meets x Reordered.none = refl
same_meets x (Reordered.keep p ps qs r) = ap (λ (b : Bool). meet x p || b) (same_meets x r)
same_meets x (Reordered.swap p q ps) = or_swap (meet x p) (meet x q) (meets_one_of x ps)
same_meets x (Reordered.next ps qs rs r s) = same_meets x r ∙ same_meets x s

-- two at the front, one way round and the other
or_front : (m a b c : Bool) → (m || a) || (b || c) ≡ (m || b) || (a || c)
or_front true a b c = refl
or_front false a b c = or_swap a b c

same_two : {ps qs : List Port} → Reordered ps qs → two_meet ps ≡ two_meet qs
same_two Reordered.none = refl
same_two (Reordered.keep p ps qs r) = ap₂ (λ (a b : Bool). a || b) (same_meets p r) (same_two r)
same_two (Reordered.swap p q ps) =
    or_front (meet p q) (meets_one_of p ps) (meets_one_of q ps) (two_meet ps)
    ∙ ap (λ (m : Bool). (m || meets_one_of q ps) || (meets_one_of p ps || two_meet ps)) (meet_comm p q)
same_two (Reordered.next ps qs rs r s) = same_two r ∙ same_two s

pub same_bad : (ps qs : List Port) → Reordered ps qs → bad_list ps ≡ bad_list qs
unfolding bad_list
same_bad ps qs r = rw (same_length r, same_exceeds r, same_two r)

-- ---- and of a good one the same port is chosen

place_free : (ps : List Port) (k m bus : ℕ) → unplaced_exit (port_from k ps bus) ≡ unplaced_exit (port_from m ps bus)
place_free [] k m bus = refl
place_free (p ∷ ps) k m bus = go (has p bus) (place_free ps (suc k) (suc m) bus)
  where
    go : (b : Bool) → unplaced_exit (port_from (suc k) ps bus) ≡ unplaced_exit (port_from (suc m) ps bus)
        → unplaced_exit (cond b (Some (exit_at k p)) (port_from (suc k) ps bus)) ≡ unplaced_exit (cond b (Some (exit_at m p)) (port_from (suc m) ps bus))
    go true e = refl
    go false e = e

same_port : {ps qs : List Port} → Reordered ps qs → two_meet ps ≡ false → (k bus : ℕ) → unplaced_exit (port_from k ps bus) ≡ unplaced_exit (port_from k qs bus)
same_port Reordered.none z k bus = refl
same_port (Reordered.keep p ps qs r) z k bus = go (has p bus) (same_port r (or_parts (meets_one_of p ps) (two_meet ps) z).1 (suc k) bus)
  where
    go : (b : Bool) → unplaced_exit (port_from (suc k) ps bus) ≡ unplaced_exit (port_from (suc k) qs bus)
        → unplaced_exit (cond b (Some (exit_at k p)) (port_from (suc k) ps bus)) ≡ unplaced_exit (cond b (Some (exit_at k p)) (port_from (suc k) qs bus))
    go true e = refl
    go false e = e
same_port (Reordered.swap p q ps) z k bus = go (has p bus) (has q bus) refl refl
  where
    apart : meet p q ≡ false
    apart = (or_parts (meet p q) (meets_one_of p ps) (or_parts (meet p q || meets_one_of p ps) (two_meet (q ∷ ps)) z).0).0

    go : (a b : Bool) → has p bus ≡ a → has q bus ≡ b
        → unplaced_exit (cond a (Some (exit_at k p)) (cond b (Some (exit_at (suc k) q)) (port_from (suc (suc k)) ps bus)))
        ≡ unplaced_exit (cond b (Some (exit_at k q)) (cond a (Some (exit_at (suc k) p)) (port_from (suc (suc k)) ps bus)))
    go true true e f = absurd (true≢false (sym (in_both_meet p q bus e f) ∙ apart))
    go true false e f = refl
    go false true e f = refl
    go false false e f = refl
same_port (Reordered.next ps qs rs r s) z k bus = same_port r z k bus ∙ same_port s (sym (same_two r) ∙ z) k bus

pub order_free : OrderFree
unfolding choice bad_list
order_free ps qs r bus = go (bad_list ps) (bad_list qs) refl (sym (same_bad ps qs r))
  where
    two : (l : List Port) → bad_list l ≡ false → two_meet l ≡ false
    two l e = (or_parts (two_meet l) false (or_parts (one_exceeds l) (two_meet l || false) (or_parts (ltb 32 (length l)) (one_exceeds l || (two_meet l || false)) e).1).1).0

    go : (a b : Bool) → bad_list ps ≡ a → bad_list qs ≡ bad_list ps → unplaced (cond (bad_list ps) (Err list_refused) (Ok (port_from 0 ps bus))) ≡ unplaced (cond (bad_list qs) (Err list_refused) (Ok (port_from 0 qs bus)))
    go true b e f = rw (f, e)
    go false b e f = rw (f, e) (ap Ok (same_port r (two ps e) 0 bus))
