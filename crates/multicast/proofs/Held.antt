-- Laws of the ports that a group leaves by: of one port, and of a set that has those from a place on. Assumes nothing.
use Prim.Native.Nat.{ℕ, zero, suc, ◌+◌, ◌-◌, ◌*◌, ◌%◌, ◌^◌, ◌≤◌, ◌<◌}
use mathlib.Core.Bool.{Bool, true, false, ◌&&◌, cond}
use mathlib.Core.List.{List, [], ◌∷◌}
use mathlib.Core.Path.{◌≡◌, refl, sym, ap, subst, ◌∙◌}
use native.Mathlib.Nat.{add-zero, le_refl, mod-eq_of_lt, pow-suc}
use native.Mathlib.Omega.{arith}
use borrow.Author.Tests.{eq-eqb, ne_eqb, lt-ltb, le-ltb}
use lib.Pow.{pow_mono, pow_pos}
use lib.Dec.{eqb}
use lib.ListN.{length, take, drop, length-drop}
use lib.Seq.{take_all, length-take-le, get_or-take, get_or-drop}
use Rattle.std.specs.Prelude.{reverse}
use Rattle.std.specs.List.{fold}
use Rattle.std.proofs.lemmas.Grind.{reverse_onto}
use Rattle.std.proofs.lemmas.List.Sums.{fold-append}
use Rattle.words.specs.Fields.{bit}
use Rattle.multicast.specs.declared.Record.{Record}
use Rattle.multicast.specs.Capability.{receive, no_fields}
use Rattle.multicast.specs.Judging.{port_at, is_member}
use Rattle.multicast.specs.Inner.{member_bit, HoldsFrom, put_below, SetOf}
use Rattle.multicast.proofs.Sets.{bit_small, bit_above, below_set, lowest_bit, higher_bit}

-- a bit as a test, and back
as_test : (b : ℕ) → b < 2 → b ≡ cond (eqb b 1 && true) 1 0
as_test zero h = refl
as_test (suc zero) h = refl
as_test (suc (suc b)) h = absurd (omega arith)

-- one place more has room for one bit more
pub most_down : (count place set t : ℕ) → place < count → t < 2 → set < 2 ^ (count - (place + 1)) → set * 2 + t < 2 ^ (count - place)
most_down count place set t h small l =
    rw (ap (λ (n : ℕ). 2 ^ n) one_more ∙ pow-suc 2 (count - (place + 1))) (omega arith)
  where
    one_more : count - place ≡ suc (count - (place + 1))
    one_more = omega arith

module _ (ports : List Record) (entering group : ℕ) where
  pub member_entering : (k : ℕ) → k < length ports → k ≡ entering → 0 ≡ member_bit ports entering group k
  unfolding is_member
  member_entering k h e = rw (lt-ltb k (length ports) h, eq-eqb k entering e)

  pub member_other : (k : ℕ) → k < length ports → (k ≡ entering → ⊥) → bit group (receive (port_at ports k)) ≡ member_bit ports entering group k
  unfolding is_member
  member_other k h n =
      rw (lt-ltb k (length ports) h, ne_eqb k entering n) (as_test (bit group (receive (port_at ports k))) (bit_small group (receive (port_at ports k))))

  pub member_past : (k : ℕ) → length ports ≤ k → member_bit ports entering group k ≡ 0
  unfolding is_member
  member_past k h = rw (le-ltb k (length ports) h)

  pub member_small : (k : ℕ) → member_bit ports entering group k < 2
  member_small k = small (is_member ports entering group k)
    where
      small : (b : Bool) → cond b 1 0 < 2
      small true = omega arith
      small false = omega arith

  -- a set that has the members from a place on
  pub holds_end : HoldsFrom ports entering group (length ports) 0
  holds_end =
      record { each = λ k. bit_above k 0 0 (omega arith) (omega arith) ∙ sym (member_past (length ports + k) (omega arith)); most = pow_pos (length ports - length ports) }

  -- and with the place below
  pub holds_down : (place set t : ℕ) → place < length ports → t ≡ member_bit ports entering group place → HoldsFrom ports entering group (place + 1) set
      → HoldsFrom ports entering group place (set * 2 + t)
  holds_down place set t h e s = record { each = each; most = most_down (length ports) place set t h small s.most }
    where
      small : t < 2
      small = rw e (member_small place)

      each : (k : ℕ) → bit k (set * 2 + t) ≡ member_bit ports entering group (place + k)
      each zero = lowest_bit set t small ∙ e ∙ ap (member_bit ports entering group) (omega arith)
      each (suc k) = higher_bit set t small k ∙ s.each k ∙ ap (member_bit ports entering group) (omega arith)

  pub holds_all : (set : ℕ) → length ports ≤ 32 → HoldsFrom ports entering group 0 set → SetOf ports entering group set
  holds_all set h s =
      record {
        each = λ k l. s.each k ∙ ap (member_bit ports entering group) (omega arith);
        most = wide (2 ^ (length ports - 0)) (2 ^ 32) s.most (pow_mono {i = length ports - 0} {j = 32} (omega arith));
      }
    where
      wide : (a b : ℕ) → set < a → a ≤ b → set < b
      wide a b l m = omega arith

-- ---- what is gathered

-- a number below one power of two is below a higher one
lower : (n i j : ℕ) → n < 2 ^ i → i ≤ j → n < 2 ^ j
lower n i j h l = wide (2 ^ i) (2 ^ j) h (pow_mono l)
  where
    wide : (a b : ℕ) → n < a → a ≤ b → n < b
    wide a b l m = omega arith

module _ (ports : List Record) (entering group : ℕ) (few : length ports ≤ 32) where
  -- a part of the list: what each of its ports receives is what the port receives that stands in its place
  abbrev Part : List Record → ℕ → Type 0
  Part part from = (k : ℕ) → k < length part → receive (port_at part k) ≡ receive (port_at ports (from + k))

  -- a port of the list, below a set that has the members behind it
  put : (port : Record) (from set : ℕ) → from < length ports → (from ≡ entering → ⊥) → receive port ≡ receive (port_at ports from)
      → HoldsFrom ports entering group (from + 1) set → HoldsFrom ports entering group from (put_below group set port)
  put port from set h apart same s =
      rw (below_set set (bit group (receive port)) (bit_small group (receive port)) (lower set (length ports - (from + 1)) 31 s.most (omega arith)))
      (holds_down ports entering group from set (bit group (receive port)) h (ap (bit group) same ∙ member_other ports entering group from h apart) s)

  -- below a set that has the members behind a part, the members of the part, where the place that is entered by is none of it
  gathered : (part : List Record) (from set : ℕ) → Part part from → from + length part ≤ length ports
      → ((k : ℕ) → from ≤ k → k < from + length part → k ≡ entering → ⊥) → HoldsFrom ports entering group (from + length part) set
      → HoldsFrom ports entering group from (fold (put_below group) set (reverse part))
  gathered [] from set same inside apart s = subst (λ (n : ℕ). HoldsFrom ports entering group n set) (add-zero from) s
  gathered (port ∷ part) from set same inside apart s =
      rw (reverse_onto part port [], fold-append (put_below group) set (reverse part) (port ∷ []))
      (put port from (fold (put_below group) set (reverse part)) (omega arith) (apart from (le_refl from) (omega arith)) (same 0 (omega arith) ∙ ap (λ (n : ℕ). receive (port_at ports n)) (add-zero from))
      (gathered part (from + 1) set (λ k h. same (suc k) (omega arith) ∙ ap (λ (n : ℕ). receive (port_at ports n)) (omega arith)) (omega arith)
      (λ k l h. apart k (omega arith) (omega arith)) (subst (λ (n : ℕ). HoldsFrom ports entering group n set) (omega arith) s)))

-- a place is left out: the set above it, and a 0 for it
module _ (ports : List Record) (entering group set : ℕ) (h : entering < length ports) where
  pub holds_entering : HoldsFrom ports entering group (entering + 1) set → HoldsFrom ports entering group entering (set * 2)
  holds_entering s =
      subst (HoldsFrom ports entering group entering) (omega arith) (holds_down ports entering group entering set 0 h (member_entering ports entering group entering h refl) s)

-- ---- twice: the ports above the one that is entered by, and, with a 0 for that, those below

module _ (ports : List Record) (entering group : ℕ) (h : entering < length ports) (few : length ports ≤ 32) where
  pub gathered_all : (above set : ℕ) → above ≡ fold (put_below group) 0 (reverse (take (length ports - (entering + 1)) (drop (entering + 1) ports)))
      → set ≡ fold (put_below group) (above * 2 % 2 ^ 32) (reverse (take entering ports)) → SetOf ports entering group set
  gathered_all above set e f =
      holds_all ports entering group set few
      (rw (f, mod-eq_of_lt {n = above * 2} {m = 2 ^ 32} (omega (arith, lower above (length ports - (entering + 1)) 31 upper.most (omega arith))))
      (gathered ports entering group few (take entering ports) 0 (above * 2) (λ k l. ap receive (get_or-take entering ports k no_fields (omega (arith, many))) ∙ ap (λ (n : ℕ). receive (port_at ports n)) (omega arith)) (omega (arith, many))
      (λ k i l. λ same. omega (arith, many)) (subst (λ (n : ℕ). HoldsFrom ports entering group n (above * 2)) (omega (arith, many)) (holds_entering ports entering group above h upper))))
    where
      many : length (take entering ports) ≡ entering
      many = length-take-le entering ports (omega arith)

      behind : length (drop (entering + 1) ports) ≡ length ports - (entering + 1)
      behind = length-drop (entering + 1) ports

      upper : HoldsFrom ports entering group (entering + 1) above
      upper =
          rw (e, take_all (length ports - (entering + 1)) (drop (entering + 1) ports) (omega (arith, behind)))
          (gathered ports entering group few (drop (entering + 1) ports) (entering + 1) 0 (λ k l. ap receive (get_or-drop (entering + 1) ports k no_fields)) (omega (arith, behind))
          (λ k i l. λ same. omega (arith, behind)) (subst (λ (n : ℕ). HoldsFrom ports entering group n 0) (omega (arith, behind)) (holds_end ports entering group)))
