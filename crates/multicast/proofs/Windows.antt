-- THEOREMS. What an address hits at a port. It hits a group exactly if the port is enabled, the group is at most Num Group, and the address is in the group's
-- window. The window of group g is exactly 2^index addresses, one after the other, the first at base + g × 2^index, in natural numbers: of one that would end
-- past 2^64 the addresses below are those of it. And no address is in two windows of a port, so it hits one group at most. Assumes nothing.
use Prim.Native.Nat.{ℕ, ◌+◌, ◌-◌, ◌*◌, ◌/◌, ◌^◌, ◌≤◌, ◌<◌}
use mathlib.Core.Bool.{true}
use mathlib.Core.Logic.{◌↔◌}
use mathlib.Core.Path.{◌≡◌, sym, ap, ◌∙◌}
use native.Mathlib.Nat.{add-mul, one-mul, div-mul-le_self, lt-div-mul-add, div-eq_of_lt-le}
use native.Mathlib.Omega.{arith}
use borrow.Author.Tests.{leb-true, le-leb}
use lib.Dec.{leb}
use lib.Pow.{pow_pos}
use Rattle.multicast.specs.declared.Record.{Record}
use Rattle.multicast.specs.Capability.{num_group, index, base, is_enabled}
use Rattle.multicast.specs.Judging.{group_of, is_hit}
use Rattle.multicast.proofs.Facts.{both}

-- the first address of a group's window, and whether an address is in it
abbrev pub start : Record → ℕ → ℕ
start r g = base r + g * 2 ^ index r

pub record Window (r : Record) (g address : ℕ) : Type 0 where
  pub from : start r g ≤ address
  pub below : address < start r g + 2 ^ index r

-- the statements
pub record HitsGroup (r : Record) (g address : ℕ) : Type 0 where
  pub enabled : is_enabled r ≡ true
  pub most : g ≤ num_group r
  pub window : Window r g address

abbrev pub HitsExactly : Type 0
HitsExactly = (r : Record) (g address : ℕ) → ((is_hit r address ≡ true) × (group_of r address ≡ g)) ↔ HitsGroup r g address

abbrev pub WindowExactly : Type 0
WindowExactly = (r : Record) (g address : ℕ) → Window r g address ↔ ((k : ℕ) × (k < 2 ^ index r) × (address ≡ start r g + k))

abbrev pub OneWindow : Type 0
OneWindow = (r : Record) (g h address : ℕ) → Window r g address → Window r h address → g ≡ h

abbrev pub OneGroup : Type 0
OneGroup = (r : Record) (g h address : ℕ) → HitsGroup r g address → HitsGroup r h address → g ≡ h

-- ---- a quotient, by the bounds of what is divided

module _ (b d g address : ℕ) (positive : 0 < d) where
  quotient_in : b ≤ address → (address - b) / d ≡ g → (b + g * d ≤ address) × (address < b + g * d + d)
  quotient_in h e =
      let floor : g * d ≤ address - b = rw (← e) (div-mul-le_self (address - b) d) in
      let next : address - b < g * d + d = rw (← e) (lt-div-mul-add positive) in
      (omega arith, omega arith)

  quotient_of : b + g * d ≤ address → address < b + g * d + d → (address - b) / d ≡ g
  quotient_of h k =
      let more : (g + 1) * d ≡ g * d + d = add-mul g 1 d ∙ ap (λ (x : ℕ). g * d + x) (one-mul d) in
      div-eq_of_lt-le d (omega arith) (rw more (omega arith))

pub hits_exactly : HitsExactly
unfolding is_hit
hits_exactly r g address = (to, back)
  where
    to : ((is_hit r address ≡ true) × (group_of r address ≡ g)) → HitsGroup r g address
    to (h, e) =
        let a = both (is_enabled r) _ h in
        let b = both (leb (base r) address) _ a.1 in
        let c = both (leb (group_of r address) (num_group r)) true b.1 in
        let q = quotient_in (base r) (2 ^ index r) g address (pow_pos (index r)) (leb-true (base r) address b.0) e in
        record {
          enabled = a.0;
          most = omega (arith, leb-true (group_of r address) (num_group r) c.0, e);
          window = record { from = q.0; below = q.1 };
        }

    back : HitsGroup r g address → (is_hit r address ≡ true) × (group_of r address ≡ g)
    back h =
        let e = quotient_of (base r) (2 ^ index r) g address (pow_pos (index r)) h.window.from h.window.below in
        (rw (h.enabled, le-leb (base r) address (omega (arith, h.window.from)), e, le-leb g (num_group r) h.most), e)

pub window_exactly : WindowExactly
window_exactly r g address = (
  (λ w. (address - start r g, omega (arith, w.from, w.below), omega (arith, w.from))),
  (λ (k, h, e). record { from = omega arith; below = omega arith }),
)

pub one_group : OneGroup
one_group r g h address a b = sym ((hits_exactly r g address).1 a).1 ∙ ((hits_exactly r h address).1 b).1

pub one_window : OneWindow
one_window r g h address a b =
    sym (quotient_of (base r) (2 ^ index r) g address (pow_pos (index r)) a.from a.below)
    ∙ quotient_of (base r) (2 ^ index r) h address (pow_pos (index r)) b.from b.below
