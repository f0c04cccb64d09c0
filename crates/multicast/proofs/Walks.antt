-- Laws of a list of ports of which each is tested: what is known of each port of a list that passed. Assumes nothing.
use Prim.Native.Nat.{ℕ, zero, suc, ◌<◌}
use mathlib.Core.Bool.{Bool, true, false, ◌&&◌}
use mathlib.Core.List.{List, [], ◌∷◌}
use mathlib.Core.Path.{◌≡◌, refl, sym}
use native.Mathlib.Omega.{arith}
use lib.ListN.{length, get_or}
use Rattle.std.specs.Bool.{MatchBool}
use Rattle.std.specs.List.{AllWithin, HoldsAt}
use Rattle.multicast.specs.declared.Record.{Record}
use Rattle.multicast.specs.Judging.{port_at}
use Rattle.multicast.specs.Records.{is_record, are_records}
use Rattle.multicast.proofs.Facts.{both}

pub record_among : (ports : List Record) (k : ℕ) → are_records ports ≡ true → k < length ports → is_record (port_at ports k) ≡ true
record_among [] k e h = absurd (omega arith)
record_among (r ∷ rs) zero e h = (both (is_record r) (are_records rs) e).0
record_among (r ∷ rs) (suc k) e h = record_among rs k (both (is_record r) (are_records rs) e).1 (omega arith)

-- what a walk found that stops at the first that is none
pub all_or_one_not : (ports : List Record) (said : Bool)
    → MatchBool said (AllWithin (λ r. is_record r ≡ true) ports 0 (length ports)) ((k : ℕ) × (k < length ports) × HoldsAt (λ r. is_record r ≡ false) ports k)
    → said ≡ are_records ports
all_or_one_not ports true all = sym (each ports (λ k d h. all k d (omega arith) h))
  where
    each : (ports : List Record) → ((k : ℕ) (d : Record) → k < length ports → is_record (get_or ports k d) ≡ true) → are_records ports ≡ true
    each [] all = refl
    each (r ∷ rs) all = rw (all 0 r (omega arith)) (each rs (λ k d h. all (suc k) d (omega arith)))
all_or_one_not ports false (k, h, other) = sym (one ports k h other)
  where
    one : (ports : List Record) (k : ℕ) → k < length ports → ((d : Record) → is_record (get_or ports k d) ≡ false) → are_records ports ≡ false
    one [] k h other = absurd (omega arith)
    one (r ∷ rs) zero h other = rw (other r)
    one (r ∷ rs) (suc k) h other = go (is_record r) (one rs k (omega arith) other)
      where
        go : (b : Bool) → are_records rs ≡ false → b && are_records rs ≡ false
        go true e = e
        go false e = refl
