-- Laws of tests that are lists of facts: what each of them says where the test passes. Assumes nothing.
use Prim.Native.Nat.{◌%◌, ◌≤◌}
use mathlib.Core.Bool.{Bool, true, false, not, ◌&&◌}
use mathlib.Core.List.{[], ◌∷◌}
use mathlib.Core.Path.{◌≡◌, refl}
use borrow.Author.Tests.{ltb-false, leb-true, eqb-true, eqb-false, ne_eqb, not-true}
use lib.Dec.{eqb, leb, ltb}
use Rattle.answers.proofs.Checks.{none_of}
use Rattle.multicast.specs.declared.Record.{Record}
use Rattle.multicast.specs.Capability.{max_group, num_group, enable, index, base, is_enabled, clashes}
use Rattle.multicast.specs.Records.{is_record}

pub both : (a b : Bool) → a && b ≡ true → (a ≡ true) × (b ≡ true)
both true b e = (refl, e)
both false b e = (e, absurd (eqb-false 0 1 refl (eqb-true 0 1 e)))

one_of_two : (a b : Bool) → a && b ≡ false → a ≡ true → b ≡ false
one_of_two true b e t = e
one_of_two false b e t = absurd (eqb-false 0 1 refl (eqb-true 0 1 t))

-- what a record is that the reading gives, in numbers
pub record Fields (r : Record) : Type 0 where
  pub maximum : max_group r ≤ 63
  pub groups : num_group r ≤ max_group r
  pub enabling : enable r ≤ 1
  pub least : (enable r ≡ 0 → ⊥) → 12 ≤ index r
  pub most : index r ≤ 63
  pub aligned : base r % 4096 ≡ 0

enabled_is : (r : Record) → (enable r ≡ 0 → ⊥) → is_enabled r ≡ true
enabled_is r n = rw (ne_eqb (enable r) 0 n)

pub record_fields : (r : Record) → is_record r ≡ true → Fields r
unfolding is_record clashes
record_fields r e =
    let a = both (leb (max_group r) 63) _ e in
    let b = both (leb (enable r) 1) _ a.1 in
    let c = both (leb (index r) 63) _ b.1 in
    let d = both (eqb (base r % 4096) 0) _ c.1 in
    let f = both (not (clashes r)) true d.1 in
    let g = none_of (ltb (max_group r) (num_group r) ∷ (is_enabled r && ltb (index r) 12) ∷ []) (not-true _ f.0) in
    record {
      maximum = leb-true (max_group r) 63 a.0;
      groups = ltb-false (max_group r) (num_group r) g.0;
      enabling = leb-true (enable r) 1 b.0;
      least = λ n. ltb-false (index r) 12 (one_of_two (is_enabled r) (ltb (index r) 12) g.1.0 (enabled_is r n));
      most = leb-true (index r) 63 c.0;
      aligned = eqb-true (base r % 4096) 0 d.0;
    }

-- and it has no numbers that do not go together
pub record_clear : (r : Record) → is_record r ≡ true → clashes r ≡ false
unfolding is_record
record_clear r e =
    let a = both (leb (max_group r) 63) _ e in
    let b = both (leb (enable r) 1) _ a.1 in
    let c = both (leb (index r) 63) _ b.1 in
    let d = both (eqb (base r % 4096) 0) _ c.1 in
    not-true _ (both (not (clashes r)) true d.1).0
