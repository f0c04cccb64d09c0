-- Laws of lists of ports that have some numbers alike: what is said of an address rests on some of them only. Assumes nothing.
use Prim.Native.Nat.{ℕ, suc}
use mathlib.Core.Bool.{Bool, true, false, ◌&&◌}
use mathlib.Core.List.{List, [], ◌∷◌}
use mathlib.Core.Path.{◌≡◌, refl, ap₂}
use native.Mathlib.Omega.{arith}
use borrow.Author.Tests.{eq-eqb}
use lib.Dec.{ltb}
use lib.ListN.{length}
use Rattle.multicast.specs.declared.Record.{Record}
use Rattle.multicast.specs.Capability.{max_group, num_group, enable, index, base, receive, block_all, clashes}
use Rattle.multicast.specs.Records.{is_record, are_records}
use Rattle.multicast.specs.Judging.{port_at, is_bad, is_hit, entering_by, judged, is_member}

-- of two records, what says whether they are records at all
pub record Sound (r q : Record) : Type 0 where
  pub maximum : max_group r ≡ max_group q
  pub groups : num_group r ≡ num_group q
  pub enabling : enable r ≡ enable q
  pub place : index r ≡ index q
  pub window : base r ≡ base q

record_alike : (r q : Record) → Sound r q → is_record r ≡ is_record q
unfolding is_record clashes
record_alike r q s = rw (s.maximum, s.groups, s.enabling, s.place, s.window)

pub records_alike : (a b : List Record) → length a ≡ length b → ((k : ℕ) → Sound (port_at a k) (port_at b k)) → are_records a ≡ are_records b
records_alike [] [] e s = refl
records_alike [] (q ∷ b) e s = absurd (omega arith)
records_alike (r ∷ a) [] e s = absurd (omega arith)
records_alike (r ∷ a) (q ∷ b) e s = ap₂ ◌&&◌ (record_alike r q (s 0)) (records_alike a b (omega arith) (λ k. s (suc k)))

pub bad_alike : (a b : List Record) (entering : ℕ) → length a ≡ length b → ((k : ℕ) → Sound (port_at a k) (port_at b k)) → is_bad a entering ≡ is_bad b entering
unfolding is_bad
bad_alike a b entering e s = rw (e, records_alike a b e s)

-- and what an entering packet asks of its port's
pub entering_alike : (r q : Record) (address : ℕ) → num_group r ≡ num_group q → enable r ≡ enable q → index r ≡ index q → base r ≡ base q → block_all r ≡ block_all q
    → entering_by r address ≡ entering_by q address
unfolding entering_by is_hit
entering_alike r q address g e i b c = rw (g, e, i, b, c)

pub judged_alike : (a b : List Record) (entering address : ℕ) → is_bad a entering ≡ is_bad b entering
    → entering_by (port_at a entering) address ≡ entering_by (port_at b entering) address → judged a entering address ≡ judged b entering address
unfolding judged
judged_alike a b entering address e f = rw (e, f)

-- of another port, its Receive alone says whether a group leaves by it
pub member_alike : (a b : List Record) (entering group k : ℕ) → length a ≡ length b → receive (port_at a k) ≡ receive (port_at b k)
    → is_member a entering group k ≡ is_member b entering group k
unfolding is_member
member_alike a b entering group k e f = rw (e, f)

-- the port that it enters by is none
pub member_itself : (ports : List Record) (entering group : ℕ) → is_member ports entering group entering ≡ false
unfolding is_member
member_itself ports entering group = rw (eq-eqb entering entering refl) (none (ltb entering (length ports)))
  where
    none : (b : Bool) → b && false ≡ false
    none true = refl
    none false = refl
