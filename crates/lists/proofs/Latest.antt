-- THEOREM. A list can break as late as its maximum allows, in both ways: of each list there are spaces of bytes in which it goes through the maximum of
-- structures, and the pointer of the last is below the floor, or comes back. Assumes nothing.
use Prim.Native.Nat.{ℕ, suc, ◌+◌, ◌*◌, ◌-◌, ◌<◌}
use mathlib.Core.List.{List}
use mathlib.Core.Path.{◌≡◌, refl}
use native.Mathlib.Omega.{arith}
use lib.Dec.{lit<}
use Rattle.lists.specs.declared.Kind.{Kind}
use Rattle.lists.specs.declared.Kind.TheVariants.{Compatible, Extended, Trusted}
use Rattle.lists.specs.Table.{describe}
use Rattle.lists.specs.Breaks.{holder, Reached, Breaks, Breaks.falls, Breaks.turns}
use Rattle.lists.specs.Walks.{WholeSpace}
use Rattle.lists.proofs.Pointers.{Bytes}
use Rattle.lists.proofs.Attained.{low, floor_low, full, full_whole, full_bytes, full_leading, given, met_full, met_last}
use Rattle.lists.proofs.Breaking.{steps}

-- a list that breaks with a number behind the maximum of structures, at the last of them
pub record Latest (kind : Kind) (number : ℕ) : Type 0 where
  pub space : List ℕ
  pub whole : WholeSpace space
  pub bytes : Bytes space
  pub breaks : Breaks (describe kind) space number (4 * (low kind + (describe kind).maximum - 1))
  pub late : steps breaks ≡ (describe kind).maximum

-- the statement
abbrev pub BreaksLatest : Type 0
BreaksLatest = (kind : Kind) → Latest kind 11 × Latest kind 12

-- the last header points to a word of its list, by its number
module _ (kind : Kind) (n w : ℕ) (hn : n < 64) (hw : w < 1024) where
  all_reached : Reached (describe kind) (full n w hn hw) (describe kind).maximum
  all_reached k h =
      let l = full_leading n w hn hw kind in
      record {
        onward = l.onward k h;
        above = l.above k h;
        new = λ b.
            omega (
              arith,
              b.before,
              b.same,
              met_full n w hn hw kind k h,
              met_full n w hn hw kind b.earlier (omega (arith, b.before)),
            );
      }

  module _ (k : ℕ) (e : suc k ≡ (describe kind).maximum) where
    last_place : 4 * (low kind + (describe kind).maximum - 1) ≡ holder (describe kind) (full n w hn hw) (suc k)
    unfolding holder
    last_place = omega (arith, met_full n w hn hw kind k (omega arith))

    reached_there : Reached (describe kind) (full n w hn hw) (suc k)
    reached_there j h = all_reached j (omega arith)

    falls_last : (given n w hn hw kind ≡ 0 → ⊥) → given n w hn hw kind < low kind → Latest kind 11
    falls_last some less =
        let there = met_last n w hn hw kind k e in
        record {
          space = full n w hn hw;
          whole = full_whole n w hn hw;
          bytes = full_bytes n w hn hw;
          breaks =
              falls (suc k) reached_there
              (record { onward = λ z. some (omega (arith, there, z)); low = omega (arith, there, floor_low kind) }) refl last_place;
          late = e;
        }

    turns_last : given n w hn hw kind ≡ low kind → Latest kind 12
    turns_last back =
        let there = met_last n w hn hw kind k e in
        record {
          space = full n w hn hw;
          whole = full_whole n w hn hw;
          bytes = full_bytes n w hn hw;
          breaks =
              turns (suc k) reached_there
              (record { earlier = 0; before = omega arith; same = omega (arith, there, met_full n w hn hw kind 0 (omega arith), back) }) refl last_place;
          late = e;
        }

pub breaks_latest : BreaksLatest
unfolding given
breaks_latest Compatible = (
  falls_last Compatible 15 0 (lit< tt) (lit< tt) 47 refl (λ z. omega arith) (lit< tt),
  turns_last Compatible 16 0 (lit< tt) (lit< tt) 47 refl refl,
)
breaks_latest Extended = (
  falls_last Extended 0 63 (lit< tt) (lit< tt) 959 refl (λ z. omega arith) (lit< tt),
  turns_last Extended 0 64 (lit< tt) (lit< tt) 959 refl refl,
)
breaks_latest Trusted = (
  falls_last Trusted 0 1 (lit< tt) (lit< tt) 1021 refl (λ z. omega arith) (lit< tt),
  turns_last Trusted 0 2 (lit< tt) (lit< tt) 1021 refl refl,
)
