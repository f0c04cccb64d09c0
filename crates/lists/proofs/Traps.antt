-- THEOREMS. No walk that falls into a trap meets the promise, whatever the list, the space and the room: one that reports a count other than
-- its chain's length, one that goes on where the list comes back to an offset it has passed, at the start or elsewhere, one that lists an
-- offset whose bottom two bits are not dropped, one that looks at a pointer where the list counts as empty. Assumes nothing.
use Prim.Native.Nat.{ℕ, zero, suc, ◌%◌, ◌<◌}
use mathlib.Core.List.{List, []}
use mathlib.Core.Path.{◌≡◌, refl, sym, ap, ◌∙◌}
use native.Mathlib.Omega.{arith}
use lib.ListN.{length, get_or, drop, get_or-append}
use borrow.Author.Tests.{eq-eqb}
use Rattle.words.specs.Bytes.{byte}
use Rattle.words.specs.Fields.{bit, word}
use Rattle.lists.specs.declared.Kind.{Kind}
use Rattle.lists.specs.declared.Kind.TheVariants.{Compatible, Extended}
use Rattle.lists.specs.Table.{ListRule, describe, compatible_start}
use Rattle.lists.specs.Chain.{Legal, Legal.ends, Legal.goes, HasChain, dropped, first, follows}
use Rattle.lists.specs.Breaks.{met, Back}
use Rattle.lists.specs.Walks.{WholeSpace, Roomy, Lists, Walks, Walks.misdescribed, Walks.roomless, Walks.broken, Walks.listed, number_given, count_given, Walked}
use Rattle.lists.proofs.Pointers.{extended_none}
use Rattle.lists.proofs.Decides.{broken_number, served_lists, served_iff_legal}
use Rattle.lists.proofs.Course.{back_unending}

-- the statements, each of any walk. "a walk that reports a count other than its chain's length"
abbrev pub WrongCount : Type 0
WrongCount =
    (kind : Kind) (s room chain : List ℕ) (r : Walked) (after : List ℕ) → WholeSpace s → Roomy kind room → HasChain (describe kind) s chain
    → (count_given r ≡ length chain → ⊥) → Walks kind s room r after → ⊥

-- "Testing loops only against the start": wherever a list comes back to, unless it has ended before, it has no chain, and a walk of it is not served
abbrev pub LoopBroken : Type 0
LoopBroken =
    (kind : Kind) (s room : List ℕ) (r : Walked) (after : List ℕ) (n : ℕ) → Back (describe kind) s n
    → ((k : ℕ) → k < n → met (describe kind) s k ≡ 0 → ⊥) → Walks kind s room r after → number_given r ≡ 0 → ⊥

-- "The bottom two bits of every pointer are dropped": a walk that is served lists multiples of 4 only
abbrev pub OffsetsAligned : Type 0
OffsetsAligned =
    (kind : Kind) (s room : List ℕ) (r : Walked) (after : List ℕ) → Walks kind s room r after → (index : ℕ) → index < count_given r
    → get_or after index 0 % 4 ≡ 0

-- "a list that the table calls empty counts as having start 0, whatever its pointers hold", the extended list as request 2/13 corrects the table: a
-- walk of it is served, lists nothing, and leaves the room as it was
abbrev pub EmptyLists : Type 0
EmptyLists =
    (s room : List ℕ) (r : Walked) (after : List ℕ) → WholeSpace s
    → (bit 4 (byte s 0x06) ≡ 0 → Roomy Compatible room → Walks Compatible s room r after → (number_given r ≡ 0) × (count_given r ≡ 0) × (after ≡ room))
    × (word s 0x100 ≡ 0 → Roomy Extended room → Walks Extended s room r after → (number_given r ≡ 0) × (count_given r ≡ 0) × (after ≡ room))

-- ---- the count

pub wrong_count : WrongCount
wrong_count kind s room chain r after whole roomy l other w =
    other (served_lists w ((served_iff_legal kind s room r after w whole roomy).0.1 (chain, l)) l).counted

-- ---- loops

pub loop_broken : LoopBroken
loop_broken kind s room r after n b on (misdescribed o a) z = omega (arith, a.given, z)
loop_broken kind s room r after n b on (roomless whole o a) z = omega (arith, a.given, z)
loop_broken kind s room r after n b on (broken whole roomy number place o a) z = broken_number o (sym a.given ∙ z)
loop_broken kind s room r after n b on (listed whole roomy chain l a) z = back_unending b on chain l

-- ---- bottom bits

dropped_aligned : (pointer : ℕ) → dropped pointer % 4 ≡ 0
dropped_aligned pointer = omega arith

pub follows_aligned : (list : ListRule) (s : List ℕ) (at : ℕ) → follows list s at % 4 ≡ 0
unfolding follows
follows_aligned list s at = dropped_aligned (list.next s at)

pub first_aligned : (list : ListRule) (s : List ℕ) → first list s % 4 ≡ 0
unfolding first
first_aligned list s = dropped_aligned (list.start s)

module _ {list : ListRule} {s : List ℕ} where
  chain_aligned : {pointer : ℕ} {chain : List ℕ} → pointer % 4 ≡ 0 → Legal list s pointer chain → (index : ℕ) → index < length chain
      → get_or chain index 0 % 4 ≡ 0
  chain_aligned a (ends z e) index small = absurd (omega (arith, ap length e))
  chain_aligned a (goes n h l e) zero small = rw e a
  chain_aligned {pointer} a (goes {rest = rest} n h l e) (suc index) small =
      rw e (chain_aligned (follows_aligned list s pointer) l index (omega (arith, ap length e)))

listed_aligned : (kind : Kind) (s room chain : List ℕ) (r : Walked) (after : List ℕ) → HasChain (describe kind) s chain → Lists chain room r after
    → (index : ℕ) → index < count_given r → get_or after index 0 % 4 ≡ 0
listed_aligned kind s room chain r after l a index small =
    let inside : index < length chain = omega (arith, a.counted) in
    rw (a.listed, get_or-append chain (drop (length chain) room) 0 index inside)
    (chain_aligned (first_aligned (describe kind) s) l index inside)

pub offsets_aligned : OffsetsAligned
offsets_aligned kind s room r after (misdescribed n a) index small = absurd (omega (arith, a.none))
offsets_aligned kind s room r after (roomless whole n a) index small = absurd (omega (arith, a.none))
offsets_aligned kind s room r after (broken whole roomy number place b a) index small = absurd (omega (arith, a.none))
offsets_aligned kind s room r after (listed whole roomy chain l a) index small = listed_aligned kind s room chain r after l a index small

-- ---- lists that count as empty

nothing_listed : (kind : Kind) (s room : List ℕ) (r : Walked) (after : List ℕ) → WholeSpace s → Roomy kind room → HasChain (describe kind) s []
    → Walks kind s room r after → (number_given r ≡ 0) × (count_given r ≡ 0) × (after ≡ room)
nothing_listed kind s room r after whole roomy l w =
    let z = (served_iff_legal kind s room r after w whole roomy).0.1 ([], l) in
    let a = served_lists w z l in
    (z, a.counted, a.listed)

pub empty_lists : EmptyLists
unfolding first compatible_start
empty_lists s room r after whole = (
  (λ e roomy. nothing_listed Compatible s room r after whole roomy (ends (rw (eq-eqb (bit 4 (byte s 0x06)) 0 e)) refl)),
  (λ e roomy. nothing_listed Extended s room r after whole roomy (ends (ap dropped (extended_none s e)) refl)),
)
