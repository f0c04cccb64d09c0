-- Laws of the pointers of the three lists: every pointer that is followed is a multiple of 4 below the span of its list, which a byte or
-- twelve bits reach. Assumes nothing.
use Prim.Native.Nat.{ℕ, ◌+◌, ◌*◌, ◌/◌, ◌<◌}
use mathlib.Core.Bool.{Bool, true, false}
use mathlib.Core.List.{List}
use mathlib.Core.Path.{◌≡◌, ap}
use native.Mathlib.Nat.{mod-lt}
use native.Mathlib.Omega.{arith}
use lib.Dec.{eqb, lit<}
use borrow.Author.Tests.{eq-eqb, ne_eqb}
use Rattle.words.specs.Bytes.{byte}
use Rattle.words.specs.Fields.{bit, bits, word}
use Rattle.lists.specs.declared.Kind.{Kind}
use Rattle.lists.specs.declared.Kind.TheVariants.{Compatible, Extended, Trusted}
use Rattle.lists.specs.Table.{describe, compatible_start, extended_start, trusted_start, compatible_next, extended_next, unless_empty}
use Rattle.lists.specs.Chain.{dropped, first, follows}
use Rattle.lists.specs.Inner.{Raw, Counted, Whole}

-- every element of a lent space is a byte
abbrev pub Bytes : List ℕ → Type 0
Bytes s = (at : ℕ) → byte s at < 256

-- what a list's pointers stay below
abbrev pub span : Kind → ℕ
span Compatible = 0x100
span Extended = 0x1000
span Trusted = 0x1000

-- a pointer that may be followed, its bottom two bits dropped
pub record Within (kind : Kind) (pointer : ℕ) : Type 0 where
  pub aligned : pointer ≡ 4 * (pointer / 4)
  pub below : pointer < span kind

dropped_within : (kind : Kind) (pointer : ℕ) → pointer < span kind → Within kind (dropped pointer)
dropped_within kind pointer h = record { aligned = omega arith; below = omega arith }

unless_below : (empty : Bool) (start bound : ℕ) → 0 < bound → start < bound → unless_empty empty start < bound
unless_below true start bound z h = z
unless_below false start bound z h = h

-- the extended list's start: 100h, unless the word there is zero
pub extended_none : (s : List ℕ) → word s 0x100 ≡ 0 → extended_start s ≡ 0
unfolding extended_start
extended_none s z = ap (λ (empty : Bool). unless_empty empty 0x100) (eq-eqb (word s 0x100) 0 z)

pub extended_some : (s : List ℕ) → (word s 0x100 ≡ 0 → ⊥) → extended_start s ≡ 0x100
unfolding extended_start
extended_some s n = ap (λ (empty : Bool). unless_empty empty 0x100) (ne_eqb (word s 0x100) 0 n)

start_below : (kind : Kind) (s : List ℕ) → Bytes s → (describe kind).start s < span kind
unfolding compatible_start extended_start trusted_start
start_below Compatible s b = unless_below (eqb (bit 4 (byte s 0x06)) 0) (byte s 0x34) 0x100 (lit< tt) (b 0x34)
start_below Extended s b = unless_below (eqb (word s 0x100) 0) 0x100 0x1000 (lit< tt) (lit< tt)
start_below Trusted s b = mod-lt (word s 0x004 / 1) (lit< tt)

next_below : (kind : Kind) (s : List ℕ) (at : ℕ) → Bytes s → (describe kind).next s at < span kind
unfolding compatible_next extended_next
next_below Compatible s at b = b (at + 1)
next_below Extended s at b = mod-lt (word s at / 1048576) (lit< tt)
next_below Trusted s at b = mod-lt (word s at / 1048576) (lit< tt)

pub first_within : (kind : Kind) (s : List ℕ) → Bytes s → Within kind (first (describe kind) s)
unfolding first
first_within kind s b = dropped_within kind ((describe kind).start s) (start_below kind s b)

pub follows_within : (kind : Kind) (s : List ℕ) (at : ℕ) → Bytes s → Within kind (follows (describe kind) s at)
unfolding follows
follows_within kind s at b = dropped_within kind ((describe kind).next s at) (next_below kind s at b)

-- the code's pointer, its bottom two bits dropped, is the one that the definitions drop them from
pub counted_from : {kind : Kind} {pointer raw position : ℕ} → Raw pointer raw → Counted kind (dropped raw) position → Counted kind (dropped pointer) position
counted_from p o = record { is = rw (← p.is) o.is; inside = o.inside }

top_bits : (w header : ℕ) → header ≡ w → header < 4294967296 → header / 1048576 ≡ bits 31 20 w
top_bits w header e h = omega arith

-- the pointer that the code takes from a header of four bytes is the one that the table says
pub whole_pointer : (s : List ℕ) (at : ℕ) {header : ℕ} → Whole s at header → Raw (extended_next s at) (header / 1048576)
unfolding extended_next
whole_pointer s at {header} h = record { is = top_bits (word s at) header h.is h.small; small = omega (arith, h.small) }
