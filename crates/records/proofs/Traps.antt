-- THEOREMS. No reading that falls into a trap meets the promise, whatever the space and the offset: a body as long as the DVSEC Length says, a
-- body that begins at 0Ch, a vector without exactly one bit that is read all the same. Assumes nothing.
use Prim.Native.Nat.{ℕ, ◌+◌, ◌-◌}
use mathlib.Core.Bool.{true}
use mathlib.Core.List.Memᴰ
use mathlib.Core.List.{List}
use mathlib.Core.Path.{◌≡◌, refl, ap, ◌∙◌}
use native.Mathlib.Omega.{arith}
use borrow.Author.Tests.{not-false}
use lib.ListN.{length, take, drop, length-take, length-drop}
use Rattle.std.specs.Prelude.{Ok}
use Rattle.records.specs.declared.Alternate.{Alternate}
use Rattle.records.specs.DvsecRule.{header_at, dvsec_number, dvsec_body, body_from, BodyLies}
use Rattle.records.specs.DualRule.{one_set, vector_at, tells_dual, dual_says}
use Rattle.records.proofs.Told.{dvsec_inside}
use Rattle.records.proofs.Numbers.{dual_number_lem}

-- the statements, of a record that is found. "Taking DVSEC Length as the body's length": the body is 0Ah bytes shorter
abbrev pub BodyLength : Type 0
BodyLength =
    (place : ℕ × ℕ) (s : List ℕ) (at : ℕ) (found : ℕ × ℕ) (bytes : List ℕ) → BodyLies place s at found bytes → dvsec_number s at ≡ 0
    → length bytes + 0x0a ≡ (header_at s at).length

-- "or starting the body at 0Ch": it begins at 0Ah
abbrev pub BodyStart : Type 0
BodyStart =
    (place : ℕ × ℕ) (s : List ℕ) (at : ℕ) (found : ℕ × ℕ) (bytes : List ℕ) → BodyLies place s at found bytes → dvsec_number s at ≡ 0
    → found.1 ≡ (at + 0x0a) + place.1

-- "exactly one bit of the eight is set"
abbrev pub OneBitRead : Type 0
OneBitRead = (s : List ℕ) (at : ℕ) (a : Alternate) → tells_dual (Ok a) ≡ dual_says s at → one_set (vector_at s at) ≡ true

pub body_length : BodyLength
unfolding dvsec_body
body_length place s at found bytes b e =
    let i = dvsec_inside s at e in
    let n : length bytes ≡ length (take ((at + (header_at s at).length) - (at + 0x0a)) (drop (at + 0x0a) s)) = ap length b.same ∙ rw e in
    omega (arith, i.size, i.least, i.end, simp (length-take, length-drop) at n)

pub body_start : BodyStart
unfolding body_from
body_start place s at found bytes b e = b.offset ∙ rw e

pub one_bit_read : OneBitRead
one_bit_read s at a e =
    let none = (dual_number_lem s at (Ok a) e).0.none.0 refl in
    not-false _ (none _ (Memᴰ.tail (Memᴰ.tail (Memᴰ.tail (Memᴰ.tail (Memᴰ.tail (Memᴰ.head refl)))))))
