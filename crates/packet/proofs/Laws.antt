-- Laws of the packet's fields and checks, for the proofs of this crate and above. Assumes nothing.
use Prim.Native.Nat.{ℕ, ◌+◌, ◌*◌, ◌%◌, ◌<◌, ◌≤◌}
use mathlib.Core.Bool.{Bool, true, false, not, cond, ◌&&◌, ◌||◌, and-false, false≢true}
use mathlib.Core.List.Memᴰ
use mathlib.Core.List.{List, [], ◌∷◌}
use mathlib.Core.Path.{◌≡◌, refl, sym, ◌∙◌}
use native.Mathlib.Omega.{arith}
use lib.Dec.{eqb, ltb}
use lib.ListN.{length}
use Rattle.std.specs.Prelude.{None}
use borrow.Author.Tests.{le-ltb, eq-eqb, ne_eqb, lt-ltb, eqb-true, not-false}
use Rattle.answers.proofs.Checks.{Positive, none_applies}
use Rattle.words.specs.Bytes.{byte}
use Rattle.packet.specs.declared.Access.{Access}
use Rattle.packet.specs.declared.Target.TheVariants.{Type0, Type1, Trusted}
use Rattle.packet.specs.Fields.{type_code, bit7_set, refuses_bit7, known, type_of, digest, whole_length, wrong_field}
use Rattle.packet.specs.Request.{typed, writes_of, checks_under, number_under, packet_checks, packet_number, request_of, target_of, is_trusted, trusted, trusted_under}
use Rattle.packet.specs.Inner.{KnownHeader}

-- a code that is none of the six
pub type_unknown : (code : ℕ) → (code ≡ 0x04 → ⊥) → (code ≡ 0x44 → ⊥) → (code ≡ 0x05 → ⊥) → (code ≡ 0x45 → ⊥) → (code ≡ 0x1b → ⊥)
    → (code ≡ 0x5b → ⊥) → type_of code ≡ None
unfolding type_of
type_unknown code a b c d e f =
    rw (ne_eqb code 0x04 a, ne_eqb code 0x44 b, ne_eqb code 0x05 c, ne_eqb code 0x45 d, ne_eqb code 0x1b e, ne_eqb code 0x5b f)

-- past the check 5, the check 6 decides
pub number_past : (p : List ℕ) (access : Access) → KnownHeader p access → length p ≡ whole_length access.writes (byte p 2)
    → packet_number p ≡ cond (wrong_field (byte p 1) (byte p 2) (byte p 3) (byte p 7)) 6 0
number_past p access header whole =
    rw (le-ltb (length p) 12 header.long, header.known, eq-eqb (length p) (whole_length access.writes (byte p 2)) whole)

-- ---- the edition: what is not refused for bit 7 is looked at as where the bit is ignored

module _ (edition : ℕ) (p : List ℕ) where
  pub number_bit_7 : 12 ≤ length p → refuses_bit7 edition (byte p 0) ≡ true → number_under edition p ≡ 4
  number_bit_7 long e = rw (le-ltb (length p) 12 long, e)

  pub number_short_under : length p < 12 → number_under edition p ≡ 3
  number_short_under h = rw (lt-ltb (length p) 12 h)

  pub number_under_lem : refuses_bit7 edition (byte p 0) ≡ false → number_under edition p ≡ packet_number p
  number_under_lem e = rw e

  -- a packet without a fault is not refused for it
  not_refused : (refuses : Bool) → refuses_bit7 edition (byte p 0) ≡ refuses → number_under edition p ≡ 0 → refuses ≡ false
  not_refused true e n = absurd (by_length (ltb (length p) 12) refl)
    where
      by_length : (short : Bool) → ltb (length p) 12 ≡ short → ⊥
      by_length true h = let z : ◌≡◌ {A = ℕ} 3 0 = rw h at n in omega (arith, z)
      by_length false h = let z : ◌≡◌ {A = ℕ} 4 0 = rw (h, e) at n in omega (arith, z)
  not_refused false e n = refl

  pub accepted : number_under edition p ≡ 0 → refuses_bit7 edition (byte p 0) ≡ false
  accepted n = not_refused _ refl n

  pub sound_under : number_under edition p ≡ 0 → packet_number p ≡ 0
  sound_under n = sym (number_under_lem (accepted n)) ∙ n

pub number_short : (p : List ℕ) → length p < 12 → packet_number p ≡ 3
number_short p h = number_short_under 1 p h

-- with bit 7 clear, no edition refuses it
pub clear_accepted : (edition first : ℕ) → bit7_set first ≡ false → refuses_bit7 edition first ≡ false
clear_accepted edition first e = rw (e, and-false)

-- an offset is a multiple of 4 and its four bytes lie in a space; a device and a function number are in their ranges
pub offset_inside : (p : List ℕ) → (request_of p).offset + 4 ≤ 4096
unfolding request_of
offset_inside p = omega arith

pub offset_aligned : (p : List ℕ) → (request_of p).offset % 4 ≡ 0
unfolding request_of
offset_aligned p = omega arith

pub device_inside : (p : List ℕ) → (request_of p).device ≤ 31
unfolding request_of
device_inside p = omega arith

-- no check has the number 0
pub positive_under : (edition : ℕ) (p : List ℕ) → Positive (checks_under edition p)
positive_under edition p = omega arith

pub positive : (p : List ℕ) → Positive (packet_checks p)
positive p = positive_under 1 p

-- a packet without a fault is as long as its type and digest bit say; a write has its data
pub whole_is : (p : List ℕ) → packet_number p ≡ 0 → length p ≡ whole_length (writes_of (typed p)) (byte p 2)
whole_is p e =
    let n = none_applies (packet_checks p) (positive p) e in
    eqb-true _ _ (not-false _ (n _ (Memᴰ.tail (Memᴰ.tail (Memᴰ.head refl)))))

pub write_long : (p : List ℕ) → packet_number p ≡ 0 → (request_of p).writes ≡ true → 16 ≤ length p
unfolding request_of
write_long p e w =
    let h : length p ≡ 16 + 4 * digest (byte p 2) = whole_is p e ∙ rw w in
    omega arith

-- ---- trusted packets ask for the trusted space, and no other packet does

last_two : (a b : Bool) → is_trusted (target_of (cond a (known false Trusted) (cond b (known true Trusted) None))) ≡ (a || b)
last_two true b = refl
last_two false true = refl
last_two false false = refl

type_trusted : (code : ℕ) → is_trusted (target_of (type_of code)) ≡ (eqb code 0x1b || eqb code 0x5b)
unfolding type_of
type_trusted code = go (eqb code 0x04) (eqb code 0x44) (eqb code 0x05) (eqb code 0x45) refl refl refl refl
  where
    go : (a b c d : Bool) → eqb code 0x04 ≡ a → eqb code 0x44 ≡ b → eqb code 0x05 ≡ c → eqb code 0x45 ≡ d
        → is_trusted (target_of (cond a (known false Type0) (cond b (known true Type0) (cond c (known false Type1) (cond d (known true Type1)
        (cond (eqb code 0x1b) (known false Trusted) (cond (eqb code 0x5b) (known true Trusted) None)))))))
        ≡ (eqb code 0x1b || eqb code 0x5b)
    go true b c d e f g h = rw (eqb-true code 0x04 e)
    go false true c d e f g h = rw (eqb-true code 0x44 f)
    go false false true d e f g h = rw (eqb-true code 0x05 g)
    go false false false true e f g h = rw (eqb-true code 0x45 h)
    go false false false false e f g h = last_two (eqb code 0x1b) (eqb code 0x5b)

pub trusted_target : (p : List ℕ) → is_trusted (request_of p).target ≡ trusted p
unfolding request_of type_of
trusted_target [] = refl
trusted_target (first ∷ rest) = type_trusted (type_code first)

-- under an edition, of a packet without a fault
pub trusted_under_lem : (edition : ℕ) (p : List ℕ) → number_under edition p ≡ 0 → is_trusted (request_of p).target ≡ trusted_under edition p
trusted_under_lem edition p n = rw (accepted edition p n) (trusted_target p)

-- a packet that is trusted under an edition is looked at as where bit 7 is ignored
pub trusted_number : (edition : ℕ) (p : List ℕ) → trusted_under edition p ≡ true → number_under edition p ≡ packet_number p
trusted_number edition p t = number_under_lem edition p (by_refusal _ (trusted p) t)
  where
    by_refusal : (refuses trusted_code : Bool) → (not refuses && trusted_code) ≡ true → refuses ≡ false
    by_refusal true trusted_code e = absurd (false≢true e)
    by_refusal false trusted_code e = refl
