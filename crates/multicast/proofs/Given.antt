-- THEOREM. A record is one that the reading gives, for some space of bytes and some offset, exactly if it is seven numbers of 64 bits and passes the test that
-- `judge` makes of each record of its list: Max Group and the index are at most 63, Enable is 0 or 1, the base's lowest twelve bits are 0, Num Group is not
-- over Max Group, and the index is 12 or more while enabled. Assumes nothing.
use Prim.Native.Nat.{ℕ, zero, suc, ◌+◌, ◌*◌, ◌/◌, ◌%◌, ◌^◌, ◌≤◌, ◌<◌}
use mathlib.Core.Bool.{true, false}
use mathlib.Core.List.Memᴰ
use mathlib.Core.List.{List, [], ◌∷◌}
use mathlib.Core.Logic.{◌↔◌}
use mathlib.Core.Path.{◌≡◌, refl, sym, ap, subst, ◌∙◌}
use native.Mathlib.Nat.{mod-lt}
use native.Mathlib.Omega.{arith}
use borrow.Author.Tests.{le-leb, eq-eqb}
use Rattle.answers.specs.Checks.{check}
use Rattle.answers.proofs.Checks.{none_applies}
use Rattle.words.specs.Bytes.{byte}
use Rattle.words.specs.Fields.{bits, word}
use Rattle.multicast.specs.declared.Record.{Record}
use Rattle.multicast.specs.Capability.{max_group, enable, index, base, clashes, long, long_of, record_at, CapabilityTold, capability_checks, capability_number, capability_says}
use Rattle.multicast.specs.Records.{AllBelow, Row, Given, is_record}
use Rattle.multicast.proofs.Facts.{record_fields, record_clear}
use Rattle.multicast.proofs.Written.{space_with, below_space, written_found}

-- the statement
abbrev pub GivenExactly : Type 0
GivenExactly = (r : Record) → Given r ↔ (Row r × (is_record r ≡ true))

-- ---- what is read is seven numbers of 64 bits

byte_small : (s : List ℕ) (k : ℕ) → AllBelow 256 s → byte s k < 256
byte_small [] k a = omega arith
byte_small (x ∷ s) zero a = a.0
byte_small (x ∷ s) (suc k) a = byte_small s k a.1

module _ (s : List ℕ) (bytes : AllBelow 256 s) where
  word_small : (at : ℕ) → word s at < 4294967296
  word_small at =
      small (byte s at) (byte s (at + 1)) (byte s (at + 2)) (byte s (at + 3)) (byte_small s at bytes) (byte_small s (at + 1) bytes) (byte_small s (at + 2) bytes) (byte_small s (at + 3) bytes)
    where
      small : (a b c d : ℕ) → a < 256 → b < 256 → c < 256 → d < 256 → a + 256 * b + 65536 * c + 16777216 * d < 4294967296
      small a b c d p q r t = omega arith

  long_small : (at : ℕ) → long s at < 18446744073709551616
  long_small at = small (word s at) (word s (at + 4)) (word_small at) (word_small (at + 4))
    where
      small : (a b : ℕ) → a < 4294967296 → b < 4294967296 → long_of a b < 18446744073709551616
      small a b p q = omega arith

  row_at : (at : ℕ) → Row (record_at s at)
  unfolding record_at
  row_at at =
      record {
        seven = refl;
        wide = (omega arith, (omega arith, (omega arith, (omega arith, (page (long s (at + 8)), (long_small (at + 0x10), (long_small (at + 0x18), tt)))))));
      }
    where
      page : (n : ℕ) → bits 63 12 n * 4096 < 18446744073709551616
      page n = let less : bits 63 12 n < 2 ^ 52 = mod-lt (n / 2 ^ 12) (omega arith) in omega arith

-- ---- and passes the test

six_small : (n : ℕ) → bits 5 0 n ≤ 63
six_small n = omega arith

page_aligned : (n : ℕ) → bits 63 12 n * 4096 % 4096 ≡ 0
page_aligned n = omega arith

is_record_lem : (r : Record) → max_group r ≤ 63 → enable r ≤ 1 → index r ≤ 63 → base r % 4096 ≡ 0 → clashes r ≡ false → is_record r ≡ true
unfolding is_record
is_record_lem r m e i b c = rw (le-leb (max_group r) 63 m, le-leb (enable r) 1 e, le-leb (index r) 63 i, eq-eqb (base r % 4096) 0 b, c)

fits_at : (s : List ℕ) (at : ℕ)
    → (max_group (record_at s at) ≤ 63) × (enable (record_at s at) ≤ 1) × (index (record_at s at) ≤ 63) × (base (record_at s at) % 4096 ≡ 0)
unfolding record_at
fits_at s at = (six_small _, omega arith, six_small _, page_aligned (long s (at + 8)))

record_at_lem : (s : List ℕ) (at : ℕ) → clashes (record_at s at) ≡ false → is_record (record_at s at) ≡ true
record_at_lem s at e = let f = fits_at s at in is_record_lem (record_at s at) f.0 f.1 f.2 f.3 e

-- ---- where the number is 0

found : (s : List ℕ) (at : ℕ) (r : Record) → capability_says s at ≡ record { number = 0; fields = r } → (clashes (record_at s at) ≡ false) × (record_at s at ≡ r)
unfolding capability_says capability_number
found s at r e =
    let none : capability_number s at ≡ 0 = ap (λ (t : CapabilityTold). t.number) e in (
      none_applies (capability_checks s at) (omega arith) none (check 13 (clashes (record_at s at))) (Memᴰ.tail (Memᴰ.tail (Memᴰ.tail (Memᴰ.tail (Memᴰ.head refl))))),
      rw none at (ap (λ (t : CapabilityTold). t.fields) e),
    )

pub given_exactly : GivenExactly
given_exactly r = (to, back)
  where
    to : Given r → Row r × (is_record r ≡ true)
    to g =
        let f = found g.space g.at r g.says in
        (subst Row f.1 (row_at g.space g.bytes g.at), sym (ap is_record f.1) ∙ record_at_lem g.space g.at f.0)

    back : Row r × (is_record r ≡ true) → Given r
    back (row, e) =
        let f = record_fields r e in
        record {
          space = space_with r;
          bytes = below_space r f.maximum (omega (arith, f.groups, f.maximum)) f.enabling;
          at = 0x100;
          says = written_found r f row (record_clear r e);
        }
