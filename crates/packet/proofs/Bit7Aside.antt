-- Packets that differ in bit 7 of their first byte only: where the bit is ignored (02, 9/13, edition 1) they have the same faults, and they ask for the
-- same. Assumes nothing.
use Prim.Native.Nat.{ℕ}
use mathlib.Core.List.{List}
use mathlib.Core.Path.{◌≡◌}
use native.Mathlib.Omega.{arith}
use lib.ListN.{length}
use Rattle.words.specs.Bytes.{byte}
use Rattle.packet.specs.Fields.{type_code, data_of}
use Rattle.packet.specs.Request.{packet_number, request_of}

-- two packets that differ in bit 7 of byte 0 at most
pub record Bit7Aside (p q : List ℕ) : Type 0 where
  pub sizes : length p ≡ length q
  pub codes : type_code (byte p 0) ≡ type_code (byte q 0)
  pub bytes : (k : ℕ) → (k ≡ 0 → ⊥) → byte p k ≡ byte q k

-- what is then the same
pub record SameButBit7 (p q : List ℕ) : Type 0 where
  pub numbers : packet_number p ≡ packet_number q
  pub requests : request_of p ≡ request_of q
  pub «data» : data_of p ≡ data_of q

module _ (p q : List ℕ) (aside : Bit7Aside p q) where
  same_number : packet_number p ≡ packet_number q
  same_number =
      rw (
        aside.sizes,
        aside.codes,
        aside.bytes 1 (λ e. omega (arith, e)),
        aside.bytes 2 (λ e. omega (arith, e)),
        aside.bytes 3 (λ e. omega (arith, e)),
        aside.bytes 7 (λ e. omega (arith, e)),
      )

  same_request : request_of p ≡ request_of q
  unfolding request_of
  same_request =
      rw (
        aside.codes,
        aside.bytes 2 (λ e. omega (arith, e)),
        aside.bytes 4 (λ e. omega (arith, e)),
        aside.bytes 5 (λ e. omega (arith, e)),
        aside.bytes 6 (λ e. omega (arith, e)),
        aside.bytes 7 (λ e. omega (arith, e)),
        aside.bytes 8 (λ e. omega (arith, e)),
        aside.bytes 9 (λ e. omega (arith, e)),
        aside.bytes 10 (λ e. omega (arith, e)),
        aside.bytes 11 (λ e. omega (arith, e)),
      )

  same_data : data_of p ≡ data_of q
  same_data =
      rw (
        aside.bytes 12 (λ e. omega (arith, e)),
        aside.bytes 13 (λ e. omega (arith, e)),
        aside.bytes 14 (λ e. omega (arith, e)),
        aside.bytes 15 (λ e. omega (arith, e)),
      )

  pub bit_7_aside : SameButBit7 p q
  bit_7_aside = record { numbers = same_number; requests = same_request; «data» = same_data }
