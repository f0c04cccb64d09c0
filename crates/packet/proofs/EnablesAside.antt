-- Packets that differ in their first enables only have the same faults, and ask for the same but for the enables. Assumes nothing.
use Prim.Native.Nat.{ℕ}
use mathlib.Core.List.{List}
use mathlib.Core.Path.{◌≡◌}
use native.Mathlib.Omega.{arith}
use lib.ListN.{length}
use Rattle.words.specs.Bytes.{byte}
use Rattle.packet.specs.declared.Request.{Request}
use Rattle.packet.specs.Fields.{last_enables, data_of}
use Rattle.packet.specs.Request.{number_under, request_of}

-- two packets that differ in bits 3:0 of byte 7 only
pub record EnablesAside (p q : List ℕ) : Type 0 where
  pub sizes : length p ≡ length q
  pub bytes : (k : ℕ) → (k ≡ 7 → ⊥) → byte p k ≡ byte q k
  pub last : last_enables (byte p 7) ≡ last_enables (byte q 7)

-- a request with other enables
abbrev pub enabling : Request → ℕ → Request
enabling q enables =
    record {
      target = q.target;
      writes = q.writes;
      poisoned = q.poisoned;
      requester = q.requester;
      tag = q.tag;
      enables = enables;
      bus = q.bus;
      device = q.device;
      function = q.function;
      offset = q.offset;
    }

-- what is then the same
pub record SameButEnables (p q : List ℕ) : Type 0 where
  pub numbers : (edition : ℕ) → number_under edition p ≡ number_under edition q
  pub requests : enabling (request_of p) (request_of q).enables ≡ request_of q
  pub «data» : data_of p ≡ data_of q

module _ (p q : List ℕ) (aside : EnablesAside p q) where
  same_number : (edition : ℕ) → number_under edition p ≡ number_under edition q
  same_number edition =
      rw (
        aside.sizes,
        aside.bytes 0 (λ e. omega (arith, e)),
        aside.bytes 1 (λ e. omega (arith, e)),
        aside.bytes 2 (λ e. omega (arith, e)),
        aside.bytes 3 (λ e. omega (arith, e)),
        aside.last,
      )

  same_request : enabling (request_of p) (request_of q).enables ≡ request_of q
  unfolding request_of
  same_request =
      rw (
        aside.bytes 0 (λ e. omega (arith, e)),
        aside.bytes 2 (λ e. omega (arith, e)),
        aside.bytes 4 (λ e. omega (arith, e)),
        aside.bytes 5 (λ e. omega (arith, e)),
        aside.bytes 6 (λ e. omega (arith, e)),
        aside.bytes 8 (λ e. omega (arith, e)),
        aside.bytes 9 (λ e. omega (arith, e)),
        aside.bytes 10 (λ e. omega (arith, e)),
        aside.bytes 11 (λ e. omega (arith, e)),
      )

  same_data : data_of p ≡ data_of q
  same_data =
      rw (
        aside.bytes 12 (λ e. omega (arith, e)),
        aside.bytes 13 (λ e. omega (arith, e)),
        aside.bytes 14 (λ e. omega (arith, e)),
        aside.bytes 15 (λ e. omega (arith, e)),
      )

  pub enables_aside : SameButEnables p q
  enables_aside = record { numbers = same_number; requests = same_request; «data» = same_data }
