-- "The digest is not read": packets that differ in their digest bytes only have the same faults and ask for the same. Assumes nothing.
use Prim.Native.Nat.{ℕ, ◌<◌, ◌≤◌}
use mathlib.Core.Bool.{Bool, true, false}
use mathlib.Core.List.{List}
use mathlib.Core.Path.{◌≡◌, sym, ap, ◌∙◌}
use native.Mathlib.Omega.{arith}
use lib.ListN.{length, get_or, take}
use lib.Seq.{get_or-take}
use Rattle.words.specs.Bytes.{byte}
use Rattle.packet.specs.Fields.{type_code, type_of, whole_length, data_of}
use Rattle.packet.specs.Request.{typed, writes_of, number_under, request_of}

-- how many bytes stand before a packet's digest: 12, and 4 data bytes of a write
abbrev pub before_digest : List ℕ → ℕ
before_digest p = whole_length (writes_of (typed p)) 0

-- two packets that differ in their digest bytes only
pub record DigestAside (p q : List ℕ) : Type 0 where
  pub sizes : length p ≡ length q
  pub before : take (before_digest p) p ≡ take (before_digest q) q

-- what is then the same
pub record SameAsked (p q : List ℕ) : Type 0 where
  pub numbers : (edition : ℕ) → number_under edition p ≡ number_under edition q
  pub requests : request_of p ≡ request_of q
  pub «data» : (request_of p).writes ≡ true → data_of p ≡ data_of q

header_long : (writes : Bool) → 12 ≤ whole_length writes 0
header_long true = omega arith
header_long false = omega arith

module _ (p q : List ℕ) (aside : DigestAside p q) where
  same_byte : (k : ℕ) → k < before_digest p → k < before_digest q → byte p k ≡ byte q k
  same_byte k h j = sym (get_or-take (before_digest p) p k 0 h) ∙ ap (λ (l : List ℕ). get_or l k 0) aside.before ∙ get_or-take (before_digest q) q k 0 j

  header_byte : (k : ℕ) → k < 12 → byte p k ≡ byte q k
  header_byte k h = same_byte k (omega (arith, header_long (writes_of (typed p)))) (omega (arith, header_long (writes_of (typed q))))

  same_typed : typed p ≡ typed q
  same_typed = ap (λ (first : ℕ). type_of (type_code first)) (header_byte 0 (omega arith))

  same_number : (edition : ℕ) → number_under edition p ≡ number_under edition q
  same_number edition =
      rw (
        aside.sizes,
        header_byte 0 (omega arith),
        header_byte 1 (omega arith),
        header_byte 2 (omega arith),
        header_byte 3 (omega arith),
        header_byte 7 (omega arith),
      )

  same_request : request_of p ≡ request_of q
  unfolding request_of
  same_request =
      rw (
        header_byte 0 (omega arith),
        header_byte 2 (omega arith),
        header_byte 4 (omega arith),
        header_byte 5 (omega arith),
        header_byte 6 (omega arith),
        header_byte 7 (omega arith),
        header_byte 8 (omega arith),
        header_byte 9 (omega arith),
        header_byte 10 (omega arith),
        header_byte 11 (omega arith),
      )

  same_data : writes_of (typed p) ≡ true → data_of p ≡ data_of q
  same_data w =
      let a : before_digest p ≡ 16 = rw w in
      let b : before_digest q ≡ 16 = rw (← same_typed, w) in
      rw (same_byte 12 (omega arith) (omega arith), same_byte 13 (omega arith) (omega arith), same_byte 14 (omega arith) (omega arith), same_byte 15 (omega arith) (omega arith))

  pub digest_aside : SameAsked p q
  unfolding request_of
  digest_aside = record { numbers = same_number; requests = same_request; «data» = same_data }
