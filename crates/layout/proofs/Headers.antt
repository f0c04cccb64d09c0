-- Laws of a header: its four bytes, and its fields read back. Assumes nothing.
use Prim.Native.Nat.{ℕ, ◌+◌, ◌*◌, ◌/◌, ◌%◌, ◌^◌, ◌≤◌, ◌<◌}
use mathlib.Core.List.{List, [], ◌∷◌}
use mathlib.Core.Path.{◌≡◌, sym, ap, ◌∙◌}
use native.Mathlib.Nat.{mod-eq_of_lt}
use native.Mathlib.Omega.{arith}
use lib.Bits.{bit_or, or_shifted}
use lib.ListN.{get_or}
use Rattle.words.specs.Fields.{bits, joined}
use Rattle.layout.specs.declared.Structure.{Structure}
use Rattle.layout.specs.Structures.{identity, version}
use Rattle.layout.specs.Laying.{header_word, four_of}

-- its fields have no bit in common
pub header_bits : (i v n : ℕ) → i < 65536 → v ≤ 15 → n ≤ 0xfff
    → bit_or (bit_or (n * 1048576 % 4294967296) (v * 65536 % 4294967296)) i ≡ i + 2 ^ 16 * v + 2 ^ 20 * n
header_bits i v n a b c =
    let upper : n * 1048576 + v * 65536 ≡ (16 * n + v) * 65536 = omega arith in
    rw (mod-eq_of_lt {n = n * 1048576} {m = 4294967296} (omega arith), mod-eq_of_lt {n = v * 65536} {m = 4294967296} (omega arith), or_shifted n 20 (v * 65536) (omega arith), upper, or_shifted (16 * n + v) 16 i (omega arith))
    (omega arith)

-- the bytes by halves: the ID, and behind it the version below the pointer
pub header_bytes : (structure : Structure) (next : ℕ) → identity structure < 65536 → version structure ≤ 15 → next ≤ 0xfff
    → identity structure % 256
    ∷ identity structure / 256
    ∷ (version structure + 16 * next) % 256
    ∷ (version structure + 16 * next) / 256
    ∷ []
    ≡ four_of (header_word structure next)
header_bytes structure next i v n =
    λ k. first k ∷ second k ∷ third k ∷ fourth k ∷ []
  where
    first : identity structure % 256 ≡ header_word structure next % 256
    first = omega arith

    second : identity structure / 256 ≡ header_word structure next / 256 % 256
    second = omega arith

    third : (version structure + 16 * next) % 256 ≡ header_word structure next / 65536 % 256
    third = omega arith

    fourth : (version structure + 16 * next) / 256 ≡ header_word structure next / 16777216 % 256
    fourth = omega arith

-- "ID 15:0, version 19:16, next 31:20": a word with these four bytes
pub record Fields (w identity version next : ℕ) : Type 0 where
  pub id : bits 15 0 w ≡ identity
  pub versioned : bits 19 16 w ≡ version
  pub points : bits 31 20 w ≡ next

fields_of : (w i v n : ℕ) → w ≡ i + 65536 * (v + 16 * n) → i < 65536 → v ≤ 15 → n ≤ 0xfff → Fields w i v n
fields_of w i v n e a b c =
    let upper : w / 65536 ≡ v + 16 * n = omega arith in
    let top : w / 1048576 ≡ n = omega arith in
    record { id = omega arith; versioned = rw upper (omega arith); points = rw top (omega arith) }

pub header_fields : (structure : Structure) (next a b c d : ℕ) → identity structure < 65536 → version structure ≤ 15 → next ≤ 0xfff
    → a ∷ b ∷ c ∷ d ∷ [] ≡ four_of (header_word structure next) → Fields (joined a b c d) (identity structure) (version structure) next
header_fields structure next a b c d i v n e =
    let f = header_bytes structure next i v n in
    let p : a ≡ identity structure % 256 = ap (λ (l : List ℕ). get_or l 0 0) (e ∙ sym f) in
    let q : b ≡ identity structure / 256 = ap (λ (l : List ℕ). get_or l 1 0) (e ∙ sym f) in
    let r : c ≡ (version structure + 16 * next) % 256 = ap (λ (l : List ℕ). get_or l 2 0) (e ∙ sym f) in
    let t : d ≡ (version structure + 16 * next) / 256 = ap (λ (l : List ℕ). get_or l 3 0) (e ∙ sym f) in
    let w : joined a b c d ≡ identity structure + 65536 * (version structure + 16 * next) = omega arith in
    fields_of (joined a b c d) (identity structure) (version structure) next w i v n
