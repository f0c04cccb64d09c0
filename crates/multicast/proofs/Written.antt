-- A space with a record in it: the bytes of a Multicast capability at 100h, and that the reading finds the record again. Assumes nothing.
use Prim.Native.Nat.{ℕ, zero, suc, ◌+◌, ◌*◌, ◌/◌, ◌%◌, ◌^◌, ◌≤◌, ◌<◌}
use mathlib.Core.Bool.{true, false}
use mathlib.Core.List.{List, [], ◌∷◌, ◌++◌}
use mathlib.Core.Path.{◌≡◌, refl, sym, ap, ◌∙◌}
use native.Mathlib.Nat.{mod-lt, mod-eq_of_lt, div-one}
use native.Mathlib.Omega.{arith}
use lib.ListN.{length, get_or, replicate}
use lib.Pow.{high, low}
use Rattle.words.specs.Fields.{bits, bit, joined, word}
use Rattle.words.specs.Places.{placed}
use Rattle.records.specs.Required.{sized}
use Rattle.multicast.specs.declared.Record.{Record}
use Rattle.multicast.specs.Capability.{max_group, num_group, enable, index, base, receive, block_all, numbers, is_multicast, half_of, long_of, record_of, record_at, clashes, capability_says}
use Rattle.multicast.specs.Records.{AllBelow, Row}
use Rattle.multicast.proofs.Facts.{Fields}
use Rattle.multicast.proofs.Stands.{record_stands}
use Rattle.multicast.proofs.Told.{capability_found, capability_number_lem}

-- a number without its lowest k bytes, and its byte k
abbrev after : ℕ → ℕ → ℕ
after n zero = n
after n (suc k) = after n k / 256

abbrev part : ℕ → ℕ → ℕ
part n k = after n k % 256

abbrev long_bytes : ℕ → List ℕ → List ℕ
long_bytes n rest = part n 0 ∷ part n 1 ∷ part n 2 ∷ part n 3 ∷ part n 4 ∷ part n 5 ∷ part n 6 ∷ part n 7 ∷ rest

-- 28h bytes: the header, the two registers of 16 bits, three of 64, and eight more
abbrev written : Record → List ℕ
written r =
    0x12 ∷ 0 ∷ 1 ∷ 0
    ∷ max_group r ∷ 0
    ∷ num_group r ∷ enable r * 128
    ∷ long_bytes (base r + index r) (long_bytes (receive r) (long_bytes (block_all r) (replicate 8 0)))

unfoldable pub space_with : Record → List ℕ
space_with r = replicate 256 0 ++ written r ++ replicate 3800 0

-- ---- eight bytes are the number that they are made of

lowest : (n : ℕ) → n ≡ n % 256 + 256 * (n / 256)
lowest n = omega arith

-- the lowest four bytes, and what is left
four_parts : (n : ℕ) → n ≡ joined (part n 0) (part n 1) (part n 2) (part n 3) + 4294967296 * after n 4
four_parts n =
    sum n (part n 0) (after n 1) (part n 1) (after n 2) (part n 2) (after n 3) (part n 3) (after n 4) (lowest n) (lowest (after n 1)) (lowest (after n 2)) (lowest (after n 3))
  where
    sum : (n a p b q c r d t : ℕ) → n ≡ a + 256 * p → p ≡ b + 256 * q → q ≡ c + 256 * r → r ≡ d + 256 * t → n ≡ joined a b c d + 4294967296 * t
    sum n a p b q c r d t e f g h = omega arith

long_parts : (n : ℕ) → n < 2 ^ 64
    → long_of (joined (part n 0) (part n 1) (part n 2) (part n 3)) (joined (part n 4) (part n 5) (part n 6) (part n 7)) ≡ n
long_parts n h = whole n _ _ (after n 4) (after n 8) (four_parts n) (four_parts (after n 4)) h
  where
    whole : (n x y q t : ℕ) → n ≡ x + 4294967296 * q → q ≡ y + 4294967296 * t → n < 18446744073709551616 → long_of x y ≡ n
    whole n x y q t e f h = omega arith

-- ---- its bytes are bytes

below_replicate : (count : ℕ) → AllBelow 256 (replicate count 0)
below_replicate zero = tt
below_replicate (suc count) = (omega arith, below_replicate count)

below_append : (l m : List ℕ) → AllBelow 256 l → AllBelow 256 m → AllBelow 256 (l ++ m)
below_append [] m a b = b
below_append (x ∷ l) m a b = (a.0, below_append l m a.1 b)

part_small : (n k : ℕ) → part n k < 256
part_small n k = mod-lt (after n k) (omega arith)

below_long : (n : ℕ) (rest : List ℕ) → AllBelow 256 rest → AllBelow 256 (long_bytes n rest)
below_long n rest h =
    (part_small n 0, (part_small n 1, (part_small n 2, (part_small n 3, (part_small n 4, (part_small n 5, (part_small n 6, (part_small n 7, h))))))))

below_written : (r : Record) → max_group r ≤ 63 → num_group r ≤ 63 → enable r ≤ 1 → AllBelow 256 (written r)
below_written r m g e =
    let last : List ℕ = replicate 8 0 in
    let block = below_long (block_all r) last (below_replicate 8) in
    let registers = below_long (base r + index r) (long_bytes (receive r) (long_bytes (block_all r) last)) (below_long (receive r) (long_bytes (block_all r) last) block) in
    (omega arith, (omega arith, (omega arith, (omega arith, (omega arith, (omega arith, (omega arith, (omega arith, registers))))))))

pub below_space : (r : Record) → max_group r ≤ 63 → num_group r ≤ 63 → enable r ≤ 1 → AllBelow 256 (space_with r)
unfolding space_with
below_space r m g e =
    below_append (replicate 256 0) (written r ++ replicate 3800 0) (below_replicate 256) (below_append (written r) (replicate 3800 0) (below_written r m g e) (below_replicate 3800))

-- ---- what is read

below_at : (bound : ℕ) (l : List ℕ) (i : ℕ) → AllBelow bound l → i < length l → get_or l i 0 < bound
below_at bound [] i a h = absurd (omega arith)
below_at bound (x ∷ l) zero a h = a.0
below_at bound (x ∷ l) (suc i) a h = below_at bound l i a.1 (omega arith)

-- the lowest k bits of a number, and those above, by its parts
lowest_of : (hi k lo n : ℕ) → n ≡ hi * 2 ^ k + lo → lo < 2 ^ k → n / 2 ^ 0 % 2 ^ k ≡ lo
lowest_of hi k lo n e h = ap (λ (x : ℕ). x % 2 ^ k) (div-one n ∙ e) ∙ low hi k h

above_of : (hi k lo n : ℕ) → n ≡ hi * 2 ^ k + lo → lo < 2 ^ k → n / 2 ^ k ≡ hi
above_of hi k lo n e h = ap (λ (x : ℕ). x / 2 ^ k) e ∙ high hi k h

-- five numbers, each as its field has it
fields_again : (m n e i b x y : ℕ) → m ≤ 63 → n ≤ 63 → e ≤ 1 → i ≤ 63 → b % 4096 ≡ 0 → b < 18446744073709551616
    → ◌≡◌ {A = Record} (record { max_group = m; num_group = n; enable = e; index = i; base = b; receive = x; block_all = y }) (record_of (half_of m 0) (half_of n (e * 128)) (b + i) x y)
fields_again m n e i b x y hm hn he hi hb wide =
    let a : m ≡ bits 5 0 (half_of m 0) = sym (lowest_of 0 6 m (half_of m 0) (omega arith) (omega arith)) in
    let c : n ≡ bits 5 0 (half_of n (e * 128)) = sym (lowest_of (e * 512) 6 n (half_of n (e * 128)) (omega arith) (omega arith)) in
    let d : e ≡ bit 15 (half_of n (e * 128)) = sym (ap (λ (z : ℕ). z % 2) (above_of e 15 n (half_of n (e * 128)) (omega arith) (omega arith)) ∙ mod-eq_of_lt {n = e} {m = 2} (omega arith)) in
    let q : b ≡ b / 4096 * 4096 = omega arith in
    let f : i ≡ bits 5 0 (b + i) = sym (lowest_of (b / 4096 * 64) 6 i (b + i) (omega arith) (omega arith)) in
    let page : (b + i) / 2 ^ 12 % 2 ^ 52 ≡ b / 4096 = ap (λ (z : ℕ). z % 2 ^ 52) (above_of (b / 4096) 12 i (b + i) (omega arith) (omega arith)) ∙ mod-eq_of_lt {n = b / 4096} {m = 2 ^ 52} (omega arith) in
    let g : b ≡ bits 63 12 (b + i) * 2 ^ 12 = q ∙ sym (ap (λ (z : ℕ). z * 4096) page) in
    λ j. record { max_group = a j; num_group = c j; enable = d j; index = f j; base = g j; receive = x; block_all = y }

module _ (r : Record) (f : Fields r) (row : Row r) where
  at_place : (i : ℕ) → i < 7 → get_or (numbers r) i 0 < 2 ^ 64
  at_place i h = below_at (2 ^ 64) (numbers r) i row.wide (omega (arith, row.seven))

  -- the record that stands in that space
  pub record_read : record_at (space_with r) 0x100 ≡ r
  unfolding space_with
  record_read =
      sym
      (record_stands (space_with r) 0x100
      (fields_again (max_group r) (num_group r) (enable r) (index r) (base r) (receive r) (block_all r) f.maximum (omega (arith, f.groups, f.maximum)) f.enabling f.most f.aligned (at_place 4 (omega arith)))
      refl refl
      (sym (long_parts (base r + index r) (omega (arith, at_place 4 (omega arith), f.aligned, f.most))))
      (sym (long_parts (receive r) (at_place 5 (omega arith))))
      (sym (long_parts (block_all r) (at_place 6 (omega arith)))))

  -- it is what the request asks for
  stands_there : (sized (space_with r) ≡ true) × (is_multicast (word (space_with r) 0x100) ≡ true)
  unfolding space_with sized is_multicast
  stands_there = (refl, refl)

  placed_there : placed 0x100 0x100 0xffc ≡ true
  unfolding placed
  placed_there = refl

  -- so the reading gives it
  pub written_found : clashes r ≡ false → capability_says (space_with r) 0x100 ≡ record { number = 0; fields = r }
  written_found e =
      sym (capability_found (space_with r) 0x100 (capability_number_lem (space_with r) 0x100 stands_there.0 placed_there stands_there.1 refl (ap clashes record_read ∙ e)))
      ∙ ap (λ (fields : Record). record { number = 0; fields = fields }) record_read
