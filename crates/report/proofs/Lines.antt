-- Laws of the lines of a listing: each byte of an entry, the length of each line, and where the parts of one meet. Assumes nothing.
use Prim.Native.Nat.{ℕ, ◌+◌, ◌*◌, ◌/◌, ◌%◌, ◌≤◌, ◌<◌}
use mathlib.Core.List.{List, [], ◌∷◌, ◌++◌, append_assoc, append-nil}
use mathlib.Core.Path.{◌≡◌, refl, sym, ap, ap₂, ◌∙◌}
use native.Mathlib.Nat.{div-one, mul-zero, mul-suc, add_comm}
use native.Mathlib.Numerals.{add-one}
use native.Mathlib.Omega.{arith}
use lib.Dec.{lit≤}
use lib.ListN.{length, length-append, take, get_or}
use lib.Seq.{take-suc}
use Rattle.words.specs.Bytes.{byte}
use Rattle.words.specs.Fields.{word}
use Rattle.lists.specs.Table.{describe}
use Rattle.report.specs.declared.section.Section.{Section}
use Rattle.report.specs.declared.section.Section.TheVariants.{Compatible, Extended}
use Rattle.report.specs.Text.{ascii, digit, line, hex, decimal, figures}
use Rattle.report.specs.Listing.{Style, compatible_entry, extended_entry, heading, refused, refused_at, entries}
use Rattle.report.specs.Inner.{kind_of, style, width, title}
use Rattle.report.proofs.Numerals.{decimal_length, figures_most, figures_few}

-- ---- the bytes of an entry

pub compatible_line : (s : List ℕ) (at : ℕ)
    → line (compatible_entry s at)
    ≡ digit (at / 256 % 16) ∷ digit (at / 16 % 16) ∷ digit (at % 16) ∷ 0x20 ∷ digit (byte s at / 16 % 16) ∷ digit (byte s at % 16) ∷ 0x0a ∷ []
unfolding compatible_entry
compatible_line s at = simp div-one

-- the digits of the low half of a word are its own
module _ (n : ℕ) where
  low_12 : n % 65536 / 4096 % 16 ≡ n / 4096 % 16
  low_12 = omega arith

  low_8 : n % 65536 / 256 % 16 ≡ n / 256 % 16
  low_8 = omega arith

  low_4 : n % 65536 / 16 % 16 ≡ n / 16 % 16
  low_4 = omega arith

  low_0 : n % 65536 % 16 ≡ n % 16
  low_0 = omega arith

  one_digit : n % 16 % 16 ≡ n % 16
  one_digit = omega arith

pub extended_line : (s : List ℕ) (at : ℕ)
    → line (extended_entry s at)
    ≡ digit (at / 256 % 16) ∷ digit (at / 16 % 16) ∷ digit (at % 16) ∷ 0x20 ∷ digit (word s at / 4096 % 16) ∷ digit (word s at / 256 % 16)
    ∷ digit (word s at / 16 % 16) ∷ digit (word s at % 16) ∷ 0x20 ∷ digit (word s at / 65536 % 16) ∷ 0x0a ∷ []
unfolding extended_entry
extended_line s at = simp (div-one, low_12, low_8, low_4, low_0, one_digit)

pub hex_three : (n : ℕ) → hex 3 n ≡ digit (n / 256 % 16) ∷ digit (n / 16 % 16) ∷ digit (n % 16) ∷ []
hex_three n = simp div-one

-- ---- lengths

pub line_length : (section : Section) (s : List ℕ) (at : ℕ) → length (line ((style section).entry s at)) ≡ width section
line_length Compatible s at = ap length (compatible_line s at)
line_length Extended s at = ap length (extended_line s at)

pub entries_length : (section : Section) (s offsets : List ℕ) → length (entries (style section) s offsets) ≡ width section * length offsets
entries_length section s [] = sym (mul-zero (width section))
entries_length section s (at ∷ rest) =
    length-append (line ((style section).entry s at)) (entries (style section) s rest)
    ∙ ap₂ (λ (a b : ℕ). a + b) (line_length section s at) (entries_length section s rest)
    ∙ rw (mul-suc, add_comm)

-- ---- one line more

entries_append : (how : Style) (s a b : List ℕ) → entries how s (a ++ b) ≡ entries how s a ++ entries how s b
entries_append how s [] b = refl
entries_append how s (at ∷ rest) b = rw (entries_append how s rest b) (sym (append_assoc (line (how.entry s at)) (entries how s rest) (entries how s b)))

pub entries_more : (how : Style) (s offsets : List ℕ) (done : ℕ) → done < length offsets
    → entries how s (take done offsets) ++ line (how.entry s (get_or offsets done 0)) ≡ entries how s (take (done + 1) offsets)
entries_more how s offsets done h =
    rw (add-one done, take-suc offsets done 0 h, entries_append how s (take done offsets) (get_or offsets done 0 ∷ []), append-nil)

-- ---- the lines with a number

module _ (name : List ℕ) (n : ℕ) where
  pub heading_line : name ++ (ascii " " ++ decimal n ++ 0x0a ∷ []) ≡ heading name n
  unfolding heading
  heading_line = simp append_assoc

  pub refused_line : name ++ (ascii " " ++ decimal n ++ line (ascii " refused")) ≡ refused name n
  unfolding refused
  refused_line = simp append_assoc

  pub refused_at_line : (fault : ℕ) → name ++ (ascii " " ++ decimal n ++ (ascii " " ++ hex 3 fault ++ line (ascii " refused"))) ≡ refused_at name n fault
  unfolding refused_at
  refused_at_line fault = simp append_assoc

pub name_length : (section : Section) → length (style section).name ≤ 10
name_length Compatible = lit≤ tt
name_length Extended = lit≤ tt

title_room : (section : Section) (n : ℕ) → n ≤ (describe (kind_of section)).maximum
    → length (style section).name + (1 + figures n + 1) ≤ title section
title_room Compatible n h = omega (arith, figures_few n (omega arith))
title_room Extended n h = omega (arith, figures_most n)

pub heading_length : (section : Section) (n : ℕ) → n ≤ (describe (kind_of section)).maximum
    → length (heading (style section).name n) ≤ title section
heading_length section n h =
    let l = length-append (style section).name (ascii " " ++ decimal n ++ 0x0a ∷ []) in
    let d = length-append (decimal n) (0x0a ∷ []) in
    omega (arith, title_room section n h, ap length (heading_line (style section).name n), l, d, decimal_length n)
