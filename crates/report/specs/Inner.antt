-- What the private functions of this crate tell each other. No promise of a public entry cites this file. Assumes nothing.
use Rattle.std.specs.Prelude.{ℕ, ◌+◌, ◌*◌, ◌≤◌, List, ◌≡◌, length, get_or}
use Rattle.words.specs.Bytes.{put}
use Rattle.lists.specs.declared.Kind.{Kind}
use Rattle.lists.specs.declared.Kind.TheVariants as kind
use Rattle.lists.specs.Table.{describe}
use Rattle.lists.specs.Walks.{WholeSpace}
use Rattle.report.specs.declared.section.Section.{Section}
use Rattle.report.specs.declared.text.Text.{Text}
use Rattle.report.specs.declared.section.Section.TheVariants.{Compatible, Extended}
use Rattle.report.specs.Listing.{Style, compatible, extended}

-- the list that a section shows, how it shows it, the bytes of a line, the most bytes of its heading, and the most bytes of all
abbrev pub kind_of : Section → Kind
kind_of Compatible = kind.Compatible
kind_of Extended = kind.Extended

abbrev pub style : Section → Style
style Compatible = compatible
style Extended = extended

abbrev pub width : Section → ℕ
width Compatible = 7
width Extended = 11

abbrev pub title : Section → ℕ
title Compatible = 14
title Extended = 13

abbrev pub most : Section → ℕ
most section = title section + (describe (kind_of section)).maximum * width section

-- the longest listing: both sections at their longest, and "end" with its line end
abbrev pub longest : ℕ
longest = most Compatible + most Extended + 4

-- bytes were put at the place of a text, and the place is behind them
pub record Added (bytes : List ℕ) (text after : Text) : Type 0 where
  pub next : after.place ≡ text.place + length bytes
  pub left : after.bytes.now ≡ put text.bytes.now text.place bytes

-- the same, of at most so many bytes, of which something is known
pub record Told (of : List ℕ → Type 0) (count : ℕ) (text after : Text) : Type 0 where
  pub bytes : List ℕ
  pub known : of bytes
  pub short : length bytes ≤ count
  pub added : Added bytes text after

-- so many bytes fit at the place of a text
abbrev pub Fits : ℕ → Text → Type 0
Fits count text = text.place + count ≤ length text.bytes.now

-- every number of a list is the offset of a whole word of a space
abbrev pub Inside : List ℕ → Type 0
Inside offsets = (index : ℕ) → get_or offsets index 0 ≤ 0xffc

-- what the lines of a section need: a space, offsets of its words, and a text with room for them
pub record Ready (section : Section) (s offsets : List ℕ) (text : Text) : Type 0 where
  pub space : WholeSpace s
  pub inside : Inside offsets
  pub fits : Fits (width section * length offsets) text

-- what a legal chain needs besides: no more offsets than its list can have, and a text with room for the longest section
pub record Chained (section : Section) (s offsets : List ℕ) (text : Text) : Type 0 where
  pub space : WholeSpace s
  pub inside : Inside offsets
  pub few : length offsets ≤ (describe (kind_of section)).maximum
  pub fits : Fits (most section) text
