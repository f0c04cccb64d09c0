-- Laws of a section as it is written: its lines one after the other, and what the walk of its list answered. Assumes nothing.
use Prim.Native.Nat.{ℕ, ◌+◌, ◌*◌, ◌≤◌, ◌<◌}
use mathlib.Core.List.{List, [], ◌∷◌, ◌++◌, append_assoc}
use mathlib.Core.Path.{◌≡◌, ap, ◌∙◌}
use native.Mathlib.Nat.{le_of_lt}
use native.Mathlib.Omega.{arith}
use lib.Dec.{lit≤}
use lib.ListN.{length, length-append, take, get_or}
use lib.Seq.{length-take-le, take-length}
use Rattle.lists.specs.Table.{describe}
use Rattle.report.specs.declared.section.Section.{Section}
use Rattle.report.specs.declared.text.Text.{Text}
use Rattle.report.specs.declared.section.Section.TheVariants.{Compatible, Extended}
use Rattle.report.specs.Text.{ascii, line, hex, decimal}
use Rattle.report.specs.Listing.{heading, refused, refused_at, entries}
use Rattle.report.specs.Inner.{kind_of, style, width, title, most, Added, Fits, Ready, Chained}
use Rattle.report.proofs.Adding.{added_length, added_then, added_as}
use Rattle.report.proofs.Lines.{line_length, entries_length, entries_more, heading_line, refused_line, refused_at_line, name_length, heading_length}
use Rattle.report.proofs.Numerals.{decimal_length, figures_most}

-- ---- a line for each offset

-- where so many lines fit, one more than a smaller number fits
one_more : (section : Section) (from done count size : ℕ) → from + width section * count ≤ size → done < count
    → from + (width section * done + width section) ≤ size
one_more Compatible from done count size h k = omega arith
one_more Extended from done count size h k = omega arith

-- so many lines were written behind a text
abbrev pub Passed : Section → List ℕ → List ℕ → Text → ℕ → Text → Type 0
Passed section s offsets text done after = Added (entries (style section) s (take done offsets)) text after

module _ {section : Section} {s offsets : List ℕ} {text : Text} (ready : Ready section s offsets text) where
  module _ (done : ℕ) (after : Text) (more : done < length offsets) (passed : Passed section s offsets text done after) where
    passed_length : length (entries (style section) s (take done offsets)) ≡ width section * done
    passed_length =
        entries_length section s (take done offsets) ∙ ap (λ (n : ℕ). width section * n) (length-take-le done offsets (le_of_lt more))

    pub line_fits : Fits (width section) after
    line_fits =
        omega (
          arith,
          one_more section text.place done (length offsets) (length text.bytes.now) ready.fits more,
          passed_length,
          passed.next,
          added_length passed (omega (arith, one_more section text.place done (length offsets) (length text.bytes.now) ready.fits more, passed_length)),
        )

    pub line_more : {next : Text} → Added (line ((style section).entry s (get_or offsets done 0))) after next
        → Passed section s offsets text (done + 1) next
    line_more written =
        added_as (entries_more (style section) s offsets done more)
        (added_then passed written
        (omega (
          arith,
          one_more section text.place done (length offsets) (length text.bytes.now) ready.fits more,
          passed_length,
          line_length section s (get_or offsets done 0),
        )))

  pub all_written : (done : ℕ) {after : Text} → done ≡ length offsets → Passed section s offsets text done after
      → Added (entries (style section) s offsets) text after
  all_written done e passed = added_as (ap (entries (style section) s) (ap (λ (n : ℕ). take n offsets) e ∙ take-length offsets)) passed

-- ---- a heading and its lines

-- the longest section has room for a heading and for as many lines as its list can have
lines_room : (section : Section) (n : ℕ) → n ≤ (describe (kind_of section)).maximum → title section + width section * n ≤ most section
lines_room Compatible n h = omega arith
lines_room Extended n h = omega arith

pub name_room : (section : Section) → 27 ≤ most section
name_room Compatible = lit≤ tt
name_room Extended = lit≤ tt

pub section_length : (section : Section) (s offsets : List ℕ) → length offsets ≤ (describe (kind_of section)).maximum
    → length (heading (style section).name (length offsets) ++ entries (style section) s offsets) ≤ most section
section_length section s offsets few =
    omega (
      arith,
      length-append (heading (style section).name (length offsets)) (entries (style section) s offsets),
      heading_length section (length offsets) few,
      entries_length section s offsets,
      lines_room section (length offsets) few,
    )

module _ {section : Section} {s offsets : List ℕ} {text : Text} (ready : Chained section s offsets text) where
  heading_fits : Fits (length (heading (style section).name (length offsets)) + width section * length offsets) text
  heading_fits =
      omega (arith, ready.fits, lines_room section (length offsets) ready.few, heading_length section (length offsets) ready.few)

  pub headed : {middle after : Text} → Added (style section).name text middle
      → Added (ascii " " ++ decimal (length offsets) ++ 0x0a ∷ []) middle after
      → Added (heading (style section).name (length offsets)) text after
  headed first second =
      let whole = length-append (style section).name (ascii " " ++ decimal (length offsets) ++ 0x0a ∷ []) in
      added_as (heading_line (style section).name (length offsets))
      (added_then first second
      (omega (arith, heading_fits, whole, ap length (heading_line (style section).name (length offsets)))))

  module _ {middle : Text} (first : Added (heading (style section).name (length offsets)) text middle) where
    pub lines_ready : Ready section s offsets middle
    lines_ready = record {
      space = ready.space;
      inside = ready.inside;
      fits = omega (arith, heading_fits, first.next, added_length first (omega (arith, heading_fits)));
    }

    pub section_listed : {after : Text} → Added (entries (style section) s offsets) middle after
        → Added (heading (style section).name (length offsets) ++ entries (style section) s offsets) text after
    section_listed second = added_then first second (omega (arith, heading_fits, entries_length section s offsets))

-- ---- a name, a number and how the line ends

pub number_length : (n : ℕ) (end : List ℕ) → length (ascii " " ++ decimal n ++ end) ≤ 4 + length end
number_length n end = omega (arith, length-append (decimal n) end, decimal_length n, figures_most n)

-- the piece behind a name that tells a place, of its three pieces
pub numbered_at : (n fault : ℕ) {digits : List ℕ} {text middle behind after : Text} → Fits 17 text
    → Added (ascii " " ++ decimal n ++ ascii " ") text middle → Added digits middle behind → Added (line (ascii " refused")) behind after
    → digits ≡ hex 3 fault → Added (ascii " " ++ decimal n ++ (ascii " " ++ hex 3 fault ++ line (ascii " refused"))) text after
numbered_at n fault fits first second third same =
    let front = number_length n (ascii " ") in
    let both = length-append (ascii " " ++ decimal n ++ ascii " ") (hex 3 fault) in
    added_as (simp append_assoc)
    (added_then (added_then first (added_as same second) (omega (arith, fits, front))) third (omega (arith, fits, front, both)))

module _ (name : List ℕ) (n : ℕ) (h : length name ≤ 10) where
  tail_length : (end : List ℕ) → length (name ++ (ascii " " ++ decimal n ++ end)) ≤ 14 + length end
  tail_length end =
      omega (arith, length-append name (ascii " " ++ decimal n ++ end), number_length n end)

  named_numbered : (end : List ℕ) {text middle after : Text} → Fits (14 + length end) text → Added name text middle
      → Added (ascii " " ++ decimal n ++ end) middle after → Added (name ++ (ascii " " ++ decimal n ++ end)) text after
  named_numbered end fits first second =
      added_then first second (omega (arith, fits, tail_length end, length-append name (ascii " " ++ decimal n ++ end)))

  pub named_refused : {text middle after : Text} → Fits 23 text → Added name text middle
      → Added (ascii " " ++ decimal n ++ line (ascii " refused")) middle after → Added (refused name n) text after
  named_refused fits first second = added_as (refused_line name n) (named_numbered (line (ascii " refused")) fits first second)

  pub named_refused_at : (fault : ℕ) {text middle after : Text} → Fits 27 text → Added name text middle
      → Added (ascii " " ++ decimal n ++ (ascii " " ++ hex 3 fault ++ line (ascii " refused"))) middle after
      → Added (refused_at name n fault) text after
  named_refused_at fault fits first second =
      added_as (refused_at_line name n fault) (named_numbered (ascii " " ++ hex 3 fault ++ line (ascii " refused")) fits first second)

pub refused_length : (section : Section) (n fault : ℕ) → length (refused_at (style section).name n fault) ≤ most section
refused_length section n fault =
    let name = (style section).name in
    omega (
      arith,
      ap length (refused_at_line name n fault),
      tail_length name n (name_length section) (ascii " " ++ hex 3 fault ++ line (ascii " refused")),
      name_room section,
    )
