-- Document 01, "The listing program", with document 02, 3/13: what is written for a space. Assumes nothing.
use Rattle.std.specs.Prelude.{ℕ, List, [], ◌∷◌, ◌++◌, ◌≡◌, length}
use Rattle.words.specs.Bytes.{byte}
use Rattle.words.specs.Fields.{bits, word}
use Rattle.lists.specs.declared.Kind.TheVariants.{Compatible, Extended}
use Rattle.lists.specs.Table.{ListRule, describe}
use Rattle.lists.specs.Chain.{HasChain}
use Rattle.lists.specs.Breaks.{Breaks}
use Rattle.lists.specs.Walks.{WholeSpace}
use Rattle.report.specs.Text.{ascii, line, hex, decimal}

-- how a list is shown: which list it is, its name, and what a line says of the header at an offset of a space
pub record Style : Type 0 where
  pub list : ListRule
  pub name : List ℕ
  pub entry : List ℕ → ℕ → List ℕ

-- "`040 09`": the offset, and the ID of the header "ID byte, next byte"
unfoldable pub compatible_entry : List ℕ → ℕ → List ℕ
compatible_entry s at = hex 3 at ++ ascii " " ++ hex 2 (byte s at)

-- "`100 0023 1`": the offset, and the ID and the version of the header "ID 15:0, version 19:16, next 31:20"
unfoldable pub extended_entry : List ℕ → ℕ → List ℕ
extended_entry s at = hex 3 at ++ ascii " " ++ hex 4 (bits 15 0 (word s at)) ++ ascii " " ++ hex 1 (bits 19 16 (word s at))

-- the two lists that are shown
abbrev pub compatible : Style
compatible = record { list = describe Compatible; name = ascii "compatible"; entry = compatible_entry }

abbrev pub extended : Style
extended = record { list = describe Extended; name = ascii "extended"; entry = extended_entry }

-- "`compatible 1`", "`extended 1`": the name and the count
unfoldable pub heading : List ℕ → ℕ → List ℕ
heading name count = line (name ++ ascii " " ++ decimal count)

-- "`input 1 refused`"
unfoldable pub refused : List ℕ → ℕ → List ℕ
refused name number = line (name ++ ascii " " ++ decimal number ++ ascii " refused")

-- document 02, 3/13, in the place of "`compatible 7 refused`" and "`extended 7 refused`": "11 or 12 and the place in three hex digits, as
-- `extended 12 100 refused` for P12"
unfoldable pub refused_at : List ℕ → ℕ → ℕ → List ℕ
refused_at name number place = line (name ++ ascii " " ++ decimal number ++ ascii " " ++ hex 3 place ++ ascii " refused")

-- a line for each offset, in order
abbrev pub entries : Style → List ℕ → List ℕ → List ℕ
entries style s [] = []
entries style s (at ∷ rest) = line (style.entry s at) ++ entries style s rest

-- what is written for one list: its chain, or, where it breaks, "A broken list's lines are replaced by …"
pub data Part (style : Style) (s out : List ℕ) : Type 0 where
  listed : (chain : List ℕ) → HasChain style.list s chain → out ≡ heading style.name (length chain) ++ entries style s chain
      → Part style s out
  broken : (number place : ℕ) → Breaks style.list s number place → out ≡ refused_at style.name number place → Part style s out

-- "Input of another size writes only `input 1 refused`"; else the compatible part, the extended part and "`end`"
pub data Says (s out : List ℕ) : Type 0 where
  other : (WholeSpace s → ⊥) → out ≡ refused (ascii "input") 1 → Says s out
  parts : WholeSpace s → (first second : List ℕ) → Part compatible s first → Part extended s second → out ≡ first ++ second ++ line (ascii "end")
      → Says s out
