-- Document 01, "What the board software covers": a board, and when it is well described; with document 02, 6/13, "Bits cleared by writing one", and
-- 9/13, "Two editions of byte 0".
-- Assumes nothing.
use Rattle.std.specs.Prelude.{ℕ, Bool, true, false, not, ◌||◌, cond, List, [], ◌∷◌, ◌≡◌, ltb, eqb, length}
use Rattle.std.specs.Int.Bits.{bit_and}
use Rattle.answers.specs.Checks.{any}
use Rattle.words.specs.Places.{placed}
use Rattle.capture.specs.declared.Capture.{Capture}
use Rattle.capture.specs.Kept.{forgotten, device_over}
use Rattle.board.specs.declared.Description.{Description}

-- "two spaces of 4,096 bytes (ordinary and trusted), a rule space of 4,096 bytes for each". 02, 6/13: "Each space gets a third buffer of 4,096
-- bytes that marks [the bits that are cleared by writing 1]."
pub record Space : Type 0 where
  pub bytes : List ℕ
  pub rules : List ℕ
  pub marks : List ℕ

-- a space with other bytes
abbrev pub with_bytes : Space → List ℕ → Space
with_bytes s bytes = record { bytes = bytes; rules = s.rules; marks = s.marks }

-- "A board has its function number (0 to 7), two spaces [with their rules and marks], and two offsets [A and B: `Description`]. The board also
-- keeps the captured bus and device number between packets, or the fact that none is captured." 02, 9/13: "The board description gets an edition".
pub record Board : Type 0 where
  pub description : Description
  pub capture : Capture
  pub ordinary : Space
  pub trusted : Space

-- a board with another edition, and the same otherwise
abbrev pub with_edition : Board → ℕ → Board
with_edition d edition =
    record {
      description = record { function = d.description.function; a = d.description.a; b = d.description.b; edition = edition };
      capture = d.capture;
      ordinary = d.ordinary;
      trusted = d.trusted;
    }

-- 02, 9/13: "Any other edition [than 1 and 2] is answer 1."
abbrev pub other_edition : ℕ → Bool
other_edition edition = not (eqb edition 1 || eqb edition 2)

-- "a captured device is over 31, or a function number or offset is outside its range": "A [..] a multiple of 4 from 104h to FFCh", "B [..] from
-- 00Ch to FFCh"; and the edition
abbrev pub ranges : Description → Capture → List Bool
ranges description kept =
    device_over kept
    ∷ ltb 7 description.function
    ∷ not (placed description.a 0x104 0xffc)
    ∷ not (placed description.b 0x00c 0xffc)
    ∷ other_edition description.edition
    ∷ []

abbrev pub out_of_range : Description → Capture → Bool
out_of_range description kept = any (ranges description kept)

-- "a space or rule space isn't 4,096 bytes"; 02, 6/13, of the marks: "so does another buffer length"
abbrev pub wrong_size : List ℕ → Bool
wrong_size buffer = not (eqb (length buffer) 4096)

abbrev pub wrong_sizes : Space → Bool
wrong_sizes s = any (wrong_size s.bytes ∷ wrong_size s.rules ∷ wrong_size s.marks ∷ [])

-- 02, 6/13: "A bit marked both here and as writable makes the board badly described": the rules, the marks
unfoldable pub doubly_marked : List ℕ → List ℕ → Bool
doubly_marked [] marks = false
doubly_marked (rule ∷ rules) [] = false
doubly_marked (rule ∷ rules) (mark ∷ marks) = cond (eqb (bit_and rule mark) 0) (doubly_marked rules marks) true

-- the causes of answer 1
abbrev pub causes : Board → List Bool
causes d =
    wrong_sizes d.ordinary
    ∷ wrong_sizes d.trusted
    ∷ out_of_range d.description d.capture
    ∷ doubly_marked d.ordinary.rules d.ordinary.marks
    ∷ doubly_marked d.trusted.rules d.trusted.marks
    ∷ []

unfoldable pub badly_described : Board → Bool
badly_described d = any (causes d)

-- a well-described board
abbrev pub WellDescribed : Board → Type 0
WellDescribed d = badly_described d ≡ false

-- "Reset forgets the capture and changes no byte."
abbrev pub after_reset : Board → Board
after_reset d = record { description = d.description; capture = forgotten d.capture; ordinary = d.ordinary; trusted = d.trusted }
