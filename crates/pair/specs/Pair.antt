-- Document 02, 11/13, "Primary and alternate": a board of two functions, when it is badly described, and whom a packet is for. Assumes nothing.
use Rattle.std.specs.Prelude.{ℕ, Bool, false, not, ◌&&◌, List, [], ◌∷◌, ◌≡◌, eqb}
use Rattle.answers.specs.Checks.{any}
use Rattle.packet.specs.Request.{number_under, request_of}
use Rattle.capture.specs.declared.Capture.{Capture}
use Rattle.capture.specs.Kept.{forgotten}
use Rattle.board.specs.declared.Description.{Description}
use Rattle.board.specs.Description.{Space, Board, badly_described}
use Rattle.board.specs.Access.{is_type1}
use Rattle.pair.specs.declared.Function.{Function}
use Rattle.pair.specs.declared.Captures.{Captures}

-- "each with its own spaces, rules, offsets and capture": of one function its number and offsets (`Function`), its capture, and its two spaces, each
-- with its rules and marks
pub record Side : Type 0 where
  pub function : Function
  pub capture : Capture
  pub ordinary : Space
  pub trusted : Space

-- "a board of two functions […] and one edition"
pub record Pair : Type 0 where
  pub edition : ℕ
  pub primary : Side
  pub alternate : Side

pub data Role : Type 0 where
  Primary : Role
  Alternate : Role

abbrev pub other : Role → Role
other Primary = Alternate
other Alternate = Primary

abbrev pub side : Role → Pair → Side
side Primary pair = pair.primary
side Alternate pair = pair.alternate

abbrev pub with_side : Role → Pair → Side → Pair
with_side Primary pair s = record { edition = pair.edition; primary = s; alternate = pair.alternate }
with_side Alternate pair s = record { edition = pair.edition; primary = pair.primary; alternate = s }

-- a function by itself, as document 01's board of one function; and what such a board has without its edition
abbrev pub described : ℕ → Function → Description
described edition function = record { function = function.number; a = function.a; b = function.b; edition = edition }

abbrev pub board_of : ℕ → Side → Board
board_of edition s = record { description = described edition s.function; capture = s.capture; ordinary = s.ordinary; trusted = s.trusted }

abbrev pub side_of : Board → Side
side_of d =
    record {
      function = record { number = d.description.function; a = d.description.a; b = d.description.b };
      capture = d.capture;
      ordinary = d.ordinary;
      trusted = d.trusted;
    }

abbrev pub board : Role → Pair → Board
board role pair = board_of pair.edition (side role pair)

abbrev pub number_of : Role → Pair → ℕ
number_of role pair = (side role pair).function.number

-- a board of one function is badly described as in document 01; "with different numbers", "Equal numbers: 1."
unfoldable pub bad_pair : Pair → Bool
bad_pair pair =
    any (badly_described (board Primary pair) ∷ badly_described (board Alternate pair) ∷ eqb (number_of Primary pair) (number_of Alternate pair) ∷ [])

-- "Both functions are well described"
abbrev pub WellPaired : Pair → Type 0
WellPaired pair = bad_pair pair ≡ false

-- "A packet goes to the function it names in byte 9"; "One with a fault of 3 to 6 gets that number. Below, that one and every Type 1 request count as
-- for neither, whatever byte 9 names.": the edition, a function's number, the packet
unfoldable pub is_for : ℕ → ℕ → List ℕ → Bool
is_for edition number p =
    eqb (number_under edition p) 0 && (not (is_type1 (request_of p).target) && eqb (request_of p).function number)

abbrev pub is_for_role : Role → Pair → List ℕ → Bool
is_for_role role pair p = is_for pair.edition (number_of role pair) p

-- a reset, by document 01 of each function: "Reset forgets the capture and changes no byte."
abbrev pub forgotten_both : Captures → Captures
forgotten_both kept = record { primary = forgotten kept.primary; alternate = forgotten kept.alternate }
