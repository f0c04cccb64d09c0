-- Document 02, 11/13: serving a packet on a board of two functions, over what a board of one function serves. Assumes nothing.
use Rattle.std.specs.Prelude.{ℕ, zero, suc, cond, List, [], ◌∷◌, ltb}
use Rattle.answers.specs.Checks.{Check, check, first_that_applies}
use Rattle.packet.specs.declared.Request.{Request}
use Rattle.packet.specs.declared.Status.TheVariants.{Unsupported}
use Rattle.packet.specs.Request.{request_of, checks_under}
use Rattle.packet.specs.Completion.{without_data}
use Rattle.board.specs.Description.{after_reset}
use Rattle.board.specs.Serving.{Outcome, serve, completer_of}
use Rattle.pair.specs.Pair.{Pair, Role, Primary, Alternate, with_side, side_of, board, bad_pair, is_for_role}

pub record PairOutcome : Type 0 where
  pub number : ℕ
  pub after : Pair
  pub written : List ℕ

-- what one function answers as a board by itself; the other stays as it is
abbrev pub answers_as : Role → Pair → Outcome → PairOutcome
answers_as role pair o = record { number = o.number; after = with_side role pair (side_of o.after); written = o.written }

unfoldable pub served_by : Role → Pair → List ℕ → ℕ → PairOutcome
served_by role pair p size = answers_as role pair (serve (board role pair) p size)

-- "a Type 1 request, or one for neither, gets UR with the primary's completer ID"
abbrev pub unsupported : Pair → Request → PairOutcome
unsupported pair q =
    record { number = 0; after = pair; written = without_data (completer_of (board Primary pair)) Unsupported q.requester q.tag }

-- "A packet goes to the function it names in byte 9": a packet without a fault
abbrev pub delivered : Pair → List ℕ → ℕ → PairOutcome
delivered pair p size =
    cond (is_for_role Primary pair p) (served_by Primary pair p size)
    (cond (is_for_role Alternate pair p) (served_by Alternate pair p size)
    (unsupported pair (request_of p)))

-- document 01's numbers in their order: 1 for a pair that is badly described, 2 for the reply, and "One with a fault of 3 to 6 gets that number."
abbrev pub pair_checks : Pair → List ℕ → ℕ → List Check
pair_checks pair p size = check 1 (bad_pair pair) ∷ check 2 (ltb size 16) ∷ checks_under pair.edition p

abbrev pub pair_number : Pair → List ℕ → ℕ → ℕ
pair_number pair p size = first_that_applies (pair_checks pair p size)

-- "Every number but 0 leaves spaces, capture, reply […] unchanged": of both functions
abbrev pub pair_refused : ℕ → Pair → PairOutcome
pair_refused n pair = record { number = n; after = pair; written = [] }

abbrev pub by_pair_number : ℕ → Pair → List ℕ → ℕ → PairOutcome
by_pair_number zero pair p size = delivered pair p size
by_pair_number (suc n) pair p size = pair_refused (suc n) pair

-- the pair, the packet, the reply's size
unfoldable pub serve_pair : Pair → List ℕ → ℕ → PairOutcome
serve_pair pair p size = by_pair_number (pair_number pair p size) pair p size

-- a reset of the board is one of both functions; document 01 of each: "Reset forgets the capture and changes no byte."
abbrev pub pair_after_reset : Pair → Pair
pair_after_reset pair =
    record {
      edition = pair.edition;
      primary = side_of (after_reset (board Primary pair));
      alternate = side_of (after_reset (board Alternate pair));
    }
