-- What happens one thing after the other, and what is answered: to a board, and to a board of two functions, in a run of packets and resets and in calls of the
-- entries. Assumes nothing.
use Rattle.std.specs.Prelude.{ℕ, List, [], ◌∷◌, take}
use Rattle.answers.specs.Numbers as numbers
use Rattle.board.specs.Description.{Board}
use Rattle.board.specs.Serving.{Outcome, serve}
use Rattle.board.specs.Promise.{count_of}
use Rattle.runs.specs.Run as run
use Rattle.runs.specs.Run.{Event, packet, reset}
use Rattle.runs.specs.Calls as calling
use Rattle.runs.specs.Calls.{Call, called, was_reset}
use Rattle.pair.specs.Pair.{Pair}
use Rattle.isolation.specs.Rows as pairs
use Rattle.isolation.specs.Rows.{PairCall, pair_outcome}

-- what a packet is answered: the number and the written reply bytes (a reset has 0 and none)
pub record Answer : Type 0 where
  pub number : ℕ
  pub written : List ℕ

abbrev pub none : Answer
none = record { number = 0; written = [] }

-- the steps of a row: what each of them is that happens, the state after it, what it answers, and what is asked of a step by itself
pub record Row (State Happening Step : Type 0) : Type 1 where
  pub event : Step → Happening
  pub next : State → Step → State
  pub answer : State → Step → Answer
  pub Meets : State → Step → Type 0

module _ {State Happening Step : Type 0} (row : Row State Happening Step) where
  abbrev pub events_in : List Step → List Happening
  events_in [] = []
  events_in (step ∷ steps) = row.event step ∷ events_in steps

  -- the state at the end
  abbrev pub end : State → List Step → State
  end s [] = s
  end s (step ∷ steps) = end (row.next s step) steps

  -- the answers, in their order
  abbrev pub answers_in : State → List Step → List Answer
  answers_in s [] = []
  answers_in s (step ∷ steps) = row.answer s step ∷ answers_in (row.next s step) steps

  -- each step is as it should be, from where it stands
  abbrev pub AllMeet : State → List Step → Type 0
  AllMeet s [] = Unit {0}
  AllMeet s (step ∷ steps) = row.Meets s step × AllMeet (row.next s step) steps

-- ---- a board

abbrev pub answered : Outcome → Answer
answered o = record { number = o.number; written = o.written }

abbrev pub answer_to : Board → Event → Answer
answer_to d (packet bytes size) = answered (serve d bytes size)
answer_to d reset = none

-- a run: packets, each with the size of the reply lent for it, and resets
abbrev pub board_runs : Row Board Event Event
board_runs = record { event = λ e. e; next = run.next; answer = answer_to; Meets = λ d e. Unit {0} }

-- calls of `Board::serve` and `board::reset` that meet their promises: the number, and the part of the reply that was written
abbrev pub call_answered : Call → Answer
call_answered (called bytes reply result ordinary trusted replied) = record { number = numbers.answered result.answer; written = take (count_of result.answer) replied }
call_answered (was_reset kept) = none

abbrev pub board_calls : Row Board Event Call
board_calls = record { event = calling.event_of; next = calling.holds; answer = λ d call. call_answered call; Meets = calling.Meets }

-- ---- a board of two functions

abbrev pub pair_answer_to : Pair → Event → Answer
pair_answer_to pair event = record { number = (pair_outcome pair event).number; written = (pair_outcome pair event).written }

abbrev pub pair_runs : Row Pair Event Event
pair_runs = record { event = λ e. e; next = λ pair event. (pair_outcome pair event).after; answer = pair_answer_to; Meets = λ pair e. Unit {0} }

-- calls of `pair::serve` and `pair::reset`
abbrev pub pair_calls : Row Pair Event PairCall
pair_calls =
    record {
      event = pairs.event_of;
      next = pairs.holds;
      answer = λ pair call. record { number = pairs.answered call; written = pairs.wrote call };
      Meets = pairs.Meets;
    }
