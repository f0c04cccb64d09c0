-- What can happen to a board of two functions, one thing after the other: packets and resets, or calls of `pair::serve` and `pair::reset`. Assumes
-- nothing.
use Rattle.std.specs.Prelude.{ℕ, List, [], ◌∷◌, ◌≡◌, length, take}
use Rattle.answers.specs.Numbers as numbers
use Rattle.board.specs.Promise.{count_of}
use Rattle.runs.specs.Run.{Event, packet, reset}
use Rattle.pair.specs.declared.Captures.{Captures}
use Rattle.pair.specs.Pair.{Pair, forgotten_both}
use Rattle.pair.specs.Serving.{PairOutcome, serve_pair, pair_after_reset}
use Rattle.pair.specs.Promise.{Served, PairServes, pair_after_call}

-- the steps of a row: the event that each is, the pair after it, the number that it is answered with, and the reply bytes that it writes
pub record Row (Step : Type 0) : Type 0 where
  pub event : Step → Event
  pub next : Pair → Step → Pair
  pub number : Pair → Step → ℕ
  pub written : Pair → Step → List ℕ

-- the events of a row's steps
abbrev pub events_in : {Step : Type 0} → Row Step → List Step → List Event
events_in row [] = []
events_in row (step ∷ steps) = row.event step ∷ events_in row steps

-- the pair at a row's end
abbrev pub end : {Step : Type 0} → Row Step → Pair → List Step → Pair
end row pair [] = pair
end row pair (step ∷ steps) = end row (row.next pair step) steps

-- ---- a run: packets, each with the size of the reply lent for it, and resets

-- what comes of an event (a reset answers nothing and writes nothing)
abbrev pub pair_outcome : Pair → Event → PairOutcome
pair_outcome pair (packet bytes size) = serve_pair pair bytes size
pair_outcome pair reset = record { number = 0; after = pair_after_reset pair; written = [] }

abbrev pub runs : Row Event
runs =
    record {
      event = λ event. event;
      next = λ pair event. (pair_outcome pair event).after;
      number = λ pair event. (pair_outcome pair event).number;
      written = λ pair event. (pair_outcome pair event).written;
    }

-- ---- calls of the entries

-- a call of `pair::serve`: the packet and the reply as lent, what it tells, and the four spaces and the reply at its end; or of `pair::reset`: its result
pub data PairCall : Type 0 where
  called : (bytes reply : List ℕ) (result : Served) (primary_ordinary primary_trusted alternate_ordinary alternate_trusted replied : List ℕ) → PairCall
  was_reset : (kept : Captures) → PairCall

-- the event that a call handles
abbrev pub event_of : PairCall → Event
event_of (called bytes reply result po pt ao at replied) = packet bytes (length reply)
event_of (was_reset kept) = reset

-- what the caller holds after a call: the captures as they then are, and the spaces as the call left them
abbrev pub holds : Pair → PairCall → Pair
holds pair (called bytes reply result po pt ao at replied) = pair_after_call pair result.kept po pt ao at
holds pair (was_reset kept) =
    pair_after_call pair kept pair.primary.ordinary.bytes pair.primary.trusted.bytes pair.alternate.ordinary.bytes pair.alternate.trusted.bytes

-- the number that a call answered, and the part of the reply that it says it wrote
abbrev pub answered : PairCall → ℕ
answered (called bytes reply result po pt ao at replied) = numbers.answered result.answer
answered (was_reset kept) = 0

abbrev pub wrote : PairCall → List ℕ
wrote (called bytes reply result po pt ao at replied) = take (count_of result.answer) replied
wrote (was_reset kept) = []

abbrev pub calls : Row PairCall
calls = record { event = event_of; next = holds; number = λ pair call. answered call; written = λ pair call. wrote call }

-- the call's result meets the entry's promise
abbrev pub Meets : Pair → PairCall → Type 0
Meets pair (called bytes reply result po pt ao at replied) = PairServes pair bytes reply result po pt ao at replied
Meets pair (was_reset kept) = kept ≡ forgotten_both (record { primary = pair.primary.capture; alternate = pair.alternate.capture })

-- each call does, from what the caller held
abbrev pub AllMeet : Pair → List PairCall → Type 0
AllMeet pair [] = Unit {0}
AllMeet pair (call ∷ rest) = Meets pair call × AllMeet (holds pair call) rest
