-- THEOREMS. Of rows: anything that happens may happen again where it stands, as often as wanted. Of runs and of calls, of a board and of a board of two functions.
-- Assumes nothing.
use mathlib.Core.Path.{◌≡◌, refl, ap, ◌∙◌}
use lib.ListN.{length, take}
use lib.Seq.{take-append_seam}
use Rattle.board.specs.Description.{Board}
use Rattle.board.specs.Serving.{serve}
use Rattle.board.specs.Promise.{Seen, shows}
use Rattle.board.proofs.Keeps.{call_holds}
use Rattle.runs.specs.Run as run
use Rattle.runs.specs.Run.{Event, packet, reset}
use Rattle.runs.specs.Calls as calling
use Rattle.runs.specs.Calls.{Call, called, was_reset}
use Rattle.pair.specs.Pair.{Pair}
use Rattle.pair.specs.Serving.{PairOutcome}
use Rattle.isolation.specs.Rows.{pair_outcome}
use Rattle.isolation.proofs.Alone.{call_after, call_number, call_written}
use Rattle.retry.specs.Rows.{answer_to, board_runs, call_answered, board_calls, pair_answer_to, pair_runs, pair_calls}
use Rattle.retry.specs.Repeats.{RepeatOf}
use Rattle.retry.proofs.Exchange.{Faithful}
use Rattle.retry.proofs.Again.{twice, next_twice, pair_twice}
use Rattle.retry.proofs.Rows.{repeat_of}

-- ---- the rows of a board

pub board_runs_faithful : Faithful run.next answer_to board_runs
board_runs_faithful = record { next = λ d e m. refl; answer = λ d e m. refl }

pub call_next : (d : Board) (c : Call) → calling.Meets d c → calling.holds d c ≡ run.next d (calling.event_of c)
call_next d (called bytes reply r o t replied) m = call_holds d bytes reply r o t replied m
call_next d (was_reset kept) m = λ i. record { description = d.description; capture = m i; ordinary = d.ordinary; trusted = d.trusted }

pub call_answer : (d : Board) (c : Call) → calling.Meets d c → call_answered c ≡ answer_to d (calling.event_of c)
unfolding shows
call_answer d (called bytes reply r o t replied) m =
    λ i.
    record {
      number = ap (λ (x : Seen). x.number) m i;
      written = (ap (λ (x : Seen). take x.count x.reply) m ∙ take-append_seam (serve d bytes (length reply)).written _) i;
    }
call_answer d (was_reset kept) m = refl

pub board_calls_faithful : Faithful run.next answer_to board_calls
board_calls_faithful = record { next = call_next; answer = call_answer }

pub answer_twice : (d : Board) (e : Event) → answer_to (run.next d e) e ≡ answer_to d e
answer_twice d (packet bytes size) = λ i. record { number = (twice d bytes size i).number; written = (twice d bytes size i).written }
answer_twice d reset = refl

-- THEOREM. Of runs, and of calls that meet their promises.
pub repeat_in_runs : RepeatOf board_runs
repeat_in_runs = repeat_of run.next answer_to board_runs board_runs_faithful next_twice answer_twice

pub repeat_in_calls : RepeatOf board_calls
repeat_in_calls = repeat_of run.next answer_to board_calls board_calls_faithful next_twice answer_twice

-- ---- of a board of two functions

abbrev pub pair_next : Pair → Event → Pair
pair_next pair e = (pair_outcome pair e).after

pub pair_runs_faithful : Faithful pair_next pair_answer_to pair_runs
pair_runs_faithful = record { next = λ pair e m. refl; answer = λ pair e m. refl }

pub pair_calls_faithful : Faithful pair_next pair_answer_to pair_calls
pair_calls_faithful =
    record {
      next = call_after;
      answer = λ pair c m. λ i. record { number = call_number pair c m i; written = call_written pair c m i };
    }

pub pair_next_twice : (pair : Pair) (e : Event) → pair_next (pair_next pair e) e ≡ pair_next pair e
pair_next_twice pair (packet bytes size) = ap (λ (o : PairOutcome). o.after) (pair_twice pair bytes size)
pair_next_twice pair reset = refl

pub pair_answer_twice : (pair : Pair) (e : Event) → pair_answer_to (pair_next pair e) e ≡ pair_answer_to pair e
pair_answer_twice pair (packet bytes size) = λ i. record { number = (pair_twice pair bytes size i).number; written = (pair_twice pair bytes size i).written }
pair_answer_twice pair reset = refl

pub repeat_in_pair_runs : RepeatOf pair_runs
repeat_in_pair_runs = repeat_of pair_next pair_answer_to pair_runs pair_runs_faithful pair_next_twice pair_answer_twice

pub repeat_in_pair_calls : RepeatOf pair_calls
repeat_in_pair_calls = repeat_of pair_next pair_answer_to pair_calls pair_calls_faithful pair_next_twice pair_answer_twice
