-- Demand 3 of the entries: any calls of `Board::serve` and `board::reset` that meet their promises obey both halves, in what the calls
-- themselves showed and the caller then holds. Assumes nothing.
use Prim.Native.Nat.{ℕ}
use mathlib.Core.Bool.{Bool}
use mathlib.Core.List.{List, [], ◌∷◌}
use mathlib.Core.Path.{◌≡◌, refl, sym, ap, ap₂, ◌∙◌}
use lib.ListN.{length, take}
use lib.Seq.{take-append_seam}
use Rattle.board.specs.Description.{Space, Board, WellDescribed}
use Rattle.board.specs.Serving.{serve}
use Rattle.board.specs.Promise.{Seen, shows}
use Rattle.runs.specs.Run.{Event, next, after}
use Rattle.runs.specs.Calls.{Call, called, was_reset, event_of, events_of, holds, held, Meets, AllMeet}
use Rattle.runs.proofs.Calls.{calls_give_run}
use Rattle.shares.specs.Kinds.{keep, along}
use Rattle.shares.specs.Views.{edition_of, ordinary_packet, trusted_packet, ordinary_events, trusted_packets, ordinary_state, trusted_state, outcome, sight_at, register}
use Rattle.shares.specs.Calls.{answered, wrote, showed, held_register, along_calls, FirstHalfOfCalls, SecondHalfOfCalls}
use Rattle.shares.proofs.Half.{Half}
use Rattle.shares.proofs.FirstHalf.{first_half}
use Rattle.shares.proofs.SecondHalf.{second_half}

-- the statement
abbrev pub BothHalvesOfCalls : Type 0
BothHalvesOfCalls = FirstHalfOfCalls × SecondHalfOfCalls

-- ---- one call, by its promise

holds_next : (d : Board) (c : Call) → Meets d c → holds d c ≡ next d (event_of c)
holds_next d c m = (calls_give_run d (c ∷ []) (m, tt)).0

number_shown : (d : Board) (c : Call) → Meets d c → answered c ≡ (outcome d (event_of c)).number
unfolding shows
number_shown d (called bytes reply r o t replied) m = ap (λ (x : Seen). x.number) m
number_shown d (was_reset kept) m = refl

written_shown : (d : Board) (c : Call) → Meets d c → wrote c ≡ (outcome d (event_of c)).written
unfolding shows
written_shown d (called bytes reply r o t replied) m =
    ap (λ (x : Seen). take x.count x.reply) m ∙ take-append_seam (serve d bytes (length reply)).written _
written_shown d (was_reset kept) m = refl

bytes_shown : (space : Board → Space) (d : Board) (c : Call) → Meets d c → (space (holds d c)).bytes ≡ (space (outcome d (event_of c)).after).bytes
bytes_shown space d (called bytes reply r o t replied) m = ap (λ (x : Board). (space x).bytes) (holds_next d (called bytes reply r o t replied) m)
bytes_shown space d (was_reset kept) m = ap (λ (x : Board). (space x).bytes) (holds_next d (was_reset kept) m)

showed_is : (space : Board → Space) (d : Board) (c : Call) → Meets d c → showed space d c ≡ sight_at space d (event_of c)
showed_is space d c m =
    λ i. record { number = number_shown d c m i; written = written_shown d c m i; bytes = bytes_shown space d c m i }

-- ---- a row of calls

along_calls_lem : {Value : Type 0} (counts : Event → Bool) (value : Board → Event → Value) (of_call : Board → Call → Value)
    → ((d : Board) (c : Call) → Meets d c → of_call d c ≡ value d (event_of c)) → (d : Board) (cs : List Call) → AllMeet d cs
    → along_calls counts of_call d cs ≡ along counts next value d (events_of cs)
along_calls_lem counts value of_call is d [] m = refl
along_calls_lem counts value of_call is d (c ∷ cs) m =
    ap₂ (keep (counts (event_of c))) (is d c m.0)
    (along_calls_lem counts value of_call is (holds d c) cs m.1
    ∙ ap (λ (x : Board). along counts next value x (events_of cs)) (holds_next d c m.0))

-- ---- either half

module _ {State Common Shared : Type 0} (counts : ℕ → Event → Bool) (state : Board → State) (common : Board → List Event → Common) (space : Board → Space)
    (cell : Board → Event → Shared) (of_call : Board → Call → Shared) (is : (d : Board) (c : Call) → Meets d c → of_call d c ≡ cell d (event_of c)) where
  -- what is asked and shown over a run, and over a row of calls, under the edition of the board at its start
  abbrev Runs : Type 0
  Runs =
      Half (λ d es. WellDescribed d) state common (λ d. along (counts (edition_of d)) next cell d)
      (λ d. along (counts (edition_of d)) next (sight_at space) d) after

  abbrev Rows : Type 0
  Rows =
      Half (λ d cs. WellDescribed d × AllMeet d cs) state (λ d cs. common d (events_of cs)) (λ d. along_calls (counts (edition_of d)) of_call d)
      (λ d. along_calls (counts (edition_of d)) (showed space) d) held

  shared : (d : Board) (cs : List Call) → AllMeet d cs
      → along_calls (counts (edition_of d)) of_call d cs ≡ along (counts (edition_of d)) next cell d (events_of cs)
  shared d = along_calls_lem (counts (edition_of d)) cell of_call is d

  shown : (d : Board) (cs : List Call) → AllMeet d cs
      → along_calls (counts (edition_of d)) (showed space) d cs ≡ along (counts (edition_of d)) next (sight_at space) d (events_of cs)
  shown d = along_calls_lem (counts (edition_of d)) (sight_at space) (showed space) (showed_is space) d

  of_calls : Runs → Rows
  of_calls half d e cs gs wd we v o k =
      let r = half d e (events_of cs) (events_of gs) wd.0 we.0 v o (sym (shared d cs wd.1) ∙ k ∙ shared e gs we.1) in (
        shown d cs wd.1 ∙ r.0 ∙ sym (shown e gs we.1),
        ap state (calls_give_run d cs wd.1).0 ∙ r.1 ∙ sym (ap state (calls_give_run e gs we.1).0),
      )

pub both_halves_of_calls : BothHalvesOfCalls
both_halves_of_calls = (
  of_calls ordinary_packet ordinary_state ordinary_events (λ x. x.ordinary) register held_register (λ d c m. refl) first_half,
  of_calls trusted_packet trusted_state trusted_packets (λ x. x.trusted) (λ d x. d.capture) (λ d c. d.capture) (λ d c m. refl) second_half,
)
