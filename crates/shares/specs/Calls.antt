-- Demand 3 of the entries themselves: what calls of `Board::serve` and `board::reset` showed, and both halves of it. Assumes nothing.
use Rattle.std.specs.Prelude.{ℕ, Bool, List, [], ◌≡◌, take}
use Rattle.std.proofs.Math.Option.{Option}
use Rattle.answers.specs.Numbers as numbers
use Rattle.board.specs.Promise.{count_of}
use Rattle.capture.specs.declared.Capture.{Capture}
use Rattle.board.specs.Description.{Space, Board, WellDescribed}
use Rattle.runs.specs.Run.{Event}
use Rattle.runs.specs.Calls.{Call, called, was_reset, event_of, events_of, holds, held, AllMeet}
use Rattle.shares.specs.Kinds.{along}
use Rattle.shares.specs.Views.{Sight, edition_of, ordinary_packet, trusted_packet, ordinary_events, trusted_packets, ordinary_state, trusted_state, register}

-- the number that a call answered, and the part of the reply that it says it wrote (a reset answers and writes nothing)
abbrev pub answered : Call → ℕ
answered (called bytes reply result ordinary trusted replied) = numbers.answered result.answer
answered (was_reset kept) = 0

abbrev pub wrote : Call → List ℕ
wrote (called bytes reply result ordinary trusted replied) = take (count_of result.answer) replied
wrote (was_reset kept) = []

-- at a call: its number, the written part of the reply, and the bytes of a space that the caller then holds
abbrev pub showed : (Board → Space) → Board → Call → Sight
showed space d call = record { number = answered call; written = wrote call; bytes = (space (holds d call)).bytes }

-- the register that the caller held at a call whose packet is served, by the packet and the reply's size
abbrev pub held_register : Board → Call → Option (List ℕ)
held_register d call = register d (event_of call)

-- a value for each call whose event counts, from what the caller held
abbrev pub along_calls : {Value : Type 0} → (Event → Bool) → (Board → Call → Value) → Board → List Call → List Value
along_calls counts value d calls = along (λ call. counts (event_of call)) holds value d calls

-- what the ordinary calls showed, and the register held at each; what the trusted calls showed, and the capture held at each: under the edition of
-- the board that was lent
abbrev pub ordinary_shown : Board → List Call → List Sight
ordinary_shown d calls = along_calls (ordinary_packet (edition_of d)) (showed (λ x. x.ordinary)) d calls

abbrev pub registers_held : Board → List Call → List (Option (List ℕ))
registers_held d calls = along_calls (ordinary_packet (edition_of d)) held_register d calls

abbrev pub trusted_shown : Board → List Call → List Sight
trusted_shown d calls = along_calls (trusted_packet (edition_of d)) (showed (λ x. x.trusted)) d calls

abbrev pub captures_held : Board → List Call → List Capture
captures_held d calls = along_calls (trusted_packet (edition_of d)) (λ x call. x.capture) d calls

-- The first half, of two rows of calls that meet their promises: the boards that were lent, the packets and reply sizes that were lent, the
-- resets, the register held whenever an ordinary packet is served; what the ordinary calls showed, and what the caller holds at the end.
abbrev pub FirstHalfOfCalls : Type 0
FirstHalfOfCalls =
    (d e : Board) (calls other : List Call) → WellDescribed d × AllMeet d calls → WellDescribed e × AllMeet e other
    → ordinary_state d ≡ ordinary_state e
    → ordinary_events d (events_of calls) ≡ ordinary_events e (events_of other)
    → registers_held d calls ≡ registers_held e other
    → (ordinary_shown d calls ≡ ordinary_shown e other) × (ordinary_state (held d calls) ≡ ordinary_state (held e other))

-- The second half, of two rows of calls that meet their promises: the capture held at each trusted call.
abbrev pub SecondHalfOfCalls : Type 0
SecondHalfOfCalls =
    (d e : Board) (calls other : List Call) → WellDescribed d × AllMeet d calls → WellDescribed e × AllMeet e other
    → trusted_state d ≡ trusted_state e
    → trusted_packets d (events_of calls) ≡ trusted_packets e (events_of other)
    → captures_held d calls ≡ captures_held e other
    → (trusted_shown d calls ≡ trusted_shown e other) × (trusted_state (held d calls) ≡ trusted_state (held e other))
