-- Through the router: a switch with a board behind each of its ports. A packet for the switch goes to the board behind the port by which it leaves, with the bytes with
-- which it leaves (document 02, 1/13); what does not leave comes to no board. Of the way back 1/13 says nothing: here that board's reply is what the host is answered. A
-- Type 1 packet that leaves as it is is answered UR by the board, as any is. Assumes nothing.
use Rattle.std.specs.Prelude.{ℕ, Bool, true, ◌&&◌, cond, List, [], Ok, Err, eqb, length, take}
use Rattle.answers.specs.Numbers.{number_of}
use Rattle.board.specs.Description.{Board}
use Rattle.board.specs.Serving.{serve}
use Rattle.board.specs.Promise.{Served, Serves}
use Rattle.ports.specs.declared.Port.{Port}
use Rattle.router.specs.declared.Verdict.TheVariants.{Leaves, Unsupported}
use Rattle.router.specs.Promise.{Routed, Routes}
use Rattle.router.specs.Routing as routing
use Rattle.router.specs.Routing.{route}
use Rattle.runs.specs.Run.{Event, packet, next}
use Rattle.runs.specs.Calls as calling
use Rattle.runs.specs.Calls.{Call, called}
use Rattle.retry.specs.Rows.{Answer, none, answered, call_answered, Row}

-- the board behind each port, by the port's place in the list
abbrev pub Boards : Type 0
Boards = ℕ → Board

-- the sizes of the buffer that the switch is lent for a packet, and of the reply that the board is lent
pub record Sizes : Type 0 where
  pub buffer : ℕ
  pub reply : ℕ

-- what happens at the switch: a packet; or anything that happens to one board by itself, past the switch
pub data Happening : Type 0 where
  sent : (bytes : List ℕ) (sizes : Sizes) → Happening
  beside : (place : ℕ) (event : Event) → Happening

-- the boards after something has happened to the one at a place
abbrev pub changed_at : Boards → Bool → ℕ → Event → Boards
changed_at boards comes place event k = cond (comes && eqb k place) (next (boards k) event) (boards k)

module _ (ports : List Port) where
  -- the verdict on a packet, and what it is for the board that it comes to
  abbrev pub verdict : List ℕ → Sizes → routing.Outcome
  verdict bytes sizes = route ports bytes sizes.buffer

  abbrev pub arrival : List ℕ → Sizes → Event
  arrival bytes sizes = packet (verdict bytes sizes).written sizes.reply

  -- what comes of it: a packet that leaves is served by the board there
  abbrev pub switch_next : Boards → Happening → Boards
  switch_next boards (sent bytes sizes) = changed_at boards (verdict bytes sizes).leaves (verdict bytes sizes).port (arrival bytes sizes)
  switch_next boards (beside place event) = changed_at boards true place event

  -- what the host is answered: the board's answer to what left, and else the switch's own number (0 for its UR), with nothing written
  abbrev pub switch_answer : Boards → Happening → Answer
  switch_answer boards (sent bytes sizes) =
      cond (verdict bytes sizes).leaves
      (answered (serve (boards (verdict bytes sizes).port) (verdict bytes sizes).written sizes.reply))
      (record { number = (verdict bytes sizes).number; written = [] })
  switch_answer boards (beside place event) = none

  abbrev pub switch_runs : Row Boards Happening Happening
  switch_runs = record { event = λ e. e; next = switch_next; answer = switch_answer; Meets = λ boards e. Unit {0} }

-- ---- calls

-- a call of `router::route`, its result and the buffer at its end, and, where the packet leaves, a call of `Board::serve` with what left; or a call at one board by itself
pub data SwitchCall : Type 0 where
  routed : (bytes buffer : List ℕ) (verdict : Routed) (left reply : List ℕ) (result : Served) (ordinary trusted replied : List ℕ) → SwitchCall
  besides : (place : ℕ) (call : Call) → SwitchCall

abbrev pub switch_event : SwitchCall → Happening
switch_event (routed bytes buffer verdict left reply result ordinary trusted replied) = sent bytes (record { buffer = length buffer; reply = length reply })
switch_event (besides place call) = beside place (calling.event_of call)

-- the boards after a call at the one at a place
abbrev pub held_at : Boards → ℕ → Call → Boards
held_at boards place call k = cond (eqb k place) (calling.holds (boards k) call) (boards k)

-- by the verdict: what the host then holds, what it is answered, and what is asked of the board's call
abbrev pub holds_by : Routed → Boards → List ℕ → List ℕ → Served → List ℕ → List ℕ → List ℕ → Boards
holds_by (Ok (Leaves place count)) boards left reply result ordinary trusted replied =
    held_at boards place (called (take count left) reply result ordinary trusted replied)
holds_by (Ok Unsupported) boards left reply result ordinary trusted replied = boards
holds_by (Err refusal) boards left reply result ordinary trusted replied = boards

abbrev pub answered_by : Routed → List ℕ → List ℕ → Served → List ℕ → List ℕ → List ℕ → Answer
answered_by (Ok (Leaves place count)) left reply result ordinary trusted replied =
    call_answered (called (take count left) reply result ordinary trusted replied)
answered_by (Ok Unsupported) left reply result ordinary trusted replied = none
answered_by (Err refusal) left reply result ordinary trusted replied = record { number = number_of refusal; written = [] }

abbrev pub MeetsBy : Routed → Boards → List ℕ → List ℕ → Served → List ℕ → List ℕ → List ℕ → Type 0
MeetsBy (Ok (Leaves place count)) boards left reply result ordinary trusted replied = Serves (boards place) (take count left) reply result ordinary trusted replied
MeetsBy (Ok Unsupported) boards left reply result ordinary trusted replied = Unit {0}
MeetsBy (Err refusal) boards left reply result ordinary trusted replied = Unit {0}

module _ (ports : List Port) where
  abbrev pub switch_holds : Boards → SwitchCall → Boards
  switch_holds boards (routed bytes buffer verdict left reply result ordinary trusted replied) = holds_by verdict boards left reply result ordinary trusted replied
  switch_holds boards (besides place call) = held_at boards place call

  abbrev pub switch_call_answered : Boards → SwitchCall → Answer
  switch_call_answered boards (routed bytes buffer verdict left reply result ordinary trusted replied) = answered_by verdict left reply result ordinary trusted replied
  switch_call_answered boards (besides place call) = none

  abbrev pub SwitchMeets : Boards → SwitchCall → Type 0
  SwitchMeets boards (routed bytes buffer verdict left reply result ordinary trusted replied) =
      Routes ports bytes buffer verdict left × MeetsBy verdict boards left reply result ordinary trusted replied
  SwitchMeets boards (besides place call) = calling.Meets (boards place) call

  abbrev pub switch_calls : Row Boards Happening SwitchCall
  switch_calls = record { event = switch_event; next = switch_holds; answer = switch_call_answered; Meets = SwitchMeets }
