-- Calling the entries one by one: what was lent, what came back, and what the caller then holds. Assumes nothing.
use Rattle.std.specs.Prelude.{List, [], ◌∷◌, ◌≡◌, ℕ, length}
use Rattle.capture.specs.declared.Capture.{Capture}
use Rattle.capture.specs.Kept.{forgotten}
use Rattle.board.specs.Description.{Board}
use Rattle.board.specs.Serving.{Outcome}
use Rattle.board.specs.Promise.{Served, after_call, seen, shows, Serves}
use Rattle.runs.specs.Run.{Event, packet, reset}

-- a call of `Board::serve`: the packet and the reply as lent, what it tells, and the two spaces and the reply at its end; or a call of
-- `board::reset`: its result
pub data Call : Type 0 where
  called : (bytes reply : List ℕ) (result : Served) (ordinary trusted replied : List ℕ) → Call
  was_reset : (kept : Capture) → Call

-- the event that a call handles
abbrev pub event_of : Call → Event
event_of (called bytes reply result ordinary trusted replied) = packet bytes (length reply)
event_of (was_reset kept) = reset

abbrev pub events_of : List Call → List Event
events_of [] = []
events_of (call ∷ calls) = event_of call ∷ events_of calls

-- what the caller holds after a call: the capture as it then is, and the spaces as the call left them
abbrev pub holds : Board → Call → Board
holds d (called bytes reply result ordinary trusted replied) = after_call d result.capture ordinary trusted
holds d (was_reset kept) = record { description = d.description; capture = kept; ordinary = d.ordinary; trusted = d.trusted }

abbrev pub held : Board → List Call → Board
held d [] = d
held d (call ∷ calls) = held (holds d call) calls

-- the call's result meets the entry's promise
abbrev pub Meets : Board → Call → Type 0
Meets d (called bytes reply result ordinary trusted replied) = Serves d bytes reply result ordinary trusted replied
Meets d (was_reset kept) = kept ≡ forgotten d.capture

-- each call does, from what the caller held
abbrev pub AllMeet : Board → List Call → Type 0
AllMeet d [] = Unit {0}
AllMeet d (call ∷ calls) = Meets d call × AllMeet (holds d call) calls

-- each call of `serve` showed the outcome that stands for it
abbrev pub Show : List Call → List Outcome → Type 0
Show [] [] = Unit {0}
Show [] (o ∷ os) = ⊥
Show (called bytes reply result ordinary trusted replied ∷ calls) [] = ⊥
Show (called bytes reply result ordinary trusted replied ∷ calls) (o ∷ os) =
    (seen result ordinary trusted replied ≡ shows o reply) × Show calls os
Show (was_reset kept ∷ calls) os = Show calls os
