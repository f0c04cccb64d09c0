-- Demand 2 over a sequence: a run of a board over packets and resets in any order, from any state. Assumes nothing.
use Rattle.std.specs.Prelude.{ℕ, List, [], ◌∷◌}
use Rattle.capture.specs.Kept.{fresh}
use Rattle.board.specs.declared.Description.{Description}
use Rattle.board.specs.Description.{Space, Board, after_reset}
use Rattle.board.specs.Serving.{Outcome, serve}

-- what can happen to a board: a packet with the size of the reply lent for it, or a reset
pub data Event : Type 0 where
  packet : (bytes : List ℕ) (size : ℕ) → Event
  reset : Event

-- the board after an event
abbrev pub next : Board → Event → Board
next d (packet bytes size) = (serve d bytes size).after
next d reset = after_reset d

-- the board after a run
abbrev pub after : Board → List Event → Board
after d [] = d
after d (event ∷ events) = after (next d event) events

-- what the packets of a run are answered, in their order
abbrev pub outcomes : Board → List Event → List Outcome
outcomes d [] = []
outcomes d (packet bytes size ∷ events) = serve d bytes size ∷ outcomes (serve d bytes size).after events
outcomes d (reset ∷ events) = outcomes (after_reset d) events

-- "A fresh board has captured none."
abbrev pub fresh_board : Description → Space → Space → Board
fresh_board description ordinary trusted = record { description = description; capture = fresh; ordinary = ordinary; trusted = trusted }
