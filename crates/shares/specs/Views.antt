-- Demand 3: ordinary and trusted events, the two states, what a run shows of each kind, and the two things that the spaces share.
-- Assumes nothing.
use Rattle.std.specs.Prelude.{ℕ, Bool, false, not, cond, List, [], ◌∷◌, eqb, ltb}
use Rattle.std.proofs.Math.Option.{Option, none, some}
use Rattle.answers.specs.Checks.{check, first_that_applies}
use Rattle.packet.specs.Request.{trusted_under, checks_under}
use Rattle.capture.specs.declared.Capture.{Capture}
use Rattle.board.specs.Description.{Space, Board, after_reset}
use Rattle.board.specs.Access.{correlation}
use Rattle.board.specs.Serving.{Outcome, serve}
use Rattle.runs.specs.Run.{Event, packet, reset, next}
use Rattle.shares.specs.Kinds.{only, along}

-- ---- the kinds, under an edition; those of a run are under its board's, which stays

abbrev pub edition_of : Board → ℕ
edition_of d = d.description.edition

-- "A packet is trusted if its first byte, bit 7 cleared, is 1Bh or 5Bh, whatever its length. All others, the empty one included, are
-- ordinary." 02, 9/13: "Under edition 2 a packet with bit 7 set counts as ordinary in demand 3"
abbrev pub trusted_packet : ℕ → Event → Bool
trusted_packet edition (packet bytes size) = trusted_under edition bytes
trusted_packet edition reset = false

abbrev pub ordinary_packet : ℕ → Event → Bool
ordinary_packet edition (packet bytes size) = not (trusted_under edition bytes)
ordinary_packet edition reset = false

-- "the same ordinary packets, reply sizes for them and resets in the same order": a board's run without its trusted packets
abbrev pub ordinary_events : Board → List Event → List Event
ordinary_events d events = only (λ event. not (trusted_packet (edition_of d) event)) events

-- "the same [..] trusted packets, their reply sizes": the run with nothing but its trusted packets
abbrev pub trusted_packets : Board → List Event → List Event
trusted_packets d events = only (trusted_packet (edition_of d)) events

-- ---- the states

-- "For demand 3 the ordinary state is the function number, A, the ordinary bytes and rules, and the capture."; 02, 6/13: "the ordinary [marks are]
-- part of the equal ordinary state" (`Space` has bytes, rules and marks). 02, 9/13: "both its runs have the same edition"
pub record OrdinaryState : Type 0 where
  pub edition : ℕ
  pub function : ℕ
  pub a : ℕ
  pub space : Space
  pub capture : Capture

abbrev pub ordinary_state : Board → OrdinaryState
ordinary_state d =
    record { edition = edition_of d; function = d.description.function; a = d.description.a; space = d.ordinary; capture = d.capture }

-- "the same function number, [..] trusted bytes and rules"; 02, 6/13: "the new trusted buffer counts among the trusted write rules"; 02, 9/13: "both its
-- runs have the same edition"
pub record TrustedState : Type 0 where
  pub edition : ℕ
  pub function : ℕ
  pub space : Space

abbrev pub trusted_state : Board → TrustedState
trusted_state d = record { edition = edition_of d; function = d.description.function; space = d.trusted }

-- ---- what a run shows

-- at a packet: its answer, the written reply bytes ("demand 3 compares written bytes only"), and the bytes of a space after it
pub record Sight : Type 0 where
  pub number : ℕ
  pub written : List ℕ
  pub bytes : List ℕ

-- what comes of an event (a reset writes nothing, and nothing is compared there)
abbrev pub outcome : Board → Event → Outcome
outcome d (packet bytes size) = serve d bytes size
outcome d reset = record { number = 0; after = after_reset d; written = [] }

abbrev pub sight_at : (Board → Space) → Board → Event → Sight
sight_at space d event =
    record { number = (outcome d event).number; written = (outcome d event).written; bytes = (space (outcome d event).after).bytes }

-- at the first ordinary packet, at the second, and so on
abbrev pub ordinary_sights : Board → List Event → List Sight
ordinary_sights d events = along (ordinary_packet (edition_of d)) next (sight_at (λ x. x.ordinary)) d events

-- at the first trusted packet, at the second, and so on
abbrev pub trusted_sights : Board → List Event → List Sight
trusted_sights d events = along (trusted_packet (edition_of d)) next (sight_at (λ x. x.trusted)) d events

-- ---- what the spaces share

-- a well-described board serves a packet ("0 served; the completion may still say UR") exactly if none of the checks 2 to 6 applies: by the
-- packet and the reply's size alone, under an edition
abbrev pub is_served : ℕ → List ℕ → ℕ → Bool
is_served edition bytes size = eqb (first_that_applies (check 2 (ltb size 16) ∷ checks_under edition bytes)) 0

-- "the correlation register's value is the four trusted bytes at B": its value when a packet is served, and nothing where it is not
abbrev pub register : Board → Event → Option (List ℕ)
register d (packet bytes size) = cond (is_served (edition_of d) bytes size) (some (correlation d)) none
register d reset = none

-- at each ordinary packet
abbrev pub correlations : Board → List Event → List (Option (List ℕ))
correlations d events = along (ordinary_packet (edition_of d)) next register d events

-- its value at each ordinary packet, served or not
abbrev pub correlations_at_each : Board → List Event → List (List ℕ)
correlations_at_each d events = along (ordinary_packet (edition_of d)) next (λ x event. correlation x) d events

-- "capture at each trusted packet"
abbrev pub captures : Board → List Event → List Capture
captures d events = along (trusted_packet (edition_of d)) next (λ x event. x.capture) d events
