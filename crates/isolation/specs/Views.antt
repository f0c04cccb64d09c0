-- Document 02, 11/13: packets for a function and for neither, and what a row shows of one function. Assumes nothing.
use Rattle.std.specs.Prelude.{ℕ, Bool, false, true, not, ◌&&◌, ◌||◌, List}
use Rattle.std.proofs.Math.Option.{Option}
use Rattle.capture.specs.declared.Capture.{Capture}
use Rattle.board.specs.Description.{Space}
use Rattle.runs.specs.Run.{Event, packet, reset}
use Rattle.shares.specs.Kinds.{only, along}
use Rattle.shares.specs.Views.{Sight, trusted_packet, ordinary_packet, register}
use Rattle.pair.specs.Pair.{Side, Pair, Role, Primary, Alternate, side, board, is_for_role}
use Rattle.isolation.specs.Rows.{Row, events_in}

-- ---- the kinds of events, by the edition and the numbers of a pair; those of a row are by the pair that it starts with, and they stay

-- a packet for a function; what has a fault of 3 to 6, and every Type 1 request, is for neither (`is_for`)
abbrev pub for_role : Role → Pair → Event → Bool
for_role role pair (packet bytes size) = is_for_role role pair bytes
for_role role pair reset = false

abbrev pub for_neither : Pair → Event → Bool
for_neither pair (packet bytes size) = not (is_for_role Primary pair bytes) && not (is_for_role Alternate pair bytes)
for_neither pair reset = false

abbrev pub is_reset : Event → Bool
is_reset (packet bytes size) = false
is_reset reset = true

-- "Packets for neither, resets, the other's packets": all but the packets for one function
abbrev pub not_for : Role → Pair → Event → Bool
not_for role pair event = not (for_role role pair event)

-- demand 3, "for each function over the packets for it": the ordinary ones and the resets, the ordinary ones, the trusted ones
abbrev pub ordinary_or_reset : Role → Pair → Event → Bool
ordinary_or_reset role pair event = (for_role role pair event || is_reset event) && not (trusted_packet pair.edition event)

abbrev pub ordinary_for : Role → Pair → Event → Bool
ordinary_for role pair event = for_role role pair event && ordinary_packet pair.edition event

abbrev pub trusted_for : Role → Pair → Event → Bool
trusted_for role pair event = for_role role pair event && trusted_packet pair.edition event

-- at a packet: its answer, the written reply bytes, and the bytes of a function's two spaces after it
pub record OwnSight : Type 0 where
  pub number : ℕ
  pub written : List ℕ
  pub ordinary : List ℕ
  pub trusted : List ℕ

module _ {Step : Type 0} (row : Row Step) where
  -- the events of a kind in a row, in their order, each packet with its reply's size
  abbrev pub events_that : (Event → Bool) → List Step → List Event
  events_that counts steps = only counts (events_in row steps)

  -- a value for each step whose event is of a kind, in their order, made of the pair before it and the step: "The n-th packet of a kind in one run is
  -- compared with the n-th of that kind in the other"
  abbrev pub values_at : {Value : Type 0} → (Event → Bool) → (Pair → Step → Value) → Pair → List Step → List Value
  values_at counts value pair steps = along (λ step. counts (row.event step)) row.next value pair steps

  -- ---- what is shown of one function

  abbrev pub own_sight : Role → Pair → Step → OwnSight
  own_sight role pair step =
      record {
        number = row.number pair step;
        written = row.written pair step;
        ordinary = (side role (row.next pair step)).ordinary.bytes;
        trusted = (side role (row.next pair step)).trusted.bytes;
      }

  -- at each packet for it
  abbrev pub own_sights : Role → Pair → List Step → List OwnSight
  own_sights role pair steps = values_at (for_role role pair) (own_sight role) pair steps

  -- the function itself, with both spaces and its capture, after each of the events that are not packets for the other
  abbrev pub sides_but : Role → Role → Pair → List Step → List Side
  sides_but changed role pair steps = values_at (not_for changed pair) (λ x step. side role (row.next x step)) pair steps

  -- ---- what is shown at packets for neither

  abbrev pub neither_numbers : Pair → List Step → List ℕ
  neither_numbers pair steps = values_at (for_neither pair) row.number pair steps

  abbrev pub neither_replies : Pair → List Step → List (List ℕ)
  neither_replies pair steps = values_at (for_neither pair) row.written pair steps

  -- ---- demand 3 for one function

  abbrev pub sight_in : (Side → Space) → Role → Pair → Step → Sight
  sight_in space role pair step =
      record { number = row.number pair step; written = row.written pair step; bytes = (space (side role (row.next pair step))).bytes }

  abbrev pub ordinary_sights_for : Role → Pair → List Step → List Sight
  ordinary_sights_for role pair steps = values_at (ordinary_for role pair) (sight_in (λ s. s.ordinary) role) pair steps

  abbrev pub trusted_sights_for : Role → Pair → List Step → List Sight
  trusted_sights_for role pair steps = values_at (trusted_for role pair) (sight_in (λ s. s.trusted) role) pair steps

  -- its correlation register whenever an ordinary packet for it is served; its own capture at each trusted packet for it
  abbrev pub registers_for : Role → Pair → List Step → List (Option (List ℕ))
  registers_for role pair steps = values_at (ordinary_for role pair) (λ x step. register (board role x) (row.event step)) pair steps

  abbrev pub captures_for : Role → Pair → List Step → List Capture
  captures_for role pair steps = values_at (trusted_for role pair) (λ x step. (side role x).capture) pair steps
