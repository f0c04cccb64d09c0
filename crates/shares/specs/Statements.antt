-- Demand 3, both halves, over demand 2's definition of serving. Assumes nothing.
use Rattle.std.specs.Prelude.{List, ◌≡◌}
use Rattle.board.specs.Description.{Board, WellDescribed}
use Rattle.runs.specs.Run.{Event, after}
use Rattle.shares.specs.Views.{ordinary_events, trusted_packets, ordinary_state, trusted_state, ordinary_sights, trusted_sights, correlations, correlations_at_each, captures}

-- "Take two runs of a well-described board from the same ordinary state, with the same ordinary packets, reply sizes for them and resets
-- in the same order. Let trusted bytes, trusted write rules and trusted packets differ in any way. If the correlation register holds the
-- same value in both whenever an ordinary packet is served, all ordinary answers, written reply bytes and ordinary bytes agree": at each
-- ordinary packet, and at the end, with the rest of the ordinary state. "B may differ between the two runs in its first half". 02, 6/13: "In demand
-- 3 the new trusted buffer counts among the trusted write rules, and the ordinary one is part of the equal ordinary state." 02, 9/13: "Under edition 2 a
-- packet with bit 7 set counts as ordinary in demand 3, and both its runs have the same edition." (the kinds and the states say so)
abbrev pub FirstHalf : Type 0
FirstHalf =
    (d e : Board) (run other : List Event) → WellDescribed d → WellDescribed e
    → ordinary_state d ≡ ordinary_state e
    → ordinary_events d run ≡ ordinary_events e other
    → correlations d run ≡ correlations e other
    → (ordinary_sights d run ≡ ordinary_sights e other) × (ordinary_state (after d run) ≡ ordinary_state (after e other))

-- The same with the register's value asked at every ordinary packet, and not only where one is served: more is asked, so this follows.
abbrev pub FirstHalfAtEach : Type 0
FirstHalfAtEach =
    (d e : Board) (run other : List Event) → WellDescribed d → WellDescribed e
    → ordinary_state d ≡ ordinary_state e
    → ordinary_events d run ≡ ordinary_events e other
    → correlations_at_each d run ≡ correlations_at_each e other
    → (ordinary_sights d run ≡ ordinary_sights e other) × (ordinary_state (after d run) ≡ ordinary_state (after e other))

-- "The other way round, with the same function number, trusted packets, their reply sizes, trusted bytes and rules, and equal capture at
-- each trusted packet, all trusted answers, written reply bytes and trusted bytes agree": at each trusted packet, and at the end. "A, B
-- and all ordinary bytes, rules, packets and resets may differ in its second [half]." With 02, 6/13, "the new trusted buffer" is the same, and the ordinary
-- one may differ as the ordinary rules may; with 02, 9/13, "both its runs have the same edition", and packets with bit 7 set are ordinary under edition 2.
abbrev pub SecondHalf : Type 0
SecondHalf =
    (d e : Board) (run other : List Event) → WellDescribed d → WellDescribed e
    → trusted_state d ≡ trusted_state e
    → trusted_packets d run ≡ trusted_packets e other
    → captures d run ≡ captures e other
    → (trusted_sights d run ≡ trusted_sights e other) × (trusted_state (after d run) ≡ trusted_state (after e other))
