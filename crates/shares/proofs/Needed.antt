-- Each premise of demand 3 is needed: without it the half is false, by two runs of boards that meet all the rest and disagree in an answer
-- or in a reply. Runs that differ in the correlation register alone disagree in an ordinary answer; runs that differ in the capture at a
-- trusted packet alone disagree in a trusted answer. So the two spaces do share something. One is not: the second half holds also where the editions
-- differ. Assumes nothing.
use Prim.Native.Nat.{ℕ}
use mathlib.Core.Bool.{Bool, true, false, not}
use mathlib.Core.List.{List, [], ◌∷◌, ◌++◌, map}
use mathlib.Core.Option.{Option}
use mathlib.Core.Path.{◌≡◌, refl, ap}
use lib.Dec.{eqb}
use lib.ListN.{get_or}
use borrow.Author.Tests.{eqb-false}
use Rattle.words.specs.Bytes.{byte}
use Rattle.capture.specs.declared.Capture.{Capture}
use Rattle.capture.specs.declared.Capture.TheVariants.{Nothing, Number}
use Rattle.board.specs.Description.{Space, Board, with_edition, WellDescribed}
use Rattle.runs.specs.Run.{Event, packet, reset, after}
use Rattle.runs.specs.Bench.{zeros, holding, bench_rules, p1, p2, read_at, changed}
use Rattle.board.proofs.Computing.{computing}
use Rattle.shares.specs.Kinds.{only}
use Rattle.shares.specs.Views.{OrdinaryState, TrustedState, Sight, ordinary_state, trusted_state, ordinary_events, trusted_packets, ordinary_sights, trusted_sights, correlations, captures}
use Rattle.shares.proofs.Half.{Half}
use Rattle.shares.proofs.FirstHalf.{first_half}
use Rattle.shares.proofs.SecondHalf.{but_trusted_edition, second_half_of_editions, second_half}
use Rattle.shares.proofs.Examples.{trusted_read_at, trusted_write_at, sent, board_of, plain, with_status, usual, ones}

-- ---- the statements

-- what a half is about: a state, the events that are compared, the shared value at each of them, what is shown
pub record About (State Shared : Type 0) : Type 0 where
  pub state : Board → State
  pub events : Board → List Event → List Event
  pub cells : Board → List Event → Shared
  pub shows : Board → List Event → List Sight

abbrev pub ordinary : About OrdinaryState (List (Option (List ℕ)))
ordinary = record { state = ordinary_state; events = ordinary_events; cells = correlations; shows = ordinary_sights }

abbrev pub trusted : About TrustedState (List Capture)
trusted = record { state = trusted_state; events = trusted_packets; cells = captures; shows = trusted_sights }

-- a half of demand 3 that asks something of each board, and compares a part of the states, of the events and of the shared values
abbrev pub Asking : {State Shared S E C : Type 0} → About State Shared → (Board → Type 0) → (State → S) → (List Event → E) → (Shared → C) → Type 0
Asking half fit states events shared =
    Half (λ d es. fit d) (λ d. states (half.state d)) (λ d es. events (half.events d es)) (λ d es. shared (half.cells d es)) half.shows after

-- the whole is compared, or nothing
abbrev pub whole : {A : Type 0} → A → A
whole x = x

abbrev pub nothing : {A : Type 0} → A → Unit {0}
nothing x = tt

-- a state but for one part
abbrev pub but_edition : OrdinaryState → OrdinaryState
but_edition s = record { edition = 0; function = s.function; a = s.a; space = s.space; capture = s.capture }

abbrev pub but_function : OrdinaryState → OrdinaryState
but_function s = record { edition = s.edition; function = 0; a = s.a; space = s.space; capture = s.capture }

abbrev pub but_a : OrdinaryState → OrdinaryState
but_a s = record { edition = s.edition; function = s.function; a = 0; space = s.space; capture = s.capture }

abbrev pub but_capture : OrdinaryState → OrdinaryState
but_capture s = record { edition = s.edition; function = s.function; a = s.a; space = s.space; capture = Nothing }

abbrev pub but_bytes : Space → Space
but_bytes s = record { bytes = []; rules = s.rules; marks = s.marks }

abbrev pub but_rules : Space → Space
but_rules s = record { bytes = s.bytes; rules = []; marks = s.marks }

abbrev pub but_marks : Space → Space
but_marks s = record { bytes = s.bytes; rules = s.rules; marks = [] }

abbrev pub in_ordinary : (Space → Space) → OrdinaryState → OrdinaryState
in_ordinary but s = record { edition = s.edition; function = s.function; a = s.a; space = but s.space; capture = s.capture }

abbrev pub but_trusted_function : TrustedState → TrustedState
but_trusted_function s = record { edition = s.edition; function = 0; space = s.space }

abbrev pub in_trusted : (Space → Space) → TrustedState → TrustedState
in_trusted but s = record { edition = s.edition; function = s.function; space = but s.space }

-- events but for the packets' bytes, but for the reply sizes, or but for where the resets stand between the packets
abbrev pub is_reset : Event → Bool
is_reset (packet bytes size) = false
is_reset reset = true

abbrev pub no_bytes : Event → Event
no_bytes (packet bytes size) = packet [] size
no_bytes reset = reset

abbrev pub no_size : Event → Event
no_size (packet bytes size) = packet bytes 0
no_size reset = reset

abbrev pub but_places : List Event → List Event × List Event
but_places es = (only (λ e. not (is_reset e)) es, only is_reset es)

-- the first half holds with all that it asks, and with one thing less it is false: the correlation register; the edition, the function number, A, the
-- ordinary bytes, rules and marks, the capture; the packets, their reply sizes, the order of the resets; that both are well described
abbrev pub FirstPremisesNeeded : Type 0
FirstPremisesNeeded =
    Asking ordinary WellDescribed whole whole whole
    × (¬ Asking ordinary WellDescribed whole whole nothing)
    × (¬ Asking ordinary WellDescribed but_edition whole whole)
    × (¬ Asking ordinary WellDescribed but_function whole whole)
    × (¬ Asking ordinary WellDescribed but_a whole whole)
    × (¬ Asking ordinary WellDescribed (in_ordinary but_bytes) whole whole)
    × (¬ Asking ordinary WellDescribed (in_ordinary but_rules) whole whole)
    × (¬ Asking ordinary WellDescribed (in_ordinary but_marks) whole whole)
    × (¬ Asking ordinary WellDescribed but_capture whole whole)
    × (¬ Asking ordinary WellDescribed whole (map no_bytes) whole)
    × (¬ Asking ordinary WellDescribed whole (map no_size) whole)
    × (¬ Asking ordinary WellDescribed whole but_places whole)
    × (¬ Asking ordinary (λ d. Unit {0}) whole whole whole)

-- the second half likewise, but that it holds also where the editions differ: the capture at each trusted packet; the function number, the trusted bytes, rules and marks; the packets,
-- their reply sizes; that both are well described
abbrev pub SecondPremisesNeeded : Type 0
SecondPremisesNeeded =
    Asking trusted WellDescribed whole whole whole
    × Asking trusted WellDescribed but_trusted_edition whole whole
    × (¬ Asking trusted WellDescribed whole whole nothing)
    × (¬ Asking trusted WellDescribed but_trusted_function whole whole)
    × (¬ Asking trusted WellDescribed (in_trusted but_bytes) whole whole)
    × (¬ Asking trusted WellDescribed (in_trusted but_rules) whole whole)
    × (¬ Asking trusted WellDescribed (in_trusted but_marks) whole whole)
    × (¬ Asking trusted WellDescribed whole (map no_bytes) whole)
    × (¬ Asking trusted WellDescribed whole (map no_size) whole)
    × (¬ Asking trusted (λ d. Unit {0}) whole whole whole)

-- ---- the witnesses

-- it is false if two runs meet what is asked and one number tells what they show apart
refuted : {State Shared S E C : Type 0} (half : About State Shared) (fit : Board → Type 0) (states : State → S) (events : List Event → E)
    (shared : Shared → C) (d e : Board) (es fs : List Event) → fit d → fit e → states (half.state d) ≡ states (half.state e)
    → events (half.events d es) ≡ events (half.events e fs) → shared (half.cells d es) ≡ shared (half.cells e fs) → (tell : List Sight → ℕ)
    → eqb (tell (half.shows d es)) (tell (half.shows e fs)) ≡ false → ¬ Asking half fit states events shared
refuted half fit states events shared d e es fs w u v o k tell differ h = eqb-false _ _ differ (ap tell (h d e es fs w u v o k).0)

-- the n-th answer, and a byte of the n-th reply
abbrev pub nth : ℕ → List Sight → Sight
nth n l = get_or l n (record { number = 0; written = []; bytes = [] })

abbrev answer : ℕ → List Sight → ℕ
answer n l = (nth n l).number

abbrev replied : ℕ → ℕ → List Sight → ℕ
replied n at l = byte (nth n l).written at

-- a space of zeros with the bench sheet's rules, one with FFh in four places, one where nothing is writable; runs of one or two packets
abbrev zero : Space
zero = plain zeros bench_rules

abbrev full : ℕ → Space
full at = plain (holding at ones) bench_rules

abbrev shut : Space
shut = plain zeros zeros

-- four bytes of FFh at 008h that no write changes, and the same as a status
abbrev fixed : Space
fixed = full 0x008

abbrev status : Space
status = with_status zero

-- a space whose writable bits are marked too, so that no board with it is well described
abbrev twice : Space
twice = record { bytes = zeros; rules = bench_rules; marks = bench_rules }

abbrev at_a : List Event
at_a = sent (read_at 0x01 0x04) ∷ []

-- a read with bit 7 set and a byte too many: no edition serves it, but each refuses it with another number
abbrev too_long : List Event
too_long = sent (changed (read_at 0x00 0x04) 0 0x84 ++ (0x00 ∷ [])) ∷ []

abbrev at4 : List Event
at4 = sent (read_at 0x00 0x04) ∷ []

abbrev written4 : List Event
written4 = sent p2 ∷ at4

abbrev written8 : List Event
written8 = sent (changed p2 0xb 0x08) ∷ sent (read_at 0x00 0x08) ∷ []

abbrev trusted4 : List Event
trusted4 = sent p1 ∷ []

abbrev stored4 : List Event
stored4 = sent (trusted_write_at 0x0f 0x00 0x04 ones) ∷ trusted4

abbrev stored8 : List Event
stored8 = sent (trusted_write_at 0x0f 0x00 0x08 ones) ∷ sent (trusted_read_at 0x00 0x08) ∷ []

pub first_premises_needed : FirstPremisesNeeded
unfolding computing
first_premises_needed = (
  first_half,
  refuted ordinary WellDescribed whole whole nothing (usual zero zero) (usual zero (full 0x00c)) at_a at_a
      refl refl refl refl refl (replied 0 12) refl,
  refuted ordinary WellDescribed but_edition whole whole (usual zero zero) (with_edition (usual zero zero) 2) too_long too_long
      refl refl refl refl refl (answer 0) refl,
  refuted ordinary WellDescribed but_function whole whole (usual zero zero) (board_of 1 0x104 0x00c (Number 0x05 0x03) zero zero) at4 at4
      refl refl refl refl refl (replied 0 6) refl,
  refuted ordinary WellDescribed but_a whole whole (usual (full 0x104) zero) (board_of 0 0x108 0x00c (Number 0x05 0x03) (full 0x104) zero) at_a at_a
      refl refl refl refl refl (replied 0 12) refl,
  refuted ordinary WellDescribed (in_ordinary but_bytes) whole whole (usual zero zero) (usual (full 0x004) zero) at4 at4
      refl refl refl refl refl (replied 0 12) refl,
  refuted ordinary WellDescribed (in_ordinary but_rules) whole whole (usual zero zero) (usual shut zero) written4 written4
      refl refl refl refl refl (replied 1 12) refl,
  refuted ordinary WellDescribed (in_ordinary but_marks) whole whole (usual fixed zero) (usual status zero) written8 written8
      refl refl refl refl refl (replied 1 12) refl,
  refuted ordinary WellDescribed but_capture whole whole (usual zero zero) (board_of 0 0x104 0x00c Nothing zero zero) at4 at4
      refl refl refl refl refl (replied 0 4) refl,
  refuted ordinary WellDescribed whole (map no_bytes) whole (usual (full 0x004) zero) (usual (full 0x004) zero) at4 (sent (read_at 0x00 0x08) ∷ [])
      refl refl refl refl refl (replied 0 12) refl,
  refuted ordinary WellDescribed whole (map no_size) whole (usual zero zero) (usual zero zero) (packet [] 15 ∷ []) (packet [] 16 ∷ [])
      refl refl refl refl refl (answer 0) refl,
  refuted ordinary WellDescribed whole but_places whole (usual zero zero) (usual zero zero)
      (reset ∷ sent (read_at 0x00 0x04) ∷ []) (sent (read_at 0x00 0x04) ∷ reset ∷ [])
      refl refl refl refl refl (replied 0 4) refl,
  refuted ordinary (λ d. Unit {0}) whole whole whole (usual zero zero) (usual zero twice) (sent [] ∷ []) (sent [] ∷ [])
      tt tt refl refl refl (answer 0) refl,
)

pub second_premises_needed : SecondPremisesNeeded
unfolding computing
second_premises_needed = (
  second_half,
  second_half_of_editions,
  refuted trusted WellDescribed whole whole nothing (usual zero zero) (board_of 0 0x104 0x00c Nothing zero zero) trusted4 trusted4
      refl refl refl refl refl (replied 0 6) refl,
  refuted trusted WellDescribed but_trusted_function whole whole (usual zero zero) (board_of 1 0x104 0x00c (Number 0x05 0x03) zero zero) trusted4 trusted4
      refl refl refl refl refl (replied 0 6) refl,
  refuted trusted WellDescribed (in_trusted but_bytes) whole whole (usual zero zero) (usual zero (full 0x004)) trusted4 trusted4
      refl refl refl refl refl (replied 0 12) refl,
  refuted trusted WellDescribed (in_trusted but_rules) whole whole (usual zero zero) (usual zero shut) stored4 stored4
      refl refl refl refl refl (replied 1 12) refl,
  refuted trusted WellDescribed (in_trusted but_marks) whole whole (usual zero fixed) (usual zero status) stored8 stored8
      refl refl refl refl refl (replied 1 12) refl,
  refuted trusted WellDescribed whole (map no_bytes) whole (usual zero (full 0x004)) (usual zero (full 0x004)) trusted4 (sent (trusted_read_at 0x00 0x08) ∷ [])
      refl refl refl refl refl (replied 0 12) refl,
  refuted trusted WellDescribed whole (map no_size) whole (usual zero zero) (usual zero zero) trusted4 (packet p1 15 ∷ [])
      refl refl refl refl refl (answer 0) refl,
  refuted trusted (λ d. Unit {0}) whole whole whole (usual zero zero) (usual twice zero) trusted4 trusted4
      tt tt refl refl refl (answer 0) refl,
)
