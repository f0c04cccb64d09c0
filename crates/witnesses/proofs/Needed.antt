-- The isolation holds with all that it asks, and with one thing less it is false, for either function as the unchanged one: that both functions are well described;
-- that their numbers differ; the edition; of the unchanged function's start its number, A, B, its capture, and of each space the bytes, the rules and the marks;
-- of the events that are not for the other function the packets for it and those for neither, of each kind the bytes and the reply sizes, and where the resets stand. And with
-- replies to packets for neither compared where the primary is changed it is false too: two runs that differ in the primary's capture alone disagree there.
-- Assumes nothing.
use Prim.Native.Nat.{ℕ}
use mathlib.Core.Bool.{Bool, false, not, cond}
use mathlib.Core.List.{List, [], ◌∷◌, map}
use mathlib.Core.Path.{◌≡◌, refl, ap}
use lib.Dec.{eqb}
use lib.ListN.{length, get_or}
use borrow.Author.Tests.{eqb-false}
use Rattle.words.specs.Bytes.{byte}
use Rattle.capture.specs.declared.Capture.TheVariants.{Nothing, Number}
use Rattle.board.specs.Description.{Space, badly_described}
use Rattle.runs.specs.Run.{Event, packet, reset}
use Rattle.runs.specs.Bench.{zeros, holding, bench_rules, p2, read_at, changed}
use Rattle.shares.specs.Kinds.{only}
use Rattle.shares.proofs.Examples.{ones, plain, with_status, trusted_read_at, trusted_write_at}
use Rattle.shares.proofs.Needed.{whole, nothing, but_bytes, but_rules, but_marks, no_bytes, no_size, but_places}
use Rattle.pair.specs.declared.Function.{Function}
use Rattle.pair.specs.Pair.{Side, Pair, Role, Primary, Alternate, other, side, board, WellPaired}
use Rattle.pair.specs.Pair as pairs
use Rattle.pair.proofs.Computing.{pair_computing}
use Rattle.isolation.specs.Rows.{runs}
use Rattle.isolation.specs.Views.{OwnSight, for_role, for_neither, not_for, events_that, own_sights, neither_numbers, neither_replies}
use Rattle.isolation.proofs.Isolated.{isolated}
use Rattle.witnesses.proofs.Examples.{side_with, paired, with_pair_edition, another, to, to_mine, to_neither, too_long, read4, trusted4}
use Rattle.witnesses.proofs.Bite.{nth_sight, nth_reply}

-- ---- the statements

-- what is compared: at packets for the unchanged function, and the numbers of those for neither
abbrev pub compared : Role → Pair → List Event → List OwnSight × List ℕ
compared role pair es = (own_sights runs role pair es, neither_numbers runs pair es)

-- the isolation, where something is asked of each pair, and a part of the edition, of the unchanged function's start and of the events is the same
abbrev pub Asking : {N S E : Type 0} → Role → (Pair → Type 0) → (ℕ → N) → (Side → S) → (Pair → List Event → E) → Type 0
Asking role fit editions sides events =
    (d e : Pair) (es fs : List Event) → fit d → fit e → editions d.edition ≡ editions e.edition → sides (side role d) ≡ sides (side role e)
    → events d (events_that runs (not_for (other role) d) es) ≡ events e (events_that runs (not_for (other role) e) fs)
    → compared role d es ≡ compared role e fs

-- both functions are well described, whatever their numbers; the numbers differ, however they are described
abbrev pub EachWell : Pair → Type 0
EachWell pair = (badly_described (board Primary pair) ≡ false) × (badly_described (board Alternate pair) ≡ false)

abbrev pub NumbersDiffer : Pair → Type 0
NumbersDiffer pair = eqb (pairs.number_of Primary pair) (pairs.number_of Alternate pair) ≡ false

-- a function but for one part
abbrev pub in_function : (Function → Function) → Side → Side
in_function but s = record { function = but s.function; capture = s.capture; ordinary = s.ordinary; trusted = s.trusted }

abbrev pub no_number : Function → Function
no_number f = record { number = 0; a = f.a; b = f.b }

abbrev pub no_a : Function → Function
no_a f = record { number = f.number; a = 0; b = f.b }

abbrev pub no_b : Function → Function
no_b f = record { number = f.number; a = f.a; b = 0 }

abbrev pub no_capture : Side → Side
no_capture s = record { function = s.function; capture = Nothing; ordinary = s.ordinary; trusted = s.trusted }

abbrev pub in_its_ordinary : (Space → Space) → Side → Side
in_its_ordinary but s = record { function = s.function; capture = s.capture; ordinary = but s.ordinary; trusted = s.trusted }

abbrev pub in_its_trusted : (Space → Space) → Side → Side
in_its_trusted but s = record { function = s.function; capture = s.capture; ordinary = s.ordinary; trusted = but s.trusted }

-- all the events; but for the packets for the unchanged function, or for neither; but for the bytes of such packets, or their reply sizes; but for where the
-- resets stand between the packets
abbrev pub all_events : Pair → List Event → List Event
all_events pair es = es

abbrev pub but : (Pair → Event → Bool) → Pair → List Event → List Event
but kind pair es = only (λ e. not (kind pair e)) es

abbrev pub changed_if : (Event → Event) → Bool → Event → Event
changed_if change counts e = cond counts (change e) e

abbrev pub but_bytes_of : (Pair → Event → Bool) → Pair → List Event → List Event
but_bytes_of kind pair es = map (λ e. changed_if no_bytes (kind pair e) e) es

abbrev pub but_sizes_of : (Pair → Event → Bool) → Pair → List Event → List Event
but_sizes_of kind pair es = map (λ e. changed_if no_size (kind pair e) e) es

abbrev pub but_places_of : Pair → List Event → List Event × List Event
but_places_of pair es = but_places es

pub record PremisesNeeded (role : Role) : Type 0 where
  pub holds : Asking role WellPaired whole whole all_events
  pub described : ¬ Asking role NumbersDiffer whole whole all_events
  pub apart : ¬ Asking role EachWell whole whole all_events
  pub edition : ¬ Asking role WellPaired nothing whole all_events
  pub number : ¬ Asking role WellPaired whole (in_function no_number) all_events
  pub a : ¬ Asking role WellPaired whole (in_function no_a) all_events
  pub b : ¬ Asking role WellPaired whole (in_function no_b) all_events
  pub capture : ¬ Asking role WellPaired whole no_capture all_events
  pub ordinary_bytes : ¬ Asking role WellPaired whole (in_its_ordinary but_bytes) all_events
  pub ordinary_rules : ¬ Asking role WellPaired whole (in_its_ordinary but_rules) all_events
  pub ordinary_marks : ¬ Asking role WellPaired whole (in_its_ordinary but_marks) all_events
  pub trusted_bytes : ¬ Asking role WellPaired whole (in_its_trusted but_bytes) all_events
  pub trusted_rules : ¬ Asking role WellPaired whole (in_its_trusted but_rules) all_events
  pub trusted_marks : ¬ Asking role WellPaired whole (in_its_trusted but_marks) all_events
  pub own_packets : ¬ Asking role WellPaired whole whole (but (for_role role))
  pub neither_packets : ¬ Asking role WellPaired whole whole (but for_neither)
  pub own_bytes : ¬ Asking role WellPaired whole whole (but_bytes_of (for_role role))
  pub neither_bytes : ¬ Asking role WellPaired whole whole (but_bytes_of for_neither)
  pub own_sizes : ¬ Asking role WellPaired whole whole (but_sizes_of (for_role role))
  pub neither_sizes : ¬ Asking role WellPaired whole whole (but_sizes_of for_neither)
  pub resets : ¬ Asking role WellPaired whole whole but_places_of

-- with the replies to packets for neither compared, whichever function is unchanged
abbrev pub RepliesAlways : Type 0
RepliesAlways =
    (role : Role) (d e : Pair) (es fs : List Event) → WellPaired d → WellPaired e → d.edition ≡ e.edition → side role d ≡ side role e
    → events_that runs (not_for (other role) d) es ≡ events_that runs (not_for (other role) e) fs
    → neither_replies runs d es ≡ neither_replies runs e fs

-- ---- the witnesses

-- spaces: zero with the bench sheet's rules, FFh in four places, nothing writable, four bytes of FFh at 008h that no write changes, and the same as a status
abbrev pub zero : Space
zero = plain zeros bench_rules

abbrev pub full : ℕ → Space
full at = plain (holding at ones) bench_rules

abbrev pub shut : Space
shut = plain zeros zeros

abbrev pub fixed : Space
fixed = full 0x008

abbrev pub status : Space
status = with_status zero

-- function 2 with bus 05h and device 3 captured; with nothing captured; another number
abbrev pub usual_with : ℕ → ℕ → Space → Space → Side
usual_with a b ordinary trusted = side_with 2 a b (Number 0x05 0x03) ordinary trusted

abbrev pub usual : Side
usual = usual_with 0x104 0x00c zero zero

abbrev pub unknown : Side
unknown = side_with 2 0x104 0x00c Nothing zero zero

abbrev pub numbered : ℕ → Side
numbered n = side_with n 0x104 0x00c (Number 0x05 0x03) zero zero

-- function 3, badly described: a bit that is writable is marked too
abbrev pub twice : Side
twice = side_with 3 0x104 0x00c Nothing zero (record { bytes = zeros; rules = bench_rules; marks = bench_rules })

-- runs of one or two packets for function 2, and for neither
abbrev pub at_it : List Event
at_it = to_mine read4 ∷ []

abbrev pub at_a : List Event
at_a = to_mine (read_at 0x01 0x04) ∷ []

abbrev pub stored : List Event
stored = to_mine p2 ∷ at_it

abbrev pub stored8 : List Event
stored8 = to_mine (changed p2 0xb 0x08) ∷ to_mine (read_at 0x00 0x08) ∷ []

abbrev pub trusted_it : List Event
trusted_it = to_mine trusted4 ∷ []

abbrev pub kept : List Event
kept = to_mine (trusted_write_at 0x0f 0x00 0x04 ones) ∷ trusted_it

abbrev pub kept8 : List Event
kept8 = to_mine (trusted_write_at 0x0f 0x00 0x08 ones) ∷ to_mine (trusted_read_at 0x00 0x08) ∷ []

-- a read for neither, and one with bit 7 set
abbrev at_neither : List Event
at_neither = to_neither read4 ∷ []

abbrev bit7 : List Event
bit7 = to_neither (changed read4 0 0x84) ∷ []

-- it is false if two runs meet what is asked and one number tells what they show apart
refuted : {N S E : Type 0} (role : Role) (fit : Pair → Type 0) (editions : ℕ → N) (sides : Side → S) (events : Pair → List Event → E) (d e : Pair) (es fs : List Event)
    → fit d → fit e → editions d.edition ≡ editions e.edition → sides (side role d) ≡ sides (side role e)
    → events d (events_that runs (not_for (other role) d) es) ≡ events e (events_that runs (not_for (other role) e) fs) → (tell : List OwnSight × List ℕ → ℕ)
    → eqb (tell (compared role d es)) (tell (compared role e fs)) ≡ false → ¬ Asking role fit editions sides events
refuted role fit editions sides events d e es fs w u n s o tell differ h = eqb-false _ _ differ (ap tell (h d e es fs w u n s o))

-- the number and a byte of the n-th reply for the unchanged function; the first number for neither; how many there are for it
abbrev answer : ℕ → List OwnSight × List ℕ → ℕ
answer n l = (nth_sight n l.0).number

abbrev replied : ℕ → ℕ → List OwnSight × List ℕ → ℕ
replied n at l = byte (nth_sight n l.0).written at

abbrev neither : List OwnSight × List ℕ → ℕ
neither l = get_or l.1 0 99

abbrev own_count : List OwnSight × List ℕ → ℕ
own_count l = length l.0

described_primary : ¬ Asking Primary NumbersDiffer whole whole all_events
unfolding pair_computing
described_primary = refuted Primary NumbersDiffer whole whole all_events (paired Primary usual another) (paired Primary usual twice) at_it at_it refl refl refl refl refl (answer 0) refl

apart_primary : ¬ Asking Primary EachWell whole whole all_events
unfolding pair_computing
apart_primary = refuted Primary EachWell whole whole all_events (paired Primary usual another) (paired Primary usual (numbered 2)) at_neither at_neither (refl, refl) (refl, refl) refl refl refl neither refl

edition_primary : ¬ Asking Primary WellPaired nothing whole all_events
unfolding pair_computing
edition_primary = refuted Primary WellPaired nothing whole all_events (paired Primary usual another) (with_pair_edition (paired Primary usual another) 2) bit7 bit7 refl refl refl refl refl neither refl

number_primary : ¬ Asking Primary WellPaired whole (in_function no_number) all_events
unfolding pair_computing
number_primary = refuted Primary WellPaired whole (in_function no_number) all_events (paired Primary usual another) (paired Primary (numbered 5) another) at_it at_it refl refl refl refl refl own_count refl

a_primary : ¬ Asking Primary WellPaired whole (in_function no_a) all_events
unfolding pair_computing
a_primary = refuted Primary WellPaired whole (in_function no_a) all_events (paired Primary (usual_with 0x104 0x00c (full 0x104) zero) another) (paired Primary (usual_with 0x108 0x00c (full 0x104) zero) another) at_a at_a refl refl refl refl refl (replied 0 12) refl

b_primary : ¬ Asking Primary WellPaired whole (in_function no_b) all_events
unfolding pair_computing
b_primary = refuted Primary WellPaired whole (in_function no_b) all_events (paired Primary (usual_with 0x104 0x00c zero (full 0x010)) another) (paired Primary (usual_with 0x104 0x010 zero (full 0x010)) another) at_a at_a refl refl refl refl refl (replied 0 12) refl

capture_primary : ¬ Asking Primary WellPaired whole no_capture all_events
unfolding pair_computing
capture_primary = refuted Primary WellPaired whole no_capture all_events (paired Primary usual another) (paired Primary unknown another) at_it at_it refl refl refl refl refl (replied 0 4) refl

ordinary_bytes_primary : ¬ Asking Primary WellPaired whole (in_its_ordinary but_bytes) all_events
unfolding pair_computing
ordinary_bytes_primary = refuted Primary WellPaired whole (in_its_ordinary but_bytes) all_events (paired Primary usual another) (paired Primary (usual_with 0x104 0x00c (full 0x004) zero) another) at_it at_it refl refl refl refl refl (replied 0 12) refl

ordinary_rules_primary : ¬ Asking Primary WellPaired whole (in_its_ordinary but_rules) all_events
unfolding pair_computing
ordinary_rules_primary = refuted Primary WellPaired whole (in_its_ordinary but_rules) all_events (paired Primary usual another) (paired Primary (usual_with 0x104 0x00c shut zero) another) stored stored refl refl refl refl refl (replied 1 12) refl

ordinary_marks_primary : ¬ Asking Primary WellPaired whole (in_its_ordinary but_marks) all_events
unfolding pair_computing
ordinary_marks_primary = refuted Primary WellPaired whole (in_its_ordinary but_marks) all_events (paired Primary (usual_with 0x104 0x00c fixed zero) another) (paired Primary (usual_with 0x104 0x00c status zero) another) stored8 stored8 refl refl refl refl refl (replied 1 12) refl

trusted_bytes_primary : ¬ Asking Primary WellPaired whole (in_its_trusted but_bytes) all_events
unfolding pair_computing
trusted_bytes_primary = refuted Primary WellPaired whole (in_its_trusted but_bytes) all_events (paired Primary usual another) (paired Primary (usual_with 0x104 0x00c zero (full 0x004)) another) trusted_it trusted_it refl refl refl refl refl (replied 0 12) refl

trusted_rules_primary : ¬ Asking Primary WellPaired whole (in_its_trusted but_rules) all_events
unfolding pair_computing
trusted_rules_primary = refuted Primary WellPaired whole (in_its_trusted but_rules) all_events (paired Primary usual another) (paired Primary (usual_with 0x104 0x00c zero shut) another) kept kept refl refl refl refl refl (replied 1 12) refl

trusted_marks_primary : ¬ Asking Primary WellPaired whole (in_its_trusted but_marks) all_events
unfolding pair_computing
trusted_marks_primary = refuted Primary WellPaired whole (in_its_trusted but_marks) all_events (paired Primary (usual_with 0x104 0x00c zero fixed) another) (paired Primary (usual_with 0x104 0x00c zero status) another) kept8 kept8 refl refl refl refl refl (replied 1 12) refl

own_packets_primary : ¬ Asking Primary WellPaired whole whole (but (for_role Primary))
unfolding pair_computing
own_packets_primary = refuted Primary WellPaired whole whole (but (for_role Primary)) (paired Primary usual another) (paired Primary usual another) at_it [] refl refl refl refl refl own_count refl

neither_packets_primary : ¬ Asking Primary WellPaired whole whole (but for_neither)
unfolding pair_computing
neither_packets_primary = refuted Primary WellPaired whole whole (but for_neither) (paired Primary usual another) (paired Primary usual another) at_neither (to_neither too_long ∷ []) refl refl refl refl refl neither refl

own_bytes_primary : ¬ Asking Primary WellPaired whole whole (but_bytes_of (for_role Primary))
unfolding pair_computing
own_bytes_primary = refuted Primary WellPaired whole whole (but_bytes_of (for_role Primary)) (paired Primary (usual_with 0x104 0x00c (full 0x004) zero) another) (paired Primary (usual_with 0x104 0x00c (full 0x004) zero) another) at_it (to_mine (read_at 0x00 0x08) ∷ []) refl refl refl refl refl (replied 0 12) refl

neither_bytes_primary : ¬ Asking Primary WellPaired whole whole (but_bytes_of for_neither)
unfolding pair_computing
neither_bytes_primary = refuted Primary WellPaired whole whole (but_bytes_of for_neither) (paired Primary usual another) (paired Primary usual another) at_neither (to_neither too_long ∷ []) refl refl refl refl refl neither refl

own_sizes_primary : ¬ Asking Primary WellPaired whole whole (but_sizes_of (for_role Primary))
unfolding pair_computing
own_sizes_primary = refuted Primary WellPaired whole whole (but_sizes_of (for_role Primary)) (paired Primary usual another) (paired Primary usual another) at_it (packet (to 0x1a read4) 15 ∷ []) refl refl refl refl refl (answer 0) refl

neither_sizes_primary : ¬ Asking Primary WellPaired whole whole (but_sizes_of for_neither)
unfolding pair_computing
neither_sizes_primary = refuted Primary WellPaired whole whole (but_sizes_of for_neither) (paired Primary usual another) (paired Primary usual another) at_neither (packet (to 0x1d read4) 15 ∷ []) refl refl refl refl refl neither refl

resets_primary : ¬ Asking Primary WellPaired whole whole but_places_of
unfolding pair_computing
resets_primary = refuted Primary WellPaired whole whole but_places_of (paired Primary usual another) (paired Primary usual another) (reset ∷ to_mine read4 ∷ []) (to_mine read4 ∷ reset ∷ []) refl refl refl refl refl (replied 0 4) refl

described_alternate : ¬ Asking Alternate NumbersDiffer whole whole all_events
unfolding pair_computing
described_alternate = refuted Alternate NumbersDiffer whole whole all_events (paired Alternate usual another) (paired Alternate usual twice) at_it at_it refl refl refl refl refl (answer 0) refl

apart_alternate : ¬ Asking Alternate EachWell whole whole all_events
unfolding pair_computing
apart_alternate = refuted Alternate EachWell whole whole all_events (paired Alternate usual another) (paired Alternate usual (numbered 2)) at_neither at_neither (refl, refl) (refl, refl) refl refl refl neither refl

edition_alternate : ¬ Asking Alternate WellPaired nothing whole all_events
unfolding pair_computing
edition_alternate = refuted Alternate WellPaired nothing whole all_events (paired Alternate usual another) (with_pair_edition (paired Alternate usual another) 2) bit7 bit7 refl refl refl refl refl neither refl

number_alternate : ¬ Asking Alternate WellPaired whole (in_function no_number) all_events
unfolding pair_computing
number_alternate = refuted Alternate WellPaired whole (in_function no_number) all_events (paired Alternate usual another) (paired Alternate (numbered 5) another) at_it at_it refl refl refl refl refl own_count refl

a_alternate : ¬ Asking Alternate WellPaired whole (in_function no_a) all_events
unfolding pair_computing
a_alternate = refuted Alternate WellPaired whole (in_function no_a) all_events (paired Alternate (usual_with 0x104 0x00c (full 0x104) zero) another) (paired Alternate (usual_with 0x108 0x00c (full 0x104) zero) another) at_a at_a refl refl refl refl refl (replied 0 12) refl

b_alternate : ¬ Asking Alternate WellPaired whole (in_function no_b) all_events
unfolding pair_computing
b_alternate = refuted Alternate WellPaired whole (in_function no_b) all_events (paired Alternate (usual_with 0x104 0x00c zero (full 0x010)) another) (paired Alternate (usual_with 0x104 0x010 zero (full 0x010)) another) at_a at_a refl refl refl refl refl (replied 0 12) refl

capture_alternate : ¬ Asking Alternate WellPaired whole no_capture all_events
unfolding pair_computing
capture_alternate = refuted Alternate WellPaired whole no_capture all_events (paired Alternate usual another) (paired Alternate unknown another) at_it at_it refl refl refl refl refl (replied 0 4) refl

ordinary_bytes_alternate : ¬ Asking Alternate WellPaired whole (in_its_ordinary but_bytes) all_events
unfolding pair_computing
ordinary_bytes_alternate = refuted Alternate WellPaired whole (in_its_ordinary but_bytes) all_events (paired Alternate usual another) (paired Alternate (usual_with 0x104 0x00c (full 0x004) zero) another) at_it at_it refl refl refl refl refl (replied 0 12) refl

ordinary_rules_alternate : ¬ Asking Alternate WellPaired whole (in_its_ordinary but_rules) all_events
unfolding pair_computing
ordinary_rules_alternate = refuted Alternate WellPaired whole (in_its_ordinary but_rules) all_events (paired Alternate usual another) (paired Alternate (usual_with 0x104 0x00c shut zero) another) stored stored refl refl refl refl refl (replied 1 12) refl

ordinary_marks_alternate : ¬ Asking Alternate WellPaired whole (in_its_ordinary but_marks) all_events
unfolding pair_computing
ordinary_marks_alternate = refuted Alternate WellPaired whole (in_its_ordinary but_marks) all_events (paired Alternate (usual_with 0x104 0x00c fixed zero) another) (paired Alternate (usual_with 0x104 0x00c status zero) another) stored8 stored8 refl refl refl refl refl (replied 1 12) refl

trusted_bytes_alternate : ¬ Asking Alternate WellPaired whole (in_its_trusted but_bytes) all_events
unfolding pair_computing
trusted_bytes_alternate = refuted Alternate WellPaired whole (in_its_trusted but_bytes) all_events (paired Alternate usual another) (paired Alternate (usual_with 0x104 0x00c zero (full 0x004)) another) trusted_it trusted_it refl refl refl refl refl (replied 0 12) refl

trusted_rules_alternate : ¬ Asking Alternate WellPaired whole (in_its_trusted but_rules) all_events
unfolding pair_computing
trusted_rules_alternate = refuted Alternate WellPaired whole (in_its_trusted but_rules) all_events (paired Alternate usual another) (paired Alternate (usual_with 0x104 0x00c zero shut) another) kept kept refl refl refl refl refl (replied 1 12) refl

trusted_marks_alternate : ¬ Asking Alternate WellPaired whole (in_its_trusted but_marks) all_events
unfolding pair_computing
trusted_marks_alternate = refuted Alternate WellPaired whole (in_its_trusted but_marks) all_events (paired Alternate (usual_with 0x104 0x00c zero fixed) another) (paired Alternate (usual_with 0x104 0x00c zero status) another) kept8 kept8 refl refl refl refl refl (replied 1 12) refl

own_packets_alternate : ¬ Asking Alternate WellPaired whole whole (but (for_role Alternate))
unfolding pair_computing
own_packets_alternate = refuted Alternate WellPaired whole whole (but (for_role Alternate)) (paired Alternate usual another) (paired Alternate usual another) at_it [] refl refl refl refl refl own_count refl

neither_packets_alternate : ¬ Asking Alternate WellPaired whole whole (but for_neither)
unfolding pair_computing
neither_packets_alternate = refuted Alternate WellPaired whole whole (but for_neither) (paired Alternate usual another) (paired Alternate usual another) at_neither (to_neither too_long ∷ []) refl refl refl refl refl neither refl

own_bytes_alternate : ¬ Asking Alternate WellPaired whole whole (but_bytes_of (for_role Alternate))
unfolding pair_computing
own_bytes_alternate = refuted Alternate WellPaired whole whole (but_bytes_of (for_role Alternate)) (paired Alternate (usual_with 0x104 0x00c (full 0x004) zero) another) (paired Alternate (usual_with 0x104 0x00c (full 0x004) zero) another) at_it (to_mine (read_at 0x00 0x08) ∷ []) refl refl refl refl refl (replied 0 12) refl

neither_bytes_alternate : ¬ Asking Alternate WellPaired whole whole (but_bytes_of for_neither)
unfolding pair_computing
neither_bytes_alternate = refuted Alternate WellPaired whole whole (but_bytes_of for_neither) (paired Alternate usual another) (paired Alternate usual another) at_neither (to_neither too_long ∷ []) refl refl refl refl refl neither refl

own_sizes_alternate : ¬ Asking Alternate WellPaired whole whole (but_sizes_of (for_role Alternate))
unfolding pair_computing
own_sizes_alternate = refuted Alternate WellPaired whole whole (but_sizes_of (for_role Alternate)) (paired Alternate usual another) (paired Alternate usual another) at_it (packet (to 0x1a read4) 15 ∷ []) refl refl refl refl refl (answer 0) refl

neither_sizes_alternate : ¬ Asking Alternate WellPaired whole whole (but_sizes_of for_neither)
unfolding pair_computing
neither_sizes_alternate = refuted Alternate WellPaired whole whole (but_sizes_of for_neither) (paired Alternate usual another) (paired Alternate usual another) at_neither (packet (to 0x1d read4) 15 ∷ []) refl refl refl refl refl neither refl

resets_alternate : ¬ Asking Alternate WellPaired whole whole but_places_of
unfolding pair_computing
resets_alternate = refuted Alternate WellPaired whole whole but_places_of (paired Alternate usual another) (paired Alternate usual another) (reset ∷ to_mine read4 ∷ []) (to_mine read4 ∷ reset ∷ []) refl refl refl refl refl (replied 0 4) refl

pub premises_needed : (role : Role) → PremisesNeeded role
premises_needed Primary =
    record {
      holds = λ d e es fs w u n s o. (λ i. ((isolated Primary d e es fs w u n s o).own i, (isolated Primary d e es fs w u n s o).numbers i));
      described = described_primary;
      apart = apart_primary;
      edition = edition_primary;
      number = number_primary;
      a = a_primary;
      b = b_primary;
      capture = capture_primary;
      ordinary_bytes = ordinary_bytes_primary;
      ordinary_rules = ordinary_rules_primary;
      ordinary_marks = ordinary_marks_primary;
      trusted_bytes = trusted_bytes_primary;
      trusted_rules = trusted_rules_primary;
      trusted_marks = trusted_marks_primary;
      own_packets = own_packets_primary;
      neither_packets = neither_packets_primary;
      own_bytes = own_bytes_primary;
      neither_bytes = neither_bytes_primary;
      own_sizes = own_sizes_primary;
      neither_sizes = neither_sizes_primary;
      resets = resets_primary;
    }
premises_needed Alternate =
    record {
      holds = λ d e es fs w u n s o. (λ i. ((isolated Alternate d e es fs w u n s o).own i, (isolated Alternate d e es fs w u n s o).numbers i));
      described = described_alternate;
      apart = apart_alternate;
      edition = edition_alternate;
      number = number_alternate;
      a = a_alternate;
      b = b_alternate;
      capture = capture_alternate;
      ordinary_bytes = ordinary_bytes_alternate;
      ordinary_rules = ordinary_rules_alternate;
      ordinary_marks = ordinary_marks_alternate;
      trusted_bytes = trusted_bytes_alternate;
      trusted_rules = trusted_rules_alternate;
      trusted_marks = trusted_marks_alternate;
      own_packets = own_packets_alternate;
      neither_packets = neither_packets_alternate;
      own_bytes = own_bytes_alternate;
      neither_bytes = neither_bytes_alternate;
      own_sizes = own_sizes_alternate;
      neither_sizes = neither_sizes_alternate;
      resets = resets_alternate;
    }

-- two runs of one packet for neither, which differ in the primary's capture alone
pub replies_not_always : ¬ RepliesAlways
unfolding pair_computing
replies_not_always h =
    eqb-false _ _ refl
    (ap (λ (l : List (List ℕ)). byte (nth_reply 0 l) 4)
    (h Alternate (paired Alternate another usual) (paired Alternate another unknown) at_neither at_neither refl refl refl refl refl))
