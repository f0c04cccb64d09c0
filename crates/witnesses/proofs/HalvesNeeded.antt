-- Demand 3 for each function of a pair says something, and each premise is needed, for either function, but for three: the function's number and the edition, which are
-- in the compared state, and in the first half the reply sizes. A packet that is for the function in both runs names it in both, and is without a fault under both
-- editions; and the registers, which are asked about where a packet is served, tell already whether its reply has room. In the runs that bite, the packets for the other
-- function and for neither differ too, and so does what the other function is and has captured. Assumes nothing.
use Prim.Native.Nat.{ℕ}
use mathlib.Core.Bool.{false}
use mathlib.Core.List.{List, [], ◌∷◌, map}
use mathlib.Core.Option.{Option, some}
use mathlib.Core.Path.{◌≡◌, refl, sym, ap, ◌∙◌}
use lib.Dec.{eqb}
use lib.ListN.{length}
use borrow.Author.Tests.{eqb-false}
use Rattle.words.specs.Bytes.{byte}
use Rattle.capture.specs.declared.Capture.{Capture}
use Rattle.capture.specs.declared.Capture.TheVariants.{Nothing, Number}
use Rattle.runs.specs.Run.{Event, packet, reset}
use Rattle.runs.specs.Bench.{zeros, p2, read_at, changed}
use Rattle.shares.specs.Kinds.{only}
use Rattle.shares.specs.Views.{OrdinaryState, TrustedState, Sight, ordinary_state, trusted_state}
use Rattle.shares.proofs.Examples.{ones, plain, with_status, trusted_read_at, trusted_write_at, register}
use Rattle.shares.proofs.Needed.{whole, nothing, but_a, but_capture, but_bytes, but_rules, but_marks, in_ordinary, in_trusted, no_bytes, no_size, but_places, nth}
use Rattle.shares.proofs.Bite.{Apart, completed}
use Rattle.pair.specs.Pair.{Pair, Role, Primary, Alternate, other, side, board, WellPaired}
use Rattle.pair.proofs.Computing.{pair_computing}
use Rattle.isolation.specs.Rows.{runs}
use Rattle.isolation.specs.Views.{for_neither, ordinary_or_reset, trusted_for, events_that, values_at, ordinary_sights_for, trusted_sights_for, registers_for, captures_for}
use Rattle.isolation.proofs.Halves.{pair_first_half, pair_second_half}
use Rattle.witnesses.proofs.Examples.{side_with, paired, writable, another, changed_other, to, to_mine, to_another, to_changed, to_neither, secret, read4, trusted4}
use Rattle.witnesses.proofs.Needed.{EachWell, NumbersDiffer, numbered, zero, full, shut, fixed, status, usual_with, usual, unknown, twice, at_it, at_a, stored, stored8, trusted_it, kept, kept8}

-- ---- runs that meet the premises

abbrev pub first_one : Role → Pair
first_one role = paired role (side_with 2 0x104 0x00c Nothing (writable ones) (register 0x00c)) another

abbrev pub first_two : Role → Pair
first_two role = paired role (side_with 2 0x104 0x010 Nothing (writable ones) (with_status (register 0x010))) changed_other

abbrev pub first_run : List Event
first_run =
    to_mine p2
    ∷ to_another p2
    ∷ to_mine (trusted_write_at 0x0f 0x00 0x0c (0x5a ∷ 0x6b ∷ 0x7c ∷ 0x8d ∷ []))
    ∷ to_mine (read_at 0x01 0x04)
    ∷ reset
    ∷ to_mine read4
    ∷ []

abbrev pub first_other : List Event
first_other =
    to_mine p2
    ∷ to_neither read4
    ∷ to_mine (trusted_write_at 0x03 0x00 0x10 (0x5a ∷ 0x6b ∷ 0x00 ∷ 0x00 ∷ []))
    ∷ to_changed secret
    ∷ to_mine (trusted_write_at 0x0c 0x00 0x10 (0x00 ∷ 0x00 ∷ 0x7c ∷ 0x8d ∷ []))
    ∷ to_mine (read_at 0x01 0x04)
    ∷ reset
    ∷ to_mine read4
    ∷ []

abbrev pub second_one : Role → Pair
second_one role = paired role (side_with 2 0x104 0x00c Nothing (writable ones) (register 0x010)) another

abbrev pub second_two : Role → Pair
second_two role = paired role (side_with 2 0x108 0x010 (Number 0x07 0x01) (with_status (plain zeros zeros)) (register 0x010)) changed_other

abbrev pub second_run : List Event
second_run =
    to_mine p2
    ∷ to_mine (trusted_write_at 0x0f 0x00 0x10 (0x5a ∷ 0x6b ∷ 0x7c ∷ 0x8d ∷ []))
    ∷ to_mine (trusted_read_at 0x00 0x10)
    ∷ []

abbrev pub second_other : List Event
second_other =
    reset
    ∷ to_mine (changed p2 0xb 0x08)
    ∷ to_mine (trusted_write_at 0x0f 0x00 0x10 (0x5a ∷ 0x6b ∷ 0x7c ∷ 0x8d ∷ []))
    ∷ to_neither read4
    ∷ to_changed (changed p2 0x8 0x0b)
    ∷ to_mine (trusted_read_at 0x00 0x10)
    ∷ []

-- what the other function has captured at each trusted packet for one
abbrev pub others_captures : Role → Pair → List Event → List Capture
others_captures role pair es = values_at runs (trusted_for role pair) (λ x step. (side (other role) x).capture) pair es

-- the statements: the premises, what differs all the same, and a reply: to the read at A, and to the trusted read
pub record PairFirstBites (role : Role) : Type 0 where
  pub well : WellPaired (first_one role) × WellPaired (first_two role)
  pub states : ordinary_state (board role (first_one role)) ≡ ordinary_state (board role (first_two role))
  pub events : events_that runs (ordinary_or_reset role (first_one role)) first_run ≡ events_that runs (ordinary_or_reset role (first_two role)) first_other
  pub registers : registers_for runs role (first_one role) first_run ≡ registers_for runs role (first_two role) first_other
  pub different_b : Apart (side role (first_one role)).function.b (side role (first_two role)).function.b
  pub different_bytes : Apart (side role (first_one role)).trusted.bytes (side role (first_two role)).trusted.bytes
  pub different_rules : Apart (side role (first_one role)).trusted.rules (side role (first_two role)).trusted.rules
  pub different_marks : Apart (side role (first_one role)).trusted.marks (side role (first_two role)).trusted.marks
  pub different_packets : (length (only (trusted_for role (first_one role)) first_run) ≡ 1) × (length (only (trusted_for role (first_two role)) first_other) ≡ 2)
  pub different_neither : (length (only (for_neither (first_one role)) first_run) ≡ 0) × (length (only (for_neither (first_two role)) first_other) ≡ 1)
  pub different_other : Apart (side (other role) (first_one role)).function.number (side (other role) (first_two role)).function.number
  pub reply : (nth 1 (ordinary_sights_for runs role (first_one role) first_run)).written ≡ completed (0x05 ∷ 0x1a ∷ []) 0x09 (0x5a ∷ 0x6b ∷ 0x7c ∷ 0x8d ∷ [])

-- its own capture is the same at each trusted packet for it, and the other's is not
pub record PairSecondBites (role : Role) : Type 0 where
  pub well : WellPaired (second_one role) × WellPaired (second_two role)
  pub states : trusted_state (board role (second_one role)) ≡ trusted_state (board role (second_two role))
  pub packets : events_that runs (trusted_for role (second_one role)) second_run ≡ events_that runs (trusted_for role (second_two role)) second_other
  pub captured : captures_for runs role (second_one role) second_run ≡ captures_for runs role (second_two role) second_other
  pub others_captured : Apart (others_captures role (second_one role) second_run) (others_captures role (second_two role) second_other)
  pub different_a : Apart (side role (second_one role)).function.a (side role (second_two role)).function.a
  pub different_b : Apart (side role (second_one role)).function.b (side role (second_two role)).function.b
  pub different_capture : Apart (side role (second_one role)).capture (side role (second_two role)).capture
  pub different_bytes : Apart (side role (second_one role)).ordinary.bytes (side role (second_two role)).ordinary.bytes
  pub different_rules : Apart (side role (second_one role)).ordinary.rules (side role (second_two role)).ordinary.rules
  pub different_marks : Apart (side role (second_one role)).ordinary.marks (side role (second_two role)).ordinary.marks
  pub different_neither : (length (only (for_neither (second_one role)) second_run) ≡ 0) × (length (only (for_neither (second_two role)) second_other) ≡ 1)
  pub reply : (nth 1 (trusted_sights_for runs role (second_one role) second_run)).written ≡ completed (0x05 ∷ 0x1a ∷ []) 0x08 (0x5a ∷ 0x6b ∷ 0x7c ∷ 0x8d ∷ [])

-- ---- each premise is needed

-- the halves with something asked of each pair, and a part of the states, of the events and of the shared values the same
abbrev pub AskingFirst : {S E C : Type 0} → Role → (Pair → Type 0) → (OrdinaryState → S) → (List Event → E) → (List (Option (List ℕ)) → C) → Type 0
AskingFirst role fit states events shared =
    (d e : Pair) (es fs : List Event) → fit d → fit e → states (ordinary_state (board role d)) ≡ states (ordinary_state (board role e))
    → events (events_that runs (ordinary_or_reset role d) es) ≡ events (events_that runs (ordinary_or_reset role e) fs)
    → shared (registers_for runs role d es) ≡ shared (registers_for runs role e fs)
    → ordinary_sights_for runs role d es ≡ ordinary_sights_for runs role e fs

abbrev pub AskingSecond : {S E C : Type 0} → Role → (Pair → Type 0) → (TrustedState → S) → (List Event → E) → (Pair → List Event → List Capture)
    → (List Capture → C) → Type 0
AskingSecond role fit states events captures shared =
    (d e : Pair) (es fs : List Event) → fit d → fit e → states (trusted_state (board role d)) ≡ states (trusted_state (board role e))
    → events (events_that runs (trusted_for role d) es) ≡ events (events_that runs (trusted_for role e) fs)
    → shared (captures d es) ≡ shared (captures e fs)
    → trusted_sights_for runs role d es ≡ trusted_sights_for runs role e fs

pub record PairFirstNeeded (role : Role) : Type 0 where
  pub holds : AskingFirst role WellPaired whole whole whole
  pub register : ¬ AskingFirst role WellPaired whole whole nothing
  pub a : ¬ AskingFirst role WellPaired but_a whole whole
  pub bytes : ¬ AskingFirst role WellPaired (in_ordinary but_bytes) whole whole
  pub rules : ¬ AskingFirst role WellPaired (in_ordinary but_rules) whole whole
  pub marks : ¬ AskingFirst role WellPaired (in_ordinary but_marks) whole whole
  pub capture : ¬ AskingFirst role WellPaired but_capture whole whole
  pub packets : ¬ AskingFirst role WellPaired whole (map no_bytes) whole
  pub resets : ¬ AskingFirst role WellPaired whole but_places whole
  pub described : ¬ AskingFirst role NumbersDiffer whole whole whole
  pub apart : ¬ AskingFirst role EachWell whole whole whole

pub record PairSecondNeeded (role : Role) : Type 0 where
  pub holds : AskingSecond role WellPaired whole whole (captures_for runs role) whole
  pub capture : ¬ AskingSecond role WellPaired whole whole (captures_for runs role) nothing
  pub own_capture : ¬ AskingSecond role WellPaired whole whole (others_captures role) whole
  pub bytes : ¬ AskingSecond role WellPaired (in_trusted but_bytes) whole (captures_for runs role) whole
  pub rules : ¬ AskingSecond role WellPaired (in_trusted but_rules) whole (captures_for runs role) whole
  pub marks : ¬ AskingSecond role WellPaired (in_trusted but_marks) whole (captures_for runs role) whole
  pub packets : ¬ AskingSecond role WellPaired whole (map no_bytes) (captures_for runs role) whole
  pub sizes : ¬ AskingSecond role WellPaired whole (map no_size) (captures_for runs role) whole
  pub described : ¬ AskingSecond role NumbersDiffer whole whole (captures_for runs role) whole
  pub apart : ¬ AskingSecond role EachWell whole whole (captures_for runs role) whole

-- ---- the proofs

apart : {A : Type 0} {x y : A} (tell : A → ℕ) → eqb (tell x) (tell y) ≡ false → Apart x y
apart tell differ e = eqb-false _ _ differ (ap tell e)

abbrev bus : Capture → ℕ
bus Nothing = 0
bus (Number b device) = b

abbrev second_bus : List Capture → ℕ
second_bus [] = 0
second_bus (c ∷ []) = 0
second_bus (c ∷ e ∷ cs) = bus e

-- the registers and the captures, worked out
abbrev registers_then : List (Option (List ℕ))
registers_then =
    some (0x01 ∷ 0x02 ∷ 0x03 ∷ 0x04 ∷ []) ∷ some (0x5a ∷ 0x6b ∷ 0x7c ∷ 0x8d ∷ []) ∷ some (0x5a ∷ 0x6b ∷ 0x7c ∷ 0x8d ∷ []) ∷ []

abbrev captures_then : List Capture
captures_then = Number 0x05 0x03 ∷ Number 0x05 0x03 ∷ []

registers_one : (role : Role) → registers_for runs role (first_one role) first_run ≡ registers_then
unfolding pair_computing
registers_one Primary = refl
registers_one Alternate = refl

registers_two : (role : Role) → registers_for runs role (first_two role) first_other ≡ registers_then
unfolding pair_computing
registers_two Primary = refl
registers_two Alternate = refl

captures_one : (role : Role) → captures_for runs role (second_one role) second_run ≡ captures_then
unfolding pair_computing
captures_one Primary = refl
captures_one Alternate = refl

captures_two : (role : Role) → captures_for runs role (second_two role) second_other ≡ captures_then
unfolding pair_computing
captures_two Primary = refl
captures_two Alternate = refl

first_reply : (role : Role) → (nth 1 (ordinary_sights_for runs role (first_one role) first_run)).written ≡ completed (0x05 ∷ 0x1a ∷ []) 0x09 (0x5a ∷ 0x6b ∷ 0x7c ∷ 0x8d ∷ [])
unfolding pair_computing
first_reply Primary = refl
first_reply Alternate = refl

second_reply : (role : Role) → (nth 1 (trusted_sights_for runs role (second_one role) second_run)).written ≡ completed (0x05 ∷ 0x1a ∷ []) 0x08 (0x5a ∷ 0x6b ∷ 0x7c ∷ 0x8d ∷ [])
unfolding pair_computing
second_reply Primary = refl
second_reply Alternate = refl

others_captured_lem : (role : Role) → Apart (others_captures role (second_one role) second_run) (others_captures role (second_two role) second_other)
unfolding pair_computing
others_captured_lem Primary = apart second_bus refl
others_captured_lem Alternate = apart second_bus refl

pub pair_first_bites : (role : Role) → PairFirstBites role
unfolding pair_computing
pair_first_bites Primary =
    record {
      well = (refl, refl);
      states = refl;
      events = refl;
      registers = registers_one Primary ∙ sym (registers_two Primary);
      different_b = apart (λ n. n) refl;
      different_bytes = apart (λ l. byte l 12) refl;
      different_rules = apart (λ l. byte l 12) refl;
      different_marks = apart (λ l. byte l 8) refl;
      different_packets = (refl, refl);
      different_neither = (refl, refl);
      different_other = apart (λ n. n) refl;
      reply = first_reply Primary;
    }
pair_first_bites Alternate =
    record {
      well = (refl, refl);
      states = refl;
      events = refl;
      registers = registers_one Alternate ∙ sym (registers_two Alternate);
      different_b = apart (λ n. n) refl;
      different_bytes = apart (λ l. byte l 12) refl;
      different_rules = apart (λ l. byte l 12) refl;
      different_marks = apart (λ l. byte l 8) refl;
      different_packets = (refl, refl);
      different_neither = (refl, refl);
      different_other = apart (λ n. n) refl;
      reply = first_reply Alternate;
    }

pub pair_second_bites : (role : Role) → PairSecondBites role
unfolding pair_computing
pair_second_bites Primary =
    record {
      well = (refl, refl);
      states = refl;
      packets = refl;
      captured = captures_one Primary ∙ sym (captures_two Primary);
      others_captured = others_captured_lem Primary;
      different_a = apart (λ n. n) refl;
      different_b = apart (λ n. n) refl;
      different_capture = apart bus refl;
      different_bytes = apart (λ l. byte l 4) refl;
      different_rules = apart (λ l. byte l 4) refl;
      different_marks = apart (λ l. byte l 8) refl;
      different_neither = (refl, refl);
      reply = second_reply Primary;
    }
pair_second_bites Alternate =
    record {
      well = (refl, refl);
      states = refl;
      packets = refl;
      captured = captures_one Alternate ∙ sym (captures_two Alternate);
      others_captured = others_captured_lem Alternate;
      different_a = apart (λ n. n) refl;
      different_b = apart (λ n. n) refl;
      different_capture = apart bus refl;
      different_bytes = apart (λ l. byte l 4) refl;
      different_rules = apart (λ l. byte l 4) refl;
      different_marks = apart (λ l. byte l 8) refl;
      different_neither = (refl, refl);
      reply = second_reply Alternate;
    }

-- it is false if two runs meet what is asked and one number tells what they show apart
refuted_first : {S E C : Type 0} (role : Role) (fit : Pair → Type 0) (states : OrdinaryState → S) (events : List Event → E) (shared : List (Option (List ℕ)) → C)
    (d e : Pair) (es fs : List Event) → fit d → fit e → states (ordinary_state (board role d)) ≡ states (ordinary_state (board role e))
    → events (events_that runs (ordinary_or_reset role d) es) ≡ events (events_that runs (ordinary_or_reset role e) fs)
    → shared (registers_for runs role d es) ≡ shared (registers_for runs role e fs) → (tell : List Sight → ℕ)
    → eqb (tell (ordinary_sights_for runs role d es)) (tell (ordinary_sights_for runs role e fs)) ≡ false → ¬ AskingFirst role fit states events shared
refuted_first role fit states events shared d e es fs w u s o k tell differ h = eqb-false _ _ differ (ap tell (h d e es fs w u s o k))

refuted_second : {S E C : Type 0} (role : Role) (fit : Pair → Type 0) (states : TrustedState → S) (events : List Event → E)
    (captures : Pair → List Event → List Capture) (shared : List Capture → C) (d e : Pair) (es fs : List Event) → fit d → fit e
    → states (trusted_state (board role d)) ≡ states (trusted_state (board role e))
    → events (events_that runs (trusted_for role d) es) ≡ events (events_that runs (trusted_for role e) fs)
    → shared (captures d es) ≡ shared (captures e fs) → (tell : List Sight → ℕ)
    → eqb (tell (trusted_sights_for runs role d es)) (tell (trusted_sights_for runs role e fs)) ≡ false → ¬ AskingSecond role fit states events captures shared
refuted_second role fit states events captures shared d e es fs w u s o k tell differ h = eqb-false _ _ differ (ap tell (h d e es fs w u s o k))

abbrev answer : ℕ → List Sight → ℕ
answer n l = (nth n l).number

abbrev replied : ℕ → ℕ → List Sight → ℕ
replied n at l = byte (nth n l).written at

first_register_primary : ¬ AskingFirst Primary WellPaired whole whole nothing
unfolding pair_computing
first_register_primary = refuted_first Primary WellPaired whole whole nothing (paired Primary usual another) (paired Primary (usual_with 0x104 0x00c zero (full 0x00c)) another) at_a at_a refl refl refl refl refl (replied 0 12) refl

first_a_primary : ¬ AskingFirst Primary WellPaired but_a whole whole
unfolding pair_computing
first_a_primary = refuted_first Primary WellPaired but_a whole whole (paired Primary (usual_with 0x104 0x00c (full 0x104) zero) another) (paired Primary (usual_with 0x108 0x00c (full 0x104) zero) another) at_a at_a refl refl refl refl refl (replied 0 12) refl

first_bytes_primary : ¬ AskingFirst Primary WellPaired (in_ordinary but_bytes) whole whole
unfolding pair_computing
first_bytes_primary = refuted_first Primary WellPaired (in_ordinary but_bytes) whole whole (paired Primary usual another) (paired Primary (usual_with 0x104 0x00c (full 0x004) zero) another) at_it at_it refl refl refl refl refl (replied 0 12) refl

first_rules_primary : ¬ AskingFirst Primary WellPaired (in_ordinary but_rules) whole whole
unfolding pair_computing
first_rules_primary = refuted_first Primary WellPaired (in_ordinary but_rules) whole whole (paired Primary usual another) (paired Primary (usual_with 0x104 0x00c shut zero) another) stored stored refl refl refl refl refl (replied 1 12) refl

first_marks_primary : ¬ AskingFirst Primary WellPaired (in_ordinary but_marks) whole whole
unfolding pair_computing
first_marks_primary = refuted_first Primary WellPaired (in_ordinary but_marks) whole whole (paired Primary (usual_with 0x104 0x00c fixed zero) another) (paired Primary (usual_with 0x104 0x00c status zero) another) stored8 stored8 refl refl refl refl refl (replied 1 12) refl

first_capture_primary : ¬ AskingFirst Primary WellPaired but_capture whole whole
unfolding pair_computing
first_capture_primary = refuted_first Primary WellPaired but_capture whole whole (paired Primary usual another) (paired Primary unknown another) at_it at_it refl refl refl refl refl (replied 0 4) refl

first_packets_primary : ¬ AskingFirst Primary WellPaired whole (map no_bytes) whole
unfolding pair_computing
first_packets_primary = refuted_first Primary WellPaired whole (map no_bytes) whole (paired Primary (usual_with 0x104 0x00c (full 0x004) zero) another) (paired Primary (usual_with 0x104 0x00c (full 0x004) zero) another) at_it (to_mine (read_at 0x00 0x08) ∷ []) refl refl refl refl refl (replied 0 12) refl

first_resets_primary : ¬ AskingFirst Primary WellPaired whole but_places whole
unfolding pair_computing
first_resets_primary = refuted_first Primary WellPaired whole but_places whole (paired Primary usual another) (paired Primary usual another) (reset ∷ to_mine read4 ∷ []) (to_mine read4 ∷ reset ∷ []) refl refl refl refl refl (replied 0 4) refl

first_described_primary : ¬ AskingFirst Primary NumbersDiffer whole whole whole
unfolding pair_computing
first_described_primary = refuted_first Primary NumbersDiffer whole whole whole (paired Primary usual another) (paired Primary usual twice) at_it at_it refl refl refl refl refl (answer 0) refl

first_apart_primary : ¬ AskingFirst Primary EachWell whole whole whole
unfolding pair_computing
first_apart_primary = refuted_first Primary EachWell whole whole whole (paired Primary usual another) (paired Primary usual (numbered 2)) at_it at_it (refl, refl) (refl, refl) refl refl refl (answer 0) refl

second_apart_primary : ¬ AskingSecond Primary EachWell whole whole (captures_for runs Primary) whole
unfolding pair_computing
second_apart_primary = refuted_second Primary EachWell whole whole (captures_for runs Primary) whole (paired Primary usual another) (paired Primary usual (numbered 2)) trusted_it trusted_it (refl, refl) (refl, refl) refl refl refl (answer 0) refl

second_capture_primary : ¬ AskingSecond Primary WellPaired whole whole (captures_for runs Primary) nothing
unfolding pair_computing
second_capture_primary = refuted_second Primary WellPaired whole whole (captures_for runs Primary) nothing (paired Primary usual another) (paired Primary unknown another) trusted_it trusted_it refl refl refl refl refl (replied 0 6) refl

second_own_capture_primary : ¬ AskingSecond Primary WellPaired whole whole (others_captures Primary) whole
unfolding pair_computing
second_own_capture_primary = refuted_second Primary WellPaired whole whole (others_captures Primary) whole (paired Primary usual another) (paired Primary unknown another) trusted_it trusted_it refl refl refl refl refl (replied 0 6) refl

second_bytes_primary : ¬ AskingSecond Primary WellPaired (in_trusted but_bytes) whole (captures_for runs Primary) whole
unfolding pair_computing
second_bytes_primary = refuted_second Primary WellPaired (in_trusted but_bytes) whole (captures_for runs Primary) whole (paired Primary usual another) (paired Primary (usual_with 0x104 0x00c zero (full 0x004)) another) trusted_it trusted_it refl refl refl refl refl (replied 0 12) refl

second_rules_primary : ¬ AskingSecond Primary WellPaired (in_trusted but_rules) whole (captures_for runs Primary) whole
unfolding pair_computing
second_rules_primary = refuted_second Primary WellPaired (in_trusted but_rules) whole (captures_for runs Primary) whole (paired Primary usual another) (paired Primary (usual_with 0x104 0x00c zero shut) another) kept kept refl refl refl refl refl (replied 1 12) refl

second_marks_primary : ¬ AskingSecond Primary WellPaired (in_trusted but_marks) whole (captures_for runs Primary) whole
unfolding pair_computing
second_marks_primary = refuted_second Primary WellPaired (in_trusted but_marks) whole (captures_for runs Primary) whole (paired Primary (usual_with 0x104 0x00c zero fixed) another) (paired Primary (usual_with 0x104 0x00c zero status) another) kept8 kept8 refl refl refl refl refl (replied 1 12) refl

second_packets_primary : ¬ AskingSecond Primary WellPaired whole (map no_bytes) (captures_for runs Primary) whole
unfolding pair_computing
second_packets_primary = refuted_second Primary WellPaired whole (map no_bytes) (captures_for runs Primary) whole (paired Primary (usual_with 0x104 0x00c zero (full 0x004)) another) (paired Primary (usual_with 0x104 0x00c zero (full 0x004)) another) trusted_it (to_mine (trusted_read_at 0x00 0x08) ∷ []) refl refl refl refl refl (replied 0 12) refl

second_sizes_primary : ¬ AskingSecond Primary WellPaired whole (map no_size) (captures_for runs Primary) whole
unfolding pair_computing
second_sizes_primary = refuted_second Primary WellPaired whole (map no_size) (captures_for runs Primary) whole (paired Primary usual another) (paired Primary usual another) trusted_it (packet (to 0x1a trusted4) 15 ∷ []) refl refl refl refl refl (answer 0) refl

second_described_primary : ¬ AskingSecond Primary NumbersDiffer whole whole (captures_for runs Primary) whole
unfolding pair_computing
second_described_primary = refuted_second Primary NumbersDiffer whole whole (captures_for runs Primary) whole (paired Primary usual another) (paired Primary usual twice) trusted_it trusted_it refl refl refl refl refl (answer 0) refl

first_register_alternate : ¬ AskingFirst Alternate WellPaired whole whole nothing
unfolding pair_computing
first_register_alternate = refuted_first Alternate WellPaired whole whole nothing (paired Alternate usual another) (paired Alternate (usual_with 0x104 0x00c zero (full 0x00c)) another) at_a at_a refl refl refl refl refl (replied 0 12) refl

first_a_alternate : ¬ AskingFirst Alternate WellPaired but_a whole whole
unfolding pair_computing
first_a_alternate = refuted_first Alternate WellPaired but_a whole whole (paired Alternate (usual_with 0x104 0x00c (full 0x104) zero) another) (paired Alternate (usual_with 0x108 0x00c (full 0x104) zero) another) at_a at_a refl refl refl refl refl (replied 0 12) refl

first_bytes_alternate : ¬ AskingFirst Alternate WellPaired (in_ordinary but_bytes) whole whole
unfolding pair_computing
first_bytes_alternate = refuted_first Alternate WellPaired (in_ordinary but_bytes) whole whole (paired Alternate usual another) (paired Alternate (usual_with 0x104 0x00c (full 0x004) zero) another) at_it at_it refl refl refl refl refl (replied 0 12) refl

first_rules_alternate : ¬ AskingFirst Alternate WellPaired (in_ordinary but_rules) whole whole
unfolding pair_computing
first_rules_alternate = refuted_first Alternate WellPaired (in_ordinary but_rules) whole whole (paired Alternate usual another) (paired Alternate (usual_with 0x104 0x00c shut zero) another) stored stored refl refl refl refl refl (replied 1 12) refl

first_marks_alternate : ¬ AskingFirst Alternate WellPaired (in_ordinary but_marks) whole whole
unfolding pair_computing
first_marks_alternate = refuted_first Alternate WellPaired (in_ordinary but_marks) whole whole (paired Alternate (usual_with 0x104 0x00c fixed zero) another) (paired Alternate (usual_with 0x104 0x00c status zero) another) stored8 stored8 refl refl refl refl refl (replied 1 12) refl

first_capture_alternate : ¬ AskingFirst Alternate WellPaired but_capture whole whole
unfolding pair_computing
first_capture_alternate = refuted_first Alternate WellPaired but_capture whole whole (paired Alternate usual another) (paired Alternate unknown another) at_it at_it refl refl refl refl refl (replied 0 4) refl

first_packets_alternate : ¬ AskingFirst Alternate WellPaired whole (map no_bytes) whole
unfolding pair_computing
first_packets_alternate = refuted_first Alternate WellPaired whole (map no_bytes) whole (paired Alternate (usual_with 0x104 0x00c (full 0x004) zero) another) (paired Alternate (usual_with 0x104 0x00c (full 0x004) zero) another) at_it (to_mine (read_at 0x00 0x08) ∷ []) refl refl refl refl refl (replied 0 12) refl

first_resets_alternate : ¬ AskingFirst Alternate WellPaired whole but_places whole
unfolding pair_computing
first_resets_alternate = refuted_first Alternate WellPaired whole but_places whole (paired Alternate usual another) (paired Alternate usual another) (reset ∷ to_mine read4 ∷ []) (to_mine read4 ∷ reset ∷ []) refl refl refl refl refl (replied 0 4) refl

first_described_alternate : ¬ AskingFirst Alternate NumbersDiffer whole whole whole
unfolding pair_computing
first_described_alternate = refuted_first Alternate NumbersDiffer whole whole whole (paired Alternate usual another) (paired Alternate usual twice) at_it at_it refl refl refl refl refl (answer 0) refl

first_apart_alternate : ¬ AskingFirst Alternate EachWell whole whole whole
unfolding pair_computing
first_apart_alternate = refuted_first Alternate EachWell whole whole whole (paired Alternate usual another) (paired Alternate usual (numbered 2)) at_it at_it (refl, refl) (refl, refl) refl refl refl (answer 0) refl

second_apart_alternate : ¬ AskingSecond Alternate EachWell whole whole (captures_for runs Alternate) whole
unfolding pair_computing
second_apart_alternate = refuted_second Alternate EachWell whole whole (captures_for runs Alternate) whole (paired Alternate usual another) (paired Alternate usual (numbered 2)) trusted_it trusted_it (refl, refl) (refl, refl) refl refl refl (answer 0) refl

second_capture_alternate : ¬ AskingSecond Alternate WellPaired whole whole (captures_for runs Alternate) nothing
unfolding pair_computing
second_capture_alternate = refuted_second Alternate WellPaired whole whole (captures_for runs Alternate) nothing (paired Alternate usual another) (paired Alternate unknown another) trusted_it trusted_it refl refl refl refl refl (replied 0 6) refl

second_own_capture_alternate : ¬ AskingSecond Alternate WellPaired whole whole (others_captures Alternate) whole
unfolding pair_computing
second_own_capture_alternate = refuted_second Alternate WellPaired whole whole (others_captures Alternate) whole (paired Alternate usual another) (paired Alternate unknown another) trusted_it trusted_it refl refl refl refl refl (replied 0 6) refl

second_bytes_alternate : ¬ AskingSecond Alternate WellPaired (in_trusted but_bytes) whole (captures_for runs Alternate) whole
unfolding pair_computing
second_bytes_alternate = refuted_second Alternate WellPaired (in_trusted but_bytes) whole (captures_for runs Alternate) whole (paired Alternate usual another) (paired Alternate (usual_with 0x104 0x00c zero (full 0x004)) another) trusted_it trusted_it refl refl refl refl refl (replied 0 12) refl

second_rules_alternate : ¬ AskingSecond Alternate WellPaired (in_trusted but_rules) whole (captures_for runs Alternate) whole
unfolding pair_computing
second_rules_alternate = refuted_second Alternate WellPaired (in_trusted but_rules) whole (captures_for runs Alternate) whole (paired Alternate usual another) (paired Alternate (usual_with 0x104 0x00c zero shut) another) kept kept refl refl refl refl refl (replied 1 12) refl

second_marks_alternate : ¬ AskingSecond Alternate WellPaired (in_trusted but_marks) whole (captures_for runs Alternate) whole
unfolding pair_computing
second_marks_alternate = refuted_second Alternate WellPaired (in_trusted but_marks) whole (captures_for runs Alternate) whole (paired Alternate (usual_with 0x104 0x00c zero fixed) another) (paired Alternate (usual_with 0x104 0x00c zero status) another) kept8 kept8 refl refl refl refl refl (replied 1 12) refl

second_packets_alternate : ¬ AskingSecond Alternate WellPaired whole (map no_bytes) (captures_for runs Alternate) whole
unfolding pair_computing
second_packets_alternate = refuted_second Alternate WellPaired whole (map no_bytes) (captures_for runs Alternate) whole (paired Alternate (usual_with 0x104 0x00c zero (full 0x004)) another) (paired Alternate (usual_with 0x104 0x00c zero (full 0x004)) another) trusted_it (to_mine (trusted_read_at 0x00 0x08) ∷ []) refl refl refl refl refl (replied 0 12) refl

second_sizes_alternate : ¬ AskingSecond Alternate WellPaired whole (map no_size) (captures_for runs Alternate) whole
unfolding pair_computing
second_sizes_alternate = refuted_second Alternate WellPaired whole (map no_size) (captures_for runs Alternate) whole (paired Alternate usual another) (paired Alternate usual another) trusted_it (packet (to 0x1a trusted4) 15 ∷ []) refl refl refl refl refl (answer 0) refl

second_described_alternate : ¬ AskingSecond Alternate NumbersDiffer whole whole (captures_for runs Alternate) whole
unfolding pair_computing
second_described_alternate = refuted_second Alternate NumbersDiffer whole whole (captures_for runs Alternate) whole (paired Alternate usual another) (paired Alternate usual twice) trusted_it trusted_it refl refl refl refl refl (answer 0) refl

pub pair_first_needed : (role : Role) → PairFirstNeeded role
pair_first_needed Primary =
    record {
      holds = λ d e es fs w u s o k. (pair_first_half Primary d e es fs w u s o k).0;
      register = first_register_primary;
      a = first_a_primary;
      bytes = first_bytes_primary;
      rules = first_rules_primary;
      marks = first_marks_primary;
      capture = first_capture_primary;
      packets = first_packets_primary;
      resets = first_resets_primary;
      described = first_described_primary;
      apart = first_apart_primary;
    }
pair_first_needed Alternate =
    record {
      holds = λ d e es fs w u s o k. (pair_first_half Alternate d e es fs w u s o k).0;
      register = first_register_alternate;
      a = first_a_alternate;
      bytes = first_bytes_alternate;
      rules = first_rules_alternate;
      marks = first_marks_alternate;
      capture = first_capture_alternate;
      packets = first_packets_alternate;
      resets = first_resets_alternate;
      described = first_described_alternate;
      apart = first_apart_alternate;
    }

pub pair_second_needed : (role : Role) → PairSecondNeeded role
pair_second_needed Primary =
    record {
      holds = λ d e es fs w u s o k. (pair_second_half Primary d e es fs w u s o k).0;
      capture = second_capture_primary;
      own_capture = second_own_capture_primary;
      bytes = second_bytes_primary;
      rules = second_rules_primary;
      marks = second_marks_primary;
      packets = second_packets_primary;
      sizes = second_sizes_primary;
      described = second_described_primary;
      apart = second_apart_primary;
    }
pair_second_needed Alternate =
    record {
      holds = λ d e es fs w u s o k. (pair_second_half Alternate d e es fs w u s o k).0;
      capture = second_capture_alternate;
      own_capture = second_own_capture_alternate;
      bytes = second_bytes_alternate;
      rules = second_rules_alternate;
      marks = second_marks_alternate;
      packets = second_packets_alternate;
      sizes = second_sizes_alternate;
      described = second_described_alternate;
      apart = second_apart_alternate;
    }
