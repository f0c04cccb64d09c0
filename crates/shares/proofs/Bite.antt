-- The two halves of demand 3 say something. Runs A and B differ in B, trusted bytes, rules and marks and the number of trusted packets, meet the
-- first half's premises, and in A, so by the half in both, an ordinary read at A is answered with the data in the register, not with the stale bytes there, and one of
-- the status with the bits that a write has left. Runs C and D differ in A, B, ordinary bytes, rules and marks, capture and the number of
-- ordinary packets and resets, meet the second half's premises, and in C, so in both, a trusted read is answered with the data written before, and one of
-- the trusted status with the bits that are left. Each pair of boards meets them under edition 2 too,
-- in shorter runs with a trusted code whose bit 7 is set, which counts as ordinary. Assumes nothing.
use Prim.Native.Nat.{ℕ}
use mathlib.Core.Bool.{false}
use mathlib.Core.List.{List, [], ◌∷◌, ◌++◌}
use mathlib.Core.Path.{◌≡◌, refl, sym, ap, ◌∙◌}
use lib.Dec.{eqb}
use lib.ListN.{length, get_or}
use borrow.Author.Tests.{eqb-false}
use Rattle.words.specs.Bytes.{byte}
use Rattle.capture.specs.declared.Capture.{Capture}
use Rattle.capture.specs.declared.Capture.TheVariants.{Nothing, Number}
use Rattle.board.specs.Description.{Board, WellDescribed}
use Rattle.board.proofs.Computing.{computing}
use Rattle.runs.specs.Run.{Event}
use Rattle.shares.specs.Kinds.{only}
use Rattle.shares.specs.Views.{Sight, edition_of, ordinary_packet, ordinary_state, trusted_state, ordinary_events, trusted_packets, ordinary_sights, trusted_sights, correlations, correlations_at_each, captures}
use Rattle.shares.proofs.Needed.{nth, is_reset}
use Rattle.shares.proofs.Quickly.{quick_registers, quick_at_each, at_each_quickly, quick_captures, quick_ordinary, quick_trusted, registers_quickly, captures_quickly, ordinary_quickly, trusted_quickly}
use Rattle.shares.proofs.Examples.{board_a, board_b, board_c, board_d, run_a, run_b, run_c, run_d, board_a2, board_b2, board_c2, board_d2, run_a2, run_b2, run_c2, run_d2}

-- two values that a number tells apart
abbrev pub Apart : {A : Type 0} → A → A → Type 0
Apart x y = x ≡ y → ⊥

-- a completion with data, to the bench sheet's requester: the completer ID, the tag, the data
abbrev pub completed : List ℕ → ℕ → List ℕ → List ℕ
completed id tag new = (0x4a ∷ 0x00 ∷ 0x00 ∷ 0x01 ∷ []) ++ id ++ (0x00 ∷ 0x04 ∷ 0x01 ∷ 0x00 ∷ tag ∷ 0x00 ∷ []) ++ new

-- the statement for the first half: its premises, what differs all the same, and the replies to the third ordinary packet, a read at A, and to the
-- fourth, a read of the status after the reset
pub record FirstHalfBites : Type 0 where
  pub well : WellDescribed board_a × WellDescribed board_b
  pub states : ordinary_state board_a ≡ ordinary_state board_b
  pub events : ordinary_events board_a run_a ≡ ordinary_events board_b run_b
  pub registers : correlations board_a run_a ≡ correlations board_b run_b
  pub different_b : Apart board_a.description.b board_b.description.b
  pub different_bytes : Apart board_a.trusted.bytes board_b.trusted.bytes
  pub different_rules : Apart board_a.trusted.rules board_b.trusted.rules
  pub different_marks : Apart board_a.trusted.marks board_b.trusted.marks
  pub different_packets : (length (trusted_packets board_a run_a) ≡ 1) × (length (trusted_packets board_b run_b) ≡ 5)
  pub reply : (nth 2 (ordinary_sights board_a run_a)).written ≡ completed (0x05 ∷ 0x18 ∷ []) 0x09 (0x5a ∷ 0x6b ∷ 0x7c ∷ 0x8d ∷ [])
  pub cleared : (nth 3 (ordinary_sights board_a run_a)).written ≡ completed (0x00 ∷ 0x00 ∷ []) 0x09 (0xee ∷ 0xdd ∷ 0xcc ∷ 0xbb ∷ [])

-- and for the second: the replies to the second trusted packet, a read, and to the fourth, a read of the status
pub record SecondHalfBites : Type 0 where
  pub well : WellDescribed board_c × WellDescribed board_d
  pub states : trusted_state board_c ≡ trusted_state board_d
  pub packets : trusted_packets board_c run_c ≡ trusted_packets board_d run_d
  pub captured : captures board_c run_c ≡ captures board_d run_d
  pub different_a : Apart board_c.description.a board_d.description.a
  pub different_b : Apart board_c.description.b board_d.description.b
  pub different_bytes : Apart board_c.ordinary.bytes board_d.ordinary.bytes
  pub different_rules : Apart board_c.ordinary.rules board_d.ordinary.rules
  pub different_marks : Apart board_c.ordinary.marks board_d.ordinary.marks
  pub different_capture : Apart board_c.capture board_d.capture
  pub different_events : (length (ordinary_events board_c run_c) ≡ 1) × (length (ordinary_events board_d run_d) ≡ 7)
  pub different_resets : (length (only is_reset run_c) ≡ 0) × (length (only is_reset run_d) ≡ 2)
  pub reply : (nth 1 (trusted_sights board_c run_c)).written ≡ completed (0x05 ∷ 0x18 ∷ []) 0x08 (0x5a ∷ 0x6b ∷ 0x7c ∷ 0x8d ∷ [])
  pub cleared : (nth 3 (trusted_sights board_c run_c)).written ≡ completed (0x05 ∷ 0x18 ∷ []) 0x08 (0xee ∷ 0xdd ∷ 0xcc ∷ 0xbb ∷ [])

-- and under edition 2, with a trusted code whose bit 7 is set: under edition 1 it would be a trusted packet more. First half: it is compared too, as the second
-- ordinary packet of both; it is answered 4, and leaves the register as it was. The registers differ while it comes, which nothing asks since it is not served
pub record FirstHalfBitesUnderTwo : Type 0 where
  pub editions : (edition_of board_a2 ≡ 2) × (edition_of board_b2 ≡ 2)
  pub well : WellDescribed board_a2 × WellDescribed board_b2
  pub states : ordinary_state board_a2 ≡ ordinary_state board_b2
  pub events : ordinary_events board_a2 run_a2 ≡ ordinary_events board_b2 run_b2
  pub registers : correlations board_a2 run_a2 ≡ correlations board_b2 run_b2
  pub ordinary_ones : (length (only (ordinary_packet 2) run_a2) ≡ 3) × (length (only (ordinary_packet 2) run_b2) ≡ 3)
  pub different_packets : (length (trusted_packets board_a2 run_a2) ≡ 1) × (length (trusted_packets board_b2 run_b2) ≡ 2)
  pub under_one : (length (trusted_packets board_a run_a2) ≡ 2) × (length (trusted_packets board_b run_b2) ≡ 3)
  pub registers_differ : Apart (correlations_at_each board_a2 run_a2) (correlations_at_each board_b2 run_b2)
  pub bit7 : ((nth 1 (ordinary_sights board_a2 run_a2)).number ≡ 4) × ((nth 1 (ordinary_sights board_a2 run_a2)).written ≡ [])
  pub reply : (nth 2 (ordinary_sights board_a2 run_a2)).written ≡ completed (0x05 ∷ 0x18 ∷ []) 0x09 (0x5a ∷ 0x6b ∷ 0x7c ∷ 0x8d ∷ [])

-- second half: one run has such a packet, a write, between a trusted write and a trusted read of one place, and the other has none. Under edition 1 it
-- would be a trusted packet, and the two runs would not have the same ones
pub record SecondHalfBitesUnderTwo : Type 0 where
  pub editions : (edition_of board_c2 ≡ 2) × (edition_of board_d2 ≡ 2)
  pub well : WellDescribed board_c2 × WellDescribed board_d2
  pub states : trusted_state board_c2 ≡ trusted_state board_d2
  pub packets : trusted_packets board_c2 run_c2 ≡ trusted_packets board_d2 run_d2
  pub captured : captures board_c2 run_c2 ≡ captures board_d2 run_d2
  pub different_events : (length (ordinary_events board_c2 run_c2) ≡ 1) × (length (ordinary_events board_d2 run_d2) ≡ 2)
  pub under_one : Apart (trusted_packets board_c run_c2) (trusted_packets board_d run_d2)
  pub reply : (nth 1 (trusted_sights board_c2 run_c2)).written ≡ completed (0x05 ∷ 0x18 ∷ []) 0x08 (0x5a ∷ 0x6b ∷ 0x7c ∷ 0x8d ∷ [])

apart : {A : Type 0} {x y : A} (tell : A → ℕ) → eqb (tell x) (tell y) ≡ false → Apart x y
apart tell differ e = eqb-false _ _ differ (ap tell e)

-- the bus that is captured, 0 where nothing is
abbrev bus : Capture → ℕ
bus Nothing = 0
bus (Number b device) = b

abbrev written : Sight → List ℕ
written s = s.written

-- ---- the boards are well described, and so the runs are computed without a look at that at each packet

well_a : WellDescribed board_a
unfolding computing
well_a = refl

well_b : WellDescribed board_b
unfolding computing
well_b = refl

well_c : WellDescribed board_c
unfolding computing
well_c = refl

well_d : WellDescribed board_d
unfolding computing
well_d = refl

well_a2 : WellDescribed board_a2
unfolding computing
well_a2 = refl

well_b2 : WellDescribed board_b2
unfolding computing
well_b2 = refl

well_c2 : WellDescribed board_c2
unfolding computing
well_c2 = refl

well_d2 : WellDescribed board_d2
unfolding computing
well_d2 = refl

registers_agree : (d e : Board) (es fs : List Event) → WellDescribed d → WellDescribed e → quick_registers d es ≡ quick_registers e fs
    → correlations d es ≡ correlations e fs
registers_agree d e es fs w u k = registers_quickly d es w ∙ k ∙ sym (registers_quickly e fs u)

captures_agree : (d e : Board) (es fs : List Event) → WellDescribed d → WellDescribed e → quick_captures d es ≡ quick_captures e fs
    → captures d es ≡ captures e fs
captures_agree d e es fs w u k = captures_quickly d es w ∙ k ∙ sym (captures_quickly e fs u)

-- the registers at the second ordinary packet of the runs under edition 2, by their third byte
registers_apart : Apart (quick_at_each board_a2 run_a2) (quick_at_each board_b2 run_b2)
unfolding computing
registers_apart = apart (λ l. byte (get_or l 1 []) 2) refl

-- the n-th sight of either kind
ordinary_nth : (n : ℕ) (d : Board) (es : List Event) → WellDescribed d → nth n (ordinary_sights d es) ≡ nth n (quick_ordinary d es)
ordinary_nth n d es w = ap (nth n) (ordinary_quickly d es w)

trusted_nth : (n : ℕ) (d : Board) (es : List Event) → WellDescribed d → nth n (trusted_sights d es) ≡ nth n (quick_trusted d es)
trusted_nth n d es w = ap (nth n) (trusted_quickly d es w)

pub first_half_bites : FirstHalfBites
unfolding computing
first_half_bites =
    record {
      well = (well_a, well_b);
      states = refl;
      events = refl;
      registers = registers_agree board_a board_b run_a run_b well_a well_b refl;
      different_b = apart (λ n. n) refl;
      different_bytes = apart (λ l. byte l 0x010) refl;
      different_rules = apart (λ l. byte l 0x010) refl;
      different_marks = apart (λ l. byte l 0x008) refl;
      different_packets = (refl, refl);
      reply = ap written (ordinary_nth 2 board_a run_a well_a);
      cleared = ap written (ordinary_nth 3 board_a run_a well_a);
    }

pub second_half_bites : SecondHalfBites
unfolding computing
second_half_bites =
    record {
      well = (well_c, well_d);
      states = refl;
      packets = refl;
      captured = captures_agree board_c board_d run_c run_d well_c well_d refl;
      different_a = apart (λ n. n) refl;
      different_b = apart (λ n. n) refl;
      different_bytes = apart (λ l. byte l 0x004) refl;
      different_rules = apart (λ l. byte l 0x004) refl;
      different_marks = apart (λ l. byte l 0x008) refl;
      different_capture = apart bus refl;
      different_events = (refl, refl);
      different_resets = (refl, refl);
      reply = ap written (trusted_nth 1 board_c run_c well_c);
      cleared = ap written (trusted_nth 3 board_c run_c well_c);
    }

pub first_half_bites_under_two : FirstHalfBitesUnderTwo
unfolding computing
first_half_bites_under_two =
    record {
      editions = (refl, refl);
      well = (well_a2, well_b2);
      states = refl;
      events = refl;
      registers = registers_agree board_a2 board_b2 run_a2 run_b2 well_a2 well_b2 refl;
      ordinary_ones = (refl, refl);
      different_packets = (refl, refl);
      under_one = (refl, refl);
      registers_differ = λ e. registers_apart (sym (at_each_quickly board_a2 run_a2 well_a2) ∙ e ∙ at_each_quickly board_b2 run_b2 well_b2);
      bit7 = let s = ordinary_nth 1 board_a2 run_a2 well_a2 in (ap (λ (x : Sight). x.number) s, ap written s);
      reply = ap written (ordinary_nth 2 board_a2 run_a2 well_a2);
    }

pub second_half_bites_under_two : SecondHalfBitesUnderTwo
unfolding computing
second_half_bites_under_two =
    record {
      editions = (refl, refl);
      well = (well_c2, well_d2);
      states = refl;
      packets = refl;
      captured = captures_agree board_c2 board_d2 run_c2 run_d2 well_c2 well_d2 refl;
      different_events = (refl, refl);
      under_one = apart length refl;
      reply = ap written (trusted_nth 1 board_c2 run_c2 well_c2);
    }
