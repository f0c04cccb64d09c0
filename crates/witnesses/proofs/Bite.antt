-- The isolation says something: for either function as the unchanged one, two runs whose other functions differ in number, A, B, capture, bytes, rules and marks, and
-- in how many packets are for them, meet its premises; and in one, so by the theorem in both, the unchanged function's trusted read is answered with what was
-- written before, and its ordinary read after the reset likewise. A Type 1 request and a packet with a fault count as for neither, though they name the other
-- function. Assumes nothing.
use Prim.Native.Nat.{ℕ}
use mathlib.Core.Bool.{false}
use mathlib.Core.List.{List, [], ◌∷◌}
use mathlib.Core.Path.{◌≡◌, refl, ap}
use lib.Dec.{eqb}
use lib.ListN.{length, get_or}
use borrow.Author.Tests.{eqb-false}
use Rattle.words.specs.Bytes.{byte}
use Rattle.capture.specs.declared.Capture.{Capture}
use Rattle.capture.specs.declared.Capture.TheVariants.{Nothing, Number}
use Rattle.shares.specs.Kinds.{only}
use Rattle.shares.proofs.Bite.{Apart, completed}
use Rattle.pair.specs.Pair.{Pair, Role, Primary, Alternate, other, side, WellPaired}
use Rattle.pair.proofs.Computing.{pair_computing}
use Rattle.isolation.specs.Rows.{runs}
use Rattle.isolation.specs.Views.{OwnSight, for_role, not_for, events_that, own_sights, neither_numbers, neither_replies}
use Rattle.witnesses.proofs.Examples.{mine, another, changed_other, paired, with_pair_edition, one_run, other_run, one_run2, other_run2}

abbrev pub one : Role → Pair
one role = paired role mine another

abbrev pub two : Role → Pair
two role = paired role mine changed_other

-- under edition 2
abbrev pub two2 : Role → Pair
two2 role = with_pair_edition (one role) 2

-- the n-th of a list of sights, or of replies
abbrev pub nth_sight : ℕ → List OwnSight → OwnSight
nth_sight n l = get_or l n (record { number = 0; written = []; ordinary = []; trusted = [] })

abbrev pub nth_reply : ℕ → List (List ℕ) → List ℕ
nth_reply n l = get_or l n []

-- a completion without data that says UR, to the bench sheet's requester: the completer ID, the tag
abbrev pub refused_by : List ℕ → ℕ → List ℕ
refused_by id tag = 0x0a ∷ 0x00 ∷ 0x00 ∷ 0x00 ∷ get_or id 0 0 ∷ get_or id 1 0 ∷ 0x20 ∷ 0x04 ∷ 0x01 ∷ 0x00 ∷ tag ∷ 0x00 ∷ []

-- the statement: the premises, what differs all the same, and what the unchanged function is seen to answer
pub record IsolationBites (role : Role) : Type 0 where
  pub well : WellPaired (one role) × WellPaired (two role)
  pub editions : (one role).edition ≡ (two role).edition
  pub sides : side role (one role) ≡ side role (two role)
  pub events : events_that runs (not_for (other role) (one role)) one_run ≡ events_that runs (not_for (other role) (two role)) other_run
  pub different_number : Apart (side (other role) (one role)).function.number (side (other role) (two role)).function.number
  pub different_a : Apart (side (other role) (one role)).function.a (side (other role) (two role)).function.a
  pub different_b : Apart (side (other role) (one role)).function.b (side (other role) (two role)).function.b
  pub different_capture : Apart (side (other role) (one role)).capture (side (other role) (two role)).capture
  pub different_ordinary : Apart (side (other role) (one role)).ordinary.bytes (side (other role) (two role)).ordinary.bytes
  pub different_rules : Apart (side (other role) (one role)).ordinary.rules (side (other role) (two role)).ordinary.rules
  pub different_marks : Apart (side (other role) (one role)).ordinary.marks (side (other role) (two role)).ordinary.marks
  pub different_trusted : Apart (side (other role) (one role)).trusted.bytes (side (other role) (two role)).trusted.bytes
  pub different_trusted_rules : Apart (side (other role) (one role)).trusted.rules (side (other role) (two role)).trusted.rules
  pub different_trusted_marks : Apart (side (other role) (one role)).trusted.marks (side (other role) (two role)).trusted.marks
  pub different_packets : (length (only (for_role (other role) (one role)) one_run) ≡ 1) × (length (only (for_role (other role) (two role)) other_run) ≡ 4)
  pub own_packets : length (own_sights runs role (one role) one_run) ≡ 4
  pub trusted_reply : (nth_sight 2 (own_sights runs role (one role) one_run)).written ≡ completed (0x05 ∷ 0x1a ∷ []) 0x08 (0x5a ∷ 0x6b ∷ 0x7c ∷ 0x8d ∷ [])
  pub ordinary_reply : (nth_sight 3 (own_sights runs role (one role) one_run)).written ≡ completed (0x00 ∷ 0x02 ∷ []) 0x09 (0x11 ∷ 0x22 ∷ 0x33 ∷ 0x44 ∷ [])
  pub neither_ones : neither_numbers runs (one role) one_run ≡ 0 ∷ 0 ∷ 5 ∷ []

-- under edition 2 a packet with bit 7 has a fault, and counts as for neither though it names the other function: it is compared, and is answered 4. Under edition 1 it
-- is for the other function
pub record IsolationBitesUnderTwo (role : Role) : Type 0 where
  pub well : WellPaired (two2 role)
  pub events : events_that runs (not_for (other role) (two2 role)) one_run2 ≡ events_that runs (not_for (other role) (two2 role)) other_run2
  pub different_packets : (length (only (for_role (other role) (two2 role)) one_run2) ≡ 0) × (length (only (for_role (other role) (two2 role)) other_run2) ≡ 1)
  pub under_one : (length (only (for_role (other role) (one role)) one_run2) ≡ 1) × (length (only (for_role (other role) (one role)) other_run2) ≡ 2)
  pub neither_ones : neither_numbers runs (two2 role) one_run2 ≡ 4 ∷ []
  pub reply : (nth_sight 1 (own_sights runs role (two2 role) one_run2)).written ≡ completed (0x05 ∷ 0x1a ∷ []) 0x09 (0x11 ∷ 0x22 ∷ 0x33 ∷ 0x44 ∷ [])

-- where the primary is unchanged, what is for neither is answered with its completer ID; where it is changed, these replies differ
pub record RepliesBite : Type 0 where
  pub unchanged_primary : nth_reply 0 (neither_replies runs (one Primary) one_run) ≡ refused_by (0x05 ∷ 0x1a ∷ []) 0x09
  pub unchanged_primary_type1 : nth_reply 1 (neither_replies runs (one Primary) one_run) ≡ refused_by (0x05 ∷ 0x1a ∷ []) 0x09
  pub changed_primary : nth_reply 0 (neither_replies runs (one Alternate) one_run) ≡ refused_by (0x05 ∷ 0x1b ∷ []) 0x09
  pub changed_primary_too : nth_reply 0 (neither_replies runs (two Alternate) other_run) ≡ refused_by (0x05 ∷ 0x1c ∷ []) 0x09
  pub replies_differ : Apart (neither_replies runs (one Alternate) one_run) (neither_replies runs (two Alternate) other_run)

apart : {A : Type 0} {x y : A} (tell : A → ℕ) → eqb (tell x) (tell y) ≡ false → Apart x y
apart tell differ e = eqb-false _ _ differ (ap tell e)

abbrev bus : Capture → ℕ
bus Nothing = 0
bus (Number b device) = b

abbrev at4 : List ℕ → ℕ
at4 l = byte l 4

pub isolation_bites : (role : Role) → IsolationBites role
unfolding pair_computing
isolation_bites Primary =
    record {
      well = (refl, refl);
      editions = refl;
      sides = refl;
      events = refl;
      different_number = apart (λ n. n) refl;
      different_a = apart (λ n. n) refl;
      different_b = apart (λ n. n) refl;
      different_capture = apart bus refl;
      different_ordinary = apart at4 refl;
      different_rules = apart at4 refl;
      different_marks = apart (λ l. byte l 8) refl;
      different_trusted = apart at4 refl;
      different_trusted_rules = apart at4 refl;
      different_trusted_marks = apart (λ l. byte l 8) refl;
      different_packets = (refl, refl);
      own_packets = refl;
      trusted_reply = refl;
      ordinary_reply = refl;
      neither_ones = refl;
    }
isolation_bites Alternate =
    record {
      well = (refl, refl);
      editions = refl;
      sides = refl;
      events = refl;
      different_number = apart (λ n. n) refl;
      different_a = apart (λ n. n) refl;
      different_b = apart (λ n. n) refl;
      different_capture = apart bus refl;
      different_ordinary = apart at4 refl;
      different_rules = apart at4 refl;
      different_marks = apart (λ l. byte l 8) refl;
      different_trusted = apart at4 refl;
      different_trusted_rules = apart at4 refl;
      different_trusted_marks = apart (λ l. byte l 8) refl;
      different_packets = (refl, refl);
      own_packets = refl;
      trusted_reply = refl;
      ordinary_reply = refl;
      neither_ones = refl;
    }

pub isolation_bites_under_two : (role : Role) → IsolationBitesUnderTwo role
unfolding pair_computing
isolation_bites_under_two Primary =
    record { well = refl; events = refl; different_packets = (refl, refl); under_one = (refl, refl); neither_ones = refl; reply = refl }
isolation_bites_under_two Alternate =
    record { well = refl; events = refl; different_packets = (refl, refl); under_one = (refl, refl); neither_ones = refl; reply = refl }

pub replies_bite : RepliesBite
unfolding pair_computing
replies_bite =
    record {
      unchanged_primary = refl;
      unchanged_primary_type1 = refl;
      changed_primary = refl;
      changed_primary_too = refl;
      replies_differ = apart (λ l. byte (nth_reply 0 l) 5) refl;
    }
