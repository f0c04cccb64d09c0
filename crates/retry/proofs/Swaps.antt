-- THEOREMS. Two successful writes of the same type, bus, device, function, offset and data, with different enables, may be swapped, and leave what one write with both
-- sets of enables leaves: spaces, capture, and what each is answered. Of runs and of calls of a board. Assumes nothing.
use Prim.Native.Nat.{ℕ}
use mathlib.Core.List.{List}
use mathlib.Core.Logic.{◌⊎◌, inl, inr}
use mathlib.Core.Path.{◌≡◌, refl, sym, ap, ◌∙◌}
use lib.Bits.{bit_or, or_self}
use borrow.Author.Tests.{ltb-false}
use Rattle.packet.specs.Fields.{data_of}
use Rattle.packet.specs.Request.{number_under, request_of}
use Rattle.packet.proofs.EnablesAside.{enabling}
use Rattle.board.specs.declared.Description.{Description}
use Rattle.board.specs.Description.{Board}
use Rattle.board.specs.Access.{after_write}
use Rattle.board.specs.Serving.{Outcome, serve}
use Rattle.board.proofs.Keeps.{serve_keeps}
use Rattle.runs.specs.Run.{Event, packet, reset, next}
use Rattle.retry.specs.Rows.{answer_to, board_runs, board_calls}
use Rattle.retry.specs.Writes.{SameWrite, SwapOf, RepeatOtherwise, BothEnables, board_fits, JoinOf, JoinedOf}
use Rattle.retry.proofs.Writes.{Able, able, able_serves, kept_or_able, unpoisoned, second_before, left_by_both, second_answer, turned, joined_turned, left_by_one, one_for}
use Rattle.retry.proofs.Rows.{Both, Swapping, Joining, Ones, Laws, swap_of, join_of, joined_of}
use Rattle.retry.proofs.One.{one_is}
use Rattle.retry.proofs.Repeats.{board_runs_faithful, board_calls_faithful}

-- ---- from a state

module _ (d : Board) (p q : List ℕ) (m n : ℕ) (same : SameWrite p q) (both : Both next answer_to packet board_fits d p q m n) where
  first_able : Able d p m
  first_able = able d p m same.writes.0 both.0

  second_able : Able d q n
  second_able = second_before d p q m n same first_able (able (serve d p m).after q n same.writes.1 both.1)

  pub board_swaps : Swapping next answer_to packet board_fits d p q m n
  board_swaps =
      record {
        left =
            left_by_both d q p n m (turned same) second_able first_able
            ∙ joined_turned d p q m n same
            ∙ sym (left_by_both d p q m n same first_able second_able);
        first = second_answer d q p n m (turned same) second_able first_able;
        second = sym (second_answer d p q m n same first_able second_able);
      }

  pub board_ones : Ones next answer_to packet board_fits d p q m
  board_ones =
      let one = one_is d.description.edition p q first_able.sound same.writes.0 (unpoisoned d p m first_able) in
      record { enables = one.both; fits = (one.sound, ltb-false m 16 first_able.room); requester = one.requester; tag = one.tag }

  pub board_joins : (r : List ℕ) (k : ℕ) → BothEnables p q r → board_fits d r k → Joining next answer_to packet board_fits d p q r m n k
  board_joins r k one fits =
      record {
        left = left_by_one d p q r m n k one fits first_able same ∙ sym (left_by_both d p q m n same first_able second_able);
        one = one_for d p q r m n k one fits first_able;
      }

pub edition_stays : (d : Board) (e : Event) → (next d e).description.edition ≡ d.description.edition
edition_stays d (packet bytes size) = ap (λ (x : Description). x.edition) (serve_keeps d bytes size).description
edition_stays d reset = refl

pub board_laws : Laws next answer_to packet board_fits
board_laws =
    record {
      swaps = board_swaps;
      joins = λ d p q r m n k same one fits both. board_joins d p q m n same both r k one fits;
      ones = board_ones;
      kept = λ d e r k fits. (ap (λ (x : ℕ). number_under x r) (edition_stays d e) ∙ fits.0, fits.1);
    }

-- a write again, with the same enables
module _ (d : Board) (p q : List ℕ) (m n : ℕ) (same : SameWrite p q) (enables : (request_of p).enables ≡ (request_of q).enables) (a : Able d p m) where
  otherwise : ((serve (serve d p m).after q n).after ≡ (serve d p m).after) ⊎ Able (serve d p m).after q n
      → (serve (serve d p m).after q n).after ≡ (serve d p m).after
  otherwise (inl kept) = kept
  otherwise (inr b) =
      left_by_both d p q m n same a (second_before d p q m n same a b)
      ∙ ap (λ (e : ℕ). after_write d (enabling (request_of p) e) (data_of p)) (ap (bit_or (request_of p).enables) (sym enables) ∙ or_self (request_of p).enables)
      ∙ ap (λ (o : Outcome). o.after) (sym (able_serves d p m a))

pub repeat_otherwise : RepeatOtherwise
repeat_otherwise d p q m n same enables first =
    otherwise d p q m n same enables (able d p m same.writes.0 first) (kept_or_able (serve d p m).after q n)

-- ---- in a row

pub swap_in_runs : SwapOf board_runs packet
swap_in_runs = swap_of next answer_to packet board_fits board_runs board_runs_faithful board_laws

pub swap_in_calls : SwapOf board_calls packet
swap_in_calls = swap_of next answer_to packet board_fits board_calls board_calls_faithful board_laws

pub join_in_runs : JoinOf board_runs packet board_fits
join_in_runs = join_of next answer_to packet board_fits board_runs board_runs_faithful board_laws

pub join_in_calls : JoinOf board_calls packet board_fits
join_in_calls = join_of next answer_to packet board_fits board_calls board_calls_faithful board_laws

pub joined_in_runs : JoinedOf board_runs packet
joined_in_runs = joined_of next answer_to packet board_fits board_runs board_runs_faithful board_laws

pub joined_in_calls : JoinedOf board_calls packet
joined_in_calls = joined_of next answer_to packet board_fits board_calls board_calls_faithful board_laws
