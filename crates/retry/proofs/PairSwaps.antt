-- THEOREMS. The same two writes at a board of two functions: both are for one of its functions, which serves them as it would alone. Assumes nothing.
use Prim.Native.Nat.{ℕ, zero, suc}
use mathlib.Core.Bool.{Bool, true, false, not, ◌&&◌, cond}
use mathlib.Core.List.{List}
use mathlib.Core.Path.{◌≡◌, refl, sym, ap, ◌∙◌, subst}
use native.Mathlib.Omega.{arith}
use lib.Dec.{eqb, ltb}
use Rattle.words.specs.Bytes.{byte}
use Rattle.packet.specs.Request.{number_under, request_of}
use Rattle.packet.specs.declared.Status.TheVariants.{Success}
use Rattle.packet.specs.Completion.{status_byte, without_data}
use Rattle.board.specs.Access.{is_type1}
use Rattle.board.specs.Serving.{serve}
use Rattle.board.specs.Description.{Board}
use Rattle.pair.specs.Pair.{Pair, Role, Primary, Alternate, with_side, side_of, board, bad_pair, WellPaired, is_for, is_for_role}
use Rattle.pair.specs.Serving.{PairOutcome, answers_as, serve_pair}
use Rattle.pair.proofs.Laws.{for_asked, for_sound, neither_answers, by_neither}
use Rattle.pair.proofs.Keeps.{pair_serve_keeps}
use Rattle.pair.proofs.Refusals.{pair_outcome_number}
use Rattle.runs.specs.Run as run
use Rattle.runs.specs.Run.{Event, packet, reset}
use Rattle.retry.specs.Rows.{Answer, answer_to, pair_answer_to, pair_runs, pair_calls}
use Rattle.retry.specs.Writes.{SameWrite, Successful, SwapOf, BothEnables, board_fits, pair_fits, OneFor, JoinOf, JoinedOf}
use Rattle.retry.proofs.Writes.{Passed, passed}
use Rattle.retry.proofs.Again.{first_serves, second_serves}
use Rattle.retry.proofs.Rows.{Both, Swapping, Joining, Ones, Laws, swap_of, join_of, joined_of}
use Rattle.retry.proofs.Repeats.{pair_next, pair_runs_faithful, pair_calls_faithful}
use Rattle.retry.proofs.Swaps.{board_swaps, board_ones, board_joins}

-- ---- whom a successful packet is for

pair_passed : (pair : Pair) (p : List ℕ) (size : ℕ) → (serve_pair pair p size).number ≡ 0 → Passed (bad_pair pair) (ltb size 16) (number_under pair.edition p)
pair_passed pair p size n = passed (bad_pair pair) (ltb size 16) (number_under pair.edition p) (sym (pair_outcome_number pair p size) ∙ n)

-- what is for neither is not successful
neither_fails : (n : ℕ) (pair : Pair) (p : List ℕ) → (by_neither n pair p).number ≡ 0 → byte (by_neither n pair p).written 6 ≡ status_byte Success → ⊥
unfolding without_data
neither_fails zero pair p n s = omega (arith, s)
neither_fails (suc k) pair p n s = omega (arith, n)

record Owner (pair : Pair) (p : List ℕ) : Type 0 where
  well : WellPaired pair
  role : Role
  own : is_for_role role pair p ≡ true

owner : (pair : Pair) (p : List ℕ) (size : ℕ) → Successful (pair_answer_to pair (packet p size)) → Owner pair p
owner pair p size s = by _ _ refl refl
  where
    w : WellPaired pair
    w = (pair_passed pair p size s.0).well

    by : (first second : Bool) → is_for_role Primary pair p ≡ first → is_for_role Alternate pair p ≡ second → Owner pair p
    by true second f g = record { well = w; role = Primary; own = f }
    by false true f g = record { well = w; role = Alternate; own = g }
    by false false f g =
        let e = neither_answers pair w p size f g in
        absurd
        (neither_fails (cond (ltb size 16) 2 (number_under pair.edition p)) pair p (ap (λ (o : PairOutcome). o.number) (sym e) ∙ s.0) (ap (λ (o : PairOutcome). byte o.written 6) (sym e) ∙ s.2))

-- and so is another of the same type and function, without a fault
also_for : (edition number : ℕ) (p q : List ℕ) → (request_of p).target ≡ (request_of q).target → (request_of p).function ≡ (request_of q).function → number_under edition q ≡ 0
    → is_for edition number p ≡ true → is_for edition number q ≡ true
also_for edition number p q t f n h =
    for_asked edition number q (request_of q) n refl
    ∙ (λ i. not (is_type1 (sym t i)) && eqb (sym f i) number)
    ∙ sym (for_asked edition number p (request_of p) (for_sound edition number p h) refl)
    ∙ h

-- ---- from a state

pair_edition : (pair : Pair) (e : Event) → (pair_next pair e).edition ≡ pair.edition
pair_edition pair (packet bytes size) = (pair_serve_keeps pair bytes size).edition
pair_edition pair reset = refl

module _ (pair : Pair) (p q : List ℕ) (m n : ℕ) (same : SameWrite p q) (both : Both pair_next pair_answer_to packet pair_fits pair p q m n) where
  whose : Owner pair p
  whose = owner pair p m both.0

  abbrev role : Role
  role = whose.role

  also : is_for_role role pair q ≡ true
  also =
      also_for pair.edition _ p q same.target same.function
      (ap (λ (e : ℕ). number_under e q) (sym (pair_serve_keeps pair p m).edition) ∙ (pair_passed (serve_pair pair p m).after q n both.1.0).sound) whose.own

  -- the first, and the second after it
  one : serve_pair pair p m ≡ answers_as role pair (serve (board role pair) p m)
  one = first_serves role pair whose.well p q m n whose.own also

  two : serve_pair (serve_pair pair p m).after q n ≡ answers_as role pair (serve (serve (board role pair) p m).after q n)
  two = second_serves role pair whose.well p q m n whose.own also

  -- the second, and the first after it
  one_turned : serve_pair pair q n ≡ answers_as role pair (serve (board role pair) q n)
  one_turned = first_serves role pair whose.well q p n m also whose.own

  two_turned : serve_pair (serve_pair pair q n).after p m ≡ answers_as role pair (serve (serve (board role pair) q n).after p m)
  two_turned = second_serves role pair whose.well q p n m also whose.own

  seen : PairOutcome → Answer
  seen o = record { number = o.number; written = o.written }

  at_board : Both run.next answer_to packet board_fits (board role pair) p q m n
  unfolding seen
  at_board = (subst Successful (ap seen one) both.0, subst Successful (ap seen two) both.1)

  pub pair_swaps : Swapping pair_next pair_answer_to packet pair_fits pair p q m n
  unfolding seen
  pair_swaps =
      let w = board_swaps (board role pair) p q m n same at_board in
      record {
        left =
            ap (λ (o : PairOutcome). o.after) two_turned
            ∙ ap (λ (b : Board). with_side role pair (side_of b)) w.left
            ∙ ap (λ (o : PairOutcome). o.after) (sym two);
        first = ap seen two_turned ∙ w.first ∙ ap seen (sym one);
        second = ap seen one_turned ∙ w.second ∙ ap seen (sym two);
      }

  pub pair_ones : Ones pair_next pair_answer_to packet pair_fits pair p q m
  pair_ones =
      let o = board_ones (board role pair) p q m n same at_board in
      record { enables = o.enables; fits = o.fits; requester = o.requester; tag = o.tag }

  pub pair_joins : (r : List ℕ) (k : ℕ) → BothEnables p q r → pair_fits pair r k → Joining pair_next pair_answer_to packet pair_fits pair p q r m n k
  unfolding seen
  pair_joins r k enables fits =
      let w = board_joins (board role pair) p q m n same at_board r k enables fits in
      let own_r = also_for pair.edition _ p r enables.same.target enables.same.function fits.0 whose.own in
      let three = first_serves role pair whose.well r p k m own_r whose.own in
      record {
        left =
            ap (λ (o : PairOutcome). o.after) three ∙ ap (λ (b : Board). with_side role pair (side_of b)) w.left ∙ ap (λ (o : PairOutcome). o.after) (sym two);
        one = subst (λ (x : Answer). OneFor p r (pair_answer_to pair (packet p m)) x) (ap seen (sym three)) (subst (λ (x : Answer). OneFor p r x (answer_to (board role pair) (packet r k))) (ap seen (sym one)) w.one);
      }

pub pair_laws : Laws pair_next pair_answer_to packet pair_fits
pair_laws =
    record {
      swaps = pair_swaps;
      joins = λ pair p q r m n k same one fits both. pair_joins pair p q m n same both r k one fits;
      ones = pair_ones;
      kept = λ pair e r k fits. (ap (λ (x : ℕ). number_under x r) (pair_edition pair e) ∙ fits.0, fits.1);
    }

-- ---- in a row

pub swap_in_pair_runs : SwapOf pair_runs packet
swap_in_pair_runs = swap_of pair_next pair_answer_to packet pair_fits pair_runs pair_runs_faithful pair_laws

pub swap_in_pair_calls : SwapOf pair_calls packet
swap_in_pair_calls = swap_of pair_next pair_answer_to packet pair_fits pair_calls pair_calls_faithful pair_laws

pub join_in_pair_runs : JoinOf pair_runs packet pair_fits
join_in_pair_runs = join_of pair_next pair_answer_to packet pair_fits pair_runs pair_runs_faithful pair_laws

pub join_in_pair_calls : JoinOf pair_calls packet pair_fits
join_in_pair_calls = join_of pair_next pair_answer_to packet pair_fits pair_calls pair_calls_faithful pair_laws

pub joined_in_pair_runs : JoinedOf pair_runs packet
joined_in_pair_runs = joined_of pair_next pair_answer_to packet pair_fits pair_runs pair_runs_faithful pair_laws

pub joined_in_pair_calls : JoinedOf pair_calls packet
joined_in_pair_calls = joined_of pair_next pair_answer_to packet pair_fits pair_calls pair_calls_faithful pair_laws
