-- THEOREM. A repeat that comes later, where nothing between could change a board: what is refused, is answered UR or reads. Of a board, and of a board of two functions.
-- Assumes nothing.
use Prim.Native.Nat.{ℕ}
use mathlib.Core.Bool.{Bool, true, false}
use mathlib.Core.List.{List, [], ◌∷◌}
use mathlib.Core.Logic.{◌⊎◌}
use mathlib.Core.Path.{◌≡◌, refl, ap, ◌∙◌, subst}
use Rattle.words.specs.Bytes.{byte}
use Rattle.packet.specs.declared.Status.TheVariants.{Unsupported}
use Rattle.packet.specs.Request.{request_of}
use Rattle.packet.specs.Completion.{status_byte}
use Rattle.board.specs.Description.{Board}
use Rattle.board.proofs.Lands.{others_keep}
use Rattle.pair.specs.Pair.{Pair, Role, Primary, Alternate, with_side, side_of, board, bad_pair, WellPaired, is_for_role}
use Rattle.pair.specs.Serving.{PairOutcome, serve_pair}
use Rattle.pair.proofs.Keeps.{neither_keeps}
use Rattle.runs.specs.Run.{Event, packet, reset, next}
use Rattle.retry.specs.Rows.{Row, end, answer_to, board_runs, pair_answer_to, pair_runs}
use Rattle.retry.specs.Repeats.{Quiet, AllQuiet, LaterOf}
use Rattle.retry.proofs.Again.{next_twice, first_serves, bad_keeps}
use Rattle.retry.proofs.Repeats.{answer_twice, pair_next, pair_next_twice, pair_answer_twice}

-- of any row whose quiet events keep the state, and whose events settle at once
module _ {State : Type 0} (row : Row State Event Event) (keeps : (s : State) (e : Event) → Quiet (row.answer s e) e → row.next s e ≡ s) where
  quiet_stays : (s : State) (events : List Event) → AllQuiet row s events → end row s events ≡ s
  quiet_stays s [] q = refl
  quiet_stays s (e ∷ events) q = ap (λ (x : State). end row x events) (keeps s e q.0) ∙ quiet_stays s events q.1

  later_of : ((s : State) (e : Event) → row.next (row.next s e) e ≡ row.next s e) → ((s : State) (e : Event) → row.answer (row.next s e) e ≡ row.answer s e) → LaterOf row
  later_of left same s e between q =
      let stays = quiet_stays (row.next s e) between q in (
        ap (λ (x : State). row.next x e) stays ∙ left s e,
        ap (λ (x : State). row.answer x e) stays ∙ same s e,
      )

-- ---- a board

board_keeps : (d : Board) (e : Event) → Quiet (answer_to d e) e → next d e ≡ d
board_keeps d (packet bytes size) q = others_keep d bytes size q
board_keeps d reset q = absurd q

pub later_twice : LaterOf board_runs
later_twice = later_of board_runs board_keeps next_twice answer_twice

-- ---- a board of two functions

unmoved : (role : Role) (pair : Pair) → with_side role pair (side_of (board role pair)) ≡ pair
unmoved Primary pair = refl
unmoved Alternate pair = refl

module _ (pair : Pair) (q : List ℕ) (n : ℕ) (quiet : Quiet (pair_answer_to pair (packet q n)) (packet q n)) where
  own_keeps : (role : Role) → WellPaired pair → is_for_role role pair q ≡ true → (serve_pair pair q n).after ≡ pair
  own_keeps role w h =
      let e = first_serves role pair w q q n n h h in
      let same = subst (λ (o : PairOutcome). (o.number ≡ 0 → ⊥) ⊎ ((byte o.written 6 ≡ status_byte Unsupported) ⊎ ((request_of q).writes ≡ false))) e quiet in
      ap (λ (o : PairOutcome). o.after) e
      ∙ ap (λ (b : Board). with_side role pair (side_of b)) (others_keep (board role pair) q n same)
      ∙ unmoved role pair

  quiet_by : (bad first second : Bool) → bad_pair pair ≡ bad → is_for_role Primary pair q ≡ first → is_for_role Alternate pair q ≡ second → (serve_pair pair q n).after ≡ pair
  quiet_by true first second b f s = bad_keeps pair q n b
  quiet_by false true second b f s = own_keeps Primary b f
  quiet_by false false true b f s = own_keeps Alternate b s
  quiet_by false false false b f s = neither_keeps pair q n b f s

pair_keeps : (pair : Pair) (e : Event) → Quiet (pair_answer_to pair e) e → pair_next pair e ≡ pair
pair_keeps pair (packet bytes size) q = quiet_by pair bytes size q _ _ _ refl refl refl
pair_keeps pair reset q = absurd q

pub pair_later_twice : LaterOf pair_runs
pair_later_twice = later_of pair_runs pair_keeps pair_next_twice pair_answer_twice
