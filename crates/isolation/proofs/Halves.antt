-- THEOREMS. Demand 3, both halves, for each function of a pair over the packets for it, of runs and of calls: the function goes the way of a board of one
-- function over the packets for it and the resets, and of such a board both halves hold. Assumes nothing.
use Prim.Native.Nat.{ℕ}
use mathlib.Core.Bool.{Bool, true, false, not, ◌&&◌, ◌||◌, or-false, false≢true}
use mathlib.Core.List.{List, [], ◌∷◌}
use mathlib.Core.Path.{◌≡◌, refl, sym, ap, ◌∙◌, subst}
use Rattle.board.specs.Description.{Space, Board, WellDescribed}
use Rattle.runs.specs.Run.{Event, packet, reset, next, after}
use Rattle.shares.specs.Kinds.{keep, only, along}
use Rattle.shares.specs.Views.{Sight, ordinary_packet, trusted_packet, ordinary_state, trusted_state, sight_at, register}
use Rattle.shares.proofs.FirstHalf.{first_half}
use Rattle.shares.proofs.SecondHalf.{second_half}
use Rattle.pair.specs.Pair.{Side, Pair, Role, Primary, Alternate, side, side_of, board, WellPaired, is_for}
use Rattle.pair.specs.Pair as pairs
use Rattle.pair.specs.Serving.{PairOutcome, served_by}
use Rattle.pair.proofs.Laws.{well_each, own_answers}
use Rattle.isolation.specs.Rows.{Row, events_in, end, pair_outcome, runs, calls}
use Rattle.isolation.specs.Views.{for_role, is_reset, ordinary_or_reset, trusted_for, events_that, values_at, sight_in}
use Rattle.isolation.specs.Statements.{FirstHalfOf, SecondHalfOf, PairFirstHalf, PairSecondHalf, met, BothHalvesOfPairCalls}
use Rattle.isolation.proofs.Project.{end_of, Owed, end_projected, values_projected}
use Rattle.isolation.proofs.Alone.{SameKinds, same_kinds, kinds_kept, for_same, move_for, Faithful, runs_faithful, calls_faithful}
use Rattle.isolation.proofs.Isolated.{Fit, moved, ends_alike, events_alike}

-- ---- kinds within kinds

only_within : {Element : Type 0} (own counts : Element → Bool) (xs : List Element) → only counts (only own xs) ≡ only (λ x. own x && counts x) xs
only_within own counts [] = refl
only_within {Element} own counts (x ∷ xs) = by (own x) (only_within own counts xs)
  where
    by : (b : Bool) → only counts (only own xs) ≡ only (λ y. own y && counts y) xs
        → only counts (keep b x (only own xs)) ≡ keep (b && counts x) x (only (λ y. own y && counts y) xs)
    by true ih = ap (keep (counts x) x) ih
    by false ih = ih

only_alike : {Element : Type 0} (k l : Element → Bool) → ((x : Element) → k x ≡ l x) → (xs : List Element) → only k xs ≡ only l xs
only_alike k l same [] = refl
only_alike k l same (x ∷ xs) = λ i. keep (same x i) x (only_alike k l same xs i)

-- ---- a board of one function

after_is : (b : Board) (es : List Event) → end_of next b es ≡ after b es
after_is b [] = refl
after_is b (e ∷ es) = after_is (next b e) es

-- what a packet for a function shows in the pair is what it shows alone
sight_of : (Side → Space) → Role → PairOutcome → Sight
sight_of space role o = record { number = o.number; written = o.written; bytes = (space (side role o.after)).bytes }

served_sight : (space : Side → Space) (role : Role) (pair : Pair) (bytes : List ℕ) (size : ℕ)
    → sight_of space role (served_by role pair bytes size) ≡ sight_at (λ b. space (side_of b)) (board role pair) (packet bytes size)
unfolding sight_of served_by
served_sight space Primary pair bytes size = refl
served_sight space Alternate pair bytes size = refl

module _ {Step : Type 0} (row : Row Step) (Fits : Pair → List Step → Type 0) (faithful : Faithful row Fits) (role : Role) (d : Pair) (wd : WellPaired d) where
  -- the packets for it, and the resets
  abbrev own : Event → Bool
  own e = for_role role d e || is_reset e

  abbrev FitHere : Pair → List Step → Type 0
  FitHere s xs = Fit row Fits faithful role d wd s xs

  move_own : (b : Board) (e : Event) → own e ≡ true → move_for d.edition (pairs.number_of role d) b e ≡ next b e
  move_own b (packet bytes size) k = rw (sym (or-false (is_for d.edition (pairs.number_of role d) bytes)) ∙ k)
  move_own b reset k = refl

  own_none : (e : Event) → own e ≡ false → for_role role d e ≡ false
  own_none (packet bytes size) k = sym (or-false (for_role role d (packet bytes size))) ∙ k
  own_none reset k = refl

  move_none : (b : Board) (e : Event) → own e ≡ false → move_for d.edition (pairs.number_of role d) b e ≡ b
  move_none b (packet bytes size) k = rw (own_none (packet bytes size) k)
  move_none b reset k = absurd (false≢true (sym k))

  owed : Owed row.next row.event next (board role) FitHere own
  owed =
      record {
        rest = λ s x xs f.
            (faithful.rest s x xs f.0, subst (SameKinds d) (sym (faithful.after s x xs f.0)) (kinds_kept d s (row.event x) f.1));
        moves = λ s x xs f k. moved row Fits faithful role d wd s x xs f ∙ move_own (board role s) (row.event x) k;
        stays = λ s x xs f k. moved row Fits faithful role d wd s x xs f ∙ move_none (board role s) (row.event x) k;
      }

  -- packets for it of a kind, within the packets for it and the resets
  module _ (kind : Event → Bool) (none : kind reset ≡ false) where
    abbrev its : Event → Bool
    its e = for_role role d e && kind e

    its_alike : (e : Event) → own e ≡ true → its e ≡ kind e
    its_alike (packet bytes size) k = ap (λ (b : Bool). b && kind (packet bytes size)) (sym (or-false (for_role role d (packet bytes size))) ∙ k)
    its_alike reset k = sym none

    its_inside : (e : Event) → own e ≡ false → its e ≡ false
    its_inside e k = ap (λ (b : Bool). b && kind e) (own_none e k)

    module _ (xs : List Step) (f : Fits d xs) where
      abbrev alone : List Event
      alone = only own (events_in row xs)

      values_alone : {Value : Type 0} (value : Pair → Step → Value) (modelled : Board → Event → Value)
          → ((s : Pair) (x : Step) (xs : List Step) → FitHere s (x ∷ xs) → its (row.event x) ≡ true → value s x ≡ modelled (board role s) (row.event x))
          → values_at row its value d xs ≡ along kind next modelled (board role d) alone
      values_alone value modelled same =
          values_projected row.next row.event next (board role) FitHere own owed its kind value modelled
          (record { alike = its_alike; inside = its_inside; same = same }) d xs (f, same_kinds d)
          ∙ ap (λ (es : List Event). along kind next modelled (board role d) (only own es)) (sym (events_alike row xs))

      cells_alone : {Cell : Type 0} (cell : Board → Event → Cell)
          → values_at row its (λ x step. cell (board role x) (row.event step)) d xs ≡ along kind next cell (board role d) alone
      cells_alone cell = values_alone (λ x step. cell (board role x) (row.event step)) cell (λ s x ys g h. refl)

      its_own : (e : Event) → its e ≡ true → for_role role d e ≡ true
      its_own e h = by (for_role role d e) h
        where
          by : (b : Bool) → (b && kind e) ≡ true → b ≡ true
          by true h = refl
          by false h = h

      sight_same : (space : Side → Space) (s : Pair) (e : Event) → WellPaired s → for_role role s e ≡ true
          → sight_of space role (pair_outcome s e) ≡ sight_at (λ b. space (side_of b)) (board role s) e
      sight_same space s (packet bytes size) w h = ap (sight_of space role) (own_answers s w bytes size role h) ∙ served_sight space role s bytes size
      sight_same space s reset w h = absurd (false≢true h)

      sights_alone : (space : Side → Space)
          → values_at row its (sight_in row space role) d xs ≡ along kind next (sight_at (λ b. space (side_of b))) (board role d) alone
      unfolding sight_of
      sights_alone space =
          values_alone (sight_in row space role) (sight_at (λ b. space (side_of b))) (λ s x ys g h.
          (λ i.
          record {
            number = faithful.number s x ys g.0 i;
            written = faithful.written s x ys g.0 i;
            bytes = (space (side role (faithful.after s x ys g.0 i))).bytes;
          })
          ∙ sight_same space s (row.event x) (faithful.well s (x ∷ ys) g.0) (for_same d s role (row.event x) g.1 ∙ its_own (row.event x) h))

  board_alone : (xs : List Step) → Fits d xs → board role (end row d xs) ≡ after (board role d) (only own (events_in row xs))
  board_alone xs f =
      ap (board role) (ends_alike row d xs)
      ∙ end_projected row.next row.event next (board role) FitHere own owed d xs (f, same_kinds d)
      ∙ ap (λ (es : List Event). end_of next (board role d) (only own es)) (sym (events_alike row xs))
      ∙ after_is (board role d) (only own (events_in row xs))

  events_alone : (counts common : Event → Bool) → ((e : Event) → common e ≡ (own e && counts e)) → (xs : List Step)
      → only counts (only own (events_in row xs)) ≡ events_that row common xs
  events_alone counts common same xs =
      only_within own counts (events_in row xs) ∙ only_alike (λ e. own e && counts e) common (λ e. sym (same e)) (events_in row xs)

-- ---- both halves

-- two rows, by a half of demand 3 for boards of one function
module _ {Step State Cell : Type 0} (row : Row Step) (Fits : Pair → List Step → Type 0) (faithful : Faithful row Fits) (kind common : ℕ → Event → Bool)
    (none : (n : ℕ) → kind n reset ≡ false) (state : Board → State) (cell : Board → Event → Cell) (space : Side → Space) (theirs : Role → Pair → Event → Bool)
    (same : (role : Role) (d : Pair) (e : Event) → theirs role d e ≡ ((for_role role d e || is_reset e) && common d.edition e)) where
  -- a half for boards, and for a function of each pair
  abbrev OfBoards : Type 0
  OfBoards =
      (d e : Board) (es fs : List Event) → WellDescribed d → WellDescribed e → state d ≡ state e
      → only (common d.description.edition) es ≡ only (common e.description.edition) fs
      → along (kind d.description.edition) next cell d es ≡ along (kind e.description.edition) next cell e fs
      → (along (kind d.description.edition) next (sight_at (λ b. space (side_of b))) d es
      ≡ along (kind e.description.edition) next (sight_at (λ b. space (side_of b))) e fs)
      × (state (after d es) ≡ state (after e fs))

  abbrev OfPairs : Type 0
  OfPairs =
      (role : Role) (d e : Pair) (xs ys : List Step) → Fits d xs → Fits e ys → state (board role d) ≡ state (board role e)
      → events_that row (theirs role d) xs ≡ events_that row (theirs role e) ys
      → values_at row (λ x. for_role role d x && kind d.edition x) (λ x step. cell (board role x) (row.event step)) d xs
      ≡ values_at row (λ x. for_role role e x && kind e.edition x) (λ x step. cell (board role x) (row.event step)) e ys
      → (values_at row (λ x. for_role role d x && kind d.edition x) (sight_in row space role) d xs
      ≡ values_at row (λ x. for_role role e x && kind e.edition x) (sight_in row space role) e ys)
      × (state (board role (end row d xs)) ≡ state (board role (end row e ys)))

  half_of_pairs : OfBoards → OfPairs
  half_of_pairs half role d e xs ys f g states events cells =
      let wd = faithful.well d xs f in
      let we = faithful.well e ys g in
      let r =
      half (board role d) (board role e) (only (own row Fits faithful role d wd) (events_in row xs)) (only (own row Fits faithful role e we) (events_in row ys))
      (well_each d wd role) (well_each e we role) states
      (events_alone row Fits faithful role d wd (common d.edition) (theirs role d) (same role d) xs
      ∙ events
      ∙ sym (events_alone row Fits faithful role e we (common e.edition) (theirs role e) (same role e) ys))
      (sym (cells_alone row Fits faithful role d wd (kind d.edition) (none d.edition) xs f cell)
      ∙ cells
      ∙ cells_alone row Fits faithful role e we (kind e.edition) (none e.edition) ys g cell) in (
        sights_alone row Fits faithful role d wd (kind d.edition) (none d.edition) xs f space
            ∙ r.0
            ∙ sym (sights_alone row Fits faithful role e we (kind e.edition) (none e.edition) ys g space),
        ap state (board_alone row Fits faithful role d wd xs f) ∙ r.1 ∙ sym (ap state (board_alone row Fits faithful role e we ys g)),
      )

ordinary_same : (role : Role) (d : Pair) (e : Event) → ordinary_or_reset role d e ≡ ((for_role role d e || is_reset e) && not (trusted_packet d.edition e))
ordinary_same role d e = refl

trusted_same : (role : Role) (d : Pair) (e : Event) → trusted_for role d e ≡ ((for_role role d e || is_reset e) && trusted_packet d.edition e)
trusted_same role d (packet bytes size) =
    ap (λ (b : Bool). b && trusted_packet d.edition (packet bytes size)) (sym (or-false (for_role role d (packet bytes size))))
trusted_same role d reset = refl

module _ {Step : Type 0} (row : Row Step) (Fits : Pair → List Step → Type 0) (faithful : Faithful row Fits) where
  pub first_half_of : FirstHalfOf row Fits
  first_half_of =
      half_of_pairs row Fits faithful ordinary_packet (λ n e. not (trusted_packet n e)) (λ n. refl) ordinary_state register (λ s. s.ordinary) ordinary_or_reset
      ordinary_same first_half

  pub second_half_of : SecondHalfOf row Fits
  second_half_of =
      half_of_pairs row Fits faithful trusted_packet trusted_packet (λ n. refl) trusted_state (λ b e. b.capture) (λ s. s.trusted) trusted_for trusted_same
      second_half

pub pair_first_half : PairFirstHalf
pair_first_half = first_half_of runs (λ s es. WellPaired s) runs_faithful

pub pair_second_half : PairSecondHalf
pair_second_half = second_half_of runs (λ s es. WellPaired s) runs_faithful

pub both_halves_of_pair_calls : BothHalvesOfPairCalls
both_halves_of_pair_calls = (first_half_of calls met calls_faithful, second_half_of calls met calls_faithful)
