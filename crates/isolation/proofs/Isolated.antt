-- THEOREM. The isolation of document 02, 11/13: packets for one function, changed at will, change nothing that is shown of the other. Both directions, of runs and
-- of calls, are one proof: what a row shows of the unchanged function is what that function shows by itself over the events that are not for the other, and these
-- are the same in both. Assumes nothing.
use Prim.Native.Nat.{ℕ, zero, suc}
use mathlib.Core.Bool.{Bool, true, false, not, ◌&&◌, cond, and-true, and-false, false≢true}
use mathlib.Core.List.{List, [], ◌∷◌}
use mathlib.Core.Path.{◌≡◌, refl, sym, ap, ◌∙◌, subst}
use borrow.Author.Tests.{not-true, not-false}
use lib.Dec.{ltb}
use Rattle.packet.specs.declared.Status.TheVariants.{Unsupported}
use Rattle.packet.specs.Request.{number_under, request_of}
use Rattle.packet.specs.Completion.{without_data}
use Rattle.board.specs.Description.{Board}
use Rattle.board.specs.Serving.{serve, completer_of}
use Rattle.runs.specs.Run.{Event, packet, reset}
use Rattle.shares.specs.Kinds.{only, along}
use Rattle.pair.specs.Pair.{Side, Pair, Role, Primary, Alternate, other, side, side_of, board_of, board, WellPaired, is_for, is_for_role}
use Rattle.pair.specs.Pair as pairs
use Rattle.pair.specs.Serving.{PairOutcome, served_by}
use Rattle.pair.proofs.Laws.{by_neither, not_other, own_answers, neither_answers}
use Rattle.isolation.specs.Rows.{Row, events_in, end, pair_outcome, runs, calls}
use Rattle.isolation.specs.Views.{OwnSight, for_role, for_neither, not_for, own_sight, own_sights, sides_but, neither_numbers, neither_replies}
use Rattle.isolation.specs.Statements.{IsolationOf, Isolation, met, IsolationOfCalls}
use Rattle.isolation.proofs.Project.{events_of, end_of, Owed, Shown, end_projected, values_projected}
use Rattle.isolation.proofs.Alone.{SameKinds, same_kinds, kinds_kept, for_same, move_for, goes_alone, Faithful, runs_faithful, calls_faithful}

-- ---- what a function shows by itself, of the edition and of its number

abbrev for_it : ℕ → ℕ → Event → Bool
for_it edition number (packet bytes size) = is_for edition number bytes
for_it edition number reset = false

-- a packet that is not for it
abbrev not_for_it : ℕ → ℕ → Event → Bool
not_for_it edition number (packet bytes size) = not (is_for edition number bytes)
not_for_it edition number reset = false

abbrev sight_alone : Board → Event → OwnSight
sight_alone b (packet bytes size) =
    let o = serve b bytes size in record { number = o.number; written = o.written; ordinary = o.after.ordinary.bytes; trusted = o.after.trusted.bytes }
sight_alone b reset = record { number = 0; written = []; ordinary = b.ordinary.bytes; trusted = b.trusted.bytes }

-- the number of a packet that is not for it, and the reply with its ID
abbrev number_alone : ℕ → Event → ℕ
number_alone edition (packet bytes size) = cond (ltb size 16) 2 (number_under edition bytes)
number_alone edition reset = 0

abbrev replied_as : ℕ → Board → List ℕ → List ℕ
replied_as zero b bytes = without_data (completer_of b) Unsupported (request_of bytes).requester (request_of bytes).tag
replied_as (suc n) b bytes = []

abbrev reply_alone : ℕ → Board → Event → List ℕ
reply_alone edition b (packet bytes size) = replied_as (cond (ltb size 16) 2 (number_under edition bytes)) b bytes
reply_alone edition b reset = []

-- ---- a packet for neither, in the pair

neither_number : (n : ℕ) (pair : Pair) (bytes : List ℕ) → (by_neither n pair bytes).number ≡ n
neither_number zero pair bytes = refl
neither_number (suc n) pair bytes = refl

neither_written : (n : ℕ) (pair : Pair) (bytes : List ℕ) → (by_neither n pair bytes).written ≡ replied_as n (board Primary pair) bytes
neither_written zero pair bytes = refl
neither_written (suc n) pair bytes = refl

both_false : (a b : Bool) → (not a && not b) ≡ true → (a ≡ false) × (b ≡ false)
both_false false false h = (refl, refl)
both_false false true h = absurd (false≢true h)
both_false true b h = absurd (false≢true h)

abbrev sight_of : Role → PairOutcome → OwnSight
sight_of role o =
    record { number = o.number; written = o.written; ordinary = (side role o.after).ordinary.bytes; trusted = (side role o.after).trusted.bytes }

module _ (pair : Pair) (w : WellPaired pair) where
  number_alone_lem : (e : Event) → for_neither pair e ≡ true → (pair_outcome pair e).number ≡ number_alone pair.edition e
  number_alone_lem (packet bytes size) h =
      let k = both_false _ _ h in
      ap (λ (o : PairOutcome). o.number) (neither_answers pair w bytes size k.0 k.1)
      ∙ neither_number (cond (ltb size 16) 2 (number_under pair.edition bytes)) pair bytes
  number_alone_lem reset h = refl

  reply_alone_lem : (e : Event) → for_neither pair e ≡ true → (pair_outcome pair e).written ≡ reply_alone pair.edition (board Primary pair) e
  reply_alone_lem (packet bytes size) h =
      let k = both_false _ _ h in
      ap (λ (o : PairOutcome). o.written) (neither_answers pair w bytes size k.0 k.1)
      ∙ neither_written (cond (ltb size 16) 2 (number_under pair.edition bytes)) pair bytes
  reply_alone_lem reset h = refl

  -- a packet for it
  served_sight : (role : Role) (bytes : List ℕ) (size : ℕ) → sight_of role (served_by role pair bytes size) ≡ sight_alone (board role pair) (packet bytes size)
  unfolding served_by
  served_sight Primary bytes size = refl
  served_sight Alternate bytes size = refl

  sight_alone_lem : (role : Role) (e : Event) → for_role role pair e ≡ true → sight_of role (pair_outcome pair e) ≡ sight_alone (board role pair) e
  sight_alone_lem role (packet bytes size) h = ap (sight_of role) (own_answers pair w bytes size role h) ∙ served_sight role bytes size
  sight_alone_lem role reset h = absurd (false≢true h)

-- ---- a faithful row, as the unchanged function sees it

-- what a row has in common with its events
pub ends_alike : {Step : Type 0} (row : Row Step) (s : Pair) (xs : List Step) → end row s xs ≡ end_of row.next s xs
ends_alike row s [] = refl
ends_alike row s (x ∷ xs) = ends_alike row (row.next s x) xs

pub events_alike : {Step : Type 0} (row : Row Step) (xs : List Step) → events_in row xs ≡ events_of row.event xs
events_alike row [] = refl
events_alike row (x ∷ xs) = ap (λ (es : List Event). row.event x ∷ es) (events_alike row xs)

module _ {Step : Type 0} (row : Row Step) (Fits : Pair → List Step → Type 0) (faithful : Faithful row Fits) (unchanged : Role) (d : Pair) (wd : WellPaired d) where
  abbrev edition : ℕ
  edition = d.edition

  abbrev number : ℕ
  number = pairs.number_of unchanged d

  abbrev move : Board → Event → Board
  move = move_for edition number

  abbrev kept : Event → Bool
  kept = not_for (other unchanged) d

  -- a row of the pair, with the kinds that it started with
  abbrev pub Fit : Pair → List Step → Type 0
  Fit s xs = Fits s xs × SameKinds d s

  pub moved : (s : Pair) (x : Step) (xs : List Step) → Fit s (x ∷ xs) → board unchanged (row.next s x) ≡ move (board unchanged s) (row.event x)
  moved s x xs f =
      ap (board unchanged) (faithful.after s x xs f.0)
      ∙ goes_alone unchanged s (row.event x) (faithful.well s (x ∷ xs) f.0)
      ∙ (λ i. move_for (f.1.edition i) (f.1.numbers unchanged i) (board unchanged s) (row.event x))

  -- a packet for the other is not for it
  not_its : (e : Event) → kept e ≡ false → for_role unchanged d e ≡ false
  not_its (packet bytes size) k = back unchanged (not_other d wd bytes size (other unchanged) (not-false _ k))
    where
      back : (role : Role) → is_for_role (other (other role)) d bytes ≡ false → is_for_role role d bytes ≡ false
      back Primary h = h
      back Alternate h = h
  not_its reset k = refl

  unmoved : (b : Board) (e : Event) → kept e ≡ false → move b e ≡ b
  unmoved b (packet bytes size) k = rw (not_its (packet bytes size) k)
  unmoved b reset k = absurd (false≢true (sym k))

  owed : Owed row.next row.event move (board unchanged) Fit kept
  owed =
      record {
        rest = λ s x xs f.
            (faithful.rest s x xs f.0, subst (SameKinds d) (sym (faithful.after s x xs f.0)) (kinds_kept d s (row.event x) f.1));
        moves = λ s x xs f k. moved s x xs f;
        stays = λ s x xs f k. moved s x xs f ∙ unmoved (board unchanged s) (row.event x) k;
      }

  -- what is shown, and what stands for it where the function is by itself
  kind_of : (s : Pair) (role : Role) (e : Event) → SameKinds d s → for_role role d e ≡ true → for_role role s e ≡ true
  kind_of s role e k h = for_same d s role e k ∙ h

  neither_same : (s : Pair) (e : Event) → SameKinds d s → for_neither d e ≡ true → for_neither s e ≡ true
  neither_same s (packet bytes size) k h =
      (λ i. not (for_same d s Primary (packet bytes size) k i) && not (for_same d s Alternate (packet bytes size) k i)) ∙ h
  neither_same s reset k h = h

  -- among the kept events those for neither are the packets that are not for it
  neither_alike : (role : Role) (e : Event) → not_for (other role) d e ≡ true → for_neither d e ≡ not_for_it d.edition (pairs.number_of role d) e
  neither_alike Primary (packet bytes size) k =
      ap (λ (b : Bool). not (is_for_role Primary d bytes) && not b) (not-true (is_for_role Alternate d bytes) k) ∙ and-true (not (is_for_role Primary d bytes))
  neither_alike Alternate (packet bytes size) k = ap (λ (b : Bool). not b && not (is_for_role Alternate d bytes)) (not-true (is_for_role Primary d bytes) k)
  neither_alike role reset k = refl

  neither_inside : (role : Role) (e : Event) → not_for (other role) d e ≡ false → for_neither d e ≡ false
  neither_inside Primary (packet bytes size) k =
      ap (λ (b : Bool). not (is_for_role Primary d bytes) && not b) (not-false (is_for_role Alternate d bytes) k) ∙ and-false (not (is_for_role Primary d bytes))
  neither_inside Alternate (packet bytes size) k = ap (λ (b : Bool). not b && not (is_for_role Alternate d bytes)) (not-false (is_for_role Primary d bytes) k)
  neither_inside role reset k = refl

  its_alike : (e : Event) → for_role unchanged d e ≡ for_it edition number e
  its_alike (packet bytes size) = refl
  its_alike reset = refl

  own_shown : Shown row.next row.event move (board unchanged) Fit kept owed (for_role unchanged d) (for_it edition number) (own_sight row unchanged) sight_alone
  own_shown =
      record {
        alike = λ e k. its_alike e;
        inside = not_its;
        same = λ s x xs f h.
            let w = faithful.well s (x ∷ xs) f.0 in
            (λ i.
            record {
              number = faithful.number s x xs f.0 i;
              written = faithful.written s x xs f.0 i;
              ordinary = (side unchanged (faithful.after s x xs f.0 i)).ordinary.bytes;
              trusted = (side unchanged (faithful.after s x xs f.0 i)).trusted.bytes;
            })
            ∙ sight_alone_lem s w unchanged (row.event x) (kind_of s unchanged (row.event x) f.1 h);
      }

  numbers_shown : Shown row.next row.event move (board unchanged) Fit kept owed (for_neither d) (not_for_it edition number) row.number (λ b e. number_alone edition e)
  numbers_shown =
      record {
        alike = neither_alike unchanged;
        inside = neither_inside unchanged;
        same = λ s x xs f h.
            faithful.number s x xs f.0
            ∙ number_alone_lem s (faithful.well s (x ∷ xs) f.0) (row.event x) (neither_same s (row.event x) f.1 h)
            ∙ ap (λ (n : ℕ). number_alone n (row.event x)) f.1.edition;
      }

  replies_shown : unchanged ≡ Primary
      → Shown row.next row.event move (board unchanged) Fit kept owed (for_neither d) (not_for_it edition number) row.written (reply_alone edition)
  replies_shown primary =
      record {
        alike = neither_alike unchanged;
        inside = neither_inside unchanged;
        same = λ s x xs f h.
            faithful.written s x xs f.0
            ∙ reply_alone_lem s (faithful.well s (x ∷ xs) f.0) (row.event x) (neither_same s (row.event x) f.1 h)
            ∙ (λ i. reply_alone (f.1.edition i) (board (sym primary i) s) (row.event x));
      }

  sides_shown : Shown row.next row.event move (board unchanged) Fit kept owed kept (λ e. true) (λ x step. side unchanged (row.next x step))
      (λ b e. side_of (move b e))
  sides_shown = record { alike = λ e k. k; inside = λ e k. k; same = λ s x xs f h. ap side_of (moved s x xs f) }

  -- THEOREM. What a row shows of the unchanged function is what it shows by itself.
  module _ (xs : List Step) (f : Fits d xs) where
    abbrev alone : List Event
    alone = only kept (events_in row xs)

    abbrev fit : Fit d xs
    fit = (f, same_kinds d)

    by_events : {A : Type 0} (F : List Event → A) → F (only kept (events_of row.event xs)) ≡ F alone
    by_events F = ap (λ (es : List Event). F (only kept es)) (sym (events_alike row xs))

    pub own_alone : own_sights row unchanged d xs ≡ along (for_it edition number) move sight_alone (board unchanged d) alone
    own_alone =
        values_projected row.next row.event move (board unchanged) Fit kept owed (for_role unchanged d) (for_it edition number) (own_sight row unchanged) sight_alone
        own_shown d xs fit
        ∙ by_events (along (for_it edition number) move sight_alone (board unchanged d))

    pub numbers_alone : neither_numbers row d xs ≡ along (not_for_it edition number) move (λ b e. number_alone edition e) (board unchanged d) alone
    numbers_alone =
        values_projected row.next row.event move (board unchanged) Fit kept owed (for_neither d) (not_for_it edition number) row.number
        (λ b e. number_alone edition e) numbers_shown d xs fit
        ∙ by_events (along (not_for_it edition number) move (λ b e. number_alone edition e) (board unchanged d))

    pub replies_alone : unchanged ≡ Primary → neither_replies row d xs ≡ along (not_for_it edition number) move (reply_alone edition) (board unchanged d) alone
    replies_alone primary =
        values_projected row.next row.event move (board unchanged) Fit kept owed (for_neither d) (not_for_it edition number) row.written
        (reply_alone edition) (replies_shown primary) d xs fit
        ∙ by_events (along (not_for_it edition number) move (reply_alone edition) (board unchanged d))

    pub sides_alone : sides_but row (other unchanged) unchanged d xs ≡ along (λ e. true) move (λ b e. side_of (move b e)) (board unchanged d) alone
    sides_alone =
        values_projected row.next row.event move (board unchanged) Fit kept owed kept (λ e. true) (λ x step. side unchanged (row.next x step))
        (λ b e. side_of (move b e)) sides_shown d xs fit
        ∙ by_events (along (λ e. true) move (λ b e. side_of (move b e)) (board unchanged d))

    pub end_alone : side unchanged (end row d xs) ≡ side_of (end_of move (board unchanged d) alone)
    end_alone =
        ap (side unchanged) (ends_alike row d xs)
        ∙ ap side_of (end_projected row.next row.event move (board unchanged) Fit kept owed d xs fit)
        ∙ by_events (λ es. side_of (end_of move (board unchanged d) es))

-- ---- two rows

module _ {Step : Type 0} (row : Row Step) (Fits : Pair → List Step → Type 0) (faithful : Faithful row Fits) where
  pub isolated_of : IsolationOf row Fits
  isolated_of u d e xs ys f g editions sides events =
      let wd = faithful.well d xs f in
      let we = faithful.well e ys g in
      let number : pairs.number_of u d ≡ pairs.number_of u e = ap (λ (s : Side). s.function.number) sides in
      let b : board u d ≡ board u e = λ i. board_of (editions i) (sides i) in
      record {
        own =
            own_alone row Fits faithful u d wd xs f
            ∙ (λ i. along (for_it (editions i) (number i)) (move_for (editions i) (number i)) sight_alone (b i) (events i))
            ∙ sym (own_alone row Fits faithful u e we ys g);
        numbers =
            numbers_alone row Fits faithful u d wd xs f
            ∙ (λ i. along (not_for_it (editions i) (number i)) (move_for (editions i) (number i)) (λ b x. number_alone (editions i) x) (b i) (events i))
            ∙ sym (numbers_alone row Fits faithful u e we ys g);
        replies = λ p.
            replies_alone row Fits faithful u d wd xs f p
            ∙ (λ i. along (not_for_it (editions i) (number i)) (move_for (editions i) (number i)) (reply_alone (editions i)) (b i) (events i))
            ∙ sym (replies_alone row Fits faithful u e we ys g p);
        sides =
            sides_alone row Fits faithful u d wd xs f
            ∙ (λ i. along (λ x. true) (move_for (editions i) (number i)) (λ b x. side_of (move_for (editions i) (number i) b x)) (b i) (events i))
            ∙ sym (sides_alone row Fits faithful u e we ys g);
        at_end =
            end_alone row Fits faithful u d wd xs f
            ∙ (λ i. side_of (end_of (move_for (editions i) (number i)) (b i) (events i)))
            ∙ sym (end_alone row Fits faithful u e we ys g);
      }

pub isolated : Isolation
isolated = isolated_of runs (λ s es. WellPaired s) runs_faithful

pub isolated_calls : IsolationOfCalls
isolated_calls = isolated_of calls met calls_faithful
