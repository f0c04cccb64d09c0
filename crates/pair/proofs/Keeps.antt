-- What serving a pair keeps: the edition, of each function the number, the offsets, the rules and the marks, and a well-described pair well described. And what
-- becomes of one function: it is as it would be alone after a packet for it, and as it was after any other. Assumes nothing.
use Prim.Native.Nat.{ℕ, zero, suc}
use mathlib.Core.Bool.{Bool, true, false, cond}
use mathlib.Core.List.{List}
use mathlib.Core.Path.{◌≡◌, refl, sym, ap, ◌∙◌}
use lib.Dec.{ltb}
use lib.ListN.{length}
use Rattle.packet.specs.Request.{number_under}
use Rattle.board.specs.declared.Description.{Description}
use Rattle.board.specs.Description.{with_bytes, Board, badly_described}
use Rattle.board.specs.Serving.{serve}
use Rattle.board.proofs.Keeps.{serve_keeps, serve_keeps_well, reset_keeps_well}
use Rattle.pair.specs.declared.Function.{Function}
use Rattle.pair.specs.Pair.{Side, Pair, Role, Primary, Alternate, other, side, with_side, board_of, side_of, board, WellPaired, is_for_role}
use Rattle.pair.specs.Pair as pairs
use Rattle.pair.specs.Serving.{PairOutcome, served_by, delivered, pair_number, by_pair_number, serve_pair, pair_after_reset}
use Rattle.pair.specs.Promise.{Served, PairSeen, pair_shows, PairServes, pair_after_call}
use Rattle.pair.proofs.Laws.{well_each, well_apart, pair_well, own_answers, neither_answers, by_neither}

-- ---- any property of pairs that holds before, and after either function has served, holds after serving

module _ (P : Pair → Type 0) (pair : Pair) (p : List ℕ) (size : ℕ) (same : P pair)
    (served : (role : Role) → P (with_side role pair (side_of (serve (board role pair) p size).after))) where
  after_delivered : (first second : Bool) → is_for_role Primary pair p ≡ first → is_for_role Alternate pair p ≡ second → P (delivered pair p size).after
  unfolding served_by
  after_delivered true second f s = rw f (served Primary)
  after_delivered false true f s = rw (f, s) (served Alternate)
  after_delivered false false f s = rw (f, s) same

  after_number : (n : ℕ) → P (by_pair_number n pair p size).after
  after_number zero = after_delivered _ _ refl refl
  after_number (suc n) = same

  pub after_pair : P (serve_pair pair p size).after
  unfolding serve_pair
  after_pair = after_number (pair_number pair p size)

-- ---- the edition, the numbers, the offsets, the rules and the marks

pub record SideKeeping (s t : Side) : Type 0 where
  pub function : t.function ≡ s.function
  pub ordinary : t.ordinary ≡ with_bytes s.ordinary t.ordinary.bytes
  pub trusted : t.trusted ≡ with_bytes s.trusted t.trusted.bytes

pub record PairKeeping (pair after : Pair) : Type 0 where
  pub edition : after.edition ≡ pair.edition
  pub primary : SideKeeping pair.primary after.primary
  pub alternate : SideKeeping pair.alternate after.alternate

abbrev pub PairServeKeeps : Type 0
PairServeKeeps = (pair : Pair) (p : List ℕ) (size : ℕ) → PairKeeping pair (serve_pair pair p size).after

unchanged : (s : Side) → SideKeeping s s
unchanged s = record { function = refl; ordinary = refl; trusted = refl }

side_kept : (edition : ℕ) (s : Side) (p : List ℕ) (size : ℕ) → SideKeeping s (side_of (serve (board_of edition s) p size).after)
side_kept edition s p size =
    let k = serve_keeps (board_of edition s) p size in
    record {
      function = ap (λ (x : Description). record { number = x.function; a = x.a; b = x.b }) k.description;
      ordinary = k.ordinary;
      trusted = k.trusted;
    }

pub pair_serve_keeps : PairServeKeeps
pair_serve_keeps pair p size =
    after_pair (PairKeeping pair) pair p size
    (record { edition = refl; primary = unchanged pair.primary; alternate = unchanged pair.alternate }) by
  where
    by : (role : Role) → PairKeeping pair (with_side role pair (side_of (serve (board role pair) p size).after))
    by Primary = record { edition = refl; primary = side_kept pair.edition pair.primary p size; alternate = unchanged pair.alternate }
    by Alternate = record { edition = refl; primary = unchanged pair.primary; alternate = side_kept pair.edition pair.alternate p size }

-- what a caller holds after a call is the pair after serving
abbrev pub PairCallHolds : Type 0
PairCallHolds =
    (pair : Pair) (p reply : List ℕ) (r : Served) (po pt ao at after : List ℕ) → PairServes pair p reply r po pt ao at after
    → pair_after_call pair r.kept po pt ao at ≡ (serve_pair pair p (length reply)).after

pub pair_call_holds : PairCallHolds
unfolding pair_shows
pair_call_holds pair p reply r po pt ao at after e =
    let k = pair_serve_keeps pair p (length reply) in
    λ i.
    record {
      edition = sym k.edition i;
      primary =
          record {
            function = sym k.primary.function i;
            capture = (ap (λ (x : PairSeen). x.kept.primary) e) i;
            ordinary = (ap (λ (x : PairSeen). with_bytes pair.primary.ordinary x.primary_ordinary) e ∙ sym k.primary.ordinary) i;
            trusted = (ap (λ (x : PairSeen). with_bytes pair.primary.trusted x.primary_trusted) e ∙ sym k.primary.trusted) i;
          };
      alternate =
          record {
            function = sym k.alternate.function i;
            capture = (ap (λ (x : PairSeen). x.kept.alternate) e) i;
            ordinary = (ap (λ (x : PairSeen). with_bytes pair.alternate.ordinary x.alternate_ordinary) e ∙ sym k.alternate.ordinary) i;
            trusted = (ap (λ (x : PairSeen). with_bytes pair.alternate.trusted x.alternate_trusted) e ∙ sym k.alternate.trusted) i;
          };
    }

-- ---- a function as a board, after serving

-- a board of the pair's edition is that of its own side
pub same_board : (edition : ℕ) (d : Board) → d.description.edition ≡ edition → board_of edition (side_of d) ≡ d
same_board edition d e =
    λ i.
    record {
      description = record { function = d.description.function; a = d.description.a; b = d.description.b; edition = sym e i };
      capture = d.capture;
      ordinary = d.ordinary;
      trusted = d.trusted;
    }

served_board : (edition : ℕ) (s : Side) (p : List ℕ) (size : ℕ)
    → board_of edition (side_of (serve (board_of edition s) p size).after) ≡ (serve (board_of edition s) p size).after
served_board edition s p size =
    same_board edition (serve (board_of edition s) p size).after
    (ap (λ (x : Description). x.edition) (serve_keeps (board_of edition s) p size).description)

-- a packet for a function: as alone
pub own_board : (role : Role) (pair : Pair) (p : List ℕ) (size : ℕ) → WellPaired pair → is_for_role role pair p ≡ true
    → board role (serve_pair pair p size).after ≡ (serve (board role pair) p size).after
unfolding served_by
own_board Primary pair p size w h = rw (own_answers pair w p size Primary h) (served_board pair.edition pair.primary p size)
own_board Alternate pair p size w h = rw (own_answers pair w p size Alternate h) (served_board pair.edition pair.alternate p size)

-- any other packet: as it was
neither_after : (n : ℕ) (pair : Pair) (p : List ℕ) → (by_neither n pair p).after ≡ pair
neither_after zero pair p = refl
neither_after (suc n) pair p = refl

beside : (role : Role) (pair : Pair) (s : Side) → side role (with_side (other role) pair s) ≡ side role pair
beside Primary pair s = refl
beside Alternate pair s = refl

pub neither_keeps : (pair : Pair) (p : List ℕ) (size : ℕ) → WellPaired pair → is_for_role Primary pair p ≡ false → is_for_role Alternate pair p ≡ false
    → (serve_pair pair p size).after ≡ pair
neither_keeps pair p size w h k = ap (λ (o : PairOutcome). o.after) (neither_answers pair w p size h k) ∙ neither_after (cond (ltb size 16) 2 (number_under pair.edition p)) pair p

pub other_keeps : (role : Role) (pair : Pair) (p : List ℕ) (size : ℕ) → WellPaired pair → is_for_role role pair p ≡ false
    → side role (serve_pair pair p size).after ≡ side role pair
unfolding served_by
other_keeps role pair p size w h = by role _ h refl
  where
    by : (role : Role) (b : Bool) → is_for_role role pair p ≡ false → is_for_role (other role) pair p ≡ b → side role (serve_pair pair p size).after ≡ side role pair
    by role true h o = rw (own_answers pair w p size (other role) o) (beside role pair _)
    by Primary false h o = ap (λ (x : Pair). x.primary) (neither_keeps pair p size w h o)
    by Alternate false h o = ap (λ (x : Pair). x.alternate) (neither_keeps pair p size w o h)

-- ---- well described

-- a pair of well-described functions with the numbers as they were
numbers_kept : (role : Role) (pair : Pair) (p : List ℕ) (size : ℕ) → pairs.number_of role (serve_pair pair p size).after ≡ pairs.number_of role pair
numbers_kept Primary pair p size = ap (λ (x : Function). x.number) (pair_serve_keeps pair p size).primary.function
numbers_kept Alternate pair p size = ap (λ (x : Function). x.number) (pair_serve_keeps pair p size).alternate.function

pub pair_serve_keeps_well : (pair : Pair) (p : List ℕ) (size : ℕ) → WellPaired pair → WellPaired (serve_pair pair p size).after
pair_serve_keeps_well pair p size w =
    pair_well (serve_pair pair p size).after (λ role. each role _ refl)
    (λ e. well_apart pair w (sym (numbers_kept Primary pair p size) ∙ e ∙ numbers_kept Alternate pair p size))
  where
    kept : (role : Role) → is_for_role role pair p ≡ false → board role (serve_pair pair p size).after ≡ board role pair
    kept role h = λ i. board_of ((pair_serve_keeps pair p size).edition i) (other_keeps role pair p size w h i)

    each : (role : Role) (b : Bool) → is_for_role role pair p ≡ b → badly_described (board role (serve_pair pair p size).after) ≡ false
    each role true h = rw (own_board role pair p size w h) (serve_keeps_well (board role pair) p size (well_each pair w role))
    each role false h = ap badly_described (kept role h) ∙ well_each pair w role

pub pair_reset_keeps_well : (pair : Pair) → WellPaired pair → WellPaired (pair_after_reset pair)
pair_reset_keeps_well pair w = pair_well (pair_after_reset pair) each (λ e. well_apart pair w e)
  where
    each : (role : Role) → badly_described (board role (pair_after_reset pair)) ≡ false
    each Primary = reset_keeps_well (board Primary pair) (well_each pair w Primary)
    each Alternate = reset_keeps_well (board Alternate pair) (well_each pair w Alternate)
