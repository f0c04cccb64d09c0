-- Two runs of well-described boards, for any kind of events under an edition, view and shared value: if other events keep the view and an event of the kind
-- comes out the same from boards that are alike, then both runs show the same and end with equal views. Both halves of demand 3 are this.
-- Assumes nothing.
use mathlib.Core.Bool.{Bool, true, false}
use mathlib.Core.List.{List, [], ◌∷◌}
use mathlib.Core.Path.{◌≡◌, refl, sym, ap, ◌∙◌}
use Prim.Native.Nat.{ℕ}
use Rattle.board.specs.declared.Description.{Description}
use Rattle.board.specs.Description.{Space, Board, WellDescribed}
use Rattle.board.proofs.Keeps.{serve_keeps}
use Rattle.runs.specs.Run.{Event, packet, reset, next, after}
use Rattle.runs.proofs.Calls.{run_keeps_well}
use Rattle.shares.specs.Kinds.{only, along}
use Rattle.shares.specs.Views.{Sight, edition_of, outcome, sight_at}
use Rattle.shares.proofs.TwoRuns.{Machine, Laws, final, two_runs}
use Rattle.shares.proofs.Alike.{Same}

-- the edition stays
pub edition_kept : (d : Board) (x : Event) → edition_of (next d x) ≡ edition_of d
edition_kept d (packet bytes size) = ap (λ (x : Description). x.edition) (serve_keeps d bytes size).description
edition_kept d reset = refl

-- under an edition, the events that both runs have in common and those at which something is asked and shown; the view and the space within it; and what
-- is asked at an event
module _ {View Cell : Type 0} (mine seen : ℕ → Event → Bool) (view : Board → View) (space : View → Space) (cell : Board → Event → Cell) where
  abbrev shown_bytes : Board → Event → Sight
  shown_bytes = sight_at (λ d. space (view d))

  -- the statement
  abbrev pub BoardsAgree : Type 0
  BoardsAgree =
      (d e : Board) (es fs : List Event) → WellDescribed d → WellDescribed e → view d ≡ view e
      → only (mine (edition_of d)) es ≡ only (mine (edition_of e)) fs
      → along (seen (edition_of d)) next cell d es ≡ along (seen (edition_of e)) next cell e fs
      → (along (seen (edition_of d)) next shown_bytes d es ≡ along (seen (edition_of e)) next shown_bytes e fs) × (view (after d es) ≡ view (after e fs))

  -- what is owed
  pub record Owed : Type 0 where
    pub within : (n : ℕ) (x : Event) → mine n x ≡ false → seen n x ≡ false
    pub both : (m n : ℕ) (x : Event) → mine m x ≡ true → mine n x ≡ true → seen m x ≡ seen n x
    pub hidden : (d : Board) (x : Event) → mine (edition_of d) x ≡ false → view (next d x) ≡ view d
    pub stepped : (d e : Board) (x : Event) → WellDescribed d → WellDescribed e → mine (edition_of d) x ≡ true → mine (edition_of e) x ≡ true
        → view d ≡ view e → (seen (edition_of d) x ≡ true → cell d x ≡ cell e x) → Same view (outcome d x) (outcome e x)

  machine : Machine Board Event View Cell Sight
  machine =
      record {
        next = next;
        mine = λ d. mine (edition_of d);
        seen = λ d. seen (edition_of d);
        Good = WellDescribed;
        view = view;
        cell = cell;
        show = shown_bytes;
      }

  next_is : (d : Board) (x : Event) → (outcome d x).after ≡ next d x
  next_is d (packet bytes size) = refl
  next_is d reset = refl

  final_is : (d : Board) (es : List Event) → final next d es ≡ after d es
  final_is d [] = refl
  final_is d (x ∷ es) = final_is (next d x) es

  laws : Owed → Laws machine
  unfolding machine
  laws owed =
      record {
        good = λ d x w. run_keeps_well d (x ∷ []) w;
        steady = λ d x. (ap mine (edition_kept d x), ap seen (edition_kept d x));
        within = λ d x. owed.within (edition_of d) x;
        both = λ d e x. owed.both (edition_of d) (edition_of e) x;
        hidden = λ d x w. owed.hidden d x;
        stepped = λ d e x w u h j v k.
            let same = owed.stepped d e x w u h j v k in (
              ap view (sym (next_is d x)) ∙ same.afters.views ∙ ap view (next_is e x),
              λ c i. record { number = same.numbers i; written = same.written i; bytes = (space (same.afters.views i)).bytes },
            );
      }

  pub boards_agree : Owed → BoardsAgree
  unfolding machine
  boards_agree owed d e es fs w u v o k =
      let r = two_runs machine (laws owed) d e es fs w u v o k in
      (r.0, ap view (sym (final_is d es)) ∙ r.1 ∙ ap view (final_is e fs))
