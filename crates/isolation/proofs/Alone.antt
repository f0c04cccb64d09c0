-- One function of a pair, over a row: a packet for it moves it as it moves a board of one function, a reset resets it, and nothing else changes it. So it goes its
-- way alone. And what runs and calls owe for that. Assumes nothing.
use Prim.Native.Nat.{ℕ}
use mathlib.Core.Bool.{Bool, true, false, cond}
use mathlib.Core.List.{List, ◌∷◌}
use mathlib.Core.Path.{◌≡◌, refl, ap, ◌∙◌}
use lib.ListN.{length, take}
use lib.Seq.{take-append_seam}
use Rattle.board.specs.Description.{Board, after_reset}
use Rattle.board.specs.Serving.{serve}
use Rattle.runs.specs.Run.{Event, packet, reset}
use Rattle.pair.specs.declared.Function.{Function}
use Rattle.pair.specs.Pair.{Pair, Role, Primary, Alternate, board_of, board, WellPaired, is_for, is_for_role}
use Rattle.pair.specs.Pair as pairs
use Rattle.pair.specs.Serving.{serve_pair}
use Rattle.pair.specs.Promise.{PairSeen, pair_shows}
use Rattle.pair.proofs.Keeps.{pair_serve_keeps, pair_call_holds, own_board, other_keeps, pair_serve_keeps_well, pair_reset_keeps_well}
use Rattle.isolation.specs.Rows.{Row, pair_outcome, runs, PairCall, called, was_reset, calls, Meets}
use Rattle.isolation.specs.Views.{for_role}
use Rattle.isolation.specs.Statements.{met}

-- ---- the kinds stay

pub record SameKinds (d s : Pair) : Type 0 where
  pub edition : s.edition ≡ d.edition
  pub numbers : (role : Role) → pairs.number_of role s ≡ pairs.number_of role d

pub same_kinds : (d : Pair) → SameKinds d d
same_kinds d = record { edition = refl; numbers = λ role. refl }

edition_kept : (s : Pair) (e : Event) → (pair_outcome s e).after.edition ≡ s.edition
edition_kept s (packet bytes size) = (pair_serve_keeps s bytes size).edition
edition_kept s reset = refl

number_kept : (role : Role) (s : Pair) (e : Event) → pairs.number_of role (pair_outcome s e).after ≡ pairs.number_of role s
number_kept Primary s (packet bytes size) = ap (λ (f : Function). f.number) (pair_serve_keeps s bytes size).primary.function
number_kept Alternate s (packet bytes size) = ap (λ (f : Function). f.number) (pair_serve_keeps s bytes size).alternate.function
number_kept Primary s reset = refl
number_kept Alternate s reset = refl

pub kinds_kept : (d s : Pair) (e : Event) → SameKinds d s → SameKinds d (pair_outcome s e).after
kinds_kept d s e k = record { edition = edition_kept s e ∙ k.edition; numbers = λ role. number_kept role s e ∙ k.numbers role }

pub for_same : (d s : Pair) (role : Role) (e : Event) → SameKinds d s → for_role role s e ≡ for_role role d e
for_same d s role (packet bytes size) k = λ i. is_for (k.edition i) (k.numbers role i) bytes
for_same d s role reset k = refl

pub well_kept : (s : Pair) (e : Event) → WellPaired s → WellPaired (pair_outcome s e).after
well_kept s (packet bytes size) w = pair_serve_keeps_well s bytes size w
well_kept s reset w = pair_reset_keeps_well s w

-- ---- a function by itself: what is not for it leaves it

abbrev pub move_for : ℕ → ℕ → Board → Event → Board
move_for edition number b (packet bytes size) = cond (is_for edition number bytes) (serve b bytes size).after b
move_for edition number b reset = after_reset b

-- THEOREM. Each function of a well-described pair goes its way alone.
abbrev pub GoesAlone : Type 0
GoesAlone =
    (role : Role) (s : Pair) (e : Event) → WellPaired s
    → board role (pair_outcome s e).after ≡ move_for s.edition (pairs.number_of role s) (board role s) e

packet_moves : (role : Role) (s : Pair) (bytes : List ℕ) (size : ℕ) → WellPaired s → (b : Bool) → is_for_role role s bytes ≡ b
    → board role (serve_pair s bytes size).after ≡ cond b (serve (board role s) bytes size).after (board role s)
packet_moves role s bytes size w true h = own_board role s bytes size w h
packet_moves role s bytes size w false h =
    λ i. board_of ((pair_serve_keeps s bytes size).edition i) (other_keeps role s bytes size w h i)

pub goes_alone : GoesAlone
goes_alone role s (packet bytes size) w = packet_moves role s bytes size w _ refl
goes_alone Primary s reset w = refl
goes_alone Alternate s reset w = refl

-- ---- rows that do what the events do

pub record Faithful {Step : Type 0} (row : Row Step) (Fits : Pair → List Step → Type 0) : Type 0 where
  pub rest : (s : Pair) (x : Step) (xs : List Step) → Fits s (x ∷ xs) → Fits (row.next s x) xs
  pub well : (s : Pair) (xs : List Step) → Fits s xs → WellPaired s
  pub after : (s : Pair) (x : Step) (xs : List Step) → Fits s (x ∷ xs) → row.next s x ≡ (pair_outcome s (row.event x)).after
  pub number : (s : Pair) (x : Step) (xs : List Step) → Fits s (x ∷ xs) → row.number s x ≡ (pair_outcome s (row.event x)).number
  pub written : (s : Pair) (x : Step) (xs : List Step) → Fits s (x ∷ xs) → row.written s x ≡ (pair_outcome s (row.event x)).written

-- runs of well-described pairs do
pub runs_faithful : Faithful runs (λ s es. WellPaired s)
runs_faithful =
    record {
      rest = λ s x xs w. well_kept s x w;
      well = λ s xs w. w;
      after = λ s x xs w. refl;
      number = λ s x xs w. refl;
      written = λ s x xs w. refl;
    }

-- and calls that meet their promises
pub call_after : (s : Pair) (c : PairCall) → Meets s c → calls.next s c ≡ (pair_outcome s (calls.event c)).after
call_after s (called bytes reply r po pt ao at replied) m = pair_call_holds s bytes reply r po pt ao at replied m
call_after s (was_reset kept) m =
    λ i.
    record {
      edition = s.edition;
      primary = record { function = s.primary.function; capture = (m i).primary; ordinary = s.primary.ordinary; trusted = s.primary.trusted };
      alternate = record { function = s.alternate.function; capture = (m i).alternate; ordinary = s.alternate.ordinary; trusted = s.alternate.trusted };
    }

pub call_number : (s : Pair) (c : PairCall) → Meets s c → calls.number s c ≡ (pair_outcome s (calls.event c)).number
unfolding pair_shows
call_number s (called bytes reply r po pt ao at replied) m = ap (λ (x : PairSeen). x.number) m
call_number s (was_reset kept) m = refl

pub call_written : (s : Pair) (c : PairCall) → Meets s c → calls.written s c ≡ (pair_outcome s (calls.event c)).written
unfolding pair_shows
call_written s (called bytes reply r po pt ao at replied) m =
    ap (λ (x : PairSeen). take x.count x.reply) m ∙ take-append_seam (serve_pair s bytes (length reply)).written _
call_written s (was_reset kept) m = refl

pub calls_faithful : Faithful calls met
calls_faithful =
    record {
      rest = λ s c cs f. (rw (call_after s c f.1.0) (well_kept s (calls.event c) f.0), f.1.1);
      well = λ s cs f. f.0;
      after = λ s c cs f. call_after s c f.1.0;
      number = λ s c cs f. call_number s c f.1.0;
      written = λ s c cs f. call_written s c f.1.0;
    }
