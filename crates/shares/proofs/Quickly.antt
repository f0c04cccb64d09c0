-- Runs of a well-described board without a look at its description at each packet: it stays well described, so that nothing else comes out. The
-- examples are computed this way, since a look is at every bit of the rules and marks. Assumes nothing.
use Prim.Native.Nat.{ℕ}
use mathlib.Core.Bool.{Bool}
use mathlib.Core.List.{List, [], ◌∷◌}
use mathlib.Core.Option.{Option}
use mathlib.Core.Path.{◌≡◌, refl, ap, ap₂, ◌∙◌}
use lib.Dec.{ltb}
use Rattle.answers.specs.Checks.{check, first_that_applies}
use Rattle.packet.specs.Request.{checks_under}
use Rattle.capture.specs.declared.Capture.{Capture}
use Rattle.board.specs.Description.{Space, Board, WellDescribed, after_reset}
use Rattle.board.specs.Access.{correlation}
use Rattle.board.specs.Serving.{Outcome, by_number, serve}
use Rattle.runs.specs.Run.{Event, packet, reset, next}
use Rattle.runs.proofs.Calls.{run_keeps_well}
use Rattle.shares.specs.Kinds.{keep, along}
use Rattle.shares.specs.Views.{Sight, edition_of, sight_at, register, ordinary_packet, trusted_packet, ordinary_sights, trusted_sights, correlations, correlations_at_each, captures}

-- serving, by the checks from 2 on
abbrev pub quick : Board → List ℕ → ℕ → Outcome
quick d bytes size = by_number (first_that_applies (check 2 (ltb size 16) ∷ checks_under d.description.edition bytes)) d bytes

abbrev pub quick_next : Board → Event → Board
quick_next d (packet bytes size) = (quick d bytes size).after
quick_next d reset = after_reset d

abbrev sight_of : (Board → Space) → Outcome → Sight
sight_of space o = record { number = o.number; written = o.written; bytes = (space o.after).bytes }

abbrev pub quick_sight : (Board → Space) → Board → Event → Sight
quick_sight space d (packet bytes size) = sight_of space (quick d bytes size)
quick_sight space d reset = sight_at space d reset

-- ---- the same comes out

quick_same : (d : Board) (bytes : List ℕ) (size : ℕ) → WellDescribed d → serve d bytes size ≡ quick d bytes size
unfolding serve
quick_same d bytes size w =
    ap (λ (b : Bool). by_number (first_that_applies (check 1 b ∷ check 2 (ltb size 16) ∷ checks_under d.description.edition bytes)) d bytes) w

next_same : (d : Board) (x : Event) → WellDescribed d → next d x ≡ quick_next d x
next_same d (packet bytes size) w = ap (λ (o : Outcome). o.after) (quick_same d bytes size w)
next_same d reset w = refl

sight_same : (space : Board → Space) (d : Board) (x : Event) → WellDescribed d → sight_at space d x ≡ quick_sight space d x
sight_same space d (packet bytes size) w = ap (sight_of space) (quick_same d bytes size w)
sight_same space d reset w = refl

-- a value for each event that counts, over a whole run
module _ {Value : Type 0} (counts : Event → Bool) (value quickly : Board → Event → Value)
    (same : (d : Board) (x : Event) → WellDescribed d → value d x ≡ quickly d x) where
  along_same : (d : Board) (es : List Event) → WellDescribed d → along counts next value d es ≡ along counts quick_next quickly d es
  along_same d [] w = refl
  along_same d (x ∷ es) w =
      ap₂ (keep (counts x)) (same d x w)
      (along_same (next d x) es (run_keeps_well d (x ∷ []) w) ∙ ap (λ (s : Board). along counts quick_next quickly s es) (next_same d x w))

-- ---- what is asked and what is shown over a run

abbrev pub quick_registers : Board → List Event → List (Option (List ℕ))
quick_registers d es = along (ordinary_packet (edition_of d)) quick_next register d es

abbrev pub quick_at_each : Board → List Event → List (List ℕ)
quick_at_each d es = along (ordinary_packet (edition_of d)) quick_next (λ x event. correlation x) d es

abbrev pub quick_captures : Board → List Event → List Capture
quick_captures d es = along (trusted_packet (edition_of d)) quick_next (λ x event. x.capture) d es

abbrev pub quick_ordinary : Board → List Event → List Sight
quick_ordinary d es = along (ordinary_packet (edition_of d)) quick_next (quick_sight (λ x. x.ordinary)) d es

abbrev pub quick_trusted : Board → List Event → List Sight
quick_trusted d es = along (trusted_packet (edition_of d)) quick_next (quick_sight (λ x. x.trusted)) d es

module _ (d : Board) (es : List Event) (w : WellDescribed d) where
  pub registers_quickly : correlations d es ≡ quick_registers d es
  registers_quickly = along_same (ordinary_packet (edition_of d)) register register (λ b x v. refl) d es w

  pub at_each_quickly : correlations_at_each d es ≡ quick_at_each d es
  at_each_quickly = along_same (ordinary_packet (edition_of d)) (λ x event. correlation x) (λ x event. correlation x) (λ b x v. refl) d es w

  pub captures_quickly : captures d es ≡ quick_captures d es
  captures_quickly = along_same (trusted_packet (edition_of d)) (λ x event. x.capture) (λ x event. x.capture) (λ b x v. refl) d es w

  pub ordinary_quickly : ordinary_sights d es ≡ quick_ordinary d es
  ordinary_quickly =
      along_same (ordinary_packet (edition_of d)) (sight_at (λ x. x.ordinary)) (quick_sight (λ x. x.ordinary)) (sight_same (λ x. x.ordinary)) d es w

  pub trusted_quickly : trusted_sights d es ≡ quick_trusted d es
  trusted_quickly =
      along_same (trusted_packet (edition_of d)) (sight_at (λ x. x.trusted)) (quick_sight (λ x. x.trusted)) (sight_same (λ x. x.trusted)) d es w
