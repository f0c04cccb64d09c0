-- "The bytes stored at A in the ordinary space never appear in a reply", over a whole run: two runs of the same packets and resets, from
-- well-described boards that differ in those four bytes at most, give the same numbers and write the same replies. Assumes nothing.
use Prim.Native.Nat.{ℕ}
use mathlib.Core.List.{List, [], ◌∷◌, map}
use mathlib.Core.Path.{◌≡◌, refl}
use Rattle.board.specs.Description.{Board, WellDescribed, after_reset}
use Rattle.board.specs.Serving.{Outcome, serve}
use Rattle.board.proofs.Keeps.{serve_keeps_well, reset_keeps_well}
use Rattle.board.proofs.Stale.{ButAtA, stale_never_shown}
use Rattle.runs.specs.Run.{Event, packet, reset, after, outcomes}

-- what the packets of a run are answered: numbers and written bytes
pub record Answer : Type 0 where
  pub number : ℕ
  pub written : List ℕ

abbrev pub answers : Board → List Event → List Answer
answers d es = map (λ (o : Outcome). record { number = o.number; written = o.written }) (outcomes d es)

-- the statement
abbrev pub StaleNeverShownInRun : Type 0
StaleNeverShownInRun =
    (d e : Board) (es : List Event) → WellDescribed d → ButAtA d e → (answers d es ≡ answers e es) × ButAtA (after d es) (after e es)

pub stale_never_shown_in_run : StaleNeverShownInRun
stale_never_shown_in_run d e [] w b = (refl, b)
stale_never_shown_in_run d e (packet bytes size ∷ es) w b =
    let s = stale_never_shown d e bytes size w b in
    let rest = stale_never_shown_in_run (serve d bytes size).after (serve e bytes size).after es (serve_keeps_well d bytes size w) s.afters in
    (λ i. record { number = s.numbers i; written = s.written i } ∷ rest.0 i, rest.1)
stale_never_shown_in_run d e (reset ∷ es) w b =
    stale_never_shown_in_run (after_reset d) (after_reset e) es (reset_keeps_well d w)
    (record { description = b.description; capture = refl; bytes = b.bytes; rules = b.rules; marks = b.marks; trusted = b.trusted })
