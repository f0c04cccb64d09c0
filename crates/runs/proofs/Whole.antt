-- "Whatever the enables" (document 02, 7/13), over a whole run: two runs from one board, of the same packets, reply sizes and resets but for the first
-- enables of packets that do not write, give the same numbers, boards and replies at every packet, and end alike. Assumes nothing.
use mathlib.Core.Bool.{false}
use mathlib.Core.List.{List, [], ◌∷◌}
use mathlib.Core.Logic.{◌⊎◌, inl, inr}
use mathlib.Core.Path.{◌≡◌, refl, ap, ◌∙◌}
use Rattle.packet.specs.Request.{request_of}
use Rattle.packet.proofs.EnablesAside.{EnablesAside}
use Rattle.board.specs.Description.{Board}
use Rattle.board.specs.Serving.{Outcome, serve}
use Rattle.board.proofs.Whole.{enables_not_read}
use Rattle.runs.specs.Run.{Event, packet, reset, next, after, outcomes}

-- the same reply size, and packets that do not write and differ in their first enables only
abbrev pub ReadAside : Event → Event → Type 0
ReadAside (packet p size) (packet q room) = EnablesAside p q × ((request_of p).writes ≡ false) × (size ≡ room)
ReadAside (packet p size) reset = ⊥
ReadAside reset f = ⊥

-- two runs, event by event
abbrev pub SameButReads : List Event → List Event → Type 0
SameButReads [] [] = Unit {0}
SameButReads [] (f ∷ fs) = ⊥
SameButReads (e ∷ es) [] = ⊥
SameButReads (e ∷ es) (f ∷ fs) = ((e ≡ f) ⊎ ReadAside e f) × SameButReads es fs

-- the statement
abbrev pub EnablesNotReadInRun : Type 0
EnablesNotReadInRun = (d : Board) (es fs : List Event) → SameButReads es fs → (outcomes d es ≡ outcomes d fs) × (after d es ≡ after d fs)

-- an event of either run, and then the same rest
first_same : (d : Board) (e f : Event) (es : List Event) → (e ≡ f) ⊎ ReadAside e f
    → (outcomes d (e ∷ es) ≡ outcomes d (f ∷ es)) × (next d e ≡ next d f)
first_same d e f es (inl same) = (ap (λ (x : Event). outcomes d (x ∷ es)) same, ap (next d) same)
first_same d (packet p size) (packet q room) es (inr aside) =
    let o : serve d p size ≡ serve d q room = enables_not_read d p q size aside.0 aside.1 ∙ ap (serve d q) aside.2 in
    (ap (λ (x : Outcome). x ∷ outcomes x.after es) o, ap (λ (x : Outcome). x.after) o)
first_same d (packet p size) reset es (inr aside) = absurd aside
first_same d reset f es (inr aside) = absurd aside

-- the same first event, and then rests that are answered the same
rest_same : (d : Board) (e : Event) (es fs : List Event) → outcomes (next d e) es ≡ outcomes (next d e) fs → outcomes d (e ∷ es) ≡ outcomes d (e ∷ fs)
rest_same d (packet p size) es fs h = ap (λ (l : List Outcome). serve d p size ∷ l) h
rest_same d reset es fs h = h

pub enables_not_read_in_run : EnablesNotReadInRun
enables_not_read_in_run d [] [] s = (refl, refl)
enables_not_read_in_run d [] (f ∷ fs) s = absurd s
enables_not_read_in_run d (e ∷ es) [] s = absurd s
enables_not_read_in_run d (e ∷ es) (f ∷ fs) s =
    let first = first_same d e f es s.0 in
    let rest = enables_not_read_in_run (next d f) es fs s.1 in (
      first.0 ∙ rest_same d f es fs rest.0,
      ap (λ (x : Board). after x es) first.1 ∙ rest.1,
    )
