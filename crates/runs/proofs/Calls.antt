-- Calling the entries packet by packet gives the run: what the caller holds at the end is the run's board, and each call showed the
-- run's outcome for its packet. The start is any board, fresh or not, well described or not. Assumes nothing.
use mathlib.Core.List.{List, [], ◌∷◌}
use mathlib.Core.Path.{◌≡◌, refl, ap, ◌∙◌, subst}
use Rattle.board.specs.Description.{Board, WellDescribed, after_reset}
use Rattle.board.specs.Serving.{serve}
use Rattle.board.proofs.Keeps.{call_holds, serve_keeps_well, reset_keeps_well}
use Rattle.runs.specs.Run.{Event, packet, reset, next, after, outcomes}
use Rattle.runs.specs.Calls.{Call, called, was_reset, event_of, events_of, holds, held, Meets, AllMeet, Show}

-- the statement
abbrev pub CallsGiveRun : Type 0
CallsGiveRun = (d : Board) (cs : List Call) → AllMeet d cs → (held d cs ≡ after d (events_of cs)) × Show cs (outcomes d (events_of cs))

-- a run of a well-described board stays well described
abbrev pub RunKeepsWell : Type 0
RunKeepsWell = (d : Board) (es : List Event) → WellDescribed d → WellDescribed (after d es)

held_next : (d : Board) (c : Call) → Meets d c → holds d c ≡ next d (event_of c)
held_next d (called bytes reply r o t replied) e = call_holds d bytes reply r o t replied e
held_next d (was_reset kept) e =
    λ i. record { description = d.description; capture = e i; ordinary = d.ordinary; trusted = d.trusted }

pub calls_give_run : CallsGiveRun
calls_give_run d [] m = (refl, tt)
calls_give_run d (called bytes reply r o t replied ∷ cs) m =
    let h = held_next d (called bytes reply r o t replied) m.0 in
    let rest = calls_give_run (holds d (called bytes reply r o t replied)) cs m.1 in (
      rest.0 ∙ ap (λ (x : Board). after x (events_of cs)) h,
      (m.0, subst (λ (x : Board). Show cs (outcomes x (events_of cs))) h rest.1),
    )
calls_give_run d (was_reset kept ∷ cs) m =
    let h = held_next d (was_reset kept) m.0 in
    let rest = calls_give_run (holds d (was_reset kept)) cs m.1 in (
      rest.0 ∙ ap (λ (x : Board). after x (events_of cs)) h,
      subst (λ (x : Board). Show cs (outcomes x (events_of cs))) h rest.1,
    )

pub run_keeps_well : RunKeepsWell
run_keeps_well d [] w = w
run_keeps_well d (packet bytes size ∷ es) w = run_keeps_well (serve d bytes size).after es (serve_keeps_well d bytes size w)
run_keeps_well d (reset ∷ es) w = run_keeps_well (after_reset d) es (reset_keeps_well d w)
