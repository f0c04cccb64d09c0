-- Document 02, 9/13, "Show once, for either edition, that packets with bit 7 clear are answered alike", over a whole run: a board, and the same with another
-- edition, give the same numbers and replies at every packet of a run whose packets have bit 7 clear, among any resets, and leave the same spaces and
-- capture at each. So do calls of the entries. Assumes nothing.
use Prim.Native.Nat.{ℕ}
use mathlib.Core.List.{List, [], ◌∷◌, map}
use mathlib.Core.Path.{◌≡◌, refl, sym, ap, ◌∙◌, subst}
use Rattle.board.specs.declared.Description.{Description}
use Rattle.board.specs.Description.{Board, with_edition, after_reset}
use Rattle.board.specs.Serving.{Outcome, serve}
use Rattle.board.proofs.Keeps.{serve_keeps}
use Rattle.board.proofs.Editions.{Bit7Clear, OneOrTwo, leaving, answered_alike}
use Rattle.runs.specs.Run.{Event, packet, reset, next, after, outcomes}
use Rattle.runs.specs.Calls.{Call, events_of, held, AllMeet, Show}
use Rattle.runs.proofs.Calls.{calls_give_run}

-- a run whose packets have bit 7 clear; resets are among them as they come
abbrev pub Clear : Event → Type 0
Clear (packet bytes size) = Bit7Clear bytes
Clear reset = Unit {0}

abbrev pub AllClear : List Event → Type 0
AllClear [] = Unit {0}
AllClear (event ∷ events) = Clear event × AllClear events

-- the statement
abbrev pub RunsAlike : Type 0
RunsAlike =
    (d : Board) (edition : ℕ) (es : List Event) → OneOrTwo d.description.edition → OneOrTwo edition → AllClear es
    → (outcomes (with_edition d edition) es ≡ map (leaving edition) (outcomes d es)) × (after (with_edition d edition) es ≡ with_edition (after d es) edition)

-- of calls: two rows of the same packets, reply sizes and resets, one on either board, that meet their promises. What the one row held at its end is what the
-- other held, but for the edition; and what each call of the one showed is the outcome that the other board gives there
abbrev pub RowsAlike : Type 0
RowsAlike =
    (d : Board) (edition : ℕ) (cs gs : List Call) → OneOrTwo d.description.edition → OneOrTwo edition → AllClear (events_of cs) → events_of cs ≡ events_of gs
    → AllMeet d cs → AllMeet (with_edition d edition) gs
    → (held (with_edition d edition) gs ≡ with_edition (held d cs) edition) × Show gs (map (leaving edition) (outcomes d (events_of cs)))

-- ---- one event

still_one_or_two : (d : Board) (x : Event) → OneOrTwo d.description.edition → OneOrTwo (next d x).description.edition
still_one_or_two d (packet bytes size) k = subst (λ (x : Description). OneOrTwo x.edition) (sym (serve_keeps d bytes size).description) k
still_one_or_two d reset k = k

next_alike : (d : Board) (edition : ℕ) (x : Event) → OneOrTwo d.description.edition → OneOrTwo edition → Clear x
    → next (with_edition d edition) x ≡ with_edition (next d x) edition
next_alike d edition (packet bytes size) k j c = ap (λ (o : Outcome). o.after) (answered_alike d edition bytes size k j c)
next_alike d edition reset k j c = refl

-- ---- a run

outcomes_alike : (d : Board) (edition : ℕ) (es : List Event) → OneOrTwo d.description.edition → OneOrTwo edition → AllClear es
    → outcomes (with_edition d edition) es ≡ map (leaving edition) (outcomes d es)
outcomes_alike d edition [] k j c = refl
outcomes_alike d edition (packet bytes size ∷ es) k j c =
    ap (λ (o : Outcome). o ∷ outcomes o.after es) (answered_alike d edition bytes size k j c.0)
    ∙ ap (λ (l : List Outcome). leaving edition (serve d bytes size) ∷ l)
    (outcomes_alike (serve d bytes size).after edition es (still_one_or_two d (packet bytes size) k) j c.1)
outcomes_alike d edition (reset ∷ es) k j c = outcomes_alike (after_reset d) edition es k j c.1

after_alike : (d : Board) (edition : ℕ) (es : List Event) → OneOrTwo d.description.edition → OneOrTwo edition → AllClear es
    → after (with_edition d edition) es ≡ with_edition (after d es) edition
after_alike d edition [] k j c = refl
after_alike d edition (x ∷ es) k j c =
    ap (λ (b : Board). after b es) (next_alike d edition x k j c.0) ∙ after_alike (next d x) edition es (still_one_or_two d x k) j c.1

pub runs_alike : RunsAlike
runs_alike d edition es k j c = (outcomes_alike d edition es k j c, after_alike d edition es k j c)

pub rows_alike : RowsAlike
rows_alike d edition cs gs k j c same m n =
    let b = with_edition d edition in
    let left = calls_give_run d cs m in
    let right = calls_give_run b gs n in
    let run = runs_alike d edition (events_of cs) k j c in (
      right.0 ∙ ap (after b) (sym same) ∙ run.1 ∙ ap (λ (x : Board). with_edition x edition) (sym left.0),
      subst (Show gs) (ap (outcomes b) (sym same) ∙ run.0) right.1,
    )
