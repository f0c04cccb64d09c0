-- Document 02, 12/13, "Retry without fear": the same packet twice. Assumes nothing.
use Rattle.std.specs.Prelude.{ℕ, false, List, [], ◌∷◌, ◌++◌, ◌⊎◌, ◌≡◌, length, replicate, take}
use Rattle.words.specs.Bytes.{byte}
use Rattle.packet.specs.declared.Status.TheVariants.{Unsupported}
use Rattle.packet.specs.Request.{request_of}
use Rattle.packet.specs.Completion.{status_byte}
use Rattle.board.specs.Description.{Board}
use Rattle.board.specs.Serving.{serve}
use Rattle.runs.specs.Run.{Event, packet, reset}
use Rattle.pair.specs.Pair.{Pair}
use Rattle.pair.specs.Serving.{serve_pair}
use Rattle.ports.specs.declared.Port.{Port}
use Rattle.router.specs.Promise.{Routed, told, Routes}
use Rattle.retry.specs.Rows.{Answer, Row, events_in, end, answers_in, AllMeet}

-- "from the same state, with equal reply sizes and nothing between, […] a packet served twice gives the same reply twice and leaves what one leaves": the number,
-- the written reply and the board of the second are those of the first. Of any board, well described or not, of either edition, with the bits of 6/13
abbrev pub Twice : Type 0
Twice = (d : Board) (p : List ℕ) (size : ℕ) → serve (serve d p size).after p size ≡ serve d p size

-- of any board of two functions (11/13)
abbrev pub PairTwice : Type 0
PairTwice = (pair : Pair) (p : List ℕ) (size : ℕ) → serve_pair (serve_pair pair p size).after p size ≡ serve_pair pair p size

-- a switch keeps nothing: whatever results meet the promise of `router::route` for the same packet twice, with buffers of one size, are the same verdict, and
-- the same bytes leave
abbrev pub RouteTwice : Type 0
RouteTwice =
    (ports : List Port) (p buffer again : List ℕ) (r q : Routed) (after after' : List ℕ) → length buffer ≡ length again
    → Routes ports p buffer r after → Routes ports p again q after'
    → (r ≡ q) × (take (told r after).count after ≡ take (told q after').count after')

-- of rows: what happens somewhere in a row happens `more` times again where it stands. Nothing else changes but that its answer stands there as often: the
-- answers before it are as many as the events
abbrev pub RepeatOf : {State Happening Step : Type 0} → Row State Happening Step → Type 0
RepeatOf {State} {Happening} {Step} row =
    (s : State) (steps others : List Step) (before : List Happening) (event : Happening) (more : ℕ) (rest : List Happening)
    → AllMeet row s steps → AllMeet row s others
    → events_in row steps ≡ before ++ (event ∷ rest)
    → events_in row others ≡ before ++ (event ∷ (replicate more event ++ rest))
    → (front : List Answer) (reply : Answer) (later : List Answer) → length front ≡ length before
    → answers_in row s steps ≡ front ++ (reply ∷ later)
    → (end row s others ≡ end row s steps) × (answers_in row s others ≡ front ++ (reply ∷ (replicate more reply ++ later)))

-- "nothing between": or nothing that can change what answers, which is a packet that is refused, is answered UR or reads. By what it was answered
abbrev pub Quiet : Answer → Event → Type 0
Quiet a (packet q n) = (a.number ≡ 0 → ⊥) ⊎ ((byte a.written 6 ≡ status_byte Unsupported) ⊎ ((request_of q).writes ≡ false))
Quiet a reset = ⊥

-- one after the other: nothing changes, so each of them is asked of the same state
abbrev pub AllQuiet : {State : Type 0} → Row State Event Event → State → List Event → Type 0
AllQuiet row s [] = Unit {0}
AllQuiet row s (event ∷ events) = Quiet (row.answer s event) event × AllQuiet row s events

-- something that happens, any number of these, and it again: of runs of a board, or of a board of two functions
abbrev pub LaterOf : {State : Type 0} → Row State Event Event → Type 0
LaterOf {State} row =
    (s : State) (event : Event) (between : List Event) → AllQuiet row (row.next s event) between
    → (row.next (end row (row.next s event) between) event ≡ row.next s event)
    × (row.answer (end row (row.next s event) between) event ≡ row.answer s event)
