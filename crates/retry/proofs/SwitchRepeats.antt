-- THEOREMS. Through a switch: anything that happens may happen again where it stands, as often as wanted. Of runs, and of calls of `router::route` and `Board::serve`. Assumes
-- nothing.
use Prim.Native.Nat.{ℕ}
use mathlib.Core.Bool.{Bool, true, false, cond}
use mathlib.Core.List.{List, []}
use mathlib.Core.Path.{◌≡◌, refl, sym, ap, ◌∙◌, subst, fun_ext}
use lib.Dec.{eqb}
use lib.ListN.{length, take}
use borrow.Author.Tests.{eqb-true}
use Rattle.answers.specs.Numbers.{number_of}
use Rattle.board.specs.Description.{Board}
use Rattle.board.specs.Serving.{serve}
use Rattle.board.specs.Promise.{Served}
use Rattle.runs.specs.Run as run
use Rattle.runs.specs.Run.{packet}
use Rattle.runs.specs.Calls as calling
use Rattle.runs.specs.Calls.{Call, called}
use Rattle.std.specs.Prelude.{Ok, Err}
use Rattle.ports.specs.declared.Port.{Port}
use Rattle.router.specs.declared.Verdict.TheVariants.{Leaves, Unsupported}
use Rattle.router.specs.Routing as routing
use Rattle.router.specs.Routing.{route}
use Rattle.router.specs.Promise as routes
use Rattle.router.specs.Promise.{Routed, told}
use Rattle.retry.specs.Rows.{Answer, answered, call_answered}
use Rattle.retry.specs.Switch.{Boards, changed_at, switch_next, switch_answer, switch_runs, SwitchCall, routed, besides, switch_event, held_at, holds_by, answered_by, MeetsBy, switch_holds, switch_call_answered, SwitchMeets, switch_calls}
use Rattle.retry.specs.Repeats.{RepeatOf}
use Rattle.retry.proofs.Exchange.{Faithful}
use Rattle.retry.proofs.Again.{left_bytes, switch_next_twice, switch_answer_twice}
use Rattle.retry.proofs.Rows.{repeat_of}
use Rattle.retry.proofs.Repeats.{call_next, call_answer}

-- ---- runs

pub switch_runs_faithful : (ports : List Port) → Faithful (switch_next ports) (switch_answer ports) (switch_runs ports)
switch_runs_faithful ports = record { next = λ boards e m. refl; answer = λ boards e m. refl }

pub repeat_in_switch_runs : (ports : List Port) → RepeatOf (switch_runs ports)
repeat_in_switch_runs ports =
    repeat_of (switch_next ports) (switch_answer ports) (switch_runs ports) (switch_runs_faithful ports) (switch_next_twice ports) (switch_answer_twice ports)

-- ---- calls

-- what is the same at the place is the same everywhere
pub agree : (boards : Boards) (place : ℕ) (f g : Board → Board) → f (boards place) ≡ g (boards place) → (k : ℕ) (b : Bool) → eqb k place ≡ b
    → cond b (f (boards k)) (boards k) ≡ cond b (g (boards k)) (boards k)
agree boards place f g same k true e = subst (λ (j : ℕ). f (boards j) ≡ g (boards j)) (sym (eqb-true k place e)) same
agree boards place f g same k false e = refl

-- a call at one board
held_there : (boards : Boards) (place : ℕ) (call : Call) → calling.Meets (boards place) call
    → held_at boards place call ≡ changed_at boards true place (calling.event_of call)
held_there boards place call m =
    fun_ext (λ k. agree boards place (λ d. calling.holds d call) (λ d. run.next d (calling.event_of call)) (call_next (boards place) call m) k _ refl)

module _ (ports : List Port) (boards : Boards) (bytes buffer left reply : List ℕ) (result : Served) (ordinary trusted replied : List ℕ) where
  abbrev at : routing.Outcome
  at = route ports bytes (length buffer)

  -- a packet that leaves
  module _ (place count : ℕ) (e : told (Ok (Leaves place count)) left ≡ routes.shows at buffer) (m : MeetsBy (Ok (Leaves place count)) boards left reply result ordinary trusted replied) where
    leaves_is : (at.leaves ≡ true) × (at.port ≡ place)
    unfolding routes.shows
    leaves_is = (sym (ap (λ (x : routes.Seen). x.leaves) e), sym (ap (λ (x : routes.Seen). x.port) e))

    written_is : take count left ≡ at.written
    written_is = left_bytes (Ok (Leaves place count)) left buffer at e

    leaving_next : held_at boards place (called (take count left) reply result ordinary trusted replied) ≡ changed_at boards at.leaves at.port (packet at.written (length reply))
    leaving_next =
        held_there boards place (called (take count left) reply result ordinary trusted replied) m
        ∙ (λ i. changed_at boards (sym leaves_is.0 i) (sym leaves_is.1 i) (packet (written_is i) (length reply)))

    leaving_answer : call_answered (called (take count left) reply result ordinary trusted replied)
        ≡ cond at.leaves (answered (serve (boards at.port) at.written (length reply))) (record { number = at.number; written = [] })
    leaving_answer =
        call_answer (boards place) (called (take count left) reply result ordinary trusted replied) m
        ∙ (λ i. answered (serve (boards (sym leaves_is.1 i)) (written_is i) (length reply)))
        ∙ ap (λ (b : Bool). cond b (answered (serve (boards at.port) at.written (length reply))) (record { number = at.number; written = [] })) (sym leaves_is.0)

  -- one that does not
  module _ (stays : at.leaves ≡ false) where
    staying_next : boards ≡ changed_at boards at.leaves at.port (packet at.written (length reply))
    staying_next = λ i. changed_at boards (sym stays i) at.port (packet at.written (length reply))

    staying_answer : (number : ℕ) → number ≡ at.number
        → ◌≡◌ {A = Answer} (record { number = number; written = [] }) (cond at.leaves (answered (serve (boards at.port) at.written (length reply))) (record { number = at.number; written = [] }))
    staying_answer number n =
        (λ i. record { number = n i; written = [] })
        ∙ ap (λ (b : Bool). cond b (answered (serve (boards at.port) at.written (length reply))) (record { number = at.number; written = [] })) (sym stays)

  routed_next : (verdict : Routed) → told verdict left ≡ routes.shows at buffer → MeetsBy verdict boards left reply result ordinary trusted replied
      → holds_by verdict boards left reply result ordinary trusted replied ≡ changed_at boards at.leaves at.port (packet at.written (length reply))
  unfolding routes.shows
  routed_next (Ok (Leaves place count)) e m = leaving_next place count e m
  routed_next (Ok Unsupported) e m = staying_next (sym (ap (λ (x : routes.Seen). x.leaves) e))
  routed_next (Err refusal) e m = staying_next (sym (ap (λ (x : routes.Seen). x.leaves) e))

  routed_answer : (verdict : Routed) → told verdict left ≡ routes.shows at buffer → MeetsBy verdict boards left reply result ordinary trusted replied
      → answered_by verdict left reply result ordinary trusted replied
      ≡ cond at.leaves (answered (serve (boards at.port) at.written (length reply))) (record { number = at.number; written = [] })
  unfolding routes.shows
  routed_answer (Ok (Leaves place count)) e m = leaving_answer place count e m
  routed_answer (Ok Unsupported) e m = staying_answer (sym (ap (λ (x : routes.Seen). x.leaves) e)) 0 (ap (λ (x : routes.Seen). x.number) e)
  routed_answer (Err refusal) e m = staying_answer (sym (ap (λ (x : routes.Seen). x.leaves) e)) (number_of refusal) (ap (λ (x : routes.Seen). x.number) e)

module _ (ports : List Port) where
  switch_call_next : (boards : Boards) (c : SwitchCall) → SwitchMeets ports boards c → switch_holds ports boards c ≡ switch_next ports boards (switch_event c)
  switch_call_next boards (routed bytes buffer verdict left reply result ordinary trusted replied) m =
      routed_next ports boards bytes buffer left reply result ordinary trusted replied verdict m.0 m.1
  switch_call_next boards (besides place call) m = held_there boards place call m

  switch_call_answer : (boards : Boards) (c : SwitchCall) → SwitchMeets ports boards c → switch_call_answered ports boards c ≡ switch_answer ports boards (switch_event c)
  switch_call_answer boards (routed bytes buffer verdict left reply result ordinary trusted replied) m =
      routed_answer ports boards bytes buffer left reply result ordinary trusted replied verdict m.0 m.1
  switch_call_answer boards (besides place call) m = refl

  pub switch_calls_faithful : Faithful (switch_next ports) (switch_answer ports) (switch_calls ports)
  switch_calls_faithful = record { next = switch_call_next; answer = switch_call_answer }

  pub repeat_in_switch_calls : RepeatOf (switch_calls ports)
  repeat_in_switch_calls =
      repeat_of (switch_next ports) (switch_answer ports) (switch_calls ports) switch_calls_faithful (switch_next_twice ports) (switch_answer_twice ports)
