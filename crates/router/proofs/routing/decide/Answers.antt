-- `router::routing::decide` meets its contract: the checks in their order, then the request. Assumes nothing.
use mathlib.Core.Path.{sym, ap, ◌∙◌}
use lib.ListN.{length}
use borrow.Author.Rules.{rules}
use Rattle.std.specs.Prelude.{Err}
use Rattle.std.proofs.lemmas.Result.{err_from_is_err_and}
use Rattle.answers.proofs.Unique.{number_positive}
use Rattle.ports.specs.Choice.{Choice}
use Rattle.router.specs.Routing.{Outcome, is_bad}
use Rattle.router.specs.Promise.{Routed, told, shows}
use Rattle.router.specs.Inner.{passes}
use Rattle.router.proofs.Laws.{refused_shows, bad_number, room_number, packet_number_lem, passes_decides}
use Rattle.router.proofs.routing.decide.Goals as goal

pub returns-in_err-exit : goal.returns-in_err-exit
returns-in_err-exit c =
    let p = c.args.packet.now in
    let b = c.args.leaving.now in
    let r = err_from_is_err_and c.from_residual.result c.from_residual.ensures.1 in
    ap (λ (x : Routed). told x b) (r.1 ∙ ap Err r.2)
    ∙ refused_shows c.args.choice p b 1 (search rules) (bad_number c.args.choice p (length b) (ap is_bad c.in_err-exit.was))

pub returns-then-leaving-lt-LEAVING : goal.returns-then-leaving-lt-LEAVING
returns-then-leaving-lt-LEAVING c =
    let p = c.args.packet.now in
    let b = c.args.leaving.now in
    refused_shows c.args.choice p b 2 (search rules) (room_number c.args.choice p (length b) (ap is_bad c.in_ok-exit.was) c.if-leaving-lt-LEAVING.true)

pub returns-in_err-request : goal.returns-in_err-request
returns-in_err-request c =
    let p = c.args.packet.now in
    let b = c.args.leaving.now in
    let f = c.in_err-request.field-0.0 in
    let r = err_from_is_err_and c.from_residual-in_err-request.result c.from_residual-in_err-request.ensures.1 in
    let d = c.in_err-request.ensures in
    ap (λ (x : Routed). told x b) (r.1 ∙ ap Err r.2)
    ∙ refused_shows c.args.choice p b _ (number_positive f) (packet_number_lem c.args.choice p (length b) (ap is_bad c.in_ok-exit.was) c.if-leaving-lt-LEAVING.false (λ e. number_positive f (sym d ∙ e)) ∙ d)

pub returns : goal.returns
returns c =
    let p = c.args.packet.now in
    let b = c.args.leaving.now in
    c.pass.ensures
    ∙ ap (λ (o : Outcome). shows o b) (ap (λ (x : Choice). passes x p) (sym c.in_ok-exit.was)
    ∙ sym (passes_decides c.args.choice p (length b) (ap is_bad c.in_ok-exit.was) c.if-leaving-lt-LEAVING.false c.in_ok-request.ensures.0))
