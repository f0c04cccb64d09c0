-- `router::passing::pass` meets its contract: Type 0 first, then by the port, where there is one. Assumes nothing.
use mathlib.Core.Path.{sym, ap, ◌∙◌}
use Rattle.std.specs.Prelude.{Option, Ok}
use Rattle.ports.specs.declared.Exit.{Exit}
use Rattle.router.specs.Routing.{Outcome}
use Rattle.router.specs.Promise.{shows}
use Rattle.router.specs.Inner.{passes}
use Rattle.router.proofs.Laws.{type0_shows, nowhere_shows, at_passes}
use Rattle.router.proofs.passing.pass.Goals as goal

pub returns-then-is_type_0 : goal.returns-then-is_type_0
returns-then-is_type_0 c =
    let a = c.args in
    type0_shows a.packet.now a.request a.leaving.now c.requires (Ok a.exit) (sym c.is_type_0.ensures ∙ c.if-is_type_0.true)

pub returns-in-Some : goal.returns-in-Some
returns-in-Some c =
    let a = c.args in
    let by_port = at_passes a.packet.now a.request a.leaving.now c.requires c.in-Some.exit (sym c.is_type_0.ensures ∙ c.if-is_type_0.false) in
    c.pass_by.ensures
    ∙ ap (λ (o : Outcome). shows o a.leaving.now) (sym (ap (λ (x : Option Exit). passes (Ok x) a.packet.now) c.in-Some.is ∙ by_port))

pub returns-in-None : goal.returns-in-None
returns-in-None c =
    let a = c.args in
    nowhere_shows a.packet.now a.request a.leaving.now c.requires (sym c.is_type_0.ensures ∙ c.if-is_type_0.false)
    ∙ ap (λ (x : Option Exit). shows (passes (Ok x) a.packet.now) a.leaving.now) (sym c.in-None.is)
