-- What the inner functions of this crate ask of each other; no entry's promise rests on it. Assumes nothing.
use Rattle.std.specs.Prelude.{ℕ, ◌≤◌, Bool, true, cond, List, ◌≡◌, length}
use Rattle.answers.specs.Checks.{first_that_applies}
use Rattle.packet.specs.declared.Request.{Request}
use Rattle.packet.specs.declared.Target.TheVariants.{Type1}
use Rattle.packet.specs.Request.{packet_number, request_of}
use Rattle.ports.specs.declared.Exit.{Exit}
use Rattle.ports.specs.Choice.{Choice}
use Rattle.router.specs.Routing.{target_in, barred_at, router_checks, as_type0, leaving_by, Outcome, leaves_by, refused, by_number}
use Rattle.router.specs.Promise.{over}

-- a packet without a fault, of Type 1 where it turns, with a buffer that it fits into
pub record Ready (p : List ℕ) (turned : Bool) (buffer : List ℕ) : Type 0 where
  pub long : 12 ≤ length p
  pub fits : length p ≤ length buffer
  pub type1 : turned ≡ true → target_in p ≡ Type1
  pub faultless : packet_number p ≡ 0

-- what is then in the buffer
abbrev pub left : Bool → List ℕ → List ℕ → List ℕ
left turned p buffer = over (cond turned (as_type0 p) p) buffer

-- a packet that is past the checks 1 to 6
pub record Faultless (p : List ℕ) (q : Request) (buffer : List ℕ) : Type 0 where
  pub number : packet_number p ≡ 0
  pub request : q ≡ request_of p
  pub room : 20 ≤ length buffer

-- past the check for Type 0 too, at a port
abbrev pub passes_by : Exit → List ℕ → Outcome
passes_by exit p = cond (barred_at exit.port (target_in p)) (refused 4) (leaves_by exit.place (leaving_by exit.port p))

-- past the checks 1 to 6, the router's own decide
abbrev pub passes : Choice → List ℕ → Outcome
passes c p = by_number (first_that_applies (router_checks c p)) c p
