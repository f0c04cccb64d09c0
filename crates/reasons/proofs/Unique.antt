-- A second result that meets a promise of this crate is the same result. Assumes nothing.
use mathlib.Core.Path.{◌≡◌, sym, ◌∙◌}
use Rattle.std.specs.Prelude.{Option}
use Rattle.packet.specs.declared.Request.{Request}
use Rattle.capture.specs.declared.Capture.{Capture}
use Rattle.board.specs.declared.Description.{Description}
use Rattle.reasons.specs.declared.Cause.{Cause}
use Rattle.reasons.specs.Cause.{cause_of}

pub why_unique : (description : Description) (kept : Capture) (q : Request) (r s : Option Cause) → r ≡ cause_of description kept q
    → s ≡ cause_of description kept q → r ≡ s
why_unique description kept q r s e f = e ∙ sym f
