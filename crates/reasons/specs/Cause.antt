-- Document 01, "The access": which cause of UR a request meets first, in the order in which the document lists them. Assumes nothing.
use Rattle.std.specs.Prelude.{Bool, true, false, not, ◌&&◌, cond, eqb, Option, Some, None}
use Rattle.packet.specs.declared.Request.{Request}
use Rattle.packet.specs.Request.{is_trusted}
use Rattle.capture.specs.declared.Capture.{Capture}
use Rattle.board.specs.declared.Description.{Description}
use Rattle.board.specs.Access.{is_type0, is_type1, nothing_captured, addressed}
use Rattle.reasons.specs.declared.Cause.{Cause}
use Rattle.reasons.specs.declared.Cause.TheVariants.{Type1, OtherFunction, NothingCaptured, OtherAddress, PoisonedWrite}

-- "UR is given [..] for: a Type 1 request; a Type 0 request for another function; a trusted request while nothing is captured; a trusted
-- request whose bus, device and function aren't the captured two and the board's own; a poisoned write." "All else succeeds.":
-- none
unfoldable pub cause_of : Description → Capture → Request → Option Cause
cause_of description kept q =
    cond (is_type1 q.target) (Some Type1)
    (cond (is_type0 q.target && not (eqb q.function description.function)) (Some OtherFunction)
    (cond (is_trusted q.target && nothing_captured kept) (Some NothingCaptured)
    (cond (is_trusted q.target && not (addressed description kept q)) (Some OtherAddress)
    (cond (q.writes && q.poisoned) (Some PoisonedWrite)
    None))))

-- a cause of UR
abbrev pub refuses : Option Cause → Bool
refuses None = false
refuses (Some cause) = true
