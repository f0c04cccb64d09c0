-- What the inner functions of this crate ask of each other; no entry's promise rests on it. Assumes nothing.
use Rattle.std.specs.Prelude.{not, ◌&&◌, cond, Option, Some, None}
use Rattle.packet.specs.declared.Request.{Request}
use Rattle.capture.specs.declared.Capture.{Capture}
use Rattle.board.specs.declared.Description.{Description}
use Rattle.board.specs.Access.{nothing_captured, addressed}
use Rattle.reasons.specs.declared.Cause.{Cause}
use Rattle.reasons.specs.declared.Cause.TheVariants.{NothingCaptured, OtherAddress, PoisonedWrite}

unfoldable pub poison_of : Request → Option Cause
poison_of q = cond (q.writes && q.poisoned) (Some PoisonedWrite) None

-- of a trusted request
unfoldable pub trusted_cause : Description → Capture → Request → Option Cause
trusted_cause description kept q =
    cond (nothing_captured kept) (Some NothingCaptured) (cond (not (addressed description kept q)) (Some OtherAddress) (poison_of q))
