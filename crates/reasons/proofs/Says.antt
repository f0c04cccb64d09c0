-- THEOREM. A request is unsupported exactly if `why` names a cause. Assumes nothing.
use mathlib.Core.Bool.{Bool, true, false, not, ◌&&◌, cond}
use mathlib.Core.List.{[], ◌∷◌}
use mathlib.Core.Path.{◌≡◌, refl}
use lib.Dec.{eqb}
use Rattle.std.specs.Prelude.{Some, None}
use Rattle.answers.specs.Checks.{any}
use Rattle.packet.specs.declared.Request.{Request}
use Rattle.packet.specs.Request.{is_trusted}
use Rattle.capture.specs.declared.Capture.{Capture}
use Rattle.board.specs.declared.Description.{Description}
use Rattle.board.specs.Access.{is_type0, is_type1, nothing_captured, addressed, unsupported}
use Rattle.reasons.specs.declared.Cause.TheVariants.{Type1, OtherFunction, NothingCaptured, OtherAddress, PoisonedWrite}
use Rattle.reasons.specs.Cause.{cause_of, refuses}

first_of_five : (a b c d e : Bool) →
    any (a ∷ b ∷ c ∷ d ∷ e ∷ [])
    ≡ refuses (cond a (Some Type1) (cond b (Some OtherFunction) (cond c (Some NothingCaptured) (cond d (Some OtherAddress) (cond e (Some PoisonedWrite) None)))))
first_of_five true b c d e = refl
first_of_five false true c d e = refl
first_of_five false false true d e = refl
first_of_five false false false true e = refl
first_of_five false false false false true = refl
first_of_five false false false false false = refl

pub unsupported_iff_cause : (description : Description) (kept : Capture) (q : Request) →
    unsupported description kept q ≡ refuses (cause_of description kept q)
unfolding unsupported cause_of
unsupported_iff_cause description kept q =
    first_of_five
    (is_type1 q.target)
    (is_type0 q.target && not (eqb q.function description.function))
    (is_trusted q.target && nothing_captured kept)
    (is_trusted q.target && not (addressed description kept q))
    (q.writes && q.poisoned)
