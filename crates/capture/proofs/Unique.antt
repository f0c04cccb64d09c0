-- A second result that meets a promise of this crate is the same result. Assumes nothing.
use Rattle.std.proofs.Common.{◌≡◌, ℕ, sym, ◌∙◌}
use Rattle.capture.specs.declared.Capture.{Capture}
use Rattle.capture.specs.declared.Identified.{Identified}
use Rattle.capture.specs.Kept.{forgotten, captured, identified}

pub reset_unique : (kept r q : Capture) → r ≡ forgotten kept → q ≡ forgotten kept → r ≡ q
reset_unique kept r q e f = e ∙ sym f

pub capture_unique : (kept : Capture) (bus device : ℕ) (r q : Capture) → r ≡ captured kept bus device → q ≡ captured kept bus device → r ≡ q
capture_unique kept bus device r q e f = e ∙ sym f

pub completer_id_unique : (kept : Capture) (function : ℕ) (r q : Identified) → r ≡ identified kept function → q ≡ identified kept function → r ≡ q
completer_id_unique kept function r q e f = e ∙ sym f
