-- A second result that meets a promise of this crate is the same result. Assumes nothing.
use Prim.Native.Nat.{ℕ}
use mathlib.Core.List.{List}
use mathlib.Core.Path.{◌≡◌, sym, ◌∙◌}
use Rattle.ports.specs.declared.Port.{Port}
use Rattle.ports.specs.declared.Survey.{Survey}
use Rattle.ports.specs.Choice.{Choice, choice}
use Rattle.ports.specs.Noting.{begun, Notes, concluded}

pub begin_unique : (bus : ℕ) (r q : Survey) → r ≡ begun bus → q ≡ begun bus → r ≡ q
begin_unique bus r q e f = e ∙ sym f

pub note_unique : (s : Survey) (p : Port) (r q : Survey) → Notes s p r → Notes s p q → r ≡ q
note_unique s p r q e f = e.is ∙ sym f.is

pub conclude_unique : (s : Survey) (r q : Choice) → r ≡ concluded s → q ≡ concluded s → r ≡ q
conclude_unique s r q e f = e ∙ sym f

pub choose_unique : (ps : List Port) (bus : ℕ) (r q : Choice) → r ≡ choice ps bus → q ≡ choice ps bus → r ≡ q
choose_unique ps bus r q e f = e ∙ sym f
