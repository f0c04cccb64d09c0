-- A second result that meets the promise of this crate's entry is the same result. Assumes nothing.
use Prim.Native.Nat.{ℕ}
use mathlib.Core.List.{List}
use mathlib.Core.Path.{◌≡◌, sym, ◌∙◌}
use Rattle.trials.specs.Merges.{Merges}

pub trial_unique : (old rules marks new : List ℕ) (enables : ℕ) (after other : List ℕ) → Merges old rules marks new enables after
    → Merges old rules marks new enables other → after ≡ other
trial_unique old rules marks new enables after other e f = e ∙ sym f
