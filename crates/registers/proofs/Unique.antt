-- A second result that meets a promise of this crate is the same result. Assumes nothing.
use Prim.Native.Nat.{ℕ}
use mathlib.Core.List.{List}
use mathlib.Core.Path.{◌≡◌, sym, ◌∙◌}
use Rattle.registers.specs.Merge.{merged}
use Rattle.registers.specs.Shown.{shown}

pub merge_unique : (old rules marks new : List ℕ) (enables : ℕ) (r q : List ℕ) → r ≡ merged old rules marks new enables
    → q ≡ merged old rules marks new enables → r ≡ q
merge_unique old rules marks new enables r q e f = e ∙ sym f

pub show_unique : (bytes r q : List ℕ) → r ≡ shown bytes → q ≡ shown bytes → r ≡ q
show_unique bytes r q e f = e ∙ sym f
