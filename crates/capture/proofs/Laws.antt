-- Laws of the capture state, for the proofs above. Assumes nothing.
use Rattle.std.proofs.Common.{◌≡◌, ℕ, ◌+◌, ◌*◌, ◌%◌, ◌≤◌, ap, arith}
use Rattle.capture.specs.declared.Capture.TheVariants.{Number}
use Rattle.capture.specs.Kept.{completer}

-- within a board's ranges the completer ID is as document 01 writes it, with no remainder
pub completer_exact : (bus device function : ℕ) → device ≤ 31 → function ≤ 7
    → completer (Number bus device) function ≡ record { high = bus; low = device * 8 + function }
unfolding completer
completer_exact bus device function d f = ap (λ (l : ℕ). record { high = bus; low = l }) (small (device * 8 + function) (omega arith))
  where
    small : (n : ℕ) → n ≤ 255 → n % 256 ≡ n
    small n h = omega arith
