-- `asking::header_of` meets its contract: the fields are those that the definition lists. Assumes nothing.
use Prim.Native.Nat.{◌/◌, ◌%◌}
use mathlib.Core.Path.{◌≡◌}
use native.Mathlib.Omega.{arith}
use Rattle.asking.specs.Writing.{header_of}
use Rattle.asking.proofs.filling.header_of.Goals as goal

pub returns : goal.returns
unfolding header_of
returns c =
    let high : c.args.parts.offset / 256 % 256 ≡ c.args.parts.offset / 256 = omega (arith, c.requires.offset) in
    rw (c.to_be_bytes.ensures, high, c.device_and_function.ensures)
