-- `records::dual::alternate_of` meets its contract: the place of the one bit, and the device. Assumes nothing.
use Prim.Native.Nat.{◌/◌, ◌%◌}
use mathlib.Core.Path.{◌≡◌}
use lib.Bits.{and_mask}
use native.Mathlib.Omega.{arith}
use Rattle.records.proofs.OneBit.{set_place_of_byte}
use Rattle.records.proofs.dual.alternate_of.Goals as goal

pub returns : goal.returns
returns c =
    let a = c.args in
    let byte : a.third / 16777216 % 256 ≡ a.third / 16777216 = omega arith in
    rw (set_place_of_byte a.vector c.ranges.vector.fits c.requires, c.to_le_bytes.ensures, and_mask (a.third / 16777216 % 256) 5, byte)
