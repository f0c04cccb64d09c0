-- What the private functions of this crate tell each other; no promise of a public entry cites this file. Assumes nothing.
use Rattle.std.specs.Prelude.{ℕ, ◌+◌, ◌-◌, ◌*◌, ◌%◌, ◌^◌, bit_or, ◌≤◌, ◌<◌, true, false, cond, List, ◌≡◌, length, Option, None, Some}
use Rattle.words.specs.Fields.{bit}
use Rattle.multicast.specs.declared.Record.{Record}
use Rattle.multicast.specs.Capability.{receive}
use Rattle.multicast.specs.Judging.{group_of, is_hit, is_member}

-- the group that an address hits, or none
abbrev pub Hits : Record → ℕ → Option ℕ → Type 0
Hits port address None = is_hit port address ≡ false
Hits port address (Some g) = (is_hit port address ≡ true) × (g ≡ group_of port address) × (g ≤ 63)

-- 1 where a group leaves by port k, else 0
abbrev pub member_bit : List Record → ℕ → ℕ → ℕ → ℕ
member_bit ports entering group k = cond (is_member ports entering group k) 1 0

-- a set that has the members from a place on, bit 0 for that place
pub record HoldsFrom (ports : List Record) (entering group place r : ℕ) : Type 0 where
  pub each : (k : ℕ) → bit k r ≡ member_bit ports entering group (place + k)
  pub most : r < 2 ^ (length ports - place)

-- a set of 32 bits with a port's Receive bit below all that it has
abbrev pub put_below : ℕ → ℕ → Record → ℕ
put_below group set port = bit_or (set * 2 % 2 ^ 32) (bit group (receive port))

-- the set of the ports that a group leaves by
pub record SetOf (ports : List Record) (entering group r : ℕ) : Type 0 where
  pub each : (k : ℕ) → k < 32 → bit k r ≡ member_bit ports entering group k
  pub most : r < 2 ^ 32
