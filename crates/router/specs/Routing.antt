-- Document 02, 1/13, "Route for the backplane": routing, as one function from the ports, the packet and the buffer's size to the number, and the port and
-- the bytes by which it leaves. Assumes nothing.
use Rattle.std.specs.Prelude.{ℕ, zero, suc, ◌+◌, ◌*◌, Bool, true, false, not, ◌&&◌, cond, List, [], ◌∷◌, ◌++◌, Some, None, Ok, Err, eqb, ltb}
use Rattle.answers.specs.Checks.{Check, check, first_that_applies}
use Rattle.words.specs.Bytes.{byte}
use Rattle.words.specs.Fields.{bit}
use Rattle.packet.specs.declared.Target.{Target}
use Rattle.packet.specs.declared.Target.TheVariants.{Type0, Type1, Trusted}
use Rattle.packet.specs.Fields.{type_code}
use Rattle.packet.specs.Request.{typed, target_of, packet_checks, is_trusted}
use Rattle.ports.specs.declared.Port.{Port}
use Rattle.ports.specs.Ports.{supports}
use Rattle.ports.specs.Choice.{Choice, choice}

-- what a packet is for: "8 bus", and the target of its type
abbrev pub bus_of : List ℕ → ℕ
bus_of p = byte p 8

abbrev pub target_in : List ℕ → Target
target_in p = target_of (typed p)

abbrev pub is_type0 : Target → Bool
is_type0 Type0 = true
is_type0 Type1 = false
is_type0 Trusted = false

abbrev pub is_type1 : Target → Bool
is_type1 Type0 = false
is_type1 Type1 = true
is_type1 Trusted = false

-- ---- the numbers

-- "The list is refused with 1"
abbrev pub is_bad : Choice → Bool
is_bad (Ok exit) = false
is_bad (Err list) = true

-- "A trusted request for a bus in a range leaves there unchanged if that port supports it, else 4."
abbrev pub barred_at : Port → Target → Bool
barred_at port target = is_trusted target && not (supports port)

abbrev pub barred : Choice → Target → Bool
barred (Ok (Some exit)) target = barred_at exit.port target
barred (Ok None) target = false
barred (Err list) target = false

-- "Type 0 at the router: 4.", and the trusted request's 4
abbrev pub router_checks : Choice → List ℕ → List Check
router_checks c p = check 4 (is_type0 (target_in p)) ∷ check 4 (barred c (target_in p)) ∷ []

-- "What leaves is written into a lent buffer; under 20 bytes it is 2. The list's 1, that 2 and document 01's checks 3 to 6 come first, in that
-- order."
abbrev pub route_checks : Choice → List ℕ → ℕ → List Check
route_checks c p size = check 1 (is_bad c) ∷ check 2 (ltb size 20) ∷ (packet_checks p ++ router_checks c p)

abbrev pub route_number : Choice → List ℕ → ℕ → ℕ
route_number c p size = first_that_applies (route_checks c p size)

-- ---- what leaves

-- "05h and 45h (read, write, Type 1)" as "04h and 44h (read, write, Type 0)"
abbrev pub type0_code : ℕ → ℕ
type0_code code = cond (eqb code 0x45) 0x44 0x04

-- "as Type 0, otherwise unchanged": another type code, and the rest of the packet, bit 7 of byte 0 too, as it was
abbrev pub as_type0 : List ℕ → List ℕ
as_type0 [] = []
as_type0 (first ∷ rest) = (128 * bit 7 first + type0_code (type_code first)) ∷ rest

-- "A Type 1 request whose bus equals a port's secondary leaves there as Type 0"
abbrev pub turns : Target → ℕ → Port → Bool
turns target bus port = is_type1 target && eqb bus port.secondary

-- "one inside the range leaves unchanged", and a trusted request "leaves there unchanged": the bytes with which a packet leaves by a port
unfoldable pub leaving_by : Port → List ℕ → List ℕ
leaving_by port p = cond (turns (target_in p) (bus_of p) port) (as_type0 p) p

-- ---- the verdict

-- it leaves by the port at this place, with these bytes; UR; or a number
pub record Outcome : Type 0 where
  pub number : ℕ
  pub leaves : Bool
  pub port : ℕ
  pub written : List ℕ

abbrev pub leaves_by : ℕ → List ℕ → Outcome
leaves_by place bytes = record { number = 0; leaves = true; port = place; written = bytes }

-- "No port: the verdict UR, and nothing is written."
abbrev pub unsupported : Outcome
unsupported = record { number = 0; leaves = false; port = 0; written = [] }

-- "Only a packet that leaves is written."
abbrev pub refused : ℕ → Outcome
refused n = record { number = n; leaves = false; port = 0; written = [] }

-- a packet with no number but 0 (a bad list has one)
abbrev pub by_port : Choice → List ℕ → Outcome
by_port (Ok (Some exit)) p = leaves_by exit.place (leaving_by exit.port p)
by_port (Ok None) p = unsupported
by_port (Err list) p = unsupported

abbrev pub by_number : ℕ → Choice → List ℕ → Outcome
by_number zero c p = by_port c p
by_number (suc n) c p = refused (suc n)

-- by the choice for the packet's bus, the packet and the buffer's size
unfoldable pub decide : Choice → List ℕ → ℕ → Outcome
decide c p size = by_number (route_number c p size) c p

-- the ports, the packet, the buffer's size
abbrev pub route : List Port → List ℕ → ℕ → Outcome
route ports p size = decide (choice ports (bus_of p)) p size
