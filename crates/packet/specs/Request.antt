-- Document 01, "The packet": the checks 3 to 6, lowest number first, and the request that a packet with none of those faults is.
-- Assumes nothing.
use Rattle.std.specs.Prelude.{ℕ, Bool, true, false, not, ◌&&◌, ◌||◌, List, [], ◌∷◌, Option, Some, None, Result, Ok, Err, ◌≡◌, eqb, ltb, length}
use Rattle.answers.specs.declared.Refusal.{Refusal}
use Rattle.answers.specs.Checks.{Check, check, first_that_applies}
use Rattle.answers.specs.Numbers.{number_of}
use Rattle.words.specs.Bytes.{byte}
use Rattle.packet.specs.declared.Target.{Target}
use Rattle.packet.specs.declared.Target.TheVariants.{Type0, Type1, Trusted}
use Rattle.packet.specs.declared.Access.{Access}
use Rattle.packet.specs.declared.Request.{Request}
use Rattle.packet.specs.Fields.{type_code, refuses_bit7, type_of, poison, requester_of, first_enables, device_of, function_of, offset_of, wrong_field, whole_length}

-- the type of a packet, by its first byte
abbrev pub typed : List ℕ → Option Access
typed p = type_of (type_code (byte p 0))

abbrev pub unknown : Option Access → Bool
unknown (Some access) = false
unknown None = true

abbrev pub writes_of : Option Access → Bool
writes_of (Some access) = access.writes
writes_of None = false

-- (no request has an unknown type: it is refused)
abbrev pub target_of : Option Access → Target
target_of (Some access) = access.target
target_of None = Type1

-- "3 the packet has fewer than 12 bytes; 4 the type code isn't one of the six; 5 the packet length doesn't fit its type and digest bit;
-- 6 a fixed header field has another value"; and 4 also where, 02, 9/13, the edition "gives answer 4 when [bit 7] is set"
abbrev pub checks_under : ℕ → List ℕ → List Check
checks_under edition p =
    check 3 (ltb (length p) 12)
    ∷ check 4 (refuses_bit7 edition (byte p 0) || unknown (typed p))
    ∷ check 5 (not (eqb (length p) (whole_length (writes_of (typed p)) (byte p 2))))
    ∷ check 6 (wrong_field (byte p 1) (byte p 2) (byte p 3) (byte p 7))
    ∷ []

abbrev pub number_under : ℕ → List ℕ → ℕ
number_under edition p = first_that_applies (checks_under edition p)

-- where bit 7 is ignored: at a board of edition 1, and, 02, 9/13, "The router keeps ignoring it."
abbrev pub packet_checks : List ℕ → List Check
packet_checks p = checks_under 1 p

abbrev pub packet_number : List ℕ → ℕ
packet_number p = number_under 1 p

-- the request that a packet asks for, where it is not refused
unfoldable pub request_of : List ℕ → Request
request_of p =
    record {
      target = target_of (typed p);
      writes = writes_of (typed p);
      poisoned = eqb (poison (byte p 2)) 1;
      requester = requester_of p;
      tag = byte p 6;
      enables = first_enables (byte p 7);
      bus = byte p 8;
      device = device_of (byte p 9);
      function = function_of (byte p 9);
      offset = offset_of (byte p 10) (byte p 11);
    }

-- a request for the trusted space
abbrev pub is_trusted : Target → Bool
is_trusted Type0 = false
is_trusted Type1 = false
is_trusted Trusted = true

-- "A packet is trusted if its first byte, bit 7 cleared, is 1Bh or 5Bh, whatever its length. All others, the empty one included, are
-- ordinary."
abbrev pub trusted : List ℕ → Bool
trusted [] = false
trusted (first ∷ rest) = eqb (type_code first) 0x1b || eqb (type_code first) 0x5b

-- 02, 9/13: "Under edition 2 a packet with bit 7 set counts as ordinary in demand 3"
abbrev pub trusted_under : ℕ → List ℕ → Bool
trusted_under edition p = not (refuses_bit7 edition (byte p 0)) && trusted p

-- what `packet::decode_under` answers: the request of a packet without a fault, else the refusal with the lowest number. An edition that is neither 1 nor 2 is no
-- board's (02, 9/13: "Any other edition is answer 1", which the board gives before): here it ignores bit 7, as 1 does
abbrev pub DecodesUnder : ℕ → List ℕ → Result Request Refusal → Type 0
DecodesUnder edition p (Ok request) = (number_under edition p ≡ 0) × (request ≡ request_of p)
DecodesUnder edition p (Err refusal) = number_under edition p ≡ number_of refusal

-- what `packet::decode` answers, which ignores bit 7
abbrev pub Decodes : List ℕ → Result Request Refusal → Type 0
Decodes p r = DecodesUnder 1 p r
