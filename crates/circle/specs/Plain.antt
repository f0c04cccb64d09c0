-- What the statements of proofs/Asked.antt say of packets and requests: document 02, 5/13, "What we write must read back as the same request".
-- Assumes nothing.
use Rattle.std.specs.Prelude.{ℕ, ◌<◌, Bool, true, false, List, ◌≡◌}
use Rattle.words.specs.Bytes.{byte}
use Rattle.words.specs.Fields.{bits, bit}
use Rattle.packet.specs.declared.Target.{Target}
use Rattle.packet.specs.declared.Target.TheVariants.{Type0, Type1, Trusted}
use Rattle.packet.specs.declared.Request.{Request}
use Rattle.packet.specs.Fields.{digest}
use Rattle.asking.specs.declared.Parts.{Parts}

-- a packet's bytes are bytes
abbrev pub Octets : List ℕ → Type 0
Octets p = (k : ℕ) → byte p k < 256

-- "digest bit clear, reserved bits 0". A reserved bit is one that no field of document 01's "Bytes as sent" has
pub record Plain (p : List ℕ) : Type 0 where
  -- "0: bit 7 reserved and ignored; bits 6 to 0 the type code.", and by 02, 9/13, refused under edition 2
  pub first : bit 7 (byte p 0) ≡ 0
  -- "1: bits 6:4 TC. [..] Other bits are ignored."
  pub one : (bit 7 (byte p 1) ≡ 0) × (bits 3 0 (byte p 1) ≡ 0)
  -- "2: bit 7 digest present, bit 6 poisoned, bits 5:4 Attr, bits 1:0 with byte 3 the Length. Other bits are ignored."
  pub two : bits 3 2 (byte p 2) ≡ 0
  pub undigested : digest (byte p 2) ≡ 0
  -- "10: bits 3:0, 11: bits 7:2."
  pub ten : bits 7 4 (byte p 10) ≡ 0
  pub eleven : bits 1 0 (byte p 11) ≡ 0

-- "04h and 44h (read, write, Type 0), 05h and 45h (read, write, Type 1), 1Bh and 5Bh (trusted read, write)": whether it writes, and where
abbrev pub kind_of : Bool → Target → ℕ
kind_of false Type0 = 0x04
kind_of true Type0 = 0x44
kind_of false Type1 = 0x05
kind_of true Type1 = 0x45
kind_of false Trusted = 0x1b
kind_of true Trusted = 0x5b

-- the parts from which a request is written
abbrev pub parts_of : Request → Parts
parts_of q =
    record {
      kind = kind_of q.writes q.target;
      requester = q.requester;
      tag = q.tag;
      bus = q.bus;
      device = q.device;
      function = q.function;
      offset = q.offset;
      enables = q.enables;
    }
