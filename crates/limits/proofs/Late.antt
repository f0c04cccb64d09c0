-- THEOREM. A repeat that comes late: with a write to the same place between, a write to the other space, a reset, another's capture or bits that the board itself has set, it
-- is not what it was. For each the board and the packets that show it. And the reply's size matters. Assumes nothing.
use Prim.Native.Nat.{ℕ}
use mathlib.Core.Bool.{Bool, true, false}
use mathlib.Core.List.{List}
use mathlib.Core.Path.{refl, ap}
use native.Mathlib.Omega.{arith}
use Rattle.words.specs.Bytes.{byte}
use Rattle.board.specs.Description.{Board}
use Rattle.board.proofs.Computing.{computing}
use Rattle.runs.specs.Run.{packet, reset}
use Rattle.retry.specs.Rows.{Answer}
use Rattle.limits.specs.Between.{SameReplyAfter, SameLeftAfter, WriteThere, WriteOther, Reset, OtherBus, OtherDevice, SameWithSizes, SameLeftAnew}
use Rattle.limits.proofs.Examples.{ready, failing, read, write, rewrite, captured_bus, captured_device}

-- the statements, of packets for the trusted space and of ordinary ones. The same reply twice:
pub record RepliesDiffer : Type 0 where
  -- a read, after a write to its place
  pub there : (trusted : Bool) → SameReplyAfter (WriteThere trusted false) → ⊥
  -- an ordinary read at A, after a trusted write at B; a trusted read, after an ordinary write of another bus
  pub other_space : (trusted : Bool) → SameReplyAfter (WriteOther trusted) → ⊥
  -- an ordinary read is answered with another completer ID, and a trusted one UR
  pub reset : (trusted : Bool) → SameReplyAfter (Reset trusted) → ⊥
  pub other_bus : (trusted : Bool) → SameReplyAfter (OtherBus trusted) → ⊥
  pub other_device : (trusted : Bool) → SameReplyAfter (OtherDevice trusted) → ⊥
  -- a reply of 16 bytes, and then one of 15
  pub sizes : SameWithSizes → ⊥

-- and what was left stays:
pub record LeftDiffers : Type 0 where
  -- a late write puts its old data over newer ones
  pub there : (trusted : Bool) → SameLeftAfter (WriteThere trusted true) → ⊥
  -- a Type 0 write captures again, after a reset and after another's capture (no trusted one captures)
  pub reset : SameLeftAfter (Reset false) → ⊥
  pub other_bus : SameLeftAfter (OtherBus false) → ⊥
  pub other_device : SameLeftAfter (OtherDevice false) → ⊥
  -- an error that the board has found in the meantime is cleared, and nobody has read it
  pub anew : (trusted : Bool) → SameLeftAnew trusted → ⊥

-- ---- what tells two apart

data_byte : Answer → ℕ
data_byte a = byte a.written 12

status : Answer → ℕ
status a = byte a.written 6

completer_bus : Answer → ℕ
completer_bus a = byte a.written 4

completer_low : Answer → ℕ
completer_low a = byte a.written 5

-- a write of four bytes at 004h, and one to another bus or device at 00Ch
abbrev pub p : List ℕ
p = write 0x44 0x05 0x18 0x04 0x0f

abbrev pub elsewhere : ℕ → ℕ → List ℕ
elsewhere bus nine = write 0x44 bus nine 0x0c 0x0f

-- ---- the reply

replies_there : (trusted : Bool) → SameReplyAfter (WriteThere trusted false) → ⊥
unfolding computing data_byte
replies_there false same =
    omega (
      arith,
      ap data_byte
          (same ready (read 0x04 0x00 0x04) 16 (packet p 16) refl (refl, omega arith, refl)
          (record {
            space = refl;
            kind = refl;
            other = p;
            write = record { size = 16; is = refl; writes = refl; successful = (refl, omega arith, refl) };
            target = refl;
            bus = refl;
            device = refl;
            function = refl;
            offset = refl;
          })),
    )
replies_there true same =
    omega (
      arith,
      ap data_byte
          (same ready (read 0x1b 0x00 0x04) 16 (packet (write 0x5b 0x05 0x18 0x04 0x0f) 16) refl (refl, omega arith, refl)
          (record {
            space = refl;
            kind = refl;
            other = write 0x5b 0x05 0x18 0x04 0x0f;
            write = record { size = 16; is = refl; writes = refl; successful = (refl, omega arith, refl) };
            target = refl;
            bus = refl;
            device = refl;
            function = refl;
            offset = refl;
          })),
    )

-- a trusted read at 004h
abbrev pub trusted_read : List ℕ
trusted_read = read 0x1b 0x00 0x04

-- an ordinary read at A, and a trusted write at B
replies_other : (trusted : Bool) → SameReplyAfter (WriteOther trusted) → ⊥
unfolding computing data_byte status
replies_other false same =
    omega (
      arith,
      ap data_byte
          (same ready (read 0x04 0x01 0x04) 16 (packet (write 0x5b 0x05 0x18 0x0c 0x0f) 16) refl (refl, omega arith, refl)
          (record { space = refl; other = write 0x5b 0x05 0x18 0x0c 0x0f; write = record { size = 16; is = refl; writes = refl; successful = (refl, omega arith, refl) }; other_space = refl })),
    )
replies_other true same =
    omega (
      arith,
      ap status
          (same ready trusted_read 16 (packet (elsewhere 0x06 0x18) 16) refl (refl, omega arith, refl)
          (record { space = refl; other = elsewhere 0x06 0x18; write = record { size = 16; is = refl; writes = refl; successful = (refl, omega arith, refl) }; other_space = refl })),
    )

replies_reset : (trusted : Bool) → SameReplyAfter (Reset trusted) → ⊥
unfolding computing status completer_bus
replies_reset false same =
    omega (arith, ap completer_bus (same ready (read 0x04 0x00 0x04) 16 reset refl (refl, omega arith, refl) (record { space = refl; is = refl })))
replies_reset true same = omega (arith, ap status (same ready trusted_read 16 reset refl (refl, omega arith, refl) (record { space = refl; is = refl })))

replies_bus : (trusted : Bool) → SameReplyAfter (OtherBus trusted) → ⊥
unfolding computing status completer_bus
replies_bus false same =
    omega (
      arith,
      ap completer_bus
          (same ready (read 0x04 0x00 0x04) 16 (packet (elsewhere 0x06 0x18) 16) refl (refl, omega arith, refl)
          (record { space = refl; other = elsewhere 0x06 0x18; write = record { size = 16; is = refl; writes = refl; successful = (refl, omega arith, refl) }; type0 = refl; bus = λ e. omega (arith, e); device = refl; offset = λ e. omega (arith, e) })),
    )
replies_bus true same =
    omega (
      arith,
      ap status
          (same ready trusted_read 16 (packet (elsewhere 0x06 0x18) 16) refl (refl, omega arith, refl)
          (record { space = refl; other = elsewhere 0x06 0x18; write = record { size = 16; is = refl; writes = refl; successful = (refl, omega arith, refl) }; type0 = refl; bus = λ e. omega (arith, e); device = refl; offset = λ e. omega (arith, e) })),
    )

replies_device : (trusted : Bool) → SameReplyAfter (OtherDevice trusted) → ⊥
unfolding computing status completer_low
replies_device false same =
    omega (
      arith,
      ap completer_low
          (same ready (read 0x04 0x00 0x04) 16 (packet (elsewhere 0x05 0x20) 16) refl (refl, omega arith, refl)
          (record { space = refl; other = elsewhere 0x05 0x20; write = record { size = 16; is = refl; writes = refl; successful = (refl, omega arith, refl) }; type0 = refl; bus = refl; device = λ e. omega (arith, e); offset = λ e. omega (arith, e) })),
    )
replies_device true same =
    omega (
      arith,
      ap status
          (same ready trusted_read 16 (packet (elsewhere 0x05 0x20) 16) refl (refl, omega arith, refl)
          (record { space = refl; other = elsewhere 0x05 0x20; write = record { size = 16; is = refl; writes = refl; successful = (refl, omega arith, refl) }; type0 = refl; bus = refl; device = λ e. omega (arith, e); offset = λ e. omega (arith, e) })),
    )

replies_sizes : SameWithSizes → ⊥
unfolding computing
replies_sizes same = omega (arith, ap (λ (a : Answer). a.number) (same ready p 16 15 refl (refl, omega arith, refl)))

pub replies_differ : RepliesDiffer
replies_differ =
    record {
      there = replies_there;
      other_space = replies_other;
      reset = replies_reset;
      other_bus = replies_bus;
      other_device = replies_device;
      sizes = replies_sizes;
    }

-- ---- what is left

left_there : (trusted : Bool) → SameLeftAfter (WriteThere trusted true) → ⊥
unfolding computing
left_there false same =
    omega (
      arith,
      ap (λ (d : Board). byte d.ordinary.bytes 0x004)
          (same ready p 16 (packet (rewrite 0x44 0x05 0x18 0x04 0x0f) 16) refl (refl, omega arith, refl)
          (record {
            space = refl;
            kind = refl;
            other = rewrite 0x44 0x05 0x18 0x04 0x0f;
            write = record { size = 16; is = refl; writes = refl; successful = (refl, omega arith, refl) };
            target = refl;
            bus = refl;
            device = refl;
            function = refl;
            offset = refl;
          })),
    )
left_there true same =
    omega (
      arith,
      ap (λ (d : Board). byte d.trusted.bytes 0x004)
          (same ready (write 0x5b 0x05 0x18 0x04 0x0f) 16 (packet (rewrite 0x5b 0x05 0x18 0x04 0x0f) 16) refl (refl, omega arith, refl)
          (record {
            space = refl;
            kind = refl;
            other = rewrite 0x5b 0x05 0x18 0x04 0x0f;
            write = record { size = 16; is = refl; writes = refl; successful = (refl, omega arith, refl) };
            target = refl;
            bus = refl;
            device = refl;
            function = refl;
            offset = refl;
          })),
    )

left_reset : SameLeftAfter (Reset false) → ⊥
unfolding computing captured_bus
left_reset same = omega (arith, ap (λ (d : Board). captured_bus d.capture) (same ready p 16 reset refl (refl, omega arith, refl) (record { space = refl; is = refl })))

left_bus : SameLeftAfter (OtherBus false) → ⊥
unfolding computing captured_bus
left_bus same =
    omega (
      arith,
      ap (λ (d : Board). captured_bus d.capture)
          (same ready p 16 (packet (elsewhere 0x06 0x18) 16) refl (refl, omega arith, refl)
          (record { space = refl; other = elsewhere 0x06 0x18; write = record { size = 16; is = refl; writes = refl; successful = (refl, omega arith, refl) }; type0 = refl; bus = λ e. omega (arith, e); device = refl; offset = λ e. omega (arith, e) })),
    )

left_device : SameLeftAfter (OtherDevice false) → ⊥
unfolding computing captured_device
left_device same =
    omega (
      arith,
      ap (λ (d : Board). captured_device d.capture)
          (same ready p 16 (packet (elsewhere 0x05 0x20) 16) refl (refl, omega arith, refl)
          (record { space = refl; other = elsewhere 0x05 0x20; write = record { size = 16; is = refl; writes = refl; successful = (refl, omega arith, refl) }; type0 = refl; bus = refl; device = λ e. omega (arith, e); offset = λ e. omega (arith, e) })),
    )

-- bit 0 at 008h is cleared, set again by the board, and cleared again
left_anew : (trusted : Bool) → SameLeftAnew trusted → ⊥
unfolding computing
left_anew false same =
    omega (
      arith,
      ap (λ (d : Board). byte d.ordinary.bytes 0x008)
          (same failing (write 0x44 0x05 0x18 0x08 0x0f) 16 0x008 0x01 refl refl (refl, omega arith, refl) (omega arith)),
    )
left_anew true same =
    omega (
      arith,
      ap (λ (d : Board). byte d.trusted.bytes 0x008)
          (same failing (write 0x5b 0x05 0x18 0x08 0x0f) 16 0x008 0x01 refl refl (refl, omega arith, refl) (omega arith)),
    )

pub left_differs : LeftDiffers
left_differs = record { there = left_there; reset = left_reset; other_bus = left_bus; other_device = left_device; anew = left_anew }
