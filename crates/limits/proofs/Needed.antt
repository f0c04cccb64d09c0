-- THEOREM. Of what document 02, 12/13, asks of two writes: to swap them, type, bus, device and data are needed, that both succeed, and that nothing reads the word between; to put one
-- in the place of both, function and offset as well. For each the board and the packets that show it. Assumes nothing.
use Prim.Native.Nat.{ℕ}
use mathlib.Core.List.{List}
use mathlib.Core.Path.{◌≡◌, refl, sym, ap}
use native.Mathlib.Omega.{arith}
use lib.Bits.{bit_or}
use Rattle.words.specs.Bytes.{byte}
use Rattle.packet.specs.Request.{request_of}
use Rattle.board.specs.Description.{Board}
use Rattle.board.proofs.Computing.{computing}
use Rattle.pair.specs.Pair.{Pair}
use Rattle.pair.proofs.Computing.{pair_computing}
use Rattle.runs.specs.Bench.{changed}
use Rattle.retry.specs.Rows.{Answer}
use Rattle.retry.specs.Writes.{SameWrite, BothEnables}
use Rattle.limits.specs.Parts.{type, bus, device, function, offset, «data», SameBut, SwapsBut, JoinsBut, PairJoinsBut, SwapsThough, JoinsThough, ReadThere, SameReadBetween, SameReadJoined}
use Rattle.limits.proofs.Examples.{fresh, ready, paired, read, write, rewrite, captured_bus, captured_device}

-- the statements
pub record SwapsNeed : Type 0 where
  pub type : SwapsBut type → ⊥
  pub bus : SwapsBut bus → ⊥
  pub device : SwapsBut device → ⊥
  pub «data» : SwapsBut «data» → ⊥
  pub successful : SwapsThough → ⊥
  pub unread : SameReadBetween → ⊥

pub record JoinsNeed : Type 0 where
  pub type : JoinsBut type → ⊥
  pub bus : JoinsBut bus → ⊥
  pub device : JoinsBut device → ⊥
  pub function : PairJoinsBut function → ⊥
  pub offset : JoinsBut offset → ⊥
  pub «data» : JoinsBut «data» → ⊥
  pub successful : JoinsThough → ⊥
  pub unread : SameReadJoined → ⊥

-- ---- what tells two apart

-- the byte at 004h and at 005h of the ordinary space, and at 005h of the trusted one
abbrev ordinary4 : Board → ℕ
ordinary4 d = byte d.ordinary.bytes 0x004

abbrev ordinary5 : Board → ℕ
ordinary5 d = byte d.ordinary.bytes 0x005

abbrev trusted5 : Board → ℕ
trusted5 d = byte d.trusted.bytes 0x005

-- a Type 0 write at 004h, by its enables
abbrev pub p : ℕ → List ℕ
p enables = write 0x44 0x05 0x18 0x04 enables

-- ---- two writes with all in common but one part

abbrev other_type : List ℕ
other_type = write 0x5b 0x05 0x18 0x04 0x02

abbrev other_bus : List ℕ
other_bus = write 0x44 0x06 0x18 0x04 0x02

abbrev other_device : List ℕ
other_device = write 0x44 0x05 0x20 0x04 0x02

abbrev other_function : List ℕ
other_function = write 0x44 0x05 0x19 0x04 0x02

abbrev other_offset : List ℕ
other_offset = write 0x44 0x05 0x18 0x0c 0x02

abbrev other_data : List ℕ
other_data = rewrite 0x44 0x05 0x18 0x04 0x02

but_type : SameBut type (p 0x01) other_type
unfolding computing
but_type =
    record { writes = (refl, refl); same_type = tt; same_bus = refl; same_device = refl; same_function = refl; same_offset = refl; same_data = refl }

but_bus : SameBut bus (p 0x01) other_bus
unfolding computing
but_bus =
    record { writes = (refl, refl); same_type = refl; same_bus = tt; same_device = refl; same_function = refl; same_offset = refl; same_data = refl }

but_device : SameBut device (p 0x01) other_device
unfolding computing
but_device =
    record { writes = (refl, refl); same_type = refl; same_bus = refl; same_device = tt; same_function = refl; same_offset = refl; same_data = refl }

but_function : SameBut function (p 0x01) other_function
unfolding computing
but_function =
    record { writes = (refl, refl); same_type = refl; same_bus = refl; same_device = refl; same_function = tt; same_offset = refl; same_data = refl }

but_offset : SameBut offset (p 0x01) other_offset
unfolding computing
but_offset =
    record { writes = (refl, refl); same_type = refl; same_bus = refl; same_device = refl; same_function = refl; same_offset = tt; same_data = refl }

but_data : SameBut «data» (p 0x01) other_data
unfolding computing
but_data =
    record { writes = (refl, refl); same_type = refl; same_bus = refl; same_device = refl; same_function = refl; same_offset = refl; same_data = tt }

-- with all of them in common, and one write with both sets of enables
same : SameWrite (p 0x01) (p 0x02)
unfolding computing
same = record { writes = (refl, refl); target = refl; bus = refl; device = refl; function = refl; offset = refl; «data» = refl }

one : (q : List ℕ) → (request_of q).enables ≡ 2 → BothEnables (p 0x01) q (p 0x03)
unfolding computing
one q e =
    record {
      same = record { writes = (refl, refl); target = refl; bus = refl; device = refl; function = refl; offset = refl; «data» = refl };
      enables = ap (bit_or 1) (sym e);
      clean = refl;
    }

-- a poisoned second
abbrev poisoned : List ℕ
poisoned = changed (p 0x02) 2 0x40

same_poisoned : SameWrite (p 0x01) poisoned
unfolding computing
same_poisoned = record { writes = (refl, refl); target = refl; bus = refl; device = refl; function = refl; offset = refl; «data» = refl }

-- a read of the word
there : ReadThere (p 0x01) (read 0x04 0x00 0x04)
unfolding computing
there = record { reads = refl; target = refl; bus = refl; device = refl; function = refl; offset = refl }

-- ---- swapped

-- from a fresh board: an ordinary write captures, and a trusted one then succeeds; the other way round it is answered UR
swaps_type : SwapsBut type → ⊥
unfolding computing
swaps_type swaps = omega (arith, ap trusted5 (swaps fresh (p 0x01) other_type 16 16 refl but_type (refl, omega arith, refl) (refl, omega arith, refl)))

-- the last captures
swaps_bus : SwapsBut bus → ⊥
unfolding computing captured_bus
swaps_bus swaps = omega (arith, ap (λ (d : Board). captured_bus d.capture) (swaps ready (p 0x01) other_bus 16 16 refl but_bus (refl, omega arith, refl) (refl, omega arith, refl)))

swaps_device : SwapsBut device → ⊥
unfolding computing captured_device
swaps_device swaps =
    omega (arith, ap (λ (d : Board). captured_device d.capture) (swaps ready (p 0x01) other_device 16 16 refl but_device (refl, omega arith, refl) (refl, omega arith, refl)))

-- and of a byte that both write, the last data stand
swaps_data : SwapsBut «data» → ⊥
unfolding computing
swaps_data swaps =
    omega (arith, ap ordinary4 (swaps ready (p 0x01) (rewrite 0x44 0x05 0x18 0x04 0x01) 16 16 refl both_first (refl, omega arith, refl) (refl, omega arith, refl)))
  where
    both_first : SameBut «data» (p 0x01) (rewrite 0x44 0x05 0x18 0x04 0x01)
    both_first = record { writes = (refl, refl); same_type = refl; same_bus = refl; same_device = refl; same_function = refl; same_offset = refl; same_data = tt }

-- a poisoned one is answered UR, with the completer ID as it then is
swaps_though : SwapsThough → ⊥
unfolding computing
swaps_though swaps = omega (arith, ap (λ (a : Answer). byte a.written 4) (swaps fresh (p 0x01) poisoned 16 16 refl same_poisoned (refl, omega arith, refl) (refl, omega arith, refl)))

-- a read between sees the first, and not yet the second
read_between : SameReadBetween → ⊥
unfolding computing
read_between alike =
    omega (arith, ap (λ (a : Answer). byte a.written 12) (alike ready (p 0x01) (p 0x02) (read 0x04 0x00 0x04) 16 16 16 refl same there (refl, omega arith, refl) (refl, omega arith, refl)))

pub swaps_need : SwapsNeed
swaps_need = record { type = swaps_type; bus = swaps_bus; device = swaps_device; «data» = swaps_data; successful = swaps_though; unread = read_between }

-- ---- one in the place of both

joins_type : JoinsBut type → ⊥
unfolding computing
joins_type joins =
    omega (arith, ap trusted5 (joins ready (p 0x01) other_type (p 0x03) 16 16 16 refl but_type (one other_type refl) (refl, omega arith) (refl, omega arith, refl) (refl, omega arith, refl)))

joins_bus : JoinsBut bus → ⊥
unfolding computing captured_bus
joins_bus joins =
    omega (arith, ap (λ (d : Board). captured_bus d.capture) (joins ready (p 0x01) other_bus (p 0x03) 16 16 16 refl but_bus (one other_bus refl) (refl, omega arith) (refl, omega arith, refl) (refl, omega arith, refl)))

joins_device : JoinsBut device → ⊥
unfolding computing captured_device
joins_device joins =
    omega (arith, ap (λ (d : Board). captured_device d.capture) (joins ready (p 0x01) other_device (p 0x03) 16 16 16 refl but_device (one other_device refl) (refl, omega arith) (refl, omega arith, refl) (refl, omega arith, refl)))

joins_offset : JoinsBut offset → ⊥
unfolding computing
joins_offset joins =
    omega (arith, ap ordinary5 (joins ready (p 0x01) other_offset (p 0x03) 16 16 16 refl but_offset (one other_offset refl) (refl, omega arith) (refl, omega arith, refl) (refl, omega arith, refl)))

joins_data : JoinsBut «data» → ⊥
unfolding computing
joins_data joins =
    omega (arith, ap ordinary5 (joins ready (p 0x01) other_data (p 0x03) 16 16 16 refl but_data (one other_data refl) (refl, omega arith) (refl, omega arith, refl) (refl, omega arith, refl)))

-- the other function has not been written
joins_function : PairJoinsBut function → ⊥
unfolding pair_computing
joins_function joins =
    omega (
      arith,
      ap (λ (x : Pair). byte x.alternate.ordinary.bytes 0x005)
          (joins paired (p 0x01) other_function (p 0x03) 16 16 16 refl but_function (one other_function refl) (refl, omega arith) (refl, omega arith, refl) (refl, omega arith, refl)),
    )

-- the poisoned one has not written its byte
joins_though : JoinsThough → ⊥
unfolding computing
joins_though joins = omega (arith, ap ordinary5 (joins ready (p 0x01) poisoned (p 0x03) 16 16 16 refl same_poisoned (one poisoned refl) (refl, omega arith) (refl, omega arith, refl) (refl, omega arith, refl)))

read_joined : SameReadJoined → ⊥
unfolding computing
read_joined alike =
    omega (
      arith,
      ap (λ (a : Answer). byte a.written 13)
          (alike ready (p 0x01) (p 0x02) (p 0x03) (read 0x04 0x00 0x04) 16 16 16 16 refl same there (one (p 0x02) refl) (refl, omega arith) (refl, omega arith, refl) (refl, omega arith, refl)),
    )

pub joins_need : JoinsNeed
joins_need =
    record {
      type = joins_type;
      bus = joins_bus;
      device = joins_device;
      function = joins_function;
      offset = joins_offset;
      «data» = joins_data;
      successful = joins_though;
      unread = read_joined;
    }
