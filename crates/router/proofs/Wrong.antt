-- THEOREMS. A router that has one of these faults at some list, packet and buffer is not right there, whatever it does elsewhere: it does not meet the promise of
-- `router::route`. And each fault can be had: for each there are a list, a packet and a buffer on which it would show. Assumes nothing.
use Prim.Native.Nat.{ℕ, zero, suc, ◌≤◌, ◌<◌}
use mathlib.Core.Bool.{true, false, true≢false}
use mathlib.Core.List.{List, [], ◌∷◌}
use mathlib.Core.Logic.{⊎_elim}
use mathlib.Core.Path.{◌≡◌, refl, sym, ap, ◌∙◌}
use native.Mathlib.Omega.{arith}
use Rattle.std.proofs.lemmas.Bool.{cases_lt}
use Rattle.std.specs.Prelude.{Ok}
use lib.ListN.{length, replicate, take, drop}
use lib.Seq.{take-append_seam}
use borrow.Author.Tests.{le-leb}
use Rattle.words.specs.Bytes.{byte}
use Rattle.packet.specs.Request.{trusted}
use Rattle.packet.proofs.Laws.{number_short}
use Rattle.ports.specs.declared.Port.{Port}
use Rattle.ports.specs.Ports.{has, meet, two_meet, bad_list}
use Rattle.ports.proofs.Pairs.{port_at, Good, meet_comm, good_of}
use Rattle.router.specs.Routing.{bus_of, as_type0, route}
use Rattle.router.specs.declared.Verdict.TheVariants.{Leaves, Unsupported}
use Rattle.router.specs.Promise.{Seen, told, over, shows}
use Rattle.router.specs.Wrong.{AnyRouter, RightAt, TwoPlaces, Contains, ShareOneEnd}
use Rattle.router.proofs.Verdicts.{checks_in_order, leaving_number, silent_buffer}
use Rattle.router.proofs.Ways.{trusted_kept, same_outcome}

-- the statements, of any router, list, packet and buffer
pub record WrongRoutersCaught : Type 0 where
  -- an overlap test that misses containment, or ranges that share one end
  pub contained : (f : AnyRouter) (ports : List Port) (p buffer : List ℕ) (i j : ℕ) → Contains ports i j → ((f ports p buffer).number ≡ 1 → ⊥)
      → RightAt f ports p buffer → ⊥
  pub shared_end : (f : AnyRouter) (ports : List Port) (p buffer : List ℕ) (i j : ℕ) → ShareOneEnd ports i j → ((f ports p buffer).number ≡ 1 → ⊥)
      → RightAt f ports p buffer → ⊥
  -- 33 ports, whatever the first 32 are
  pub one_more : (f : AnyRouter) (ports : List Port) (p buffer : List ℕ) → length ports ≡ 33 → ((f ports p buffer).number ≡ 1 → ⊥)
      → RightAt f ports p buffer → ⊥
  -- a match that hides a bad list
  pub hidden : (f : AnyRouter) (ports : List Port) (p buffer : List ℕ) → (Good ports → ⊥) → (f ports p buffer).leaves ≡ true → RightAt f ports p buffer → ⊥
  -- writing before the verdict: a byte of the buffer is another, and nothing leaves
  pub written : (f : AnyRouter) (ports : List Port) (p buffer : List ℕ) → (f ports p buffer).leaves ≡ false → ((f ports p buffer).buffer ≡ buffer → ⊥)
      → RightAt f ports p buffer → ⊥
  -- the bus taken from a packet that is too short: it is not refused with 3
  pub short : (f : AnyRouter) (ports : List Port) (p buffer : List ℕ) → Good ports → 20 ≤ length buffer → length p < 12
      → ((f ports p buffer).number ≡ 3 → ⊥) → RightAt f ports p buffer → ⊥
  -- a trusted packet changed: what is in the buffer is not its own bytes
  pub changed : (f : AnyRouter) (ports : List Port) (p buffer : List ℕ) → trusted p ≡ true → (f ports p buffer).leaves ≡ true
      → (take (length p) (f ports p buffer).buffer ≡ p → ⊥) → RightAt f ports p buffer → ⊥

-- ---- lists that are not good

two_meet_lem : (ports : List Port) (i j : ℕ) → TwoPlaces ports i j → meet (port_at ports i) (port_at ports j) ≡ true → Good ports → ⊥
two_meet_lem ports i j two m g =
    ⊎_elim
    (λ l. true≢false (sym m ∙ g.sound.apart i j l two.inside.1))
    (λ l. true≢false (sym m ∙ meet_comm (port_at ports i) (port_at ports j) ∙ g.sound.apart j i (below i j l two.different) two.inside.0))
    (cases_lt i j)
  where
    below : (i j : ℕ) → j ≤ i → (i ≡ j → ⊥) → j < i
    below i j l n = ⊎_elim (λ h. h) (λ h. absurd (n (omega arith))) (cases_lt j i)

contains_meet : (ports : List Port) (i j : ℕ) → Contains ports i j → meet (port_at ports i) (port_at ports j) ≡ true
contains_meet ports i j c =
    rw (
      le-leb (port_at ports i).secondary (port_at ports j).subordinate (omega (arith, c.below, c.two.ordered.1)),
      le-leb (port_at ports j).secondary (port_at ports i).subordinate (omega (arith, c.above, c.two.ordered.1)),
    )

ends_meet : (ports : List Port) (i j : ℕ) → ShareOneEnd ports i j → meet (port_at ports i) (port_at ports j) ≡ true
ends_meet ports i j c =
    rw (
      le-leb (port_at ports i).secondary (port_at ports j).subordinate (omega (arith, c.end, c.two.ordered.0, c.two.ordered.1)),
      le-leb (port_at ports j).secondary (port_at ports i).subordinate (omega (arith, c.end)),
    )

-- ---- what a router that is right gives

module _ (f : AnyRouter) (ports : List Port) (p buffer : List ℕ) (right : RightAt f ports p buffer) where
  right_number : (f ports p buffer).number ≡ (route ports p (length buffer)).number
  unfolding shows
  right_number = ap (λ (x : Seen). x.number) right

  right_leaves : (f ports p buffer).leaves ≡ (route ports p (length buffer)).leaves
  unfolding shows
  right_leaves = ap (λ (x : Seen). x.leaves) right

  refuses : (Good ports → ⊥) → (f ports p buffer).number ≡ 1
  refuses n = right_number ∙ (checks_in_order ports p (length buffer)).list n

  hides_nothing : (Good ports → ⊥) → (f ports p buffer).leaves ≡ true → ⊥
  hides_nothing n e =
      let zero_number = leaving_number ports p (length buffer) (sym right_leaves ∙ e) in
      omega (arith, zero_number, (checks_in_order ports p (length buffer)).list n)

  writes_nothing : (f ports p buffer).leaves ≡ false → (f ports p buffer).buffer ≡ buffer
  writes_nothing e = ap (λ (x : Seen). x.buffer) right ∙ silent_buffer ports p buffer (sym right_leaves ∙ e)

  refuses_short : Good ports → 20 ≤ length buffer → length p < 12 → (f ports p buffer).number ≡ 3
  refuses_short g room h =
      let n = number_short p h in
      right_number ∙ (checks_in_order ports p (length buffer)).packet g room (λ z. omega (arith, n, z)) ∙ n

  keeps_trusted : trusted p ≡ true → (f ports p buffer).leaves ≡ true → take (length p) (f ports p buffer).buffer ≡ p
  unfolding shows
  keeps_trusted t e =
      let o = route ports p (length buffer) in
      let l = sym right_leaves ∙ e in
      let same = same_outcome o o.port (leaving_number ports p (length buffer) l) l refl in
      let own : o.written ≡ p = trusted_kept (record { ports = ports; size = length buffer }) p o.written t (o.port, same) in
      ap (λ (x : Seen). take (length p) x.buffer) right
      ∙ ap (λ (w : List ℕ). take (length p) (over w buffer)) own
      ∙ take-append_seam p (drop (length p) buffer)

pub wrong_routers_caught : WrongRoutersCaught
wrong_routers_caught =
    record {
      contained = λ f ports p buffer i j c wrong right. wrong (refuses f ports p buffer right (two_meet_lem ports i j c.two (contains_meet ports i j c)));
      shared_end = λ f ports p buffer i j c wrong right. wrong (refuses f ports p buffer right (two_meet_lem ports i j c.two (ends_meet ports i j c)));
      one_more = λ f ports p buffer n wrong right. wrong (refuses f ports p buffer right (λ g. omega (arith, n, g.few)));
      hidden = λ f ports p buffer n e right. hides_nothing f ports p buffer right n e;
      written = λ f ports p buffer e wrong right. wrong (writes_nothing f ports p buffer right e);
      short = λ f ports p buffer g room h wrong right. wrong (refuses_short f ports p buffer right g room h);
      changed = λ f ports p buffer t e wrong right. wrong (keeps_trusted f ports p buffer right t e);
    }

-- ---- each fault can be had

-- a port with TCS routing
abbrev pub port : ℕ → ℕ → Port
port secondary subordinate = record { secondary = secondary; subordinate = subordinate; tcs = 1 }

-- so many ports of a bus each
abbrev pub each : ℕ → List Port
each zero = []
each (suc n) = port n n ∷ each n

-- a Type 1 read and a trusted read for bus 05h
abbrev pub type1_read : List ℕ
type1_read = 0x05 ∷ 0x00 ∷ 0x00 ∷ 0x01 ∷ 0x01 ∷ 0x00 ∷ 0x08 ∷ 0x0f ∷ 0x05 ∷ 0x18 ∷ 0x00 ∷ 0x04 ∷ []

abbrev pub trusted_read : List ℕ
trusted_read = 0x1b ∷ 0x00 ∷ 0x00 ∷ 0x01 ∷ 0x01 ∷ 0x00 ∷ 0x08 ∷ 0x0f ∷ 0x05 ∷ 0x18 ∷ 0x00 ∷ 0x04 ∷ []

abbrev pub twenty : List ℕ
twenty = replicate 20 0xee

-- UR to everything, with the packet written or not; and a router by which everything leaves, as Type 0
abbrev pub unsupporting : AnyRouter
unsupporting ports p buffer = told (Ok Unsupported) buffer

abbrev pub writing : AnyRouter
writing ports p buffer = told (Ok Unsupported) (over p buffer)

abbrev pub taking : AnyRouter
taking ports p buffer = told (Ok (Leaves 0 (length p))) (over (as_type0 p) buffer)

pub record SuchRoutersExist : Type 0 where
  -- a range inside another, in either order, and ranges that share one end: each is there, and the router that gives no 1
  pub contained : Contains (port 0x00 0x0f ∷ port 0x05 0x06 ∷ []) 0 1 × Contains (port 0x05 0x06 ∷ port 0x00 0x0f ∷ []) 1 0
  pub shared_end : ShareOneEnd (port 0x00 0x05 ∷ port 0x05 0x06 ∷ []) 0 1 × ShareOneEnd (port 0x05 0x06 ∷ port 0x00 0x05 ∷ []) 1 0
  pub unrefused : (ports : List Port) (p buffer : List ℕ) → (unsupporting ports p buffer).number ≡ 1 → ⊥
  -- 33 ports, of which the first 32 are a good list and no two meet
  pub one_more : (length (each 33) ≡ 33) × (bad_list (take 32 (each 33)) ≡ false) × (two_meet (each 33) ≡ false)
  -- a list that is bad at its end, whose first port has the bus
  pub hidden : (Good (port 0x05 0x05 ∷ port 0x09 0x08 ∷ []) → ⊥) × (has (port 0x05 0x05) (bus_of type1_read) ≡ true)
      × ((taking (port 0x05 0x05 ∷ port 0x09 0x08 ∷ []) type1_read twenty).leaves ≡ true)
  pub written : ((writing [] type1_read twenty).leaves ≡ false) × ((writing [] type1_read twenty).buffer ≡ twenty → ⊥)
  pub short : Good [] × (20 ≤ length twenty) × ((unsupporting [] (0x05 ∷ []) twenty).number ≡ 3 → ⊥)
  pub changed : (trusted trusted_read ≡ true) × ((taking [] trusted_read twenty).leaves ≡ true) × (take 12 (taking [] trusted_read twenty).buffer ≡ trusted_read → ⊥)

places : (i j : ℕ) (ports : List Port) → (i ≡ j → ⊥) → i < length ports → j < length ports → (port_at ports i).secondary ≤ (port_at ports i).subordinate
    → (port_at ports j).secondary ≤ (port_at ports j).subordinate → TwoPlaces ports i j
places i j ports n a b c d = record { different = n; inside = (a, b); ordered = (c, d) }

first_byte : (a b : List ℕ) → (byte a 0 ≡ byte b 0 → ⊥) → a ≡ b → ⊥
first_byte a b n e = n (ap (λ (l : List ℕ). byte l 0) e)

pub such_routers_exist : SuchRoutersExist
unfolding bad_list
such_routers_exist =
    record {
      contained = (
        record { two = places 0 1 _ (λ e. omega arith) (omega arith) (omega arith) (omega arith) (omega arith); below = omega arith; above = omega arith },
        record { two = places 1 0 _ (λ e. omega arith) (omega arith) (omega arith) (omega arith) (omega arith); below = omega arith; above = omega arith },
      );
      shared_end = (
        record { two = places 0 1 _ (λ e. omega arith) (omega arith) (omega arith) (omega arith) (omega arith); end = refl },
        record { two = places 1 0 _ (λ e. omega arith) (omega arith) (omega arith) (omega arith) (omega arith); end = refl },
      );
      unrefused = λ ports p buffer e. omega (arith, e);
      one_more = (refl, refl, refl);
      hidden = (λ g. omega (arith, g.sound.ordered 1 (omega arith)), refl, refl);
      written = (refl, first_byte _ _ (λ e. omega (arith, e)));
      short = (good_of [] refl, omega arith, λ e. omega (arith, e));
      changed = (refl, refl, first_byte _ _ (λ e. omega (arith, e)));
    }
