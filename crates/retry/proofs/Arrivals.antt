-- A packet that leaves a switch, and what it is for the board behind the port: its request but for the type, its data, and without a fault where it had none. Two writes
-- of the same parts arrive as two such writes. Assumes nothing.
use Prim.Native.Nat.{ℕ, zero, suc}
use mathlib.Core.Bool.{Bool, true, false, ◌&&◌, cond, true≢false}
use mathlib.Core.List.{List, []}
use mathlib.Core.Path.{◌≡◌, refl, sym, ap, ◌∙◌}
use native.Mathlib.Omega.{arith}
use lib.Dec.{eqb}
use borrow.Author.Tests.{eq-eqb, eqb-true}
use Rattle.words.specs.Bytes.{byte}
use Rattle.words.specs.Fields.{bit}
use Rattle.packet.specs.declared.Target.{Target}
use Rattle.packet.specs.declared.Target.TheVariants.{Type0, Type1, Trusted}
use Rattle.packet.specs.declared.Request.{Request}
use Rattle.packet.specs.Fields.{refuses_bit7, data_of}
use Rattle.packet.specs.Request.{number_under, request_of, packet_number}
use Rattle.packet.proofs.Laws.{number_under_lem, accepted}
use Rattle.board.specs.Serving.{serve}
use Rattle.runs.specs.Run.{packet}
use Rattle.std.specs.Prelude.{Some, None, Ok, Err}
use Rattle.ports.specs.declared.Port.{Port}
use Rattle.ports.proofs.Pairs.{port_at}
use Rattle.router.specs.Routing as routing
use Rattle.router.specs.Routing.{bus_of, target_in, turns, leaves_by, by_number, decide, route}
use Rattle.ports.specs.Choice.{Choice, choice}
use Rattle.router.specs.Row.{Router, Passes}
use Rattle.router.proofs.Verdicts.{MayLeave, leaves_iff}
use Rattle.router.proofs.Ways.{at_type0, turns_at_secondary, same_outcome}
use Rattle.retry.specs.Rows.{answered, answer_to}
use Rattle.retry.specs.Switch.{Boards, Sizes, sent, changed_at, verdict, switch_next, switch_answer}
use Rattle.retry.specs.Writes.{SameWrite, Successful}

-- ---- a packet that leaves, and what it is for the board there

-- what leaves has the number 0
leaving_number : (n : ℕ) (c : Choice) (p : List ℕ) → (by_number n c p).leaves ≡ true → (by_number n c p).number ≡ 0
leaving_number zero (Ok (Some exit)) p l = refl
leaving_number zero (Ok None) p l = refl
leaving_number zero (Err list) p l = refl
leaving_number (suc n) c p l = absurd (true≢false (sym l))

left_number : (c : Choice) (p : List ℕ) (size : ℕ) → (decide c p size).leaves ≡ true → (decide c p size).number ≡ 0
unfolding decide
left_number c p size l = leaving_number (routing.route_number c p size) c p l

-- its request and data, and that it has no fault, at a board of an edition under which it had none
pub record Arrives (p arrived : List ℕ) (turned : Bool) : Type 0 where
  pub request : request_of arrived ≡ cond turned (at_type0 (request_of p)) (request_of p)
  pub «data» : data_of arrived ≡ data_of p
  pub sound : (edition : ℕ) → number_under edition p ≡ 0 → number_under edition arrived ≡ 0
  pub back : (edition : ℕ) → packet_number p ≡ 0 → number_under edition arrived ≡ 0 → number_under edition p ≡ 0

turned_is : (target : Target) (bus : ℕ) (port : Port) (b : Bool) → turns target bus port ≡ b
    → cond b ((target ≡ Type1) × (bus ≡ port.secondary)) ((target ≡ Type1) × (bus ≡ port.secondary) → ⊥)
turned_is Type0 bus port true t = absurd (true≢false (sym t))
turned_is Type1 bus port true t = (refl, eqb-true bus port.secondary t)
turned_is Trusted bus port true t = absurd (true≢false (sym t))
turned_is target bus port false t = λ h. true≢false (sym (rw (h.0, eq-eqb bus port.secondary h.1)) ∙ t)

bit7_same : (edition first second : ℕ) → bit 7 second ≡ bit 7 first → refuses_bit7 edition first ≡ false → refuses_bit7 edition second ≡ false
bit7_same edition first second e f = ap (λ (b : ℕ). eqb edition 2 && eqb b 1) e ∙ f

arrives : (r : Router) (p arrived : List ℕ) (w : Passes r p arrived) (b : Bool) → turns (target_in p) (bus_of p) (port_at r.ports w.0) ≡ b → Arrives p arrived b
arrives r p arrived w true t =
    let became = (turns_at_secondary r p arrived w).0 (turned_is (target_in p) (bus_of p) (port_at r.ports w.0) true t) in
    record {
      request = became.request;
      «data» = became.«data»;
      sound = λ edition n.
          number_under_lem edition arrived (bit7_same edition (byte p 0) (byte arrived 0) became.bit7 (accepted edition p n)) ∙ became.faultless;
      back = λ edition f n.
          number_under_lem edition p (bit7_same edition (byte arrived 0) (byte p 0) (sym became.bit7) (accepted edition arrived n)) ∙ f;
    }
arrives r p arrived w false t =
    let same = (turns_at_secondary r p arrived w).1 (turned_is (target_in p) (bus_of p) (port_at r.ports w.0) false t) in
    record { request = ap request_of same; «data» = ap data_of same; sound = λ edition n. ap (number_under edition) same ∙ n; back = λ edition f n. ap (number_under edition) (sym same) ∙ n }

-- where a packet goes: the place of the port, and what arrives there
pub record Gone (ports : List Port) (p : List ℕ) (sizes : Sizes) : Type 0 where
  pub place : ℕ
  pub arrived : List ℕ
  pub routed : route ports p sizes.buffer ≡ leaves_by place arrived

gone : (ports : List Port) (p : List ℕ) (sizes : Sizes) → (verdict ports p sizes).leaves ≡ true → Gone ports p sizes
gone ports p sizes l =
    let o = verdict ports p sizes in
    record {
      place = o.port;
      arrived = o.written;
      routed = same_outcome o o.port (left_number (choice ports (bus_of p)) p sizes.buffer l) l refl;
    }

-- a packet that is answered with success has gone to a board
pub went : (ports : List Port) (boards : Boards) (p : List ℕ) (sizes : Sizes) → Successful (switch_answer ports boards (sent p sizes)) → Gone ports p sizes
went ports boards p sizes s = gone ports p sizes (by (verdict ports p sizes).leaves refl s)
  where
    by : (b : Bool) → (verdict ports p sizes).leaves ≡ b
        → Successful (cond b (answered (serve (boards (verdict ports p sizes).port) (verdict ports p sizes).written sizes.reply)) (record { number = (verdict ports p sizes).number; written = [] }))
        → (verdict ports p sizes).leaves ≡ true
    by true e s = e
    by false e s = absurd (omega (arith, s.1))

module _ (ports : List Port) (boards : Boards) (p : List ℕ) (sizes : Sizes) (g : Gone ports p sizes) where
  pub next_is : switch_next ports boards (sent p sizes) ≡ changed_at boards true g.place (packet g.arrived sizes.reply)
  next_is = ap (λ (o : routing.Outcome). changed_at boards o.leaves o.port (packet o.written sizes.reply)) g.routed

  pub answer_is : switch_answer ports boards (sent p sizes) ≡ answer_to (boards g.place) (packet g.arrived sizes.reply)
  answer_is =
      ap
      (λ (o : routing.Outcome).
      cond o.leaves (answered (serve (boards o.port) o.written sizes.reply)) (record { number = o.number; written = [] }))
      g.routed

  pub may : MayLeave ports p sizes.buffer g.place
  may = ((leaves_iff ports p sizes.buffer g.place g.arrived).0 g.routed).0

  pub gone_arrives : (b : Bool) → turns (target_in p) (bus_of p) (port_at ports g.place) ≡ b → Arrives p g.arrived b
  gone_arrives b t = arrives (record { ports = ports; size = sizes.buffer }) p g.arrived (g.place, g.routed) b t

-- ---- two that arrive are one write again

-- a part of the request that the type does not touch
pub untouched : {A : Type 0} (f : Request → A) (p a : List ℕ) (b : Bool) → f (at_type0 (request_of p)) ≡ f (request_of p) → Arrives p a b → f (request_of a) ≡ f (request_of p)
untouched f p a true same x = ap f x.request ∙ same
untouched f p a false same x = ap f x.request

pub arrive_target : (p q a c : List ℕ) (b : Bool) → Arrives p a b → Arrives q c b → (request_of p).target ≡ (request_of q).target → (request_of a).target ≡ (request_of c).target
arrive_target p q a c true x y t = ap (λ (z : Request). z.target) x.request ∙ sym (ap (λ (z : Request). z.target) y.request)
arrive_target p q a c false x y t = ap (λ (z : Request). z.target) x.request ∙ t ∙ sym (ap (λ (z : Request). z.target) y.request)

module _ (p q a c : List ℕ) (b : Bool) (x : Arrives p a b) (y : Arrives q c b) where
  alike : {A : Type 0} (f : Request → A) → f (at_type0 (request_of p)) ≡ f (request_of p) → f (at_type0 (request_of q)) ≡ f (request_of q)
      → f (request_of p) ≡ f (request_of q) → f (request_of a) ≡ f (request_of c)
  alike f i j e = untouched f p a b i x ∙ e ∙ sym (untouched f q c b j y)

  pub arrive_same : SameWrite p q → SameWrite a c
  arrive_same s =
      record {
        writes = (untouched (λ z. z.writes) p a b refl x ∙ s.writes.0, untouched (λ z. z.writes) q c b refl y ∙ s.writes.1);
        target = arrive_target p q a c b x y s.target;
        bus = alike (λ z. z.bus) refl refl s.bus;
        device = alike (λ z. z.device) refl refl s.device;
        function = alike (λ z. z.function) refl refl s.function;
        offset = alike (λ z. z.offset) refl refl s.offset;
        «data» = x.«data» ∙ s.«data» ∙ sym y.«data»;
      }
