-- THEOREMS. What a packet is when it leaves. A trusted packet's bytes never alter, through any number of routers in a row. A Type 1 packet leaves as it is,
-- or as Type 0 where its bus is the port's secondary; then a board's own decoder, of edition 1 (02, 9/13), reads the same request but for its type. Through a
-- row it becomes Type 0 at most once, at the last router: none lets a Type 0 packet leave. Assumes nothing.
use Prim.Native.Nat.{ℕ, suc, ◌+◌, ◌*◌, ◌<◌}
use mathlib.Core.Bool.{Bool, true, false, not, cond, true≢false}
use mathlib.Core.List.{List, [], ◌∷◌, ◌++◌}
use mathlib.Core.Logic.{◌⊎◌, ⊎_elim}
use mathlib.Core.Path.{◌≡◌, refl, sym, ap, ◌∙◌, subst}
use native.Mathlib.Omega.{arith}
use lib.Dec.{eqb, ltb}
use lib.ListN.{length, take, drop}
use lib.Seq.{take-append_seam, drop-append_seam}
use borrow.Author.Tests.{eq-eqb, eqb-true}
use Rattle.std.proofs.lemmas.Bool.{cases_Bool}
use Rattle.answers.specs.Checks.{check, first_that_applies}
use Rattle.words.specs.Bytes.{byte}
use Rattle.words.specs.Fields.{bit}
use Rattle.packet.specs.declared.Target.{Target}
use Rattle.packet.specs.declared.Target.TheVariants.{Type0, Type1, Trusted}
use Rattle.packet.specs.declared.Access.{Access}
use Rattle.std.specs.Prelude.{Option, Result, Ok}
use Rattle.answers.specs.declared.Refusal.{Refusal}
use Rattle.packet.specs.declared.Request.{Request}
use Rattle.packet.specs.Fields.{known, type_code, type_of, data_of, wrong_field, whole_length}
use Rattle.packet.specs.Request.{unknown, writes_of, target_of, packet_number, request_of, is_trusted, trusted, Decodes}
use Rattle.packet.proofs.Laws.{trusted_target}
use Rattle.packet.proofs.Unique.{decode_unique}
use Rattle.ports.specs.declared.Port.{Port}
use Rattle.ports.proofs.Pairs.{port_at}
use Rattle.router.specs.Routing.{bus_of, target_in, is_type0, type0_code, as_type0, turns, leaving_by, Outcome, leaves_by, route}
use Rattle.router.specs.declared.Verdict.TheVariants.{Leaves}
use Rattle.router.specs.Promise.{Seen, over, shows, Routes}
use Rattle.router.specs.Row.{Router, Passes, Way, Unaltered}
use Rattle.router.proofs.Laws.{known_type, target_is, type1_codes, length_as_type0}
use Rattle.router.proofs.Verdicts.{leaves_iff}

-- the same request, of Type 0
abbrev pub at_type0 : Request → Request
at_type0 q =
    record {
      target = Type0;
      writes = q.writes;
      poisoned = q.poisoned;
      requester = q.requester;
      tag = q.tag;
      enables = q.enables;
      bus = q.bus;
      device = q.device;
      function = q.function;
      offset = q.offset;
    }

-- one packet is another that became Type 0: bit 7 of its first byte and every other byte are the same, it has no fault, and the decoder of a board of edition
-- 1 reads the same request but for its type, with the same data
pub record BecameType0 (p q : List ℕ) : Type 0 where
  pub type1 : target_in p ≡ Type1
  pub changed : q ≡ as_type0 p
  pub bit7 : bit 7 (byte q 0) ≡ bit 7 (byte p 0)
  pub others : drop 1 q ≡ drop 1 p
  pub faultless : packet_number q ≡ 0
  pub request : request_of q ≡ at_type0 (request_of p)
  pub «data» : data_of q ≡ data_of p
  pub read : (d : Result Request Refusal) → Decodes q d → d ≡ Ok (at_type0 (request_of p))

-- the last router of a row makes it Type 0, and those before it change nothing
pub record LastTurns (row : List Router) (p end : List ℕ) : Type 0 where
  pub before : List Router
  pub last : Router
  pub stands : row ≡ before ++ last ∷ []
  pub unaltered : Unaltered before p
  pub turned : Passes last p end × BecameType0 p end

-- what a caller holds after a packet has left: in the first bytes of the buffer the packet that leaves, and past it what was there
pub record Written (ports : List Port) (p buffer : List ℕ) (count : ℕ) (after : List ℕ) : Type 0 where
  pub whole : count ≡ length p
  pub passes : Passes (record { ports = ports; size = length buffer }) p (take count after)
  pub past : drop count after ≡ drop count buffer

-- the statements
abbrev pub TrustedNeverAlters : Type 0
TrustedNeverAlters = (row : List Router) (p end : List ℕ) → trusted p ≡ true → Way row p end → Unaltered row p × (end ≡ p)

-- by the port that it leaves by: the secondary turns a Type 1 request, and nothing turns another
abbrev pub TurnsAtSecondary : Type 0
TurnsAtSecondary =
    (r : Router) (p q : List ℕ) → (w : Passes r p q)
    → ((target_in p ≡ Type1) × (bus_of p ≡ (port_at r.ports w.0).secondary) → BecameType0 p q)
    × (((target_in p ≡ Type1) × (bus_of p ≡ (port_at r.ports w.0).secondary) → ⊥) → q ≡ p)

abbrev pub Type0StopsHere : Type 0
Type0StopsHere = (r : Router) (p q : List ℕ) → target_in p ≡ Type0 → Passes r p q → ⊥

abbrev pub AtMostOnce : Type 0
AtMostOnce = (row : List Router) (p end : List ℕ) → Way row p end → (Unaltered row p × (end ≡ p)) ⊎ LastTurns row p end

abbrev pub WhatLeavesIsWritten : Type 0
WhatLeavesIsWritten =
    (ports : List Port) (p buffer : List ℕ) (place count : ℕ) (after : List ℕ) → Routes ports p buffer (Ok (Leaves place count)) after
    → Written ports p buffer count after

-- ---- what leaves, by whether it turns

left_is : (r : Router) (p q : List ℕ) (w : Passes r p q) → q ≡ leaving_by (port_at r.ports w.0) p
left_is r p q w = ((leaves_iff r.ports p r.size w.0 q).0 w.1).1

faultless_in : (r : Router) (p q : List ℕ) → Passes r p q → packet_number p ≡ 0
faultless_in r p q w = ((leaves_iff r.ports p r.size w.0 q).0 w.1).0.routable.faultless

as_it_is : (port : Port) (p : List ℕ) → turns (target_in p) (bus_of p) port ≡ false → leaving_by port p ≡ p
unfolding leaving_by
as_it_is port p e = rw e

as_type0_lem : (port : Port) (p : List ℕ) → turns (target_in p) (bus_of p) port ≡ true → leaving_by port p ≡ as_type0 p
unfolding leaving_by
as_type0_lem port p e = rw e

turns_true : (t : Target) (bus : ℕ) (port : Port) → turns t bus port ≡ true → (t ≡ Type1) × (bus ≡ port.secondary)
turns_true Type0 bus port e = absurd (true≢false (sym e))
turns_true Type1 bus port e = (refl, eqb-true bus port.secondary e)
turns_true Trusted bus port e = absurd (true≢false (sym e))

true_turns : (t : Target) (bus : ℕ) (port : Port) → t ≡ Type1 → bus ≡ port.secondary → turns t bus port ≡ true
true_turns t bus port e f = rw (e, eq-eqb bus port.secondary f)

-- ---- a trusted packet

trusted_in : (p : List ℕ) → trusted p ≡ true → is_trusted (target_in p) ≡ true
trusted_in p e = ap is_trusted (sym (target_is p (request_of p) refl)) ∙ trusted_target p ∙ e

not_type1 : (t : Target) (bus : ℕ) (port : Port) → is_trusted t ≡ true → turns t bus port ≡ false
not_type1 Type0 bus port e = refl
not_type1 Type1 bus port e = absurd (true≢false (sym e))
not_type1 Trusted bus port e = refl

pub trusted_kept : (r : Router) (p q : List ℕ) → trusted p ≡ true → Passes r p q → q ≡ p
trusted_kept r p q e w =
    let port = port_at r.ports w.0 in
    left_is r p q w ∙ as_it_is port p (not_type1 (target_in p) (bus_of p) port (trusted_in p e))

pub trusted_never_alters : TrustedNeverAlters
trusted_never_alters row p end e (Way.arrived _) = (Unaltered.arrived p, refl)
trusted_never_alters row p end e (Way.onward router more _ left _ w way) =
    let same = trusted_kept router p left e w in
    let rest = trusted_never_alters more left end (ap trusted same ∙ e) way in
    (Unaltered.onward router more p (subst (Passes router p) same w) (subst (Unaltered more) same rest.0), rest.1 ∙ same)

-- ---- a packet that became Type 0

-- the two codes of Type 1 are a read and a write, and so are they as Type 0
pub record Turned (first : ℕ) : Type 0 where
  pub writes : Bool
  pub from : type_of (type_code first) ≡ known writes Type1
  pub to : type_of (type_code (128 * bit 7 first + type0_code (type_code first))) ≡ known writes Type0

small_code : (c : ℕ) → type0_code c < 128
small_code c = go (eqb c 0x45)
  where
    go : (b : Bool) → cond b 0x44 0x04 < 128
    go true = omega arith
    go false = omega arith

high_bit : (b c : ℕ) → b < 2 → c < 128 → bit 7 (128 * b + c) ≡ b
high_bit b c h l = omega arith

turned_codes : (first : ℕ) → (type_code first ≡ 0x05) ⊎ (type_code first ≡ 0x45) → Turned first
unfolding type_of
turned_codes first =
    ⊎_elim
    (λ e. record { writes = false; from = rw e; to = ap type_of (code_is 0x05 e) })
    (λ e. record { writes = true; from = rw e; to = ap type_of (code_is 0x45 e) })
  where
    low_code : (b c : ℕ) → c < 128 → type_code (128 * b + c) ≡ c
    low_code b c h = omega arith

    code_is : (c : ℕ) → type_code first ≡ c → type_code (128 * bit 7 first + type0_code (type_code first)) ≡ type0_code c
    code_is c e = ap (λ (x : ℕ). type_code (128 * bit 7 first + type0_code x)) e ∙ low_code (bit 7 first) (type0_code c) (small_code c)

-- the number of a packet, by what its type code stands for
abbrev number_as : Option Access → List ℕ → ℕ
number_as code rest =
    first_that_applies (check 3 (ltb (suc (length rest)) 12)
    ∷ check 4 (unknown code)
    ∷ check 5 (not (eqb (suc (length rest)) (whole_length (writes_of code) (byte rest 1))))
    ∷ check 6 (wrong_field (byte rest 0) (byte rest 1) (byte rest 2) (byte rest 6))
    ∷ [])

same_number : (first : ℕ) (rest : List ℕ) → Turned first → packet_number (as_type0 (first ∷ rest)) ≡ packet_number (first ∷ rest)
same_number first rest t = ap (λ (c : Option Access). number_as c rest) t.to ∙ sym (ap (λ (c : Option Access). number_as c rest) t.from)

became : (first : ℕ) (rest : List ℕ) → Turned first → packet_number (first ∷ rest) ≡ 0 → BecameType0 (first ∷ rest) (as_type0 (first ∷ rest))
unfolding request_of
became first rest t e =
    let number : packet_number (as_type0 (first ∷ rest)) ≡ 0 = same_number first rest t ∙ e in
    let request : request_of (as_type0 (first ∷ rest)) ≡ at_type0 (request_of (first ∷ rest)) = rw (t.to, t.from) in
    record {
      type1 = ap target_of t.from;
      changed = refl;
      bit7 = high_bit (bit 7 first) (type0_code (type_code first)) (omega arith) (small_code (type_code first));
      others = refl;
      faultless = number;
      request = request;
      «data» = refl;
      read = λ d h. decode_unique (as_type0 (first ∷ rest)) d (Ok (at_type0 (request_of (first ∷ rest)))) h (number, sym request);
    }

became_type0 : (p : List ℕ) → packet_number p ≡ 0 → target_in p ≡ Type1 → BecameType0 p (as_type0 p)
became_type0 [] e t = absurd (omega (arith, e))
became_type0 (first ∷ rest) e t = became first rest (turned_codes first (type1_codes (type_code first) (known_type (first ∷ rest) e) t)) e

pub turns_at_secondary : TurnsAtSecondary
turns_at_secondary r p q w = (turned, kept)
  where
    turned : (target_in p ≡ Type1) × (bus_of p ≡ (port_at r.ports w.0).secondary) → BecameType0 p q
    turned h =
        let e = left_is r p q w ∙ as_type0_lem (port_at r.ports w.0) p (true_turns (target_in p) (bus_of p) (port_at r.ports w.0) h.0 h.1) in
        subst (BecameType0 p) (sym e) (became_type0 p (faultless_in r p q w) h.0)

    kept : ((target_in p ≡ Type1) × (bus_of p ≡ (port_at r.ports w.0).secondary) → ⊥) → q ≡ p
    kept n =
        left_is r p q w
        ∙ as_it_is (port_at r.ports w.0) p (⊎_elim (λ t. absurd (n (turns_true (target_in p) (bus_of p) (port_at r.ports w.0) t))) (λ f. f) (cases_Bool (turns (target_in p) (bus_of p) (port_at r.ports w.0))))

-- so a packet leaves as it is, or has become Type 0
either_way : (r : Router) (p q : List ℕ) → Passes r p q → (q ≡ p) ⊎ BecameType0 p q
either_way r p q w =
    let port = port_at r.ports w.0 in
    ⊎_elim
    (λ t. ◌⊎◌.inr ((turns_at_secondary r p q w).0 (turns_true (target_in p) (bus_of p) port t)))
    (λ f. ◌⊎◌.inl (left_is r p q w ∙ as_it_is port p f))
    (cases_Bool (turns (target_in p) (bus_of p) port))

-- ---- a row

pub type0_stops_here : Type0StopsHere
type0_stops_here r p q e w =
    true≢false (sym (ap is_type0 e) ∙ ((leaves_iff r.ports p r.size w.0 q).0 w.1).0.routable.not_type0)

type0_now : (p q : List ℕ) → BecameType0 p q → target_in q ≡ Type0
unfolding request_of
type0_now p q b = ap (λ (x : Request). x.target) b.request

stopped : (row : List Router) (q end : List ℕ) → target_in q ≡ Type0 → Way row q end → (row ≡ []) × (end ≡ q)
stopped row q end e (Way.arrived _) = (refl, refl)
stopped row q end e (Way.onward router more _ left _ w way) = absurd (type0_stops_here router q left e w)

turn_here : (router : Router) (row : List Router) (p q end : List ℕ) → Passes router p q → BecameType0 p q → Way row q end → LastTurns (router ∷ row) p end
turn_here router row p q end w b way =
    let s = stopped row q end (type0_now p q b) way in
    record {
      before = [];
      last = router;
      stands = ap (λ (l : List Router). router ∷ l) s.0;
      unaltered = Unaltered.arrived p;
      turned = subst (λ (x : List ℕ). Passes router p x × BecameType0 p x) (sym s.1) (w, b);
    }

turn_later : (router : Router) (row : List Router) (p end : List ℕ) → Passes router p p → LastTurns row p end → LastTurns (router ∷ row) p end
turn_later router row p end w l =
    record {
      before = router ∷ l.before;
      last = l.last;
      stands = ap (λ (x : List Router). router ∷ x) l.stands;
      unaltered = Unaltered.onward router l.before p w l.unaltered;
      turned = l.turned;
    }

pub at_most_once : AtMostOnce
at_most_once row p end (Way.arrived _) = ◌⊎◌.inl (Unaltered.arrived p, refl)
at_most_once row p end (Way.onward router more _ q _ w way) =
    ⊎_elim
    (λ same.
    let here = subst (Passes router p) same w in
    ⊎_elim
    (λ u. ◌⊎◌.inl (Unaltered.onward router more p here (subst (Unaltered more) same u.0), u.1 ∙ same))
    (λ l. ◌⊎◌.inr (turn_later router more p end here (subst (λ (x : List ℕ). LastTurns more x end) same l)))
    (at_most_once more q end way))
    (λ b. ◌⊎◌.inr (turn_here router more p q end w b way))
    (either_way router p q w)

-- ---- what is written

pub same_outcome : (o : Outcome) (place : ℕ) → o.number ≡ 0 → o.leaves ≡ true → o.port ≡ place → o ≡ leaves_by place o.written
same_outcome o place n l e = λ i. record { number = n i; leaves = l i; port = e i; written = o.written }

leaving_length : (port : Port) (p : List ℕ) → length (leaving_by port p) ≡ length p
unfolding leaving_by
leaving_length port p = go (turns (target_in p) (bus_of p) port)
  where
    go : (b : Bool) → length (cond b (as_type0 p) p) ≡ length p
    go true = length_as_type0 p
    go false = refl

pub what_leaves_is_written : WhatLeavesIsWritten
unfolding shows
what_leaves_is_written ports p buffer place count after e =
    let o = route ports p (length buffer) in
    let same = same_outcome o place (sym (ap (λ (x : Seen). x.number) e)) (sym (ap (λ (x : Seen). x.leaves) e)) (sym (ap (λ (x : Seen). x.port) e)) in
    let left = ((leaves_iff ports p (length buffer) place o.written).0 same).1 in
    let counted : count ≡ length o.written = ap (λ (x : Seen). x.count) e in
    let stands : after ≡ over o.written buffer = ap (λ (x : Seen). x.buffer) e in
    let taken : take count after ≡ o.written = rw (counted, stands) (take-append_seam o.written (drop (length o.written) buffer)) in
    record {
      whole = counted ∙ ap length left ∙ leaving_length (port_at ports place) p;
      passes = (place, same ∙ ap (leaves_by place) (sym taken));
      past = rw (counted, stands) (drop-append_seam o.written (drop (length o.written) buffer));
    }
