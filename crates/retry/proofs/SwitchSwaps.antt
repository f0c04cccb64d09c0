-- THEOREMS. The same two writes through a switch: both leave by one port, as writes of one type again, and the board there is left as it would be by one with both
-- sets of enables. Assumes nothing.
use Prim.Native.Nat.{ℕ, ◌≤◌}
use mathlib.Core.Bool.{Bool, true, false, ◌&&◌, cond}
use mathlib.Core.List.{List}
use mathlib.Core.Path.{◌≡◌, refl, sym, ap, ap₂, ◌∙◌, subst, fun_ext}
use lib.Bits.{bit_or}
use lib.Dec.{eqb}
use borrow.Author.Tests.{eq-eqb, ltb-false}
use Rattle.packet.specs.Request.{number_under, request_of, is_trusted, packet_number}
use Rattle.packet.proofs.Laws.{sound_under}
use Rattle.board.specs.Description.{Board}
use Rattle.runs.specs.Run.{Event, packet, next}
use Rattle.ports.specs.declared.Port.{Port}
use Rattle.ports.proofs.Pairs.{port_at}
use Rattle.ports.proofs.Only.{HasAt, at_most_one}
use Rattle.router.specs.Routing as routing
use Rattle.router.specs.Routing.{bus_of, target_in, is_type0, turns, leaving_by, leaves_by, route}
use Rattle.router.proofs.Verdicts.{MayLeave, leaves_iff}
use Rattle.retry.specs.Rows.{answer_to}
use Rattle.retry.specs.Switch.{Boards, Sizes, Happening, sent, beside, changed_at, verdict, arrival, switch_next, switch_answer, switch_runs, switch_calls}
use Rattle.retry.specs.Writes.{SameWrite, Successful, SwapOf, BothEnables, board_fits, switch_fits, JoinOf, joined_packet, JoinedOf}
use Rattle.retry.proofs.Rows.{Both, Swapping, Joining, Ones, Laws, swap_of, join_of, joined_of}
use Rattle.retry.proofs.One.{one_is}
use Rattle.retry.proofs.Writes.{able, unpoisoned}
use Rattle.retry.proofs.SwitchRepeats.{agree, switch_runs_faithful, switch_calls_faithful}
use Rattle.retry.proofs.Swaps.{edition_stays, board_swaps, board_joins}
use Rattle.retry.proofs.Arrivals.{Arrives, Gone, went, next_is, answer_is, may, gone_arrives, untouched, arrive_same}

-- ---- from a state

-- at the place itself
there : (boards : Boards) (place : ℕ) (e : Event) → changed_at boards true place e place ≡ next (boards place) e
there boards place e = rw (eq-eqb place place refl)

two_by : (b : Bool) (d : Board) (e f : Event) → let once = cond b (next d e) d in cond b (next once f) once ≡ cond b (next (next d e) f) d
two_by true d e f = refl
two_by false d e f = refl

two_there : (boards : Boards) (place : ℕ) (e f : Event)
    → changed_at (changed_at boards true place e) true place f ≡ (λ k. cond (eqb k place) (next (next (boards k) e) f) (boards k))
two_there boards place e f = fun_ext (λ k. two_by (eqb k place) (boards k) e f)

module _ (ports : List Port) (boards : Boards) (p q : List ℕ) (m n : Sizes) (same : SameWrite p q)
    (both : Both (switch_next ports) (switch_answer ports) sent (switch_fits ports) boards p q m n) where
  first_gone : Gone ports p m
  first_gone = went ports boards p m both.0

  second_gone : Gone ports q n
  second_gone = went ports (switch_next ports boards (sent p m)) q n both.1

  place : ℕ
  place = first_gone.place

  -- the same bus has the same port
  same_bus : bus_of p ≡ bus_of q
  unfolding request_of
  same_bus = same.bus

  same_place : second_gone.place ≡ place
  unfolding place
  same_place =
      let a = may ports boards p m first_gone in
      let b = may ports boards q n second_gone in
      at_most_one ports a.routable.good (bus_of p) second_gone.place first_gone.place
      (subst (λ (x : ℕ). HasAt ports x second_gone.place) (sym same_bus) b.held) a.held

  -- both, by that place
  abbrev P : Event
  P = packet first_gone.arrived m.reply

  abbrev Q : Event
  Q = packet second_gone.arrived n.reply

  second_here : Gone ports q n
  second_here =
      record { place = place; arrived = second_gone.arrived; routed = second_gone.routed ∙ ap (λ (k : ℕ). leaves_by k second_gone.arrived) same_place }

  turns_here : Bool
  turns_here = turns (target_in p) (bus_of p) (port_at ports place)

  first_arrives : Arrives p first_gone.arrived turns_here
  unfolding place turns_here
  first_arrives = gone_arrives ports boards p m first_gone _ refl

  second_arrives : Arrives q second_gone.arrived turns_here
  unfolding place turns_here second_here request_of
  second_arrives =
      gone_arrives ports boards q n second_here _ (λ i. turns (sym same.target i) (sym same_bus i) (port_at ports first_gone.place))

  same_there : SameWrite first_gone.arrived second_gone.arrived
  same_there = arrive_same p q first_gone.arrived second_gone.arrived turns_here first_arrives second_arrives same

  -- what is left and answered, at the place
  next_first : (other : Boards) → switch_next ports other (sent p m) ≡ changed_at other true place P
  unfolding place
  next_first other = next_is ports other p m first_gone

  next_second : (other : Boards) → switch_next ports other (sent q n) ≡ changed_at other true place Q
  unfolding second_here
  next_second other = next_is ports other q n second_here

  answer_first : (other : Boards) → switch_answer ports other (sent p m) ≡ answer_to (other place) P
  unfolding place
  answer_first other = answer_is ports other p m first_gone

  answer_second : (other : Boards) → switch_answer ports other (sent q n) ≡ answer_to (other place) Q
  unfolding second_here
  answer_second other = answer_is ports other q n second_here

  -- after one of them
  second_after : switch_answer ports (switch_next ports boards (sent p m)) (sent q n) ≡ answer_to (next (boards place) P) Q
  second_after =
      answer_second (switch_next ports boards (sent p m))
      ∙ ap (λ (x : Boards). answer_to (x place) Q) (next_first boards)
      ∙ ap (λ (x : Board). answer_to x Q) (there boards place P)

  first_after : switch_answer ports (switch_next ports boards (sent q n)) (sent p m) ≡ answer_to (next (boards place) Q) P
  first_after =
      answer_first (switch_next ports boards (sent q n))
      ∙ ap (λ (x : Boards). answer_to (x place) P) (next_second boards)
      ∙ ap (λ (x : Board). answer_to x P) (there boards place Q)

  at_board : Both next answer_to packet board_fits (boards place) first_gone.arrived second_gone.arrived m.reply n.reply
  at_board = (subst Successful (answer_first boards) both.0, subst Successful second_after both.1)

  -- both of them, one after the other
  both_left : switch_next ports (switch_next ports boards (sent p m)) (sent q n) ≡ (λ k. cond (eqb k place) (next (next (boards k) P) Q) (boards k))
  both_left =
      next_second (switch_next ports boards (sent p m)) ∙ ap (λ (x : Boards). changed_at x true place Q) (next_first boards) ∙ two_there boards place P Q

  turned_left : switch_next ports (switch_next ports boards (sent q n)) (sent p m) ≡ (λ k. cond (eqb k place) (next (next (boards k) Q) P) (boards k))
  turned_left =
      next_first (switch_next ports boards (sent q n)) ∙ ap (λ (x : Boards). changed_at x true place P) (next_second boards) ∙ two_there boards place Q P

  pub switch_swaps : Swapping (switch_next ports) (switch_answer ports) sent (switch_fits ports) boards p q m n
  switch_swaps =
      let w = board_swaps (boards place) first_gone.arrived second_gone.arrived m.reply n.reply same_there at_board in
      record {
        left =
            turned_left
            ∙ fun_ext (λ k. agree boards place (λ d. next (next d Q) P) (λ d. next (next d P) Q) w.left k _ refl)
            ∙ sym both_left;
        first = first_after ∙ w.first ∙ sym (answer_first boards);
        second = answer_second boards ∙ w.second ∙ sym second_after;
      }

  -- ---- one with both sets of enables

  -- a write with the same parts and no fault goes the same way
  module _ (r : List ℕ) (size : ℕ) (same_r : SameWrite p r) (room : 20 ≤ size) (faultless : packet_number r ≡ 0) where
    bus_r : bus_of p ≡ bus_of r
    unfolding request_of
    bus_r = same_r.bus

    target_r : target_in p ≡ target_in r
    unfolding request_of
    target_r = same_r.target

    may_r : MayLeave ports r size place
    unfolding place
    may_r =
        let a = may ports boards p m first_gone in
        record {
          routable =
              record { good = a.routable.good; room = room; faultless = faultless; not_type0 = ap is_type0 (sym target_r) ∙ a.routable.not_type0 };
          held = subst (λ (x : ℕ). HasAt ports x first_gone.place) bus_r a.held;
          supported = λ t. a.supported (ap is_trusted target_r ∙ t);
        }

    routed_r : route ports r size ≡ leaves_by place (leaving_by (port_at ports place) r)
    routed_r = (leaves_iff ports r size place (leaving_by (port_at ports place) r)).1 (may_r, refl)

  -- the first with the enables of both is such a one: what arrived of the first was without a fault at the board, and so was the first
  first_sound : number_under (boards place).description.edition p ≡ 0
  unfolding place
  first_sound =
      first_arrives.back (boards first_gone.place).description.edition
      (may ports boards p m first_gone).routable.faultless
      (able (boards first_gone.place) first_gone.arrived m.reply same_there.writes.0 at_board.0).sound

  pub switch_ones : Ones (switch_next ports) (switch_answer ports) sent (switch_fits ports) boards p q m
  switch_ones =
      let edition = (boards place).description.edition in
      let a = may ports boards p m first_gone in
      let one = one_is edition p q first_sound same.writes.0 clean_first in
      let Gone-one = routed_r (joined_packet p q) m.buffer one.both.same a.routable.room (sound_under edition (joined_packet p q) one.sound) in
      let port : (verdict ports (joined_packet p q) m).port ≡ place = ap (λ (o : routing.Outcome). o.port) Gone-one in
      record {
        enables = one.both;
        fits = (
          subst (λ (x : ℕ). number_under (boards x).description.edition (joined_packet p q) ≡ 0) (sym port) one.sound,
          a.routable.room,
          ltb-false m.reply 16 (able (boards place) first_gone.arrived m.reply same_there.writes.0 at_board.0).room,
        );
        requester = one.requester;
        tag = one.tag;
      }
    where
      clean_first : (request_of p).poisoned ≡ false
      clean_first =
          sym (untouched (λ z. z.poisoned) p first_gone.arrived turns_here refl first_arrives)
          ∙ unpoisoned (boards place) first_gone.arrived m.reply (able (boards place) first_gone.arrived m.reply same_there.writes.0 at_board.0)

  module _ (r : List ℕ) (k : Sizes) (enables : BothEnables p q r) (fits : switch_fits ports boards r k) where
    third_gone : Gone ports r k
    third_gone =
        record {
          place = place;
          arrived = leaving_by (port_at ports place) r;
          routed = routed_r r k.buffer enables.same fits.1 (sound_under (boards (verdict ports r k).port).description.edition r fits.0);
        }

    faultless_r : packet_number r ≡ 0
    faultless_r = sound_under (boards (verdict ports r k).port).description.edition r fits.0

    abbrev R : Event
    R = packet third_gone.arrived k.reply

    third_arrives : Arrives r third_gone.arrived turns_here
    unfolding third_gone turns_here
    third_arrives = gone_arrives ports boards r k third_gone _ (λ i. turns (sym (target_r r k.buffer enables.same fits.1 faultless_r) i) (sym (bus_r r k.buffer enables.same fits.1 faultless_r) i) (port_at ports place))

    enables_there : BothEnables first_gone.arrived second_gone.arrived third_gone.arrived
    enables_there =
        record {
          same = arrive_same p r first_gone.arrived third_gone.arrived turns_here first_arrives third_arrives enables.same;
          enables =
              untouched (λ z. z.enables) r third_gone.arrived turns_here refl third_arrives
              ∙ enables.enables
              ∙ ap₂ bit_or (sym (untouched (λ z. z.enables) p first_gone.arrived turns_here refl first_arrives))
              (sym (untouched (λ z. z.enables) q second_gone.arrived turns_here refl second_arrives));
          clean = untouched (λ z. z.poisoned) r third_gone.arrived turns_here refl third_arrives ∙ enables.clean;
        }

    fits_there : board_fits (boards place) third_gone.arrived k.reply
    unfolding third_gone
    fits_there =
        let port : (verdict ports r k).port ≡ place = ap (λ (o : routing.Outcome). o.port) third_gone.routed in
        (third_arrives.sound (boards place).description.edition (subst (λ (x : ℕ). number_under (boards x).description.edition r ≡ 0) port fits.0), fits.2)

    answer_third : switch_answer ports boards (sent r k) ≡ answer_to (boards place) R
    unfolding third_gone
    answer_third = answer_is ports boards r k third_gone

    next_third : switch_next ports boards (sent r k) ≡ changed_at boards true place R
    unfolding third_gone
    next_third = next_is ports boards r k third_gone

    joined_at_board : Joining next answer_to packet board_fits (boards place) first_gone.arrived second_gone.arrived third_gone.arrived m.reply n.reply k.reply
    joined_at_board =
        board_joins (boards place) first_gone.arrived second_gone.arrived m.reply n.reply same_there at_board third_gone.arrived k.reply enables_there fits_there

    pub switch_joins : Joining (switch_next ports) (switch_answer ports) sent (switch_fits ports) boards p q r m n k
    switch_joins =
        record {
          left =
              next_third
              ∙ fun_ext (λ j. agree boards place (λ d. next d R) (λ d. next (next d P) Q) joined_at_board.left j _ refl)
              ∙ sym both_left;
          one =
              record {
                successful = subst Successful (sym answer_third) joined_at_board.one.successful;
                alike = λ req tag.
                    answer_third
                    ∙ joined_at_board.one.alike
                    (untouched (λ z. z.requester) r third_gone.arrived turns_here refl third_arrives ∙ req
                    ∙ sym (untouched (λ z. z.requester) p first_gone.arrived turns_here refl first_arrives))
                    (untouched (λ z. z.tag) r third_gone.arrived turns_here refl third_arrives ∙ tag
                    ∙ sym (untouched (λ z. z.tag) p first_gone.arrived turns_here refl first_arrives))
                    ∙ sym (answer_first boards);
              };
        }

-- ---- in a row

edition_by : (b : Bool) (d : Board) (e : Event) → (cond b (next d e) d).description.edition ≡ d.description.edition
edition_by true d e = edition_stays d e
edition_by false d e = refl

module _ (ports : List Port) where
  edition_there : (boards : Boards) (e : Happening) (k : ℕ) → (switch_next ports boards e k).description.edition ≡ (boards k).description.edition
  edition_there boards (sent bytes sizes) k =
      edition_by ((verdict ports bytes sizes).leaves && eqb k (verdict ports bytes sizes).port) (boards k) (arrival ports bytes sizes)
  edition_there boards (beside place event) k = edition_by (eqb k place) (boards k) event

  pub switch_laws : Laws (switch_next ports) (switch_answer ports) sent (switch_fits ports)
  switch_laws =
      record {
        swaps = switch_swaps ports;
        joins = λ boards p q r m n k same enables fits both. switch_joins ports boards p q m n same both r k enables fits;
        ones = switch_ones ports;
        kept = λ boards e r k fits. (ap (λ (x : ℕ). number_under x r) (edition_there boards e (verdict ports r k).port) ∙ fits.0, fits.1, fits.2);
      }

  pub swap_in_switch_runs : SwapOf (switch_runs ports) sent
  swap_in_switch_runs = swap_of (switch_next ports) (switch_answer ports) sent (switch_fits ports) (switch_runs ports) (switch_runs_faithful ports) switch_laws

  pub join_in_switch_runs : JoinOf (switch_runs ports) sent (switch_fits ports)
  join_in_switch_runs = join_of (switch_next ports) (switch_answer ports) sent (switch_fits ports) (switch_runs ports) (switch_runs_faithful ports) switch_laws

  pub joined_in_switch_runs : JoinedOf (switch_runs ports) sent
  joined_in_switch_runs = joined_of (switch_next ports) (switch_answer ports) sent (switch_fits ports) (switch_runs ports) (switch_runs_faithful ports) switch_laws

  pub swap_in_switch_calls : SwapOf (switch_calls ports) sent
  swap_in_switch_calls = swap_of (switch_next ports) (switch_answer ports) sent (switch_fits ports) (switch_calls ports) (switch_calls_faithful ports) switch_laws

  pub join_in_switch_calls : JoinOf (switch_calls ports) sent (switch_fits ports)
  join_in_switch_calls = join_of (switch_next ports) (switch_answer ports) sent (switch_fits ports) (switch_calls ports) (switch_calls_faithful ports) switch_laws

  pub joined_in_switch_calls : JoinedOf (switch_calls ports) sent
  joined_in_switch_calls = joined_of (switch_next ports) (switch_answer ports) sent (switch_fits ports) (switch_calls ports) (switch_calls_faithful ports) switch_laws
