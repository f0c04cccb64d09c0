-- THEOREMS. When a packet leaves, and when it does not: it leaves by a port, with certain bytes, exactly if the list is good, the buffer has 20 bytes,
-- the packet has no fault of 3 to 6 and is not of Type 0, and that port has its bus and supports TCS routing where the request is trusted. The verdict is
-- UR exactly if list, buffer and packet are so and no port has the bus. Any other answer is the number of the first check that applies, 1 to 6, in the order
-- that the request names. What does not leave is not written: the buffer stays, every byte, and port and count are 0. Assumes nothing.
use Prim.Native.Nat.{ℕ, zero, suc, ◌≤◌, ◌<◌}
use mathlib.Core.Bool.{Bool, true, false, not, ◌&&◌, true≢false}
use mathlib.Core.List.Memᴰ
use mathlib.Core.List.{List, [], ◌∷◌, ◌++◌, Memᴰ}
use mathlib.Core.Logic.{◌↔◌, ◌⊎◌, ⊎_elim}
use mathlib.Core.Path.{◌≡◌, refl, sym, ap, ◌∙◌, subst}
use native.Mathlib.Omega.{arith}
use Rattle.std.proofs.lemmas.Bool.{cases_Bool, cases_lt, false_from_ne_true}
use Rattle.std.specs.Prelude.{Some, None, Ok, Err}
use lib.ListN.{length}
use Rattle.answers.specs.Checks.{check, first_that_applies}
use Rattle.answers.proofs.Checks.{First, Positive, gives_first, gives_one_of}
use Rattle.packet.specs.declared.Target.{Target}
use Rattle.packet.specs.declared.Target.TheVariants.{Type0, Trusted}
use Rattle.packet.specs.Request.{packet_number, is_trusted}
use Rattle.ports.specs.declared.Port.{Port}
use Rattle.ports.specs.Ports.{supports, bad_list}
use Rattle.ports.specs.Choice.{Choice, exit_at, choice}
use Rattle.ports.proofs.Pairs.{port_at, Good, good_of}
use Rattle.ports.proofs.Only.{HasAt, chooses}
use Rattle.router.specs.declared.Verdict.TheVariants.{Leaves, Unsupported}
use Rattle.router.specs.Routing.{bus_of, target_in, is_type0, is_bad, barred_at, barred, route_checks, route_number, leaving_by, Outcome, leaves_by, unsupported, by_port, by_number, decide, route}
use Rattle.router.specs.Promise.{Routed, Seen, told, over, shows, Routes}
use Rattle.router.proofs.Laws.{bad_number, room_number, packet_number_lem, router_number}

-- what every packet that is not refused has
pub record Routable (ports : List Port) (p : List ℕ) (size : ℕ) : Type 0 where
  pub good : Good ports
  pub room : 20 ≤ size
  pub faultless : packet_number p ≡ 0
  pub not_type0 : is_type0 (target_in p) ≡ false

-- it may leave by the port at a place
pub record MayLeave (ports : List Port) (p : List ℕ) (size place : ℕ) : Type 0 where
  pub routable : Routable ports p size
  pub held : HasAt ports (bus_of p) place
  pub supported : is_trusted (target_in p) ≡ true → supports (port_at ports place) ≡ true

-- the statements
abbrev pub LeavesIff : Type 0
LeavesIff =
    (ports : List Port) (p : List ℕ) (size place : ℕ) (bytes : List ℕ)
    → (route ports p size ≡ leaves_by place bytes) ↔ (MayLeave ports p size place × (bytes ≡ leaving_by (port_at ports place) p))

abbrev pub UnsupportedIff : Type 0
UnsupportedIff =
    (ports : List Port) (p : List ℕ) (size : ℕ)
    → (route ports p size ≡ unsupported) ↔ (Routable ports p size × ((place : ℕ) → HasAt ports (bus_of p) place → ⊥))

-- an empty list is a good one, and has no port for any bus
abbrev pub EmptyListUnsupported : Type 0
EmptyListUnsupported =
    (p : List ℕ) (size : ℕ) → 20 ≤ size → packet_number p ≡ 0 → is_type0 (target_in p) ≡ false → route [] p size ≡ unsupported

-- "The list's 1, that 2 and document 01's checks 3 to 6 come first, in that order", then the two causes of 4
pub record InOrder (ports : List Port) (p : List ℕ) (size n : ℕ) : Type 0 where
  pub list : (Good ports → ⊥) → n ≡ 1
  pub room : Good ports → size < 20 → n ≡ 2
  pub packet : Good ports → 20 ≤ size → (packet_number p ≡ 0 → ⊥) → n ≡ packet_number p
  pub type0 : Good ports → 20 ≤ size → packet_number p ≡ 0 → target_in p ≡ Type0 → n ≡ 4
  pub trusted : Good ports → 20 ≤ size → packet_number p ≡ 0 → target_in p ≡ Trusted
      → (place : ℕ) → HasAt ports (bus_of p) place → supports (port_at ports place) ≡ false → n ≡ 4

abbrev pub ChecksInOrder : Type 0
ChecksInOrder = (ports : List Port) (p : List ℕ) (size : ℕ) → InOrder ports p size (route ports p size).number

-- the number: of the first check that applies, 0 exactly if none does, and no other than 0 to 6
pub record NumberSays (ports : List Port) (p : List ℕ) (size n : ℕ) : Type 0 where
  pub first : First (route_checks (choice ports (bus_of p)) p size) n
  pub only : Memᴰ n (0 ∷ 1 ∷ 2 ∷ 3 ∷ 4 ∷ 5 ∷ 6 ∷ [])

abbrev pub NumberIsFirst : Type 0
NumberIsFirst =
    (ports : List Port) (p buffer : List ℕ) (r : Routed) (after : List ℕ) → Routes ports p buffer r after
    → NumberSays ports p (length buffer) (told r after).number

-- what does not leave is not written
abbrev pub StaysUnwritten : Type 0
StaysUnwritten =
    (ports : List Port) (p buffer : List ℕ) (r : Routed) (after : List ℕ) → Routes ports p buffer r after
    → ((place count : ℕ) → r ≡ Ok (Leaves place count) → ⊥) → (after ≡ buffer) × ((told r after).port ≡ 0) × ((told r after).count ≡ 0)

-- ---- the number

port_number : (c : Choice) (p : List ℕ) → (by_port c p).number ≡ 0
port_number (Ok (Some exit)) p = refl
port_number (Ok None) p = refl
port_number (Err list) p = refl

by_number_lem : (n : ℕ) (c : Choice) (p : List ℕ) → (by_number n c p).number ≡ n
by_number_lem zero c p = port_number c p
by_number_lem (suc n) c p = refl

pub decide_number : (c : Choice) (p : List ℕ) (size : ℕ) → (decide c p size).number ≡ route_number c p size
unfolding decide
decide_number c p size = by_number_lem (route_number c p size) c p

positive_all : (c : Choice) (p : List ℕ) (size : ℕ) → Positive (route_checks c p size)
positive_all c p size = omega arith

in_either : {n : ℕ} (ks ls : List ℕ) → Memᴰ n (ks ++ ls) → Memᴰ n ks ⊎ Memᴰ n ls
in_either [] ls m = ◌⊎◌.inr m
in_either (k ∷ ks) ls (Memᴰ.head e) = ◌⊎◌.inl (Memᴰ.head e)
in_either (k ∷ ks) ls (Memᴰ.tail m) = ⊎_elim (λ h. ◌⊎◌.inl (Memᴰ.tail h)) (λ h. ◌⊎◌.inr h) (in_either ks ls m)

one_of_seven : (n : ℕ) → Memᴰ n (0 ∷ 1 ∷ 2 ∷ 3 ∷ 4 ∷ 5 ∷ 6 ∷ 4 ∷ 4 ∷ []) → Memᴰ n (0 ∷ 1 ∷ 2 ∷ 3 ∷ 4 ∷ 5 ∷ 6 ∷ [])
one_of_seven n m = ⊎_elim (λ (h : Memᴰ n (0 ∷ 1 ∷ 2 ∷ 3 ∷ 4 ∷ 5 ∷ 6 ∷ [])). h) fourth (in_either (0 ∷ 1 ∷ 2 ∷ 3 ∷ 4 ∷ 5 ∷ 6 ∷ []) (4 ∷ 4 ∷ []) m)
  where
    at_four : n ≡ 4 → Memᴰ n (0 ∷ 1 ∷ 2 ∷ 3 ∷ 4 ∷ 5 ∷ 6 ∷ [])
    at_four e = Memᴰ.tail (Memᴰ.tail (Memᴰ.tail (Memᴰ.tail (Memᴰ.head e))))

    fourth : Memᴰ n (4 ∷ 4 ∷ []) → Memᴰ n (0 ∷ 1 ∷ 2 ∷ 3 ∷ 4 ∷ 5 ∷ 6 ∷ [])
    fourth (Memᴰ.head e) = at_four e
    fourth (Memᴰ.tail (Memᴰ.head e)) = at_four e
    fourth (Memᴰ.tail (Memᴰ.tail z)) = absurd (Memᴰ.not-nil z)

pub route_number_says : (ports : List Port) (p : List ℕ) (size : ℕ) → NumberSays ports p size (route ports p size).number
route_number_says ports p size =
    let c = choice ports (bus_of p) in
    let cs = route_checks c p size in
    subst (NumberSays ports p size) (sym (decide_number c p size))
    (record { first = gives_first cs (positive_all c p size); only = one_of_seven _ (gives_one_of cs) })

pub number_is_first : NumberIsFirst
unfolding shows
number_is_first ports p buffer r after e =
    subst (NumberSays ports p (length buffer)) (sym (ap (λ (x : Seen). x.number) e)) (route_number_says ports p (length buffer))

-- ---- what is not written

silent_port : (c : Choice) (p : List ℕ) → (by_port c p).leaves ≡ false → ((by_port c p).written ≡ []) × ((by_port c p).port ≡ 0)
silent_port (Ok (Some exit)) p e = absurd (true≢false e)
silent_port (Ok None) p e = (refl, refl)
silent_port (Err list) p e = (refl, refl)

silent : (n : ℕ) (c : Choice) (p : List ℕ) → (by_number n c p).leaves ≡ false → ((by_number n c p).written ≡ []) × ((by_number n c p).port ≡ 0)
silent zero c p e = silent_port c p e
silent (suc n) c p e = (refl, refl)

-- what has a number but 0 does not leave, and what does not leave is not written
leaving_zero : (n : ℕ) (c : Choice) (p : List ℕ) → (by_number n c p).leaves ≡ true → (by_number n c p).number ≡ 0
leaving_zero zero c p e = port_number c p
leaving_zero (suc n) c p e = absurd (true≢false (sym e))

pub leaving_number : (ports : List Port) (p : List ℕ) (size : ℕ) → (route ports p size).leaves ≡ true → (route ports p size).number ≡ 0
unfolding decide
leaving_number ports p size e = leaving_zero (route_number (choice ports (bus_of p)) p size) (choice ports (bus_of p)) p e

pub silent_outcome : (ports : List Port) (p : List ℕ) (size : ℕ) → (route ports p size).leaves ≡ false
    → ((route ports p size).written ≡ []) × ((route ports p size).port ≡ 0)
unfolding decide
silent_outcome ports p size e = let c = choice ports (bus_of p) in silent (route_number c p size) c p e

pub silent_buffer : (ports : List Port) (p buffer : List ℕ) → (route ports p (length buffer)).leaves ≡ false → (shows (route ports p (length buffer)) buffer).buffer ≡ buffer
unfolding shows
silent_buffer ports p buffer e = ap (λ (l : List ℕ). over l buffer) (silent_outcome ports p (length buffer) e).0

unwritten : (o : Outcome) (buffer : List ℕ) (r : Routed) (after : List ℕ) → told r after ≡ shows o buffer → (told r after).buffer ≡ after
    → (o.written ≡ []) × (o.port ≡ 0) → (after ≡ buffer) × ((told r after).port ≡ 0) × ((told r after).count ≡ 0)
unfolding shows
unwritten o buffer r after e b w = (
  sym b ∙ ap (λ (x : Seen). x.buffer) e ∙ ap (λ (l : List ℕ). over l buffer) w.0,
  ap (λ (x : Seen). x.port) e ∙ w.1,
  ap (λ (x : Seen). x.count) e ∙ ap length w.0,
)

pub stays_unwritten : StaysUnwritten
unfolding shows
stays_unwritten ports p buffer (Ok (Leaves place count)) after e n = absurd (n place count refl)
stays_unwritten ports p buffer (Ok Unsupported) after e n =
    unwritten (route ports p (length buffer)) buffer (Ok Unsupported) after e refl (silent_outcome ports p (length buffer) (sym (ap (λ (x : Seen). x.leaves) e)))
stays_unwritten ports p buffer (Err refusal) after e n =
    unwritten (route ports p (length buffer)) buffer (Err refusal) after e refl (silent_outcome ports p (length buffer) (sym (ap (λ (x : Seen). x.leaves) e)))

-- ---- when no check applies

record Clear (c : Choice) (p : List ℕ) (size : ℕ) : Type 0 where
  sound : is_bad c ≡ false
  room : 20 ≤ size
  faultless : packet_number p ≡ 0
  not_type0 : is_type0 (target_in p) ≡ false
  unbarred : barred c (target_in p) ≡ false

both_clear : (a b : Bool) → first_that_applies (check 4 a ∷ check 4 b ∷ []) ≡ 0 → (a ≡ false) × (b ≡ false)
both_clear true b e = absurd (omega arith)
both_clear false true e = absurd (omega arith)
both_clear false false e = (refl, refl)

module _ (c : Choice) (p : List ℕ) (size : ℕ) where
  clear : route_number c p size ≡ 0 → Clear c p size
  clear e =
      let s = false_from_ne_true (is_bad c) (λ b. not_zero 1 (omega arith) (bad_number c p size b)) in
      let r = ⊎_elim (λ h. absurd (not_zero 2 (omega arith) (room_number c p size s h))) (λ h. h) (cases_lt size 20) in
      let f = faultless_of s r (packet_number p) refl in
      let b = both_clear (is_type0 (target_in p)) (barred c (target_in p)) (sym (router_number c p size s r f) ∙ e) in
      record { sound = s; room = r; faultless = f; not_type0 = b.0; unbarred = b.1 }
    where
      not_zero : (n : ℕ) → (n ≡ 0 → ⊥) → route_number c p size ≡ n → ⊥
      not_zero n h k = h (sym k ∙ e)

      faultless_of : is_bad c ≡ false → 20 ≤ size → (n : ℕ) → packet_number p ≡ n → packet_number p ≡ 0
      faultless_of s r zero k = k
      faultless_of s r (suc n) k =
          let h : packet_number p ≡ 0 → ⊥ = λ z. omega (arith, k, z) in
          absurd (not_zero (packet_number p) h (packet_number_lem c p size s r h))

  of_clear : Clear c p size → route_number c p size ≡ 0
  of_clear k = router_number c p size k.sound k.room k.faultless ∙ rw (k.not_type0, k.unbarred)

  decided : Clear c p size → decide c p size ≡ by_port c p
  unfolding decide
  decided k = ap (λ (n : ℕ). by_number n c p) (of_clear k)

  zero_number : (o : Outcome) → o.number ≡ 0 → decide c p size ≡ o → Clear c p size
  zero_number o z e = clear (sym (decide_number c p size) ∙ ap (λ (x : Outcome). x.number) e ∙ z)

-- ---- leaves

unbarred_port : (port : Port) (t : Target) → barred_at port t ≡ false → is_trusted t ≡ true → supports port ≡ true
unbarred_port port t b e = ⊎_elim (λ s. s) (λ s. absurd (true≢false (sym (both e s) ∙ b))) (cases_Bool (supports port))
  where
    both : is_trusted t ≡ true → supports port ≡ false → is_trusted t && not (supports port) ≡ true
    both f s = rw (f, s)

port_unbarred : (port : Port) (t : Target) → (is_trusted t ≡ true → supports port ≡ true) → barred_at port t ≡ false
port_unbarred port t h = go (is_trusted t) refl
  where
    go : (b : Bool) → is_trusted t ≡ b → b && not (supports port) ≡ false
    go true e = rw (h e)
    go false e = refl

to_leave : (ports : List Port) (p : List ℕ) (size place : ℕ) (bytes : List ℕ) (c : Choice) → choice ports (bus_of p) ≡ c → decide c p size ≡ leaves_by place bytes
    → MayLeave ports p size place × (bytes ≡ leaving_by (port_at ports place) p)
to_leave ports p size place bytes c w e = go c w e (zero_number c p size (leaves_by place bytes) refl e)
  where
    go : (c : Choice) → choice ports (bus_of p) ≡ c → decide c p size ≡ leaves_by place bytes → Clear c p size
        → MayLeave ports p size place × (bytes ≡ leaving_by (port_at ports place) p)
    go (Err list) w e k = absurd (true≢false k.sound)
    go (Ok None) w e k = absurd (true≢false (sym (ap (λ (x : Outcome). x.leaves) (sym (decided (Ok None) p size k) ∙ e))))
    go (Ok (Some exit)) w e k =
        let same = sym (decided (Ok (Some exit)) p size k) ∙ e in
        let at : exit.place ≡ place = ap (λ (x : Outcome). x.port) same in
        let h = ((chooses ports (bus_of p)).at exit.place exit.port).0 w in
        let q : exit.port ≡ port_at ports place = h.2 ∙ ap (port_at ports) at in (
          record {
            routable = record { good = h.0; room = k.room; faultless = k.faultless; not_type0 = k.not_type0 };
            held = subst (HasAt ports (bus_of p)) at h.1;
            supported = λ t. subst (λ (x : Port). supports x ≡ true) q (unbarred_port exit.port (target_in p) k.unbarred t);
          },
          sym (ap (λ (x : Outcome). x.written) same) ∙ ap (λ (x : Port). leaving_by x p) q,
        )

from_leave : (ports : List Port) (p : List ℕ) (size place : ℕ) (bytes : List ℕ) → MayLeave ports p size place × (bytes ≡ leaving_by (port_at ports place) p)
    → route ports p size ≡ leaves_by place bytes
from_leave ports p size place bytes h =
    let m = h.0 in
    let r = m.routable in
    let c = Ok (Some (exit_at place (port_at ports place))) in
    ap (λ (x : Choice). decide x p size) (((chooses ports (bus_of p)).at place (port_at ports place)).1 (r.good, m.held, refl))
    ∙ decided c p size (record { sound = refl; room = r.room; faultless = r.faultless; not_type0 = r.not_type0; unbarred = port_unbarred (port_at ports place) (target_in p) m.supported })
    ∙ ap (leaves_by place) (sym h.1)

pub leaves_iff : LeavesIff
leaves_iff ports p size place bytes = (to_leave ports p size place bytes (choice ports (bus_of p)) refl, from_leave ports p size place bytes)

-- ---- UR

to_unsupported : (ports : List Port) (p : List ℕ) (size : ℕ) (c : Choice) → choice ports (bus_of p) ≡ c → decide c p size ≡ unsupported
    → Routable ports p size × ((place : ℕ) → HasAt ports (bus_of p) place → ⊥)
to_unsupported ports p size c w e = go c w e (zero_number c p size unsupported refl e)
  where
    go : (c : Choice) → choice ports (bus_of p) ≡ c → decide c p size ≡ unsupported → Clear c p size
        → Routable ports p size × ((place : ℕ) → HasAt ports (bus_of p) place → ⊥)
    go (Err list) w e k = absurd (true≢false k.sound)
    go (Ok (Some exit)) w e k = absurd (true≢false (ap (λ (x : Outcome). x.leaves) (sym (decided (Ok (Some exit)) p size k) ∙ e)))
    go (Ok None) w e k =
        let h = (chooses ports (bus_of p)).nowhere.0 w in
        (record { good = h.0; room = k.room; faultless = k.faultless; not_type0 = k.not_type0 }, h.1)

from_unsupported : (ports : List Port) (p : List ℕ) (size : ℕ) → Routable ports p size × ((place : ℕ) → HasAt ports (bus_of p) place → ⊥)
    → route ports p size ≡ unsupported
from_unsupported ports p size h =
    let r = h.0 in
    ap (λ (x : Choice). decide x p size) ((chooses ports (bus_of p)).nowhere.1 (r.good, h.1))
    ∙ decided (Ok None) p size (record { sound = refl; room = r.room; faultless = r.faultless; not_type0 = r.not_type0; unbarred = refl })

pub unsupported_iff : UnsupportedIff
unsupported_iff ports p size = (to_unsupported ports p size (choice ports (bus_of p)) refl, from_unsupported ports p size)

pub empty_list_unsupported : EmptyListUnsupported
unfolding bad_list
empty_list_unsupported p size room faultless other =
    from_unsupported [] p size (
      record { good = good_of [] refl; room = room; faultless = faultless; not_type0 = other },
      λ place h. omega (arith, h.inside),
    )

-- ---- the order of the checks

bad_choice : (ports : List Port) (bus : ℕ) → (Good ports → ⊥) → is_bad (choice ports bus) ≡ true
bad_choice ports bus n = ap is_bad ((chooses ports bus).bad.1 n)

good_choice : (ports : List Port) (bus : ℕ) → Good ports → is_bad (choice ports bus) ≡ false
good_choice ports bus g = go (choice ports bus) refl
  where
    go : (c : Choice) → choice ports bus ≡ c → is_bad c ≡ false
    go (Err list) e = absurd ((chooses ports bus).bad.0 e g)
    go (Ok exit) e = refl

pub checks_in_order : ChecksInOrder
checks_in_order ports p size =
    let c = choice ports (bus_of p) in
    let is = decide_number c p size in
    record {
      list = λ n. is ∙ bad_number c p size (bad_choice ports (bus_of p) n);
      room = λ g h. is ∙ room_number c p size (good_choice ports (bus_of p) g) h;
      packet = λ g h f. is ∙ packet_number_lem c p size (good_choice ports (bus_of p) g) h f;
      type0 = λ g h f t. is ∙ router_number c p size (good_choice ports (bus_of p) g) h f ∙ rw t;
      trusted = λ g h f t place held without.
          let at = ((chooses ports (bus_of p)).at place (port_at ports place)).1 (g, held, refl) in
          is ∙ router_number c p size (good_choice ports (bus_of p) g) h f ∙ rw (t, at, without);
    }
