-- THEOREM. `begin`, a `note` for each port and `conclude` give the choice of the list, whatever its length. So does the walk of `choose`, which stops at the
-- port that is too many. Assumes nothing.
use Prim.Native.Nat.{ℕ, zero, suc, ◌+◌, ◌-◌, ◌≤◌, ◌<◌, max, min}
use mathlib.Core.Bool.{Bool, true, false, cond, ◌||◌, true≢false}
use mathlib.Core.List.{List, [], ◌∷◌}
use mathlib.Core.Logic.{⊎_elim}
use mathlib.Core.Path.{◌≡◌, refl, sym, ap, ◌∙◌, subst}
use Rattle.std.proofs.lemmas.Bool.{cases_Bool, cases_lt, false_from_ne_true, or_parts}
use Rattle.std.specs.Prelude.{Option, Some, None, Ok, Err}
use native.Mathlib.Omega.{arith}
use lib.Dec.{ltb}
use lib.ListN.{length, take, get_or}
use borrow.Author.Tests.{lt-ltb, le-ltb, ltb-true, ltb-false}
use Rattle.std.proofs.lemmas.List.{length-take, get_or-take, get_or_default}
use Rattle.ports.specs.declared.Port.{Port}
use Rattle.ports.specs.declared.Exit.{Exit}
use Rattle.ports.specs.declared.Survey.{Survey}
use Rattle.ports.specs.Ports.{has, exceeds, meet, bad_list}
use Rattle.ports.specs.Choice.{Choice, exit_at, list_refused, port_from, choice}
use Rattle.ports.specs.Buses.{buses_of, shared, together}
use Rattle.ports.specs.Noting.{no_port, begun, placed, noted, concluded, up_to, after, Notes}
use Rattle.ports.proofs.Members.{In, nothing_in, in_range, range_has, of_either, from_first, from_second, apart_in, shares_none}
use Rattle.ports.proofs.Pairs.{port_at, Sound, Good, has_is, is_has, in_both_meet, meet_in_both, good_of, of_good}

-- the buses of the first n ports are bytes
abbrev pub BytesUpTo : List Port → ℕ → Type 0
BytesUpTo ps n = (j : ℕ) → j < n → ((port_at ps j).secondary < 256) × ((port_at ps j).subordinate < 256)

-- the statement: the buses of ports are bytes, as their type has it
abbrev pub NotedIsChoice : Type 0
NotedIsChoice = (ps : List Port) (bus : ℕ) → BytesUpTo ps (length ps) → concluded (after ps bus (length ps)) ≡ choice ps bus

pub bytes_more : (ps : List Port) (i : ℕ) (p : Port) → BytesUpTo ps i → p ≡ get_or ps i no_port → (p.secondary < 256) × (p.subordinate < 256)
    → BytesUpTo ps (suc i)
bytes_more ps i p b e h j l =
    ⊎_elim (b j) (λ k. subst (λ (q : Port). (q.secondary < 256) × (q.subordinate < 256)) (e ∙ ap (get_d' ps) (omega arith)) h) (cases_lt j i)
  where
    get_d' : List Port → ℕ → Port
    get_d' ps k = get_or ps k no_port

-- of the first n ports none has the bus, or this one
abbrev Found : List Port → ℕ → ℕ → Option Exit → Type 0
Found ps bus n None = (i : ℕ) → i < n → has (port_at ps i) bus ≡ false
Found ps bus n (Some e) = (e.place < n) × (e.port ≡ port_at ps e.place) × (has e.port bus ≡ true)

-- what a survey of the first n ports says
record Surveyed (ps : List Port) (bus n : ℕ) (s : Survey) : Type 0 where
  same : s.bus ≡ bus
  counted : s.count ≡ n
  sound : s.bad ≡ false → Sound ps n
  unsound : s.bad ≡ true → Sound ps n → ⊥
  holds : Sound ps n → (x : ℕ) → x < 256 → In s.taken x → (i : ℕ) × (i < n) × (has (port_at ps i) x ≡ true)
  held : (i : ℕ) → i < n → (x : ℕ) → x < 256 → has (port_at ps i) x ≡ true → In s.taken x
  found : Found ps bus n s.found

surveyed_none : (ps : List Port) (bus : ℕ) → Surveyed ps bus 0 (begun bus)
unfolding begun
surveyed_none ps bus =
    record {
      same = refl;
      counted = refl;
      sound = λ e. record { ordered = λ i h. absurd (omega arith); apart = λ i j h l. absurd (omega arith) };
      unsound = λ e. absurd (true≢false (sym e));
      holds = λ s x h i. absurd (nothing_in x i);
      held = λ i h. absurd (omega arith);
      found = λ i h. absurd (omega arith);
    }

module _ (ps : List Port) (bus n : ℕ) (s : Survey) (before : Surveyed ps bus n s) (few : n ≤ 32) (bytes : BytesUpTo ps (suc n)) where
  abbrev p : Port
  p = port_at ps n

  -- the survey with port n, where there is room for one
  abbrev next : Survey
  next =
      record {
        bus = s.bus;
        count = s.count + 1;
        taken = together s.taken (buses_of p);
        bad = s.bad || (exceeds p || shared s.taken (buses_of p));
        found = placed s p;
      }

  noted_next : noted s p ≡ next
  unfolding noted
  noted_next = rw (le-ltb 32 s.count (omega (arith, before.counted)))

  -- port n or one before it
  at_place : (P : ℕ → Type 0) (i : ℕ) → i < suc n → (i < n → P i) → P n → P i
  at_place P i h old new = ⊎_elim old (λ l. subst P (omega arith) new) (cases_lt i n)

  earlier : Sound ps (suc n) → Sound ps n
  earlier z = record { ordered = λ i h. z.ordered i (omega arith); apart = λ i j h l. z.apart i j h (omega arith) }

  -- a port before that meets port n has a bus of its set
  apart_now : Sound ps n → p.secondary ≤ p.subordinate → shared s.taken (buses_of p) ≡ false → (i : ℕ) → i < n → meet (port_at ps i) p ≡ false
  apart_now z o e i h =
      false_from_ne_true (meet (port_at ps i) p) (λ m.
      let x = max (port_at ps i).secondary p.secondary in
      let b = meet_in_both (port_at ps i) p (z.ordered i h) o m in
      let u = has_is p x b.1 in
      let small : x < 256 = omega (arith, u.1, (bytes n (omega arith)).1) in
      apart_in s.taken (buses_of p) x e (before.held i h x small b.0) (in_range p x small u.0 u.1))

  sound_next : next.bad ≡ false → Sound ps (suc n)
  sound_next e =
      let a = or_parts s.bad (exceeds p || shared s.taken (buses_of p)) e in
      let b = or_parts (exceeds p) (shared s.taken (buses_of p)) a.1 in
      let z = before.sound a.0 in
      let o = ltb-false p.subordinate p.secondary b.0 in
      record {
        ordered = λ i h. at_place (λ (k : ℕ). (port_at ps k).secondary ≤ (port_at ps k).subordinate) i h (z.ordered i) o;
        apart = λ i j h l.
            at_place (λ (k : ℕ). i < k → meet (port_at ps i) (port_at ps k) ≡ false) j l (λ k g. z.apart i j g k) (λ g. apart_now z o b.1 i g) h;
      }

  holds_next : Sound ps (suc n) → (x : ℕ) → x < 256 → In next.taken x → (i : ℕ) × (i < suc n) × (has (port_at ps i) x ≡ true)
  holds_next z x h i =
      ⊎_elim
      (λ old. let w = before.holds (earlier z) x h old in (w.0, omega (arith, w.1), w.2))
      (λ new. let r = range_has p x h (z.ordered n (omega arith)) new in (n, omega arith, is_has p x r.0 r.1))
      (of_either s.taken (buses_of p) x i)

  unshared : Sound ps (suc n) → shared s.taken (buses_of p) ≡ false
  unshared z =
      shares_none s.taken p (λ x h i j.
      let w = before.holds (earlier z) x h i in
      let r = range_has p x h (z.ordered n (omega arith)) j in
      true≢false (sym (in_both_meet (port_at ps w.0) p x w.2 (is_has p x r.0 r.1)) ∙ z.apart w.0 n w.1 (omega arith)))

  unsound_next : next.bad ≡ true → Sound ps (suc n) → ⊥
  unsound_next e z =
      let c : next.bad ≡ false = rw (
        false_from_ne_true s.bad (λ b. before.unsound b (earlier z)),
        le-ltb p.subordinate p.secondary (z.ordered n (omega arith)),
        unshared z,
      ) in
      true≢false (sym e ∙ c)

  held_next : (i : ℕ) → i < suc n → (x : ℕ) → x < 256 → has (port_at ps i) x ≡ true → In next.taken x
  held_next i h x l =
      at_place (λ (k : ℕ). has (port_at ps k) x ≡ true → In next.taken x) i h
      (λ k e. from_first s.taken (buses_of p) x (before.held i k x l e))
      (λ e. let r = has_is p x e in from_second s.taken (buses_of p) x (in_range p x l r.0 r.1))

  -- the port that has the bus, by whether port n has it
  found_next : Found ps bus (suc n) next.found
  unfolding placed
  found_next = go (has p s.bus) refl
    where
      kept : (o : Option Exit) → Found ps bus n o → has p bus ≡ false → Found ps bus (suc n) o
      kept None f e = λ i h. at_place (λ (k : ℕ). has (port_at ps k) bus ≡ false) i h (f i) e
      kept (Some x) f e = (omega (arith, f.0), f.1, f.2)

      go : (b : Bool) → has p s.bus ≡ b → Found ps bus (suc n) (cond b (Some (exit_at s.count p)) s.found)
      go true e = (omega (arith, before.counted), ap (port_at ps) (sym before.counted), subst (λ (x : ℕ). has p x ≡ true) before.same e)
      go false e = kept s.found before.found (subst (λ (x : ℕ). has p x ≡ false) before.same e)

  surveyed_more : Surveyed ps bus (suc n) (noted s p)
  surveyed_more =
      subst (Surveyed ps bus (suc n)) (sym noted_next)
      (record {
        same = before.same;
        counted = omega (arith, before.counted);
        sound = sound_next;
        unsound = unsound_next;
        holds = holds_next;
        held = held_next;
        found = found_next;
      })

surveyed : (ps : List Port) (bus n : ℕ) → n ≤ 33 → BytesUpTo ps n → Surveyed ps bus n (after ps bus n)
surveyed ps bus zero h b = surveyed_none ps bus
surveyed ps bus (suc n) h b = surveyed_more ps bus n (after ps bus n) (surveyed ps bus n (omega arith) (λ j l. b j (omega arith))) (omega arith) b

-- ---- the choice

pub chosen_none : (ps : List Port) (k bus : ℕ) → ((i : ℕ) → i < length ps → has (port_at ps i) bus ≡ false) → port_from k ps bus ≡ None
chosen_none [] k bus n = refl
chosen_none (p ∷ ps) k bus n = rw (n 0 (omega arith)) (chosen_none ps (suc k) bus (λ i h. n (suc i) (omega arith)))

pub chosen_at : (ps : List Port) (k bus m : ℕ) → m < length ps → has (port_at ps m) bus ≡ true → ((i : ℕ) → i < m → has (port_at ps i) bus ≡ false)
    → port_from k ps bus ≡ Some (exit_at (k + m) (port_at ps m))
chosen_at [] k bus m h e n = absurd (omega arith)
chosen_at (p ∷ ps) k bus zero h e n = rw e (ap (λ (i : ℕ). Some (exit_at i p)) (omega arith))
chosen_at (p ∷ ps) k bus (suc m) h e n =
    rw (n 0 (omega arith))
    (chosen_at ps (suc k) bus m (omega arith) e (λ i l. n (suc i) (omega arith)) ∙ ap (λ (i : ℕ). Some (exit_at i (port_at ps m))) (omega arith))

-- of a good list, no port but the one that has the bus has it
pub alone : (ps : List Port) → Good ps → (bus i j : ℕ) → i < length ps → j < length ps → has (port_at ps i) bus ≡ true → has (port_at ps j) bus ≡ true → i ≡ j
alone ps g bus i j h l e f =
    ⊎_elim
    (λ o. absurd (clash i j o l e f))
    (λ o. ⊎_elim (λ q. absurd (clash j i q h f e)) (λ q. omega arith) (cases_lt j i))
    (cases_lt i j)
  where
    clash : (i j : ℕ) → i < j → j < length ps → has (port_at ps i) bus ≡ true → has (port_at ps j) bus ≡ true → ⊥
    clash i j o l e f = true≢false (sym (in_both_meet (port_at ps i) (port_at ps j) bus e f) ∙ g.sound.apart i j o l)

module _ (ps : List Port) (bus : ℕ) (few : length ps ≤ 32) (s : Survey) (all : Surveyed ps bus (length ps) s) where
  bad_is : s.bad ≡ bad_list ps
  bad_is =
      ⊎_elim
      (λ b. b ∙ sym (⊎_elim (λ t. t) (λ f. absurd (all.unsound b (good_of ps f).sound)) (cases_Bool (bad_list ps))))
      (λ b. b ∙ sym (of_good ps (record { few = few; sound = all.sound b })))
      (cases_Bool s.bad)

  found_is : bad_list ps ≡ false → s.found ≡ port_from 0 ps bus
  found_is g = go s.found all.found
    where
      other : (m i : ℕ) → i < m → i ≡ m → ⊥
      other m i h e = omega arith

      go : (o : Option Exit) → Found ps bus (length ps) o → o ≡ port_from 0 ps bus
      go None n = sym (chosen_none ps 0 bus n)
      go (Some x) w =
          let f = subst (λ (q : Port). has q bus ≡ true) w.1 w.2 in
          ap (λ (q : Port). Some (exit_at x.place q)) w.1
          ∙ sym (chosen_at ps 0 bus x.place w.0 f (λ i h. false_from_ne_true (has (port_at ps i) bus) (λ t.
          other x.place i h (alone ps (good_of ps g) bus i x.place (omega (arith, w.0)) w.0 t f)))
          ∙ ap (λ (i : ℕ). Some (exit_at i (port_at ps x.place))) (omega arith))

  concluded_few : concluded s ≡ choice ps bus
  unfolding concluded choice
  concluded_few =
      rw (le-ltb 32 s.count (omega (arith, all.counted)), bad_is)
      (by_list (bad_list ps) refl)
    where
      by_list : (b : Bool) → bad_list ps ≡ b
          → cond {A = Choice} b (Err list_refused) (Ok s.found) ≡ cond b (Err list_refused) (Ok (port_from 0 ps bus))
      by_list true e = refl
      by_list false e = ap Ok (found_is e)

concluded_many : (ps : List Port) (bus : ℕ) (s : Survey) → 32 < length ps → s.count ≡ 33 → concluded s ≡ choice ps bus
unfolding concluded choice bad_list
concluded_many ps bus s h e = rw (lt-ltb 32 s.count (omega arith), lt-ltb 32 (length ps) h)

pub concluded_is_choice : (ps : List Port) (bus : ℕ) → BytesUpTo ps (up_to (length ps)) → concluded (after ps bus (up_to (length ps))) ≡ choice ps bus
concluded_is_choice ps bus b = go (ltb 32 (length ps)) refl b
  where
    go : (t : Bool) → ltb 32 (length ps) ≡ t → BytesUpTo ps (cond t 33 (length ps)) → concluded (after ps bus (cond t 33 (length ps))) ≡ choice ps bus
    go true e b = concluded_many ps bus (after ps bus 33) (ltb-true 32 (length ps) e) (surveyed ps bus 33 (omega arith) b).counted
    go false e b = let h = ltb-false 32 (length ps) e in concluded_few ps bus h (after ps bus (length ps)) (surveyed ps bus (length ps) (omega arith) b)

-- ---- the walk over a lent list, which goes no further than the port that is too many

-- what is known when n ports have been noted
pub record Walked (ps : List Port) (bus n : ℕ) (s : Survey) : Type 0 where
  pub is : s ≡ after ps bus n
  pub bytes : BytesUpTo ps n

pub walked_more : (ps : List Port) (bus n m : ℕ) (q : Port) (s r : Survey) → Walked ps bus n s
    → (n < length (take 33 ps)) × (q ≡ get_or (take 33 ps) n q) → Notes s q r → m ≡ n + 1 → Walked ps bus m r
walked_more ps bus n m q s r w turn notes e =
    let few : (n < 33) × (n < length ps) = (omega (arith, length-take 33 ps), omega (arith, length-take 33 ps)) in
    let here : q ≡ get_or ps n no_port = turn.1 ∙ get_or-take 33 ps n q few.0 ∙ get_or_default ps n q no_port few.1 in
    let next : suc n ≡ m = omega (arith, e) in
    subst (λ (k : ℕ). Walked ps bus k r) next
    (record {
      is = notes.is ∙ ap (λ (t : Survey). noted t q) w.is ∙ ap (noted (after ps bus n)) here;
      bytes = bytes_more ps n q w.bytes here notes.bytes;
    })

pub walked_all : (ps : List Port) (bus n : ℕ) (s : Survey) → Walked ps bus n s → n ≡ length (take 33 ps) → concluded s ≡ choice ps bus
walked_all ps bus n s w e =
    let all : n ≡ up_to (length ps) = e ∙ length-take 33 ps ∙ go (ltb 32 (length ps)) refl in
    ap concluded (w.is ∙ ap (after ps bus) all) ∙ concluded_is_choice ps bus (subst (BytesUpTo ps) all w.bytes)
  where
    go : (b : Bool) → ltb 32 (length ps) ≡ b → min 33 (length ps) ≡ cond b 33 (length ps)
    go true e = let h = ltb-true 32 (length ps) e in omega arith
    go false e = let h = ltb-false 32 (length ps) e in omega arith

-- ---- a list of any length

-- past 32, noting a port changes nothing
noted_full : (s : Survey) (p : Port) → 32 < s.count → noted s p ≡ s
unfolding noted
noted_full s p h = rw (lt-ltb 32 s.count h)

full_stays : (ps : List Port) (bus n k : ℕ) → 32 < (after ps bus n).count → after ps bus (k + n) ≡ after ps bus n
full_stays ps bus n zero h = let none : 0 + n ≡ n = omega arith in ap (after ps bus) none
full_stays ps bus n (suc k) h =
    let e = full_stays ps bus n k h in
    let next : suc k + n ≡ suc (k + n) = omega arith in
    ap (after ps bus) next ∙ noted_full (after ps bus (k + n)) (get_or ps (k + n) no_port) (subst (λ (s : Survey). 32 < s.count) (sym e) h) ∙ e

pub noted_is_choice : NotedIsChoice
noted_is_choice ps bus b = go (ltb 32 (length ps)) refl (concluded_is_choice ps bus)
  where
    go : (t : Bool) → ltb 32 (length ps) ≡ t → (BytesUpTo ps (cond t 33 (length ps)) → concluded (after ps bus (cond t 33 (length ps))) ≡ choice ps bus)
        → concluded (after ps bus (length ps)) ≡ choice ps bus
    go true e is =
        let h = ltb-true 32 (length ps) e in
        let few : BytesUpTo ps 33 = λ j l. b j (omega arith) in
        let counted = (surveyed ps bus 33 (omega arith) few).counted in
        let split : length ps ≡ (length ps - 33) + 33 = omega arith in
        ap concluded (ap (after ps bus) split ∙ full_stays ps bus 33 (length ps - 33) (omega (arith, counted))) ∙ is few
    go false e is = is b
