-- THEOREMS. "at most one port is chosen": of a good list, two ports that have a bus are at the same place. A port is chosen exactly if the list is good
-- and that port has the bus; none exactly if the list is good and no port has it; and the list is bad exactly if it is not good. Assumes nothing.
use Prim.Native.Nat.{ℕ, zero, suc, ◌+◌, ◌<◌}
use mathlib.Core.Bool.{Bool, true, false, cond, true≢false}
use mathlib.Core.List.{List, [], ◌∷◌}
use mathlib.Core.Logic.{◌↔◌, ⊎_elim}
use mathlib.Core.Path.{◌≡◌, refl, sym, ap, ◌∙◌, subst}
use Rattle.std.proofs.lemmas.Bool.{cases_Bool, false_from_ne_true}
use Rattle.std.specs.Prelude.{Option, Some, None, Ok, Err}
use native.Mathlib.Omega.{arith}
use lib.ListN.{length}
use Rattle.ports.specs.declared.Port.{Port}
use Rattle.ports.specs.declared.Exit.{Exit}
use Rattle.ports.specs.Ports.{has, bad_list}
use Rattle.ports.specs.Choice.{Choice, exit_at, list_refused, port_from, choice}
use Rattle.ports.specs.Noting.{no_port}
use Rattle.ports.proofs.Noted.{alone, chosen_none, chosen_at}
use Rattle.ports.proofs.Pairs.{port_at, Good, good_of, of_good}

-- the port at a place of a list has a bus
pub record HasAt (ps : List Port) (bus i : ℕ) : Type 0 where
  pub inside : i < length ps
  pub held : has (port_at ps i) bus ≡ true

-- the statements
abbrev pub AtMostOne : Type 0
AtMostOne = (ps : List Port) → Good ps → (bus i j : ℕ) → HasAt ps bus i → HasAt ps bus j → i ≡ j

pub record Chooses (ps : List Port) (bus : ℕ) : Type 0 where
  pub at : (i : ℕ) (p : Port) → (choice ps bus ≡ Ok (Some (exit_at i p))) ↔ (Good ps × HasAt ps bus i × (p ≡ port_at ps i))
  pub nowhere : (choice ps bus ≡ Ok None) ↔ (Good ps × ((i : ℕ) → HasAt ps bus i → ⊥))
  pub bad : (choice ps bus ≡ Err list_refused) ↔ (Good ps → ⊥)

abbrev pub ChoosesAlways : Type 0
ChoosesAlways = (ps : List Port) (bus : ℕ) → Chooses ps bus

pub at_most_one : AtMostOne
at_most_one ps g bus i j a b = alone ps g bus i j a.inside b.inside a.held b.held

-- ---- what `port_from` gives

abbrev place : Option Exit → ℕ
place None = 0
place (Some x) = x.place

abbrev port : Option Exit → Port
port None = no_port
port (Some x) = x.port

from_place : (ps : List Port) (k bus i : ℕ) (p : Port) → port_from k ps bus ≡ Some (exit_at i p)
    → (m : ℕ) × HasAt ps bus m × (p ≡ port_at ps m) × (i ≡ k + m)
from_place [] k bus i p e = absurd cc
from_place (q ∷ ps) k bus i p e = go (has q bus) refl (from_place ps (suc k) bus i p) e
  where
    go : (b : Bool) → has q bus ≡ b
        → (port_from (suc k) ps bus ≡ Some (exit_at i p) → (m : ℕ) × HasAt ps bus m × (p ≡ port_at ps m) × (i ≡ suc k + m))
        → cond b (Some (exit_at k q)) (port_from (suc k) ps bus) ≡ Some (exit_at i p)
        → (m : ℕ) × HasAt (q ∷ ps) bus m × (p ≡ port_at (q ∷ ps) m) × (i ≡ k + m)
    go true h rest e = (0, record { inside = omega arith; held = h }, sym (ap port e), omega (arith, ap place e))
    go false h rest e =
        let w = rest e in
        (suc w.0, record { inside = omega (arith, w.1.inside); held = w.1.held }, w.2, omega (arith, w.3))

from_nowhere : (ps : List Port) (k bus : ℕ) → port_from k ps bus ≡ None → (i : ℕ) → i < length ps → has (port_at ps i) bus ≡ false
from_nowhere [] k bus e i h = absurd (omega arith)
from_nowhere (q ∷ ps) k bus e i h = go (has q bus) refl (from_nowhere ps (suc k) bus) e i h
  where
    go : (b : Bool) → has q bus ≡ b → (port_from (suc k) ps bus ≡ None → (i : ℕ) → i < length ps → has (port_at ps i) bus ≡ false)
        → cond b (Some (exit_at k q)) (port_from (suc k) ps bus) ≡ None → (i : ℕ) → i < suc (length ps) → has (port_at (q ∷ ps) i) bus ≡ false
    go true g rest e i h = absurd cc
    go false g rest e zero h = g
    go false g rest e (suc i) h = rest e i (omega arith)

-- ---- the choice, by whether the list is bad

choice_good : (ps : List Port) (bus : ℕ) → bad_list ps ≡ false → choice ps bus ≡ Ok (port_from 0 ps bus)
unfolding choice
choice_good ps bus e = rw e

choice_bad : (ps : List Port) (bus : ℕ) → bad_list ps ≡ true → choice ps bus ≡ Err list_refused
unfolding choice
choice_bad ps bus e = rw e

not_both : (c : Choice) (o : Option Exit) → c ≡ Err list_refused → c ≡ Ok o → ⊥
not_both c o e f = cc

-- a choice that is no refusal was made of a good list
was_good : (ps : List Port) (bus : ℕ) (o : Option Exit) → choice ps bus ≡ Ok o → bad_list ps ≡ false
was_good ps bus o e = false_from_ne_true (bad_list ps) (λ b. not_both (choice ps bus) o (choice_bad ps bus b) e)

-- and is what `port_from` gives
was_given : (ps : List Port) (bus : ℕ) (o : Option Exit) → choice ps bus ≡ Ok o → port_from 0 ps bus ≡ o
was_given ps bus o e = same (choice ps bus) (port_from 0 ps bus) (choice_good ps bus (was_good ps bus o e)) e
  where
    same : (c : Choice) (a : Option Exit) → c ≡ Ok a → c ≡ Ok o → a ≡ o
    same c a f g = cc

before_none : (ps : List Port) → Good ps → (bus i : ℕ) → HasAt ps bus i → (j : ℕ) → j < i → has (port_at ps j) bus ≡ false
before_none ps g bus i h j l =
    false_from_ne_true (has (port_at ps j) bus) (λ e. other i j l (at_most_one ps g bus j i (record { inside = omega (arith, h.inside); held = e }) h))
  where
    other : (i j : ℕ) → j < i → j ≡ i → ⊥
    other i j l e = omega arith

pub chooses : ChoosesAlways
chooses ps bus =
    record {
      at = λ i p. (to_at i p, from_at i p);
      nowhere = (to_nowhere, from_none);
      bad = (to_bad, from_bad);
    }
  where
    to_at : (i : ℕ) (p : Port) → choice ps bus ≡ Ok (Some (exit_at i p)) → Good ps × HasAt ps bus i × (p ≡ port_at ps i)
    to_at i p e =
        let w = from_place ps 0 bus i p (was_given ps bus (Some (exit_at i p)) e) in
        let same : w.0 ≡ i = omega (arith, w.3) in
        (good_of ps (was_good ps bus (Some (exit_at i p)) e), subst (HasAt ps bus) same w.1, w.2 ∙ ap (port_at ps) same)

    from_at : (i : ℕ) (p : Port) → Good ps × HasAt ps bus i × (p ≡ port_at ps i) → choice ps bus ≡ Ok (Some (exit_at i p))
    from_at i p h =
        choice_good ps bus (of_good ps h.0)
        ∙ ap Ok (chosen_at ps 0 bus i h.1.inside h.1.held (before_none ps h.0 bus i h.1)
        ∙ ap (λ (k : ℕ). Some (exit_at k (port_at ps i))) (omega arith) ∙ ap (λ (q : Port). Some (exit_at i q)) (sym h.2))

    to_nowhere : choice ps bus ≡ Ok None → Good ps × ((i : ℕ) → HasAt ps bus i → ⊥)
    to_nowhere e = (
      good_of ps (was_good ps bus None e),
      λ i h. true≢false (sym h.held ∙ from_nowhere ps 0 bus (was_given ps bus None e) i h.inside),
    )

    from_none : Good ps × ((i : ℕ) → HasAt ps bus i → ⊥) → choice ps bus ≡ Ok None
    from_none h =
        choice_good ps bus (of_good ps h.0)
        ∙ ap Ok (chosen_none ps 0 bus (λ i l. false_from_ne_true (has (port_at ps i) bus) (λ e. h.1 i (record { inside = l; held = e }))))

    to_bad : choice ps bus ≡ Err list_refused → Good ps → ⊥
    to_bad e g = not_both (choice ps bus) (port_from 0 ps bus) e (choice_good ps bus (of_good ps g))

    from_bad : (Good ps → ⊥) → choice ps bus ≡ Err list_refused
    from_bad n = ⊎_elim (choice_bad ps bus) (λ b. absurd (n (good_of ps b))) (cases_Bool (bad_list ps))
