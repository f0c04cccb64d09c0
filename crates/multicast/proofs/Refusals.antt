-- THEOREM. When an address is refused, of any answer that meets the promise, and of any list of rows of seven numbers of 64 bits: the number is 1 exactly if the
-- list has more than 32 ports, or there is no such port, or one of the records is none that the reading gives for any space and offset; and it is 0 else.
-- A refusal tells nothing else: no verdict, group 0 and no port. Assumes nothing.
use Prim.Native.Nat.{ℕ, suc, ◌≤◌, ◌<◌}
use mathlib.Core.Bool.{Bool, true, false, ◌&&◌, cond}
use mathlib.Core.List.{List, [], ◌∷◌}
use mathlib.Core.Logic.{◌⊎◌, inl, inr, ⊎_elim, ◌↔◌}
use mathlib.Core.Path.{◌≡◌, refl, sym, ap, ◌∙◌}
use native.Mathlib.Omega.{arith}
use borrow.Author.Tests.{eqb-false}
use lib.ListN.{length}
use Rattle.answers.specs.declared.Refusal.TheVariants.{BadDescription}
use Rattle.std.specs.Prelude.{Result, Err}
use Rattle.answers.specs.declared.Refusal.{Refusal}
use Rattle.multicast.specs.declared.Record.{Record}
use Rattle.multicast.specs.declared.Judged.{Judged}
use Rattle.multicast.specs.Capability.{block_all}
use Rattle.multicast.specs.Records.{Row, Given, is_record, are_records}
use Rattle.multicast.specs.Judging.{port_at, is_bad, group_of, is_hit, is_set, JudgedTold, told, unsaid, no_hit, dropped, leaves, entering_by, judged, tells_judged, Judges}
use Rattle.multicast.proofs.Given.{given_exactly}
use Rattle.multicast.proofs.Judgments.{good, judges_bad, good_length, good_place, good_records}
use Rattle.multicast.proofs.Sets.{below_or_from}
use Rattle.multicast.proofs.Unique.{judge_unique}
use Rattle.multicast.proofs.Walks.{record_among}

-- why an address is refused: "a longer list, no such port, or a record the reading can't give"
pub data Refusable (ports : List Record) (entering : ℕ) : Type 0 where
  longer : 32 < length ports → Refusable ports entering
  no_port : length ports ≤ entering → Refusable ports entering
  not_given : (k : ℕ) → k < length ports → (Given (port_at ports k) → ⊥) → Refusable ports entering

-- the statements
abbrev pub RefusedExactly : Type 0
RefusedExactly =
    (ports : List Record) (entering address : ℕ) (r : Result Judged Refusal) → ((k : ℕ) → k < length ports → Row (port_at ports k)) → Judges ports entering address r
    → (((tells_judged r).number ≡ 1) ↔ Refusable ports entering) × (((tells_judged r).number ≡ 0) ⊎ ((tells_judged r).number ≡ 1))

abbrev pub RefusedTellsNothing : Type 0
RefusedTellsNothing =
    (ports : List Record) (entering address : ℕ) (r : Result Judged Refusal) → Judges ports entering address r → ((tells_judged r).number ≡ 0 → ⊥)
    → r ≡ Err BadDescription

-- ---- the number, by whether the list is bad

never : true ≡ false → ⊥
never e = eqb-false 0 0 e refl

served_number : (r : Record) (address : ℕ) → (entering_by r address).number ≡ 0
unfolding entering_by
served_number r address = go (is_hit r address) (is_set (group_of r address) (block_all r)) (group_of r address)
  where
    go : (hit blocked : Bool) (g : ℕ) → (cond hit (cond blocked (told 0 dropped g) (told 0 leaves g)) (told 0 no_hit 0)).number ≡ 0
    go true true g = refl
    go true false g = refl
    go false blocked g = refl

judged_number : (ports : List Record) (entering address : ℕ) → (judged ports entering address).number ≡ cond (is_bad ports entering) 1 0
unfolding judged
judged_number ports entering address = go (is_bad ports entering)
  where
    go : (b : Bool) → (cond b (told 1 unsaid 0) (entering_by (port_at ports entering) address)).number ≡ cond b 1 0
    go true = refl
    go false = served_number (port_at ports entering) address

-- ---- and that, by the causes

first_not : (ports : List Record) → are_records ports ≡ false → (k : ℕ) × (k < length ports) × (is_record (port_at ports k) ≡ false)
first_not [] e = absurd (never e)
first_not (r ∷ rs) e = go (is_record r) refl e (first_not rs)
  where
    go : (b : Bool) → is_record r ≡ b → b && are_records rs ≡ false → (are_records rs ≡ false → (k : ℕ) × (k < length rs) × (is_record (port_at rs k) ≡ false))
        → (k : ℕ) × (k < suc (length rs)) × (is_record (port_at (r ∷ rs) k) ≡ false)
    go false f e rest = (0, omega arith, f)
    go true f e rest = let (k, h, n) = rest e in (suc k, omega arith, n)

module _ (ports : List Record) (entering : ℕ) where
  bad_refusable : is_bad ports entering ≡ true → Refusable ports entering
  bad_refusable e =
      ⊎_elim longer (λ (few : length ports ≤ 32). ⊎_elim (λ (inside : entering < length ports). among few inside (are_records ports) refl) no_port (below_or_from entering (length ports)))
      (below_or_from 32 (length ports))
    where
      among : length ports ≤ 32 → entering < length ports → (b : Bool) → are_records ports ≡ b → Refusable ports entering
      among few inside true f = absurd (never (sym e ∙ good ports entering few inside f))
      among few inside false f = let (k, h, n) = first_not ports f in not_given k h (λ g. never (sym ((given_exactly (port_at ports k)).0 g).1 ∙ n))

  module _ (rows : (k : ℕ) → k < length ports → Row (port_at ports k)) where
    no_cause : is_bad ports entering ≡ false → Refusable ports entering → ⊥
    no_cause e (longer h) = let few = good_length ports entering e in omega arith
    no_cause e (no_port h) = let inside = good_place ports entering e in omega arith
    no_cause e (not_given k h n) = n ((given_exactly (port_at ports k)).1 (rows k h, record_among ports k (good_records ports entering e) h))

    refusable_bad : Refusable ports entering → is_bad ports entering ≡ true
    refusable_bad c = go (is_bad ports entering) refl
      where
        go : (b : Bool) → is_bad ports entering ≡ b → b ≡ true
        go true e = refl
        go false e = absurd (no_cause e c)

pub refused_exactly : RefusedExactly
refused_exactly ports entering address r rows j =
    let number : (tells_judged r).number ≡ cond (is_bad ports entering) 1 0 = ap (λ (t : JudgedTold). t.number) j.tells ∙ judged_number ports entering address in (
      (
        (λ e. bad_refusable ports entering (is_bad_lem (is_bad ports entering) (sym number ∙ e))),
        (λ c. number ∙ ap (λ (b : Bool). cond b 1 0) (refusable_bad ports entering rows c)),
      ),
      either (is_bad ports entering) number,
    )
  where
    is_bad_lem : (b : Bool) → ◌≡◌ {A = ℕ} (cond b 1 0) 1 → b ≡ true
    is_bad_lem true e = refl
    is_bad_lem false e = absurd (omega arith)

    either : (b : Bool) {n : ℕ} → n ≡ cond b 1 0 → (n ≡ 0) ⊎ (n ≡ 1)
    either true e = inr e
    either false e = inl e

pub refused_tells_nothing : RefusedTellsNothing
refused_tells_nothing ports entering address r j n =
    judge_unique ports entering address r (Err BadDescription) j
    (judges_bad ports entering address (is_bad_lem (is_bad ports entering) (λ e. n (ap (λ (t : JudgedTold). t.number) j.tells ∙ judged_number ports entering address ∙ e))))
  where
    is_bad_lem : (b : Bool) → (◌≡◌ {A = ℕ} (cond b 1 0) 0 → ⊥) → b ≡ true
    is_bad_lem true m = refl
    is_bad_lem false m = absurd (m refl)
