-- Laws of the walk's answers: what each way out of it promises, from what the chase told. Assumes nothing.
use Prim.Native.Nat.{ℕ, zero, suc, ◌≤◌, ◌<◌}
use mathlib.Core.List.{List}
use mathlib.Core.Logic.{⊎_elim}
use mathlib.Core.Logic.◌⊎◌.{inr}
use mathlib.Core.Path.{◌≡◌, refl, sym, ap, subst, ◌∙◌}
use native.Mathlib.Nat.{eq-or-lt_of_le}
use native.Mathlib.Omega.{arith}
use lib.Dec.{lit≤}
use lib.ListN.{length, take, get_or}
use lib.Seq.{length-take-le, get_or-take}
use Rattle.answers.specs.Numbers.{number_of}
use Rattle.std.specs.Prelude.{Err}
use Rattle.answers.specs.declared.Refusal.{Refusal}
use Rattle.lists.specs.declared.Kind.{Kind}
use Rattle.lists.specs.declared.Refused.{Refused}
use Rattle.lists.specs.declared.Kind.TheVariants.{Compatible, Extended, Trusted}
use Rattle.lists.specs.Table.{ListRule, describe}
use Rattle.lists.specs.Breaks.{met, holder, Back, Reached, Breaks.falls, Breaks.turns}
use Rattle.lists.specs.Walks.{Roomy, Refuses, Walks, Walks.broken}
use Rattle.lists.specs.Inner.{Followed, Underway, Stops, Onward, Words, FirstAgain, RefusedAt, Told, Told.below, Told.back, last_of}
use Rattle.lists.proofs.Course.{leading_more, new_before, one_more}
use Rattle.lists.proofs.Pointers.{Bytes}
use Rattle.lists.proofs.Maxima.{met_within, leading_maximum}
use Rattle.lists.proofs.Breaking.{back_or_new, span_most}

pub maximum_bounds : (kind : Kind) → (48 ≤ (describe kind).maximum) × ((describe kind).maximum ≤ 1022)
maximum_bounds Compatible = (lit≤ tt, lit≤ tt)
maximum_bounds Extended = (lit≤ tt, lit≤ tt)
maximum_bounds Trusted = (lit≤ tt, lit≤ tt)

pub refuses : {refusal : Refusal} {place : ℕ} {r : Refused} (room : List ℕ) → RefusedAt refusal place r
    → Refuses (number_of refusal) place room (Err r) room
refuses room e =
    record { given = ap (λ (x : Refused). number_of x.refusal) e; none = refl; told = ap (λ (x : Refused). x.place) e; kept = refl }

-- ---- how a chase ended, and its log

-- the last of the first so many offsets of a log
pub last_front : (log : List ℕ) (count : ℕ) → count ≤ length log → last_of (take count log) (length (take count log)) ≡ last_of log count
last_front log zero h = refl
last_front log (suc k) h = ap (last_of (take (suc k) log)) (length-take-le (suc k) log h) ∙ get_or-take (suc k) log k 0 (omega arith)

module _ {list : ListRule} {s log : List ℕ} {count : ℕ} (f : Followed list s log count) where
  pub logged_in : (k : ℕ) → k < count → get_or (take count log) k 0 ≡ met list s k
  logged_in k h = get_or-take count log k 0 h ∙ f.logged k h

  log_length : length (take count log) ≡ count
  log_length = length-take-le count log f.fits

  -- the structure that holds a pointer is the one that was logged before it
  last_holder : (k : ℕ) → k ≤ count → last_of (take count log) k ≡ holder list s k
  unfolding holder
  last_holder zero h = refl
  last_holder (suc k) h = logged_in k h

-- ---- what broke

module _ (kind : Kind) (s log : List ℕ) (bytes : Bytes s) where
  -- the offsets of a log are those of words
  pub followed_words : {count : ℕ} → Followed (describe kind) s log count → Words (take count log)
  followed_words {count} f =
      record {
        aligned = λ k h. rw (logged_in f k (omega (arith, log_length f))) (met_within kind s bytes k).aligned;
        inside = λ k h.
            rw (logged_in f k (omega (arith, log_length f)))
            (omega (arith, (met_within kind s bytes k).aligned, (met_within kind s bytes k).below, span_most kind));
      }

  -- what broke is looked for in the log of a chase that stopped
  pub broken_asks : {count pointer : ℕ} → Stops kind s log count pointer → Words (take count log) × Onward pointer
  broken_asks t =
      let u = t.underway in
      (followed_words u.followed, record { not_end = t.onward; inside = u.inside })

  -- with so many pointers followed, and no offset twice up to some place, the walk comes to the pointer there
  reached_place : {count : ℕ} → Followed (describe kind) s log count → (index : ℕ) → FirstAgain (take count log) index
      → Reached (describe kind) s index
  reached_place {count} f index a k small =
      let inside : index ≤ count = omega (arith, a.within, log_length f) in
      record {
        onward = f.leading.onward k (omega arith);
        above = f.leading.above k (omega arith);
        new = λ b.
            a.apart b.earlier k b.before small
            (logged_in f b.earlier (omega (arith, b.before)) ∙ sym b.same ∙ sym (logged_in f k (omega arith)));
      }

  -- where a log of the maximum is full, and no offset in it stands twice, the next pointer comes back
  full_back : {count pointer : ℕ} → Underway kind s log count pointer → (pointer ≡ 0 → ⊥) → (describe kind).floor ≤ pointer
      → Reached (describe kind) s count → (describe kind).maximum ≤ count → Back (describe kind) s count
  full_back {count} u on high r most =
      ⊎_elim (λ b. b)
      (λ new.
      let more = leading_more u.followed.leading (λ z. on (u.here ∙ z)) (omega (arith, u.here)) in
      absurd (omega (arith, leading_maximum kind s bytes (suc count) more (one_more (λ k. Back (describe kind) s k → ⊥) count (λ k small. (r k small).new) new))))
      (back_or_new count)

  module _ {count pointer : ℕ} (t : Stops kind s log count pointer) (most : count ≡ length log → (describe kind).maximum ≤ count) where
    came_back : (describe kind).floor ≤ pointer → Reached (describe kind) s count → Back (describe kind) s count
    came_back high r =
        ⊎_elim (λ low. absurd (omega arith))
        (λ rest. ⊎_elim (λ b. b) (λ full. full_back t.underway t.onward high r (most full)) rest) t.why

    -- the first place of the log that has an offset again is where the list comes back first
    back_there : (describe kind).floor ≤ pointer → (index : ℕ) → FirstAgain (take count log) index → Back (describe kind) s index
    back_there high index a =
        let f = t.underway.followed in
        let r = reached_place f index a in
        let inside : index ≤ count = omega (arith, a.within, log_length f) in
        ⊎_elim (λ e. subst (λ (n : ℕ). Back (describe kind) s n) (sym e) (came_back high (subst (λ (n : ℕ). Reached (describe kind) s n) e r)))
        (λ less.
        let o = a.again (omega (arith, log_length f)) in
        record { earlier = o.0; before = o.1; same = sym (logged_in f index less) ∙ sym o.2 ∙ logged_in f o.0 (omega (arith, o.1)) })
        (eq-or-lt_of_le inside)

    pub walks_told : {room : List ℕ} {r : Refused} → Roomy kind room → Told (describe kind) (take count log) pointer r → Walks kind s room (Err r) room
    walks_told {room} roomy (below low a) =
        let u = t.underway in
        let f = u.followed in
        let fell : met (describe kind) s count < (describe kind).floor = omega (arith, u.here) in
        broken u.space roomy 11 (last_of (take count log) (length (take count log)))
        (falls count
        (λ k small.
        record {
          onward = f.leading.onward k small;
          above = f.leading.above k small;
          new = new_before f.leading (inr fell) k small;
        })
        (record { onward = λ z. t.onward (u.here ∙ z); low = fell }) refl
        (ap (last_of (take count log)) (log_length f) ∙ last_holder f count (omega arith)))
        (refuses room a)
    walks_told {room} roomy (back high index again a) =
        let f = t.underway.followed in
        broken t.underway.space roomy 12 (last_of (take count log) index)
        (turns index (reached_place f index again) (back_there high index again) refl
        (last_holder f index (omega (arith, again.within, log_length f))))
        (refuses room a)
