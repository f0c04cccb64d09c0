-- Two runs that have the same events of one kind agree in one view, whatever else happens in each of them: for any states, events, step,
-- kind, view, shared value and shown value that obey the laws below. The kind of an event may hang on the state, by something that no event changes. An event of
-- another kind keeps the view; an event of the kind, from states with equal views and equal shared values, gives equal views and shows equal things.
-- Assumes nothing.
use mathlib.Core.Bool.{Bool, true, false}
use mathlib.Core.List.{List, [], ◌∷◌, nil≢cons, head-eq_of_cons-eq, tail-eq_of_cons-eq}
use mathlib.Core.Path.{◌≡◌, refl, sym, ap, ◌∙◌, subst}
use Rattle.shares.specs.Kinds.{keep, only, along}

-- what is compared: a step, the events that both runs have in common (`mine`), those at which something is asked and shown (`seen`), the
-- states that are admitted, the view, and what is asked and what is shown at an event
pub record Machine (State Event View Cell Sight : Type 0) : Type 1 where
  pub next : State → Event → State
  pub mine : State → Event → Bool
  pub seen : State → Event → Bool
  pub Good : State → Type 0
  pub view : State → View
  pub cell : State → Event → Cell
  pub show : State → Event → Sight

-- the state after a run
abbrev pub final : {State Event : Type 0} → (State → Event → State) → State → List Event → State
final next s [] = s
final next s (e ∷ es) = final next (next s e) es

module _ {State Event View Cell Sight : Type 0} (m : Machine State Event View Cell Sight) where
  -- over a run, by the kinds that events have for its start
  abbrev pub cells : State → List Event → List Cell
  cells s es = along (m.seen s) m.next m.cell s es

  abbrev pub shows : State → List Event → List Sight
  shows s es = along (m.seen s) m.next m.show s es

  -- what the machine owes: the kinds stay; two states of which an event is of the kind for both see it or not alike
  pub record Laws : Type 0 where
    pub good : (s : State) (e : Event) → m.Good s → m.Good (m.next s e)
    pub steady : (s : State) (e : Event) → (m.mine (m.next s e) ≡ m.mine s) × (m.seen (m.next s e) ≡ m.seen s)
    pub within : (s : State) (e : Event) → m.mine s e ≡ false → m.seen s e ≡ false
    pub both : (s t : State) (e : Event) → m.mine s e ≡ true → m.mine t e ≡ true → m.seen s e ≡ m.seen t e
    pub hidden : (s : State) (e : Event) → m.Good s → m.mine s e ≡ false → m.view (m.next s e) ≡ m.view s
    pub stepped : (s t : State) (e : Event) → m.Good s → m.Good t → m.mine s e ≡ true → m.mine t e ≡ true → m.view s ≡ m.view t
        → (m.seen s e ≡ true → m.cell s e ≡ m.cell t e)
        → (m.view (m.next s e) ≡ m.view (m.next t e)) × (m.seen s e ≡ true → m.show s e ≡ m.show t e)

  -- the two runs, and what then agrees
  abbrev pub Agree : State → List Event → State → List Event → Type 0
  Agree s es t fs = (shows s es ≡ shows t fs) × (m.view (final m.next s es) ≡ m.view (final m.next t fs))

  abbrev pub Claim : State → List Event → State → List Event → Type 0
  Claim s es t fs =
      m.Good s → m.Good t → m.view s ≡ m.view t → only (m.mine s) es ≡ only (m.mine t) fs → cells s es ≡ cells t fs → Agree s es t fs

  -- the statement
  abbrev pub TwoRuns : Type 0
  TwoRuns = (s t : State) (es fs : List Event) → Claim s es t fs

-- ---- lists with or without a first element

module _ {A : Type 0} (x y : A) (xs ys : List A) where
  kept_equal : (b : Bool) → (b ≡ true → x ≡ y) → xs ≡ ys → keep b x xs ≡ keep b y ys
  kept_equal true h t = λ i. h refl i ∷ t i
  kept_equal false h t = t

  kept_head : (b : Bool) → keep b x xs ≡ keep b y ys → b ≡ true → x ≡ y
  kept_head true e h = head-eq_of_cons-eq e
  kept_head false e h = let z : true ≡ false = cc in cc

  kept_tail : (b : Bool) → keep b x xs ≡ keep b y ys → xs ≡ ys
  kept_tail true e = tail-eq_of_cons-eq e
  kept_tail false e = e

-- ---- the proof

module _ {State Event View Cell Sight : Type 0} (m : Machine State Event View Cell Sight) (laws : Laws m) where
  swapped : (s t : State) (es fs : List Event) → Claim m s es t fs → Claim m t fs s es
  swapped s t es fs c gt gs v o k = let r = c gs gt (sym v) (sym o) (sym k) in (sym r.0, sym r.1)

  -- behind an event the kinds are what they were
  only_steady : (s : State) (e : Event) (es : List Event) → only (m.mine (m.next s e)) es ≡ only (m.mine s) es
  only_steady s e es = ap (λ (kind : Event → Bool). only kind es) (laws.steady s e).0

  along_steady : {Value : Type 0} (value : State → Event → Value) (s : State) (e : Event) (es : List Event)
      → along (m.seen (m.next s e)) m.next value (m.next s e) es ≡ along (m.seen s) m.next value (m.next s e) es
  along_steady value s e es = ap (λ (kind : Event → Bool). along kind m.next value (m.next s e) es) (laws.steady s e).1

  -- an event of another kind, in front of either run
  passed : (s t : State) (e : Event) (es fs : List Event) → m.mine s e ≡ false → Claim m (m.next s e) es t fs → Claim m s (e ∷ es) t fs
  passed s t e es fs h c gs gt v o k =
      let n = laws.within s e h in
      let r =
      c (laws.good s e gs) gt (laws.hidden s e gs h ∙ v) (only_steady s e es ∙ (rw h at o)) (along_steady m.cell s e es ∙ (rw n at k)) in
      rw n (sym (along_steady m.show s e es) ∙ r.0, r.1)

  passed_right : (s t : State) (f : Event) (es fs : List Event) → m.mine t f ≡ false → Claim m s es (m.next t f) fs → Claim m s es t (f ∷ fs)
  passed_right s t f es fs h c =
      swapped t s (f ∷ fs) es (passed t s f fs es h (swapped s (m.next t f) es fs c))

  -- an event of the kind, in front of both
  taken : (s t : State) (e : Event) (es fs : List Event) → m.mine s e ≡ true → m.mine t e ≡ true → Claim m (m.next s e) es (m.next t e) fs
      → Claim m s (e ∷ es) t (e ∷ fs)
  taken s t e es fs h j c gs gt v o k =
      let same = laws.both s t e h j in
      let asked = subst (λ (b : Bool). cells m s (e ∷ es) ≡ keep b (m.cell t e) (along (m.seen t) m.next m.cell (m.next t e) fs)) (sym same) k in
      let step = laws.stepped s t e gs gt h j v (kept_head _ _ _ _ (m.seen s e) asked) in
      let events = only_steady s e es ∙ kept_tail _ _ _ _ true (rw (h, j) at o) ∙ sym (only_steady t e fs) in
      let cells = along_steady m.cell s e es ∙ kept_tail _ _ _ _ (m.seen s e) asked ∙ sym (along_steady m.cell t e fs) in
      let rest = c (laws.good s e gs) (laws.good t e gt) step.0 events cells in
      let shown = sym (along_steady m.show s e es) ∙ rest.0 ∙ along_steady m.show t e fs in (
        kept_equal _ _ _ _ (m.seen s e) step.1 shown
            ∙ ap (λ (b : Bool). keep b (m.show t e) (along (m.seen t) m.next m.show (m.next t e) fs)) same,
        rest.1,
      )

  -- a run that is over, beside one that goes on
  over : (s t : State) (f : Event) (fs : List Event) (b : Bool) → m.mine t f ≡ b → Claim m s [] (m.next t f) fs → Claim m s [] t (f ∷ fs)
  over s t f fs true h c = λ gs gt v o k. absurd (nil≢cons (rw h at o))
  over s t f fs false h c = passed_right s t f [] fs h c

  -- both go on: by their first events
  first : (s t : State) (e f : Event) (es fs : List Event) (a b : Bool) → m.mine s e ≡ a → m.mine t f ≡ b → Claim m (m.next s e) es t (f ∷ fs)
      → Claim m s (e ∷ es) (m.next t f) fs → Claim m (m.next s e) es (m.next t f) fs → Claim m s (e ∷ es) t (f ∷ fs)
  first s t e f es fs false b he hf left right both = passed s t e es (f ∷ fs) he left
  first s t e f es fs true false he hf left right both = passed_right s t f (e ∷ es) fs hf right
  first s t e f es fs true true he hf left right both =
      λ gs gt v o k.
      let same : e ≡ f = head-eq_of_cons-eq (rw (he, hf) at o) in
      subst (λ (x : Event). m.mine t x ≡ true → Claim m (m.next s e) es (m.next t x) fs → Claim m s (e ∷ es) t (x ∷ fs)) same
      (taken s t e es fs he) hf both gs gt v o k

  pub two_runs : TwoRuns m
  two_runs s t [] [] = λ gs gt v o k. (refl, v)
  two_runs s t [] (f ∷ fs) = over s t f fs (m.mine t f) refl (two_runs s (m.next t f) [] fs)
  two_runs s t (e ∷ es) [] =
      swapped t s [] (e ∷ es) (over t s e es (m.mine s e) refl (swapped (m.next s e) t es [] (two_runs (m.next s e) t es [])))
  two_runs s t (e ∷ es) (f ∷ fs) =
      first s t e f es fs (m.mine s e) (m.mine t f) refl refl (two_runs (m.next s e) t es (f ∷ fs)) (two_runs s (m.next t f) (e ∷ es) fs)
      (two_runs (m.next s e) (m.next t f) es fs)
