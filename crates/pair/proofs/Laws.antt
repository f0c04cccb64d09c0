-- Laws of the definitions of this crate: whom a packet is for, and which of the two functions answers it. Assumes nothing.
use Prim.Native.Nat.{ℕ, zero, suc}
use mathlib.Core.Bool.{Bool, true, false, not, ◌&&◌, cond, or-false, or-true, and-false, true≢false}
use mathlib.Core.List.{List, []}
use mathlib.Core.Path.{◌≡◌, refl, sym, ap, ◌∙◌}
use native.Mathlib.Omega.{arith}
use lib.Dec.{eqb, ltb}
use borrow.Author.Tests.{eq-eqb, ne_eqb, eqb-true}
use Rattle.answers.specs.declared.Refusal.{Refusal}
use Rattle.answers.specs.Numbers.{number_of}
use Rattle.answers.proofs.Unique.{number_positive}
use Rattle.packet.specs.declared.Target.{Target}
use Rattle.packet.specs.declared.Target.TheVariants.{Type0, Type1, Trusted}
use Rattle.packet.specs.declared.Request.{Request}
use Rattle.packet.specs.Fields.{data_of}
use Rattle.packet.specs.Request.{number_under, request_of}
use Rattle.capture.specs.declared.Capture.{Capture}
use Rattle.capture.specs.declared.Capture.TheVariants.{Nothing, Number}
use Rattle.board.specs.declared.Description.{Description}
use Rattle.board.specs.Description.{Board, badly_described}
use Rattle.board.specs.Access.{is_type1, unsupported}
use Rattle.board.specs.Serving.{serve, serve_number, by_number, respond}
use Rattle.board.proofs.Outcomes.{respond_unsupported}
use Rattle.board.proofs.Refusals.{sound_served}
use Rattle.pair.specs.Pair.{Pair, Role, Primary, Alternate, other, board, bad_pair, WellPaired, is_for, is_for_role}
use Rattle.pair.specs.Pair as pairs
use Rattle.pair.specs.Serving as serving
use Rattle.pair.specs.Serving.{PairOutcome, answers_as, served_by, delivered, pair_number, pair_refused, by_pair_number, serve_pair}

-- ---- whom a packet is for

pub type1_only : (target : Target) → (target ≡ Type1 → ⊥) → is_type1 target ≡ false
type1_only Type0 n = refl
type1_only Type1 n = absurd (n refl)
type1_only Trusted n = refl

module _ (edition number : ℕ) (p : List ℕ) where
  pub for_refused : (refusal : Refusal) → number_under edition p ≡ number_of refusal → is_for edition number p ≡ false
  unfolding is_for
  for_refused refusal n = rw (ne_eqb (number_under edition p) 0 (λ z. number_positive refusal (sym n ∙ z)))

  pub for_asked : (q : Request) → number_under edition p ≡ 0 → q ≡ request_of p
      → is_for edition number p ≡ (not (is_type1 q.target) && eqb q.function number)
  unfolding is_for
  for_asked q n e = rw (eq-eqb (number_under edition p) 0 n, e)

  pub for_target : (q : Request) (target : Target) → number_under edition p ≡ 0 → q ≡ request_of p → q.target ≡ target
      → is_for edition number p ≡ (not (is_type1 target) && eqb q.function number)
  for_target q target n e t = for_asked q n e ∙ ap (λ (x : Target). not (is_type1 x) && eqb q.function number) t

  -- a packet for a function has no fault, and names it
  pub for_sound : is_for edition number p ≡ true → number_under edition p ≡ 0
  unfolding is_for
  for_sound h = by (eqb (number_under edition p) 0) refl h
    where
      by : (b : Bool) → eqb (number_under edition p) 0 ≡ b → (b && (not (is_type1 (request_of p).target) && eqb (request_of p).function number)) ≡ true → number_under edition p ≡ 0
      by true e h = eqb-true _ 0 e
      by false e h = absurd (true≢false (sym h))

  pub for_names : is_for edition number p ≡ true → (request_of p).function ≡ number
  unfolding is_for
  for_names h = by (eqb (number_under edition p) 0) (is_type1 (request_of p).target) (eqb (request_of p).function number) refl h
    where
      by : (sound type1 named : Bool) → eqb (request_of p).function number ≡ named → (sound && (not type1 && named)) ≡ true → (request_of p).function ≡ number
      by sound type1 true e h = eqb-true _ number e
      by true true false e h = absurd (true≢false (sym h))
      by true false false e h = absurd (true≢false (sym h))
      by false type1 false e h = absurd (true≢false (sym h))

-- it is for one function only
pub for_one : (edition m n : ℕ) (p : List ℕ) → (m ≡ n → ⊥) → is_for edition m p ≡ true → is_for edition n p ≡ false
for_one edition m n p apart h = by (is_for edition n p) refl
  where
    by : (b : Bool) → is_for edition n p ≡ b → is_for edition n p ≡ false
    by true e = absurd (apart (sym (for_names edition m p h) ∙ for_names edition n p e))
    by false e = e

-- a request that is for another function, or of Type 1, is unsupported
elsewhere : (d : Description) (kept : Capture) (q : Request) (target : Target) (named : Bool) → q.target ≡ target → eqb q.function d.function ≡ named
    → (not (is_type1 target) && named) ≡ false → unsupported d kept q ≡ true
unfolding unsupported
elsewhere d kept q Type1 named t n h = rw t
elsewhere d kept q Type0 true t n h = absurd (true≢false h)
elsewhere d kept q Type0 false t n h = rw (t, n)
elsewhere d kept q Trusted true t n h = absurd (true≢false h)
elsewhere d Nothing q Trusted false t n h = rw t
elsewhere d (Number bus device) q Trusted false t n h = simp (t, n, and-false)

pub not_for_unsupported : (d : Board) (p : List ℕ) → number_under d.description.edition p ≡ 0
    → is_for d.description.edition d.description.function p ≡ false → unsupported d.description d.capture (request_of p) ≡ true
not_for_unsupported d p n h =
    elsewhere d.description d.capture (request_of p) (request_of p).target _ refl refl
    (sym (for_asked d.description.edition d.description.function p (request_of p) n refl) ∙ h)

-- ---- when a pair is badly described

module _ (pair : Pair) where
  pub equal_bad : pairs.number_of Primary pair ≡ pairs.number_of Alternate pair → bad_pair pair ≡ true
  unfolding bad_pair
  equal_bad e = simp (eq-eqb _ _ e, or-true)

  pub beside_bad : (role : Role) → badly_described (board role pair) ≡ true → bad_pair pair ≡ true
  unfolding bad_pair
  beside_bad Primary b = rw b
  beside_bad Alternate b = simp (b, or-true)

  -- where the numbers differ and one function is well described, it is by the other
  pub bad_by : (role : Role) → (pairs.number_of Primary pair ≡ pairs.number_of Alternate pair → ⊥) → badly_described (board (other role) pair) ≡ false
      → bad_pair pair ≡ badly_described (board role pair)
  unfolding bad_pair
  bad_by Primary n b = simp (b, ne_eqb _ _ n, or-false)
  bad_by Alternate n b = simp (b, ne_eqb _ _ n, or-false)

  -- a well-described pair
  pub well_each : WellPaired pair → (role : Role) → badly_described (board role pair) ≡ false
  unfolding bad_pair
  well_each w role = by role _ refl
    where
      by : (role : Role) (b : Bool) → badly_described (board role pair) ≡ b → badly_described (board role pair) ≡ false
      by role true e = absurd (true≢false (sym (beside_bad role e) ∙ w))
      by role false e = e

  pub well_apart : WellPaired pair → pairs.number_of Primary pair ≡ pairs.number_of Alternate pair → ⊥
  well_apart w e = true≢false (sym (equal_bad e) ∙ w)

  pub pair_well : ((role : Role) → badly_described (board role pair) ≡ false) → (pairs.number_of Primary pair ≡ pairs.number_of Alternate pair → ⊥) → WellPaired pair
  pair_well b n = bad_by Primary n (b Alternate) ∙ b Primary

-- ---- which function answers

bad_refused : (pair : Pair) (p : List ℕ) (size : ℕ) → bad_pair pair ≡ true → serve_pair pair p size ≡ pair_refused 1 pair
unfolding serve_pair
bad_refused pair p size b = rw b

pub equal_refused : (pair : Pair) (p : List ℕ) (size : ℕ) → pairs.number_of Primary pair ≡ pairs.number_of Alternate pair → serve_pair pair p size ≡ pair_refused 1 pair
equal_refused pair p size e = bad_refused pair p size (equal_bad pair e)

pub beside_refused : (role : Role) (pair : Pair) (p : List ℕ) (size : ℕ) → badly_described (board role pair) ≡ true → serve_pair pair p size ≡ pair_refused 1 pair
beside_refused role pair p size b = bad_refused pair p size (beside_bad pair role b)

-- a function that refuses leaves the pair as it is
refused_as : (role : Role) (pair : Pair) (n : ℕ) → pair_refused n pair ≡ answers_as role pair (record { number = n; after = board role pair; written = [] })
refused_as Primary pair n = refl
refused_as Alternate pair n = refl

-- the outcome of a number that is the pair's and a function's alike, where what is delivered is what the function answers
module _ (role : Role) (pair : Pair) (p : List ℕ) (size : ℕ) where
  abbrev d : Board
  d = board role pair

  by_number_lem : (n : ℕ) → (n ≡ 0 → delivered pair p size ≡ answers_as role pair (respond d (request_of p) (data_of p)))
      → by_pair_number n pair p size ≡ answers_as role pair (by_number n d p)
  by_number_lem zero h = h refl
  by_number_lem (suc n) h = refused_as role pair (suc n)

  module _ (apart : pairs.number_of Primary pair ≡ pairs.number_of Alternate pair → ⊥) (well : badly_described (board (other role) pair) ≡ false) where
    numbers_alike : pair_number pair p size ≡ serve_number d p size
    numbers_alike = rw (bad_by pair role apart well)

    answered_by : (serve_number d p size ≡ 0 → delivered pair p size ≡ answers_as role pair (respond d (request_of p) (data_of p)))
        → serve_pair pair p size ≡ served_by role pair p size
    unfolding serve_pair served_by serve
    answered_by h = rw numbers_alike (by_number_lem (serve_number d p size) h)

-- what a function answers where the number is 0
served_responds : (d : Board) (p : List ℕ) (size : ℕ) → serve_number d p size ≡ 0 → serve d p size ≡ respond d (request_of p) (data_of p)
unfolding serve
served_responds d p size n = rw n

module _ (pair : Pair) (p : List ℕ) (size : ℕ) (apart : pairs.number_of Primary pair ≡ pairs.number_of Alternate pair → ⊥) where
  -- the alternate answers what is for it
  pub alternate_answers : badly_described (board Primary pair) ≡ false → is_for_role Alternate pair p ≡ true → serve_pair pair p size ≡ served_by Alternate pair p size
  unfolding served_by
  alternate_answers well h =
      answered_by Alternate pair p size apart well (λ n.
      rw (for_one pair.edition _ (pairs.number_of Primary pair) p (λ e. apart (sym e)) h, h)
      (ap (answers_as Alternate pair) (served_responds (board Alternate pair) p size n)))

  -- and the primary all else
  primary_delivers : serve_number (board Primary pair) p size ≡ 0 → is_for_role Alternate pair p ≡ false → (own : Bool) → is_for_role Primary pair p ≡ own
      → delivered pair p size ≡ answers_as Primary pair (respond (board Primary pair) (request_of p) (data_of p))
  unfolding served_by
  primary_delivers n h true own = rw own (ap (answers_as Primary pair) (served_responds (board Primary pair) p size n))
  primary_delivers n h false own =
      rw (own, h, respond_unsupported (board Primary pair) (request_of p) (data_of p) (not_for_unsupported (board Primary pair) p (sound_served (board Primary pair) p size n) own))

  pub primary_answers : badly_described (board Alternate pair) ≡ false → is_for_role Alternate pair p ≡ false → serve_pair pair p size ≡ served_by Primary pair p size
  primary_answers well h = answered_by Primary pair p size apart well (λ n. primary_delivers n h _ refl)

-- ---- a pair that is well described

-- what is for neither, by the number
abbrev pub by_neither : ℕ → Pair → List ℕ → PairOutcome
by_neither zero pair p = serving.unsupported pair (request_of p)
by_neither (suc n) pair p = pair_refused (suc n) pair

-- where the pair's number is 0, each function's is
pub each_number : (role : Role) (pair : Pair) (p : List ℕ) (size : ℕ) → pair_number pair p size ≡ 0 → serve_number (board role pair) p size ≡ 0
each_number role pair p size n = by (bad_pair pair) refl n
  where
    by : (b : Bool) → bad_pair pair ≡ b → cond b 1 (cond (ltb size 16) 2 (number_under pair.edition p)) ≡ 0 → serve_number (board role pair) p size ≡ 0
    by true w e = absurd (omega (arith, e))
    by false w e = rw (well_each pair w role) e

-- the number of a pair that is well described is the packet's and the reply size's, under its edition
pub well_number : (pair : Pair) (p : List ℕ) (size : ℕ) → WellPaired pair → pair_number pair p size ≡ cond (ltb size 16) 2 (number_under pair.edition p)
well_number pair p size w = rw w

module _ (pair : Pair) (w : WellPaired pair) (p : List ℕ) (size : ℕ) where
  -- a packet is not for the other function
  pub not_other : (role : Role) → is_for_role role pair p ≡ true → is_for_role (other role) pair p ≡ false
  not_other Primary h = for_one pair.edition _ _ p (well_apart pair w) h
  not_other Alternate h = for_one pair.edition _ _ p (λ e. well_apart pair w (sym e)) h

  -- each function answers what is for it
  pub own_answers : (role : Role) → is_for_role role pair p ≡ true → serve_pair pair p size ≡ served_by role pair p size
  own_answers Primary h = primary_answers pair p size (well_apart pair w) (well_each pair w Alternate) (not_other Primary h)
  own_answers Alternate h = alternate_answers pair p size (well_apart pair w) (well_each pair w Primary) h

  -- what is for neither leaves all as it is, and is answered with the primary's completer ID or refused
  neither_by : (n : ℕ) → is_for_role Primary pair p ≡ false → is_for_role Alternate pair p ≡ false → by_pair_number n pair p size ≡ by_neither n pair p
  neither_by zero h k = rw (h, k)
  neither_by (suc n) h k = refl

  pub neither_answers : is_for_role Primary pair p ≡ false → is_for_role Alternate pair p ≡ false
      → serve_pair pair p size ≡ by_neither (cond (ltb size 16) 2 (number_under pair.edition p)) pair p
  unfolding serve_pair
  neither_answers h k = rw (well_number pair p size w) (neither_by (cond (ltb size 16) 2 (number_under pair.edition p)) h k)
