-- Demand 1: a refusal changes nothing. Whatever result meets the promise of `Board::serve` with a number but 0 has written 0 bytes and has the capture as
-- it was, and leaves both spaces and the reply as they were lent, every byte. The number is the lowest that applies, 0 exactly if none does,
-- and no other than 0 to 6. Assumes nothing.
use Prim.Native.Nat.{ℕ, zero, suc}
use mathlib.Core.Bool.{Bool, true, false, cond}
use mathlib.Core.List.{List, [], ◌∷◌, Memᴰ}
use mathlib.Core.Path.{◌≡◌, refl, sym, ap, ◌∙◌, subst}
use native.Mathlib.Omega.{arith}
use lib.Dec.{ltb}
use lib.ListN.{length}
use Rattle.answers.specs.Numbers.{answered}
use Rattle.answers.proofs.Checks.{Lowest, Positive, Rising, gives_lowest, gives_one_of}
use Rattle.packet.specs.Fields.{data_of}
use Rattle.packet.specs.Request.{number_under, request_of}
use Rattle.board.specs.Description.{Board, badly_described}
use Rattle.board.specs.Serving.{serve_checks, serve_number, by_number, serve}
use Rattle.board.specs.Promise.{Served, count_of, Seen, shows, Serves}
use Rattle.board.proofs.Outcomes.{respond_number, refused_is}

-- the statements
abbrev pub RefusalKeeps : Type 0
RefusalKeeps =
    (d : Board) (p reply : List ℕ) (r : Served) (o t after : List ℕ) → Serves d p reply r o t after → (answered r.answer ≡ 0 → ⊥)
    → (count_of r.answer ≡ 0) × (r.capture ≡ d.capture) × (o ≡ d.ordinary.bytes) × (t ≡ d.trusted.bytes) × (after ≡ reply)

-- what a number says: it is the lowest that applies, 0 exactly if none does, and no other than 0 to 6
pub record NumberSays (d : Board) (p : List ℕ) (size n : ℕ) : Type 0 where
  pub lowest : Lowest (serve_checks d p size) n
  pub only : Memᴰ n (0 ∷ 1 ∷ 2 ∷ 3 ∷ 4 ∷ 5 ∷ 6 ∷ [])

abbrev pub NumberIsLowest : Type 0
NumberIsLowest =
    (d : Board) (p reply : List ℕ) (r : Served) (o t after : List ℕ) → Serves d p reply r o t after
    → NumberSays d p (length reply) (answered r.answer)

-- ---- the number of an outcome is the number of the checks

by_number_lem : (n : ℕ) (d : Board) (p : List ℕ) → (by_number n d p).number ≡ n
by_number_lem zero d p = respond_number d (request_of p) (data_of p)
by_number_lem (suc n) d p = refl

pub outcome_number : (d : Board) (p : List ℕ) (size : ℕ) → (serve d p size).number ≡ serve_number d p size
unfolding serve
outcome_number d p size = by_number_lem (serve_number d p size) d p

-- a packet that is served is without a fault under the board's edition
past_two : (bad short : Bool) (n : ℕ) → cond bad 1 (cond short 2 n) ≡ 0 → n ≡ 0
past_two true short n e = absurd (omega (arith, e))
past_two false true n e = absurd (omega (arith, e))
past_two false false n e = e

pub sound_served : (d : Board) (p : List ℕ) (size : ℕ) → serve_number d p size ≡ 0 → number_under d.description.edition p ≡ 0
sound_served d p size n = past_two (badly_described d) (ltb size 16) (number_under d.description.edition p) n

-- ---- a refusal

pub refused_shows : (d : Board) (p reply : List ℕ) → (serve_number d p (length reply) ≡ 0 → ⊥)
    → shows (serve d p (length reply)) reply
    ≡ record { number = serve_number d p (length reply); count = 0; capture = d.capture; ordinary = d.ordinary.bytes; trusted = d.trusted.bytes; reply = reply }
unfolding shows serve
refused_shows d p reply h = rw (refused_is (serve_number d p (length reply)) d p h)

number_shown : (d : Board) (p reply : List ℕ) → (shows (serve d p (length reply)) reply).number ≡ serve_number d p (length reply)
unfolding shows
number_shown d p reply = outcome_number d p (length reply)

pub refusal_keeps : RefusalKeeps
refusal_keeps d p reply r o t after e n =
    let h : serve_number d p (length reply) ≡ 0 → ⊥ = λ z. n (ap (λ (x : Seen). x.number) e ∙ number_shown d p reply ∙ z) in
    let s = e ∙ refused_shows d p reply h in (
      ap (λ (x : Seen). x.count) s,
      ap (λ (x : Seen). x.capture) s,
      ap (λ (x : Seen). x.ordinary) s,
      ap (λ (x : Seen). x.trusted) s,
      ap (λ (x : Seen). x.reply) s,
    )

-- ---- the lowest number

positive : (d : Board) (p : List ℕ) (size : ℕ) → Positive (serve_checks d p size)
positive d p size = omega arith

rising : (d : Board) (p : List ℕ) (size : ℕ) → Rising (serve_checks d p size)
rising d p size = omega arith

pub serve_number_says : (d : Board) (p : List ℕ) (size : ℕ) → NumberSays d p size (serve d p size).number
serve_number_says d p size =
    let cs = serve_checks d p size in
    rw (outcome_number d p size)
    (record { lowest = gives_lowest cs (positive d p size) (rising d p size); only = gives_one_of cs })

pub number_is_lowest : NumberIsLowest
unfolding shows
number_is_lowest d p reply r o t after e =
    subst (NumberSays d p (length reply)) (sym (ap (λ (x : Seen). x.number) e)) (serve_number_says d p (length reply))
