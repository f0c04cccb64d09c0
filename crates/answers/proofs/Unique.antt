-- A number stands for one answer only, so a promise that gives the number gives the answer. Assumes nothing.
use Prim.Native.Nat.{ℕ}
use mathlib.Core.List.{[], ◌∷◌}
use mathlib.Core.Path.{◌≡◌, refl, sym, ap, ◌∙◌}
use native.Mathlib.Omega.{arith}
use lib.ListN.{get_or}
use Rattle.std.specs.Prelude.{⊤, Result, Ok, Err}
use Rattle.answers.specs.declared.Refusal.{Refusal}
use Rattle.answers.specs.declared.Refusal.TheVariants.{BadDescription, NoRoom, ShortPacket, UnknownType, WrongLength, WrongField, OtherStructure, WrongExtent, NotOneFunction, BelowFloor, ComesBack, WrongGroups, NoLayout, NotAccepted}
use Rattle.answers.specs.Numbers.{number_of, answered}

-- the statements
abbrev pub NumberTells : Type 0
NumberTells = (r q : Refusal) → number_of r ≡ number_of q → r ≡ q

-- an answer without what it holds where it serves: served, or why not
abbrev pub outcome : {A : Type 0} → Result A Refusal → Result ⊤ Refusal
outcome (Ok value) = Ok tt
outcome (Err refusal) = Err refusal

-- of any two answers, whatever they hold
abbrev pub OutcomeTells : Type 1
OutcomeTells = (A B : Type 0) (r : Result A Refusal) (q : Result B Refusal) → answered r ≡ answered q → outcome r ≡ outcome q

-- of an answer that holds nothing which could differ
abbrev pub AnswerTells : Type 1
AnswerTells = (A : Type 0) → ((x y : A) → x ≡ y) → (r q : Result A Refusal) → answered r ≡ answered q → r ≡ q

-- document 02, 3/13
abbrev pub NoSeven : Type 1
NoSeven = (A : Type 0) (answer : Result A Refusal) → answered answer ≡ 7 → ⊥

-- the refusal that a number stands for (the first, where it stands for none)
refusal_of : ℕ → Refusal
refusal_of n =
    get_or (BadDescription ∷ BadDescription ∷ NoRoom ∷ ShortPacket ∷ UnknownType ∷ WrongLength ∷ WrongField ∷ BadDescription ∷ OtherStructure ∷ WrongExtent ∷ NotOneFunction ∷ BelowFloor ∷ ComesBack ∷ WrongGroups ∷ NoLayout ∷ BadDescription ∷ BadDescription ∷ BadDescription ∷ NotAccepted ∷ []) n BadDescription

back : (r : Refusal) → refusal_of (number_of r) ≡ r
unfolding refusal_of
back BadDescription = refl
back NoRoom = refl
back ShortPacket = refl
back UnknownType = refl
back WrongLength = refl
back WrongField = refl
back OtherStructure = refl
back WrongExtent = refl
back NotOneFunction = refl
back BelowFloor = refl
back ComesBack = refl
back WrongGroups = refl
back NoLayout = refl
back NotAccepted = refl

pub number_tells : NumberTells
number_tells r q e = sym (back r) ∙ ap refusal_of e ∙ back q

-- no refusal has the number 0
pub number_positive : (r : Refusal) → number_of r ≡ 0 → ⊥
number_positive BadDescription e = omega arith
number_positive NoRoom e = omega arith
number_positive ShortPacket e = omega arith
number_positive UnknownType e = omega arith
number_positive WrongLength e = omega arith
number_positive WrongField e = omega arith
number_positive OtherStructure e = omega arith
number_positive WrongExtent e = omega arith
number_positive NotOneFunction e = omega arith
number_positive BelowFloor e = omega arith
number_positive ComesBack e = omega arith
number_positive WrongGroups e = omega arith
number_positive NoLayout e = omega arith
number_positive NotAccepted e = omega arith

-- "7 is no longer given": no answer has that number
pub no_seven : NoSeven
no_seven A (Ok value) e = omega arith
no_seven A (Err r) e = none r e
  where
    none : (r : Refusal) → number_of r ≡ 7 → ⊥
    none BadDescription e = omega arith
    none NoRoom e = omega arith
    none ShortPacket e = omega arith
    none UnknownType e = omega arith
    none WrongLength e = omega arith
    none WrongField e = omega arith
    none OtherStructure e = omega arith
    none WrongExtent e = omega arith
    none NotOneFunction e = omega arith
    none BelowFloor e = omega arith
    none ComesBack e = omega arith
    none WrongGroups e = omega arith
    none NoLayout e = omega arith
    none NotAccepted e = omega arith

pub outcome_tells : OutcomeTells
outcome_tells A B (Ok x) (Ok y) e = refl
outcome_tells A B (Ok x) (Err q) e = absurd (number_positive q (sym e))
outcome_tells A B (Err r) (Ok y) e = absurd (number_positive r e)
outcome_tells A B (Err r) (Err q) e = ap Err (number_tells r q e)

pub answer_tells : AnswerTells
answer_tells A alike (Ok x) (Ok y) e = ap Ok (alike x y)
answer_tells A alike (Ok x) (Err q) e = absurd (number_positive q (sym e))
answer_tells A alike (Err r) (Ok y) e = absurd (number_positive r e)
answer_tells A alike (Err r) (Err q) e = ap Err (number_tells r q e)

-- the entries of this crate: a second number that meets the promise is the same
pub refusal_number_unique : (refusal : Refusal) (r q : ℕ) → r ≡ number_of refusal → q ≡ number_of refusal → r ≡ q
refusal_number_unique refusal r q e f = e ∙ sym f

pub number_unique : {A : Type 0} (answer : Result A Refusal) (r q : ℕ) → r ≡ answered answer → q ≡ answered answer → r ≡ q
number_unique answer r q e f = e ∙ sym f
