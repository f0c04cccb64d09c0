-- A second result that meets a promise of this crate is the same result. Assumes nothing.
use Prim.Native.Nat.{ℕ}
use mathlib.Core.Bool.{Bool}
use mathlib.Core.List.{List}
use mathlib.Core.Path.{◌≡◌, sym, ◌∙◌}
use Rattle.words.specs.Places.{placed}
use Rattle.words.specs.Bytes.{four_or_zero, Puts}
use Rattle.words.specs.Fields.{joined, word_or_zero}

pub four_unique : (s : List ℕ) (at : ℕ) (r q : List ℕ) → r ≡ four_or_zero s at → q ≡ four_or_zero s at → r ≡ q
four_unique s at r q e f = e ∙ sym f

pub joined_unique : (first second third fourth r q : ℕ) → r ≡ joined first second third fourth → q ≡ joined first second third fourth → r ≡ q
joined_unique first second third fourth r q e f = e ∙ sym f

pub word_unique : (s : List ℕ) (at : ℕ) (r q : ℕ) → r ≡ word_or_zero s at → q ≡ word_or_zero s at → r ≡ q
word_unique s at r q e f = e ∙ sym f

pub put_unique : (s : List ℕ) (at : ℕ) (bytes : List ℕ) (r q : Bool) (l m : List ℕ) → Puts s at bytes r l → Puts s at bytes q m
    → (r ≡ q) × (l ≡ m)
put_unique s at bytes r q l m e f = (e.fitted ∙ sym f.fitted, e.left ∙ sym f.left)

pub placed_unique : (at low high : ℕ) (r q : Bool) → r ≡ placed at low high → q ≡ placed at low high → r ≡ q
placed_unique at low high r q e f = e ∙ sym f
