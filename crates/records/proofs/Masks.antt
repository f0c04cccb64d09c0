-- Laws of the words of a record, as the code reads them. Assumes nothing.
use Prim.Native.Nat.{ℕ, ◌+◌, ◌%◌, ◌≤◌}
use mathlib.Core.Bool.{Bool, true, false}
use mathlib.Core.List.{List}
use mathlib.Core.Path.{◌≡◌, refl, ◌∙◌}
use native.Mathlib.Omega.{arith}
use lib.Dec.{leb}
use lib.ListN.{length, get_or-eq_default}
use borrow.Author.Tests.{leb-true, leb-false}
use Rattle.words.specs.Bytes.{byte}
use Rattle.words.specs.Fields.{word, word_or_zero}
use Rattle.words.proofs.Laws.{word_inside, word_outside}

-- a whole number of words is read as it stands, also past the end, where both are 0
word_aligned : (s : List ℕ) (at : ℕ) → length s ≡ 4096 → at % 4 ≡ 0 → word_or_zero s at ≡ word s at
word_aligned s at size a = go (leb (at + 4) 4096) refl
  where
    past : (k : ℕ) → 4096 ≤ at → byte s (at + k) ≡ 0
    past k h = get_or-eq_default s 0 (omega arith)

    here : 4096 ≤ at → byte s at ≡ 0
    here h = get_or-eq_default s 0 (omega arith)

    go : (inside : Bool) → leb (at + 4) 4096 ≡ inside → word_or_zero s at ≡ word s at
    go true e = word_inside s at (omega (arith, leb-true (at + 4) 4096 e))
    go false e =
        let far = leb-false (at + 4) 4096 e in
        let h : 4096 ≤ at = omega arith in
        word_outside s at (omega arith) ∙ omega (arith, here h, past 1 h, past 2 h, past 3 h)

-- what `words::word` reads there
pub word_read : (s : List ℕ) (at : ℕ) {n : ℕ} → length s ≡ 4096 → at % 4 ≡ 0 → n ≡ word_or_zero s at → n ≡ word s at
word_read s at size a e = e ∙ word_aligned s at size a
