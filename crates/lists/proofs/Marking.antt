-- Laws of the marks: a word is marked exactly if it is one of those that were passed. Assumes nothing.
use Prim.Native.Nat.{ℕ, zero, suc, ◌+◌, ◌/◌, ◌≤◌, ◌<◌}
use mathlib.Core.Bool.{Bool, true, false}
use mathlib.Core.List.{List}
use mathlib.Core.Logic.{⊎_elim, ◌⊎◌}
use mathlib.Core.Logic.◌⊎◌.{inl, inr}
use mathlib.Core.Path.{◌≡◌, refl, sym, ap, ◌∙◌}
use native.Mathlib.Omega.{arith}
use borrow.Author.Count.{below_more}
use borrow.Author.Tests.{eqb-true, eqb-false}
use lib.Dec.{eqb}
use lib.ListN.{length, get_or, set, replicate, length-set, length-replicate}
use lib.Seq.{get_or-set_same, get_or-set_other}
use Rattle.lists.specs.Inner.{Words, FirstAgain}

-- the number of the word at a place of a log
abbrev pub word_at : List ℕ → ℕ → ℕ
word_at log k = get_or log k 0 / 4

-- the words of the first n places are different, and they and no others are marked
pub record Marked (log : List ℕ) (marks : List Bool) (n : ℕ) : Type 0 where
  pub size : length marks ≡ 1024
  pub all : (k : ℕ) → k < n → get_or marks (word_at log k) false ≡ true
  pub only : (i : ℕ) → get_or marks i false ≡ true → (k : ℕ) × (k < n) × (word_at log k ≡ i)
  pub apart : (j k : ℕ) → j < k → k < n → word_at log j ≡ word_at log k → ⊥

true_false : true ≡ false → ⊥
true_false e = let z : ◌≡◌ {A = ℕ} 0 1 = cc in omega arith

none_marked : (n i : ℕ) → get_or (replicate n false) i false ≡ true → ⊥
none_marked zero i e = true_false (sym e)
none_marked (suc n) zero e = true_false (sym e)
none_marked (suc n) (suc i) e = none_marked n i e

pub marked_none : (log : List ℕ) → Marked log (replicate 1024 false) 0
marked_none log =
    record {
      size = length-replicate {A = Bool} 1024 false;
      all = λ k small. absurd (omega arith);
      only = λ i e. absurd (none_marked 1024 i e);
      apart = λ j k less small. absurd (omega arith);
    }

same_word : (i j : ℕ) → (i ≡ j) ⊎ (i ≡ j → ⊥)
same_word i j = go (eqb i j) refl
  where
    go : (same : Bool) → eqb i j ≡ same → (i ≡ j) ⊎ (i ≡ j → ⊥)
    go true e = inl (eqb-true i j e)
    go false e = inr (eqb-false i j e)

module _ {log : List ℕ} {marks : List Bool} {n : ℕ} (m : Marked log marks n) where
  pub inside : word_at log n < 1024 → word_at log n < length marks
  inside h = omega (arith, m.size)

  module _ (small : word_at log n < 1024) (fresh : get_or marks (word_at log n) false ≡ false) where
    -- none of the words that were passed is the one at hand
    new : (j : ℕ) → j < n → word_at log j ≡ word_at log n → ⊥
    new j h e = true_false (sym (m.all j h) ∙ ap (λ (i : ℕ). get_or marks i false) e ∙ fresh)

    pub marked_more : Marked log (set marks (word_at log n) true) (n + 1)
    marked_more =
        record {
          size = length-set marks (word_at log n) true ∙ m.size;
          all =
              below_more (λ k. get_or (set marks (word_at log n) true) (word_at log k) false ≡ true) n
              (λ k h. get_or-set_other marks (word_at log n) (word_at log k) true false (new k h) ∙ m.all k h)
              (get_or-set_same marks (word_at log n) true false (inside small));
          only = λ i e.
              ⊎_elim (λ same. (n, omega arith, sym same))
              (λ other.
              let o = m.only i (sym (get_or-set_other marks (word_at log n) i true false other) ∙ e) in
              (o.0, omega (arith, o.1), o.2))
              (same_word i (word_at log n));
          apart = λ j k less h.
              below_more (λ k. (j : ℕ) → j < k → word_at log j ≡ word_at log k → ⊥) n (λ k h j less. m.apart j k less h) new k h j less;
        }

  -- what the marks say of the offsets, which are multiples of 4
  module _ (words : Words log) (within : n ≤ length log) where
    offsets_apart : (j k : ℕ) → j < k → k < n → get_or log j 0 ≡ get_or log k 0 → ⊥
    offsets_apart j k less h e = m.apart j k less h (ap (λ (at : ℕ). at / 4) e)

    pub found_again : get_or marks (word_at log n) false ≡ true → n < length log → FirstAgain log n
    found_again e h =
        let o = m.only (word_at log n) e in
        record {
          within = within;
          apart = offsets_apart;
          again = λ less. (o.0, o.1, omega (arith, o.2, words.aligned o.0 (omega (arith, o.1)), words.aligned n h));
        }

    pub none_again : n ≡ length log → FirstAgain log n
    none_again e = record { within = within; apart = offsets_apart; again = λ less. absurd (omega arith) }
