-- the start of `lists::table::Extended` meets its contract: by the whole word at 100h. Assumes nothing.
use Prim.Native.Nat.{ℕ}
use mathlib.Core.List.{List}
use mathlib.Core.Path.{◌≡◌, sym, ◌∙◌}
use native.Mathlib.Omega.{arith}
use Rattle.words.specs.Fields.{word, word_or_zero}
use Rattle.words.proofs.Laws.{word_inside}
use Rattle.lists.specs.Table.{extended_start}
use Rattle.lists.specs.Walks.{WholeSpace}
use Rattle.lists.specs.Inner.{Raw}
use Rattle.lists.proofs.Pointers.{extended_none, extended_some}
use Rattle.lists.proofs.table.ExtendedList.start.Goals as goal

-- the word that the code tests
word_there : (s : List ℕ) (n : ℕ) → WholeSpace s → n ≡ word_or_zero s 0x100 → n ≡ word s 0x100
word_there s n size e = e ∙ word_inside s 0x100 (omega arith)

empty : (s : List ℕ) (n : ℕ) → WholeSpace s → n ≡ word_or_zero s 0x100 → n ≡ 0 → Raw (extended_start s) 0
empty s n size e h = record { is = sym (extended_none s (sym (word_there s n size e) ∙ h)); small = omega arith }

starts : (s : List ℕ) (n : ℕ) → WholeSpace s → n ≡ word_or_zero s 0x100 → (n ≡ 0 → ⊥) → Raw (extended_start s) 0x100
starts s n size e h = record { is = sym (extended_some s (λ z. h (word_there s n size e ∙ z))); small = omega arith }

pub returns-then-word-eq0 : goal.returns-then-word-eq0
returns-then-word-eq0 c =
    empty c.args.space.now c.word.result c.told-space c.word.ensures (omega (arith, c.if-word-eq0.true))

pub returns : goal.returns
returns c =
    starts c.args.space.now c.word.result c.told-space c.word.ensures (λ z. c.if-word-eq0.false (omega (arith, z)))
