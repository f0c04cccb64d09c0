-- the start of `lists::table::Compatible` meets its contract: by the bit that says whether there is a list. Assumes nothing.
use Prim.Native.Nat.{ℕ, ◌/◌, ◌<◌}
use mathlib.Core.List.{List}
use mathlib.Core.Path.{◌≡◌, sym, ◌∙◌}
use native.Mathlib.Omega.{arith}
use borrow.Author.Tests.{eq-eqb, ne_eqb}
use lib.Bits.{bit_and, and_mask, mask_lt}
use Rattle.words.specs.Bytes.{byte}
use Rattle.words.specs.Fields.{bit, word_or_zero}
use Rattle.words.proofs.Laws.{word_inside}
use Rattle.lists.specs.Table.{compatible_start}
use Rattle.lists.specs.Walks.{WholeSpace}
use Rattle.lists.specs.Inner.{Raw}
use Rattle.lists.proofs.table.CompatibleList.start.Goals as goal

bit_four : (n : ℕ) → bit_and (n / 16) 1 ≡ bit 4 n
bit_four n = and_mask (n / 16) 1

empty : (s : List ℕ) → bit_and (byte s 0x06 / 16) 1 ≡ 0 → Raw (compatible_start s) 0
unfolding compatible_start
empty s h = record { is = rw (eq-eqb (bit 4 (byte s 0x06)) 0 (sym (bit_four (byte s 0x06)) ∙ h)); small = omega arith }

-- the low byte of the word that begins with it
low_byte : (s : List ℕ) (n : ℕ) → WholeSpace s → n ≡ word_or_zero s 0x34 → byte s 0x34 < 256 → bit_and n 0xff ≡ byte s 0x34
low_byte s n size e h = and_mask n 8 ∙ omega (arith, e ∙ word_inside s 0x34 (omega arith))

starts : (s : List ℕ) (n : ℕ) → WholeSpace s → (bit_and (byte s 0x06 / 16) 1 ≡ 0 → ⊥) → n ≡ word_or_zero s 0x34 → byte s 0x34 < 256
    → Raw (compatible_start s) (bit_and n 0xff)
unfolding compatible_start
starts s n size h e k =
    record {
      is = low_byte s n size e k ∙ rw (ne_eqb (bit 4 (byte s 0x06)) 0 (λ z. h (bit_four (byte s 0x06) ∙ z)));
      small = omega (arith, mask_lt n 8);
    }

pub returns-then-space-eq0 : goal.returns-then-space-eq0
returns-then-space-eq0 c = empty c.args.space.now c.if-space-eq0.true

pub returns : goal.returns
returns c =
    starts c.args.space.now c.word.result c.told-space c.if-space-eq0.false c.word.ensures
    (omega (arith, c.fits-space 0x34))
