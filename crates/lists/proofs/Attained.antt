-- THEOREM. Each maximum is attained: one space of bytes in which the compatible list has 48 headers, the extended list 960 and the trusted
-- list 1,022. Assumes nothing.
use Prim.Native.Nat.{ℕ, zero, suc, ◌+◌, ◌*◌, ◌/◌, ◌%◌, ◌≤◌, ◌<◌}
use mathlib.Core.Bool.{Bool, true, false, cond}
use mathlib.Core.List.{List, [], ◌∷◌}
use mathlib.Core.Path.{◌≡◌, refl, sym, ap, ap₂, ◌∙◌, subst}
use native.Mathlib.Omega.{arith}
use native.Mathlib.Nat.{add-zero}
use lib.Dec.{eqb, lit<, lit≤}
use lib.ListN.{length, get_or, length-append}
use borrow.Author.Tests.{eq-eqb, ne_eqb}
use Rattle.words.specs.Bytes.{byte}
use Rattle.words.specs.Fields.{bits, word}
use Rattle.lists.specs.declared.Kind.{Kind}
use Rattle.lists.specs.declared.Kind.TheVariants.{Compatible, Extended, Trusted}
use Rattle.lists.specs.Table.{ListRule, describe, compatible_start, extended_start, trusted_start, compatible_next, extended_next}
use Rattle.lists.specs.Chain.{HasChain, first, follows}
use Rattle.lists.specs.Breaks.{met}
use Rattle.lists.specs.Walks.{WholeSpace}
use Rattle.lists.specs.Inner.{Leading}
use Rattle.lists.proofs.Course.{trail, chain_of}
use Rattle.lists.proofs.Pointers.{Bytes}

-- a chain of a list's maximum
pub record Longest (kind : Kind) (s : List ℕ) : Type 0 where
  pub chain : List ℕ
  pub legal : HasChain (describe kind) s chain
  pub long : length chain ≡ (describe kind).maximum

-- the statement
abbrev pub MaximaAttained : Type 0
MaximaAttained = (s : List ℕ) × WholeSpace s × Bytes s × ((kind : Kind) → Longest kind s)

-- ---- a list by its elements: n of them, the first f at k

counted : (ℕ → ℕ) → ℕ → ℕ → List ℕ
counted f k zero = []
counted f k (suc n) = f k ∷ counted f (suc k) n

counted_length : (f : ℕ → ℕ) (k n : ℕ) → length (counted f k n) ≡ n
unfolding counted
counted_length f k zero = refl
counted_length f k (suc n) = ap suc (counted_length f (suc k) n)

counted_at : (f : ℕ → ℕ) (k n i : ℕ) → i < n → get_or (counted f k n) i 0 ≡ f (k + i)
unfolding counted
counted_at f k zero i h = absurd (omega arith)
counted_at f k (suc n) zero h = ap f (sym (add-zero k))
counted_at f k (suc n) (suc i) h = counted_at f (suc k) n i (omega arith) ∙ ap f (omega arith)

counted_bytes : (f : ℕ → ℕ) → ((i : ℕ) → f i < 256) → (k n i : ℕ) → get_or (counted f k n) i 0 < 256
unfolding counted
counted_bytes f small k zero i = lit< tt
counted_bytes f small k (suc n) zero = small k
counted_bytes f small k (suc n) (suc i) = counted_bytes f small (suc k) n i

-- ---- the space: the word at 004h starts the trusted list and says that there is a compatible one; any other word is a header of all three
-- lists, with ID byte 40h, which is also where the compatible list starts, and points to the word behind it; but the last header of each list
-- points to a word that is given

-- each list: the number of its first word and of the one behind its last
abbrev pub low : Kind → ℕ
low Compatible = 16
low Extended = 64
low Trusted = 2

abbrev top : Kind → ℕ
top Compatible = 64
top Extended = 1024
top Trusted = 1024

-- the words that a header points to in the compatible list, and in the other two
abbrev narrow : ℕ → ℕ → ℕ
narrow given k = cond (eqb k 63) given ((k + 1) % 64)

abbrev wide : ℕ → ℕ → ℕ
wide given k = cond (eqb k 1023) given ((k + 1) % 1024)

narrow_small : (given k : ℕ) → given < 64 → narrow given k < 64
narrow_small given k h = go (eqb k 63)
  where
    go : (b : Bool) → cond b given ((k + 1) % 64) < 64
    go true = h
    go false = omega arith

wide_small : (given k : ℕ) → given < 1024 → wide given k < 1024
wide_small given k h = go (eqb k 1023)
  where
    go : (b : Bool) → cond b given ((k + 1) % 1024) < 1024
    go true = h
    go false = omega arith

abbrev header : ℕ → ℕ → List ℕ
header n w = 0x40 ∷ (4 * n) ∷ (1 + 16 * (4 * w % 16)) ∷ (4 * w / 16) ∷ []

abbrev word_for : Bool → List ℕ → List ℕ
word_for true l = 0x08 ∷ 0x00 ∷ 0x10 ∷ 0x00 ∷ []
word_for false l = l

at_small : (a b c d : ℕ) → a < 256 → b < 256 → c < 256 → d < 256 → (j : ℕ) → get_or (a ∷ b ∷ c ∷ d ∷ []) j 0 < 256
at_small a b c d ha hb hc hd zero = ha
at_small a b c d ha hb hc hd (suc zero) = hb
at_small a b c d ha hb hc hd (suc (suc zero)) = hc
at_small a b c d ha hb hc hd (suc (suc (suc zero))) = hd
at_small a b c d ha hb hc hd (suc (suc (suc (suc j)))) = lit< tt

-- a byte of a word
place : (k j : ℕ) → j < 4 → (0 + (4 * k + j)) / 4 ≡ k
place k j small = omega arith

within : (k j : ℕ) → j < 4 → (0 + (4 * k + j)) % 4 ≡ j
within k j small = omega arith

-- the pointer of an extended header
pointer_of : (w a b : ℕ) → w < 1024 → a < 256 → b < 256
    → bits 31 20 (a + 256 * b + 65536 * (1 + 16 * (4 * w % 16)) + 16777216 * (4 * w / 16)) ≡ 4 * w
pointer_of w a b h ha hb = omega arith

low_two : (kind : Kind) → 2 ≤ low kind
low_two Compatible = lit≤ tt
low_two Extended = lit≤ tt
low_two Trusted = lit≤ tt

pub floor_low : (kind : Kind) → (describe kind).floor ≡ 4 * low kind
floor_low Compatible = refl
floor_low Extended = refl
floor_low Trusted = refl

length_top : (kind : Kind) → low kind + (describe kind).maximum ≡ top kind
length_top Compatible = refl
length_top Extended = refl
length_top Trusted = refl

-- the last headers of the compatible list and of the other two point to these words
module _ (n w : ℕ) (hn : n < 64) (hw : w < 1024) where
  word_of : ℕ → List ℕ
  word_of k = word_for (eqb k 1) (header (narrow n k) (wide w k))

  element : ℕ → ℕ
  element i = get_or (word_of (i / 4)) (i % 4) 0

  pub full : List ℕ
  full = counted element 0 4096

  pub full_whole : WholeSpace full
  unfolding full
  full_whole = counted_length element 0 4096

  element_small : (i : ℕ) → element i < 256
  unfolding element word_of
  element_small i = go (eqb (i / 4) 1)
    where
      go : (b : Bool) → get_or (word_for b (header (narrow n (i / 4)) (wide w (i / 4)))) (i % 4) 0 < 256
      go true = at_small 0x08 0x00 0x10 0x00 (lit< tt) (lit< tt) (lit< tt) (lit< tt) (i % 4)
      go false =
          let a = narrow_small n (i / 4) hn in
          let b = wide_small w (i / 4) hw in
          at_small 0x40 (4 * narrow n (i / 4)) (1 + 16 * (4 * wide w (i / 4) % 16)) (4 * wide w (i / 4) / 16)
          (lit< tt) (omega arith) (omega arith) (omega arith) (i % 4)

  pub full_bytes : Bytes full
  unfolding full
  full_bytes = counted_bytes element element_small 0 4096

  full_at : (k j : ℕ) → j < 4 → 4 * k + j < 4096 → byte full (4 * k + j) ≡ get_or (word_of k) j 0
  unfolding full element
  full_at k j small h =
      counted_at element 0 4096 (4 * k + j) h
      ∙ ap₂ (λ (x y : ℕ). get_or (word_of x) y 0) (place k j small) (within k j small)

  header_at : (k j : ℕ) → j < 4 → k < 1024 → (k ≡ 1 → ⊥) → byte full (4 * k + j) ≡ get_or (header (narrow n k) (wide w k)) j 0
  unfolding word_of
  header_at k j small h other =
      full_at k j small (omega arith)
      ∙ ap (λ (b : Bool). get_or (word_for b (header (narrow n k) (wide w k))) j 0) (ne_eqb k 1 other)

  -- ---- where the lists go

  -- the word that the last header of a list points to
  unfoldable pub given : Kind → ℕ
  given Compatible = n
  given Extended = w
  given Trusted = w

  onward : Kind → ℕ → ℕ
  onward Compatible k = narrow n k
  onward Extended k = wide w k
  onward Trusted k = wide w k

  word_at : (k : ℕ) → k < 1024 → (k ≡ 1 → ⊥) → bits 31 20 (word full (4 * k)) ≡ 4 * wide w k
  word_at k h other =
      let a = narrow_small n k hn in
      rw (
        ap (byte full) (sym (add-zero (4 * k))) ∙ header_at k 0 (lit< tt) h other,
        header_at k 1 (lit< tt) h other,
        header_at k 2 (lit< tt) h other,
        header_at k 3 (lit< tt) h other,
      )
      (pointer_of (wide w k) 0x40 (4 * narrow n k) (wide_small w k hw) (lit< tt) (omega arith))

  leads : (kind : Kind) (k : ℕ) → 2 ≤ k → k < top kind → follows (describe kind) full (4 * k) ≡ 4 * onward kind k
  unfolding follows compatible_next extended_next onward
  leads Compatible k two h =
      let a = narrow_small n k hn in
      rw (header_at k 1 (lit< tt) (omega arith) (λ e. omega arith)) (omega arith)
  leads Extended k two h = rw (word_at k h (λ e. omega arith)) (omega arith)
  leads Trusted k two h = rw (word_at k h (λ e. omega arith)) (omega arith)

  goes_on : (kind : Kind) (k : ℕ) → suc k < top kind → onward kind k ≡ suc k
  unfolding onward
  goes_on Compatible k h = rw (ne_eqb k 63 (λ e. omega arith)) (omega arith)
  goes_on Extended k h = rw (ne_eqb k 1023 (λ e. omega arith)) (omega arith)
  goes_on Trusted k h = rw (ne_eqb k 1023 (λ e. omega arith)) (omega arith)

  last_goes : (kind : Kind) (k : ℕ) → suc k ≡ top kind → onward kind k ≡ given kind
  unfolding onward given
  last_goes Compatible k h = rw (eq-eqb k 63 (omega arith))
  last_goes Extended k h = rw (eq-eqb k 1023 (omega arith))
  last_goes Trusted k h = rw (eq-eqb k 1023 (omega arith))

  starts : (kind : Kind) → first (describe kind) full ≡ 4 * low kind
  unfolding first compatible_start extended_start trusted_start word_of
  starts Compatible = rw (full_at 1 2 (lit< tt) (lit< tt), full_at 13 0 (lit< tt) (lit< tt))
  starts Extended =
      rw (
        full_at 64 0 (lit< tt) (lit< tt),
        full_at 64 1 (lit< tt) (lit< tt),
        full_at 64 2 (lit< tt) (lit< tt),
        full_at 64 3 (lit< tt) (lit< tt),
      )
  starts Trusted =
      rw (full_at 1 0 (lit< tt) (lit< tt), full_at 1 1 (lit< tt) (lit< tt), full_at 1 2 (lit< tt) (lit< tt), full_at 1 3 (lit< tt) (lit< tt))

  -- the pointers that are met: word after word, and behind the maximum the word that is given
  pub met_full : (kind : Kind) (k : ℕ) → k < (describe kind).maximum → met (describe kind) full k ≡ 4 * (low kind + k)
  unfolding met
  met_full kind zero h = starts kind ∙ omega arith
  met_full kind (suc k) h =
      let here : low kind + k < top kind = omega (arith, length_top kind) in
      ap (follows (describe kind) full) (met_full kind k (omega arith)) ∙ leads kind (low kind + k) (omega (arith, low_two kind)) here
      ∙ ap (λ (x : ℕ). 4 * x) (goes_on kind (low kind + k) (omega (arith, length_top kind))) ∙ omega arith

  pub met_last : (kind : Kind) (k : ℕ) → suc k ≡ (describe kind).maximum → met (describe kind) full (suc k) ≡ 4 * given kind
  unfolding met
  met_last kind k e =
      ap (follows (describe kind) full) (met_full kind k (omega arith))
      ∙ leads kind (low kind + k) (omega (arith, low_two kind)) (omega (arith, length_top kind))
      ∙ ap (λ (x : ℕ). 4 * x) (last_goes kind (low kind + k) (omega (arith, length_top kind)))

  pub full_leading : (kind : Kind) → Leading (describe kind) full (describe kind).maximum
  full_leading kind =
      record {
        onward = λ k h z. omega (arith, met_full kind k h, z, low_two kind);
        above = λ k h. omega (arith, met_full kind k h, floor_low kind);
      }

-- ---- the chains

trail_length : (list : ListRule) (s : List ℕ) (n : ℕ) → length (trail list s n) ≡ n
unfolding trail
trail_length list s zero = refl
trail_length list s (suc n) = length-append (trail list s n) (met list s n ∷ []) ∙ omega (arith, trail_length list s n)

-- the last headers point to the end
ending : List ℕ
ending = full 0 0 (lit< tt) (lit< tt)

none_given : (kind : Kind) → 4 * given 0 0 (lit< tt) (lit< tt) kind ≡ 0
unfolding given
none_given Compatible = refl
none_given Extended = refl
none_given Trusted = refl

longest : (kind : Kind) (k : ℕ) → suc k ≡ (describe kind).maximum → Longest kind ending
unfolding ending
longest kind k e =
    record {
      chain = trail (describe kind) ending (suc k);
      legal =
          chain_of (suc k) (subst (λ (m : ℕ). Leading (describe kind) ending m) (sym e) (full_leading 0 0 (lit< tt) (lit< tt) kind))
          (met_last 0 0 (lit< tt) (lit< tt) kind k e ∙ none_given kind);
      long = trail_length (describe kind) ending (suc k) ∙ e;
    }

each : (kind : Kind) → Longest kind ending
each Compatible = longest Compatible 47 refl
each Extended = longest Extended 959 refl
each Trusted = longest Trusted 1021 refl

pub maxima_attained : MaximaAttained
unfolding ending
maxima_attained = (ending, full_whole 0 0 (lit< tt) (lit< tt), full_bytes 0 0 (lit< tt) (lit< tt), each)
