-- Laws of the definitions of this crate, one for each way through the code and for the proofs above. Assumes nothing.
use Prim.Native.Nat.{ℕ, ◌%◌, ◌≤◌, ◌<◌}
use mathlib.Core.Bool.{Bool, true, false, not, ◌&&◌, ◌||◌, or-false, or-true}
use mathlib.Core.List.{List, [], ◌∷◌}
use mathlib.Core.Path.{◌≡◌, refl, ◌∙◌}
use native.Mathlib.Nat.{zero-add}
use native.Mathlib.Omega.{arith}
use lib.Dec.{eqb}
use lib.ListN.{length}
use borrow.Author.Tests.{eq-eqb, ne_eqb, eqb-true, eqb-false, not-false}
use Rattle.answers.proofs.Checks.{none_of}
use Rattle.words.specs.Bytes.{four_or_zero, Puts}
use Rattle.words.proofs.Laws.{four_inside, puts_is, placed_true}
use Rattle.registers.specs.Merge.{merged}
use Rattle.registers.proofs.Laws.{merged_length}
use Rattle.packet.specs.declared.Target.TheVariants.{Type0, Type1, Trusted}
use Rattle.packet.specs.declared.Request.{Request}
use Rattle.packet.specs.Request.{is_trusted}
use Rattle.capture.specs.declared.Capture.{Capture}
use Rattle.capture.specs.declared.Capture.TheVariants.{Nothing, Number}
use Rattle.board.specs.declared.Description.{Description}
use Rattle.board.specs.Description.{Space, Board, other_edition, out_of_range, ranges, wrong_size, wrong_sizes, doubly_marked, causes, badly_described, WellDescribed}
use Rattle.board.specs.Access.{addressed, unsupported, stored_bytes, stored_ordinary, picked_word}
use Rattle.board.specs.Promise.{over}
use Rattle.board.specs.Inner.{Sized, Readable}

-- ---- a well-described board

pub record WellSpace (s : Space) : Type 0 where
  pub bytes : length s.bytes ≡ 4096
  pub rules : length s.rules ≡ 4096
  pub marks : length s.marks ≡ 4096
  pub once : doubly_marked s.rules s.marks ≡ false

pub record Well (d : Board) : Type 0 where
  pub ordinary : WellSpace d.ordinary
  pub trusted : WellSpace d.trusted
  pub in_range : out_of_range d.description d.capture ≡ false
  pub at_aaligned : d.description.a % 4 ≡ 0
  pub register : d.description.b ≤ 0xffc

right_size : (buffer : List ℕ) → wrong_size buffer ≡ false → length buffer ≡ 4096
right_size buffer e = eqb-true (length buffer) 4096 (not-false (eqb (length buffer) 4096) e)

well_space : (s : Space) → wrong_sizes s ≡ false → doubly_marked s.rules s.marks ≡ false → WellSpace s
well_space s e once =
    let n = none_of (wrong_size s.bytes ∷ wrong_size s.rules ∷ wrong_size s.marks ∷ []) e in
    record { bytes = right_size s.bytes n.0; rules = right_size s.rules n.1.0; marks = right_size s.marks n.1.1.0; once = once }

pub well_described : (d : Board) → WellDescribed d → Well d
unfolding badly_described
well_described d e =
    let n = none_of (causes d) e in
    let r = none_of (ranges d.description d.capture) n.1.1.0 in
    record {
      ordinary = well_space d.ordinary n.0 n.1.1.1.0;
      trusted = well_space d.trusted n.1.0 n.1.1.1.1.0;
      in_range = n.1.1.0;
      at_aaligned = (placed_true _ 0x104 0xffc (not-false _ r.1.1.0)).aligned;
      register = (placed_true _ 0x00c 0xffc (not-false _ r.1.1.1.0)).below;
    }

-- and the other way
pub described_well : (e : Description) (kept : Capture) (o t : Space) → WellSpace o → WellSpace t → out_of_range e kept ≡ false
    → WellDescribed (record { description = e; capture = kept; ordinary = o; trusted = t })
unfolding badly_described
described_well e kept o t wo wt in_range =
    rw (wo.bytes, wo.rules, wo.marks, wt.bytes, wt.rules, wt.marks, in_range, wo.once, wt.once)

-- the editions from 1 to 2 are those that the request names
pub edition_below : (edition : ℕ) → edition < 1 → other_edition edition ≡ true
edition_below edition h = rw (ne_eqb edition 1 (λ e. omega (arith, e)), ne_eqb edition 2 (λ e. omega (arith, e)))

pub edition_above : (edition : ℕ) → 2 < edition → other_edition edition ≡ true
edition_above edition h = rw (ne_eqb edition 1 (λ e. omega (arith, e)), ne_eqb edition 2 (λ e. omega (arith, e)))

pub edition_between : (edition : ℕ) → 1 ≤ edition → edition ≤ 2 → other_edition edition ≡ false
edition_between edition h k = by_first (eqb edition 1) refl
  where
    by_first : (first : Bool) → eqb edition 1 ≡ first → not (first || eqb edition 2) ≡ false
    by_first true e = refl
    by_first false e = let another = eqb-false edition 1 e in rw (eq-eqb edition 2 (omega (arith, another)))

-- ---- unsupported requests

module _ (d : Description) (kept : Capture) (q : Request) where
  pub unsupported_poisoned : (q.writes && q.poisoned) ≡ true → unsupported d kept q ≡ true
  unfolding unsupported
  unsupported_poisoned h = simp (h, or-true)

  pub unsupported_type1 : q.target ≡ Type1 → unsupported d kept q ≡ true
  unfolding unsupported
  unsupported_type1 t = rw t

  module _ (clean : (q.writes && q.poisoned) ≡ false) where
    pub unsupported_type0 : q.target ≡ Type0 → unsupported d kept q ≡ not (eqb q.function d.function)
    unfolding unsupported
    unsupported_type0 t = simp (clean, t, or-false)

pub unsupported_trusted : (d : Description) (kept : Capture) (q : Request) → (q.writes && q.poisoned) ≡ false → q.target ≡ Trusted
    → unsupported d kept q ≡ not (addressed d kept q)
unfolding unsupported
unsupported_trusted d Nothing q clean t = rw t
unsupported_trusted d (Number bus device) q clean t = simp (clean, t, or-false)

-- what is unsupported hangs on the description by its function number alone
pub unsupported_same : (x y : Description) (k : Capture) (q : Request) → x.function ≡ y.function → unsupported x k q ≡ unsupported y k q
unfolding unsupported
unsupported_same x y Nothing q f = rw f
unsupported_same x y (Number bus device) q f = rw f

-- ---- writes and reads, inside a space

pub stored_is : (s : Space) (q : Request) (new old rule mark word : List ℕ) (said : Bool) (after : List ℕ) → Sized s q
    → old ≡ four_or_zero s.bytes q.offset → rule ≡ four_or_zero s.rules q.offset → mark ≡ four_or_zero s.marks q.offset
    → word ≡ merged old rule mark new q.enables → Puts s.bytes q.offset word said after → after ≡ stored_bytes s q new
unfolding stored_bytes
stored_is s q new old rule mark word said after sized o r m w p =
    puts_is s.bytes q.offset word p (rw w (rw merged_length (omega (arith, sized))))
    ∙ rw (
      w,
      o ∙ four_inside s.bytes q.offset (omega (arith, sized)),
      r ∙ four_inside s.rules q.offset (omega (arith, sized)),
      m ∙ four_inside s.marks q.offset (omega (arith, sized)),
    )

pub stored_at_a : (a : ℕ) (s : Space) (q : Request) (new : List ℕ) → q.offset ≡ a → stored_ordinary a s q new ≡ s.bytes
unfolding stored_ordinary
stored_at_a a s q new e = rw (eq-eqb q.offset a e)

pub stored_ordinary_lem : (a : ℕ) (s : Space) (q : Request) (new : List ℕ) → (q.offset ≡ a → ⊥) → stored_ordinary a s q new ≡ stored_bytes s q new
unfolding stored_ordinary
stored_ordinary_lem a s q new h = rw (ne_eqb q.offset a h)

-- the three words that a read can be for
module _ (d : Description) (ordinary trusted : List ℕ) (q : Request) (ready : Readable d ordinary trusted q) where
  pub picked_trusted : is_trusted q.target ≡ true → four_or_zero trusted q.offset ≡ picked_word d ordinary trusted q
  picked_trusted t = rw (t, four_inside trusted q.offset (omega (arith, ready)))

  module _ (t : is_trusted q.target ≡ false) where
    pub picked_correlation : q.offset ≡ d.a → four_or_zero trusted d.b ≡ picked_word d ordinary trusted q
    picked_correlation e = rw (t, eq-eqb q.offset d.a e, four_inside trusted d.b (omega (arith, ready)))

    pub picked_ordinary : (q.offset ≡ d.a → ⊥) → four_or_zero ordinary q.offset ≡ picked_word d ordinary trusted q
    picked_ordinary h = rw (t, ne_eqb q.offset d.a h, four_inside ordinary q.offset (omega (arith, ready)))

-- ---- the reply

-- bytes put at its start
pub put_over : (reply word : List ℕ) (said : Bool) (after : List ℕ) → Puts reply 0 word said after → length word ≤ length reply
    → after ≡ over word reply
put_over reply word said after p h = puts_is reply 0 word p (rw (zero-add (length word)) h) ∙ rw (zero-add (length word))
