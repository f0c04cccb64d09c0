-- THEOREM. When the answer is 1, of the board alone and before all else: exactly if one of the six buffers has another length, a number, an offset or the edition is out of
-- its range, or some bit of some byte of either space is marked both as writable and as cleared by writing 1. Assumes nothing.
use Prim.Native.Nat.{ℕ}
use mathlib.Core.Bool.{Bool, true, false, true≢false}
use mathlib.Core.List.{List, [], ◌∷◌, Memᴰ}
use mathlib.Core.Logic.{◌↔◌}
use mathlib.Core.Path.{◌≡◌, refl, sym, ap, ◌∙◌, subst}
use native.Mathlib.Omega.{arith}
use lib.Dec.{eqb, ltb}
use lib.ListN.{length}
use borrow.Author.Tests.{eqb-false, not-true}
use Rattle.answers.specs.Checks.{check, first_that_applies, any}
use Rattle.answers.proofs.Checks.{gives_one_of}
use Rattle.packet.specs.Request.{checks_under}
use Rattle.board.specs.Description.{Space, Board, out_of_range, wrong_size, wrong_sizes, doubly_marked, badly_described}
use Rattle.board.specs.Serving.{serve}
use Rattle.board.proofs.MarkedTwice.{MarkedTwice, found_exactly}
use Rattle.board.proofs.Laws.{WellSpace, Well, well_described}
use Rattle.board.proofs.Refusals.{outcome_number}

-- the three buffers of a space
abbrev pub buffers : Space → List (List ℕ)
buffers s = s.bytes ∷ s.rules ∷ s.marks ∷ []

abbrev pub spaces : Board → List Space
spaces d = d.ordinary ∷ d.trusted ∷ []

-- what makes a board badly described
pub data Cause (d : Board) : Type 0 where
  size_of : (s : Space) → Memᴰ s (spaces d) → (buffer : List ℕ) → Memᴰ buffer (buffers s) → (length buffer ≡ 4096 → ⊥) → Cause d
  range : out_of_range d.description d.capture ≡ true → Cause d
  twice : (s : Space) → Memᴰ s (spaces d) → (k j : ℕ) → MarkedTwice s.rules s.marks k j → Cause d

-- the statement: whatever the packet and the reply's size are
abbrev pub OneExactly : Type 0
OneExactly = (d : Board) (p : List ℕ) (size : ℕ) → ((serve d p size).number ≡ 1) ↔ Cause d

-- ---- a cause, so 1

whole : (s : Space) → WellSpace s → (buffer : List ℕ) → Memᴰ buffer (buffers s) → length buffer ≡ 4096
whole s w buffer (Memᴰ.head e) = ap length e ∙ w.bytes
whole s w buffer (Memᴰ.tail (Memᴰ.head e)) = ap length e ∙ w.rules
whole s w buffer (Memᴰ.tail (Memᴰ.tail (Memᴰ.head e))) = ap length e ∙ w.marks
whole s w buffer (Memᴰ.tail (Memᴰ.tail (Memᴰ.tail m))) = elim m [ ]

either : (d : Board) → Well d → (s : Space) → Memᴰ s (spaces d) → WellSpace s
either d w s (Memᴰ.head e) = subst WellSpace (sym e) w.ordinary
either d w s (Memᴰ.tail (Memᴰ.head e)) = subst WellSpace (sym e) w.trusted
either d w s (Memᴰ.tail (Memᴰ.tail m)) = elim m [ ]

no_cause : (d : Board) → Well d → Cause d → ⊥
no_cause d w (size_of s m buffer n wrong) = wrong (whole s (either d w s m) buffer n)
no_cause d w (range r) = true≢false (sym r ∙ w.in_range)
no_cause d w (twice s m k j both) = true≢false (sym ((found_exactly s.rules s.marks).1 k j both) ∙ (either d w s m).once)

by_description : (d : Board) (p : List ℕ) (size : ℕ) → badly_described d ≡ true → (serve d p size).number ≡ 1
by_description d p size b = outcome_number d p size ∙ rw b

caused : (d : Board) (p : List ℕ) (size : ℕ) (bad : Bool) → badly_described d ≡ bad → Cause d → (serve d p size).number ≡ 1
caused d p size true b c = by_description d p size b
caused d p size false b c = absurd (no_cause d (well_described d b) c)

-- ---- 1, so a cause

not_one : Memᴰ {A = ℕ} 1 (0 ∷ 2 ∷ 3 ∷ 4 ∷ 5 ∷ 6 ∷ []) → ⊥
not_one (Memᴰ.head e) = omega (arith, e)
not_one (Memᴰ.tail (Memᴰ.head e)) = omega (arith, e)
not_one (Memᴰ.tail (Memᴰ.tail (Memᴰ.head e))) = omega (arith, e)
not_one (Memᴰ.tail (Memᴰ.tail (Memᴰ.tail (Memᴰ.head e)))) = omega (arith, e)
not_one (Memᴰ.tail (Memᴰ.tail (Memᴰ.tail (Memᴰ.tail (Memᴰ.head e))))) = omega (arith, e)
not_one (Memᴰ.tail (Memᴰ.tail (Memᴰ.tail (Memᴰ.tail (Memᴰ.tail (Memᴰ.head e)))))) = omega (arith, e)
not_one (Memᴰ.tail (Memᴰ.tail (Memᴰ.tail (Memᴰ.tail (Memᴰ.tail (Memᴰ.tail m)))))) = elim m [ ]

described_by : (d : Board) (p : List ℕ) (size : ℕ) (bad : Bool) → badly_described d ≡ bad → (serve d p size).number ≡ 1 → badly_described d ≡ true
described_by d p size true b n = b
described_by d p size false b n =
    let cs = check 2 (ltb size 16) ∷ checks_under d.description.edition p in
    let e : first_that_applies cs ≡ 1 = rw b at (sym (outcome_number d p size) ∙ n) in
    absurd (not_one (subst (λ (m : ℕ). Memᴰ {A = ℕ} m (0 ∷ 2 ∷ 3 ∷ 4 ∷ 5 ∷ 6 ∷ [])) e (gives_one_of cs)))

another_length : (buffer : List ℕ) → wrong_size buffer ≡ true → length buffer ≡ 4096 → ⊥
another_length buffer e = eqb-false (length buffer) 4096 (not-true (eqb (length buffer) 4096) e)

module _ (d : Board) (s : Space) (m : Memᴰ s (spaces d)) where
  sized : (a b c : Bool) → wrong_size s.bytes ≡ a → wrong_size s.rules ≡ b → wrong_size s.marks ≡ c → any (a ∷ b ∷ c ∷ []) ≡ true → Cause d
  sized true b c x y z e = size_of s m s.bytes (Memᴰ.head refl) (another_length s.bytes x)
  sized false true c x y z e = size_of s m s.rules (Memᴰ.tail (Memᴰ.head refl)) (another_length s.rules y)
  sized false false true x y z e = size_of s m s.marks (Memᴰ.tail (Memᴰ.tail (Memᴰ.head refl))) (another_length s.marks z)
  sized false false false x y z e = absurd (true≢false (sym e))

  marked : doubly_marked s.rules s.marks ≡ true → Cause d
  marked e = let t = (found_exactly s.rules s.marks).0 e in twice s m t.0 t.1 t.2

module _ (d : Board) where
  abbrev first : Memᴰ d.ordinary (spaces d)
  first = Memᴰ.head refl

  abbrev second : Memᴰ d.trusted (spaces d)
  second = Memᴰ.tail (Memᴰ.head refl)

  cause_by : (a b c e f : Bool) → wrong_sizes d.ordinary ≡ a → wrong_sizes d.trusted ≡ b → out_of_range d.description d.capture ≡ c
      → doubly_marked d.ordinary.rules d.ordinary.marks ≡ e → doubly_marked d.trusted.rules d.trusted.marks ≡ f
      → any (a ∷ b ∷ c ∷ e ∷ f ∷ []) ≡ true → Cause d
  cause_by true b c e f u v w x y h = sized d d.ordinary first _ _ _ refl refl refl u
  cause_by false true c e f u v w x y h = sized d d.trusted second _ _ _ refl refl refl v
  cause_by false false true e f u v w x y h = range w
  cause_by false false false true f u v w x y h = marked d d.ordinary first x
  cause_by false false false false true u v w x y h = marked d d.trusted second y
  cause_by false false false false false u v w x y h = absurd (true≢false (sym h))

  a_cause : badly_described d ≡ true → Cause d
  unfolding badly_described
  a_cause b = cause_by _ _ _ _ _ refl refl refl refl refl b

pub one_exactly : OneExactly
one_exactly d p size = ((λ n. a_cause d (described_by d p size _ refl n)), caused d p size _ refl)
