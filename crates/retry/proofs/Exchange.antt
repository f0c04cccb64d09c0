-- A part of a row in the place of another: where two parts lead to the same state, the rest of the row does not tell them apart. Of any row whose steps do what
-- happens. Assumes nothing.
use Prim.Native.Nat.{ℕ, zero, suc}
use mathlib.Core.List.{List, [], ◌∷◌, ◌++◌}
use mathlib.Core.Path.{◌≡◌, refl, sym, ap, ap₂, ◌∙◌}
use lib.ListN.{length, take, drop, replicate}
use lib.Seq.{take-append_seam, drop-append_seam}
use Rattle.retry.specs.Rows.{Answer, Row, events_in, end, answers_in, AllMeet}

-- two lists in two parts, of which the first are equally long
pub same_parts : {A : Type 0} (xs ys us vs : List A) → length xs ≡ length us → xs ++ ys ≡ us ++ vs → (xs ≡ us) × (ys ≡ vs)
same_parts {A} xs ys us vs l e = (
  sym (take-append_seam xs ys) ∙ ap₂ (λ (n : ℕ) (w : List A). take n w) l e ∙ take-append_seam us vs,
  sym (drop-append_seam xs ys) ∙ ap₂ (λ (n : ℕ) (w : List A). drop n w) l e ∙ drop-append_seam us vs,
)

append_assoc : {A : Type 0} (xs ys zs : List A) → (xs ++ ys) ++ zs ≡ xs ++ (ys ++ zs)
append_assoc [] ys zs = refl
append_assoc {A} (x ∷ xs) ys zs = ap (λ (l : List A). x ∷ l) (append_assoc xs ys zs)

-- ---- what happens, one thing after the other

module _ {State Happening : Type 0} (move : State → Happening → State) (reply : State → Happening → Answer) where
  abbrev pub moved : State → List Happening → State
  moved s [] = s
  moved s (e ∷ es) = moved (move s e) es

  abbrev pub replies : State → List Happening → List Answer
  replies s [] = []
  replies s (e ∷ es) = reply s e ∷ replies (move s e) es

  moved_append : (s : State) (es fs : List Happening) → moved s (es ++ fs) ≡ moved (moved s es) fs
  moved_append s [] fs = refl
  moved_append s (e ∷ es) fs = moved_append (move s e) es fs

  replies_append : (s : State) (es fs : List Happening) → replies s (es ++ fs) ≡ replies s es ++ replies (moved s es) fs
  replies_append s [] fs = refl
  replies_append s (e ∷ es) fs = ap (λ (l : List Answer). reply s e ∷ l) (replies_append (move s e) es fs)

  replies_length : (s : State) (es : List Happening) → length (replies s es) ≡ length es
  replies_length s [] = refl
  replies_length s (e ∷ es) = ap (λ (n : ℕ). suc n) (replies_length (move s e) es)

  -- a part in the middle
  middle_replies : (s : State) (before part rest : List Happening)
      → replies s (before ++ (part ++ rest)) ≡ replies s before ++ (replies (moved s before) part ++ replies (moved (moved s before) part) rest)
  middle_replies s before part rest =
      replies_append s before (part ++ rest) ∙ ap (λ (l : List Answer). replies s before ++ l) (replies_append (moved s before) part rest)

  middle_moved : (s : State) (before part rest : List Happening) → moved s (before ++ (part ++ rest)) ≡ moved (moved (moved s before) part) rest
  middle_moved s before part rest = moved_append s before (part ++ rest) ∙ moved_append (moved s before) part rest

  -- what settles at once: again, it changes nothing and is answered the same
  module _ (e : Happening) (s : State) (left : move (move s e) e ≡ move s e) (same : reply (move s e) e ≡ reply s e) where
    pub moved_again : (more : ℕ) → moved (move s e) (replicate more e) ≡ move s e
    moved_again zero = refl
    moved_again (suc more) = ap (λ (x : State). moved x (replicate more e)) left ∙ moved_again more

    pub replies_again : (more : ℕ) → replies (move s e) (replicate more e) ≡ replicate more (reply s e)
    replies_again zero = refl
    replies_again (suc more) =
        λ i. same i ∷ (ap (λ (x : State). replies x (replicate more e)) left ∙ replies_again more) i

  -- ---- rows whose steps do what happens

  pub record Faithful {Step : Type 0} (row : Row State Happening Step) : Type 0 where
    pub next : (s : State) (x : Step) → row.Meets s x → row.next s x ≡ move s (row.event x)
    pub answer : (s : State) (x : Step) → row.Meets s x → row.answer s x ≡ reply s (row.event x)

  module _ {Step : Type 0} (row : Row State Happening Step) (faithful : Faithful row) where
    pub end_is : (s : State) (xs : List Step) → AllMeet row s xs → end row s xs ≡ moved s (events_in row xs)
    end_is s [] m = refl
    end_is s (x ∷ xs) m =
        end_is (row.next s x) xs m.1 ∙ ap (λ (t : State). moved t (events_in row xs)) (faithful.next s x m.0)

    pub answers_are : (s : State) (xs : List Step) → AllMeet row s xs → answers_in row s xs ≡ replies s (events_in row xs)
    answers_are s [] m = refl
    answers_are s (x ∷ xs) m =
        λ i.
        faithful.answer s x m.0 i
        ∷ (answers_are (row.next s x) xs m.1 ∙ ap (λ (t : State). replies t (events_in row xs)) (faithful.next s x m.0)) i

    -- a part of the steps, where it stands: what is answered there and later
    module _ (s : State) (steps : List Step) (before part rest : List Happening) (meets : AllMeet row s steps)
        (stands : events_in row steps ≡ before ++ (part ++ rest)) (front block later : List Answer) (many : length front ≡ length before)
        (few : length block ≡ length part) (answered : answers_in row s steps ≡ front ++ (block ++ later)) where
      abbrev pub start : State
      start = moved s before

      parts : (replies s before ≡ front) × (replies start part ++ replies (moved start part) rest ≡ block ++ later)
      parts =
          same_parts (replies s before) _ front (block ++ later) (replies_length s before ∙ sym many)
          (sym (middle_replies s before part rest) ∙ ap (replies s) (sym stands) ∙ sym (answers_are s steps meets) ∙ answered)

      inner : (replies start part ≡ block) × (replies (moved start part) rest ≡ later)
      inner = same_parts (replies start part) (replies (moved start part) rest) block later (replies_length start part ∙ sym few) parts.1

      pub block_is : block ≡ replies start part
      block_is = sym inner.0

      -- THEOREM. Another part in its place that leads to the same state
      pub exchanged : (others : List Step) (instead : List Happening) → AllMeet row s others → events_in row others ≡ before ++ (instead ++ rest)
          → moved start instead ≡ moved start part
          → (end row s others ≡ end row s steps) × (answers_in row s others ≡ front ++ (replies start instead ++ later))
      exchanged others instead m e same = (
        end_is s others m ∙ ap (moved s) e ∙ middle_moved s before instead rest ∙ ap (λ (t : State). moved t rest) same
            ∙ sym (middle_moved s before part rest) ∙ ap (moved s) (sym stands) ∙ sym (end_is s steps meets),
        answers_are s others m ∙ ap (replies s) e ∙ middle_replies s before instead rest
            ∙ ap₂ (λ (x y : List Answer). x ++ (replies start instead ++ y)) parts.0 (ap (λ (t : State). replies t rest) same ∙ inner.1),
      )
