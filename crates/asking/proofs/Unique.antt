-- A second result that meets a promise of this crate is the same result. Assumes nothing.
use Prim.Native.Nat.{ℕ}
use mathlib.Core.List.{List}
use mathlib.Core.Path.{◌≡◌, refl, sym, ap, ◌∙◌}
use Rattle.std.specs.Prelude.{Result, Ok, Err}
use Rattle.answers.specs.declared.Refusal.{Refusal}
use Rattle.answers.proofs.Unique.{number_tells, number_positive}
use Rattle.asking.specs.declared.Parts.{Parts}
use Rattle.asking.specs.declared.Completion.{Completion}
use Rattle.asking.specs.Writing.{SeenWritten, told_written, Writes}
use Rattle.asking.specs.Reading.{Reads}

-- the number and the count tell the result
written_tells : (r q : Result ℕ Refusal) (l m : List ℕ) → told_written r l ≡ told_written q m → r ≡ q
written_tells (Ok r) (Ok q) l m e = ap Ok (ap (λ (s : SeenWritten). s.count) e)
written_tells (Ok r) (Err q) l m e = absurd (number_positive q (sym (ap (λ (s : SeenWritten). s.number) e)))
written_tells (Err r) (Ok q) l m e = absurd (number_positive r (ap (λ (s : SeenWritten). s.number) e))
written_tells (Err r) (Err q) l m e = ap Err (number_tells r q (ap (λ (s : SeenWritten). s.number) e))

buffer_told : (r : Result ℕ Refusal) (l : List ℕ) → (told_written r l).buffer ≡ l
buffer_told (Ok count) l = refl
buffer_told (Err refusal) l = refl

pub write_request_unique : (a : Parts) (new buffer : List ℕ) (r q : Result ℕ Refusal) (l m : List ℕ) → Writes a new buffer r l → Writes a new buffer q m
    → (r ≡ q) × (l ≡ m)
write_request_unique a new buffer r q l m e f =
    let told : told_written r l ≡ told_written q m = e ∙ sym f in
    (written_tells r q l m told, sym (buffer_told r l) ∙ ap (λ (s : SeenWritten). s.buffer) told ∙ buffer_told q m)

pub read_completion_unique : (c : List ℕ) (r q : Result Completion Refusal) → Reads c r → Reads c q → r ≡ q
read_completion_unique c (Ok r) (Ok q) e f = ap Ok (e.1 ∙ sym f.1)
read_completion_unique c (Ok r) (Err q) e f = absurd (number_positive q (sym f ∙ e.0))
read_completion_unique c (Err r) (Ok q) e f = absurd (number_positive r (sym e ∙ f.0))
read_completion_unique c (Err r) (Err q) e f = ap Err (number_tells r q (sym e ∙ f))
