-- A second result that meets a promise of this crate is the same result. Assumes nothing.
use Prim.Native.Nat.{ℕ}
use mathlib.Core.Bool.{Bool}
use mathlib.Core.List.{List}
use mathlib.Core.Path.{◌≡◌, sym, ap, ◌∙◌}
use Rattle.std.specs.Prelude.{Result, Ok, Err}
use Rattle.answers.specs.declared.Refusal.{Refusal}
use Rattle.answers.specs.Numbers.{answered}
use Rattle.answers.proofs.Unique.{number_positive, number_tells}
use Rattle.capture.specs.declared.Capture.{Capture}
use Rattle.capture.specs.Kept.{forgotten}
use Rattle.board.specs.Description.{Board, badly_described}
use Rattle.board.specs.Promise.{Served, count_of, Seen, seen, Serves}

-- the statement: whatever meets `serve`'s promise from the same board, packet and reply is the same result, with the same three buffers
abbrev pub ServeUnique : Type 0
ServeUnique =
    (d : Board) (p reply : List ℕ) (r q : Served) (o t after o' t' after' : List ℕ) → Serves d p reply r o t after → Serves d p reply q o' t' after'
    → (r ≡ q) × (o ≡ o') × (t ≡ t') × (after ≡ after')

pub same_answer : (r q : Result ℕ Refusal) → answered r ≡ answered q → count_of r ≡ count_of q → r ≡ q
same_answer (Ok n) (Ok m) e f = ap Ok f
same_answer (Ok n) (Err q) e f = absurd (number_positive q (sym e))
same_answer (Err r) (Ok m) e f = absurd (number_positive r e)
same_answer (Err r) (Err q) e f = ap Err (number_tells r q e)

pub serve_unique : ServeUnique
serve_unique d p reply r q o t after o' t' after' e f =
    let s : seen r o t after ≡ seen q o' t' after' = e ∙ sym f in
    let a = same_answer r.answer q.answer (ap (λ (x : Seen). x.number) s) (ap (λ (x : Seen). x.count) s) in (
      λ i. record { answer = a i; capture = (s i).capture },
      ap (λ (x : Seen). x.ordinary) s,
      ap (λ (x : Seen). x.trusted) s,
      ap (λ (x : Seen). x.reply) s,
    )

pub reset_unique : (kept r q : Capture) → r ≡ forgotten kept → q ≡ forgotten kept → r ≡ q
reset_unique kept r q e f = e ∙ sym f

pub badly_described_unique : (d : Board) (r q : Bool) → r ≡ badly_described d → q ≡ badly_described d → r ≡ q
badly_described_unique d r q e f = e ∙ sym f
