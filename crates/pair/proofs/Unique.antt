-- A second result that meets a promise of this crate is the same result. Assumes nothing.
use Prim.Native.Nat.{ℕ}
use mathlib.Core.List.{List}
use mathlib.Core.Path.{◌≡◌, sym, ap, ◌∙◌}
use Rattle.board.proofs.Unique.{same_answer}
use Rattle.pair.specs.declared.Captures.{Captures}
use Rattle.pair.specs.Pair.{Pair, forgotten_both}
use Rattle.pair.specs.Promise.{Served, PairSeen, pair_seen, PairServes}

-- the statement: whatever meets `serve`'s promise from the same pair, packet and reply is the same result, with the same five buffers
abbrev pub PairServeUnique : Type 0
PairServeUnique =
    (pair : Pair) (p reply : List ℕ) (r q : Served) (po pt ao at after po' pt' ao' at' after' : List ℕ)
    → PairServes pair p reply r po pt ao at after → PairServes pair p reply q po' pt' ao' at' after'
    → (r ≡ q) × (po ≡ po') × (pt ≡ pt') × (ao ≡ ao') × (at ≡ at') × (after ≡ after')

pub pair_serve_unique : PairServeUnique
pair_serve_unique pair p reply r q po pt ao at after po' pt' ao' at' after' e f =
    let s : pair_seen r po pt ao at after ≡ pair_seen q po' pt' ao' at' after' = e ∙ sym f in
    let a = same_answer r.answer q.answer (ap (λ (x : PairSeen). x.number) s) (ap (λ (x : PairSeen). x.count) s) in (
      λ i. record { answer = a i; kept = (s i).kept },
      ap (λ (x : PairSeen). x.primary_ordinary) s,
      ap (λ (x : PairSeen). x.primary_trusted) s,
      ap (λ (x : PairSeen). x.alternate_ordinary) s,
      ap (λ (x : PairSeen). x.alternate_trusted) s,
      ap (λ (x : PairSeen). x.reply) s,
    )

pub pair_reset_unique : (kept r q : Captures) → r ≡ forgotten_both kept → q ≡ forgotten_both kept → r ≡ q
pair_reset_unique kept r q e f = e ∙ sym f
