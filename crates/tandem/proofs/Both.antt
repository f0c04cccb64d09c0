-- THEOREMS. The exported functions for a board of two functions: a second result is the same; what the number says, and that a refusal changes nothing that a host
-- holds; and that a host that keeps what it is given holds the pair after serving, and after a reset the pair that is reset. Assumes nothing.
use Prim.Native.Nat.{ℕ, zero, suc}
use mathlib.Core.List.{List}
use mathlib.Core.Path.{◌≡◌, refl, sym, ap, ◌∙◌, subst}
use native.Mathlib.Omega.{arith}
use lib.ListN.{length}
use borrow.Author.Tests.{ne_eqb}
use Rattle.capture.specs.declared.Capture.{Capture}
use Rattle.capture.specs.declared.Capture.TheVariants.{Nothing, Number}
use Rattle.board.specs.Description.{Space, with_bytes}
use Rattle.pair.specs.declared.Captures.{Captures}
use Rattle.pair.specs.Pair.{Pair, forgotten_both}
use Rattle.pair.specs.Serving.{PairOutcome, delivered, pair_number, by_pair_number, serve_pair, pair_after_reset}
use Rattle.pair.specs.Promise.{pair_shows}
use Rattle.pair.proofs.Keeps.{pair_serve_keeps}
use Rattle.pair.proofs.Refusals.{PairNumberSays, pair_outcome_number, pair_number_says, pair_refused_lem}
use Rattle.tandem.specs.declared.HostFunction.{HostFunction}
use Rattle.tandem.specs.declared.HostCaptures.{HostCaptures}
use Rattle.tandem.specs.declared.HostPairServed.{HostPairServed}
use Rattle.tandem.specs.Pairs.{kept_by, told_capture, kept_both, told_both, handed_back_both, HostPairSeen, host_pair_seen, host_pair_shows, host_pair, HostPairServes}

-- the statements
abbrev pub HostPairServeUnique : Type 0
HostPairServeUnique =
    (edition : ℕ) (f g : HostFunction) (kept : HostCaptures) (sp st sa su : Space) (p reply : List ℕ) (r q : HostPairServed)
    (po pt ao at after po' pt' ao' at' after' : List ℕ) → HostPairServes edition f g kept sp st sa su p reply r po pt ao at after
    → HostPairServes edition f g kept sp st sa su p reply q po' pt' ao' at' after'
    → (r ≡ q) × (po ≡ po') × (pt ≡ pt') × (ao ≡ ao') × (at ≡ at') × (after ≡ after')

abbrev pub HostPairNumber : Type 0
HostPairNumber =
    (edition : ℕ) (f g : HostFunction) (kept : HostCaptures) (sp st sa su : Space) (p reply : List ℕ) (r : HostPairServed) (po pt ao at after : List ℕ)
    → HostPairServes edition f g kept sp st sa su p reply r po pt ao at after
    → PairNumberSays (host_pair edition f g kept sp st sa su) p (length reply) r.number

-- a refusal hands everything back byte for byte
abbrev pub HostPairRefusalKeeps : Type 0
HostPairRefusalKeeps =
    (edition : ℕ) (f g : HostFunction) (kept : HostCaptures) (sp st sa su : Space) (p reply : List ℕ) (r : HostPairServed) (po pt ao at after : List ℕ)
    → HostPairServes edition f g kept sp st sa su p reply r po pt ao at after → (r.number ≡ 0 → ⊥)
    → (r.length ≡ 0) × (r.kept ≡ kept) × (po ≡ sp.bytes) × (pt ≡ st.bytes) × (ao ≡ sa.bytes) × (at ≡ su.bytes) × (after ≡ reply)

abbrev pub HostPairHolds : Type 0
HostPairHolds =
    (edition : ℕ) (f g : HostFunction) (kept : HostCaptures) (sp st sa su : Space) (p reply : List ℕ) (r : HostPairServed) (po pt ao at after : List ℕ)
    → HostPairServes edition f g kept sp st sa su p reply r po pt ao at after
    → host_pair edition f g r.kept (with_bytes sp po) (with_bytes st pt) (with_bytes sa ao) (with_bytes su at)
    ≡ (serve_pair (host_pair edition f g kept sp st sa su) p (length reply)).after

abbrev pub HostPairResets : Type 0
HostPairResets =
    (edition : ℕ) (f g : HostFunction) (kept r : HostCaptures) (sp st sa su : Space) → r ≡ told_both (forgotten_both (kept_both kept))
    → host_pair edition f g r sp st sa su ≡ pair_after_reset (host_pair edition f g kept sp st sa su)

pub host_pair_serve_unique : HostPairServeUnique
host_pair_serve_unique edition f g kept sp st sa su p reply r q po pt ao at after po' pt' ao' at' after' e h =
    let s : host_pair_seen r po pt ao at after ≡ host_pair_seen q po' pt' ao' at' after' = e ∙ sym h in (
      ap (λ (x : HostPairSeen). record { length = x.count; number = x.number; kept = x.kept }) s,
      ap (λ (x : HostPairSeen). x.primary_ordinary) s,
      ap (λ (x : HostPairSeen). x.primary_trusted) s,
      ap (λ (x : HostPairSeen). x.alternate_ordinary) s,
      ap (λ (x : HostPairSeen). x.alternate_trusted) s,
      ap (λ (x : HostPairSeen). x.reply) s,
    )

pub host_pair_reset_unique : (kept r q : HostCaptures) → r ≡ told_both (forgotten_both (kept_both kept)) → q ≡ told_both (forgotten_both (kept_both kept)) → r ≡ q
host_pair_reset_unique kept r q e f = e ∙ sym f

-- a capture that is told is kept as it is
kept_told : (c : Capture) → kept_by (told_capture c) ≡ c
kept_told Nothing = refl
kept_told (Number bus device) = refl

-- the two captures of a pair
abbrev kept_of : Pair → Captures
kept_of pair = record { primary = pair.primary.capture; alternate = pair.alternate.capture }

-- what is handed back is kept as it is, by the number
kept_by_number : (n : ℕ) (kept : HostCaptures) (pair : Pair) (p : List ℕ) (size : ℕ) → kept_of pair ≡ kept_both kept
    → kept_both (handed_back_both n kept (kept_of (by_pair_number n pair p size).after)) ≡ kept_of (by_pair_number n pair p size).after
kept_by_number zero kept pair p size e = λ i. record { primary = kept_told (delivered pair p size).after.primary.capture i; alternate = kept_told (delivered pair p size).after.alternate.capture i }
kept_by_number (suc n) kept pair p size e = rw (ne_eqb (suc n) 0 (λ z. omega arith)) (sym e)

module _ (edition : ℕ) (f g : HostFunction) (kept : HostCaptures) (sp st sa su : Space) (p reply : List ℕ) (r : HostPairServed) (po pt ao at after : List ℕ)
    (e : HostPairServes edition f g kept sp st sa su p reply r po pt ao at after) where
  abbrev pair : Pair
  pair = host_pair edition f g kept sp st sa su

  told_number : r.number ≡ (serve_pair pair p (length reply)).number
  unfolding pair_shows
  told_number = ap (λ (x : HostPairSeen). x.number) e

  number_says : PairNumberSays pair p (length reply) r.number
  number_says = subst (PairNumberSays pair p (length reply)) (sym told_number) (pair_number_says pair p (length reply))

  refusal_keeps : (r.number ≡ 0 → ⊥)
      → (r.length ≡ 0) × (r.kept ≡ kept) × (po ≡ sp.bytes) × (pt ≡ st.bytes) × (ao ≡ sa.bytes) × (at ≡ su.bytes) × (after ≡ reply)
  unfolding pair_shows
  refusal_keeps n =
      let h : pair_number pair p (length reply) ≡ 0 → ⊥ = λ z. n (told_number ∙ pair_outcome_number pair p (length reply) ∙ z) in
      let s = e ∙ ap (λ (o : PairOutcome). host_pair_shows kept (pair_shows o reply)) (pair_refused_lem pair p (length reply) h) in (
        ap (λ (x : HostPairSeen). x.count) s,
        ap (λ (x : HostPairSeen). x.kept) s ∙ rw (ne_eqb (pair_number pair p (length reply)) 0 h),
        ap (λ (x : HostPairSeen). x.primary_ordinary) s,
        ap (λ (x : HostPairSeen). x.primary_trusted) s,
        ap (λ (x : HostPairSeen). x.alternate_ordinary) s,
        ap (λ (x : HostPairSeen). x.alternate_trusted) s,
        ap (λ (x : HostPairSeen). x.reply) s,
      )

  captures_held : kept_both r.kept ≡ kept_of (serve_pair pair p (length reply)).after
  unfolding pair_shows serve_pair
  captures_held =
      ap (λ (x : HostPairSeen). kept_both x.kept) e
      ∙ ap (λ (n : ℕ). kept_both (handed_back_both n kept (kept_of (serve_pair pair p (length reply)).after))) (pair_outcome_number pair p (length reply))
      ∙ kept_by_number (pair_number pair p (length reply)) kept pair p (length reply) refl

  pair_held : host_pair edition f g r.kept (with_bytes sp po) (with_bytes st pt) (with_bytes sa ao) (with_bytes su at) ≡ (serve_pair pair p (length reply)).after
  unfolding pair_shows
  pair_held =
      let k = pair_serve_keeps pair p (length reply) in
      λ i.
      record {
        edition = sym k.edition i;
        primary =
            record {
              function = sym k.primary.function i;
              capture = (captures_held i).primary;
              ordinary = (ap (λ (x : HostPairSeen). with_bytes sp x.primary_ordinary) e ∙ sym k.primary.ordinary) i;
              trusted = (ap (λ (x : HostPairSeen). with_bytes st x.primary_trusted) e ∙ sym k.primary.trusted) i;
            };
        alternate =
            record {
              function = sym k.alternate.function i;
              capture = (captures_held i).alternate;
              ordinary = (ap (λ (x : HostPairSeen). with_bytes sa x.alternate_ordinary) e ∙ sym k.alternate.ordinary) i;
              trusted = (ap (λ (x : HostPairSeen). with_bytes su x.alternate_trusted) e ∙ sym k.alternate.trusted) i;
            };
      }

pub host_pair_number : HostPairNumber
host_pair_number = number_says

pub host_pair_refusal_keeps : HostPairRefusalKeeps
host_pair_refusal_keeps = refusal_keeps

pub host_pair_holds : HostPairHolds
host_pair_holds = pair_held

pub host_pair_resets : HostPairResets
host_pair_resets edition f g kept r sp st sa su e = ap (λ (x : HostCaptures). host_pair edition f g x sp st sa su) e
