-- The first half of demand 3 with the register asked at every ordinary packet follows from the one that asks where a packet is served: what
-- is asked there is made of the packet and of what is asked here. Assumes nothing.
use Prim.Native.Nat.{ℕ}
use mathlib.Core.Bool.{Bool, true, false, not, cond}
use mathlib.Core.List.{List, [], ◌∷◌}
use mathlib.Core.Option.{Option, none, some}
use mathlib.Core.Path.{◌≡◌, refl, sym, ap, ap₂, ◌∙◌}
use Rattle.board.specs.Description.{Board}
use Rattle.board.specs.Access.{correlation}
use Rattle.packet.specs.Request.{trusted_under}
use Rattle.runs.specs.Run.{Event, packet, reset, next}
use Rattle.shares.specs.Kinds.{keep, only, along}
use Rattle.shares.specs.Views.{OrdinaryState, edition_of, trusted_packet, ordinary_packet, ordinary_events, is_served, register, correlations, correlations_at_each}
use Rattle.shares.specs.Statements.{FirstHalfAtEach}
use Rattle.shares.proofs.Boards.{edition_kept}
use Rattle.shares.proofs.FirstHalf.{first_half}

-- a function of each event and of the value at it
abbrev both : {A B C : Type 0} → (A → B → C) → List A → List B → List C
both f [] ys = []
both f (x ∷ xs) [] = []
both f (x ∷ xs) (y ∷ ys) = f x y ∷ both f xs ys

module _ {State Value Made : Type 0} (counts : Event → Bool) (step : State → Event → State) (value : State → Event → Value) (made : Event → Value → Made) where
  both_kept : (b : Bool) (x : Event) (v : Value) (xs : List Event) (vs : List Value)
      → keep b (made x v) (both made xs vs) ≡ both made (keep b x xs) (keep b v vs)
  both_kept true x v xs vs = refl
  both_kept false x v xs vs = refl

  along_both : (s : State) (es : List Event)
      → along counts step (λ t x. made x (value t x)) s es ≡ both made (only counts es) (along counts step value s es)
  along_both s [] = refl
  along_both s (x ∷ es) =
      ap (keep (counts x) (made x (value s x))) (along_both (step s x) es) ∙ both_kept (counts x) x (value s x) (only counts es) (along counts step value (step s x) es)

module _ (edition : ℕ) where
  -- the ordinary packets are among the ordinary events
  kept_among : (b : Bool) (x : Event) (es : List Event) → ordinary_packet edition x ≡ b
      → only (ordinary_packet edition) (keep b x es) ≡ keep b x (only (ordinary_packet edition) es)
  kept_among true x es e = rw e
  kept_among false x es e = refl

  packets_among : (es : List Event) → only (ordinary_packet edition) (only (λ x. not (trusted_packet edition x)) es) ≡ only (ordinary_packet edition) es
  packets_among [] = refl
  packets_among (packet bytes size ∷ es) =
      kept_among (not (trusted_under edition bytes)) (packet bytes size) (only (λ x. not (trusted_packet edition x)) es) refl
      ∙ ap (keep (not (trusted_under edition bytes)) (packet bytes size)) (packets_among es)
  packets_among (reset ∷ es) = packets_among es

  -- what is asked where a packet is served
  abbrev asked : Event → List ℕ → Option (List ℕ)
  asked (packet bytes size) value = cond (is_served edition bytes size) (some value) none
  asked reset value = none

  register_is : (d : Board) (x : Event) → edition_of d ≡ edition → register d x ≡ asked x (correlation d)
  register_is d (packet bytes size) n = ap (λ (m : ℕ). cond (is_served m bytes size) (some (correlation d)) none) n
  register_is d reset n = refl

  -- over a run of a board of the edition
  asked_along : (d : Board) (es : List Event) → edition_of d ≡ edition
      → along (ordinary_packet edition) next register d es ≡ along (ordinary_packet edition) next (λ x e. asked e (correlation x)) d es
  asked_along d [] n = refl
  asked_along d (x ∷ es) n = ap₂ (keep (ordinary_packet edition x)) (register_is d x n) (asked_along (next d x) es (edition_kept d x ∙ n))

  registers_are : (d : Board) (es : List Event) → edition_of d ≡ edition
      → along (ordinary_packet edition) next register d es
      ≡ both asked (only (ordinary_packet edition) es) (along (ordinary_packet edition) next (λ x e. correlation x) d es)
  registers_are d es n = asked_along d es n ∙ along_both (ordinary_packet edition) next (λ x e. correlation x) asked d es

-- by the ordinary packets of a run, under its board's edition
correlations_are : (d : Board) (es : List Event)
    → correlations d es ≡ both (asked (edition_of d)) (only (ordinary_packet (edition_of d)) (ordinary_events d es)) (correlations_at_each d es)
correlations_are d es =
    registers_are (edition_of d) d es refl
    ∙ ap (λ (l : List Event). both (asked (edition_of d)) l (correlations_at_each d es)) (sym (packets_among (edition_of d) es))

pub first_half_at_each : FirstHalfAtEach
first_half_at_each d e es fs w u v o k =
    let n : edition_of d ≡ edition_of e = ap (λ (s : OrdinaryState). s.edition) v in
    first_half d e es fs w u v o
    (correlations_are d es
    ∙ (λ i. both (asked (n i)) (only (ordinary_packet (n i)) (o i)) (k i))
    ∙ sym (correlations_are e fs))
