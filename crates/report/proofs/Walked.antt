-- Laws of a section whose list was walked: from what the walk answered, the part of the listing that is written. Assumes nothing.
use Prim.Native.Nat.{ℕ, zero, suc, ◌≤◌}
use mathlib.Core.List.{List, ◌++◌}
use mathlib.Core.Path.{◌≡◌, refl, sym, ap, subst, ◌∙◌}
use native.Mathlib.Omega.{arith}
use lib.Dec.{lit≤}
use lib.ListN.{length, take, drop, length-append}
use lib.Seq.{take_at}
use Rattle.std.specs.Prelude.{Ok, Err}
use Rattle.answers.specs.Numbers.{number_of}
use Rattle.answers.proofs.Unique.{number_positive}
use Rattle.lists.specs.declared.Kind.{Kind}
use Rattle.lists.specs.declared.Refused.{Refused}
use Rattle.lists.specs.Table.{describe}
use Rattle.lists.specs.Chain.{Legal, Legal.ends, Legal.goes, HasChain}
use Rattle.lists.specs.Breaks.{Breaks}
use Rattle.lists.specs.Walks.{WholeSpace, Roomy, Walked, number_given, count_given, place_given, Walks, Walks.misdescribed, Walks.roomless, Walks.broken, Walks.listed}
use Rattle.lists.proofs.Pointers.{Bytes, Within, first_within, follows_within}
use Rattle.lists.proofs.Breaking.{span_most}
use Rattle.lists.proofs.Maxima.{chain_maximum}
use Rattle.lists.proofs.Decides.{broken_number}
use Rattle.report.specs.declared.section.Section.{Section}
use Rattle.report.specs.declared.section.Section.TheVariants.{Compatible, Extended}
use Rattle.report.specs.declared.text.Text.{Text}
use Rattle.report.specs.Listing.{Part, Part.listed, Part.broken, heading, refused_at, entries}
use Rattle.report.specs.Inner.{kind_of, style, most, Added, Told, Fits, Inside, Chained}
use Rattle.report.proofs.Writing.{section_length, refused_length}

-- ---- the offsets of a chain

module _ (kind : Kind) (s : List ℕ) (bytes : Bytes s) where
  legal_inside : {pointer : ℕ} {chain : List ℕ} → Within kind pointer → Legal (describe kind) s pointer chain → Inside chain
  legal_inside w (ends z e) index = rw e (lit≤ tt)
  legal_inside {pointer} w (goes {rest = rest} n high l e) zero = rw e (omega (arith, w.aligned, w.below, span_most kind))
  legal_inside {pointer} w (goes {rest = rest} n high l e) (suc index) = rw e (legal_inside (follows_within kind s pointer bytes) l index)

  pub chain_inside : {chain : List ℕ} → HasChain (describe kind) s chain → Inside chain
  chain_inside l = legal_inside (first_within kind s bytes) l

-- ---- what a walk answered, with a space and a room of their sizes

module _ {kind : Kind} {s room : List ℕ} {r : Walked} {after : List ℕ} (size : WholeSpace s) (roomy : Roomy kind room) (kept : length after ≡ length room) where
  -- it is served: the chain stands at the start of the room
  found : {count : ℕ} → Walks kind s room r after → r ≡ Ok count → (count ≤ length after) × HasChain (describe kind) s (take count after)
  found (misdescribed n a) e = absurd (n size)
  found (roomless h n a) e = absurd (n roomy)
  found (broken h k number place b a) e = absurd (broken_number b (sym a.given ∙ ap number_given e))
  found {count} (listed h k chain l a) e =
      let counted : count ≡ length chain = sym (ap count_given e) ∙ a.counted in
      let front : take count after ≡ chain = rw a.listed (take_at chain (drop (length chain) room) count (sym counted)) in (
        omega (arith, counted, ap length a.listed, length-append chain (drop (length chain) room)),
        subst (λ (offsets : List ℕ). HasChain (describe kind) s offsets) (sym front) l,
      )

  -- it is refused: the list breaks, and the number and the place say how
  unfound : {x : Refused} → Walks kind s room r after → r ≡ Err x → Breaks (describe kind) s (number_of x.refusal) x.place
  unfound (misdescribed n a) e = absurd (n size)
  unfound (roomless h n a) e = absurd (n roomy)
  unfound {x} (broken h k number place b a) e =
      subst (λ (n : ℕ). Breaks (describe kind) s n x.place) (sym a.given ∙ ap number_given e)
      (subst (λ (p : ℕ). Breaks (describe kind) s number p) (sym a.told ∙ ap place_given e) b)
  unfound {x} (listed h k chain l a) e = absurd (number_positive x.refusal (sym (ap number_given e) ∙ a.given))

-- ---- the part that is written of it

-- the list that a section shows is the one that is walked
pub style_list : (section : Section) → describe (kind_of section) ≡ (style section).list
style_list Compatible = refl
style_list Extended = refl

-- the longer list's maximum is room for either
pub room_enough : (section : Section) → (describe (kind_of section)).maximum ≤ 960
room_enough Compatible = lit≤ tt
room_enough Extended = lit≤ tt

module _ (section : Section) {s room : List ℕ} (text : Text) (space : WholeSpace s) (bytes : Bytes s) (fits : Fits (most section) text)
    (whole : length room ≡ 960) {kind : Kind} {r : Walked} {after : List ℕ} (is : kind ≡ kind_of section) (walks : Walks kind s room r after)
    (kept : length after ≡ length room) where
  walks_shown : Walks (kind_of section) s room r after
  walks_shown = subst (λ (k : Kind). Walks k s room r after) is walks

  roomy : Roomy (kind_of section) room
  roomy = omega (arith, whole, room_enough section)

  module _ {count : ℕ} (done : r ≡ Ok count) where
    chain : (count ≤ length after) × HasChain (describe (kind_of section)) s (take count after)
    chain = found space roomy kept walks_shown done

    few : length (take count after) ≤ (describe (kind_of section)).maximum
    few = chain_maximum (kind_of section) s bytes (take count after) chain.1

    pub walked_chained : Chained section s (take count after) text
    walked_chained = record { space = space; inside = chain_inside (kind_of section) s bytes chain.1; few = few; fits = fits }

    pub walked_listed : {next : Text}
        → Added (heading (style section).name (length (take count after)) ++ entries (style section) s (take count after)) text next
        → Told (Part (style section) s) (most section) text next
    walked_listed added = record {
      bytes = heading (style section).name (length (take count after)) ++ entries (style section) s (take count after);
      known = listed (take count after) (rw (← style_list section) chain.1) refl;
      short = section_length section s (take count after) few;
      added = added;
    }

  pub walked_broken : {x : Refused} → r ≡ Err x → {next : Text}
      → Added (refused_at (style section).name (number_of x.refusal) x.place) text next
      → Told (Part (style section) s) (most section) text next
  walked_broken {x} e added =
      let b = unfound space roomy kept walks_shown e in
      record {
        bytes = refused_at (style section).name (number_of x.refusal) x.place;
        known = broken (number_of x.refusal) x.place (rw (← style_list section) b) refl;
        short = refused_length section (number_of x.refusal) x.place;
        added = added;
      }
