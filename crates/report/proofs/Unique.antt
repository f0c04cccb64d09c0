-- THEOREM. A second result that meets the promise of `report::listing` is the same result: the length and the text afterwards.
-- It comes down to one listing for each input, and that to one chain or one fault for each list. Assumes nothing.
use Prim.Native.Nat.{ℕ}
use mathlib.Core.List.{List, ◌++◌}
use mathlib.Core.Path.{◌≡◌, sym, ap, ap₂, ◌∙◌}
use lib.ListN.{length, drop}
use Rattle.lists.proofs.OneChain.{legal_unique}
use Rattle.lists.proofs.Breaking.{breaks_unique, breaks_unending}
use Rattle.report.specs.Text.{ascii, line}
use Rattle.report.specs.Listing.{Style, heading, refused_at, entries, Part, Part.listed, Part.broken, Says, Says.other, Says.parts}
use Rattle.report.specs.Prints.{Prints}

abbrev pub ListingUnique : Type 0
ListingUnique = (s text : List ℕ) (r q : ℕ) (l m : List ℕ) → Prints s text r l → Prints s text q m → (r ≡ q) × (l ≡ m)

abbrev pub SaysUnique : Type 0
SaysUnique = (s a b : List ℕ) → Says s a → Says s b → a ≡ b

pub part_unique : {style : Style} {s a b : List ℕ} → Part style s a → Part style s b → a ≡ b
part_unique {style} {s} (listed chain l e) (listed same o f) =
    e ∙ ap (λ (c : List ℕ). heading style.name (length c) ++ entries style s c) (legal_unique l o) ∙ sym f
part_unique (listed chain l e) (broken number place b f) = absurd (breaks_unending b chain l)
part_unique (broken number place b e) (listed chain l f) = absurd (breaks_unending b chain l)
part_unique {style} {s} (broken m p b e) (broken n q c f) =
    let same = breaks_unique style.list s m n p q b c in
    e ∙ ap₂ (refused_at style.name) same.0 same.1 ∙ sym f

pub says_unique : SaysUnique
says_unique s a b (other n e) (other m f) = e ∙ sym f
says_unique s a b (other n e) (parts size first second p q f) = absurd (n size)
says_unique s a b (parts size first second p q e) (other m f) = absurd (m size)
says_unique s a b (parts size first second p q e) (parts same third fourth t u f) =
    e ∙ ap₂ (λ (x y : List ℕ). x ++ y ++ line (ascii "end")) (part_unique p t) (part_unique q u) ∙ sym f

pub listing_unique : ListingUnique
listing_unique s text r q l m a b =
    let same = says_unique s a.out b.out a.says b.says in (
      a.counted ∙ ap length same ∙ sym b.counted,
      a.written ∙ ap (λ (out : List ℕ). out ++ drop (length out) text) same ∙ sym b.written,
    )
