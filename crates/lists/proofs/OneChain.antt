-- THEOREM. At most one legal chain exists: two chains that are legal from one pointer are equal. Assumes nothing.
use Prim.Native.Nat.{ℕ}
use mathlib.Core.List.{List, ◌∷◌}
use mathlib.Core.Path.{◌≡◌, sym, ap, ◌∙◌}
use Rattle.lists.specs.Table.{ListRule}
use Rattle.lists.specs.Chain.{Legal, Legal.ends, Legal.goes}

pub legal_unique : {d : ListRule} {s : List ℕ} {pointer : ℕ} {a b : List ℕ} → Legal d s pointer a → Legal d s pointer b → a ≡ b
legal_unique (ends p e) (ends q f) = e ∙ sym f
legal_unique (ends p e) (goes n h l f) = absurd (n p)
legal_unique (goes n h l e) (ends q f) = absurd (n q)
legal_unique {pointer} (goes n h l e) (goes m k o f) = e ∙ ap (λ (rest : List ℕ). pointer ∷ rest) (legal_unique l o) ∙ sym f
