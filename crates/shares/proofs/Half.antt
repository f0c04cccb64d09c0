-- The common shape of the statements here: two rows of events, or of calls; what is asked of each row alone; what is asked to be equal (the
-- state at the start, what the rows have in common, the shared value); and what then is equal (what is shown, the state at the end).
-- Assumes nothing.
use mathlib.Core.List.{List}
use mathlib.Core.Path.{◌≡◌}
use Rattle.board.specs.Description.{Board}
use Rattle.shares.specs.Views.{Sight}

abbrev pub Half : {Step State Common Shared : Type 0} (fit : Board → List Step → Type 0) (state : Board → State) (common : Board → List Step → Common)
    (shared : Board → List Step → Shared) (shown : Board → List Step → List Sight) (final : Board → List Step → Board) → Type 0
Half {Step} fit state common shared shown final =
    (d e : Board) (es fs : List Step) → fit d es → fit e fs → state d ≡ state e → common d es ≡ common e fs → shared d es ≡ shared e fs
    → (shown d es ≡ shown e fs) × (state (final d es) ≡ state (final e fs))
