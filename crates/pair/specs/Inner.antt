-- What the inner functions of this crate tell each other; no entry's promise rests on it. Assumes nothing.
use Rattle.std.specs.Prelude.{ℕ, cond, List, ◌≡◌, length}
use Rattle.board.specs.Description.{Board, badly_described}
use Rattle.board.specs.Serving.{Outcome, refused, serve}
use Rattle.board.specs.Promise.{Served, seen, shows}

-- one function serves, unless the other is badly described: which, the other, the packet, the reply's size
unfoldable pub besides : Board → Board → List ℕ → ℕ → Outcome
besides d beside p size = cond (badly_described beside) (refused 1 d) (serve d p size)

abbrev pub ServesBeside : Board → Board → List ℕ → List ℕ → Served → List ℕ → List ℕ → List ℕ → Type 0
ServesBeside d beside p reply r ordinary trusted after = seen r ordinary trusted after ≡ shows (besides d beside p (length reply)) reply
