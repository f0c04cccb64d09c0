-- Where something may stand: document 01, "a multiple of 4 from .. to ..". Assumes nothing.
use Rattle.std.specs.Prelude.{ℕ, ◌%◌, Bool, ◌&&◌, eqb, leb}

-- an offset, the lowest and the highest that it may be
unfoldable pub placed : ℕ → ℕ → ℕ → Bool
placed at low high = eqb (at % 4) 0 && (leb low at && leb at high)
