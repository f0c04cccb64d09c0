-- What `report::listing` promises of any input. Assumes nothing.
use Rattle.std.specs.Prelude.{ℕ, List, ◌++◌, ◌≡◌, length, drop}
use Rattle.report.specs.Listing.{Says}

-- the listing stands at the start of the text, its length is answered, and the rest of the text is as lent
pub record Prints (s text : List ℕ) (r : ℕ) (after : List ℕ) : Type 0 where
  pub out : List ℕ
  pub says : Says s out
  pub counted : r ≡ length out
  pub written : after ≡ out ++ drop (length out) text
