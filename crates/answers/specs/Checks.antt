-- Document 01, "For packets [..] the lowest applicable number is given; the two records below state their own order": a list of checks in
-- the order in which they count (for packets the lowest number first), and the number of the first that applies. Assumes nothing.
use Rattle.std.specs.Prelude.{ℕ, Bool, false, ◌||◌, cond, List, [], ◌∷◌}

-- the number given when its cause is there
pub record Check : Type 0 where
  pub number : ℕ
  pub applies : Bool

abbrev pub check : ℕ → Bool → Check
check n cause = record { number = n; applies = cause }

-- the number of the first check that applies, 0 where none does
abbrev pub first_that_applies : List Check → ℕ
first_that_applies [] = 0
first_that_applies (c ∷ cs) = cond c.applies c.number (first_that_applies cs)

-- one of the causes is there
abbrev pub any : List Bool → Bool
any [] = false
any (cause ∷ causes) = cause || any causes
