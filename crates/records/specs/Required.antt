-- Document 01, "DVSEC and Dual-BDF": what each record requires, in the record's own order, "else" a number. Assumes nothing.
use Rattle.std.specs.Prelude.{ℕ, Bool, true, not, ◌&&◌, cond, List, [], ◌∷◌, eqb, length}
use Rattle.answers.specs.Checks.{Check, check}

-- all of the facts hold
abbrev pub all : List Bool → Bool
all [] = true
all (fact ∷ facts) = fact && all facts

-- a fact, "else" a number
abbrev pub required : Bool → ℕ → Check
required fact n = check n (not fact)

-- "0 for every field of a record" where a number but 0 is given
abbrev pub told_for : ℕ → ℕ → ℕ
told_for number value = cond (eqb number 0) value 0

-- "after the space's size": 4,096 bytes
unfoldable pub sized : List ℕ → Bool
sized s = eqb (length s) 4096
