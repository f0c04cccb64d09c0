-- What the private functions of this crate tell each other; no promise of a public entry cites this file. Assumes nothing.
use Rattle.std.specs.Prelude.{◌≡◌, Bool, true, false, Result, Ok, Err}
use Rattle.answers.specs.declared.Refusal.{Refusal}

-- a fact is there, or the refusal that stands for its lack is given
abbrev pub Requires : Bool → Refusal → Result (Unit {0}) Refusal → Type 0
Requires fact otherwise (Ok done) = fact ≡ true
Requires fact otherwise (Err refusal) = (fact ≡ false) × (refusal ≡ otherwise)
