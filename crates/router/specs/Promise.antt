-- What the entries of this crate promise: all that a caller sees afterwards. Assumes nothing.
use Rattle.std.specs.Prelude.{ℕ, Bool, true, false, List, ◌++◌, Result, Ok, Err, ◌≡◌, length, drop}
use Rattle.answers.specs.declared.Refusal.{Refusal}
use Rattle.answers.specs.Numbers.{number_of}
use Rattle.ports.specs.declared.Port.{Port}
use Rattle.ports.specs.Choice.{Choice}
use Rattle.router.specs.declared.Verdict.{Verdict}
use Rattle.router.specs.declared.Verdict.TheVariants.{Leaves, Unsupported}
use Rattle.router.specs.Routing.{Outcome, decide, route}

-- what an entry answers
abbrev pub Routed : Type 0
Routed = Result Verdict Refusal

-- as answered: the number, whether the packet leaves, by which port and with how many bytes; and the lent buffer
pub record Seen : Type 0 where
  pub number : ℕ
  pub leaves : Bool
  pub port : ℕ
  pub count : ℕ
  pub buffer : List ℕ

-- what a call has shown: its result, and the buffer at its end
abbrev pub told : Routed → List ℕ → Seen
told (Ok (Leaves port count)) after = record { number = 0; leaves = true; port = port; count = count; buffer = after }
told (Ok Unsupported) after = record { number = 0; leaves = false; port = 0; count = 0; buffer = after }
told (Err refusal) after = record { number = number_of refusal; leaves = false; port = 0; count = 0; buffer = after }

-- "What leaves is written into a lent buffer": its bytes past the written ones stay
abbrev pub over : List ℕ → List ℕ → List ℕ
over written buffer = written ++ drop (length written) buffer

-- what it should show, from an outcome and the buffer as lent
unfoldable pub shows : Outcome → List ℕ → Seen
shows o buffer =
    record {
      number = o.number;
      leaves = o.leaves;
      port = o.port;
      count = length o.written;
      buffer = over o.written buffer;
    }

-- the promise of `router::decide`: the choice, the packet and the buffer as lent, the result, and the buffer at its end
abbrev pub Decides : Choice → List ℕ → List ℕ → Routed → List ℕ → Type 0
Decides c p buffer r after = told r after ≡ shows (decide c p (length buffer)) buffer

-- the promise of `router::route`: the ports, the packet and the buffer as lent, the result, and the buffer at its end
abbrev pub Routes : List Port → List ℕ → List ℕ → Routed → List ℕ → Type 0
Routes ports p buffer r after = told r after ≡ shows (route ports p (length buffer)) buffer
