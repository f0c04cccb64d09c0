-- What is kept of a list while it is noted, one port after the other: the promises of `begin`, `note` and `conclude`. That their end is `choice`, for a list of
-- any length, is proofs/Noted (`noted_is_choice`); the promise of `choose` rests on none of it. Assumes nothing.
use Rattle.std.specs.Prelude.{ℕ, zero, suc, ◌+◌, ◌<◌, Bool, false, ◌||◌, cond, List, Option, Some, None, Ok, Err, ◌≡◌, ltb, get_or}
use Rattle.ports.specs.declared.Port.{Port}
use Rattle.ports.specs.declared.Exit.{Exit}
use Rattle.ports.specs.declared.Buses.{Buses}
use Rattle.ports.specs.declared.Survey.{Survey}
use Rattle.ports.specs.Ports.{has, exceeds}
use Rattle.ports.specs.Buses.{buses_of, shared, together}
use Rattle.ports.specs.Choice.{Choice, exit_at, list_refused}

abbrev pub no_port : Port
no_port = record { secondary = 0; subordinate = 0; tcs = 0 }

-- no port is noted yet
unfoldable pub begun : ℕ → Survey
begun bus = record { bus = bus; count = 0; taken = record { first = 0; second = 0; third = 0; fourth = 0 }; bad = false; found = None }

-- bad before, or a port out of order, or one with a bus that is taken
abbrev pub bad_with : Bool → Port → Buses → Buses → Bool
bad_with bad p its taken = bad || (exceeds p || shared taken its)

-- the port that has the bus, with the last that is noted
unfoldable pub placed : Survey → Port → Option Exit
placed s p = cond (has p s.bus) (Some (exit_at s.count p)) s.found

-- with a port more
unfoldable pub noted : Survey → Port → Survey
noted s p =
    cond (ltb 32 s.count)
    s
    (record {
      bus = s.bus;
      count = s.count + 1;
      taken = together s.taken (buses_of p);
      bad = bad_with s.bad p (buses_of p) s.taken;
      found = placed s p;
    })

-- what `note` promises; that a port's buses are bytes comes with its type, and is handed on to the walk
pub record Notes (s : Survey) (p : Port) (r : Survey) : Type 0 where
  pub is : r ≡ noted s p
  pub bytes : (p.secondary < 256) × (p.subordinate < 256)

-- the choice of a whole list
unfoldable pub concluded : Survey → Choice
concluded s = cond (ltb 32 s.count || s.bad) (Err list_refused) (Ok s.found)

-- how many ports of so many are looked at
abbrev pub up_to : ℕ → ℕ
up_to count = cond (ltb 32 count) 33 count

-- the first n of a list, noted one after the other
abbrev pub after : List Port → ℕ → ℕ → Survey
after ps bus zero = begun bus
after ps bus (suc n) = noted (after ps bus n) (get_or ps n no_port)
