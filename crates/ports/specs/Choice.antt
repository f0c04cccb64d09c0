-- Document 02, 1/13: which port a request for a bus is for. Assumes nothing.
use Rattle.std.specs.Prelude.{ℕ, suc, cond, List, [], ◌∷◌, Option, Some, None, Result, Ok, Err}
use Rattle.ports.specs.declared.Port.{Port}
use Rattle.ports.specs.declared.Exit.{Exit}
use Rattle.ports.specs.declared.BadList.{BadList}
use Rattle.ports.specs.Ports.{has, bad_list}

-- that the list is refused; or the port that has the bus, with its place in the list, or that none has it
abbrev pub Choice : Type 0
Choice = Result (Option Exit) BadList

abbrev pub exit_at : ℕ → Port → Exit
exit_at n p = record { place = n; port = p }

abbrev pub list_refused : BadList
list_refused = record {}

-- the port whose range has the bus, with its place, where the list's first has place n. (The first such port: of a good list there is no other,
-- which proofs/Only shows.)
abbrev pub port_from : ℕ → List Port → ℕ → Option Exit
port_from n [] bus = None
port_from n (p ∷ ps) bus = cond (has p bus) (Some (exit_at n p)) (port_from (suc n) ps bus)

-- a list that is refused has no port for any bus
unfoldable pub choice : List Port → ℕ → Choice
choice ps bus = cond (bad_list ps) (Err list_refused) (Ok (port_from 0 ps bus))
