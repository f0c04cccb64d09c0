-- Events of a kind within a run, for any states, events and step: "The n-th packet of a kind in one run is compared with the n-th of
-- that kind in the other". Assumes nothing.
use Rattle.std.specs.Prelude.{Bool, true, false, List, [], ◌∷◌}

-- x in front of the list, if it counts
abbrev pub keep : {Element : Type 0} → Bool → Element → List Element → List Element
keep true x xs = x ∷ xs
keep false x xs = xs

module _ {Event : Type 0} (counts : Event → Bool) where
  -- the events that count, in their order
  abbrev pub only : List Event → List Event
  only [] = []
  only (event ∷ events) = keep (counts event) event (only events)

  -- a value for each event that counts, in their order, made of the state before it and the event; `next` gives the state after it
  abbrev pub along : {State Value : Type 0} (next : State → Event → State) (value : State → Event → Value) → State → List Event → List Value
  along next value state [] = []
  along next value state (event ∷ events) =
      keep (counts event) (value state event) (along next value (next state event) events)
