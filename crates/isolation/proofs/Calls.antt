-- Calling the entries of a pair packet by packet gives the run: what the caller holds at the end is the run's pair, and each call answered the run's number and wrote
-- the run's reply bytes. The start is any pair, fresh or not, well described or not. Assumes nothing.
use mathlib.Core.Bool.{true}
use mathlib.Core.List.{List, [], ◌∷◌}
use mathlib.Core.Path.{◌≡◌, refl, ap, ◌∙◌}
use Rattle.pair.specs.Pair.{Pair}
use Rattle.isolation.specs.Rows.{events_in, end, runs, PairCall, calls, AllMeet}
use Rattle.isolation.specs.Views.{values_at}
use Rattle.isolation.proofs.Alone.{call_after, call_number, call_written}

-- the statement
pub record GiveRun (pair : Pair) (cs : List PairCall) : Type 0 where
  pub held : end calls pair cs ≡ end runs pair (events_in calls cs)
  pub numbers : values_at calls (λ e. true) calls.number pair cs ≡ values_at runs (λ e. true) runs.number pair (events_in calls cs)
  pub written : values_at calls (λ e. true) calls.written pair cs ≡ values_at runs (λ e. true) runs.written pair (events_in calls cs)

pub calls_give_pair_run : (pair : Pair) (cs : List PairCall) → AllMeet pair cs → GiveRun pair cs
calls_give_pair_run pair [] m = record { held = refl; numbers = refl; written = refl }
calls_give_pair_run pair (c ∷ cs) m =
    let h = call_after pair c m.0 in
    let rest = calls_give_pair_run (calls.next pair c) cs m.1 in
    record {
      held = rest.held ∙ ap (λ (x : Pair). end runs x (events_in calls cs)) h;
      numbers =
          (λ i. call_number pair c m.0 i ∷ (rest.numbers ∙ ap (λ (x : Pair). values_at runs (λ e. true) runs.number x (events_in calls cs)) h) i);
      written =
          (λ i. call_written pair c m.0 i ∷ (rest.written ∙ ap (λ (x : Pair). values_at runs (λ e. true) runs.written x (events_in calls cs)) h) i);
    }
