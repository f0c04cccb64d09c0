-- Document 02, 11/13: the isolation of the two functions, and demand 3 for each of them, of any row of steps. Assumes nothing.
use Rattle.std.specs.Prelude.{List, ◌≡◌}
use Rattle.shares.specs.Views.{ordinary_state, trusted_state}
use Rattle.pair.specs.Pair.{Pair, Role, Primary, other, side, board, WellPaired}
use Rattle.isolation.specs.Rows.{Row, end, runs, PairCall, calls, AllMeet}
use Rattle.isolation.specs.Views.{not_for, ordinary_or_reset, trusted_for, events_that, own_sights, sides_but, neither_numbers, neither_replies, ordinary_sights_for, trusted_sights_for, registers_for, captures_for}

-- "change no answer, no written reply byte and no space of the other": at the n-th packet for the unchanged function, and after each event that is not a
-- packet for the changed one; of the packets for neither the answers, and "Replies with the primary's ID to those packets are compared only when the
-- primary is the unchanged function."
pub record Unaffected {Step : Type 0} (row : Row Step) (unchanged : Role) (d e : Pair) (steps others : List Step) : Type 0 where
  pub own : own_sights row unchanged d steps ≡ own_sights row unchanged e others
  pub numbers : neither_numbers row d steps ≡ neither_numbers row e others
  pub replies : unchanged ≡ Primary → neither_replies row d steps ≡ neither_replies row e others
  pub sides : sides_but row (other unchanged) unchanged d steps ≡ sides_but row (other unchanged) unchanged e others
  pub at_end : side unchanged (end row d steps) ≡ side unchanged (end row e others)

-- "packets for one function, ordinary or trusted, changed at will in one of two runs, change no answer, no written reply byte and no space of the other.
-- Both functions are well described in both runs, which have the same edition. Packets for neither, resets, the other's packets and start, and the
-- reply sizes for all these are the same in both runs.": `fit` is what is asked of each row by itself
abbrev pub IsolationOf : {Step : Type 0} → Row Step → (Pair → List Step → Type 0) → Type 0
IsolationOf {Step} row fit =
    (unchanged : Role) (d e : Pair) (steps others : List Step) → fit d steps → fit e others
    → d.edition ≡ e.edition
    → side unchanged d ≡ side unchanged e
    → events_that row (not_for (other unchanged) d) steps ≡ events_that row (not_for (other unchanged) e) others
    → Unaffected row unchanged d e steps others

-- "Demand 3 then holds for each function over the packets for it": the first half, with its ordinary state and its correlation register
abbrev pub FirstHalfOf : {Step : Type 0} → Row Step → (Pair → List Step → Type 0) → Type 0
FirstHalfOf {Step} row fit =
    (role : Role) (d e : Pair) (steps others : List Step) → fit d steps → fit e others
    → ordinary_state (board role d) ≡ ordinary_state (board role e)
    → events_that row (ordinary_or_reset role d) steps ≡ events_that row (ordinary_or_reset role e) others
    → registers_for row role d steps ≡ registers_for row role e others
    → (ordinary_sights_for row role d steps ≡ ordinary_sights_for row role e others)
    × (ordinary_state (board role (end row d steps)) ≡ ordinary_state (board role (end row e others)))

-- and the second, "'equal capture' meaning its own"
abbrev pub SecondHalfOf : {Step : Type 0} → Row Step → (Pair → List Step → Type 0) → Type 0
SecondHalfOf {Step} row fit =
    (role : Role) (d e : Pair) (steps others : List Step) → fit d steps → fit e others
    → trusted_state (board role d) ≡ trusted_state (board role e)
    → events_that row (trusted_for role d) steps ≡ events_that row (trusted_for role e) others
    → captures_for row role d steps ≡ captures_for row role e others
    → (trusted_sights_for row role d steps ≡ trusted_sights_for row role e others)
    × (trusted_state (board role (end row d steps)) ≡ trusted_state (board role (end row e others)))

-- of runs, and of calls of the entries that meet their promises
abbrev pub well_paired : {Step : Type 0} → Pair → List Step → Type 0
well_paired pair steps = WellPaired pair

abbrev pub Isolation : Type 0
Isolation = IsolationOf runs well_paired

abbrev pub PairFirstHalf : Type 0
PairFirstHalf = FirstHalfOf runs well_paired

abbrev pub PairSecondHalf : Type 0
PairSecondHalf = SecondHalfOf runs well_paired

abbrev pub met : Pair → List PairCall → Type 0
met pair steps = WellPaired pair × AllMeet pair steps

abbrev pub IsolationOfCalls : Type 0
IsolationOfCalls = IsolationOf calls met

abbrev pub BothHalvesOfPairCalls : Type 0
BothHalvesOfPairCalls = FirstHalfOf calls met × SecondHalfOf calls met
