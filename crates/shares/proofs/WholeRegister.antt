-- Document 02, 7/13: "Demand 3 stands as it is, because its premise already speaks of the whole correlation register." It has to: where it leaves out any one
-- of the register's four bytes the first half is false, also of runs in which no packet enables a byte. Assumes nothing.
use Prim.Native.Nat.{ℕ, zero, suc, ◌+◌, ◌<◌}
use mathlib.Core.Bool.{Bool, true, not}
use mathlib.Core.List.{List, [], ◌∷◌, map}
use mathlib.Core.Option.{Option, none, some}
use mathlib.Core.Path.{◌≡◌, refl, ap}
use native.Mathlib.Omega.{arith}
use lib.Dec.{eqb}
use borrow.Author.Tests.{eqb-false}
use Rattle.words.specs.Bytes.{byte, put}
use Rattle.packet.specs.Request.{request_of}
use Rattle.board.specs.Description.{Board, WellDescribed}
use Rattle.board.proofs.Computing.{computing}
use Rattle.runs.specs.Run.{Event, packet, reset, after}
use Rattle.runs.specs.Bench.{zeros, holding, bench_rules, read_at, changed}
use Rattle.shares.specs.Kinds.{only}
use Rattle.shares.specs.Views.{Sight, ordinary_state, ordinary_events, ordinary_sights, correlations}
use Rattle.shares.proofs.Half.{Half}
use Rattle.shares.proofs.Needed.{nth}
use Rattle.shares.proofs.Examples.{sent, plain, usual}

-- a packet that enables a byte
abbrev pub enables_one : Event → Bool
enables_one (packet bytes size) = not (eqb (request_of bytes).enables 0)
enables_one reset = not true

-- the register's value but for byte k, where there is one
abbrev pub but_byte : ℕ → Option (List ℕ) → Option (List ℕ)
but_byte k none = none
but_byte k (some value) = some (put value k (0 ∷ []))

-- the statement: the first half of runs without an enabled byte, with three of the register's four bytes asked about
abbrev pub WithoutByte : ℕ → Type 0
WithoutByte k =
    Half (λ d es. WellDescribed d × (only enables_one es ≡ [])) ordinary_state ordinary_events (λ d es. map (but_byte k) (correlations d es)) ordinary_sights after

abbrev pub WholeRegisterNeeded : Type 0
WholeRegisterNeeded = (k : ℕ) → k < 4 → ¬ WithoutByte k

-- two boards that differ in byte k of the register alone, and one read at A that enables no byte
abbrev with : List ℕ → Board
with register = usual (plain zeros bench_rules) (plain (holding 0x00c register) bench_rules)

abbrev at_a : List Event
at_a = sent (changed (read_at 0x01 0x04) 7 0x00) ∷ []

told : ℕ → List Sight → ℕ
told k sights = byte (nth 0 sights).written (12 + k)

pub whole_register_needed : WholeRegisterNeeded
unfolding computing told
whole_register_needed zero h half =
    eqb-false _ _ refl (ap (told 0) (half (with (0x01 ∷ [])) (with (0xff ∷ [])) at_a at_a (refl, refl) (refl, refl) refl refl refl).0)
whole_register_needed (suc zero) h half =
    eqb-false _ _ refl (ap (told 1) (half (with (0x01 ∷ 0x02 ∷ [])) (with (0x01 ∷ 0xff ∷ [])) at_a at_a (refl, refl) (refl, refl) refl refl refl).0)
whole_register_needed (suc (suc zero)) h half =
    eqb-false _ _ refl
    (ap (told 2) (half (with (0x01 ∷ 0x02 ∷ 0x03 ∷ [])) (with (0x01 ∷ 0x02 ∷ 0xff ∷ [])) at_a at_a (refl, refl) (refl, refl) refl refl refl).0)
whole_register_needed (suc (suc (suc zero))) h half =
    eqb-false _ _ refl
    (ap (told 3) (half (with (0x01 ∷ 0x02 ∷ 0x03 ∷ 0x04 ∷ [])) (with (0x01 ∷ 0x02 ∷ 0x03 ∷ 0xff ∷ [])) at_a at_a (refl, refl) (refl, refl) refl refl refl).0)
whole_register_needed (suc (suc (suc (suc k)))) h half = omega arith
