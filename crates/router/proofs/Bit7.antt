-- THEOREM. Document 02, 9/13, "The router keeps ignoring it": packets that differ in bit 7 of their first byte only get the same number and the same verdict,
-- leave by the same port, and what leaves differs in that bit only. Assumes nothing.
use Prim.Native.Nat.{ℕ, zero, suc, ◌+◌, ◌*◌, ◌%◌}
use mathlib.Core.Bool.{Bool, true, false, cond}
use mathlib.Core.List.{List, [], ◌∷◌}
use mathlib.Core.Path.{◌≡◌, refl, sym, ap, ◌∙◌}
use native.Mathlib.Omega.{arith}
use Rattle.std.specs.Prelude.{Some, None, Ok, Err}
use Rattle.words.specs.Bytes.{byte}
use Rattle.words.specs.Fields.{bit}
use Rattle.packet.specs.Fields.{type_code}
use Rattle.packet.proofs.Bit7Aside.{Bit7Aside}
use Rattle.ports.specs.declared.Port.{Port}
use Rattle.ports.specs.Choice.{Choice, choice}
use Rattle.router.specs.Routing.{Outcome, target_in, bus_of, type0_code, as_type0, turns, leaving_by, route_number, by_number, decide, route}

-- the statement: whatever the list, the packets and the buffer's size are
pub record SameVerdict (o u : Outcome) : Type 0 where
  pub numbers : o.number ≡ u.number
  pub leaves : o.leaves ≡ u.leaves
  pub ports : o.port ≡ u.port
  pub written : Bit7Aside o.written u.written

abbrev pub RouterIgnores : Type 0
RouterIgnores = (ports : List Port) (p q : List ℕ) (size : ℕ) → Bit7Aside p q → SameVerdict (route ports p size) (route ports q size)

nothing_aside : Bit7Aside [] []
nothing_aside = record { sizes = refl; codes = refl; bytes = λ k h. refl }

-- another type code, and bit 7 as it was
type0_aside : (p q : List ℕ) → Bit7Aside p q → Bit7Aside (as_type0 p) (as_type0 q)
type0_aside [] [] aside = aside
type0_aside [] (second ∷ others) aside = absurd (omega (arith, aside.sizes))
type0_aside (first ∷ rest) [] aside = absurd (omega (arith, aside.sizes))
type0_aside (first ∷ rest) (second ∷ others) aside = record { sizes = aside.sizes; codes = codes; bytes = bytes }
  where
    code_of : (b code : ℕ) → type_code (128 * b + code) ≡ code % 128
    code_of b code = omega arith

    codes : type_code (byte (as_type0 (first ∷ rest)) 0) ≡ type_code (byte (as_type0 (second ∷ others)) 0)
    codes =
        code_of (bit 7 first) (type0_code (type_code first))
        ∙ ap (λ (code : ℕ). type0_code code % 128) aside.codes
        ∙ sym (code_of (bit 7 second) (type0_code (type_code second)))

    bytes : (k : ℕ) → (k ≡ 0 → ⊥) → byte (as_type0 (first ∷ rest)) k ≡ byte (as_type0 (second ∷ others)) k
    bytes zero h = absurd (h refl)
    bytes (suc k) h = aside.bytes (suc k) h

module _ (p q : List ℕ) (aside : Bit7Aside p q) where
  number_same : (c : Choice) (size : ℕ) → route_number c p size ≡ route_number c q size
  number_same c size =
      rw (
        aside.sizes,
        aside.codes,
        aside.bytes 1 (λ e. omega (arith, e)),
        aside.bytes 2 (λ e. omega (arith, e)),
        aside.bytes 3 (λ e. omega (arith, e)),
        aside.bytes 7 (λ e. omega (arith, e)),
      )

  -- both turn into Type 0, or neither
  leaving_aside : (port : Port) → Bit7Aside (leaving_by port p) (leaving_by port q)
  unfolding leaving_by
  leaving_aside port =
      let same : turns (target_in p) (bus_of p) port ≡ turns (target_in q) (bus_of q) port = rw (aside.codes, aside.bytes 8 (λ e. omega (arith, e))) in
      rw same (by_turn (turns (target_in q) (bus_of q) port))
    where
      by_turn : (turn : Bool) → Bit7Aside (cond turn (as_type0 p) p) (cond turn (as_type0 q) q)
      by_turn true = type0_aside p q aside
      by_turn false = aside

  by_number_lem : (n : ℕ) (c : Choice) → SameVerdict (by_number n c p) (by_number n c q)
  by_number_lem zero (Err list) = record { numbers = refl; leaves = refl; ports = refl; written = nothing_aside }
  by_number_lem zero (Ok (Some exit)) = record { numbers = refl; leaves = refl; ports = refl; written = leaving_aside exit.port }
  by_number_lem zero (Ok None) = record { numbers = refl; leaves = refl; ports = refl; written = nothing_aside }
  by_number_lem (suc n) c = record { numbers = refl; leaves = refl; ports = refl; written = nothing_aside }

  decided : (c : Choice) (size : ℕ) → SameVerdict (decide c p size) (decide c q size)
  unfolding decide
  decided c size = rw (number_same c size) (by_number_lem (route_number c q size) c)

pub router_ignores : RouterIgnores
router_ignores ports p q size aside =
    rw (aside.bytes 8 (λ e. omega (arith, e))) (decided p q aside (choice ports (bus_of q)) size)
