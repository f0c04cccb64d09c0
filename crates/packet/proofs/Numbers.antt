-- THEOREM. `packet::decode_under` gives the lowest number of its checks that applies, and asks for something exactly if none applies; it gives no
-- other number than 3 to 6. So does `packet::decode`, which is it under edition 1. Assumes nothing.
use Prim.Native.Nat.{ℕ}
use mathlib.Core.List.{List, [], ◌∷◌, Memᴰ}
use mathlib.Core.Path.{◌≡◌, subst}
use native.Mathlib.Omega.{arith}
use Rattle.std.specs.Prelude.{Result, Ok, Err}
use Rattle.answers.specs.declared.Refusal.{Refusal}
use Rattle.answers.specs.Numbers.{answered}
use Rattle.answers.proofs.Checks.{Lowest, Rising, gives_lowest, gives_one_of}
use Rattle.packet.specs.declared.Request.{Request}
use Rattle.packet.specs.Request.{checks_under, number_under, DecodesUnder}
use Rattle.packet.proofs.Laws.{positive_under}

-- the statement
pub record DecodeNumber (edition : ℕ) (p : List ℕ) (r : Result Request Refusal) : Type 0 where
  pub lowest : Lowest (checks_under edition p) (answered r)
  pub only : Memᴰ (answered r) (0 ∷ 3 ∷ 4 ∷ 5 ∷ 6 ∷ [])

number_is : (edition : ℕ) (p : List ℕ) (r : Result Request Refusal) → DecodesUnder edition p r → number_under edition p ≡ answered r
number_is edition p (Ok request) e = e.0
number_is edition p (Err refusal) e = e

rising : (edition : ℕ) (p : List ℕ) → Rising (checks_under edition p)
rising edition p = omega arith

pub decode_number : (edition : ℕ) (p : List ℕ) (r : Result Request Refusal) → DecodesUnder edition p r → DecodeNumber edition p r
decode_number edition p r e =
    record {
      lowest = subst (Lowest (checks_under edition p)) (number_is edition p r e) (gives_lowest (checks_under edition p) (positive_under edition p) (rising edition p));
      only = subst (λ (n : ℕ). Memᴰ n (0 ∷ 3 ∷ 4 ∷ 5 ∷ 6 ∷ [])) (number_is edition p r e) (gives_one_of (checks_under edition p));
    }
