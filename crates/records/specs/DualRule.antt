-- Document 01, "Dual-BDF (000)": the number and the fields of the record asked for at an offset. Assumes nothing.
use Rattle.std.specs.Prelude.{ℕ, ◌+◌, Bool, cond, ◌&&◌, ◌||◌, List, [], ◌∷◌, eqb, leb, length, get_or, Result, Ok, Err}
use Rattle.answers.specs.Checks.{Check, first_that_applies}
use Rattle.answers.specs.declared.Refusal.{Refusal}
use Rattle.answers.specs.Numbers.{number_of}
use Rattle.words.specs.Bytes.{byte}
use Rattle.words.specs.Fields.{bit, bits, word}
use Rattle.records.specs.declared.Alternate.{Alternate}
use Rattle.words.specs.Places.{placed}
use Rattle.records.specs.Required.{all, required, told_for, sized}

-- "offset + 12 at most 100h, capability length 0Ch, DVSEC Length 00Ch": one length
abbrev pub dual_length : ℕ
dual_length = 0x0c

unfoldable pub fits_dual : ℕ → ℕ → ℕ → Bool
fits_dual at capability w = all (leb (at + dual_length) 0x100 ∷ eqb capability dual_length ∷ eqb (bits 31 20 w) dual_length ∷ [])

-- "vendor 8086h with ID 0009h or vendor 1EC0h with ID 0002h"
unfoldable pub known_pair : ℕ → ℕ → Bool
known_pair vendor id = (eqb vendor 0x8086 && eqb id 0x0009) || (eqb vendor 0x1ec0 && eqb id 0x0002)

-- "revision 0, and …"
unfoldable pub is_dual : ℕ → ℕ → Bool
is_dual w v = all (eqb (bits 19 16 w) 0 ∷ known_pair (bits 15 0 w) (bits 15 0 v) ∷ [])

-- the places of a vector's bits that are set, of the eight
places : ℕ → List ℕ → List ℕ
places vector [] = []
places vector (k ∷ ks) = cond (eqb (bit k vector) 1) (k ∷ places vector ks) (places vector ks)

unfoldable pub set_places : ℕ → List ℕ
unfolding places
set_places vector = places vector (0 ∷ 1 ∷ 2 ∷ 3 ∷ 4 ∷ 5 ∷ 6 ∷ 7 ∷ [])

-- "exactly one bit of the eight is set"
unfoldable pub one_set : ℕ → Bool
one_set vector = eqb (length (set_places vector)) 1

-- "that bit's place"
unfoldable pub set_place : ℕ → ℕ
set_place vector = get_or (set_places vector) 0 0

-- "that bit's place as alternate function, and device 28:24"
abbrev pub alternate_of : ℕ → ℕ → Alternate
alternate_of third vector = record { function = set_place vector; device = bits 28 24 third }

-- "bits 23:16 of the third word"
abbrev pub vector_at : List ℕ → ℕ → ℕ
vector_at s at = bits 23 16 (word s (at + 8))

abbrev pub alternate_at : List ℕ → ℕ → Alternate
alternate_at s at = alternate_of (word s (at + 8)) (vector_at s at)

-- what is required, in the order that document 01 states, and the number
abbrev pub dual_checks : List ℕ → ℕ → List Check
dual_checks s at =
    required (sized s) 1
    ∷ required (placed at 0x040 0x0fc) 1
    ∷ required (eqb (byte s at) 0x09) 8
    ∷ required (fits_dual at (byte s (at + 2)) (word s (at + 4))) 9
    ∷ required (is_dual (word s (at + 4)) (word s (at + 8))) 8
    ∷ required (one_set (vector_at s at)) 10
    ∷ []

unfoldable pub dual_number : List ℕ → ℕ → ℕ
dual_number s at = first_that_applies (dual_checks s at)

-- the number, the alternate function and the device
pub record DualTold : Type 0 where
  pub number : ℕ
  pub function : ℕ
  pub device : ℕ

-- what an answer tells
abbrev pub tells_dual : Result Alternate Refusal → DualTold
tells_dual (Ok alternate) = record { number = 0; function = alternate.function; device = alternate.device }
tells_dual (Err refusal) = record { number = number_of refusal; function = 0; device = 0 }

-- what document 01 says of the record asked for
unfoldable pub dual_says : List ℕ → ℕ → DualTold
dual_says s at = record {
  number = dual_number s at;
  function = told_for (dual_number s at) (alternate_at s at).function;
  device = told_for (dual_number s at) (alternate_at s at).device;
}
