-- Document 01, "DVSEC (003)": the number, the fields and the register body of the record asked for at an offset. Assumes nothing.
use Rattle.std.specs.Prelude.{ℕ, ◌+◌, ◌-◌, Bool, cond, List, [], ◌∷◌, ◌≡◌, eqb, leb, take, drop, Result, Ok, Err}
use Rattle.answers.specs.Checks.{Check, first_that_applies}
use Rattle.answers.specs.declared.Refusal.{Refusal}
use Rattle.answers.specs.Numbers.{number_of}
use Rattle.words.specs.Fields.{bits, word}
use Rattle.records.specs.declared.DvsecHeader.{DvsecHeader}
use Rattle.words.specs.Places.{placed}
use Rattle.records.specs.Required.{all, required, told_for, sized}

-- "ID 0023h and version 1h", of the header there: "ID 15:0, version 19:16"
unfoldable pub is_dvsec : ℕ → Bool
is_dvsec w = all (eqb (bits 15 0 w) 0x0023 ∷ eqb (bits 19 16 w) 0x1 ∷ [])

-- "At least 0Ah bytes left, DVSEC Length at least 0Ah and ending by 1000h"
unfoldable pub extends : ℕ → ℕ → Bool
extends at length = all (leb (at + 0x0a) 0x1000 ∷ leb 0x0a length ∷ leb (at + length) 0x1000 ∷ [])

-- "Header 1 at +4: vendor 15:0, revision 19:16, length 31:20. ID at +8, 16 bits."
abbrev pub header_of : ℕ → ℕ → DvsecHeader
header_of first second =
    record { vendor = bits 15 0 first; revision = bits 19 16 first; id = bits 15 0 second; length = bits 31 20 first }

abbrev pub header_at : List ℕ → ℕ → DvsecHeader
header_at s at = header_of (word s (at + 4)) (word s (at + 8))

-- what is required, in the order that document 01 states, and the number
abbrev pub dvsec_checks : List ℕ → ℕ → List Check
dvsec_checks s at =
    required (sized s) 1
    ∷ required (placed at 0x100 0xffc) 1
    ∷ required (is_dvsec (word s at)) 8
    ∷ required (extends at (header_at s at).length) 9
    ∷ []

unfoldable pub dvsec_number : List ℕ → ℕ → ℕ
dvsec_number s at = first_that_applies (dvsec_checks s at)

-- "One question answers vendor, revision, ID and length": the number and these four
pub record DvsecTold : Type 0 where
  pub number : ℕ
  pub vendor : ℕ
  pub revision : ℕ
  pub id : ℕ
  pub length : ℕ

-- what an answer tells
abbrev pub tells_dvsec : Result DvsecHeader Refusal → DvsecTold
tells_dvsec (Ok h) = record { number = 0; vendor = h.vendor; revision = h.revision; id = h.id; length = h.length }
tells_dvsec (Err refusal) = record { number = number_of refusal; vendor = 0; revision = 0; id = 0; length = 0 }

-- what document 01 says of the record asked for
unfoldable pub dvsec_says : List ℕ → ℕ → DvsecTold
dvsec_says s at = record {
  number = dvsec_number s at;
  vendor = told_for (dvsec_number s at) (header_at s at).vendor;
  revision = told_for (dvsec_number s at) (header_at s at).revision;
  id = told_for (dvsec_number s at) (header_at s at).id;
  length = told_for (dvsec_number s at) (header_at s at).length;
}

-- "A second, refused in the same cases by an empty answer …, answers the register body itself, as it lies in the lent space from +0Ah to
-- the length."
unfoldable pub dvsec_body : List ℕ → ℕ → List ℕ
dvsec_body s at =
    cond (eqb (dvsec_number s at) 0) (take ((at + (header_at s at).length) - (at + 0x0a)) (drop (at + 0x0a) s)) []

-- where the body begins in the lent space, the space's own beginning where it is refused
unfoldable pub body_from : List ℕ → ℕ → ℕ
body_from s at = cond (eqb (dvsec_number s at) 0) (at + 0x0a) 0

-- "the register body itself, as it lies in the lent space": its bytes, and its place in memory, a block and an offset, by the space's
pub record BodyLies (place : ℕ × ℕ) (s : List ℕ) (at : ℕ) (found : ℕ × ℕ) (bytes : List ℕ) : Type 0 where
  pub same : bytes ≡ dvsec_body s at
  pub block : found.0 ≡ place.0
  pub offset : found.1 ≡ body_from s at + place.1
