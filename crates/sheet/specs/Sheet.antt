-- Document 01, "Bench sheet": "The twelve marked P", with document 02, 3/13. For P1 to P11, what the written rules give and what the sheet says, as numbers: the
-- answer and what it tells; no bit of the sheet's board is cleared by writing 1 (02, 6/13). P12 is about every walk. Assumes nothing.
use Rattle.std.specs.Prelude.{ℕ, List, [], ◌∷◌, ◌≡◌, length, take}
use Rattle.registers.specs.Merge.{merged}
use Rattle.board.specs.Serving.{Outcome, serve}
use Rattle.runs.specs.Bench.{zeros, holding, bench, p1, p2, changed}
use Rattle.records.specs.DvsecRule.{dvsec_says, dvsec_body}
use Rattle.records.specs.DualRule.{dual_says}
use Rattle.lists.specs.declared.Kind.TheVariants.{Extended}
use Rattle.lists.specs.Walks.{Roomy, Walks, number_given, place_given, Walked}

-- the number and the written reply bytes; a reply of 16 bytes is lent
abbrev pub answer : Outcome → List ℕ
answer o = o.number ∷ o.written

-- "`09 00 0C 00 C0 1E C0 00 02 00 02 03` at 040h", with its vector
abbrev pub dual : ℕ → List ℕ
dual vector =
    holding 0x040 (0x09 ∷ 0x00 ∷ 0x0c ∷ 0x00 ∷ 0xc0 ∷ 0x1e ∷ 0xc0 ∷ 0x00 ∷ 0x02 ∷ 0x00 ∷ vector ∷ 0x03 ∷ [])

-- "`23 00 01 00 C0 1E 00 01 02 00` at 100h"
abbrev pub vendor : List ℕ
vendor = holding 0x100 (0x23 ∷ 0x00 ∷ 0x01 ∷ 0x00 ∷ 0xc0 ∷ 0x1e ∷ 0x00 ∷ 0x01 ∷ 0x02 ∷ 0x00 ∷ [])

-- "header `23 00 01 10` at 100h (it points to itself)"
abbrev pub circle : List ℕ
circle = holding 0x100 (0x23 ∷ 0x00 ∷ 0x01 ∷ 0x10 ∷ [])

-- P3: P2's packet has been served, the trusted bytes at 004h are 08 00 00 00, and P1's packet comes
abbrev pub third : Outcome
third = serve (serve (bench (holding 0x004 (0x08 ∷ 0x00 ∷ 0x00 ∷ 0x00 ∷ []))) p2 16).after p1 16

-- what the written rules give
abbrev pub rules : List (List ℕ)
rules =
    answer (serve (bench zeros) p1 16)
    ∷ answer (serve (bench zeros) p2 16)
    ∷ answer third
    ∷ answer (serve (bench zeros) [] 16)
    ∷ answer (serve (bench zeros) (take 15 p2) 16)
    ∷ answer (serve (bench zeros) (changed p1 0 0x00) 16)
    ∷ answer (serve (bench zeros) (changed p1 7 0x1f) 16)
    ∷ merged (0x0f ∷ 0x0f ∷ 0x0f ∷ 0x0f ∷ []) (0xf0 ∷ 0xf0 ∷ 0xf0 ∷ 0xf0 ∷ []) (0x00 ∷ 0x00 ∷ 0x00 ∷ 0x00 ∷ []) (0xa5 ∷ 0xa5 ∷ 0xa5 ∷ 0xa5 ∷ []) 0x5
    ∷ ((dual_says (dual 0x02) 0x040).number ∷ (dual_says (dual 0x02) 0x040).function ∷ (dual_says (dual 0x02) 0x040).device ∷ [])
    ∷ ((dual_says (dual 0x03) 0x040).number ∷ [])
    ∷ ((dvsec_says vendor 0x100).number ∷ (dvsec_says vendor 0x100).length ∷ length (dvsec_body vendor 0x100) ∷ [])
    ∷ []

-- what the sheet says
abbrev pub sheet : List (List ℕ)
sheet =
    {- P1 -}
    (0 ∷ 0x0a ∷ 0x00 ∷ 0x00 ∷ 0x00 ∷ 0x00 ∷ 0x00 ∷ 0x20 ∷ 0x04 ∷ 0x01 ∷ 0x00 ∷ 0x08 ∷ 0x00 ∷ [])
    ∷ {- P2 -} (0 ∷ 0x0a ∷ 0x00 ∷ 0x00 ∷ 0x00 ∷ 0x05 ∷ 0x18 ∷ 0x00 ∷ 0x04 ∷ 0x01 ∷ 0x00 ∷ 0x07 ∷ 0x00 ∷ [])
    ∷ {- P3 -}
    (0 ∷ 0x4a ∷ 0x00 ∷ 0x00 ∷ 0x01 ∷ 0x05 ∷ 0x18 ∷ 0x00 ∷ 0x04 ∷ 0x01 ∷ 0x00 ∷ 0x08 ∷ 0x00 ∷ 0x08 ∷ 0x00 ∷ 0x00 ∷ 0x00 ∷ [])
    ∷ {- P4 -} (3 ∷ [])
    ∷ {- P5 -} (5 ∷ [])
    ∷ {- P6 -} (4 ∷ [])
    ∷ {- P7 -} (6 ∷ [])
    ∷ {- P8, of the bytes that are enabled -} (0xaf ∷ 0x0f ∷ 0xaf ∷ 0x0f ∷ [])
    ∷ {- P9: function 1, device 3 -} (0 ∷ 1 ∷ 3 ∷ [])
    ∷ {- P10 -} (10 ∷ [])
    ∷ {- P11: length 10h, body 6 bytes -} (0 ∷ 0x10 ∷ 6 ∷ [])
    ∷ []

-- P12: with any room that is not under the maximum, a walk of that list that meets its promise is answered 12 and tells 100h. Document 02, 3/13,
-- in the place of document 01's 7: "as `extended 12 100 refused` for P12"
abbrev pub TwelfthHolds : Type 0
TwelfthHolds = (room : List ℕ) (r : Walked) (after : List ℕ) → Roomy Extended room → Walks Extended circle room r after
    → (number_given r ≡ 12) × (place_given r ≡ 0x100)
