-- What the private functions of this crate tell each other; no promise of a public entry cites this file. Assumes nothing.
use Rattle.std.specs.Prelude.{ℕ, ◌+◌, ◌%◌, ◌≤◌, ◌<◌, Bool, true, false, ◌&&◌, List, [], ◌∷◌, ◌≡◌, eqb, leb, length, get_or}
use Rattle.words.specs.Bytes.{put}
use Rattle.layout.specs.declared.Structure.{Structure}
use Rattle.layout.specs.Structures.{version, extent, structure_at}
use Rattle.layout.specs.Accepting.{offset_at}
use Rattle.layout.specs.Proposing.{rounded_up}
use Rattle.layout.specs.Laying.{four_of, header_word}

-- a structure of this length at an offset: a multiple of 4, where all before have ended, and it ends by 1000h
abbrev pub may_stand : ℕ → ℕ → ℕ → Bool
may_stand ended size at = eqb (at % 4) 0 && (leb ended at && leb (at + size) 0x1000)

-- one offset a structure, each where it may stand
unfoldable pub stand_from : ℕ → List Structure → List ℕ → Bool
stand_from ended [] [] = true
stand_from ended [] (at ∷ offsets) = false
stand_from ended (structure ∷ structures) [] = false
stand_from ended (structure ∷ structures) (at ∷ offsets) = may_stand ended (extent structure) at && stand_from (at + extent structure) structures offsets

-- and the first at 100h
unfoldable pub accepts : List Structure → List ℕ → Bool
accepts structures offsets = eqb (get_or offsets 0 0) 0x100 && stand_from 0x100 structures offsets

-- each ends by 1000h where it stands as low as it can
unfoldable pub fits_from : ℕ → List Structure → Bool
fits_from at [] = true
fits_from at (structure ∷ structures) = leb (at + extent structure) 0x1000 && fits_from (at + rounded_up (extent structure)) structures

-- where each stands then
unfoldable pub packed_from : ℕ → List Structure → List ℕ
packed_from at [] = []
packed_from at (structure ∷ structures) = at ∷ packed_from (at + rounded_up (extent structure)) structures

-- a space with the headers of these structures put into it, the last first
unfoldable pub laid : List Structure → List ℕ → List ℕ → List ℕ
laid [] offsets s = s
laid (structure ∷ structures) [] s = s
laid (structure ∷ structures) (at ∷ offsets) s = put (laid structures offsets s) at (four_of (header_word structure (offset_at offsets 0)))

-- headers that may be put: one offset a structure, each header inside the space, and a version that its field holds
pub record MayBeLaid (structures : List Structure) (offsets s : List ℕ) : Type 0 where
  pub whole : length s ≡ 4096
  pub each : length offsets ≡ length structures
  pub small : (k : ℕ) → k < length structures → version (structure_at structures k) ≤ 15
  pub inside : (k : ℕ) → k < length offsets → offset_at offsets k + 4 ≤ 4096
