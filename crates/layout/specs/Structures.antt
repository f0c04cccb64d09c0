-- Document 02, 10/13: "given 1 to 960 structures with ID, version (0 to 15) and length (4 to 3,840 bytes)". Assumes nothing.
use Rattle.std.specs.Prelude.{ℕ, Bool, List, [], ◌∷◌, eqb, ltb, length, get_or}
use Rattle.std.specs.List.{list_any}
use Rattle.answers.specs.Checks.{any}
use Rattle.layout.specs.declared.Structure.{Structure}

-- a structure is three numbers, in the order in which the request names them; the extent is its length in bytes
abbrev pub identity : Structure → ℕ
identity structure = structure.id

abbrev pub version : Structure → ℕ
version structure = structure.version

abbrev pub extent : Structure → ℕ
extent structure = structure.length

-- structure k of those given; past the end none, whose numbers read as 0
abbrev pub no_structure : Structure
no_structure = record { id = 0; version = 0; length = 0 }

abbrev pub structure_at : List Structure → ℕ → Structure
structure_at structures k = get_or structures k no_structure

-- "Bad [..] versions or lengths: 1", and "ID 0000h is refused with 1"
unfoldable pub is_bad : Structure → Bool
is_bad structure =
    any (eqb (identity structure) 0 ∷ ltb 15 (version structure) ∷ ltb (extent structure) 4 ∷ ltb 3840 (extent structure) ∷ [])

abbrev pub one_bad : List Structure → Bool
one_bad structures = list_any is_bad structures

-- "Bad counts, versions or lengths: 1"
unfoldable pub are_bad : List Structure → Bool
are_bad structures = any (eqb (length structures) 0 ∷ ltb 960 (length structures) ∷ one_bad structures ∷ [])
