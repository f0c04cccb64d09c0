-- Document 02, 8/13: "the records of up to 32 ports", and "a record the reading can't give". Assumes nothing.
use Rattle.std.specs.Prelude.{ℕ, ◌%◌, ◌<◌, ◌^◌, Bool, true, not, ◌&&◌, List, [], ◌∷◌, ◌≡◌, eqb, leb, length}
use Rattle.records.specs.Required.{all}
use Rattle.multicast.specs.declared.Record.{Record}
use Rattle.multicast.specs.Capability.{max_group, enable, index, base, numbers, clashes, capability_says}

-- each number is below a bound
abbrev pub AllBelow : ℕ → List ℕ → Type 0
AllBelow bound [] = Unit {0}
AllBelow bound (n ∷ numbers) = (n < bound) × AllBelow bound numbers

-- what the form of a list's records allows: seven numbers of 64 bits
pub record Row (fields : Record) : Type 0 where
  pub seven : length (numbers fields) ≡ 7
  pub wide : AllBelow (2 ^ 64) (numbers fields)

-- a record that the reading gives: for some space of bytes, and some offset
pub record Given (fields : Record) : Type 0 where
  pub space : List ℕ
  pub bytes : AllBelow 256 space
  pub at : ℕ
  pub says : capability_says space at ≡ record { number = 0; fields = fields }

-- the same as a test, of a row: proofs/Given shows that it is
unfoldable pub is_record : Record → Bool
is_record fields =
    all (leb (max_group fields) 63 ∷ leb (enable fields) 1 ∷ leb (index fields) 63 ∷ eqb (base fields % 2 ^ 12) 0 ∷ not (clashes fields) ∷ [])

abbrev pub are_records : List Record → Bool
are_records [] = true
are_records (port ∷ ports) = is_record port && are_records ports
