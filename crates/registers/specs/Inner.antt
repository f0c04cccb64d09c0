-- What the private functions of this crate tell each other; no entry's promise rests on it. Assumes nothing.
use Rattle.std.specs.Prelude.{ℕ, Bool, cond, List, [], ◌∷◌, ◌≡◌}
use Rattle.registers.specs.Merge.{enabled, merged_byte}

-- an enable as a mask of its byte: all bits or none
abbrev pub mask_of : Bool → ℕ
mask_of enable = cond enable 255 0

-- the masks of the four bytes
unfoldable pub enabled_bytes : ℕ → List ℕ
enabled_bytes enables =
    let at : ℕ → ℕ = λ k. mask_of (enabled k enables) in
    at 0 ∷ at 1 ∷ at 2 ∷ at 3 ∷ []

-- a byte after a write, under the mask of any enable: the mask, the old byte, the rule byte, the marks, the data byte, and what it becomes
abbrev pub UnderMask : ℕ → ℕ → ℕ → ℕ → ℕ → ℕ → Type 0
UnderMask mask old rule mark new r = (enable : Bool) → mask ≡ mask_of enable → r ≡ cond enable (merged_byte old rule mark new) old
