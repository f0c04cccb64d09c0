-- Document 02, 7/13, "Whole words on reads": "every successful read returns all four bytes whatever the enables, also at A." It replaces document 01,
-- "The access": "A read returns enabled bytes as they are and others as 00h (house)." Assumes nothing.
use Rattle.std.specs.Prelude.{ℕ, List}

-- four bytes as a read returns them: all of them, as they are
unfoldable pub shown : List ℕ → List ℕ
shown bytes = bytes
