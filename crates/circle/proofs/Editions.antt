-- THEOREM. What the asking side writes is read alike in both editions of byte 0 (document 02, 5/13 and 9/13): a request that we wrote gets the same number and
-- reply from a board and from the same with the other edition, and leaves the same spaces and capture. Assumes nothing.
use Prim.Native.Nat.{ℕ}
use mathlib.Core.List.{List}
use mathlib.Core.Path.{◌≡◌, sym, subst}
use lib.ListN.{take}
use Rattle.std.specs.Prelude.{Result}
use Rattle.answers.specs.declared.Refusal.{Refusal}
use Rattle.board.specs.Description.{Board, with_edition}
use Rattle.board.specs.Serving.{serve}
use Rattle.board.proofs.Editions.{OneOrTwo, Bit7Clear, leaving, answered_alike}
use Rattle.asking.specs.declared.Parts.{Parts}
use Rattle.asking.specs.Writing.{told_written, Writes}
use Rattle.asking.proofs.Numbers.{served_packet}
use Rattle.circle.proofs.Asked.{first_clear}

-- the statements
abbrev pub WrittenIsClear : Type 0
WrittenIsClear =
    (a : Parts) (new buffer : List ℕ) (w : Result ℕ Refusal) (after : List ℕ) → Writes a new buffer w after → (told_written w after).number ≡ 0
    → Bit7Clear (take (told_written w after).count after)

abbrev pub AskedAlike : Type 0
AskedAlike =
    (a : Parts) (new buffer : List ℕ) (w : Result ℕ Refusal) (after : List ℕ) → Writes a new buffer w after → (told_written w after).number ≡ 0
    → (d : Board) (edition : ℕ) (size : ℕ) → OneOrTwo d.description.edition → OneOrTwo edition
    → let packet = take (told_written w after).count after in serve (with_edition d edition) packet size ≡ leaving edition (serve d packet size)

pub written_is_clear : WrittenIsClear
written_is_clear a new buffer w after e z =
    let s = served_packet a new buffer w after e z in
    subst Bit7Clear (sym s.3) (first_clear a new s.0)

pub asked_alike : AskedAlike
asked_alike a new buffer w after e z d edition size k j =
    answered_alike d edition (take (told_written w after).count after) size k j (written_is_clear a new buffer w after e z)
