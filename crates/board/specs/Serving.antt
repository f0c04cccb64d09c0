-- Demand 2 for packets: serving, as one function from the board, the packet and the reply's size to the number, the board afterwards
-- and the written reply bytes. Assumes nothing.
use Rattle.std.specs.Prelude.{ℕ, zero, suc, cond, List, [], ◌∷◌, ltb}
use Rattle.answers.specs.Checks.{Check, check, first_that_applies}
use Rattle.packet.specs.declared.Id.{Id}
use Rattle.packet.specs.declared.Request.{Request}
use Rattle.packet.specs.Fields.{data_of}
use Rattle.packet.specs.Request.{request_of, checks_under}
use Rattle.packet.specs.declared.Status.{Status}
use Rattle.packet.specs.declared.Status.TheVariants.{Success, Unsupported}
use Rattle.packet.specs.Completion.{with_data, without_data}
use Rattle.capture.specs.Kept.{completer}
use Rattle.board.specs.Description.{Board, badly_described}
use Rattle.board.specs.Access.{unsupported, after_write, read_word}

pub record Outcome : Type 0 where
  pub number : ℕ
  pub after : Board
  pub written : List ℕ

-- the board's completer ID
abbrev pub completer_of : Board → Id
completer_of d = completer d.capture d.description.function

-- "Otherwise 12 bytes": a board as it is afterwards, with a completion that has no data
abbrev pub replies : Board → Status → Request → Outcome
replies d status q = record { number = 0; after = d; written = without_data (completer_of d) status q.requester q.tag }

-- "Successful read, 16 bytes"
abbrev pub replies_data : Board → Request → Outcome
replies_data d q =
    record { number = 0; after = d; written = with_data (completer_of d) q.requester q.tag (read_word d q) }

-- a request without a fault, with its four data bytes: UR and nothing but the reply changes, or the write, or the read
unfoldable pub respond : Board → Request → List ℕ → Outcome
respond d q new =
    cond (unsupported d.description d.capture q)
    (replies d Unsupported q)
    (cond q.writes (replies (after_write d q new) Success q) (replies_data d q))

-- "1 [a badly described board]; 2 the reply is under 16 bytes", then the packet's own, under the board's edition (02, 9/13)
abbrev pub serve_checks : Board → List ℕ → ℕ → List Check
serve_checks d p size = check 1 (badly_described d) ∷ check 2 (ltb size 16) ∷ checks_under d.description.edition p

abbrev pub serve_number : Board → List ℕ → ℕ → ℕ
serve_number d p size = first_that_applies (serve_checks d p size)

-- "Every number but 0 leaves spaces, capture, reply and list room unchanged, and reports length or count 0"
abbrev pub refused : ℕ → Board → Outcome
refused n d = record { number = n; after = d; written = [] }

-- 0: served; any other number: refused
abbrev pub by_number : ℕ → Board → List ℕ → Outcome
by_number zero d p = respond d (request_of p) (data_of p)
by_number (suc n) d p = refused (suc n) d

-- the board, the packet, the reply's size
unfoldable pub serve : Board → List ℕ → ℕ → Outcome
serve d p size = by_number (serve_number d p size) d p
