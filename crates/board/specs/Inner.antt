-- What the inner functions of this crate ask of each other; no entry's promise rests on it. Assumes nothing.
use Rattle.std.specs.Prelude.{ℕ, ◌+◌, ◌≤◌, List, ◌≡◌, length}
use Rattle.packet.specs.declared.Request.{Request}
use Rattle.capture.specs.Kept.{captured}
use Rattle.board.specs.declared.Description.{Description}
use Rattle.board.specs.Description.{Space, with_bytes, Board}
use Rattle.board.specs.Serving.{Outcome}
use Rattle.board.specs.Promise.{over}

-- a space, its rules and its marks, with room for the request's four bytes
pub record Sized (s : Space) (q : Request) : Type 0 where
  pub whole_bytes : length s.bytes ≡ 4096
  pub whole_rules : length s.rules ≡ 4096
  pub whole_marks : length s.marks ≡ 4096
  pub inside : q.offset + 4 ≤ 4096

pub record Readable (description : Description) (ordinary trusted : List ℕ) (q : Request) : Type 0 where
  pub whole_ordinary : length ordinary ≡ 4096
  pub whole_trusted : length trusted ≡ 4096
  pub inside : q.offset + 4 ≤ 4096
  pub register : description.b + 4 ≤ 4096

-- what the checks 1 and 2 leave: whole spaces, offsets inside, and a reply with room
pub record Ready (d : Board) (q : Request) (reply : List ℕ) : Type 0 where
  pub sized_ordinary : Sized d.ordinary q
  pub sized_trusted : Sized d.trusted q
  pub register : d.description.b + 4 ≤ 4096
  pub room : 16 ≤ length reply

-- the board as a trusted write leaves it: other trusted bytes; and as an ordinary one does: other ordinary bytes, and the request's capture
abbrev pub with_trusted : Board → List ℕ → Board
with_trusted d bytes = record d { trusted = with_bytes d.trusted bytes }

abbrev pub with_captured : Board → Request → List ℕ → Board
with_captured d q bytes = record d { capture = captured d.capture q.bus q.device; ordinary = with_bytes d.ordinary bytes }

-- what is left of a request that is served, as its outcome says: the board, the count of reply bytes written, and the reply
pub record Leaves (o : Outcome) (lent : List ℕ) (d : Board) (n : ℕ) (reply : List ℕ) : Type 0 where
  pub board : d ≡ o.after
  pub count : n ≡ length o.written
  pub written : reply ≡ over o.written lent
