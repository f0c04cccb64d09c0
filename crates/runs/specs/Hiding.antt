-- Document 02, 7/13, "Whole words on reads": faults of a server that looks at the enables of a read, for any server at all, and in each of the three
-- places that a read can be for. Assumes nothing.
use Rattle.std.specs.Prelude.{ℕ, ◌+◌, ◌≤◌, ◌<◌, Bool, true, false, not, cond, List, [], ◌∷◌, ◌≡◌, eqb, length, drop}
use Rattle.words.specs.Bytes.{byte, put}
use Rattle.registers.specs.Merge.{enabled}
use Rattle.packet.specs.declared.Request.{Request}
use Rattle.packet.specs.Request.{is_trusted, number_under, request_of}
use Rattle.board.specs.declared.Description.{Description}
use Rattle.board.specs.Description.{Board, WellDescribed}
use Rattle.board.specs.Access.{unsupported}
use Rattle.board.specs.Promise.{Seen, after_call}
use Rattle.runs.specs.Servers.{Server, completion}
use Rattle.runs.specs.Clearing.{space_for}

-- the trusted space, the word at A, the rest of the ordinary space
pub data Place : Type 0 where
  in_trusted : Place
  at_a : Place
  elsewhere : Place

-- a request is for that place
abbrev pub IsAt : Place → Description → Request → Type 0
IsAt in_trusted description q = is_trusted q.target ≡ true
IsAt at_a description q = (is_trusted q.target ≡ false) × (q.offset ≡ description.a)
IsAt elsewhere description q = (is_trusted q.target ≡ false) × (q.offset ≡ description.a → ⊥)

-- a read there that succeeds
pub record Reads (place : Place) (d : Board) (p reply : List ℕ) : Type 0 where
  pub well : WellDescribed d
  pub room : 16 ≤ length reply
  pub sound : number_under d.description.edition p ≡ 0
  pub reads : (request_of p).writes ≡ false
  pub there : IsAt place d.description (request_of p)
  pub supported : unsupported d.description d.capture (request_of p) ≡ false

-- where the word lies that it reads: in the trusted space or in the ordinary one, and at which offset; at A that is the trusted word at B
abbrev pub reads_trusted : Place → Bool
reads_trusted in_trusted = true
reads_trusted at_a = true
reads_trusted elsewhere = false

abbrev pub offset_for : Place → Description → Request → ℕ
offset_for in_trusted description q = q.offset
offset_for at_a description q = description.b
offset_for elsewhere description q = q.offset

abbrev pub bytes_for : Place → Board → List ℕ
bytes_for place d = (space_for (reads_trusted place) d).bytes

-- the board with other bytes in the trusted space, or in the ordinary one
abbrev pub rewritten : Bool → Board → List ℕ → Board
rewritten trusted d bytes =
    after_call d d.capture (cond trusted d.ordinary.bytes bytes) (cond trusted bytes d.trusted.bytes)

-- the board with another value in byte k of that word
abbrev pub altered : Place → Board → Request → ℕ → ℕ → Board
altered place d q k x = rewritten (reads_trusted place) d (put (bytes_for place d) (offset_for place d.description q + k) (x ∷ []))

-- the data that a server returns
abbrev pub returned : Seen → List ℕ
returned x = drop 12 (completion x)

-- it hides byte k of the word at a read: what it returns there is the same where the byte has the value x
abbrev pub HidesAt : Place → Server → Board → List ℕ → List ℕ → ℕ → ℕ → Type 0
HidesAt place server d p reply k x =
    byte (returned (server d p reply)) k ≡ byte (returned (server (altered place d (request_of p) k x) p reply)) k

-- it hides certain bytes, by the packet and the byte's place. It may return 00h for them, as document 01 had it, or FFh, what the lent reply held, another
-- byte of the word, or at A what is stored there
abbrev pub Hides : (List ℕ → ℕ → Bool) → Place → Server → Type 0
Hides which place server =
    (d : Board) (p reply : List ℕ) → Reads place d p reply → (k x : ℕ) → k < 4 → which p k ≡ true → HidesAt place server d p reply k x

-- which ones: by document 01 the "others" than the enabled bytes; all four where none is enabled
abbrev pub not_enabled : List ℕ → ℕ → Bool
not_enabled p k = not (enabled k (request_of p).enables)

abbrev pub none_enabled : List ℕ → ℕ → Bool
none_enabled p k = eqb (request_of p).enables 0

-- where no byte is enabled it returns no data, as success or as UR
abbrev pub ReturnsNothing : Place → Server → Type 0
ReturnsNothing place server =
    (d : Board) (p reply : List ℕ) → Reads place d p reply → (request_of p).enables ≡ 0 → (server d p reply).count ≡ 12
