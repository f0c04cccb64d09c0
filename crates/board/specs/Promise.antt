-- What the entries of this crate promise: all that a caller sees afterwards. Assumes nothing.
use Rattle.std.specs.Prelude.{ℕ, List, ◌++◌, ◌≡◌, Result, Ok, Err, length, drop}
use Rattle.answers.specs.declared.Refusal.{Refusal}
use Rattle.answers.specs.Numbers.{answered}
use Rattle.capture.specs.declared.Capture.{Capture}
use Rattle.board.specs.declared.Board.{Board as Lent}
use Rattle.board.specs.declared.Look.{Look}
use Rattle.board.specs.Description.{Space, with_bytes, Board}
use Rattle.board.specs.Serving.{Outcome, serve}

-- what a call tells: the count of reply bytes written, or why it is refused; and the capture to keep for the next packet
pub record Served : Type 0 where
  pub answer : Result ℕ Refusal
  pub capture : Capture

-- the count of reply bytes written: none by a refusal
abbrev pub count_of : Result ℕ Refusal → ℕ
count_of (Ok count) = count
count_of (Err refusal) = 0

-- as answered: the number, the count of reply bytes written, the capture; and the three lent buffers that can be written
pub record Seen : Type 0 where
  pub number : ℕ
  pub count : ℕ
  pub capture : Capture
  pub ordinary : List ℕ
  pub trusted : List ℕ
  pub reply : List ℕ

-- a space that a caller lends: its bytes, its rules, its marks
abbrev pub space_of : List ℕ → List ℕ → List ℕ → Space
space_of bytes rules marks = record { bytes = bytes; rules = rules; marks = marks }

-- the board that a caller lends: its description and capture, and the six buffers as they are
abbrev pub lent : Lent → Board
lent b =
    record {
      description = b.description;
      capture = b.capture;
      ordinary = space_of b.ordinary.now b.ordinary_rules.now b.ordinary_marks.now;
      trusted = space_of b.trusted.now b.trusted_rules.now b.trusted_marks.now;
    }

-- the board that a caller lends only to be looked at
abbrev pub looked_at : Look → Board
looked_at b =
    record {
      description = b.description;
      capture = b.capture;
      ordinary = space_of b.ordinary.now b.ordinary_rules.now b.ordinary_marks.now;
      trusted = space_of b.trusted.now b.trusted_rules.now b.trusted_marks.now;
    }

-- the board that the caller holds after a call: the capture as it then is, and the ordinary and the trusted bytes as they then are
abbrev pub after_call : Board → Capture → List ℕ → List ℕ → Board
after_call d kept ordinary trusted =
    record {
      description = d.description;
      capture = kept;
      ordinary = with_bytes d.ordinary ordinary;
      trusted = with_bytes d.trusted trusted;
    }

-- what a call has shown: its result, and the ordinary space, the trusted space and the reply at its end
abbrev pub seen : Served → List ℕ → List ℕ → List ℕ → Seen
seen r ordinary trusted reply =
    record { number = answered r.answer; count = count_of r.answer; capture = r.capture; ordinary = ordinary; trusted = trusted; reply = reply }

-- "Reply bytes past the written ones stay as lent"
abbrev pub over : List ℕ → List ℕ → List ℕ
over written reply = written ++ drop (length written) reply

-- what it should show, from an outcome and the reply as lent
unfoldable pub shows : Outcome → List ℕ → Seen
shows o reply =
    record {
      number = o.number;
      count = length o.written;
      capture = o.after.capture;
      ordinary = o.after.ordinary.bytes;
      trusted = o.after.trusted.bytes;
      reply = over o.written reply;
    }

-- the promise of `Board::serve`: board and packet and reply as lent, what the call tells, and the three buffers at its end
abbrev pub Serves : Board → List ℕ → List ℕ → Served → List ℕ → List ℕ → List ℕ → Type 0
Serves d p reply r ordinary trusted after = seen r ordinary trusted after ≡ shows (serve d p (length reply)) reply
