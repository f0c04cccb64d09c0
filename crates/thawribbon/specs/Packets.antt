-- What the exported functions for packets promise: `Board::serve`'s promise, with a host's numbers in the place of enums. Assumes nothing.
use Rattle.std.specs.Prelude.{ℕ, cond, List, ◌≡◌, eqb, length}
use Rattle.capture.specs.declared.Capture.{Capture}
use Rattle.capture.specs.declared.Capture.TheVariants.{Nothing, Number}
use Rattle.board.specs.declared.Description.{Description}
use Rattle.board.specs.Description.{Space, Board}
use Rattle.board.specs.Serving.{serve}
use Rattle.board.specs.Promise.{Seen, shows}
use Rattle.thawribbon.specs.declared.HostDescription.{HostDescription}
use Rattle.thawribbon.specs.declared.HostCapture.{HostCapture}
use Rattle.thawribbon.specs.declared.HostServed.{HostServed}

-- the description that a host gives
abbrev pub described : HostDescription → Description
described description =
    record { function = description.function; a = description.a; b = description.b; edition = description.edition }

-- the capture that a host has kept: nothing where `captured` is 0, and the bus and device number with any other value
abbrev pub kept_by : HostCapture → Capture
kept_by kept = cond (eqb kept.captured 0) Nothing (Number kept.bus kept.device)

-- a capture, as a host is told it
abbrev pub told_capture : Capture → HostCapture
told_capture Nothing = record { captured = 0; bus = 0; device = 0 }
told_capture (Number bus device) = record { captured = 1; bus = bus; device = device }

-- "Every number but 0 leaves [the] capture […] unchanged": what the host gave is handed back as it is
abbrev pub handed_back : ℕ → HostCapture → Capture → HostCapture
handed_back number kept after = cond (eqb number 0) (told_capture after) kept

-- what a host sees after a call: the result, and the three lent buffers that can be written
pub record HostSeen : Type 0 where
  pub number : ℕ
  pub count : ℕ
  pub capture : HostCapture
  pub ordinary : List ℕ
  pub trusted : List ℕ
  pub reply : List ℕ

abbrev pub host_seen : HostServed → List ℕ → List ℕ → List ℕ → HostSeen
host_seen r ordinary trusted reply =
    record { number = r.number; count = r.length; capture = r.capture; ordinary = ordinary; trusted = trusted; reply = reply }

-- what it should see, by what a caller of `Board::serve` should
abbrev pub host_shows : HostCapture → Seen → HostSeen
host_shows kept shown =
    record {
      number = shown.number;
      count = shown.count;
      capture = handed_back shown.number kept shown.capture;
      ordinary = shown.ordinary;
      trusted = shown.trusted;
      reply = shown.reply;
    }

-- the board that a host lends: its description and capture, and the ordinary and the trusted space with their rules and marks
abbrev pub host_board : HostDescription → HostCapture → Space → Space → Board
host_board description kept ordinary trusted =
    record { description = described description; capture = kept_by kept; ordinary = ordinary; trusted = trusted }

-- the promise of `thawribbon_serve`: what it is lent (description, capture, the six buffers of the board, packet, reply), the result, and
-- the three buffers at its end
abbrev pub HostServes : HostDescription → HostCapture → Space → Space → List ℕ → List ℕ → HostServed → List ℕ → List ℕ → List ℕ → Type 0
HostServes description kept ordinary trusted p reply r ordinary_after trusted_after reply_after =
    host_seen r ordinary_after trusted_after reply_after
    ≡ host_shows kept (shows (serve (host_board description kept ordinary trusted) p (length reply)) reply)
