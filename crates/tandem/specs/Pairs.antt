-- What the exported functions for a board of two functions promise: `pair::serve`'s promise, with a host's numbers in the place of enums.
-- Assumes nothing.
use Rattle.std.specs.Prelude.{ℕ, cond, List, ◌≡◌, eqb, length}
use Rattle.capture.specs.declared.Capture.{Capture}
use Rattle.capture.specs.declared.Capture.TheVariants.{Nothing, Number}
use Rattle.board.specs.Description.{Space}
use Rattle.pair.specs.declared.Function.{Function}
use Rattle.pair.specs.declared.Captures.{Captures}
use Rattle.pair.specs.Pair.{Side, Pair}
use Rattle.pair.specs.Serving.{serve_pair}
use Rattle.pair.specs.Promise.{PairSeen, pair_shows}
use Rattle.tandem.specs.declared.HostCapture.{HostCapture}
use Rattle.tandem.specs.declared.HostFunction.{HostFunction}
use Rattle.tandem.specs.declared.HostCaptures.{HostCaptures}
use Rattle.tandem.specs.declared.HostPairServed.{HostPairServed}

-- the capture that a host has kept: nothing where `captured` is 0, and the bus and device number with any other value; and a capture as a host is told it
abbrev pub kept_by : HostCapture → Capture
kept_by kept = cond (eqb kept.captured 0) Nothing (Number kept.bus kept.device)

abbrev pub told_capture : Capture → HostCapture
told_capture Nothing = record { captured = 0; bus = 0; device = 0 }
told_capture (Number bus device) = record { captured = 1; bus = bus; device = device }

-- a function that a host gives
abbrev pub function_of : HostFunction → Function
function_of f = record { number = f.function; a = f.a; b = f.b }

-- the two captures that a host has kept, and two captures as a host is told them
abbrev pub kept_both : HostCaptures → Captures
kept_both kept = record { primary = kept_by kept.primary; alternate = kept_by kept.alternate }

abbrev pub told_both : Captures → HostCaptures
told_both kept = record { primary = told_capture kept.primary; alternate = told_capture kept.alternate }

-- "Every number but 0 leaves [the] capture […] unchanged": what the host gave is handed back as it is
abbrev pub handed_back_both : ℕ → HostCaptures → Captures → HostCaptures
handed_back_both number kept after = cond (eqb number 0) (told_both after) kept

-- what a host sees after a call: the result, and the five lent buffers that can be written
pub record HostPairSeen : Type 0 where
  pub number : ℕ
  pub count : ℕ
  pub kept : HostCaptures
  pub primary_ordinary : List ℕ
  pub primary_trusted : List ℕ
  pub alternate_ordinary : List ℕ
  pub alternate_trusted : List ℕ
  pub reply : List ℕ

abbrev pub host_pair_seen : HostPairServed → List ℕ → List ℕ → List ℕ → List ℕ → List ℕ → HostPairSeen
host_pair_seen r primary_ordinary primary_trusted alternate_ordinary alternate_trusted reply =
    record {
      number = r.number;
      count = r.length;
      kept = r.kept;
      primary_ordinary = primary_ordinary;
      primary_trusted = primary_trusted;
      alternate_ordinary = alternate_ordinary;
      alternate_trusted = alternate_trusted;
      reply = reply;
    }

-- what it should see, by what a caller of `pair::serve` should
abbrev pub host_pair_shows : HostCaptures → PairSeen → HostPairSeen
host_pair_shows kept shown =
    record {
      number = shown.number;
      count = shown.count;
      kept = handed_back_both shown.number kept shown.kept;
      primary_ordinary = shown.primary_ordinary;
      primary_trusted = shown.primary_trusted;
      alternate_ordinary = shown.alternate_ordinary;
      alternate_trusted = shown.alternate_trusted;
      reply = shown.reply;
    }

-- a function that a host lends: its numbers and capture, and its ordinary and trusted space with their rules and marks
abbrev pub host_side : HostFunction → HostCapture → Space → Space → Side
host_side f kept ordinary trusted = record { function = function_of f; capture = kept_by kept; ordinary = ordinary; trusted = trusted }

-- the pair that a host lends: the edition, the functions, the captures, and the ordinary and the trusted space of the primary and of the alternate
abbrev pub host_pair : ℕ → HostFunction → HostFunction → HostCaptures → Space → Space → Space → Space → Pair
host_pair edition primary alternate kept primary_ordinary primary_trusted alternate_ordinary alternate_trusted =
    record {
      edition = edition;
      primary = host_side primary kept.primary primary_ordinary primary_trusted;
      alternate = host_side alternate kept.alternate alternate_ordinary alternate_trusted;
    }

-- the promise of `thawribbon_serve_pair`: what it is lent (edition, functions, captures, the twelve buffers of the board, packet, reply), the
-- result, and the five buffers at its end
abbrev pub HostPairServes : ℕ → HostFunction → HostFunction → HostCaptures → Space → Space → Space → Space → List ℕ → List ℕ → HostPairServed
    → List ℕ → List ℕ → List ℕ → List ℕ → List ℕ → Type 0
HostPairServes edition primary alternate kept po pt ao at p reply r po_after pt_after ao_after at_after reply_after =
    host_pair_seen r po_after pt_after ao_after at_after reply_after
    ≡ host_pair_shows kept (pair_shows (serve_pair (host_pair edition primary alternate kept po pt ao at) p (length reply)) reply)
