-- "The replies of document 01" (02, 5/13): what `serve` gives from some well-described board and some packet. Assumes nothing.
use Rattle.std.specs.Prelude.{ℕ, ◌<◌, cond, List, ◌≡◌}
use Rattle.words.specs.Bytes.{byte, four}
use Rattle.packet.specs.Request.{request_of}
use Rattle.capture.specs.declared.Capture.{Capture}
use Rattle.capture.specs.declared.Capture.TheVariants.{Nothing, Number}
use Rattle.asking.specs.declared.Said.{Said}
use Rattle.asking.specs.declared.Said.TheVariants.{Shown, Done, Unsupported}
use Rattle.asking.specs.declared.Completion.{Completion}
use Rattle.circle.specs.Plain.{Octets}
use Rattle.board.specs.Description.{Space, Board, WellDescribed}
use Rattle.board.specs.Access.{unsupported, read_word}
use Rattle.board.specs.Serving.{completer_of, serve}

abbrev pub bus_octet : Capture → Type 0
bus_octet Nothing = Unit {0}
bus_octet (Number bus device) = bus < 256

-- a space of real bytes
abbrev pub Real : Space → Type 0
Real s = Octets s.bytes × Octets s.rules × Octets s.marks

-- a reply: the board and the packet that it comes from, of real bytes, and the size of the reply that was lent
pub record Reply (c : List ℕ) : Type 0 where
  pub board : Board
  pub packet : List ℕ
  pub size : ℕ
  pub well : WellDescribed board
  pub ordinary : Real board.ordinary
  pub trusted : Real board.trusted
  pub captured : bus_octet board.capture
  pub packet_bytes : Octets packet
  pub served : (serve board packet size).number ≡ 0
  pub written : (serve board packet size).written ≡ c

-- "no reply of document 01 with that first byte has [this byte] at its place": the first byte, the place, the byte
abbrev pub NoReplyHas : ℕ → ℕ → ℕ → Type 0
NoReplyHas first k x = (c : List ℕ) → Reply c → byte c 0 ≡ first → byte c k ≡ x → ⊥

-- four bytes, said to be shown
abbrev pub shown_four : List ℕ → Said
shown_four word = Shown (four word 0)

-- what a board means by its reply to a packet without a fault: "success with data, success without, UR", with the board's completer ID as it then is,
-- and the packet's requester ID and tag
abbrev pub meant : Board → List ℕ → ℕ → Completion
meant d p size =
    record {
      completer = completer_of (serve d p size).after;
      requester = (request_of p).requester;
      tag = (request_of p).tag;
      said =
          cond (unsupported d.description d.capture (request_of p))
          Unsupported
          (cond (request_of p).writes Done (shown_four (read_word d (request_of p))));
    }
