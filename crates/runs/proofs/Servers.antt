-- No server that does what document 01 wants refused meets the promise of `Board::serve`, whatever else it does, nor does one that falls into
-- a newcomer's trap: for each the board and the packets that show it. Assumes nothing.
use Prim.Native.Nat.{ℕ}
use mathlib.Core.Bool.{Bool, true, false, not, ◌&&◌, cond}
use mathlib.Core.List.{List, [], ◌∷◌}
use mathlib.Core.Path.{◌≡◌, refl, sym, ap, ◌∙◌}
use native.Mathlib.Omega.{arith}
use lib.Dec.{eqb}
use lib.ListN.{drop, get_or}
use borrow.Author.Tests.{eq-eqb}
use Rattle.words.specs.Bytes.{byte, four}
use Rattle.registers.specs.Shown.{shown}
use Rattle.packet.specs.declared.Id.{Id}
use Rattle.packet.specs.declared.Request.{Request}
use Rattle.packet.specs.declared.Status.TheVariants.{Unsupported}
use Rattle.packet.specs.Request.{request_of}
use Rattle.packet.specs.Completion.{with_data, without_data}
use Rattle.capture.specs.declared.Capture.{Capture}
use Rattle.capture.specs.declared.Capture.TheVariants.{Nothing, Number}
use Rattle.board.specs.Description.{Board, WellDescribed}
use Rattle.board.specs.Access.{is_type0}
use Rattle.board.specs.Serving.{completer_of}
use Rattle.board.specs.Promise.{Seen, over}
use Rattle.board.proofs.Computing.{computing}
use Rattle.runs.specs.Bench.{bench, bench_after, zeros, holding, p1, p2, read_at, changed}
use Rattle.runs.specs.Servers.{Server, promised, untouched, RightAt, completion, AnswersUR, Always, LeavesOrdinary, LeavesTrusted, Remembering, StoresOnce, board_after, seen_over, promised_over, CapturesTrusted, CapturesPoisoned, DropsRegisterBits, ShowsStale}

-- P3's board: P2 is captured, and the trusted bytes at 004h are 08 00 00 00
abbrev pub third : Board
third = bench_after zeros (holding 0x004 (0x08 ∷ 0x00 ∷ 0x00 ∷ 0x00 ∷ []))

-- a trusted write at 004h, by P2's bytes
abbrev pub trusted_write : List ℕ
trusted_write = changed p2 0 0x5b

-- stale bytes at A, and others at B
abbrev pub stale : Board
stale = bench_after (holding 0x104 (0xaa ∷ [])) (holding 0x00c (0xbb ∷ []))

-- 55h at 008h of the ordinary space
abbrev pub low : Board
low = bench_after (holding 0x008 (0x55 ∷ [])) zeros

-- the statements, of any server. UR to everything (P3); one fixed completion (P1 against P2); stores nothing (the byte after a write)
pub record WrongServersCaught : Type 1 where
  pub boards : WellDescribed (bench zeros) × WellDescribed third
  pub unsupported : (server : Server) → AnswersUR server → RightAt server third p1 → ⊥
  pub fixed : (server : Server) (bytes : List ℕ) → Always bytes server → RightAt server (bench zeros) p1 → RightAt server (bench zeros) p2 → ⊥
  pub ordinary : (server : Server) → LeavesOrdinary server → RightAt server (bench zeros) p2 → ⊥
  pub trusted : (server : Server) → LeavesTrusted server → RightAt server third trusted_write → ⊥
  -- serves the first packet and afterwards only replies (over a sequence: a write that captures, and a second write)
  pub once : (m : Remembering) → StoresOnce m
      → seen_over m m.start (bench zeros) (changed p2 11 0x08 ∷ p2 ∷ []) ≡ promised_over (bench zeros) (changed p2 11 0x08 ∷ p2 ∷ []) → ⊥

-- the traps: a capture from a trusted write, from a poisoned one, dropped register bits, stale bytes at A
pub record TrapsCaught : Type 0 where
  pub boards : WellDescribed low × WellDescribed stale
  pub trusted : (server : Server) → CapturesTrusted server → RightAt server (bench zeros) trusted_write → ⊥
  pub poisoned : (server : Server) → CapturesPoisoned server → RightAt server (bench zeros) (changed p2 2 0x40) → ⊥
  pub register_bits : (server : Server) → DropsRegisterBits server → RightAt server low (read_at 0x01 0x08) → RightAt server low (read_at 0x00 0x08) → ⊥
  pub stale : (server : Server) → ShowsStale server → RightAt server stale (read_at 0x01 0x04) → ⊥

-- ---- what tells two sights apart

status : Seen → ℕ
status x = byte (completion x) 6

tag : List ℕ → ℕ
tag bytes = byte bytes 10

nothing : Seen
nothing = record { number = 0; count = 0; capture = Nothing; ordinary = []; trusted = []; reply = [] }

-- a byte of the ordinary space at the n-th sight
stored_at : ℕ → List Seen → ℕ
stored_at n xs = byte (get_or xs n nothing).ordinary 0x004

abbrev bus : Capture → ℕ
bus Nothing = 0
bus (Number b device) = b

pub wrong_servers_caught : WrongServersCaught
unfolding computing status tag stored_at nothing
wrong_servers_caught =
    record {
      boards = (refl, refl);
      unsupported = λ server ur right.
          omega (arith, sym (ur third p1 untouched (ap (λ (x : Seen). x.number) right)) ∙ ap status right);
      fixed = λ server bytes always one two.
          let a = always (bench zeros) p1 untouched (ap (λ (x : Seen). x.number) one) in
          let b = always (bench zeros) p2 untouched (ap (λ (x : Seen). x.number) two) in
          omega (arith, sym (ap (λ (x : Seen). tag (completion x)) one) ∙ ap tag (a ∙ sym b) ∙ ap (λ (x : Seen). tag (completion x)) two);
      ordinary = λ server keeps right. omega (arith, ap (λ (l : List ℕ). byte l 0x004) (sym (keeps (bench zeros) p2 untouched) ∙ ap (λ (x : Seen). x.ordinary) right));
      trusted = λ server keeps right. omega (arith, ap (λ (l : List ℕ). byte l 0x004) (sym (keeps third trusted_write untouched) ∙ ap (λ (x : Seen). x.trusted) right));
      once = λ m keeps right.
          let one = ap (stored_at 0) right in
          let two = ap (stored_at 1) right in
          let x = m.answers m.start (bench zeros) (changed p2 11 0x08) untouched in
          let served = ap (λ (xs : List Seen). (get_or xs 0 nothing).number) right in
          let k = ap (λ (l : List ℕ). byte l 0x004) (keeps (bench zeros) (changed p2 11 0x08) untouched served (board_after (bench zeros) x) p2 untouched) in
          omega (arith, sym two ∙ k ∙ one);
    }

data12 : Seen → ℕ
data12 x = byte (drop 12 (completion x)) 0

pub traps_caught : TrapsCaught
unfolding computing data12
traps_caught =
    record {
      boards = (refl, refl);
      trusted = λ server captures right.
          let k = captures (bench zeros) trusted_write untouched (record { writes = refl; own = refl; for = refl; poison = refl }) refl (ap (λ (x : Seen). x.number) right) in
          omega (arith, ap bus (sym k ∙ ap (λ (x : Seen). x.capture) right));
      poisoned = λ server captures right.
          let k = captures (bench zeros) (changed p2 2 0x40) untouched (record { writes = refl; own = refl; for = refl; poison = refl }) (ap (λ (x : Seen). x.number) right) in
          omega (arith, ap bus (sym k ∙ ap (λ (x : Seen). x.capture) right));
      register_bits = λ server drops one two.
          omega (arith, ap data12 (sym one ∙ drops low (read_at 0x01 0x08) untouched (omega arith) ∙ two));
      stale = λ server shows right.
          let k = shows stale (read_at 0x01 0x04) untouched (record { reads = refl; own = refl; ordinary = refl; at_a = refl }) (ap (λ (x : Seen). x.number) right) in
          omega (arith, ap (λ (l : List ℕ). byte l 0) (sym k) ∙ ap data12 right);
    }

-- ---- there are such servers, so that the statements above say something

abbrev nobody : Id
nobody = record { high = 0; low = 0 }

-- the same UR to everything, and nothing else
useless : Server
useless d p reply =
    record {
      number = 0;
      count = 12;
      capture = d.capture;
      ordinary = d.ordinary.bytes;
      trusted = d.trusted.bytes;
      reply = over (without_data nobody Unsupported nobody 0) reply;
    }

-- right about the first packet that it serves, and afterwards it only replies
abbrev once_then : Bool → Server
once_then false d p reply = promised d p reply
once_then true d p reply =
    let x = promised d p reply in
    record { number = x.number; count = x.count; capture = x.capture; ordinary = d.ordinary.bytes; trusted = d.trusted.bytes; reply = x.reply }

once : Remembering
once = record { Memory = Bool; start = false; answers = once_then; remembers = λ m d p reply. true }

-- right in all but the capture: it captures from every write for its own function
abbrev greedy : Server
greedy d p reply =
    let x = promised d p reply in
    let own = (request_of p).writes && eqb (request_of p).function d.description.function in
    record {
      number = x.number;
      count = x.count;
      capture = cond own (Number (request_of p).bus (request_of p).device) x.capture;
      ordinary = x.ordinary;
      trusted = x.trusted;
      reply = x.reply;
    }

-- right in all but a read at A for its own function: there it shows the ordinary bytes
abbrev is_read_at_a : Board → Request → Bool
is_read_at_a d q = is_type0 q.target && not q.writes && eqb q.function d.description.function && eqb q.offset d.description.a

abbrev candid : Server
candid d p reply =
    let x = promised d p reply in
    let q = request_of p in
    let at = is_read_at_a d q && eqb x.number 0 in
    let word = shown (four d.ordinary.bytes d.description.a) in
    record {
      number = x.number;
      count = cond at 16 x.count;
      capture = x.capture;
      ordinary = x.ordinary;
      trusted = x.trusted;
      reply = cond at (over (with_data (completer_of d) q.requester q.tag word) reply) x.reply;
    }

-- the statement: there is one with each fault of document 01, one that stores once, and one for each trap
pub record SuchServersExist : Type 1 where
  pub wrong : (server : Server) × (bytes : List ℕ) × AnswersUR server × Always bytes server × LeavesOrdinary server × LeavesTrusted server × DropsRegisterBits server
  pub stores_once : (m : Remembering) × StoresOnce m × ((d : Board) (p : List ℕ) → RightAt (m.answers m.start) d p)
  pub captures : (server : Server) × CapturesTrusted server × CapturesPoisoned server
  pub shows_stale : (server : Server) × ShowsStale server

candid_shows : ShowsStale candid
unfolding shown with_data
candid_shows d p reply at n =
    rw (at.ordinary, at.reads, eq-eqb (request_of p).function d.description.function at.own, eq-eqb (request_of p).offset d.description.a at.at_a, n)

pub such_servers_exist : SuchServersExist
unfolding without_data useless once
such_servers_exist =
    record {
      wrong = (useless, without_data nobody Unsupported nobody 0, (λ d p reply n. refl), (λ d p reply n. refl), (λ d p reply. refl), (λ d p reply. refl), (λ d p reply h. refl));
      stores_once = (once, (λ d p reply n e q other. refl), (λ d p. refl));
      captures = (
        greedy,
        (λ d p reply own k n. rw (own.writes, eq-eqb (request_of p).function d.description.function own.own)),
        (λ d p reply own n. rw (own.writes, eq-eqb (request_of p).function d.description.function own.own)),
      );
      shows_stale = (candid, candid_shows);
    }
