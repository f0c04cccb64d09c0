-- THEOREM. No server with one of these faults meets the promise of `Board::serve`, whatever else it does: for each fault, and of the first four in either space,
-- the board and the packets that show it. Assumes nothing.
use Prim.Native.Nat.{ℕ, zero, suc, ◌+◌, ◌%◌}
use mathlib.Core.Bool.{Bool, true, false, cond}
use mathlib.Core.List.{List, [], ◌∷◌, ◌++◌}
use mathlib.Core.Path.{◌≡◌, refl, sym, ap, ap₂, ◌∙◌}
use native.Mathlib.Nat.{zero-add, div-eq_of_lt}
use native.Mathlib.Omega.{arith}
use lib.ListN.{replicate}
use lib.Pow.{pow_pos}
use Rattle.words.specs.Bytes.{byte, four, put}
use Rattle.words.specs.Fields.{bit}
use Rattle.packet.specs.Fields.{data_of}
use Rattle.packet.specs.Request.{request_of}
use Rattle.board.specs.Description.{Space, Board, WellDescribed}
use Rattle.board.specs.Promise.{Seen}
use Rattle.board.proofs.Computing.{computing}
use Rattle.runs.specs.Bench.{bench, bench_after, bench_rules, zeros, holding, p2, read_at, changed}
use Rattle.runs.specs.Servers.{Server, promised, untouched, RightAt}
use Rattle.runs.specs.Clearing.{space_for, left_in, Succeeds, ClearsDisabled, ClearsOnRead, TakesMarked, KeepsMarked, AtA, ClearsAtA, ClearsThroughA, remarked, LooksThere, LooksAtOrdinary, LooksAtTrusted}

-- the bench sheet's board after P2, with FFh in four bytes of each space, each bit of which is cleared by writing 1
abbrev ones : List ℕ
ones = 0xff ∷ 0xff ∷ 0xff ∷ 0xff ∷ []

abbrev status_at : ℕ → Space
status_at at = record { bytes = holding at ones; rules = bench_rules; marks = holding at ones }

abbrev pub status : ℕ → ℕ → Board
status ordinary trusted =
    let d = bench_after zeros zeros in
    record { description = d.description; capture = d.capture; ordinary = status_at ordinary; trusted = status_at trusted }

abbrev pub both8 : Board
both8 = status 0x008 0x008

-- P2's packet, or the trusted one, for 008h: a write, the same without an enabled byte, and a read; its first data byte is 11h
abbrev pub writing : Bool → List ℕ
writing trusted = changed (changed p2 11 0x08) 0 (cond trusted 0x5b 0x44)

abbrev pub unenabled : Bool → List ℕ
unenabled trusted = changed (writing trusted) 7 0x00

abbrev pub reading : Bool → List ℕ
reading trusted = changed (read_at 0x00 0x08) 0 (cond trusted 0x1b 0x04)

-- P2's packet for A, and a board with a status at A and at B
abbrev pub writing_a : List ℕ
writing_a = changed (changed p2 10 0x01) 11 0x04

abbrev pub both_a : Board
both_a = status 0x104 0x00c

-- the bench sheet's board with marks at 004h, where it is writable
abbrev pub twice : List ℕ → List ℕ → Board
twice ordinary trusted = remarked (bench zeros) ordinary trusted

abbrev pub marks4 : List ℕ
marks4 = holding 0x004 ones

-- the statement, of any server
pub record ClearingServersCaught : Type 0 where
  pub boards : WellDescribed both8 × WellDescribed both_a × WellDescribed (bench zeros)
  pub disabled : (trusted : Bool) (server : Server) → ClearsDisabled trusted server → RightAt server both8 (unenabled trusted) → ⊥
  pub on_read : (trusted : Bool) (server : Server) → ClearsOnRead trusted server → RightAt server both8 (reading trusted) → ⊥
  pub taken : (trusted : Bool) (server : Server) → TakesMarked trusted server → RightAt server both8 (writing trusted) → ⊥
  pub kept : (trusted : Bool) (server : Server) → KeepsMarked trusted server → RightAt server both8 (writing trusted) → ⊥
  pub at_a : (server : Server) → ClearsAtA server → RightAt server both_a writing_a → ⊥
  pub through_a : (server : Server) → ClearsThroughA server → RightAt server both_a writing_a → ⊥
  -- the packet asks for 008h, and the bits that are marked twice are at 004h of the ordinary space; of the trusted one
  pub there_ordinary : (server : Server) → LooksThere server → RightAt server (bench zeros) (read_at 0x00 0x08)
      → RightAt server (twice marks4 zeros) (read_at 0x00 0x08) → ⊥
  pub there_trusted : (server : Server) → LooksThere server → RightAt server (bench zeros) (read_at 0x00 0x08)
      → RightAt server (twice zeros marks4) (read_at 0x00 0x08) → ⊥
  -- in one space only: they are in the other
  pub ordinary : (server : Server) → LooksAtOrdinary server → RightAt server (bench zeros) p2 → RightAt server (twice zeros marks4) p2 → ⊥
  pub trusted : (server : Server) → LooksAtTrusted server → RightAt server (bench zeros) p2 → RightAt server (twice marks4 zeros) p2 → ⊥

-- what tells two sights apart: a bit of a byte of a space, and the number
bit_of : Bool → ℕ → ℕ → Seen → ℕ
bit_of trusted at j x = bit j (byte (left_in trusted x) at)

number_of : Seen → ℕ
number_of x = x.number

-- the packets succeed on that board
written8 : (trusted : Bool) → Succeeds trusted both8 (writing trusted) true
unfolding computing
written8 true = record { kind = refl; target = refl; supported = refl; away = λ t e. omega (arith, e) }
written8 false = record { kind = refl; target = refl; supported = refl; away = λ t e. omega (arith, e) }

unenabled8 : (trusted : Bool) → Succeeds trusted both8 (unenabled trusted) true
unfolding computing
unenabled8 true = record { kind = refl; target = refl; supported = refl; away = λ t e. omega (arith, e) }
unenabled8 false = record { kind = refl; target = refl; supported = refl; away = λ t e. omega (arith, e) }

read8 : (trusted : Bool) → Succeeds trusted both8 (reading trusted) false
unfolding computing
read8 true = record { kind = refl; target = refl; supported = refl; away = λ t e. omega (arith, e) }
read8 false = record { kind = refl; target = refl; supported = refl; away = λ t e. omega (arith, e) }

written_a : AtA both_a writing_a
unfolding computing
written_a = record { kind = refl; target = refl; supported = refl; place = refl }

disabled_caught : (trusted : Bool) (server : Server) → ClearsDisabled trusted server → RightAt server both8 (unenabled trusted) → ⊥
unfolding computing bit_of number_of
disabled_caught true server clears right =
    let k = clears both8 (unenabled true) untouched (unenabled8 true) (ap number_of right) 0 0 (omega arith, omega arith, refl) refl refl in
    omega (arith, sym (ap (bit_of true 0x008 0) right) ∙ k)
disabled_caught false server clears right =
    let k = clears both8 (unenabled false) untouched (unenabled8 false) (ap number_of right) 0 0 (omega arith, omega arith, refl) refl refl in
    omega (arith, sym (ap (bit_of false 0x008 0) right) ∙ k)

read_caught : (trusted : Bool) (server : Server) → ClearsOnRead trusted server → RightAt server both8 (reading trusted) → ⊥
unfolding computing bit_of number_of
read_caught true server clears right =
    let k = clears both8 (reading true) untouched (read8 true) (ap number_of right) 0 0 (omega arith, omega arith, refl) in
    omega (arith, sym (ap (bit_of true 0x008 0) right) ∙ k)
read_caught false server clears right =
    let k = clears both8 (reading false) untouched (read8 false) (ap number_of right) 0 0 (omega arith, omega arith, refl) in
    omega (arith, sym (ap (bit_of false 0x008 0) right) ∙ k)

taken_caught : (trusted : Bool) (server : Server) → TakesMarked trusted server → RightAt server both8 (writing trusted) → ⊥
unfolding computing bit_of number_of
taken_caught true server takes right =
    let k = takes both8 (writing true) untouched (written8 true) (ap number_of right) 0 1 (omega arith, omega arith, refl) refl in
    omega (arith, sym (ap (bit_of true 0x008 1) right) ∙ k)
taken_caught false server takes right =
    let k = takes both8 (writing false) untouched (written8 false) (ap number_of right) 0 1 (omega arith, omega arith, refl) refl in
    omega (arith, sym (ap (bit_of false 0x008 1) right) ∙ k)

kept_caught : (trusted : Bool) (server : Server) → KeepsMarked trusted server → RightAt server both8 (writing trusted) → ⊥
unfolding computing bit_of number_of
kept_caught true server keeps right =
    let k = keeps both8 (writing true) untouched (written8 true) (ap number_of right) 0 0 (omega arith, omega arith, refl) in
    omega (arith, sym (ap (bit_of true 0x008 0) right) ∙ k)
kept_caught false server keeps right =
    let k = keeps both8 (writing false) untouched (written8 false) (ap number_of right) 0 0 (omega arith, omega arith, refl) in
    omega (arith, sym (ap (bit_of false 0x008 0) right) ∙ k)

pub clearing_servers_caught : ClearingServersCaught
unfolding computing bit_of number_of
clearing_servers_caught =
    record {
      boards = (refl, refl, refl);
      disabled = disabled_caught;
      on_read = read_caught;
      taken = taken_caught;
      kept = kept_caught;
      at_a = λ server clears right.
          omega (arith, sym (ap (bit_of false 0x104 0) right) ∙ clears both_a writing_a untouched written_a (ap number_of right) 0 0 (omega arith) (omega arith) refl refl refl);
      through_a = λ server clears right.
          omega (arith, sym (ap (bit_of true 0x00c 0) right) ∙ clears both_a writing_a untouched written_a (ap number_of right) 0 0 (omega arith) (omega arith) refl refl refl);
      there_ordinary = λ server looks well bad.
          omega (arith, sym (ap number_of bad) ∙ looks (bench zeros) marks4 zeros (read_at 0x00 0x08) untouched refl refl refl refl ∙ ap number_of well);
      there_trusted = λ server looks well bad.
          omega (arith, sym (ap number_of bad) ∙ looks (bench zeros) zeros marks4 (read_at 0x00 0x08) untouched refl refl refl refl ∙ ap number_of well);
      ordinary = λ server looks well bad.
          omega (arith, sym (ap number_of bad) ∙ looks (bench zeros) marks4 p2 untouched refl ∙ ap number_of well);
      trusted = λ server looks well bad.
          omega (arith, sym (ap number_of bad) ∙ looks (bench zeros) marks4 p2 untouched refl ∙ ap number_of well);
    }

-- ---- there are such servers, so that the statement says something. What they look at: right in all but the marks that they do not look at, which they take as
-- 00h. What they leave: the crudest that have the fault, which serve everything and leave both spaces as given

abbrev looking : (Board → List ℕ → List ℕ) → (Board → List ℕ → List ℕ) → Server
looking ordinary trusted d p reply = promised (remarked d (ordinary d p) (trusted d p)) p reply

-- the marks of the word that is asked for, and 00h elsewhere
abbrev only : List ℕ → List ℕ → List ℕ
only marks p = put zeros (request_of p).offset (four marks (request_of p).offset)

abbrev leaving : (Space → List ℕ → List ℕ) → Server
leaving bytes d p reply =
    record { number = 0; count = 0; capture = d.capture; ordinary = bytes d.ordinary p; trusted = bytes d.trusted p; reply = reply }

-- no bit of a byte that is not there is set
empty_bit : (j k : ℕ) → bit j (byte [] k) ≡ 0
empty_bit j k = ap (λ (n : ℕ). n % 2) (div-eq_of_lt (pow_pos j))

empty_in : (trusted : Bool) (d : Board) (p reply : List ℕ) (k j : ℕ)
    → bit j (byte (left_in trusted (leaving (λ s q. []) d p reply)) ((request_of p).offset + k)) ≡ 0
empty_in true d p reply k j = empty_bit j ((request_of p).offset + k)
empty_in false d p reply k j = empty_bit j ((request_of p).offset + k)

-- the data at its place, after zeros
abbrev data_there : Space → List ℕ → List ℕ
data_there s p = replicate (request_of p).offset 0 ++ data_of p

stepped : (n k : ℕ) → suc n + k ≡ suc (n + k)
stepped n k = omega arith

after_zeros : (n : ℕ) (l : List ℕ) (k : ℕ) → byte (replicate n 0 ++ l) (n + k) ≡ byte l k
after_zeros zero l k = ap (byte l) (zero-add k)
after_zeros (suc n) l k = ap (byte (replicate (suc n) 0 ++ l)) (stepped n k) ∙ after_zeros n l k

data_in : (trusted : Bool) (d : Board) (p reply : List ℕ) (k j : ℕ)
    → bit j (byte (left_in trusted (leaving data_there d p reply)) ((request_of p).offset + k)) ≡ bit j (byte (data_of p) k)
data_in true d p reply k j = ap (bit j) (after_zeros (request_of p).offset (data_of p) k)
data_in false d p reply k j = ap (bit j) (after_zeros (request_of p).offset (data_of p) k)

same_in : (trusted : Bool) (d : Board) (p reply : List ℕ) → left_in trusted (leaving (λ s q. s.bytes) d p reply) ≡ (space_for trusted d).bytes
same_in true d p reply = refl
same_in false d p reply = refl

pub record SuchClearingServersExist : Type 0 where
  pub clears : (server : Server) × ((trusted : Bool) → ClearsDisabled trusted server) × ((trusted : Bool) → ClearsOnRead trusted server) × ClearsAtA server × ClearsThroughA server
  pub takes : (server : Server) × ((trusted : Bool) → TakesMarked trusted server)
  pub keeps : (server : Server) × ((trusted : Bool) → KeepsMarked trusted server)
  pub there : (server : Server) × LooksThere server
  pub ordinary : (server : Server) × LooksAtOrdinary server
  pub trusted : (server : Server) × LooksAtTrusted server

pub such_clearing_servers_exist : SuchClearingServersExist
such_clearing_servers_exist =
    record {
      clears = (
        leaving (λ s p. []),
        (λ t d p reply s n k j m new e. empty_in t d p reply k j),
        (λ t d p reply s n k j m. empty_in t d p reply k j),
        (λ d p reply a n k j h i m new e. empty_bit j (d.description.a + k)),
        (λ d p reply a n k j h i m new e. empty_bit j (d.description.b + k)),
      );
      takes = (leaving data_there, (λ t d p reply s n k j m e. data_in t d p reply k j));
      keeps = (leaving (λ s p. s.bytes), (λ t d p reply s n k j m. ap (λ (l : List ℕ). bit j (byte l ((request_of p).offset + k))) (same_in t d p reply)));
      there = (
        looking (λ d p. only d.ordinary.marks p) (λ d p. only d.trusted.marks p),
        (λ d ordinary trusted p reply l m o t.
            ap₂ (λ (x y : List ℕ). (promised (remarked d (put zeros (request_of p).offset x) (put zeros (request_of p).offset y)) p reply).number) o t),
      );
      ordinary = (looking (λ d p. d.ordinary.marks) (λ d p. zeros), (λ d trusted p reply l. refl));
      trusted = (looking (λ d p. zeros) (λ d p. d.trusted.marks), (λ d ordinary p reply l. refl));
    }
