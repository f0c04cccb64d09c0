-- Servers that do not keep to the edition (document 02, 9/13), for any server: each is wrong about a packet to the bench sheet's board, or to the same with
-- another edition. And there are such servers. Assumes nothing.
use Prim.Native.Nat.{ℕ}
use mathlib.Core.Bool.{Bool, not, ◌&&◌, cond}
use mathlib.Core.List.{List, [], ◌∷◌, ◌++◌}
use mathlib.Core.Path.{◌≡◌, refl, sym, ap, ◌∙◌}
use native.Mathlib.Omega.{arith}
use lib.Dec.{eqb}
use borrow.Author.Tests.{eq-eqb, ne_eqb}
use Rattle.words.specs.Bytes.{byte}
use Rattle.packet.specs.Fields.{bit7_set}
use Rattle.packet.specs.Request.{packet_number}
use Rattle.board.specs.Description.{Board, with_edition, WellDescribed}
use Rattle.board.specs.Promise.{Seen}
use Rattle.board.proofs.Computing.{computing}
use Rattle.runs.specs.Bench.{bench, zeros, p2, read_at, changed}
use Rattle.runs.specs.Servers.{Server, promised, untouched, RightAt}
use Rattle.runs.specs.Bit7.{TestsBit7First, TestsBit7Last, RefusesUnderOne, TakesFor}

-- a read with bit 7 set, and the same with a byte too many
abbrev pub read_bit7 : List ℕ
read_bit7 = changed (read_at 0x00 0x04) 0 0x84

abbrev pub read_long : List ℕ
read_long = read_bit7 ++ (0x00 ∷ [])

-- the bench sheet's board under an edition
abbrev pub bench_under : ℕ → Board
bench_under edition = with_edition (bench zeros) edition

-- the statements: a packet of one byte, 84h; a read with a byte too many; a read; 2 taken for 1; another edition taken for 1 or for 2
pub record EditionFaultsCaught : Type 0 where
  pub boards : WellDescribed (bench_under 1) × WellDescribed (bench_under 2)
  pub first : (server : Server) → TestsBit7First server → RightAt server (bench_under 2) (0x84 ∷ []) → ⊥
  pub last : (server : Server) → TestsBit7Last server → RightAt server (bench_under 2) read_long → ⊥
  pub under_one : (server : Server) → RefusesUnderOne server → RightAt server (bench_under 1) read_bit7 → ⊥
  pub two_for_one : (server : Server) → TakesFor 2 1 server → RightAt server (bench_under 2) read_bit7 → RightAt server (bench_under 1) read_bit7 → ⊥
  pub zero_for_one : (server : Server) → TakesFor 0 1 server → RightAt server (bench_under 0) p2 → RightAt server (bench_under 1) p2 → ⊥
  pub three_for_two : (server : Server) → TakesFor 3 2 server → RightAt server (bench_under 3) p2 → RightAt server (bench_under 2) p2 → ⊥

abbrev number : Seen → ℕ
number x = x.number

pub edition_faults_caught : EditionFaultsCaught
unfolding computing
edition_faults_caught =
    record {
      boards = (refl, refl);
      first = λ server fault right.
          omega (arith, sym (fault (bench_under 2) (0x84 ∷ []) untouched (record { is = refl; well = refl; set = refl; room = omega arith })) ∙ ap number right);
      last = λ server fault right.
          omega (
            arith,
            sym (fault (bench_under 2) read_long untouched (record { is = refl; well = refl; set = refl; room = omega arith }) (λ e. omega (arith, e))) ∙ ap number right,
          );
      under_one = λ server fault right.
          omega (
            arith,
            sym (fault (bench_under 1) read_bit7 untouched (record { is = refl; well = refl; set = refl; room = omega arith }) (omega arith)) ∙ ap number right,
          );
      two_for_one = λ server fault two one. omega (arith, sym (ap number two) ∙ fault (bench zeros) read_bit7 untouched ∙ ap number one);
      zero_for_one = λ server fault zero one. omega (arith, sym (ap number zero) ∙ fault (bench zeros) p2 untouched ∙ ap number one);
      three_for_two = λ server fault three two. omega (arith, sym (ap number three) ∙ fault (bench zeros) p2 untouched ∙ ap number two);
    }

-- ---- there are such servers, so that the statements above say something

-- right in all but the number where a test says so
abbrev numbered : (Board → List ℕ → List ℕ → Bool) → (List ℕ → ℕ) → Server
numbered there given d p reply =
    let x = promised d p reply in
    record {
      number = cond (there d p reply) (given p) x.number;
      count = x.count;
      capture = x.capture;
      ordinary = x.ordinary;
      trusted = x.trusted;
      reply = x.reply;
    }

abbrev bit7_under : ℕ → Board → List ℕ → Bool
bit7_under edition d p = eqb d.description.edition edition && bit7_set (byte p 0)

-- right on a board of one edition as it is on the same with another
abbrev taking : ℕ → ℕ → Server
taking edition other d p reply = promised (cond (eqb d.description.edition edition) (with_edition d other) d) p reply

pub record SuchEditionsExist : Type 0 where
  pub first : (server : Server) × TestsBit7First server
  pub last : (server : Server) × TestsBit7Last server
  pub under_one : (server : Server) × RefusesUnderOne server
  pub takes : (edition other : ℕ) → (edition ≡ other → ⊥) → (server : Server) × TakesFor edition other server

pub such_editions_exist : SuchEditionsExist
such_editions_exist =
    record {
      first = (numbered (λ d p reply. bit7_under 2 d p) (λ p. 4), λ d p reply s. rw (eq-eqb _ 2 s.is, s.set));
      last = (
        numbered (λ d p reply. bit7_under 2 d p && not (eqb (packet_number p) 0)) packet_number,
        λ d p reply s fault. rw (eq-eqb _ 2 s.is, s.set, ne_eqb (packet_number p) 0 fault),
      );
      under_one = (
        numbered (λ d p reply. bit7_under 1 d p) (λ p. 4),
        λ d p reply s long. rw (eq-eqb _ 1 s.is, s.set),
      );
      takes = λ edition other h.
          (taking edition other, λ d p reply. rw (eq-eqb edition edition refl, ne_eqb other edition (λ e. h (sym e))));
    }
