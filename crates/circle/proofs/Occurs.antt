-- The night shift's sentence is about something: every request that is accepted, of any parts and data, can be asked of every well-described board, and
-- the completion that the board means is read back. So success without data is read for every write that is not unsupported, success with data for every
-- such read, and UR for the rest (`meant` of specs/Replies.antt). Assumes nothing.
use Prim.Native.Nat.{ℕ}
use mathlib.Core.Bool.{false}
use mathlib.Core.List.{List, ◌++◌, append-nil}
use mathlib.Core.Path.{◌≡◌, refl, sym, ap, ◌∙◌, subst}
use native.Mathlib.Nat.{le_of_eq}
use lib.ListN.{length, take, drop, replicate}
use lib.Seq.{take_at, take-length, drop-length}
use borrow.Author.Tests.{le-ltb}
use Rattle.std.specs.Prelude.{Ok}
use Rattle.answers.specs.Checks.{any}
use Rattle.asking.specs.declared.Parts.{Parts}
use Rattle.asking.specs.Writing.{outside, whole_of, write_number, packet_of, Writes}
use Rattle.asking.specs.Reading.{read_number, completion_of, Reads}
use Rattle.asking.proofs.Numbers.{packet_length, served_shown}
use Rattle.board.specs.Description.{Board, WellDescribed}
use Rattle.board.specs.Serving.{Outcome, serve}
use Rattle.board.specs.Promise.{Served, count_of, over, shows, Serves}
use Rattle.board.proofs.Refusals.{outcome_number}
use Rattle.circle.specs.Replies.{meant}
use Rattle.circle.proofs.Asked.{packet_number_lem}
use Rattle.circle.proofs.Heard.{replies_read_back}
use Rattle.circle.proofs.NightShift.{Asked}

-- the statement
abbrev pub AnyMayBeAsked : Type 0
AnyMayBeAsked =
    (a : Parts) (new : List ℕ) (d : Board) → any (outside a) ≡ false → WellDescribed d → (s : Asked a new d) × (s.heard ≡ Ok (meant d (packet_of a new) 16))

nothing_behind : (l : List ℕ) → l ++ drop (length l) l ≡ l
nothing_behind l = ap (λ (x : List ℕ). l ++ x) (drop-length l) ∙ append-nil l

module _ (a : Parts) (new : List ℕ) (inside : any (outside a) ≡ false) where
  abbrev p : List ℕ
  p = packet_of a new

  -- a buffer that just holds the request
  writes_it : Writes a new p (Ok (length p)) p
  writes_it =
      let n : write_number a (length p) ≡ 0 = rw (inside, le-ltb (length p) (whole_of a) (le_of_eq (sym (packet_length a new)))) in
      sym (served_shown a new p n ∙ ap (λ (x : List ℕ). record { number = 0; count = length p; buffer = x }) (nothing_behind p))

  module _ (d : Board) (well : WellDescribed d) where
    reply : List ℕ
    reply = replicate 16 0

    abbrev o : Outcome
    o = serve d p 16

    served_it : o.number ≡ 0
    served_it = outcome_number d p 16 ∙ rw (well, packet_number_lem a new inside d.description.edition)

    served : Served
    served = record { answer = Ok (length o.written); capture = o.after.capture }

    serves_it : Serves d p reply served o.after.ordinary.bytes o.after.trusted.bytes (over o.written reply)
    unfolding shows served reply
    serves_it =
        λ i.
        record {
          number = sym served_it i;
          count = length o.written;
          capture = o.after.capture;
          ordinary = o.after.ordinary.bytes;
          trusted = o.after.trusted.bytes;
          reply = over o.written reply;
        }

    reads_it : Reads (take (count_of served.answer) (over o.written reply)) (Ok (completion_of o.written))
    unfolding served
    reads_it =
        let t : take (length o.written) (over o.written reply) ≡ o.written = take_at o.written (drop (length o.written) reply) _ refl in
        (ap read_number t ∙ (replies_read_back d p 16 served_it).number, ap completion_of (sym t))

    it_is : Asked a new d
    it_is =
        record {
          buffer = p;
          written = Ok (length p);
          sent = p;
          writes = writes_it;
          accepted = refl;
          reply = reply;
          served = served;
          ordinary = o.after.ordinary.bytes;
          trusted = o.after.trusted.bytes;
          replied = over o.written reply;
          serves =
              subst (λ (x : List ℕ). Serves d x reply served o.after.ordinary.bytes o.after.trusted.bytes (over o.written reply))
              (sym (take-length p)) serves_it;
          heard = Ok (completion_of o.written);
          reads = reads_it;
        }

pub any_may_be_asked : AnyMayBeAsked
unfolding it_is
any_may_be_asked a new d inside well =
    (it_is a new inside d well, ap Ok (replies_read_back d (packet_of a new) 16 (served_it a new inside d well)).same)
