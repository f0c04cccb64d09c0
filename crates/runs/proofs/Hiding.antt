-- THEOREM. No server that hides a byte of a word from a read, or returns no data where no byte is enabled, meets the promise of `Board::serve`, whatever else it
-- does: in the trusted space, at A and elsewhere, for any board and any read that succeeds, whatever it enables, it is not right both about that board and about the
-- same board with any other value of that byte. Assumes nothing.
use Prim.Native.Nat.{ℕ, zero, suc, ◌+◌, ◌≤◌, ◌<◌}
use mathlib.Core.Bool.{Bool, true, false, cond}
use mathlib.Core.List.{List, [], ◌∷◌, ◌++◌}
use mathlib.Core.Path.{◌≡◌, refl, sym, ap, ◌∙◌}
use native.Mathlib.Nat.{add-zero}
use native.Mathlib.Omega.{arith}
use lib.Dec.{eqb}
use lib.ListN.{length, take, drop}
use borrow.Author.Tests.{eq-eqb, ne_eqb, eqb-true}
use Rattle.words.specs.Bytes.{byte, four, put}
use Rattle.words.proofs.Laws.{put_length, put_there, four_at}
use Rattle.packet.specs.declared.Request.{Request}
use Rattle.packet.specs.Fields.{data_of}
use Rattle.packet.specs.Request.{packet_number, request_of}
use Rattle.packet.specs.declared.Status.TheVariants.{Success}
use Rattle.packet.specs.Completion.{with_data, without_data}
use Rattle.packet.proofs.Laws.{offset_inside}
use Rattle.packet.proofs.EnablesAside.{EnablesAside, enables_aside}
use Rattle.board.specs.Description.{Board, WellDescribed}
use Rattle.board.specs.Access.{picked_word}
use Rattle.board.specs.Serving.{Outcome, replies, replies_data}
use Rattle.board.specs.Promise.{Seen, over, shows}
use Rattle.board.proofs.Laws.{well_described, described_well}
use Rattle.board.proofs.Keeps.{with_bytes_lem}
use Rattle.board.proofs.Computing.{computing}
use Rattle.board.proofs.Outcomes.{respond_read, served_is}
use Rattle.board.proofs.Whole.{read_four}
use Rattle.runs.specs.Bench.{bench_after, zeros, read_at, changed}
use Rattle.runs.specs.Servers.{Server, promised, untouched}
use Rattle.runs.specs.Clearing.{space_for}
use Rattle.runs.specs.Hiding.{Place, in_trusted, at_a, elsewhere, IsAt, Reads, reads_trusted, bytes_for, offset_for, rewritten, altered, returned, HidesAt, Hides, not_enabled, none_enabled, ReturnsNothing}

-- a server is right about a packet, with any reply
abbrev pub Right : Server → Board → List ℕ → List ℕ → Type 0
Right server d p reply = server d p reply ≡ promised d p reply

-- the statement, of any server
pub record HidingServersCaught : Type 0 where
  -- one that hides a byte at a read is not right both about the board and about the one with another value there
  pub at_one : (place : Place) (server : Server) (d : Board) (p reply : List ℕ) → Reads place d p reply → (k x : ℕ) → k < 4
      → (byte (bytes_for place d) (offset_for place d.description (request_of p) + k) ≡ x → ⊥) → HidesAt place server d p reply k x
      → Right server d p reply → Right server (altered place d (request_of p) k x) p reply → ⊥
  -- so, of one that hides certain bytes, whichever they are: at any read of which it hides one it is not right both about the board and about that other
  pub certain : (which : List ℕ → ℕ → Bool) (place : Place) (server : Server) → Hides which place server
      → (d : Board) (p reply : List ℕ) → Reads place d p reply → (k x : ℕ) → k < 4 → which p k ≡ true
      → (byte (bytes_for place d) (offset_for place d.description (request_of p) + k) ≡ x → ⊥)
      → Right server d p reply → Right server (altered place d (request_of p) k x) p reply → ⊥
  -- one that returns no data at a read is not right about it
  pub nothing : (place : Place) (server : Server) (d : Board) (p reply : List ℕ) → Reads place d p reply
      → ((server d p reply).count ≡ 16 → ⊥) → Right server d p reply → ⊥
  -- there are such reads, in each place and with any enables
  pub occurs : (place : Place) (enables : ℕ) → enables < 16
      → (d : Board) × (p : List ℕ) × (reply : List ℕ) × Reads place d p reply × ((request_of p).enables ≡ enables)

-- ---- what is promised of such a read

word_there : (place : Place) (d : Board) (q : Request) → IsAt place d.description q
    → picked_word d.description d.ordinary.bytes d.trusted.bytes q ≡ four (bytes_for place d) (offset_for place d.description q)
word_there in_trusted d q t = rw t
word_there at_a d q t = rw (t.0, eq-eqb q.offset d.description.a t.1)
word_there elsewhere d q t = rw (t.0, ne_eqb q.offset d.description.a t.1)

module _ {place : Place} {d : Board} {p reply : List ℕ} (r : Reads place d p reply) where
  as_served : promised d p reply ≡ shows (replies_data d (request_of p)) reply
  as_served =
      ap (λ (o : Outcome). shows o reply)
      (served_is d p reply r.well r.room r.sound ∙ respond_read d (request_of p) (data_of p) r.supported r.reads)

  count_is : (promised d p reply).count ≡ 16
  unfolding shows with_data
  count_is = ap (λ (x : Seen). x.count) as_served

  shown_four : returned (shows (replies_data d (request_of p)) reply)
      ≡ picked_word d.description d.ordinary.bytes d.trusted.bytes (request_of p)
  unfolding shows with_data
  shown_four = read_four d (request_of p)

  -- each of the four bytes, enabled or not
  byte_is : (k : ℕ) → k < 4 → byte (returned (promised d p reply)) k ≡ byte (bytes_for place d) (offset_for place d.description (request_of p) + k)
  byte_is k h =
      ap (λ (x : Seen). byte (returned x) k) as_served
      ∙ ap (λ (l : List ℕ). byte l k) (shown_four ∙ word_there place d (request_of p) r.there)
      ∙ four_at (bytes_for place d) (offset_for place d.description (request_of p)) k h

-- ---- the same board with another value in one byte of the word

fits : (place : Place) (d : Board) (p : List ℕ) (k : ℕ) → WellDescribed d → k < 4
    → (offset_for place d.description (request_of p) + k) + 1 ≤ length (bytes_for place d)
fits in_trusted d p k w h = omega (arith, (well_described d w).trusted.bytes, offset_inside p)
fits at_a d p k w h = omega (arith, (well_described d w).trusted.bytes, (well_described d w).register)
fits elsewhere d p k w h = omega (arith, (well_described d w).ordinary.bytes, offset_inside p)

-- as many other bytes in a space leave the board well described, and are the bytes there
rewritten_well : (trusted : Bool) (d : Board) (bytes : List ℕ) → WellDescribed d → length bytes ≡ length (space_for trusted d).bytes
    → WellDescribed (rewritten trusted d bytes)
rewritten_well true d bytes well size =
    let w = well_described d well in
    described_well d.description d.capture d.ordinary _ w.ordinary (with_bytes_lem d.trusted bytes w.trusted (size ∙ w.trusted.bytes)) w.in_range
rewritten_well false d bytes well size =
    let w = well_described d well in
    described_well d.description d.capture _ d.trusted (with_bytes_lem d.ordinary bytes w.ordinary (size ∙ w.ordinary.bytes)) w.trusted w.in_range

rewritten_bytes : (trusted : Bool) (d : Board) (bytes : List ℕ) → (space_for trusted (rewritten trusted d bytes)).bytes ≡ bytes
rewritten_bytes true d bytes = refl
rewritten_bytes false d bytes = refl

module _ (place : Place) (d : Board) (p reply : List ℕ) (k x : ℕ) (r : Reads place d p reply) (h : k < 4) where
  -- such a read of it succeeds too
  altered_reads : Reads place (altered place d (request_of p) k x) p reply
  altered_reads =
      record {
        well = rewritten_well (reads_trusted place) d _ r.well (put_length (bytes_for place d) _ (x ∷ []) (fits place d p k r.well h));
        room = r.room;
        sound = r.sound;
        reads = r.reads;
        there = r.there;
        supported = r.supported;
      }

  altered_byte : byte (bytes_for place (altered place d (request_of p) k x)) (offset_for place d.description (request_of p) + k) ≡ x
  altered_byte =
      let at = offset_for place d.description (request_of p) + k in
      ap (λ (l : List ℕ). byte l at) (rewritten_bytes (reads_trusted place) d _)
      ∙ ap (byte (put (bytes_for place d) at (x ∷ []))) (sym (add-zero at))
      ∙ put_there (bytes_for place d) at (x ∷ []) (fits place d p k r.well h) 0 (omega arith)

-- ---- caught

hidden_caught : (place : Place) (server : Server) (d : Board) (p reply : List ℕ) → Reads place d p reply → (k x : ℕ) → k < 4
    → (byte (bytes_for place d) (offset_for place d.description (request_of p) + k) ≡ x → ⊥) → HidesAt place server d p reply k x
    → Right server d p reply → Right server (altered place d (request_of p) k x) p reply → ⊥
hidden_caught place server d p reply r k x h other hides one two =
    other
    (sym (byte_is r k h)
    ∙ sym (ap (λ (s : Seen). byte (returned s) k) one)
    ∙ hides
    ∙ ap (λ (s : Seen). byte (returned s) k) two
    ∙ byte_is (altered_reads place d p reply k x r h) k h
    ∙ altered_byte place d p reply k x r h)

nothing_caught : (place : Place) (server : Server) (d : Board) (p reply : List ℕ) → Reads place d p reply → ((server d p reply).count ≡ 16 → ⊥)
    → Right server d p reply → ⊥
nothing_caught place server d p reply r short right = short (ap (λ (x : Seen). x.count) right ∙ count_is r)

-- ---- such reads: the bench sheet's board after P2, and a read with any enables

abbrev reading : Place → ℕ → List ℕ
reading in_trusted enables = changed (changed (read_at 0x00 0x08) 0 0x1b) 7 enables
reading at_a enables = changed (read_at 0x01 0x04) 7 enables
reading elsewhere enables = changed (read_at 0x00 0x08) 7 enables

-- another byte at a place leaves the other bytes
other_byte : (before behind : List ℕ) (x y k : ℕ) → (k ≡ length before → ⊥) → byte (before ++ (x ∷ behind)) k ≡ byte (before ++ (y ∷ behind)) k
other_byte [] behind x y zero n = absurd (n refl)
other_byte [] behind x y (suc k) n = refl
other_byte (a ∷ before) behind x y zero n = refl
other_byte (a ∷ before) behind x y (suc k) n = other_byte before behind x y k (λ e. n (ap suc e))

aside : (place : Place) (enables : ℕ) → enables < 16 → EnablesAside (reading place enables) (reading place 0)
aside in_trusted enables h =
    record { sizes = refl; bytes = other_byte (take 7 (reading in_trusted 0)) (drop 8 (reading in_trusted 0)) enables 0; last = omega arith }
aside at_a enables h = record { sizes = refl; bytes = other_byte (take 7 (reading at_a 0)) (drop 8 (reading at_a 0)) enables 0; last = omega arith }
aside elsewhere enables h =
    record { sizes = refl; bytes = other_byte (take 7 (reading elsewhere 0)) (drop 8 (reading elsewhere 0)) enables 0; last = omega arith }

sound_none : (place : Place) → packet_number (reading place 0) ≡ 0
unfolding computing
sound_none in_trusted = refl
sound_none at_a = refl
sound_none elsewhere = refl

enables_of : (place : Place) (enables : ℕ) → enables < 16 → (request_of (reading place enables)).enables ≡ enables
unfolding computing
enables_of in_trusted enables h = omega arith
enables_of at_a enables h = omega arith
enables_of elsewhere enables h = omega arith

read_of : (place : Place) (enables : ℕ) → packet_number (reading place enables) ≡ 0 → Reads place (bench_after zeros zeros) (reading place enables) untouched
unfolding computing
read_of in_trusted enables n =
    record { well = refl; room = omega arith; sound = n; reads = refl; there = refl; supported = refl }
read_of at_a enables n =
    record { well = refl; room = omega arith; sound = n; reads = refl; there = (refl, refl); supported = refl }
read_of elsewhere enables n =
    record { well = refl; room = omega arith; sound = n; reads = refl; there = (refl, λ e. omega (arith, e)); supported = refl }

read_occurs : (place : Place) (enables : ℕ) → enables < 16
    → (d : Board) × (p : List ℕ) × (reply : List ℕ) × Reads place d p reply × ((request_of p).enables ≡ enables)
read_occurs place enables h = (
  bench_after zeros zeros,
  reading place enables,
  untouched,
  read_of place enables ((enables_aside (reading place enables) (reading place 0) (aside place enables h)).numbers 1 ∙ sound_none place),
  enables_of place enables h,
)

pub hiding_servers_caught : HidingServersCaught
hiding_servers_caught =
    record {
      at_one = hidden_caught;
      certain = λ which place server hides d p reply r k x h hidden other one two.
          hidden_caught place server d p reply r k x h other (hides d p reply r k x h hidden) one two;
      nothing = nothing_caught;
      occurs = read_occurs;
    }

-- ---- there are such servers, so that the statement says something

-- what is seen of a read, with other data
abbrev pub refilled : (ℕ → ℕ) → List ℕ → Seen → Seen
refilled at reply x =
    record {
      number = x.number;
      count = x.count;
      capture = x.capture;
      ordinary = x.ordinary;
      trusted = x.trusted;
      reply = over (take 12 x.reply ++ (at 0 ∷ at 1 ∷ at 2 ∷ at 3 ∷ [])) reply;
    }

-- the data of a read with certain bytes hidden: others in their place, by the packet, the reply as lent and the place
abbrev pub hidden : (List ℕ → ℕ → Bool) → (List ℕ → List ℕ → ℕ → ℕ) → List ℕ → List ℕ → Seen → ℕ → ℕ
hidden which others p reply x k = cond (which p k) (others p reply k) (byte (returned x) k)

-- right in all but the bytes that it hides
pub record RightButHidden (which : List ℕ → ℕ → Bool) (others : List ℕ → List ℕ → ℕ → ℕ) (server : Server) : Type 0 where
  pub reads : (place : Place) (d : Board) (p reply : List ℕ) → Reads place d p reply
      → let x = promised d p reply in server d p reply ≡ refilled (hidden which others p reply x) reply x
  pub besides : (d : Board) (p reply : List ℕ) → ((promised d p reply).count ≡ 16 → ⊥) → Right server d p reply

-- right in all but a read that enables no byte, which it answers with success and no data
pub record RightButNone (server : Server) : Type 0 where
  pub reads : (place : Place) (d : Board) (p reply : List ℕ) → Reads place d p reply → (request_of p).enables ≡ 0
      → server d p reply ≡ shows (replies d Success (request_of p)) reply
  pub besides : (d : Board) (p reply : List ℕ) → ((promised d p reply).count ≡ 16 → (request_of p).enables ≡ 0 → ⊥) → Right server d p reply

-- one that hides certain bytes, in all three places, and is right in all else
abbrev pub HidingServer : (List ℕ → ℕ → Bool) → (List ℕ → List ℕ → ℕ → ℕ) → Type 0
HidingServer which others = (server : Server) × ((place : Place) → Hides which place server) × RightButHidden which others server

-- the statement: whichever bytes are hidden, and whatever stands in their place by the packet, the reply as lent and the place; so a board by document 01's rule,
-- with 00h for the bytes that are not enabled, and one that has 00h where none is enabled; and one that returns no data there
pub record SuchHidingServersExist : Type 0 where
  pub hides : (which : List ℕ → ℕ → Bool) (others : List ℕ → List ℕ → ℕ → ℕ) → HidingServer which others
  pub old_rule : HidingServer not_enabled (λ p reply k. 0)
  pub blank : HidingServer none_enabled (λ p reply k. 0)
  pub returns_nothing : (server : Server) × ((place : Place) → ReturnsNothing place server) × RightButNone server

-- a read's data, refilled
refilled_at : (at : ℕ → ℕ) (d : Board) (p reply : List ℕ) (k : ℕ) → k < 4
    → byte (returned (refilled at reply (shows (replies_data d (request_of p)) reply))) k ≡ at k
unfolding shows with_data
refilled_at at d p reply zero h = refl
refilled_at at d p reply (suc zero) h = refl
refilled_at at d p reply (suc (suc zero)) h = refl
refilled_at at d p reply (suc (suc (suc zero))) h = refl
refilled_at at d p reply (suc (suc (suc (suc k)))) h = absurd (omega arith)

module _ (which : List ℕ → ℕ → Bool) (others : List ℕ → List ℕ → ℕ → ℕ) where
  abbrev hiding : Server
  hiding d p reply =
      let x = promised d p reply in
      cond (eqb x.count 16) (refilled (hidden which others p reply x) reply x) x

  hiding_reads : (place : Place) (d : Board) (p reply : List ℕ) → Reads place d p reply
      → let x = promised d p reply in hiding d p reply ≡ refilled (hidden which others p reply x) reply x
  hiding_reads place d p reply r = rw (eq-eqb (promised d p reply).count 16 (count_is r))

  hiding_at : (place : Place) (d : Board) (p reply : List ℕ) → Reads place d p reply → (k : ℕ) → k < 4 → which p k ≡ true
      → byte (returned (hiding d p reply)) k ≡ others p reply k
  hiding_at place d p reply r k h hides =
      let at = hidden which others p reply (promised d p reply) in
      let chosen : at k ≡ others p reply k = rw hides in
      ap (λ (x : Seen). byte (returned x) k) (hiding_reads place d p reply r)
      ∙ ap (λ (x : Seen). byte (returned (refilled at reply x)) k) (as_served r)
      ∙ refilled_at at d p reply k h
      ∙ chosen

  hiding_hides : (place : Place) → Hides which place hiding
  hiding_hides place d p reply r k x h hides =
      hiding_at place d p reply r k h hides
      ∙ sym (hiding_at place (altered place d (request_of p) k x) p reply (altered_reads place d p reply k x r h) k h hides)

  hiding_right : RightButHidden which others hiding
  hiding_right =
      record { reads = hiding_reads; besides = λ d p reply short. rw (ne_eqb (promised d p reply).count 16 short) }

abbrev silent : Server
silent d p reply =
    let x = promised d p reply in
    cond (eqb x.count 16) (cond (eqb (request_of p).enables 0) (shows (replies d Success (request_of p)) reply) x) x

silent_reads : (place : Place) (d : Board) (p reply : List ℕ) → Reads place d p reply → (request_of p).enables ≡ 0
    → silent d p reply ≡ shows (replies d Success (request_of p)) reply
silent_reads place d p reply r none =
    rw (eq-eqb (promised d p reply).count 16 (count_is r), eq-eqb (request_of p).enables 0 none)

silent_besides : (d : Board) (p reply : List ℕ) (long none : Bool) → eqb (promised d p reply).count 16 ≡ long → eqb (request_of p).enables 0 ≡ none
    → ((promised d p reply).count ≡ 16 → (request_of p).enables ≡ 0 → ⊥) → Right silent d p reply
silent_besides d p reply true true e f h = absurd (h (eqb-true _ _ e) (eqb-true _ _ f))
silent_besides d p reply true false e f h = rw (e, f)
silent_besides d p reply false none e f h = rw e

silent_nothing : (place : Place) → ReturnsNothing place silent
unfolding shows without_data
silent_nothing place d p reply r none = ap (λ (x : Seen). x.count) (silent_reads place d p reply r none)

such_hiding : (which : List ℕ → ℕ → Bool) (others : List ℕ → List ℕ → ℕ → ℕ) → HidingServer which others
such_hiding which others = (hiding which others, hiding_hides which others, hiding_right which others)

pub such_hiding_servers_exist : SuchHidingServersExist
such_hiding_servers_exist =
    record {
      hides = such_hiding;
      old_rule = such_hiding not_enabled (λ p reply k. 0);
      blank = such_hiding none_enabled (λ p reply k. 0);
      returns_nothing = (
        silent,
        silent_nothing,
        record { reads = silent_reads; besides = λ d p reply. silent_besides d p reply _ _ refl refl },
      );
    }
