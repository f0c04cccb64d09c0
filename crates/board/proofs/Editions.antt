-- THEOREMS. Document 02, 9/13. "Show once, for either edition, that packets with bit 7 clear are answered alike": a board, and the same with another
-- edition, give the same number and reply and leave the same spaces and capture; so do the calls of `Board::serve`. "1 ignores bit 7 as now": under edition 1
-- packets that differ in bit 7 only are answered alike. "2 gives answer 4 when it is set": and 3 where the packet is too short, and nothing changes. "Any other
-- edition is answer 1": whatever the packet and the reply are. Assumes nothing.
use Prim.Native.Nat.{ℕ, zero, suc, ◌≤◌}
use mathlib.Core.Bool.{Bool, true, false, cond, or-true}
use mathlib.Core.List.{List, []}
use mathlib.Core.Logic.{◌⊎◌, inl, inr}
use mathlib.Core.Path.{◌≡◌, refl, sym, ap, ap₂, ◌∙◌}
use lib.Dec.{ltb}
use lib.ListN.{length}
use borrow.Author.Tests.{le-ltb, ne_eqb}
use Rattle.words.specs.Bytes.{byte}
use Rattle.packet.specs.declared.Request.{Request}
use Rattle.packet.specs.Fields.{bit7_set, data_of}
use Rattle.packet.specs.Request.{is_trusted, number_under, packet_number, request_of}
use Rattle.packet.specs.declared.Status.TheVariants.{Success}
use Rattle.packet.proofs.Laws.{number_under_lem, clear_accepted}
use Rattle.packet.proofs.Bit7Aside.{Bit7Aside, SameButBit7, bit_7_aside}
use Rattle.capture.specs.declared.Capture.{Capture}
use Rattle.board.specs.declared.Description.{Description}
use Rattle.board.specs.Description.{Board, with_edition, other_edition, out_of_range, badly_described, WellDescribed}
use Rattle.board.specs.Access.{unsupported, after_write, shown_word}
use Rattle.board.specs.Serving.{Outcome, replies, respond, serve_number, refused, by_number, serve}
use Rattle.board.specs.Promise.{Served, seen, shows, Serves}
use Rattle.board.proofs.Causes.{Cause.range, one_exactly}
use Rattle.board.proofs.Laws.{unsupported_same}
use Rattle.board.proofs.Refusals.{outcome_number}
use Rattle.board.proofs.Outcomes.{respond_unsupported, respond_write, respond_read}

-- a packet with bit 7 of its first byte clear; the empty packet counts as one, since it has no such bit (`empty_is_clear`)
abbrev pub Bit7Clear : List ℕ → Type 0
Bit7Clear p = bit7_set (byte p 0) ≡ false

-- an edition that the request names
abbrev pub OneOrTwo : ℕ → Type 0
OneOrTwo edition = (edition ≡ 1) ⊎ (edition ≡ 2)

-- an outcome but for the edition of the board that is left
abbrev pub leaving : ℕ → Outcome → Outcome
leaving edition o = record { number = o.number; after = with_edition o.after edition; written = o.written }

-- the statements. On any board, well described or not but for its edition, with any packet whose bit 7 is clear and any reply
abbrev pub AnsweredAlike : Type 0
AnsweredAlike =
    (d : Board) (edition : ℕ) (p : List ℕ) (size : ℕ) → OneOrTwo d.description.edition → OneOrTwo edition → Bit7Clear p
    → serve (with_edition d edition) p size ≡ leaving edition (serve d p size)

-- and of two calls that meet their promises, one on either board: the result, both spaces and the reply
abbrev pub CallsAlike : Type 0
CallsAlike =
    (d : Board) (edition : ℕ) (p reply : List ℕ) → OneOrTwo d.description.edition → OneOrTwo edition → Bit7Clear p
    → (r : Served) (o t after : List ℕ) → Serves d p reply r o t after
    → (other : Served) (o' t' after' : List ℕ) → Serves (with_edition d edition) p reply other o' t' after'
    → seen r o t after ≡ seen other o' t' after'

-- edition 1 ignores bit 7
abbrev pub OneIgnores : Type 0
OneIgnores = (d : Board) (p q : List ℕ) (size : ℕ) → d.description.edition ≡ 1 → Bit7Aside p q → serve d p size ≡ serve d q size

-- edition 2 refuses what has it set: 3 under 12 bytes, else 4
abbrev pub TwoRefuses : Type 0
TwoRefuses =
    (d : Board) (p : List ℕ) (size : ℕ) → d.description.edition ≡ 2 → WellDescribed d → 16 ≤ size → bit7_set (byte p 0) ≡ true
    → serve d p size ≡ refused (cond (ltb (length p) 12) 3 4) d

-- and any other edition is answer 1
abbrev pub OtherIsOne : Type 0
OtherIsOne = (d : Board) (p : List ℕ) (size : ℕ) → (OneOrTwo d.description.edition → ⊥) → serve d p size ≡ refused 1 d

pub empty_is_clear : Bit7Clear []
empty_is_clear = refl

-- ---- alike: the number

not_other : (edition : ℕ) → OneOrTwo edition → other_edition edition ≡ false
not_other edition (inl e) = rw e
not_other edition (inr e) = rw e

clear_number : (p : List ℕ) → Bit7Clear p → (n : ℕ) → number_under n p ≡ packet_number p
clear_number p clear n = number_under_lem n p (clear_accepted n (byte p 0) clear)

module _ (d : Board) (edition : ℕ) (k : OneOrTwo d.description.edition) (j : OneOrTwo edition) where
  bad_same : badly_described (with_edition d edition) ≡ badly_described d
  unfolding badly_described
  bad_same = rw (not_other d.description.edition k, not_other edition j)

  number_same : (p : List ℕ) (size : ℕ) → Bit7Clear p → serve_number (with_edition d edition) p size ≡ serve_number d p size
  number_same p size clear =
      ap₂ (λ b n. cond b 1 (cond (ltb size 16) 2 n)) bad_same (clear_number p clear edition ∙ sym (clear_number p clear d.description.edition))

-- ---- alike: a request

module _ (d : Board) (edition : ℕ) (q : Request) (new : List ℕ) where
  write_same : (t : Bool) → is_trusted q.target ≡ t → after_write (with_edition d edition) q new ≡ with_edition (after_write d q new) edition
  unfolding after_write
  write_same true t = rw t
  write_same false t = rw t

  still : unsupported (with_edition d edition).description d.capture q ≡ unsupported d.description d.capture q
  still = unsupported_same (with_edition d edition).description d.description d.capture q refl

  written_same : replies (after_write (with_edition d edition) q new) Success q ≡ leaving edition (replies (after_write d q new) Success q)
  written_same = ap (λ (x : Board). replies x Success q) (write_same _ refl)

  respond_by : (u w : Bool) → unsupported d.description d.capture q ≡ u → q.writes ≡ w
      → respond (with_edition d edition) q new ≡ leaving edition (respond d q new)
  unfolding shown_word
  respond_by true w u e =
      respond_unsupported (with_edition d edition) q new (still ∙ u) ∙ ap (leaving edition) (sym (respond_unsupported d q new u))
  respond_by false true u e =
      respond_write (with_edition d edition) q new (still ∙ u) e ∙ written_same ∙ ap (leaving edition) (sym (respond_write d q new u e))
  respond_by false false u e =
      respond_read (with_edition d edition) q new (still ∙ u) e ∙ ap (leaving edition) (sym (respond_read d q new u e))

by_number_lem : (d : Board) (edition : ℕ) (p : List ℕ) (n : ℕ) → by_number n (with_edition d edition) p ≡ leaving edition (by_number n d p)
by_number_lem d edition p zero = respond_by d edition (request_of p) (data_of p) _ _ refl refl
by_number_lem d edition p (suc n) = refl

pub answered_alike : AnsweredAlike
unfolding serve
answered_alike d edition p size k j clear =
    ap (λ (n : ℕ). by_number n (with_edition d edition) p) (number_same d edition k j p size clear) ∙ by_number_lem d edition p (serve_number d p size)

pub calls_alike : CallsAlike
unfolding shows
calls_alike d edition p reply k j clear r o t after s other o' t' after' u =
    s ∙ ap (λ (x : Outcome). shows x reply) (sym (answered_alike d edition p (length reply) k j clear)) ∙ sym u

-- ---- edition 1

module _ (d : Board) (p q : List ℕ) (one : d.description.edition ≡ 1) (same : SameButBit7 p q) where
  number_one : (size : ℕ) → serve_number d p size ≡ serve_number d q size
  number_one size =
      let at : (l : List ℕ) → number_under d.description.edition l ≡ packet_number l = λ l. ap (λ (n : ℕ). number_under n l) one in
      ap (λ (n : ℕ). cond (badly_described d) 1 (cond (ltb size 16) 2 n)) (at p ∙ same.numbers ∙ sym (at q))

  by_one : (n : ℕ) → by_number n d p ≡ by_number n d q
  by_one zero = ap₂ (respond d) same.requests same.«data»
  by_one (suc n) = refl

pub one_ignores : OneIgnores
unfolding serve
one_ignores d p q size one aside =
    let same = bit_7_aside p q aside in
    by_one d p q one same (serve_number d p size) ∙ ap (λ (n : ℕ). by_number n d q) (number_one d p q one same size)

-- ---- edition 2

two_number : (d : Board) (p : List ℕ) (size : ℕ) → d.description.edition ≡ 2 → WellDescribed d → 16 ≤ size → bit7_set (byte p 0) ≡ true
    → serve_number d p size ≡ cond (ltb (length p) 12) 3 4
two_number d p size two w h set = rw (w, le-ltb size 16 h, two, set)

short_or : (d : Board) (p : List ℕ) (short : Bool) → by_number (cond short 3 4) d p ≡ refused (cond short 3 4) d
short_or d p true = refl
short_or d p false = refl

pub two_refuses : TwoRefuses
unfolding serve
two_refuses d p size two w h set =
    ap (λ (n : ℕ). by_number n d p) (two_number d p size two w h set) ∙ short_or d p (ltb (length p) 12)

-- ---- any other

is_other : (edition : ℕ) → (OneOrTwo edition → ⊥) → other_edition edition ≡ true
is_other edition h = rw (ne_eqb edition 1 (λ e. h (inl e)), ne_eqb edition 2 (λ e. h (inr e)))

out_of_range_lem : (description : Description) (kept : Capture) → other_edition description.edition ≡ true → out_of_range description kept ≡ true
out_of_range_lem description kept e = simp (e, or-true)

pub other_is_one : OtherIsOne
unfolding serve
other_is_one d p size h =
    let out = out_of_range_lem d.description d.capture (is_other d.description.edition h) in
    ap (λ (n : ℕ). by_number n d p) (sym (outcome_number d p size) ∙ (one_exactly d p size).1 (range out))
