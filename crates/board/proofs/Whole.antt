-- Document 02, 7/13: "every successful read returns all four bytes whatever the enables, also at A." All four: what a successful read returns is the
-- whole word of the trusted space, of the ordinary one, or at A the whole correlation register. Whatever the enables: packets that do not write and differ
-- in their first enables only are answered alike, with everything that serving gives, on every board and with every reply. Assumes nothing.
use Prim.Native.Nat.{ℕ, zero, suc}
use mathlib.Core.Bool.{Bool, true, false, cond}
use mathlib.Core.List.{List, [], ◌∷◌}
use mathlib.Core.Path.{◌≡◌, refl, sym, ap, ap₂, ◌∙◌}
use lib.Dec.{eqb, ltb}
use lib.ListN.{drop}
use borrow.Author.Tests.{eq-eqb, ne_eqb}
use Rattle.words.specs.Bytes.{byte, four}
use Rattle.registers.specs.Shown.{shown}
use Rattle.registers.proofs.Laws.{shown_four, shown_whole}
use Rattle.packet.specs.declared.Request.{Request}
use Rattle.packet.specs.Fields.{data_of}
use Rattle.packet.specs.Request.{is_trusted, request_of}
use Rattle.packet.specs.declared.Status.TheVariants.{Success}
use Rattle.packet.specs.Completion.{status_byte, with_data}
use Rattle.packet.proofs.EnablesAside.{EnablesAside, enabling, SameButEnables, enables_aside}
use Rattle.capture.specs.declared.Capture.{Capture}
use Rattle.capture.specs.declared.Capture.TheVariants.{Nothing, Number}
use Rattle.board.specs.declared.Description.{Description}
use Rattle.board.specs.Description.{Board, badly_described}
use Rattle.board.specs.Access.{unsupported, correlation, picked_word, shown_word, read_word}
use Rattle.board.specs.Serving.{Outcome, respond, serve_number, by_number, serve}
use Rattle.board.proofs.Outcomes.{respond_unsupported, respond_read}
use Rattle.board.proofs.Lands.{served, supported}

-- four bytes that a read of this request returned: the word of the trusted space, at A the correlation register, elsewhere the word of the ordinary space
pub record WholeWord (d : Board) (q : Request) (returned : List ℕ) : Type 0 where
  pub trusted : is_trusted q.target ≡ true → returned ≡ four d.trusted.bytes q.offset
  pub at_a : is_trusted q.target ≡ false → q.offset ≡ d.description.a → returned ≡ correlation d
  pub ordinary : is_trusted q.target ≡ false → (q.offset ≡ d.description.a → ⊥) → returned ≡ four d.ordinary.bytes q.offset

-- the statements: a read that is served, with a status byte that says success
abbrev pub ReadsWhole : Type 0
ReadsWhole =
    (d : Board) (p : List ℕ) (size : ℕ) → (serve d p size).number ≡ 0 → byte (serve d p size).written 6 ≡ status_byte Success
    → (request_of p).writes ≡ false → WholeWord d (request_of p) (drop 12 (serve d p size).written)

-- and any packet that does not write, whatever becomes of it
abbrev pub EnablesNotRead : Type 0
EnablesNotRead = (d : Board) (p q : List ℕ) (size : ℕ) → EnablesAside p q → (request_of p).writes ≡ false → serve d p size ≡ serve d q size

-- ---- whatever the enables

-- what is unsupported does not hang on them
still_unsupported : (description : Description) (kept : Capture) (q : Request) (enables : ℕ)
    → unsupported description kept (enabling q enables) ≡ unsupported description kept q
unfolding unsupported
still_unsupported description Nothing q enables = refl
still_unsupported description (Number bus device) q enables = refl

module _ (d : Board) (q : Request) (enables : ℕ) (new : List ℕ) (w : q.writes ≡ false) where
  still : unsupported d.description d.capture (enabling q enables) ≡ unsupported d.description d.capture q
  still = still_unsupported d.description d.capture q enables

  unread : (u : Bool) → unsupported d.description d.capture q ≡ u → respond d q new ≡ respond d (enabling q enables) new
  unfolding shown_word
  unread true u = respond_unsupported d q new u ∙ sym (respond_unsupported d (enabling q enables) new (still ∙ u))
  unread false u = respond_read d q new u w ∙ sym (respond_read d (enabling q enables) new (still ∙ u) w)

module _ (d : Board) (p q : List ℕ) (same : SameButEnables p q) (w : (request_of p).writes ≡ false) where
  by_same : (n : ℕ) → by_number n d p ≡ by_number n d q
  by_same zero =
      unread d (request_of p) (request_of q).enables (data_of p) w _ refl ∙ ap₂ (respond d) same.requests same.«data»
  by_same (suc n) = refl

  number_same : (size : ℕ) → serve_number d p size ≡ serve_number d q size
  number_same size = ap (λ (n : ℕ). cond (badly_described d) 1 (cond (ltb size 16) 2 n)) (same.numbers d.description.edition)

pub enables_not_read : EnablesNotRead
unfolding serve
enables_not_read d p q size aside w =
    let same = enables_aside p q aside in
    by_same d p q same w (serve_number d p size) ∙ ap (λ (n : ℕ). by_number n d q) (number_same d p q same w size)

-- ---- all four

-- what is read is four bytes, and is what is picked
module _ (d : Board) (q : Request) where
  four_of : (t at : Bool)
      → let w = shown (cond t (four d.trusted.bytes q.offset) (cond at (correlation d) (four d.ordinary.bytes q.offset))) in
      (byte w 0 ∷ byte w 1 ∷ byte w 2 ∷ byte w 3 ∷ []) ≡ w
  four_of true at = shown_four _ _ _ _
  four_of false true = shown_four _ _ _ _
  four_of false false = shown_four _ _ _ _

  pub read_is_four : let w = read_word d q in (byte w 0 ∷ byte w 1 ∷ byte w 2 ∷ byte w 3 ∷ []) ≡ w
  unfolding shown_word
  read_is_four = four_of (is_trusted q.target) (eqb q.offset d.description.a)

  pub read_whole : read_word d q ≡ picked_word d.description d.ordinary.bytes d.trusted.bytes q
  unfolding shown_word
  read_whole = shown_whole (picked_word d.description d.ordinary.bytes d.trusted.bytes q)

  pub read_four : let w = read_word d q in
      (byte w 0 ∷ byte w 1 ∷ byte w 2 ∷ byte w 3 ∷ []) ≡ picked_word d.description d.ordinary.bytes d.trusted.bytes q
  read_four = read_is_four ∙ read_whole

  picked_whole : WholeWord d q (picked_word d.description d.ordinary.bytes d.trusted.bytes q)
  picked_whole =
      record {
        trusted = λ t. rw t;
        at_a = λ t e. rw (t, eq-eqb q.offset d.description.a e);
        ordinary = λ t h. rw (t, ne_eqb q.offset d.description.a h);
      }

  returned : (new : List ℕ) → unsupported d.description d.capture q ≡ false → q.writes ≡ false
      → drop 12 (respond d q new).written ≡ picked_word d.description d.ordinary.bytes d.trusted.bytes q
  unfolding with_data
  returned new u w = ap (λ (o : Outcome). drop 12 o.written) (respond_read d q new u w) ∙ read_four

pub reads_whole : ReadsWhole
reads_whole d p size n s w =
    rw (served d p size n, returned d (request_of p) (data_of p) (supported d p size _ refl n s) w) (picked_whole d (request_of p))
