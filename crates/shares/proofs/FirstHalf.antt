-- Demand 3, first half: two runs of well-described boards of the same edition with the same ordinary state, the same ordinary packets, reply sizes and resets,
-- and the same correlation register whenever an ordinary packet is served, agree in all that is ordinary. Assumes nothing.
use Prim.Native.Nat.{ℕ}
use mathlib.Core.Bool.{true, false, not, true≢false}
use mathlib.Core.List.{List, []}
use mathlib.Core.Option.{some}
use mathlib.Core.Path.{◌≡◌, refl, sym, ap, ap₂, ◌∙◌}
use borrow.Author.Tests.{not-true, not-false}
use Rattle.packet.specs.declared.Request.{Request}
use Rattle.packet.specs.Fields.{data_of}
use Rattle.packet.specs.Request.{number_under, trusted_under, is_trusted, request_of}
use Rattle.board.specs.Description.{Board, WellDescribed, after_reset}
use Rattle.board.specs.Access.{after_write, correlation, read_word, shown_word}
use Rattle.board.specs.Serving.{serve}
use Rattle.board.proofs.Refusals.{outcome_number}
use Rattle.board.specs.Promise.{space_of}
use Rattle.board.proofs.Keeps.{after_served}
use Rattle.runs.specs.Run.{Event, packet, reset, next}
use Rattle.shares.specs.Views.{OrdinaryState, edition_of, ordinary_state, ordinary_packet, trusted_packet, outcome, is_served, register}
use Rattle.shares.specs.Statements.{FirstHalf}
use Rattle.shares.proofs.Served.{served_iff, served_kind}
use Rattle.shares.proofs.Alike.{Alike, Same, Answered, number_same, served_alike}
use Rattle.shares.proofs.Boards.{boards_agree}

-- a board with a given ordinary state and correlation register, and nothing else
abbrev image : OrdinaryState → List ℕ → Board
image s register =
    record {
      description = record { function = s.function; a = s.a; b = 0; edition = s.edition };
      capture = s.capture;
      ordinary = s.space;
      trusted = space_of register [] [];
    }

-- ---- the access

module _ (d : Board) (q : Request) where
  trusted_write_keeps : (new : List ℕ) → is_trusted q.target ≡ true → ordinary_state (after_write d q new) ≡ ordinary_state d
  unfolding after_write
  trusted_write_keeps new t = rw t

  module _ (t : is_trusted q.target ≡ false) where
    -- an ordinary write sees the ordinary state, and an ordinary read the register besides
    write_sees : (new : List ℕ) → ordinary_state (after_write d q new) ≡ ordinary_state (after_write (image (ordinary_state d) []) q new)
    unfolding after_write
    write_sees new = rw t

    read_sees : read_word d q ≡ read_word (image (ordinary_state d) (correlation d)) q
    unfolding shown_word
    read_sees = rw t

alike : (d e : Board) → ordinary_state d ≡ ordinary_state e → Alike ordinary_state d e
alike d e v =
    record { views = v; functions = ap (λ (s : OrdinaryState). s.function) v; captures = ap (λ (s : OrdinaryState). s.capture) v }

answered : (d e : Board) (q : Request) (new : List ℕ) → is_trusted q.target ≡ false → ordinary_state d ≡ ordinary_state e
    → correlation d ≡ correlation e → Answered ordinary_state d e q new
answered d e q new t v c =
    record {
      stores =
          alike (after_write d q new) (after_write e q new)
          (write_sees d q t new ∙ ap (λ (s : OrdinaryState). ordinary_state (after_write (image s []) q new)) v ∙ sym (write_sees e q t new));
      reads = read_sees d q t ∙ ap₂ (λ s k. read_word (image s k) q) v c ∙ sym (read_sees e q t);
    }

-- ---- the laws

-- what the register holds when an ordinary packet is served
served_register : (d e : Board) (bytes : List ℕ) (size : ℕ) → WellDescribed d → edition_of d ≡ edition_of e
    → register d (packet bytes size) ≡ register e (packet bytes size) → (serve d bytes size).number ≡ 0 → correlation d ≡ correlation e
served_register d e bytes size w n k m =
    let s = (served_iff d bytes size w).0 m in
    let c : some (correlation d) ≡ some (correlation e) = rw (s, ap (λ (x : ℕ). is_served x bytes size) (sym n) ∙ s) at k in
    cc

within : (n : ℕ) (x : Event) → not (trusted_packet n x) ≡ false → ordinary_packet n x ≡ false
within n (packet bytes size) h = h
within n reset h = refl

both : (m n : ℕ) (x : Event) → not (trusted_packet m x) ≡ true → not (trusted_packet n x) ≡ true → ordinary_packet m x ≡ ordinary_packet n x
both m n (packet bytes size) h j = h ∙ sym j
both m n reset h j = refl

hidden : (d : Board) (x : Event) → not (trusted_packet (edition_of d) x) ≡ false → ordinary_state (next d x) ≡ ordinary_state d
hidden d (packet bytes size) h =
    after_served (λ b. ordinary_state b ≡ ordinary_state d) d bytes size refl (λ n.
    trusted_write_keeps d (request_of bytes) (data_of bytes) (served_kind d bytes size n ∙ not-false (trusted_under (edition_of d) bytes) h))
hidden d reset h = absurd (true≢false h)

stepped : (d e : Board) (x : Event) → WellDescribed d → WellDescribed e → not (trusted_packet (edition_of d) x) ≡ true
    → not (trusted_packet (edition_of e) x) ≡ true → ordinary_state d ≡ ordinary_state e → (ordinary_packet (edition_of d) x ≡ true → register d x ≡ register e x)
    → Same ordinary_state (outcome d x) (outcome e x)
stepped d e (packet bytes size) w u h j v k =
    let n = ap (λ (s : OrdinaryState). s.edition) v in
    served_alike ordinary_state d e bytes size (number_same d e bytes size w u (ap (λ (x : ℕ). number_under x bytes) n)) (alike d e v) (λ m o.
    answered d e (request_of bytes) (data_of bytes)
    (served_kind d bytes size (sym (outcome_number d bytes size) ∙ m) ∙ not-true (trusted_under (edition_of d) bytes) h) v
    (served_register d e bytes size w n (k h) m))
stepped d e reset w u h j v k =
    record {
      numbers = refl;
      written = refl;
      afters = alike (after_reset d) (after_reset e) (ap (λ (s : OrdinaryState). ordinary_state (after_reset (image s []))) v);
    }

pub first_half : FirstHalf
first_half =
    boards_agree (λ n x. not (trusted_packet n x)) ordinary_packet ordinary_state (λ s. s.space) register
    (record { within = within; both = both; hidden = hidden; stepped = stepped })
