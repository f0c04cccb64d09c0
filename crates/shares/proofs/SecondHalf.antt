-- Demand 3, second half: two runs of well-described boards with the same edition, function number, trusted bytes, rules and marks, the same trusted packets
-- and reply sizes, and the same capture at each of them, agree in all that is trusted. That the editions are the same is not needed for it, since what is
-- trusted under both has the same number under both. Assumes nothing.
use Prim.Native.Nat.{ℕ}
use mathlib.Core.Bool.{true, false, false≢true}
use mathlib.Core.List.{List, [], ◌∷◌}
use mathlib.Core.Path.{◌≡◌, refl, sym, ap, ◌∙◌}
use Rattle.packet.specs.declared.Request.{Request}
use Rattle.packet.specs.Fields.{data_of}
use Rattle.packet.specs.Request.{is_trusted, request_of}
use Rattle.capture.specs.declared.Capture.TheVariants.{Nothing}
use Rattle.board.specs.Description.{Board, WellDescribed}
use Rattle.board.specs.Access.{after_write, read_word, shown_word}
use Rattle.board.specs.Promise.{space_of}
use Rattle.board.proofs.Keeps.{after_served}
use Rattle.runs.specs.Run.{Event, packet, reset, next, after}
use Rattle.shares.specs.Views.{TrustedState, edition_of, trusted_state, trusted_packet, trusted_packets, trusted_sights, captures, outcome}
use Rattle.shares.specs.Statements.{SecondHalf}
use Rattle.packet.proofs.Laws.{trusted_number}
use Rattle.board.proofs.Refusals.{outcome_number}
use Rattle.shares.proofs.Served.{served_kind}
use Rattle.shares.proofs.Alike.{Alike, Same, Answered, number_same, served_alike}
use Rattle.shares.proofs.Boards.{edition_kept, boards_agree}
use Rattle.shares.proofs.Half.{Half}

-- the trusted state but for the edition
abbrev pub but_trusted_edition : TrustedState → TrustedState
but_trusted_edition s = record { edition = 0; function = s.function; space = s.space }

abbrev view : Board → TrustedState
view d = but_trusted_edition (trusted_state d)

-- a board with a given trusted state, and nothing else
abbrev image : TrustedState → Board
image s =
    record {
      description = record { function = s.function; a = 0; b = 0; edition = s.edition };
      capture = Nothing;
      ordinary = space_of [] [] [];
      trusted = s.space;
    }

-- ---- the access

module _ (d : Board) (q : Request) where
  ordinary_write_keeps : (new : List ℕ) → is_trusted q.target ≡ false → view (after_write d q new) ≡ view d
  unfolding after_write
  ordinary_write_keeps new t = rw t

  module _ (t : is_trusted q.target ≡ true) where
    -- a trusted write and a trusted read see the trusted state, and no trusted request captures
    write_sees : (new : List ℕ) → view (after_write d q new) ≡ view (after_write (image (view d)) q new)
    unfolding after_write
    write_sees new = rw t

    write_captures : (new : List ℕ) → (after_write d q new).capture ≡ d.capture
    unfolding after_write
    write_captures new = rw t

    read_sees : read_word d q ≡ read_word (image (view d)) q
    unfolding shown_word
    read_sees = rw t

-- ---- the laws

alike : (d e : Board) → view d ≡ view e → d.capture ≡ e.capture → Alike view d e
alike d e v k = record { views = v; functions = ap (λ (s : TrustedState). s.function) v; captures = k }

answered : (d e : Board) (q : Request) (new : List ℕ) → is_trusted q.target ≡ true → view d ≡ view e → d.capture ≡ e.capture
    → Answered view d e q new
answered d e q new t v k =
    record {
      stores =
          alike (after_write d q new) (after_write e q new)
          (write_sees d q t new ∙ ap (λ (s : TrustedState). view (after_write (image s) q new)) v ∙ sym (write_sees e q t new))
          (write_captures d q t new ∙ k ∙ sym (write_captures e q t new));
      reads = read_sees d q t ∙ ap (λ (s : TrustedState). read_word (image s) q) v ∙ sym (read_sees e q t);
    }

hidden : (d : Board) (x : Event) → trusted_packet (edition_of d) x ≡ false → view (next d x) ≡ view d
hidden d (packet bytes size) h =
    after_served (λ b. view b ≡ view d) d bytes size refl (λ n.
    ordinary_write_keeps d (request_of bytes) (data_of bytes) (served_kind d bytes size n ∙ h))
hidden d reset h = refl

-- what is trusted under both editions has the same number under both
stepped : (d e : Board) (x : Event) → WellDescribed d → WellDescribed e → trusted_packet (edition_of d) x ≡ true → trusted_packet (edition_of e) x ≡ true
    → view d ≡ view e → (trusted_packet (edition_of d) x ≡ true → d.capture ≡ e.capture) → Same view (outcome d x) (outcome e x)
stepped d e (packet bytes size) w u h j v k =
    let n = trusted_number (edition_of d) bytes h ∙ sym (trusted_number (edition_of e) bytes j) in
    served_alike view d e bytes size (number_same d e bytes size w u n) (alike d e v (k h)) (λ m o.
    answered d e (request_of bytes) (data_of bytes) (served_kind d bytes size (sym (outcome_number d bytes size) ∙ m) ∙ h) v (k h))
stepped d e reset w u h j v k = absurd (false≢true h)

-- THEOREM. The second half, of boards whose editions may differ: each run's trusted packets are those under its own.
abbrev pub SecondHalfOfEditions : Type 0
SecondHalfOfEditions =
    Half (λ d run. WellDescribed d) (λ d. but_trusted_edition (trusted_state d)) trusted_packets captures trusted_sights after

pub second_half_of_editions : SecondHalfOfEditions
second_half_of_editions =
    boards_agree trusted_packet trusted_packet view (λ s. s.space) (λ b x. b.capture)
    (record { within = λ n x h. h; both = λ m n x h j. h ∙ sym j; hidden = hidden; stepped = stepped })

-- the edition at a run's end is that at its start
after_edition : (d : Board) (es : List Event) → edition_of (after d es) ≡ edition_of d
after_edition d [] = refl
after_edition d (x ∷ es) = after_edition (next d x) es ∙ edition_kept d x

pub second_half : SecondHalf
second_half d e es fs w u v o k =
    let r = second_half_of_editions d e es fs w u (ap but_trusted_edition v) o k in
    let n = after_edition d es ∙ ap (λ (s : TrustedState). s.edition) v ∙ sym (after_edition e fs) in
    (r.0, λ i. record { edition = n i; function = (r.1 i).function; space = (r.1 i).space })
