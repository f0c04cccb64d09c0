-- A write that is answered "successful" lands. It leaves the merge of what stood there, the rules, the marks and the data in the four bytes at its
-- offset, and every other byte and word of both spaces as it was, so that no two offsets reach the same byte; an ordinary write at A leaves
-- every byte as it was. An ordinary write captures, a trusted one does not. Nothing else that a packet can ask for, and no refusal, changes a
-- byte or the capture. Assumes nothing.
use Prim.Native.Nat.{ℕ, zero, suc, ◌+◌, ◌%◌, ◌≤◌, ◌<◌}
use mathlib.Core.Bool.{Bool, true, false}
use mathlib.Core.List.{List, [], ◌∷◌}
use mathlib.Core.Logic.{◌⊎◌, inl, inr, ⊎_elim}
use mathlib.Core.Path.{◌≡◌, refl, sym, ap, ◌∙◌}
use native.Mathlib.Nat.{add-zero}
use native.Mathlib.Omega.{arith}
use lib.ListN.{length}
use Rattle.words.specs.Bytes.{byte, four, put}
use Rattle.words.proofs.Laws.{put_there, put_before, put_after, put_length, four_elsewhere}
use Rattle.registers.specs.Merge.{merged}
use Rattle.registers.proofs.Laws.{merged_length, merged_four}
use Rattle.packet.specs.declared.Request.{Request}
use Rattle.packet.specs.Fields.{data_of}
use Rattle.packet.specs.Request.{is_trusted, request_of}
use Rattle.packet.specs.declared.Status.TheVariants.{Success, Unsupported}
use Rattle.packet.specs.Completion.{status_byte, with_data, without_data}
use Rattle.packet.proofs.Laws.{offset_inside, offset_aligned}
use Rattle.capture.specs.declared.Capture.TheVariants.{Number}
use Rattle.board.specs.Description.{Space, with_bytes, Board, WellDescribed}
use Rattle.board.specs.Access.{unsupported, stored_bytes, after_write}
use Rattle.board.specs.Serving.{Outcome, respond, serve_number, by_number, serve}
use Rattle.board.proofs.Laws.{well_described, stored_at_a, stored_ordinary_lem}
use Rattle.board.proofs.Outcomes.{respond_unsupported, respond_write, respond_read, refused_is}
use Rattle.board.proofs.Refusals.{outcome_number}

-- a space after a write: its size, the four bytes, every other byte, every other word, and the rules and marks
pub record Landed (before after : Space) (q : Request) (new : List ℕ) : Type 0 where
  pub size : length after.bytes ≡ length before.bytes
  pub there : four after.bytes q.offset
      ≡ merged (four before.bytes q.offset) (four before.rules q.offset) (four before.marks q.offset) new q.enables
  pub elsewhere : (k : ℕ) → (k < q.offset) ⊎ (q.offset + 4 ≤ k) → byte after.bytes k ≡ byte before.bytes k
  pub words : (o : ℕ) → o % 4 ≡ 0 → (o ≡ q.offset → ⊥) → four after.bytes o ≡ four before.bytes o
  pub rules : after.rules ≡ before.rules
  pub marks : after.marks ≡ before.marks

-- a trusted write, an ordinary one at A, any other ordinary one: the capture, and what is left of the two spaces
pub record Writes (d e : Board) (q : Request) (new : List ℕ) : Type 0 where
  pub trusted : is_trusted q.target ≡ true → (e.capture ≡ d.capture) × Landed d.trusted e.trusted q new × (e.ordinary ≡ d.ordinary)
  pub at_a : is_trusted q.target ≡ false → q.offset ≡ d.description.a
      → (e.capture ≡ Number q.bus q.device) × (e.ordinary ≡ d.ordinary) × (e.trusted ≡ d.trusted)
  pub ordinary : is_trusted q.target ≡ false → (q.offset ≡ d.description.a → ⊥)
      → (e.capture ≡ Number q.bus q.device) × Landed d.ordinary e.ordinary q new × (e.trusted ≡ d.trusted)

-- the statements: a write that is served, with a status byte that says success
abbrev pub WriteLands : Type 0
WriteLands =
    (d : Board) (p : List ℕ) (size : ℕ) → WellDescribed d → (serve d p size).number ≡ 0 → byte (serve d p size).written 6 ≡ status_byte Success
    → (request_of p).writes ≡ true → Writes d (serve d p size).after (request_of p) (data_of p)

-- and a packet that is refused, is answered UR, or reads
abbrev pub OthersKeep : Type 0
OthersKeep =
    (d : Board) (p : List ℕ) (size : ℕ)
    → (((serve d p size).number ≡ 0 → ⊥) ⊎ ((byte (serve d p size).written 6 ≡ status_byte Unsupported) ⊎ ((request_of p).writes ≡ false)))
    → (serve d p size).after ≡ d

-- ---- a store

module _ (s : Space) (q : Request) (new : List ℕ) (whole : length s.bytes ≡ 4096) (inside : q.offset + 4 ≤ 4096) (aligned : q.offset % 4 ≡ 0)
  where
    word : List ℕ
    word = merged (four s.bytes q.offset) (four s.rules q.offset) (four s.marks q.offset) new q.enables

    fits : q.offset + length word ≤ length s.bytes
    unfolding word
    fits = rw merged_length (omega arith)

    small : (k : ℕ) → k < 4 → k < length word
    unfolding word
    small k h = rw merged_length h

    stored_there : four (stored_bytes s q new) q.offset ≡ word
    unfolding stored_bytes word
    stored_there =
        (λ i.
        (ap (byte (put s.bytes q.offset word)) (sym (add-zero q.offset)) ∙ put_there s.bytes q.offset word fits 0 (small 0 (omega arith))) i
        ∷ put_there s.bytes q.offset word fits 1 (small 1 (omega arith)) i
        ∷ put_there s.bytes q.offset word fits 2 (small 2 (omega arith)) i
        ∷ put_there s.bytes q.offset word fits 3 (small 3 (omega arith)) i
        ∷ [])
        ∙ merged_four (four s.bytes q.offset) (four s.rules q.offset) (four s.marks q.offset) new q.enables

    stored_elsewhere : (k : ℕ) → (k < q.offset) ⊎ (q.offset + 4 ≤ k) → byte (stored_bytes s q new) k ≡ byte s.bytes k
    unfolding stored_bytes word
    stored_elsewhere k =
        ⊎_elim
        (λ h. put_before s.bytes q.offset word fits k h)
        (λ h. put_after s.bytes q.offset word fits k (rw merged_length h))

    landed : Landed s (with_bytes s (stored_bytes s q new)) q new
    unfolding word stored_bytes
    landed =
        record {
          size = put_length s.bytes q.offset word fits;
          there = stored_there;
          elsewhere = stored_elsewhere;
          words = λ o a h. four_elsewhere s.bytes q.offset word o fits (merged_length _ _ _ _ _) aligned a h;
          rules = refl;
          marks = refl;
        }

-- ---- the write of a request

written : (d : Board) (q : Request) (new : List ℕ) → WellDescribed d → q.offset + 4 ≤ 4096 → q.offset % 4 ≡ 0
    → Writes d (after_write d q new) q new
unfolding after_write
written d q new e inside aligned =
    let w = well_described d e in
    record {
      trusted = λ t. rw t (refl, landed d.trusted q new w.trusted.bytes inside aligned, refl);
      at_a = λ t a. rw (t, stored_at_a d.description.a d.ordinary q new a) (refl, refl, refl);
      ordinary = λ t h.
          rw (t, stored_ordinary_lem d.description.a d.ordinary q new h)
          (refl, landed d.ordinary q new w.ordinary.bytes inside aligned, refl);
    }

-- ---- by the answer

pub served : (d : Board) (p : List ℕ) (size : ℕ) → (serve d p size).number ≡ 0 → serve d p size ≡ respond d (request_of p) (data_of p)
unfolding serve
served d p size n = rw (sym (outcome_number d p size) ∙ n)

-- the status byte of what is unsupported
status : (d : Board) (q : Request) (new : List ℕ) → unsupported d.description d.capture q ≡ true
    → byte (respond d q new).written 6 ≡ status_byte Unsupported
unfolding without_data
status d q new u = rw (respond_unsupported d q new u)

-- and of a write that succeeds, or a read
succeeded : (d : Board) (q : Request) (new : List ℕ) (writes : Bool) → q.writes ≡ writes → unsupported d.description d.capture q ≡ false
    → byte (respond d q new).written 6 ≡ status_byte Success
unfolding without_data with_data
succeeded d q new true w u = rw (respond_write d q new u w)
succeeded d q new false w u = rw (respond_read d q new u w)

pub supported : (d : Board) (p : List ℕ) (size : ℕ) (u : Bool) → unsupported d.description d.capture (request_of p) ≡ u
    → (serve d p size).number ≡ 0 → byte (serve d p size).written 6 ≡ status_byte Success → unsupported d.description d.capture (request_of p) ≡ false
supported d p size true u n s =
    absurd (omega (arith, sym (status d (request_of p) (data_of p) u) ∙ ap (λ (o : Outcome). byte o.written 6) (sym (served d p size n)) ∙ s))
supported d p size false u n s = u

pub write_lands : WriteLands
write_lands d p size e n s w =
    rw (served d p size n, respond_write d (request_of p) (data_of p) (supported d p size _ refl n s) w)
    (written d (request_of p) (data_of p) e (offset_inside p) (offset_aligned p))

-- ---- everything else

kept_refused : (d : Board) (p : List ℕ) (size : ℕ) → ((serve d p size).number ≡ 0 → ⊥) → (serve d p size).after ≡ d
unfolding serve
kept_refused d p size h = rw (refused_is (serve_number d p size) d p (λ z. h (outcome_number d p size ∙ z)))

kept_response : (d : Board) (q : Request) (new : List ℕ) (u writes : Bool) → unsupported d.description d.capture q ≡ u → q.writes ≡ writes
    → (byte (respond d q new).written 6 ≡ status_byte Unsupported) ⊎ (writes ≡ false) → (respond d q new).after ≡ d
kept_response d q new true writes u w h = rw (respond_unsupported d q new u)
kept_response d q new false false u w h = rw (respond_read d q new u w)
kept_response d q new false true u w (inl s) = absurd (omega (arith, sym (succeeded d q new true w u) ∙ s))
kept_response d q new false true u w (inr f) = let z : ◌≡◌ {A = ℕ} 0 1 = cc in absurd (omega arith)

kept_number : (d : Board) (p : List ℕ) (n : ℕ) → (byte (by_number n d p).written 6 ≡ status_byte Unsupported) ⊎ ((request_of p).writes ≡ false)
    → (by_number n d p).after ≡ d
kept_number d p zero h = kept_response d (request_of p) (data_of p) _ _ refl refl h
kept_number d p (suc n) h = refl

kept_either : (d : Board) (p : List ℕ) (size : ℕ)
    → (byte (serve d p size).written 6 ≡ status_byte Unsupported) ⊎ ((request_of p).writes ≡ false) → (serve d p size).after ≡ d
unfolding serve
kept_either d p size h = kept_number d p (serve_number d p size) h

pub others_keep : OthersKeep
others_keep d p size = ⊎_elim (kept_refused d p size) (kept_either d p size)
