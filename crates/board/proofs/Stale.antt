-- "The bytes stored at A in the ordinary space never appear in a reply." Two well-described boards that differ in those four bytes at most
-- give the same number and write the same reply to every packet, and differ in those four bytes at most afterwards. Assumes nothing.
use Prim.Native.Nat.{ℕ, zero, suc, ◌+◌, ◌%◌, ◌≤◌}
use mathlib.Core.Bool.{Bool, true, false}
use mathlib.Core.List.{List}
use mathlib.Core.Path.{◌≡◌, refl, sym, ◌∙◌, subst}
use native.Mathlib.Omega.{arith}
use lib.Dec.{eqb}
use lib.ListN.{length}
use borrow.Author.Tests.{eqb-false, eqb-true}
use Rattle.words.specs.Bytes.{byte, four}
use Rattle.words.proofs.Laws.{Outside, words_agree, puts_agree, put_length}
use Rattle.registers.specs.Merge.{merged}
use Rattle.registers.proofs.Laws.{merged_length}
use Rattle.packet.specs.declared.Request.{Request}
use Rattle.packet.specs.Fields.{data_of}
use Rattle.packet.specs.Request.{is_trusted, request_of}
use Rattle.packet.proofs.Laws.{offset_inside, offset_aligned}
use Rattle.board.specs.Description.{with_bytes, Board, badly_described, WellDescribed}
use Rattle.board.specs.Access.{unsupported, stored_bytes, stored_ordinary, after_write, shown_word}
use Rattle.board.specs.Serving.{Outcome, respond, serve_number, by_number, serve}
use Rattle.board.proofs.Laws.{Well, well_described, stored_at_a, stored_ordinary_lem}
use Rattle.board.proofs.Outcomes.{respond_unsupported, respond_write, respond_read}

-- two spaces of the same size, with the same bytes but for the word at an offset
pub record SameBut (at : ℕ) (s t : List ℕ) : Type 0 where
  pub sizes : length s ≡ length t
  pub elsewhere : (k : ℕ) → Outside at k → byte s k ≡ byte t k

-- two boards that differ in the four bytes stored at A at most
pub record ButAtA (d e : Board) : Type 0 where
  pub description : d.description ≡ e.description
  pub capture : d.capture ≡ e.capture
  pub bytes : SameBut d.description.a d.ordinary.bytes e.ordinary.bytes
  pub rules : d.ordinary.rules ≡ e.ordinary.rules
  pub marks : d.ordinary.marks ≡ e.ordinary.marks
  pub trusted : d.trusted ≡ e.trusted

-- two outcomes that a caller could not tell apart but by reading the bytes at A in its own buffer
pub record AlikeButAtA (o u : Outcome) : Type 0 where
  pub numbers : o.number ≡ u.number
  pub written : o.written ≡ u.written
  pub afters : ButAtA o.after u.after

-- the statement
abbrev pub StaleNeverShown : Type 0
StaleNeverShown = (d e : Board) (p : List ℕ) (size : ℕ) → WellDescribed d → ButAtA d e → AlikeButAtA (serve d p size) (serve e p size)

-- ---- a board with other ordinary bytes

abbrev with_ordinary : Board → List ℕ → Board
with_ordinary d bytes =
    record { description = d.description; capture = d.capture; ordinary = with_bytes d.ordinary bytes; trusted = d.trusted }

is_with : (d e : Board) → ButAtA d e → with_ordinary d e.ordinary.bytes ≡ e
is_with d e b =
    λ i.
    record {
      description = b.description i;
      capture = b.capture i;
      ordinary = record { bytes = e.ordinary.bytes; rules = b.rules i; marks = b.marks i };
      trusted = b.trusted i;
    }

but : (d : Board) (bytes : List ℕ) → SameBut d.description.a d.ordinary.bytes bytes → ButAtA d (with_ordinary d bytes)
but d bytes s = record { description = refl; capture = refl; bytes = s; rules = refl; marks = refl; trusted = refl }

-- ---- the access, at an offset that is a multiple of 4 inside the space

module _ (d : Board) (other : List ℕ) (w : Well d) (s : SameBut d.description.a d.ordinary.bytes other) (q : Request)
    (aligned : q.offset % 4 ≡ 0) (inside : q.offset + 4 ≤ 4096) where
  four_same : (q.offset ≡ d.description.a → ⊥) → four d.ordinary.bytes q.offset ≡ four other q.offset
  four_same h = words_agree d.ordinary.bytes other d.description.a q.offset w.at_aaligned aligned h s.elsewhere

  read_same : (t at : Bool) → is_trusted q.target ≡ t → eqb q.offset d.description.a ≡ at
      → shown_word d.description d.ordinary.bytes d.trusted.bytes q ≡ shown_word d.description other d.trusted.bytes q
  unfolding shown_word
  read_same true at t e = rw t
  read_same false true t e = rw (t, e)
  read_same false false t e = rw (t, e, four_same (eqb-false q.offset d.description.a e))

  put_same : (new : List ℕ) → (q.offset ≡ d.description.a → ⊥)
      → SameBut d.description.a (stored_bytes d.ordinary q new) (stored_bytes (with_bytes d.ordinary other) q new)
  unfolding stored_bytes
  put_same new h =
      let word = merged (four other q.offset) (four d.ordinary.rules q.offset) (four d.ordinary.marks q.offset) new q.enables in
      let n : length word ≡ 4 = merged_length _ _ _ _ _ in
      let f : q.offset + length word ≤ length d.ordinary.bytes = omega (arith, w.ordinary.bytes) in
      let g : q.offset + length word ≤ length other = omega (arith, w.ordinary.bytes, s.sizes) in
      rw (four_same h)
      (record {
        sizes = put_length d.ordinary.bytes q.offset word f ∙ s.sizes ∙ sym (put_length other q.offset word g);
        elsewhere = λ k out. puts_agree d.ordinary.bytes other q.offset word f g k (s.elsewhere k out);
      })

  stored_same : (new : List ℕ) (at : Bool) → eqb q.offset d.description.a ≡ at
      → SameBut d.description.a (stored_ordinary d.description.a d.ordinary q new)
      (stored_ordinary d.description.a (with_bytes d.ordinary other) q new)
  stored_same new true e =
      let h = eqb-true q.offset d.description.a e in
      rw (
        stored_at_a d.description.a d.ordinary q new h,
        stored_at_a d.description.a (with_bytes d.ordinary other) q new h,
      ) s
  stored_same new false e =
      let h = eqb-false q.offset d.description.a e in
      rw (
        stored_ordinary_lem d.description.a d.ordinary q new h,
        stored_ordinary_lem d.description.a (with_bytes d.ordinary other) q new h,
      ) (put_same new h)

  write_same : (new : List ℕ) (t : Bool) → is_trusted q.target ≡ t → ButAtA (after_write d q new) (after_write (with_ordinary d other) q new)
  unfolding after_write
  write_same new true t = rw t (record { description = refl; capture = refl; bytes = s; rules = refl; marks = refl; trusted = refl })
  write_same new false t =
      rw t (record { description = refl; capture = refl; bytes = stored_same new _ refl; rules = refl; marks = refl; trusted = refl })

  -- ---- a response

  respond_same : (new : List ℕ) (u writes : Bool) → unsupported d.description d.capture q ≡ u → q.writes ≡ writes
      → AlikeButAtA (respond d q new) (respond (with_ordinary d other) q new)
  respond_same new true writes u e =
      rw (respond_unsupported d q new u, respond_unsupported (with_ordinary d other) q new u)
      (record { numbers = refl; written = refl; afters = but d other s })
  respond_same new false true u e =
      let b = write_same new _ refl in
      rw (respond_write d q new u e, respond_write (with_ordinary d other) q new u e)
      (record { numbers = refl; written = rw (b.capture, b.description); afters = b })
  respond_same new false false u e =
      rw (respond_read d q new u e, respond_read (with_ordinary d other) q new u e)
      (record { numbers = refl; written = rw (read_same _ _ refl refl); afters = but d other s })

-- ---- a packet

module _ (d : Board) (other : List ℕ) (w : Well d) (s : SameBut d.description.a d.ordinary.bytes other) (p : List ℕ) where
  number_same : (size : ℕ) → serve_number d p size ≡ serve_number (with_ordinary d other) p size
  unfolding badly_described
  number_same size = rw s.sizes

  by_same : (n : ℕ) → AlikeButAtA (by_number n d p) (by_number n (with_ordinary d other) p)
  by_same zero = respond_same d other w s (request_of p) (offset_aligned p) (offset_inside p) (data_of p) _ _ refl refl
  by_same (suc n) = record { numbers = refl; written = refl; afters = but d other s }

  served_same : (size : ℕ) → AlikeButAtA (serve d p size) (serve (with_ordinary d other) p size)
  unfolding serve
  served_same size =
      subst (λ (n : ℕ). AlikeButAtA (serve d p size) (by_number n (with_ordinary d other) p)) (number_same size) (by_same (serve_number d p size))

pub stale_never_shown : StaleNeverShown
stale_never_shown d e p size well b =
    subst (λ (x : Board). AlikeButAtA (serve d p size) (serve x p size)) (is_with d e b)
    (served_same d e.ordinary.bytes (well_described d well) b.bytes p size)
