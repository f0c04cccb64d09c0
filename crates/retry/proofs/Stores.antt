-- A write to a space, and to a board, twice: with the same data at the same place, what two sets of enables leave is what both together leave. Assumes nothing.
use Prim.Native.Nat.{ℕ, ◌+◌, ◌≤◌}
use mathlib.Core.Bool.{Bool, true, false}
use mathlib.Core.List.{List, [], ◌∷◌}
use mathlib.Core.Path.{◌≡◌, refl, sym, ap, ◌∙◌}
use native.Mathlib.Nat.{add-zero}
use native.Mathlib.Omega.{arith}
use lib.Bits.{bit_or}
use lib.Dec.{eqb}
use lib.ListN.{length}
use Rattle.words.specs.Bytes.{byte, four, put}
use Rattle.words.proofs.Laws.{put_there, put_again}
use Rattle.registers.specs.Merge.{merged}
use Rattle.registers.proofs.Laws.{merged_length}
use Rattle.registers.proofs.Twice.{merged_twice}
use Rattle.packet.specs.declared.Request.{Request}
use Rattle.packet.specs.Request.{is_trusted}
use Rattle.packet.proofs.EnablesAside.{enabling}
use Rattle.capture.specs.Kept.{captured}
use Rattle.board.specs.Description.{Space, with_bytes, Board}
use Rattle.board.specs.Access.{stored_bytes, stored_ordinary, after_write}

-- ---- a space

module _ (s : Space) (q : Request) (new : List ℕ) (inside : q.offset + 4 ≤ length s.bytes) where
  word : ℕ → List ℕ
  word enables = merged (four s.bytes q.offset) (four s.rules q.offset) (four s.marks q.offset) new enables

  fits : (enables : ℕ) → q.offset + length (word enables) ≤ length s.bytes
  unfolding word
  fits enables = rw (merged_length (four s.bytes q.offset) (four s.rules q.offset) (four s.marks q.offset) new enables) inside

  there : four (put s.bytes q.offset (word q.enables)) q.offset ≡ word q.enables
  unfolding word merged
  there =
      let at = put_there s.bytes q.offset (word q.enables) (fits q.enables) in
      (λ i. (ap (byte (put s.bytes q.offset (word q.enables))) (sym (add-zero q.offset)) ∙ at 0 (omega arith)) i
      ∷ at 1 (omega arith) i ∷ at 2 (omega arith) i ∷ at 3 (omega arith) i ∷ [])

  -- THEOREM. A space that is written twice
  pub stored_twice : (second : ℕ)
      → stored_bytes (with_bytes s (stored_bytes s q new)) (enabling q second) new ≡ stored_bytes s (enabling q (bit_or q.enables second)) new
  unfolding stored_bytes word
  stored_twice second =
      let rules : List ℕ = four s.rules q.offset in
      let marks : List ℕ = four s.marks q.offset in
      let once : List ℕ = word q.enables in
      ap (λ (w : List ℕ). put (put s.bytes q.offset once) q.offset (merged w rules marks new second)) there
      ∙ put_again s.bytes q.offset once (merged once rules marks new second) (fits q.enables)
      (merged_length once rules marks new second ∙ sym (merged_length (four s.bytes q.offset) rules marks new q.enables))
      ∙ ap (put s.bytes q.offset) (merged_twice (four s.bytes q.offset) rules marks new q.enables second)

  -- at A nothing is written, once or twice
  stored_besides : (a second : ℕ) (at : Bool) → eqb q.offset a ≡ at
      → stored_ordinary a (with_bytes s (stored_ordinary a s q new)) (enabling q second) new ≡ stored_ordinary a s (enabling q (bit_or q.enables second)) new
  unfolding stored_ordinary
  stored_besides a second true e = rw e
  stored_besides a second false e = rw e (stored_twice second)

-- ---- a board

module _ (d : Board) (q : Request) (new : List ℕ) (ordinary : q.offset + 4 ≤ length d.ordinary.bytes) (trusted : q.offset + 4 ≤ length d.trusted.bytes) where
  twice_by : (second : ℕ) (t : Bool) → is_trusted q.target ≡ t
      → after_write (after_write d q new) (enabling q second) new ≡ after_write d (enabling q (bit_or q.enables second)) new
  unfolding after_write
  twice_by second true t = rw t (λ i. record { description = d.description; capture = d.capture; ordinary = d.ordinary; trusted = with_bytes d.trusted (stored_twice d.trusted q new trusted second i) })
  twice_by second false t =
      rw t
      (λ i.
      record {
        description = d.description;
        capture = captured d.capture q.bus q.device;
        ordinary = with_bytes d.ordinary (stored_besides d.ordinary q new ordinary d.description.a second _ refl i);
        trusted = d.trusted;
      })

  -- THEOREM. A board that is written twice: both spaces and the capture
  pub written_twice : (second : ℕ) → after_write (after_write d q new) (enabling q second) new ≡ after_write d (enabling q (bit_or q.enables second)) new
  written_twice second = twice_by second _ refl

-- what a write leaves hangs on these parts of its request, and on no others
pub record SameParts (q r : Request) : Type 0 where
  pub target : q.target ≡ r.target
  pub bus : q.bus ≡ r.bus
  pub device : q.device ≡ r.device
  pub offset : q.offset ≡ r.offset
  pub enables : q.enables ≡ r.enables

pub after_same : (d : Board) (q r : Request) (new : List ℕ) → SameParts q r → after_write d q new ≡ after_write d r new
unfolding after_write stored_ordinary stored_bytes
after_same d q r new same = rw (same.target, same.bus, same.device, same.offset, same.enables)
