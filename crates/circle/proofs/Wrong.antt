-- THEOREMS. No writer and no reader with one of the faults that a newcomer makes meets its promise, whatever else it does; for each fault there is an input
-- that shows it. Assumes nothing.
use Prim.Native.Nat.{ℕ, ◌%◌, ◌<◌}
use mathlib.Core.Bool.{Bool, true, false, cond}
use mathlib.Core.List.{List, [], ◌∷◌}
use mathlib.Core.Path.{◌≡◌, refl, sym, ap, ◌∙◌}
use native.Mathlib.Omega.{arith}
use borrow.Author.Tests.{ne_eqb, eqb-true, ltb-false, not-false}
use Rattle.std.specs.Prelude.{Result, Ok}
use Rattle.answers.specs.declared.Refusal.{Refusal}
use Rattle.answers.proofs.Checks.{NoneOf, none_of}
use Rattle.words.specs.Bytes.{byte}
use Rattle.packet.specs.Fields.{type_of}
use Rattle.packet.specs.Request.{unknown}
use Rattle.asking.specs.declared.Parts.{Parts}
use Rattle.asking.specs.declared.Completion.{Completion}
use Rattle.asking.specs.Writing.{outside, asks_write, told_written, write_number, Writes}
use Rattle.asking.specs.Reading.{has_data, other_status, read_number, Reads}
use Rattle.asking.proofs.Numbers.{served_packet}
use Rattle.circle.proofs.Exactly.{sound}

-- the statements, of whatever a writer answers and leaves. It writes for a device over 31, which spills into the bus or is cut, for enables over 15, which
-- spill into the last enables, for an offset that is no multiple of 4, which it may drop to one, or for a kind outside the six; it writes data for a read
pub record WrongWritersCaught (a : Parts) (new buffer : List ℕ) (w : Result ℕ Refusal) (after : List ℕ) (meets : Writes a new buffer w after) : Type 0 where
  pub device : 31 < a.device → (told_written w after).number ≡ 0 → ⊥
  pub enables : 15 < a.enables → (told_written w after).number ≡ 0 → ⊥
  pub offset : (a.offset % 4 ≡ 0 → ⊥) → (told_written w after).number ≡ 0 → ⊥
  pub kind : unknown (type_of a.kind) ≡ true → (told_written w after).number ≡ 0 → ⊥
  pub read_data : asks_write a ≡ false → (told_written w after).number ≡ 0 → 12 < (told_written w after).count → ⊥

-- a reader that takes a status other than 00h and 20h, or a UR with data
pub record WrongReadersCaught (c : List ℕ) (completion : Completion) (meets : Reads c (Ok completion)) : Type 0 where
  pub status : (byte c 6 ≡ 0x00 → ⊥) → (byte c 6 ≡ 0x20 → ⊥) → ⊥
  pub with_data : byte c 0 ≡ 0x4a → byte c 6 ≡ 0x20 → ⊥

-- the inputs that show them: parts with one fault each, and room enough; two completions
abbrev parts : ℕ → ℕ → ℕ → ℕ → Parts
parts kind device offset enables =
    record { kind = kind; requester = record { high = 1; low = 0 }; tag = 7; bus = 5; device = device; function = 0; offset = offset; enables = enables }

abbrev completion : ℕ → ℕ → List ℕ → List ℕ
completion first status rest = first ∷ 0 ∷ 0 ∷ (cond (has_data (first ∷ [])) 1 0) ∷ 5 ∷ 0x18 ∷ status ∷ 4 ∷ 1 ∷ 0 ∷ 7 ∷ 0 ∷ rest

pub record ShownBy : Type 0 where
  pub right : write_number (parts 0x44 31 0x004 15) 16 ≡ 0
  pub device : write_number (parts 0x44 32 0x004 15) 16 ≡ 1
  pub enables : write_number (parts 0x44 31 0x004 16) 16 ≡ 1
  pub offset : write_number (parts 0x44 31 0x006 15) 16 ≡ 1
  pub kind : write_number (parts 0xc4 31 0x004 15) 16 ≡ 1
  pub read : (write_number (parts 0x04 31 0x004 15) 12 ≡ 0) × (asks_write (parts 0x04 31 0x004 15) ≡ false)
  pub status : read_number (completion 0x0a 0x40 []) ≡ 6
  pub with_data : read_number (completion 0x4a 0x20 (8 ∷ 0 ∷ 0 ∷ 0 ∷ [])) ≡ 6

abbrev pub WrongAskersCaught : Type 0
WrongAskersCaught =
    ((a : Parts) (new buffer : List ℕ) (w : Result ℕ Refusal) (after : List ℕ) (meets : Writes a new buffer w after) → WrongWritersCaught a new buffer w after meets)
    × ((c : List ℕ) (completion : Completion) (meets : Reads c (Ok completion)) → WrongReadersCaught c completion meets)
    × ShownBy

-- ---- writers

contrary : (b : Bool) → b ≡ false → b ≡ true → ⊥
contrary b f t = let z : ◌≡◌ {A = ℕ} 0 1 = ap (λ (x : Bool). cond x 1 0) (sym f ∙ t) in omega (arith, z)

module _ (a : Parts) (new buffer : List ℕ) (w : Result ℕ Refusal) (after : List ℕ) (meets : Writes a new buffer w after) where
  none : (told_written w after).number ≡ 0 → NoneOf (outside a)
  none n = none_of (outside a) (served_packet a new buffer w after meets n).0

  writers : WrongWritersCaught a new buffer w after meets
  writers =
      record {
        device = λ h n. omega (arith, h, ltb-false 31 a.device (none n).1.0);
        enables = λ h n. omega (arith, h, ltb-false 15 a.enables (none n).1.1.1.1.1.0);
        offset = λ h n. h (eqb-true (a.offset % 4) 0 (not-false _ (none n).1.1.1.1.0));
        kind = λ h n. contrary _ (none n).0 h;
        read_data = λ r n h.
            let size : (told_written w after).count ≡ 12 = (served_packet a new buffer w after meets n).2 ∙ ap (λ (x : Bool). cond x 16 12) r in
            omega (arith, h, size);
      }

-- ---- readers

other_status_lem : (with_data : Bool) (six : ℕ) → other_status with_data six ≡ false → (six ≡ 0x00 → ⊥) → (six ≡ 0x20 → ⊥) → ⊥
other_status_lem true six e h k = contrary (other_status true six) e (rw (ne_eqb six 0x00 h))
other_status_lem false six e h k = contrary (other_status false six) e (rw (ne_eqb six 0x00 h, ne_eqb six 0x20 k))

readers : (c : List ℕ) (completion : Completion) (meets : Reads c (Ok completion)) → WrongReadersCaught c completion meets
readers c completion meets =
    let s = sound c meets.0 in
    record {
      status = other_status_lem (has_data c) (byte c 6) s.six;
      with_data = λ first six. contrary _ s.six (rw (first, six));
    }

pub wrong_askers_caught : WrongAskersCaught
unfolding type_of
wrong_askers_caught = (
  writers,
  readers,
  record {
    right = refl;
    device = refl;
    enables = refl;
    offset = refl;
    kind = refl;
    read = (refl, refl);
    status = refl;
    with_data = refl;
  },
)
