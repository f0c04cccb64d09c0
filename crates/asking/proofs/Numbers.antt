-- THEOREM. `asking::write_request` gives the lowest number of its checks that applies, and writes exactly if none applies; it gives no other
-- number than 1 and 2. A refusal leaves the buffer as lent; otherwise it begins with the request, and the bytes past it stay.
-- `asking::read_completion` gives the lowest number of its checks that applies, and hears a completion exactly if none applies; it gives no
-- other number than 3 to 6. Assumes nothing.
use Prim.Native.Nat.{ℕ, zero, suc, ◌≤◌}
use mathlib.Core.Bool.{false}
use mathlib.Core.List.{List, [], ◌∷◌, ◌++◌, Memᴰ}
use mathlib.Core.Path.{◌≡◌, refl, sym, ap, ◌∙◌, subst}
use native.Mathlib.Omega.{arith}
use lib.ListN.{length, take, drop}
use lib.Seq.{take_at, drop_at}
use borrow.Author.Tests.{ltb-false}
use Rattle.answers.specs.Checks.{any}
use Rattle.std.specs.Prelude.{Result, Ok, Err}
use Rattle.answers.specs.declared.Refusal.{Refusal}
use Rattle.answers.specs.Numbers.{answered}
use Rattle.answers.proofs.Checks.{Lowest, Positive, Rising, none_applies, gives_lowest, gives_one_of}
use Rattle.asking.specs.declared.Parts.{Parts}
use Rattle.asking.specs.declared.Completion.{Completion}
use Rattle.asking.specs.Writing.{outside, asks_write, whole_of, write_checks, write_number, packet_of, SeenWritten, told_written, shows_written, Writes}
use Rattle.asking.specs.Reading.{read_checks, read_number, Reads}
use Rattle.asking.proofs.Laws.{bytes_length}

-- the statements; first the writer's number
pub record WriteNumber (a : Parts) (buffer : List ℕ) (n : ℕ) : Type 0 where
  pub lowest : Lowest (write_checks a (length buffer)) n
  pub only : Memᴰ n (0 ∷ 1 ∷ 2 ∷ [])

-- "write the 12 or 16 bytes into a lent buffer": what stands there where none is refused
pub record Served (a : Parts) (new buffer : List ℕ) (seen : SeenWritten) : Type 0 where
  pub inside : any (outside a) ≡ false
  pub room : whole_of a ≤ length buffer
  pub count : seen.count ≡ whole_of a
  pub packet : take seen.count seen.buffer ≡ packet_of a new
  pub stays : drop seen.count seen.buffer ≡ drop seen.count buffer

-- and where it is refused
pub record Unwritten (buffer : List ℕ) (seen : SeenWritten) : Type 0 where
  pub count : seen.count ≡ 0
  pub stays : seen.buffer ≡ buffer

-- the writer's answer as a whole
pub record WriteAnswer (a : Parts) (new buffer : List ℕ) (seen : SeenWritten) : Type 0 where
  pub numbers : WriteNumber a buffer seen.number
  pub served : seen.number ≡ 0 → Served a new buffer seen
  pub refused : (seen.number ≡ 0 → ⊥) → Unwritten buffer seen

pub record ReadNumber (c : List ℕ) (r : Result Completion Refusal) : Type 0 where
  pub lowest : Lowest (read_checks c) (answered r)
  pub only : Memᴰ (answered r) (0 ∷ 3 ∷ 4 ∷ 5 ∷ 6 ∷ [])

-- ---- the writer

pub positive : (a : Parts) (size : ℕ) → Positive (write_checks a size)
positive a size = omega arith

pub rising : (a : Parts) (size : ℕ) → Rising (write_checks a size)
rising a size = omega arith

pub packet_length : (a : Parts) (new : List ℕ) → length (packet_of a new) ≡ whole_of a
unfolding packet_of
packet_length a new = bytes_length a new (asks_write a)

-- what the promise shows, as the number is 0 or not
module _ (a : Parts) (new buffer : List ℕ) where
  number_shown : (shows_written a new buffer).number ≡ write_number a (length buffer)
  unfolding shows_written
  number_shown = refl

  pub served_shown : write_number a (length buffer) ≡ 0
      → shows_written a new buffer ≡ record { number = 0; count = length (packet_of a new); buffer = packet_of a new ++ drop (length (packet_of a new)) buffer }
  unfolding shows_written
  served_shown e = rw e

  pub refused_shown : (n : ℕ) → write_number a (length buffer) ≡ suc n → shows_written a new buffer ≡ record { number = suc n; count = 0; buffer = buffer }
  unfolding shows_written
  refused_shown n e = rw e

  served_inside : write_number a (length buffer) ≡ 0 → any (outside a) ≡ false
  served_inside e = none_applies (write_checks a (length buffer)) (positive a (length buffer)) e _ (Memᴰ.head refl)

  served_room : write_number a (length buffer) ≡ 0 → whole_of a ≤ length buffer
  served_room e =
      ltb-false (length buffer) (whole_of a)
      (none_applies (write_checks a (length buffer)) (positive a (length buffer)) e _ (Memᴰ.tail (Memᴰ.head refl)))

  served : (seen : SeenWritten) → write_number a (length buffer) ≡ 0 → seen ≡ shows_written a new buffer → Served a new buffer seen
  served seen e s =
      let shown = s ∙ served_shown e in
      let size : seen.count ≡ length (packet_of a new) = ap (λ (x : SeenWritten). x.count) shown in
      let bytes : seen.buffer ≡ packet_of a new ++ drop (length (packet_of a new)) buffer = ap (λ (x : SeenWritten). x.buffer) shown in
      record {
        inside = served_inside e;
        room = served_room e;
        count = size ∙ packet_length a new;
        packet = rw bytes (take_at (packet_of a new) (drop (length (packet_of a new)) buffer) seen.count (sym size));
        stays = rw bytes
            (drop_at (packet_of a new) (drop (length (packet_of a new)) buffer) seen.count (sym size) ∙ ap (λ (n : ℕ). drop n buffer) (sym size));
      }

  refused : (seen : SeenWritten) (n : ℕ) → write_number a (length buffer) ≡ n → (n ≡ 0 → ⊥) → seen ≡ shows_written a new buffer
      → Unwritten buffer seen
  refused seen zero e h s = absurd (h refl)
  refused seen (suc n) e h s =
      let shown = s ∙ refused_shown n e in
      record { count = ap (λ (x : SeenWritten). x.count) shown; stays = ap (λ (x : SeenWritten). x.buffer) shown }

  pub write_answer : (w : Result ℕ Refusal) (after : List ℕ) → Writes a new buffer w after → WriteAnswer a new buffer (told_written w after)
  write_answer w after e =
      let cs = write_checks a (length buffer) in
      let n : write_number a (length buffer) ≡ (told_written w after).number = sym (ap (λ (x : SeenWritten). x.number) e ∙ number_shown) in
      record {
        numbers = record {
          lowest = subst (Lowest cs) n (gives_lowest cs (positive a (length buffer)) (rising a (length buffer)));
          only = subst (λ (m : ℕ). Memᴰ m (0 ∷ 1 ∷ 2 ∷ [])) n (gives_one_of cs);
        };
        served = λ z. served (told_written w after) (n ∙ z) e;
        refused = λ h. refused (told_written w after) _ n h e;
      }

told_buffer : (w : Result ℕ Refusal) (after : List ℕ) → (told_written w after).buffer ≡ after
told_buffer (Ok count) after = refl
told_buffer (Err refusal) after = refl

-- a served request stands at the buffer's start
pub served_packet : (a : Parts) (new buffer : List ℕ) (w : Result ℕ Refusal) (after : List ℕ) → Writes a new buffer w after → (told_written w after).number ≡ 0
    → (any (outside a) ≡ false) × (whole_of a ≤ length buffer) × ((told_written w after).count ≡ whole_of a)
    × (take (told_written w after).count after ≡ packet_of a new)
served_packet a new buffer w after e z =
    let s = (write_answer a new buffer w after e).served z in
    (s.inside, s.room, s.count, ap (take (told_written w after).count) (sym (told_buffer w after)) ∙ s.packet)

-- ---- the reader

pub read_positive : (c : List ℕ) → Positive (read_checks c)
read_positive c = omega arith

pub read_rising : (c : List ℕ) → Rising (read_checks c)
read_rising c = omega arith

number_is : (c : List ℕ) (r : Result Completion Refusal) → Reads c r → read_number c ≡ answered r
number_is c (Ok completion) e = e.0
number_is c (Err refusal) e = e

pub read_number_lem : (c : List ℕ) (r : Result Completion Refusal) → Reads c r → ReadNumber c r
read_number_lem c r e =
    record {
      lowest = subst (Lowest (read_checks c)) (number_is c r e) (gives_lowest (read_checks c) (read_positive c) (read_rising c));
      only = subst (λ (n : ℕ). Memᴰ n (0 ∷ 3 ∷ 4 ∷ 5 ∷ 6 ∷ [])) (number_is c r e) (gives_one_of (read_checks c));
    }
