-- Laws of the writer and the reader, one for each way through the code. Assumes nothing.
use Prim.Native.Nat.{ℕ, ◌+◌, ◌*◌, ◌%◌, ◌≤◌, ◌<◌}
use mathlib.Core.Bool.{Bool, true, false, not, cond, ◌||◌, or-false}
use mathlib.Core.List.{List, [], ◌∷◌, ◌++◌}
use mathlib.Core.Path.{◌≡◌, refl, sym, ap, ◌∙◌, subst}
use native.Mathlib.Nat.{zero-add, mod-eq_of_lt}
use native.Mathlib.Omega.{arith}
use lib.Bits.{bit_or, or_shifted}
use lib.Dec.{eqb, leb}
use lib.ListN.{length}
use borrow.Author.Tests.{eq-eqb, lt-ltb, le-ltb, ltb-false, leb-true, leb-false}
use Rattle.std.proofs.lemmas.Option.{none-some, same_Some}
use Rattle.answers.specs.Checks.{any}
use Rattle.answers.proofs.Checks.{none_of}
use Rattle.answers.specs.declared.Refusal.TheVariants.{BadDescription}
use Rattle.words.specs.Bytes.{byte, four}
use Rattle.std.specs.Prelude.{Some, None, Err}
use Rattle.packet.specs.declared.Access.{Access}
use Rattle.packet.specs.Fields.{type_of}
use Rattle.asking.specs.declared.Parts.{Parts}
use Rattle.asking.specs.Writing.{out_of_range, write_number, header_of, packet_of, shows_written, Writes}
use Rattle.asking.specs.declared.Said.{Said}
use Rattle.asking.specs.Reading.{has_data, other_status, never_sent_at, read_number, said_by}
use Rattle.asking.specs.Inner.{Inside, shows_put, Begun, misplaced, says}

-- ---- the writer

-- a kind that is served: one of three that ask for a write, or one of three that ask for a read. By it a test of the kind beside `writes` is
-- judged by what it means (must-fail/data_for_a_read)
pub kinds_served : (kind : ℕ) (access : Access) → type_of kind ≡ Some access
    → cond access.writes (eqb kind 0x44 || eqb kind 0x45 || eqb kind 0x5b) (eqb kind 0x04 || eqb kind 0x05 || eqb kind 0x1b) ≡ true
unfolding type_of
kinds_served kind access = grind (arith)

-- a device and a function in one byte
pub together : (device function : ℕ) → device ≤ 31 → function ≤ 7 → bit_or (device * 8 % 256) function ≡ device * 8 + function
together device function d f =
    ap (λ (n : ℕ). bit_or n function) (mod-eq_of_lt {n = device * 8} {m = 256} (omega arith)) ∙ or_shifted device 3 function (omega arith)

-- what the ranges leave
pub inside : (a : Parts) → any (out_of_range a) ≡ false → Inside a
inside a e =
    let n = none_of (out_of_range a) e in
    record { device = ltb-false 31 a.device n.0; function = ltb-false 7 a.function n.1.0; offset = ltb-false 0xffc a.offset n.1.1.0 }

pub bytes_length : (a : Parts) (new : List ℕ) (writes : Bool) → length (header_of a ++ cond writes (four new 0) []) ≡ cond writes 16 12
unfolding header_of
bytes_length a new true = refl
bytes_length a new false = refl

-- what is put down for a write, and for a read
pub bytes_of_write : (a : Parts) (new : List ℕ) (writes : Bool) (header bytes : List ℕ) → header ≡ header_of a
    → bytes ≡ four header 0 ++ four header 4 ++ four header 8 ++ four new 0 → writes ≡ true → bytes ≡ header_of a ++ cond writes (four new 0) []
unfolding header_of
bytes_of_write a new writes header bytes h e w = rw (e, h, w)

pub bytes_of_read : (a : Parts) (new : List ℕ) (writes : Bool) (header : List ℕ) → header ≡ header_of a → writes ≡ false
    → header ≡ header_of a ++ cond writes (four new 0) []
unfolding header_of
bytes_of_read a new writes header h w = rw (h, w)

-- the ways through `write_request`
module _ (a : Parts) (new buffer : List ℕ) where
  pub write_unknown : type_of a.kind ≡ None → Writes a new buffer (Err BadDescription) buffer
  unfolding shows_written
  write_unknown e = rw e

  module _ (access : Access) (known : type_of a.kind ≡ Some access) where
    pub write_out_of_range : any (out_of_range a) ≡ true → Writes a new buffer (Err BadDescription) buffer
    unfolding shows_written
    write_out_of_range e = rw (known, e)

    -- the bytes of the request, and how many they are
    pub packet_is : packet_of a new ≡ header_of a ++ cond access.writes (four new 0) []
    unfolding packet_of
    packet_is = rw known

    number_served : any (out_of_range a) ≡ false → cond access.writes 16 12 ≤ length buffer → write_number a (length buffer) ≡ 0
    number_served e h = rw (known, e, le-ltb (length buffer) (cond access.writes 16 12) h)

    number_no_room : any (out_of_range a) ≡ false → length buffer < cond access.writes 16 12 → write_number a (length buffer) ≡ 2
    number_no_room e h = rw (known, e, lt-ltb (length buffer) (cond access.writes 16 12) h)

    put_by : (bytes : List ℕ) (room : Bool) → bytes ≡ packet_of a new → length bytes ≡ cond access.writes 16 12 → any (out_of_range a) ≡ false
        → leb (0 + length bytes) (length buffer) ≡ room → shows_put bytes buffer ≡ shows_written a new buffer
    unfolding shows_written
    put_by bytes true f size e fit =
        let h : cond access.writes 16 12 ≤ length buffer = rw (← size) (subst (λ (n : ℕ). n ≤ length buffer) (zero-add (length bytes)) (leb-true _ _ fit)) in
        rw (fit, number_served e h, f)
    put_by bytes false f size e fit =
        let h : length buffer < cond access.writes 16 12 = rw (← size) (subst (λ (n : ℕ). length buffer < n) (zero-add (length bytes)) (leb-false _ _ fit)) in
        rw (fit, number_no_room e h)

    pub write_put : (bytes : List ℕ) → any (out_of_range a) ≡ false → bytes ≡ header_of a ++ cond access.writes (four new 0) []
        → shows_put bytes buffer ≡ shows_written a new buffer
    write_put bytes e f = put_by bytes _ (f ∙ sym packet_is) (ap length f ∙ bytes_length a new access.writes) e refl

-- ---- the reader

-- a completion with data begins with 4Ah
pub has_data_lem : (c : List ℕ) (with_data : Bool) → byte c 0 ≡ cond with_data 0x4a 0x0a → has_data c ≡ with_data
has_data_lem c true e = rw e
has_data_lem c false e = rw e

begins : (c : List ℕ) (with_data : Bool) → byte c 0 ≡ cond with_data 0x4a 0x0a → (eqb (byte c 0) 0x4a || eqb (byte c 0) 0x0a) ≡ true
begins c true e = rw e
begins c false e = rw e

-- where every other byte is such as a reply has, the status decides
by_status : (with_data : Bool) (one two three six seven eleven : ℕ)
    → any (not (eqb one 0x00) ∷ not (eqb two 0x00) ∷ not (eqb three (cond with_data 1 0)) ∷ not (eqb seven 0x04) ∷ not (eqb eleven 0x00) ∷ []) ≡ false
    → never_sent_at with_data one two three six seven eleven ≡ other_status with_data six
by_status with_data one two three six seven eleven e =
    let n = none_of (not (eqb one 0x00) ∷ not (eqb two 0x00) ∷ not (eqb three (cond with_data 1 0)) ∷ not (eqb seven 0x04) ∷ not (eqb eleven 0x00) ∷ []) e in
    rw (n.0, n.1.0, n.1.1.0, n.1.1.1.0, n.1.1.1.1.0, or-false (other_status with_data six))

-- a completion without a fault: each byte is such as a reply has, and its status says something
pub read_said : (c : List ℕ) (with_data : Bool) (said : Said) → Begun c with_data → length c ≡ cond with_data 16 12 → misplaced c with_data ≡ false
    → says c with_data ≡ Some said → (read_number c ≡ 0) × (said ≡ said_by c)
read_said c with_data said b size e s =
    let t = by_test _ _ _ s in (
      rw (
        le-ltb (length c) 12 b.long,
        begins c with_data b.first,
        has_data_lem c with_data b.first,
        eq-eqb (length c) (cond with_data 16 12) size,
        by_status with_data (byte c 1) (byte c 2) (byte c 3) (byte c 6) (byte c 7) (byte c 11) e,
        t.0,
      ),
      t.1,
    )
  where
    by_test : (other : Bool) (x y : Said) → cond other None (Some x) ≡ Some y → (other ≡ false) × (y ≡ x)
    by_test true x y e = absurd (none-some y e)
    by_test false x y e = (refl, sym (same_Some x y e))
