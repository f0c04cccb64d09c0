-- THEOREM. Document 02, 5/13, "What we write must read back as the same request": every accepted request is read by the board's decoder as the
-- same request, under every edition (9/13). Every packet without digest and poison and with its reserved bits clear is what the writer writes for what the decoder reads, so
-- the writer can write exactly these. Assumes nothing.
use Prim.Native.Nat.{ℕ, ◌+◌, ◌*◌, ◌/◌, ◌%◌, ◌≤◌, ◌<◌}
use mathlib.Core.Bool.{Bool, true, false, not, cond}
use mathlib.Core.List.Memᴰ
use mathlib.Core.List.{List, [], ◌∷◌, ◌++◌}
use mathlib.Core.Logic.{◌↔◌}
use mathlib.Core.Path.{◌≡◌, refl, sym, ap, ◌∙◌, subst}
use native.Mathlib.Omega.{arith}
use lib.Dec.{eqb}
use lib.ListN.{length, take}
use borrow.Author.Tests.{eqb-true, eqb-false, eq-eqb, le-ltb, ltb-false, not-false}
use Rattle.std.specs.Prelude.{Option, Some, None, Result, Ok}
use Rattle.answers.specs.declared.Refusal.{Refusal}
use Rattle.answers.specs.Checks.{any}
use Rattle.answers.proofs.Checks.{none_applies, none_of}
use Rattle.words.specs.Bytes.{byte, four}
use Rattle.words.specs.Fields.{bits, bit}
use Rattle.words.proofs.Laws.{listed, listed_from}
use Rattle.packet.specs.declared.Id.{Id}
use Rattle.packet.specs.declared.Target.{Target}
use Rattle.packet.specs.declared.Target.TheVariants.{Type0, Type1, Trusted}
use Rattle.packet.specs.declared.Access.{Access}
use Rattle.packet.specs.declared.Request.{Request}
use Rattle.packet.specs.Fields as fields
use Rattle.packet.specs.Fields.{type_code, bit7_set, type_of, poison, wrong_field, whole_length, data_of}
use Rattle.packet.specs.Request.{typed, unknown, writes_of, target_of, packet_checks, number_under, packet_number, request_of, DecodesUnder}
use Rattle.packet.proofs.Laws.{number_past, number_under_lem, clear_accepted, sound_under, positive, whole_is}
use Rattle.packet.proofs.Unique.{decode_under_unique}
use Rattle.asking.specs.declared.Parts.{Parts}
use Rattle.asking.specs.Writing.{outside, asks_write, header_of, packet_of, told_written, Writes}
use Rattle.circle.specs.Plain.{Octets, Plain, kind_of, parts_of}
use Rattle.asking.proofs.Laws.{bytes_length}
use Rattle.asking.proofs.Numbers.{served_packet}

-- the statements. The first: what the decoder reads from a packet written from these parts and data
pub record ReadAs (a : Parts) (new packet : List ℕ) (r : Result Request Refusal) : Type 0 where
  pub request : Request
  pub asks : r ≡ Ok request
  pub parts : parts_of request ≡ a
  pub unpoisoned : request.poisoned ≡ false
  pub «data» : request.writes ≡ true → data_of packet ≡ four new 0

-- every accepted request is read by the board's decoder as the same request: kind, fields, offset, enables and data
abbrev pub AcceptedReadsBack : Type 0
AcceptedReadsBack =
    (edition : ℕ) (a : Parts) (new buffer : List ℕ) (w : Result ℕ Refusal) (after : List ℕ) (r : Result Request Refusal) → Writes a new buffer w after
    → (told_written w after).number ≡ 0 → DecodesUnder edition (take (told_written w after).count after) r → ReadAs a new (take (told_written w after).count after) r

-- every packet without digest and with its reserved bits clear is what the writer writes for what the decoder reads. Its poison is clear too:
-- document 02 gives the writer none
abbrev pub PlainIsWritten : Type 0
PlainIsWritten =
    (edition : ℕ) (p : List ℕ) (q : Request) → Octets p → DecodesUnder edition p (Ok q) → Plain p → q.poisoned ≡ false
    → (any (outside (parts_of q)) ≡ false) × (packet_of (parts_of q) (data_of p) ≡ p)

-- so the packets that the writer can write are exactly those that decode and are plain and without poison
abbrev pub WrittenExactly : Type 0
WrittenExactly =
    (edition : ℕ) (p : List ℕ) → Octets p
    → ((a : Parts) × (new : List ℕ) × (any (outside a) ≡ false) × (p ≡ packet_of a new))
    ↔ ((number_under edition p ≡ 0) × Plain p × (poison (byte p 2) ≡ 0))

-- ---- the kind and the type

apart : true ≡ false → ⊥
apart e = let z : ◌≡◌ {A = ℕ} 1 0 = ap (λ (b : Bool). cond b 1 0) e in omega (arith, z)

-- no kind has bit 7
kind_plain : (writes : Bool) (target : Target) → bit 7 (kind_of writes target) ≡ 0
kind_plain false Type0 = refl
kind_plain true Type0 = refl
kind_plain false Type1 = refl
kind_plain true Type1 = refl
kind_plain false Trusted = refl
kind_plain true Trusted = refl

-- each type has one kind
kind_is : (code : ℕ) (writes : Bool) (target : Target) → type_of code ≡ fields.known writes target → code ≡ kind_of writes target
unfolding type_of
kind_is code writes target =
    go (eqb code 0x04) (eqb code 0x44) (eqb code 0x05) (eqb code 0x45) (eqb code 0x1b) (eqb code 0x5b) refl refl refl refl refl refl
  where
    give : (w : Bool) (t : Target) → eqb code (kind_of w t) ≡ true → fields.known w t ≡ fields.known writes target → code ≡ kind_of writes target
    give w t e h = eqb-true code (kind_of w t) e ∙ ap (λ (x : Option Access). kind_of (writes_of x) (target_of x)) h

    go : (a b c d e f : Bool) → eqb code 0x04 ≡ a → eqb code 0x44 ≡ b → eqb code 0x05 ≡ c → eqb code 0x45 ≡ d → eqb code 0x1b ≡ e
        → eqb code 0x5b ≡ f
        → cond a (fields.known false Type0) (cond b (fields.known true Type0) (cond c (fields.known false Type1) (cond d (fields.known true Type1)
        (cond e (fields.known false Trusted) (cond f (fields.known true Trusted) None)))))
        ≡ fields.known writes target → code ≡ kind_of writes target
    go true b c d e f h i j k l m x = give false Type0 h x
    go false true c d e f h i j k l m x = give true Type0 i x
    go false false true d e f h i j k l m x = give false Type1 j x
    go false false false true e f h i j k l m x = give true Type1 k x
    go false false false false true f h i j k l m x = give false Trusted l x
    go false false false false false true h i j k l m x = give true Trusted m x
    go false false false false false false h i j k l m x = absurd (apart (ap unknown x))

type_of_kind : (writes : Bool) (target : Target) → type_of (kind_of writes target) ≡ fields.known writes target
unfolding type_of
type_of_kind false Type0 = refl
type_of_kind true Type0 = refl
type_of_kind false Type1 = refl
type_of_kind true Type1 = refl
type_of_kind false Trusted = refl
type_of_kind true Trusted = refl

-- a kind is a type code with no bit over it
code_of_kind : (writes : Bool) (target : Target) → type_code (kind_of writes target) ≡ kind_of writes target
code_of_kind false Type0 = refl
code_of_kind true Type0 = refl
code_of_kind false Type1 = refl
code_of_kind true Type1 = refl
code_of_kind false Trusted = refl
code_of_kind true Trusted = refl

is_known : (t : Option Access) → unknown t ≡ false → t ≡ fields.known (writes_of t) (target_of t)
is_known (Some access) e = refl
is_known None e = absurd (apart e)

-- ---- a written packet is read

-- what the check 1 leaves
record Accepted (a : Parts) : Type 0 where
  known : type_of a.kind ≡ fields.known (asks_write a) (target_of (type_of a.kind))
  kind : a.kind ≡ kind_of (asks_write a) (target_of (type_of a.kind))
  device : a.device ≤ 31
  function : a.function ≤ 7
  offset : a.offset ≤ 0xffc
  aligned : a.offset % 4 ≡ 0
  enables : a.enables ≤ 15

accepted : (a : Parts) → any (outside a) ≡ false → Accepted a
accepted a e =
    let n = none_of (outside a) e in
    let known = is_known (type_of a.kind) n.0 in
    record {
      known = known;
      kind = kind_is a.kind (asks_write a) (target_of (type_of a.kind)) known;
      device = ltb-false 31 a.device n.1.0;
      function = ltb-false 7 a.function n.1.1.0;
      offset = ltb-false 0xffc a.offset n.1.1.1.0;
      aligned = eqb-true (a.offset % 4) 0 (not-false _ n.1.1.1.1.0);
      enables = ltb-false 15 a.enables n.1.1.1.1.1.0;
    }

-- an offset in two bytes, and back
offset_back : (offset : ℕ) → offset ≤ 0xffc → offset % 4 ≡ 0 → 256 * (((offset / 256) / 1) % 16) + 4 * (((offset % 256) / 4) % 64) ≡ offset
offset_back offset h e =
    let high : ((offset / 256) / 1) % 16 ≡ offset / 256 = omega arith in
    let four : (offset % 256) % 4 ≡ 0 = omega arith in
    let low : 4 * (((offset % 256) / 4) % 64) ≡ offset % 256 = omega arith in
    rw (high, low) (omega arith)

-- the request that parts ask for
unfoldable pub asked : Parts → Request
asked a =
    record {
      target = target_of (type_of a.kind);
      writes = asks_write a;
      poisoned = false;
      requester = a.requester;
      tag = a.tag;
      enables = a.enables;
      bus = a.bus;
      device = a.device;
      function = a.function;
      offset = a.offset;
    }

module _ (a : Parts) (new : List ℕ) where
  byte_0 : byte (packet_of a new) 0 ≡ a.kind
  unfolding packet_of header_of
  byte_0 = refl

  byte_1 : byte (packet_of a new) 1 ≡ 0
  unfolding packet_of header_of
  byte_1 = refl

  byte_2 : byte (packet_of a new) 2 ≡ 0
  unfolding packet_of header_of
  byte_2 = refl

  byte_3 : byte (packet_of a new) 3 ≡ 1
  unfolding packet_of header_of
  byte_3 = refl

  the_requester : ◌≡◌ {A = Id} (record { high = byte (packet_of a new) 4; low = byte (packet_of a new) 5 }) a.requester
  unfolding packet_of header_of
  the_requester = refl

  byte_6 : byte (packet_of a new) 6 ≡ a.tag
  unfolding packet_of header_of
  byte_6 = refl

  byte_7 : byte (packet_of a new) 7 ≡ a.enables
  unfolding packet_of header_of
  byte_7 = refl

  byte_8 : byte (packet_of a new) 8 ≡ a.bus
  unfolding packet_of header_of
  byte_8 = refl

  byte_9 : byte (packet_of a new) 9 ≡ a.device * 8 + a.function
  unfolding packet_of header_of
  byte_9 = refl

  byte_10 : byte (packet_of a new) 10 ≡ a.offset / 256
  unfolding packet_of header_of
  byte_10 = refl

  byte_11 : byte (packet_of a new) 11 ≡ a.offset % 256
  unfolding packet_of header_of
  byte_11 = refl

  -- the data of a write
  data_by : (writes : Bool) → writes ≡ true → data_of (header_of a ++ cond writes (four new 0) []) ≡ four new 0
  unfolding header_of
  data_by true e = refl
  data_by false e = absurd (apart (sym e))

  module _ (e : any (outside a) ≡ false) where
    typed_is : typed (packet_of a new) ≡ type_of a.kind
    typed_is =
        let i = accepted a e in
        ap (λ (n : ℕ). type_of (type_code n)) (byte_0 ∙ i.kind)
        ∙ ap type_of (code_of_kind (asks_write a) (target_of (type_of a.kind)) ∙ sym i.kind)

    fields_are : wrong_field (byte (packet_of a new) 1) (byte (packet_of a new) 2) (byte (packet_of a new) 3) (byte (packet_of a new) 7) ≡ false
    fields_are =
        let i = accepted a e in
        let last : bits 7 4 a.enables ≡ 0 = omega (arith, i.enables) in
        rw (byte_1, byte_2, byte_3, byte_7, last)

    size_is : (writes : Bool) → length (header_of a ++ cond writes (four new 0) []) ≡ whole_length writes 0
    size_is true = bytes_length a new true
    size_is false = bytes_length a new false

    whole : length (packet_of a new) ≡ whole_length (asks_write a) (byte (packet_of a new) 2)
    unfolding packet_of
    whole = rw byte_2 (size_is (asks_write a))

    long : (writes : Bool) → 12 ≤ whole_length writes 0
    long true = omega arith
    long false = omega arith

    sound : packet_number (packet_of a new) ≡ 0
    sound =
        let i = accepted a e in
        rw (
          number_past (packet_of a new) (record { writes = asks_write a; target = target_of (type_of a.kind) })
              (record { long = rw (whole, byte_2) (long (asks_write a)); known = typed_is ∙ i.known }) whole,
          fields_are,
        )

    -- bit 7 is clear, so that no edition refuses it
    pub first_clear : bit7_set (byte (packet_of a new) 0) ≡ false
    first_clear = rw (byte_0, (accepted a e).kind, kind_plain (asks_write a) (target_of (type_of a.kind)))

    pub packet_number_lem : (edition : ℕ) → number_under edition (packet_of a new) ≡ 0
    packet_number_lem edition = number_under_lem edition (packet_of a new) (clear_accepted edition (byte (packet_of a new) 0) first_clear) ∙ sound

    pub request_is : request_of (packet_of a new) ≡ asked a
    unfolding request_of asked
    request_is =
        let i = accepted a e in
        let d : (byte (packet_of a new) 9 / 8) % 32 ≡ a.device = omega (arith, byte_9, i.device, i.function) in
        let f : (byte (packet_of a new) 9 / 1) % 8 ≡ a.function = omega (arith, byte_9, i.device, i.function) in
        let n : (byte (packet_of a new) 7 / 1) % 16 ≡ a.enables = omega (arith, byte_7, i.enables) in
        let o : 256 * ((byte (packet_of a new) 10 / 1) % 16) + 4 * ((byte (packet_of a new) 11 / 4) % 64) ≡ a.offset =
        rw (byte_10, byte_11) (offset_back a.offset i.offset i.aligned) in
        let p : eqb (poison (byte (packet_of a new) 2)) 1 ≡ false = rw byte_2 in
        λ k.
        record {
          target = target_of (typed_is k);
          writes = writes_of (typed_is k);
          poisoned = p k;
          requester = the_requester k;
          tag = byte_6 k;
          enables = n k;
          bus = byte_8 k;
          device = d k;
          function = f k;
          offset = o k;
        }

    pub data_is : asks_write a ≡ true → data_of (packet_of a new) ≡ four new 0
    unfolding packet_of
    data_is w = data_by (asks_write a) w

-- the same parts again
parts_back : (a : Parts) → any (outside a) ≡ false → parts_of (asked a) ≡ a
unfolding asked
parts_back a e =
    λ k.
    record {
      kind = sym (accepted a e).kind k;
      requester = a.requester;
      tag = a.tag;
      bus = a.bus;
      device = a.device;
      function = a.function;
      offset = a.offset;
      enables = a.enables;
    }

read_as : (edition : ℕ) (a : Parts) (new : List ℕ) (r : Result Request Refusal) → any (outside a) ≡ false → DecodesUnder edition (packet_of a new) r
    → ReadAs a new (packet_of a new) r
unfolding asked
read_as edition a new r e d =
    record {
      request = asked a;
      asks = decode_under_unique edition (packet_of a new) r (Ok (asked a)) d (packet_number_lem a new e edition, sym (request_is a new e));
      parts = parts_back a e;
      unpoisoned = refl;
      «data» = data_is a new e;
    }

pub accepted_reads_back : AcceptedReadsBack
accepted_reads_back edition a new buffer w after r e z d =
    let s = served_packet a new buffer w after e z in
    subst (λ (p : List ℕ). ReadAs a new p r) (sym s.3) (read_as edition a new r s.0 (subst (λ (p : List ℕ). DecodesUnder edition p r) s.3 d))

-- ---- a plain packet is written

with_tail : (p : List ℕ) (writes : Bool) → length p ≡ 12 + cond writes 4 0 → listed p 0 12 ++ cond writes (four p 12) [] ≡ p
unfolding listed
with_tail p true e = sym (listed_from p 0 16 e)
with_tail p false e = sym (listed_from p 0 12 e)

-- what the check 6 leaves
record FieldsRight (one two three seven : ℕ) : Type 0 where
  traffic : bits 6 4 one ≡ 0
  attributes : bits 5 4 two ≡ 0
  last : bits 7 4 seven ≡ 0
  length : 256 * bits 1 0 two + three ≡ 1

fields_right : (one two three seven : ℕ) → wrong_field one two three seven ≡ false → FieldsRight one two three seven
fields_right one two three seven e =
    let faults : List Bool =
    not (eqb (bits 6 4 one) 0) ∷ not (eqb (bits 5 4 two) 0) ∷ not (eqb (bits 7 4 seven) 0) ∷ not (eqb (256 * bits 1 0 two + three) 1) ∷ [] in
    let n = none_of faults e in
    record {
      traffic = eqb-true (bits 6 4 one) 0 (not-false _ n.0);
      attributes = eqb-true (bits 5 4 two) 0 (not-false _ n.1.0);
      last = eqb-true (bits 7 4 seven) 0 (not-false _ n.1.1.0);
      length = eqb-true (256 * bits 1 0 two + three) 1 (not-false _ n.1.1.1.0);
    }

-- a byte all of whose fields are 0 is 0: from the top
clear_7 : (n : ℕ) → n < 256 → bit 7 n ≡ 0 → n < 128
clear_7 n h e = omega arith

clear_6 : (n : ℕ) → n < 128 → bit 6 n ≡ 0 → n < 64
clear_6 n h e = omega arith

clear_6_4 : (n : ℕ) → n < 128 → bits 6 4 n ≡ 0 → n < 16
clear_6_4 n h e = omega arith

clear_5_4 : (n : ℕ) → n < 64 → bits 5 4 n ≡ 0 → n < 16
clear_5_4 n h e = omega arith

clear_3_2 : (n : ℕ) → n < 16 → bits 3 2 n ≡ 0 → n < 4
clear_3_2 n h e = omega arith

clear_3_0 : (n : ℕ) → n < 16 → bits 3 0 n ≡ 0 → n ≡ 0
clear_3_0 n h e = omega arith

clear_1_0 : (n : ℕ) → n < 4 → bits 1 0 n ≡ 0 → n ≡ 0
clear_1_0 n h e = omega arith

module _ (p : List ℕ) (octets : Octets p) (e : packet_number p ≡ 0) (plain : Plain p) (clean : poison (byte p 2) ≡ 0) where
  known : typed p ≡ fields.known (writes_of (typed p)) (target_of (typed p))
  known = is_known (typed p) (none_applies (packet_checks p) (positive p) e _ (Memᴰ.tail (Memᴰ.head refl)))

  code : byte p 0 ≡ kind_of (writes_of (typed p)) (target_of (typed p))
  code =
      let c : type_code (byte p 0) ≡ byte p 0 = omega (arith, octets 0, plain.first) in
      sym c ∙ kind_is (type_code (byte p 0)) (writes_of (typed p)) (target_of (typed p)) known

  right : FieldsRight (byte p 1) (byte p 2) (byte p 3) (byte p 7)
  right =
      fields_right (byte p 1) (byte p 2) (byte p 3) (byte p 7)
      (none_applies (packet_checks p) (positive p) e _ (Memᴰ.tail (Memᴰ.tail (Memᴰ.tail (Memᴰ.head refl)))))

  one : byte p 1 ≡ 0
  one = clear_3_0 _ (clear_6_4 _ (clear_7 (byte p 1) (octets 1) plain.one.0) right.traffic) plain.one.1

  two : byte p 2 ≡ 0
  two =
      let low : bits 1 0 (byte p 2) ≡ 0 = omega (arith, right.length) in
      let high = clear_6 _ (clear_7 (byte p 2) (octets 2) plain.undigested) clean in
      clear_1_0 _ (clear_3_2 _ (clear_5_4 _ high right.attributes) plain.two) low

  three : byte p 3 ≡ 1
  three = omega (arith, right.length)

  seven : bits 3 0 (byte p 7) ≡ byte p 7
  seven = omega (arith, octets 7, right.last)

  nine : bits 7 3 (byte p 9) * 8 + bits 2 0 (byte p 9) ≡ byte p 9
  nine = omega (arith, octets 9)

  ten : (256 * bits 3 0 (byte p 10) + 4 * bits 7 2 (byte p 11)) / 256 ≡ byte p 10
  ten = omega (arith, octets 10, octets 11, plain.ten)

  eleven : (256 * bits 3 0 (byte p 10) + 4 * bits 7 2 (byte p 11)) % 256 ≡ byte p 11
  eleven = omega (arith, octets 10, octets 11, plain.eleven)

  header_back : header_of (parts_of (request_of p)) ≡ listed p 0 12
  unfolding header_of request_of listed
  header_back =
      λ k.
      sym code k ∷ sym one k ∷ sym two k ∷ sym three k
      ∷ byte p 4 ∷ byte p 5 ∷ byte p 6 ∷ seven k
      ∷ byte p 8 ∷ nine k ∷ ten k ∷ eleven k
      ∷ []

  -- the type is read again from the kind
  type_back : type_of (parts_of (request_of p)).kind ≡ fields.known (writes_of (typed p)) (target_of (typed p))
  unfolding request_of
  type_back = type_of_kind (writes_of (typed p)) (target_of (typed p))

  size : length p ≡ 12 + cond (writes_of (typed p)) 4 0
  size = whole_is p e ∙ omega (arith, plain.undigested)

  packet_back : packet_of (parts_of (request_of p)) (data_of p) ≡ p
  unfolding packet_of
  packet_back = rw (header_back, type_back) (with_tail p (writes_of (typed p)) size)

  inside_back : any (outside (parts_of (request_of p))) ≡ false
  unfolding request_of
  inside_back =
      rw (
        type_of_kind (writes_of (typed p)) (target_of (typed p)),
        le-ltb 31 (bits 7 3 (byte p 9)) (omega arith),
        le-ltb 7 (bits 2 0 (byte p 9)) (omega arith),
        le-ltb 0xffc (256 * bits 3 0 (byte p 10) + 4 * bits 7 2 (byte p 11)) (omega arith),
        eq-eqb ((256 * bits 3 0 (byte p 10) + 4 * bits 7 2 (byte p 11)) % 4) 0 (omega arith),
        le-ltb 15 (bits 3 0 (byte p 7)) (omega arith),
      )

-- a poison bit that is not 1 is 0
unpoisoned : (two : ℕ) → eqb (poison two) 1 ≡ false → poison two ≡ 0
unpoisoned two e = let h = eqb-false (poison two) 1 e in omega (arith, h)

pub plain_is_written : PlainIsWritten
unfolding request_of
plain_is_written edition p q octets d plain clean =
    let n = sound_under edition p d.0 in
    let c : poison (byte p 2) ≡ 0 = unpoisoned (byte p 2) (sym (ap (λ (x : Request). x.poisoned) d.1) ∙ clean) in (
      subst (λ (x : Request). any (outside (parts_of x)) ≡ false) (sym d.1) (inside_back p octets n plain c),
      subst (λ (x : Request). packet_of (parts_of x) (data_of p) ≡ p) (sym d.1) (packet_back p octets n plain c),
    )

-- ---- exactly the plain ones

written_plain : (a : Parts) (new : List ℕ) → any (outside a) ≡ false → Plain (packet_of a new)
written_plain a new e =
    let i = accepted a e in
    record {
      first = rw (byte_0 a new, i.kind) (kind_plain (asks_write a) (target_of (type_of a.kind)));
      one = (rw (byte_1 a new), rw (byte_1 a new));
      two = rw (byte_2 a new);
      undigested = rw (byte_2 a new);
      ten = rw (byte_10 a new) (omega (arith, i.offset));
      eleven = rw (byte_11 a new) (omega (arith, i.aligned));
    }

pub written_exactly : WrittenExactly
written_exactly edition p octets = (
  λ h.
      subst (λ (x : List ℕ). (number_under edition x ≡ 0) × Plain x × (poison (byte x 2) ≡ 0)) (sym h.3)
      (packet_number_lem h.0 h.1 h.2 edition, written_plain h.0 h.1 h.2, rw (byte_2 h.0 h.1)),
  λ h.
      let n = sound_under edition p h.0 in
      (parts_of (request_of p), data_of p, inside_back p octets n h.1 h.2, sym (packet_back p octets n h.1 h.2)),
)
