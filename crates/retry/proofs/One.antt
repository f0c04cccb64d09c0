-- The first of two writes with the enables of both: it has the same parts, requester and tag, and no fault where the first has none. Assumes nothing.
use Prim.Native.Nat.{ℕ, ◌+◌, ◌≤◌, ◌<◌}
use mathlib.Core.Bool.{Bool, true, false, not}
use mathlib.Core.List.Memᴰ
use mathlib.Core.List.{List, [], ◌∷◌}
use mathlib.Core.Path.{◌≡◌, refl, sym, ap, ◌∙◌}
use native.Mathlib.Omega.{arith}
use lib.Bits.{bit_or, or_lt}
use lib.Dec.{eqb, ltb}
use lib.ListN.{length}
use borrow.Author.Tests.{eqb-true, not-false, ltb-true, ltb-false}
use Rattle.answers.proofs.Checks.{none_applies, none_of}
use Rattle.words.specs.Bytes.{byte, put}
use Rattle.words.proofs.Laws.{put_there, put_before, put_after, put_length}
use Rattle.packet.specs.declared.Request.{Request}
use Rattle.packet.specs.Fields.{traffic, attributes, length_field, first_enables, last_enables, wrong_field}
use Rattle.packet.specs.Request.{checks_under, number_under, request_of}
use Rattle.packet.proofs.Laws.{write_long, sound_under, positive_under}
use Rattle.packet.proofs.EnablesAside.{EnablesAside, enables_aside}
use Rattle.retry.specs.Writes.{BothEnables, joined_packet}

pub record IsOne (edition : ℕ) (p q : List ℕ) : Type 0 where
  pub both : BothEnables p q (joined_packet p q)
  pub sound : number_under edition (joined_packet p q) ≡ 0
  pub requester : (request_of (joined_packet p q)).requester ≡ (request_of p).requester
  pub tag : (request_of (joined_packet p q)).tag ≡ (request_of p).tag

-- a packet without a fault has no last enables
last_zero : (one two three seven : ℕ) → wrong_field one two three seven ≡ false → last_enables seven ≡ 0
last_zero one two three seven e =
    let faults : List Bool =
    not (eqb (traffic one) 0) ∷ not (eqb (attributes two) 0) ∷ not (eqb (last_enables seven) 0) ∷ not (eqb (length_field two three) 1) ∷ [] in
    eqb-true (last_enables seven) 0 (not-false _ (none_of faults e).1.1.0)

module _ (edition : ℕ) (p q : List ℕ) (sound : number_under edition p ≡ 0) (w : (request_of p).writes ≡ true) (clean : (request_of p).poisoned ≡ false) where
  union : ℕ
  union = bit_or (request_of p).enables (request_of q).enables

  r : List ℕ
  r = put p 7 (union ∷ [])

  long : 7 + 1 ≤ length p
  long = omega (arith, write_long p (sound_under edition p sound) w)

  small : union < 16
  unfolding union request_of
  small = or_lt 4 (first_enables (byte p 7)) (first_enables (byte q 7)) (omega arith) (omega arith)

  seven : byte r 7 ≡ union
  unfolding r
  seven = put_there p 7 (union ∷ []) long 0 (omega arith)

  fields : wrong_field (byte p 1) (byte p 2) (byte p 3) (byte p 7) ≡ false
  fields =
      none_applies (checks_under edition p) (positive_under edition p) sound _
      (Memᴰ.tail (Memᴰ.tail (Memᴰ.tail (Memᴰ.head refl))))

  elsewhere : (k : ℕ) → (k ≡ 7 → ⊥) → (less : Bool) → ltb k 7 ≡ less → byte p k ≡ byte r k
  unfolding r
  elsewhere k h true e = sym (put_before p 7 (union ∷ []) long k (ltb-true k 7 e))
  elsewhere k h false e = sym (put_after p 7 (union ∷ []) long k (omega (arith, ltb-false k 7 e, h)))

  aside : EnablesAside p r
  unfolding r
  aside =
      record {
        sizes = sym (put_length p 7 (union ∷ []) long);
        bytes = λ k h. elsewhere k h _ refl;
        last = last_zero (byte p 1) (byte p 2) (byte p 3) (byte p 7) fields ∙ sym (ap last_enables seven ∙ none_above union small);
      }
    where
      none_above : (n : ℕ) → n < 16 → last_enables n ≡ 0
      none_above n h = omega arith

  its_enables : (request_of r).enables ≡ union
  unfolding request_of
  its_enables = ap first_enables seven ∙ all_below union small
    where
      all_below : (n : ℕ) → n < 16 → first_enables n ≡ n
      all_below n h = omega arith

  pub one_is : IsOne edition p q
  unfolding r union
  one_is =
      let s = enables_aside p r aside in
      record {
        both =
            record {
              same =
                  record {
                    writes = (w, sym (ap (λ (x : Request). x.writes) s.requests) ∙ w);
                    target = ap (λ (x : Request). x.target) s.requests;
                    bus = ap (λ (x : Request). x.bus) s.requests;
                    device = ap (λ (x : Request). x.device) s.requests;
                    function = ap (λ (x : Request). x.function) s.requests;
                    offset = ap (λ (x : Request). x.offset) s.requests;
                    «data» = s.«data»;
                  };
              enables = its_enables;
              clean = sym (ap (λ (x : Request). x.poisoned) s.requests) ∙ clean;
            };
        sound = sym (s.numbers edition) ∙ sound;
        requester = sym (ap (λ (x : Request). x.requester) s.requests);
        tag = sym (ap (λ (x : Request). x.tag) s.requests);
      }
