-- Laws of what document 01 says of a record: what each test of the code tells, the number that is then given, and what is said of a
-- record with that number. Assumes nothing.
use Prim.Native.Nat.{ℕ, suc, ◌+◌, ◌-◌, ◌≤◌}
use mathlib.Core.Bool.{Bool, true, false, not, ◌&&◌, cond}
use mathlib.Core.List.{List, [], ◌∷◌}
use mathlib.Core.Path.{◌≡◌, refl, sym, ap, subst}
use native.Mathlib.Omega.{arith}
use borrow.Author.Tests.{ne_eqb, eqb-true, leb-true}
use lib.Dec.{eqb, leb}
use lib.ListN.{length, take, drop}
use Rattle.std.specs.Prelude.{Result, Ok, Err}
use Rattle.answers.proofs.Unique.{number_positive}
use Rattle.answers.specs.declared.Refusal.{Refusal}
use Rattle.answers.specs.Checks.{first_that_applies}
use Rattle.answers.specs.Numbers.{number_of}
use Rattle.words.specs.Bytes.{byte}
use Rattle.words.specs.Fields.{word}
use Rattle.records.specs.declared.Alternate.{Alternate}
use Rattle.records.specs.declared.DvsecHeader.{DvsecHeader}
use Rattle.words.specs.Places.{placed}
use Rattle.records.specs.Required.{required, sized}
use Rattle.records.specs.DvsecRule.{is_dvsec, extends, header_at, dvsec_number, dvsec_says, dvsec_body, body_from, BodyLies, tells_dvsec, DvsecTold}
use Rattle.records.specs.DualRule.{fits_dual, is_dual, one_set, vector_at, alternate_at, dual_number, dual_says, tells_dual, DualTold}

pub sized_is : (s : List ℕ) {said : Bool} → eqb (length s) 4096 ≡ said → sized s ≡ said
unfolding sized
sized_is s e = e

and_split : (a b : Bool) → a && b ≡ true → (a ≡ true) × (b ≡ true)
and_split true b e = (refl, e)
and_split false b e = (e, cc)

-- where the number is 0, what is required first is there, and the rest gives 0
met : (fact : Bool) (n rest : ℕ) → cond (not fact) (suc n) rest ≡ 0 → (fact ≡ true) × (rest ≡ 0)
met true n rest e = (refl, e)
met false n rest e = absurd (omega arith)

-- a record of some length at an offset, in a space of some size
pub record Inside (space at extent : ℕ) : Type 0 where
  pub size : space ≡ 4096
  pub least : 0x0a ≤ extent
  pub end : at + extent ≤ 0x1000

-- a record that is found, by its length
pub record Stands (s : List ℕ) (at extent : ℕ) : Type 0 where
  pub number : dvsec_number s at ≡ 0
  pub stated : extent ≡ (header_at s at).length
  pub inside : Inside (length s) at extent

module _ (s : List ℕ) (at : ℕ) where
  -- an answer that is a refusal, where the number is the refusal's
  pub dvsec_refused : {r : Result DvsecHeader Refusal} {refusal otherwise : Refusal} → r ≡ Err refusal → refusal ≡ otherwise
      → dvsec_number s at ≡ number_of otherwise → tells_dvsec r ≡ dvsec_says s at
  unfolding dvsec_says
  dvsec_refused {otherwise = otherwise} is same e = rw (is, same, e, ne_eqb (number_of otherwise) 0 (number_positive otherwise))

  pub dvsec_found : dvsec_number s at ≡ 0
      → ◌≡◌ {A = DvsecTold}
      (record { number = 0; vendor = (header_at s at).vendor; revision = (header_at s at).revision; id = (header_at s at).id; length = (header_at s at).length })
      (dvsec_says s at)
  unfolding dvsec_says
  dvsec_found e = rw e

  -- the number, by what the tests say: a fact that is not tested stands for itself
  pub dvsec_number_lem : {a b c d : Bool} → sized s ≡ a → placed at 0x100 0xffc ≡ b → is_dvsec (word s at) ≡ c
      → extends at (header_at s at).length ≡ d
      → dvsec_number s at ≡ first_that_applies (required a 1 ∷ required b 1 ∷ required c 8 ∷ required d 9 ∷ [])
  unfolding dvsec_number
  dvsec_number_lem a b c d = rw (a, b, c, d)

  -- a DVSEC record that is found lies in its space, with its body
  pub dvsec_inside : dvsec_number s at ≡ 0 → Inside (length s) at (header_at s at).length
  unfolding dvsec_number sized extends
  dvsec_inside e =
      let a = met (sized s) 0 _ e in
      let b = met (placed at 0x100 0xffc) 0 _ a.1 in
      let c = met (is_dvsec (word s at)) 7 _ b.1 in
      let d = met (extends at (header_at s at).length) 8 0 c.1 in
      let left = and_split (leb (at + 0x0a) 0x1000) _ d.0 in
      let least = and_split (leb 0x0a (header_at s at).length) _ left.1 in
      let ends = and_split (leb (at + (header_at s at).length) 0x1000) true least.1 in
      record {
        size = eqb-true (length s) 4096 a.0;
        least = leb-true 0x0a (header_at s at).length least.0;
        end = leb-true (at + (header_at s at).length) 0x1000 ends.0;
      }

  -- what a header that is found says of its length, and the body that it has
  pub dvsec_length : (h : DvsecHeader) → tells_dvsec (Ok h) ≡ dvsec_says s at → (dvsec_number s at ≡ 0) × (h.length ≡ (header_at s at).length)
  unfolding dvsec_says
  dvsec_length h e =
      let zero : dvsec_number s at ≡ 0 = sym (ap (λ (t : DvsecTold). t.number) e) in
      (zero, rw zero at (ap (λ (t : DvsecTold). t.length) e))

  -- so a header that is found stands there with its length, inside the space
  pub found_stands : {r : Result DvsecHeader Refusal} (h : DvsecHeader) → r ≡ Ok h → tells_dvsec r ≡ dvsec_says s at → Stands s at h.length
  found_stands h e told =
      let there = dvsec_length h (subst (λ (r : Result DvsecHeader Refusal). tells_dvsec r ≡ dvsec_says s at) e told) in record {
        number = there.0;
        stated = there.1;
        inside = subst (λ (n : ℕ). Inside (length s) at n) (sym there.1) (dvsec_inside there.0);
      }

  pub body_whole : (place : ℕ × ℕ) → dvsec_number s at ≡ 0
      → BodyLies place s at (place.0, (at + 0x0a) + place.1) (take ((at + (header_at s at).length) - (at + 0x0a)) (drop (at + 0x0a) s))
  unfolding dvsec_body body_from
  body_whole place e = record { same = rw e; block = refl; offset = rw e }

  pub body_empty : (place : ℕ × ℕ) (refusal : Refusal) → tells_dvsec (Err refusal) ≡ dvsec_says s at → BodyLies place s at place []
  unfolding dvsec_says dvsec_body body_from
  body_empty place refusal e =
      let refused : eqb (dvsec_number s at) 0 ≡ false = rw (← ap (λ (t : DvsecTold). t.number) e) (ne_eqb (number_of refusal) 0 (number_positive refusal)) in
      record { same = rw refused; block = refl; offset = rw refused (omega arith) }

  pub dual_refused : {r : Result Alternate Refusal} {refusal otherwise : Refusal} → r ≡ Err refusal → refusal ≡ otherwise
      → dual_number s at ≡ number_of otherwise → tells_dual r ≡ dual_says s at
  unfolding dual_says
  dual_refused {otherwise = otherwise} is same e = rw (is, same, e, ne_eqb (number_of otherwise) 0 (number_positive otherwise))

  pub dual_found : dual_number s at ≡ 0
      → ◌≡◌ {A = DualTold} (record { number = 0; function = (alternate_at s at).function; device = (alternate_at s at).device }) (dual_says s at)
  unfolding dual_says
  dual_found e = rw e

  pub dual_number_lem : {a b c d e f : Bool} → sized s ≡ a → placed at 0x040 0x0fc ≡ b → eqb (byte s at) 0x09 ≡ c
      → fits_dual at (byte s (at + 2)) (word s (at + 4)) ≡ d → is_dual (word s (at + 4)) (word s (at + 8)) ≡ e → one_set (vector_at s at) ≡ f
      → dual_number s at
      ≡ first_that_applies (required a 1 ∷ required b 1 ∷ required c 8 ∷ required d 9 ∷ required e 8 ∷ required f 10 ∷ [])
  unfolding dual_number
  dual_number_lem a b c d e f = rw (a, b, c, d, e, f)
