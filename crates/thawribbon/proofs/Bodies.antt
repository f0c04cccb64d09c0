-- A DVSEC record's body by its place. THEOREM: the part that `thawribbon_dvsec_body` tells is the body, as it lies in the lent space.
-- Assumes nothing.
use Prim.Native.Nat.{ℕ, ◌+◌, ◌-◌, ◌≤◌}
use mathlib.Core.Bool.{Bool, true, false, cond}
use mathlib.Core.List.{List, []}
use mathlib.Core.Path.{◌≡◌, refl, ap, subst}
use native.Mathlib.Omega.{arith}
use borrow.Author.Tests.{ne_eqb}
use lib.Dec.{eqb}
use lib.ListN.{length, take, drop, length-drop, take-append-drop}
use lib.Seq.{length-take-le, take-append_seam}
use Rattle.answers.proofs.Unique.{number_positive}
use Rattle.answers.specs.declared.Refusal.{Refusal}
use Rattle.answers.specs.Numbers.{number_of}
use Rattle.std.specs.Prelude.{Err}
use Rattle.records.specs.DvsecRule.{DvsecTold, tells_dvsec, dvsec_says, dvsec_number, dvsec_body, body_from, header_at}
use Rattle.records.proofs.Told.{dvsec_inside}
use Rattle.thawribbon.specs.declared.HostPart.{HostPart}
use Rattle.thawribbon.specs.Records.{body_part}

-- the statement
abbrev pub PartIsBody : Type 0
PartIsBody = (s : List ℕ) (at : ℕ) → take (body_part s at).length (drop (body_part s at).start s) ≡ dvsec_body s at

-- where a header is found
pub part_found : (s : List ℕ) (at : ℕ) → dvsec_number s at ≡ 0
    → ◌≡◌ {A = HostPart} (record { start = at + 0x0a; length = (header_at s at).length - 0x0a }) (body_part s at)
unfolding body_part dvsec_body body_from
part_found s at e =
    let within = dvsec_inside s at e in
    let extent : (at + (header_at s at).length) - (at + 0x0a) ≡ (header_at s at).length - 0x0a = omega (arith, within) in
    let fits : (header_at s at).length - 0x0a ≤ length (drop (at + 0x0a) s) = omega (arith, within, length-drop (at + 0x0a) s) in
    rw (e, extent, length-take-le ((header_at s at).length - 0x0a) (drop (at + 0x0a) s) fits)

-- where it is refused
pub part_refused : (s : List ℕ) (at : ℕ) (refusal : Refusal) → tells_dvsec (Err refusal) ≡ dvsec_says s at
    → ◌≡◌ {A = HostPart} (record { start = 0; length = 0 }) (body_part s at)
unfolding body_part dvsec_says dvsec_body body_from
part_refused s at refusal e =
    let refused : eqb (dvsec_number s at) 0 ≡ false = rw (← ap (λ (t : DvsecTold). t.number) e) (ne_eqb (number_of refusal) 0 (number_positive refusal)) in
    rw refused

-- a part of a list, or nothing of it
part_taken : (b : Bool) (n from : ℕ) (s : List ℕ)
    → take (length (cond b (take n (drop from s)) [])) (drop (cond b from 0) s) ≡ cond b (take n (drop from s)) []
part_taken true n from s =
    let l = drop from s in
    subst (λ (whole : List ℕ). take (length (take n l)) whole ≡ take n l) (take-append-drop n l) (take-append_seam (take n l) (drop n l))
part_taken false n from s = refl

pub part_is_body : PartIsBody
unfolding body_part dvsec_body body_from
part_is_body s at = part_taken (eqb (dvsec_number s at) 0) ((at + (header_at s at).length) - (at + 0x0a)) (at + 0x0a) s
