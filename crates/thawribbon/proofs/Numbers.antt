-- THEOREMS. What the number that a host is told says, both ways, for each exported function that tells one: it is given exactly if its cause is
-- there and that of none before it is, and no other number is given. And a refusal changes nothing that a host holds. Assumes nothing.
use Prim.Native.Nat.{ℕ}
use mathlib.Core.List.{List, [], ◌∷◌, Memᴰ}
use mathlib.Core.Path.{◌≡◌, refl, sym, ap, ◌∙◌, subst}
use lib.ListN.{length}
use borrow.Author.Tests.{ne_eqb}
use Rattle.answers.proofs.Checks.{First}
use Rattle.lists.specs.declared.Kind.{Kind}
use Rattle.lists.proofs.Numbers.{walk_number, walk_refusal_keeps}
use Rattle.lists.proofs.Numbers as walks
use Rattle.records.specs.DvsecRule.{dvsec_checks, dvsec_says}
use Rattle.records.specs.DualRule.{dual_checks, dual_says}
use Rattle.records.proofs.Numbers.{dvsec_number_says, dual_number_says}
use Rattle.board.specs.Description.{Space}
use Rattle.board.specs.Serving.{serve, serve_number}
use Rattle.board.specs.Promise.{shows}
use Rattle.board.proofs.Refusals.{serve_number_says, outcome_number, refused_shows}
use Rattle.board.proofs.Refusals as packets
use Rattle.thawribbon.specs.declared.HostAlternate.{HostAlternate}
use Rattle.thawribbon.specs.declared.HostCapture.{HostCapture}
use Rattle.thawribbon.specs.declared.HostDescription.{HostDescription}
use Rattle.thawribbon.specs.declared.HostDvsec.{HostDvsec}
use Rattle.thawribbon.specs.declared.HostServed.{HostServed}
use Rattle.thawribbon.specs.declared.HostWalked.{HostWalked}
use Rattle.thawribbon.specs.Packets.{HostSeen, described, host_shows, host_board, HostServes}
use Rattle.thawribbon.specs.Walks.{HostWalks}
use Rattle.thawribbon.specs.Records.{told_dvsec, told_dual}

-- the statements: the board that a host describes has the host's own four numbers
pub record HandedOn (description : HostDescription) : Type 0 where
  pub function : (described description).function ≡ description.function
  pub a : (described description).a ≡ description.a
  pub b : (described description).b ≡ description.b
  pub edition : (described description).edition ≡ description.edition

-- of `thawribbon_serve`
abbrev pub HostServeNumber : Type 0
HostServeNumber =
    (description : HostDescription) (kept : HostCapture) (ordinary trusted : Space) (p reply : List ℕ) (r : HostServed)
    (o t after : List ℕ) → HostServes description kept ordinary trusted p reply r o t after
    → packets.NumberSays (host_board description kept ordinary trusted) p (length reply) r.number

-- a refusal hands everything back byte for byte
abbrev pub HostRefusalKeeps : Type 0
HostRefusalKeeps =
    (description : HostDescription) (kept : HostCapture) (ordinary trusted : Space) (p reply : List ℕ) (r : HostServed)
    (o t after : List ℕ) → HostServes description kept ordinary trusted p reply r o t after
    → (r.number ≡ 0 → ⊥) → (r.length ≡ 0) × (r.capture ≡ kept) × (o ≡ ordinary.bytes) × (t ≡ trusted.bytes) × (after ≡ reply)

-- of the walks, with the place beside the number
abbrev pub HostWalkNumber : Type 0
HostWalkNumber =
    (kind : Kind) (s room : List ℕ) (r : HostWalked) (after : List ℕ) → HostWalks kind s room r after
    → walks.NumberSays kind s room r.number r.place × ((r.number ≡ 0 → ⊥) → (r.count ≡ 0) × (after ≡ room))

-- of the records
abbrev pub HostDvsecNumber : Type 0
HostDvsecNumber =
    (s : List ℕ) (at : ℕ) (r : HostDvsec) → r ≡ told_dvsec (dvsec_says s at)
    → First (dvsec_checks s at) r.number × Memᴰ r.number (0 ∷ 1 ∷ 8 ∷ 9 ∷ [])

abbrev pub HostDualNumber : Type 0
HostDualNumber =
    (s : List ℕ) (at : ℕ) (r : HostAlternate) → r ≡ told_dual (dual_says s at)
    → First (dual_checks s at) r.number × Memᴰ r.number (0 ∷ 1 ∷ 8 ∷ 9 ∷ 10 ∷ [])

module _ (description : HostDescription) (kept : HostCapture) (ordinary trusted : Space) (p reply : List ℕ) (r : HostServed)
    (o t after : List ℕ) (e : HostServes description kept ordinary trusted p reply r o t after) where
  told_number : r.number ≡ (serve (host_board description kept ordinary trusted) p (length reply)).number
  unfolding shows
  told_number = ap (λ (x : HostSeen). x.number) e

  number_says : packets.NumberSays (host_board description kept ordinary trusted) p (length reply) r.number
  number_says = rw told_number (serve_number_says (host_board description kept ordinary trusted) p (length reply))

  refusal_keeps : (r.number ≡ 0 → ⊥) → (r.length ≡ 0) × (r.capture ≡ kept) × (o ≡ ordinary.bytes) × (t ≡ trusted.bytes) × (after ≡ reply)
  refusal_keeps n =
      let d = host_board description kept ordinary trusted in
      let h : serve_number d p (length reply) ≡ 0 → ⊥ = λ z. n (told_number ∙ outcome_number d p (length reply) ∙ z) in
      let s = e ∙ ap (host_shows kept) (refused_shows d p reply h) in (
        ap (λ (x : HostSeen). x.count) s,
        ap (λ (x : HostSeen). x.capture) s ∙ rw (ne_eqb (serve_number d p (length reply)) 0 h),
        ap (λ (x : HostSeen). x.ordinary) s,
        ap (λ (x : HostSeen). x.trusted) s,
        ap (λ (x : HostSeen). x.reply) s,
      )

pub host_serve_number : HostServeNumber
host_serve_number = number_says

pub host_refusal_keeps : HostRefusalKeeps
host_refusal_keeps = refusal_keeps

pub host_walk_number : HostWalkNumber
host_walk_number kind s room r after w =
    let n = ap (λ (x : HostWalked). x.number) w.told in (
      subst (λ (x : HostWalked). walks.NumberSays kind s room x.number x.place) (sym w.told) (walk_number kind s room w.answer after w.walks),
      λ h.
          let k = walk_refusal_keeps kind s room w.answer after w.walks (λ z. h (n ∙ z)) in
          (ap (λ (x : HostWalked). x.count) w.told ∙ k.0, k.1),
    )

pub host_dvsec_number : HostDvsecNumber
host_dvsec_number s at r e =
    let says = dvsec_number_says s at in
    let n = sym (ap (λ (x : HostDvsec). x.number) e) in
    (subst (First (dvsec_checks s at)) n says.0, subst (λ (k : ℕ). Memᴰ k (0 ∷ 1 ∷ 8 ∷ 9 ∷ [])) n says.1)

pub host_dual_number : HostDualNumber
host_dual_number s at r e =
    let says = dual_number_says s at in
    let n = sym (ap (λ (x : HostAlternate). x.number) e) in
    (subst (First (dual_checks s at)) n says.0, subst (λ (k : ℕ). Memᴰ k (0 ∷ 1 ∷ 8 ∷ 9 ∷ 10 ∷ [])) n says.1)

pub handed_on : (description : HostDescription) → HandedOn description
handed_on description = record { function = refl; a = refl; b = refl; edition = refl }
