-- THEOREM. A second result that meets a promise of this crate is the same result, with the same buffers afterwards. Assumes nothing.
use Prim.Native.Nat.{ℕ}
use mathlib.Core.List.{List}
use mathlib.Core.Path.{◌≡◌, sym, ap, ◌∙◌}
use Rattle.capture.specs.Kept.{forgotten}
use Rattle.board.specs.Description.{Space}
use Rattle.lists.specs.declared.Kind.{Kind}
use Rattle.lists.proofs.Unique.{walk_unique}
use Rattle.records.specs.DvsecRule.{dvsec_says}
use Rattle.records.specs.DualRule.{dual_says}
use Rattle.thawribbon.specs.declared.HostAlternate.{HostAlternate}
use Rattle.thawribbon.specs.declared.HostCapture.{HostCapture}
use Rattle.thawribbon.specs.declared.HostDescription.{HostDescription}
use Rattle.thawribbon.specs.declared.HostDvsec.{HostDvsec}
use Rattle.thawribbon.specs.declared.HostPart.{HostPart}
use Rattle.thawribbon.specs.declared.HostServed.{HostServed}
use Rattle.thawribbon.specs.declared.HostWalked.{HostWalked}
use Rattle.thawribbon.specs.Packets.{HostSeen, host_seen, HostServes, kept_by, told_capture}
use Rattle.thawribbon.specs.Records.{told_dvsec, told_dual, body_part}
use Rattle.thawribbon.specs.Walks.{HostWalks, told_walk}

-- the statements
abbrev pub HostServeUnique : Type 0
HostServeUnique =
    (d : HostDescription) (kept : HostCapture) (ordinary trusted : Space) (p reply : List ℕ) (r q : HostServed)
    (o t after o' t' after' : List ℕ) → HostServes d kept ordinary trusted p reply r o t after
    → HostServes d kept ordinary trusted p reply q o' t' after' → (r ≡ q) × (o ≡ o') × (t ≡ t') × (after ≡ after')

abbrev pub HostWalkUnique : Type 0
HostWalkUnique =
    (kind : Kind) (s room : List ℕ) (r q : HostWalked) (l m : List ℕ) → HostWalks kind s room r l → HostWalks kind s room q m → (r ≡ q) × (l ≡ m)

pub host_serve_unique : HostServeUnique
host_serve_unique d kept ordinary trusted p reply r q o t after o' t' after' e f =
    let s : host_seen r o t after ≡ host_seen q o' t' after' = e ∙ sym f in (
      ap (λ (x : HostSeen). record { length = x.count; number = x.number; capture = x.capture }) s,
      ap (λ (x : HostSeen). x.ordinary) s,
      ap (λ (x : HostSeen). x.trusted) s,
      ap (λ (x : HostSeen). x.reply) s,
    )

pub host_reset_unique : (kept r q : HostCapture) → r ≡ told_capture (forgotten (kept_by kept)) → q ≡ told_capture (forgotten (kept_by kept)) → r ≡ q
host_reset_unique kept r q e f = e ∙ sym f

pub host_walk_unique : HostWalkUnique
host_walk_unique kind s room r q l m a b =
    let same = walk_unique kind s room a.answer b.answer l m a.walks b.walks in
    (a.told ∙ ap told_walk same.0 ∙ sym b.told, same.1)

pub host_dvsec_unique : (s : List ℕ) (at : ℕ) (r q : HostDvsec) → r ≡ told_dvsec (dvsec_says s at) → q ≡ told_dvsec (dvsec_says s at) → r ≡ q
host_dvsec_unique s at r q e f = e ∙ sym f

pub host_dvsec_body_unique : (s : List ℕ) (at : ℕ) (r q : HostPart) → r ≡ body_part s at → q ≡ body_part s at → r ≡ q
host_dvsec_body_unique s at r q e f = e ∙ sym f

pub host_dual_bdf_unique : (s : List ℕ) (at : ℕ) (r q : HostAlternate) → r ≡ told_dual (dual_says s at) → q ≡ told_dual (dual_says s at) → r ≡ q
host_dual_bdf_unique s at r q e f = e ∙ sym f
