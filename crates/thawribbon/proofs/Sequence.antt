-- What a host holds after a call is the board after serving: its capture, as it was handed back, and its spaces. So a host that keeps what it is
-- given has the run that the definitions speak of, packet after packet, and a reset is a reset. Assumes nothing.
use Prim.Native.Nat.{ℕ, zero, suc}
use mathlib.Core.List.{List}
use mathlib.Core.Path.{◌≡◌, refl, sym, ap, ◌∙◌}
use native.Mathlib.Omega.{arith}
use borrow.Author.Tests.{ne_eqb}
use lib.ListN.{length}
use Rattle.capture.specs.declared.Capture.{Capture}
use Rattle.capture.specs.declared.Capture.TheVariants.{Nothing, Number}
use Rattle.capture.specs.Kept.{forgotten}
use Rattle.board.specs.Description.{Space, with_bytes, Board, after_reset}
use Rattle.board.specs.Serving.{serve, serve_number, by_number}
use Rattle.board.specs.Promise.{shows}
use Rattle.board.proofs.Keeps.{serve_keeps}
use Rattle.board.proofs.Refusals.{outcome_number}
use Rattle.thawribbon.specs.declared.HostCapture.{HostCapture}
use Rattle.thawribbon.specs.declared.HostDescription.{HostDescription}
use Rattle.thawribbon.specs.declared.HostServed.{HostServed}
use Rattle.thawribbon.specs.Packets.{HostSeen, kept_by, told_capture, handed_back, host_board, HostServes}

-- the statements: after a packet
abbrev pub HostHolds : Type 0
HostHolds =
    (description : HostDescription) (kept : HostCapture) (ordinary trusted : Space) (p reply : List ℕ) (r : HostServed)
    (o t after : List ℕ) → HostServes description kept ordinary trusted p reply r o t after
    → host_board description r.capture (with_bytes ordinary o) (with_bytes trusted t)
    ≡ (serve (host_board description kept ordinary trusted) p (length reply)).after

-- after a reset
abbrev pub HostResets : Type 0
HostResets =
    (description : HostDescription) (kept r : HostCapture) (ordinary trusted : Space)
    → r ≡ told_capture (forgotten (kept_by kept))
    → host_board description r ordinary trusted
    ≡ after_reset (host_board description kept ordinary trusted)

-- a capture that is told is kept as it is
kept_told : (c : Capture) → kept_by (told_capture c) ≡ c
kept_told Nothing = refl
kept_told (Number bus device) = refl

-- and so is what is handed back, by the number
kept_by_number : (n : ℕ) (kept : HostCapture) (d : Board) (p : List ℕ) → d.capture ≡ kept_by kept
    → kept_by (handed_back n kept (by_number n d p).after.capture) ≡ (by_number n d p).after.capture
kept_by_number zero kept d p e = kept_told _
kept_by_number (suc n) kept d p e = rw (ne_eqb (suc n) 0 (λ z. omega arith)) (sym e)

module _ (description : HostDescription) (kept : HostCapture) (ordinary trusted : Space) (p reply : List ℕ) (r : HostServed)
    (o t after : List ℕ) (e : HostServes description kept ordinary trusted p reply r o t after) where
  board : Board
  board = host_board description kept ordinary trusted

  capture_held : kept_by r.capture ≡ (serve board p (length reply)).after.capture
  unfolding shows serve board
  capture_held =
      ap (λ (x : HostSeen). kept_by x.capture) e
      ∙ ap (λ (n : ℕ). kept_by (handed_back n kept (serve board p (length reply)).after.capture)) (outcome_number board p (length reply))
      ∙ kept_by_number (serve_number board p (length reply)) kept board p refl

  board_held : host_board description r.capture (with_bytes ordinary o) (with_bytes trusted t) ≡ (serve board p (length reply)).after
  unfolding shows board
  board_held =
      let k = serve_keeps board p (length reply) in
      λ i.
      record {
        description = sym k.description i;
        capture = capture_held i;
        ordinary = (ap (λ (x : HostSeen). with_bytes ordinary x.ordinary) e ∙ sym k.ordinary) i;
        trusted = (ap (λ (x : HostSeen). with_bytes trusted x.trusted) e ∙ sym k.trusted) i;
      }

pub host_holds : HostHolds
unfolding board
host_holds = board_held

pub host_resets : HostResets
host_resets description kept r ordinary trusted e =
    ap (λ (x : HostCapture). host_board description x ordinary trusted) e
