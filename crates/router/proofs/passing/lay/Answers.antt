-- `router::passing::lay` meets its contract: a byte more, and all of them. Assumes nothing.
use Prim.Native.Nat.{ℕ, ◌+◌, ◌≤◌, ◌<◌}
use mathlib.Core.List.{List}
use mathlib.Core.Path.{◌≡◌, refl, sym, ap, ◌∙◌}
use native.Mathlib.Nat.{zero-add}
use native.Mathlib.Numerals.{add-one}
use native.Mathlib.Omega.{arith}
use lib.ListN.{length, set, get_or}
use lib.Seq.{paste, paste-zero, paste-suc, take-length}
use Rattle.router.specs.Promise.{over}
use Rattle.router.proofs.passing.lay.Goals as goal

more : (s bytes now : List ℕ) (place : ℕ) → now ≡ paste s 0 bytes place → length bytes ≤ length s → place < length bytes
    → set now place (get_or bytes place 0) ≡ paste s 0 bytes (place + 1)
more s bytes now place e h k =
    rw (e, add-one) (
    ap (λ (i : ℕ). set (paste s 0 bytes place) i (get_or bytes place 0)) (sym (zero-add place))
    ∙ paste-suc s 0 bytes place 0 (omega arith) k)

whole : (s bytes now : List ℕ) (place : ℕ) → now ≡ paste s 0 bytes place → place ≡ length bytes → now ≡ over bytes s
whole s bytes now place e h = rw (e, h, take-length, zero-add) refl

pub loop-place-init : goal.loop-place-init
loop-place-init c = (c.requires, paste-zero c.args.leaving.now 0 c.args.packet.now)

pub loop-place-preserved : goal.loop-place-preserved
loop-place-preserved c =
    let l = c.loop-place in
    (l.invariant.0, more c.args.leaving.now c.args.packet.now l.leaving l.place l.invariant.1 l.invariant.0 c.loop-place-test.true)

pub returns : goal.returns
returns c = let l = c.loop-place in whole c.args.leaving.now c.args.packet.now l.leaving l.place l.invariant.1 (omega arith)
