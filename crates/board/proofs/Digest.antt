-- "The digest is not read." Two packets that differ in their digest bytes only are answered alike, with everything that serving gives: the
-- number, the board afterwards and the written reply bytes. Assumes nothing.
use Prim.Native.Nat.{ℕ, zero, suc}
use mathlib.Core.Bool.{Bool, true, false, cond}
use mathlib.Core.List.{List}
use mathlib.Core.Path.{◌≡◌, refl, sym, ap, ◌∙◌}
use lib.Dec.{ltb}
use Rattle.packet.specs.declared.Request.{Request}
use Rattle.packet.specs.Fields.{data_of}
use Rattle.packet.specs.Request.{request_of}
use Rattle.packet.proofs.Digest.{DigestAside, SameAsked, digest_aside}
use Rattle.board.specs.Description.{Board, badly_described}
use Rattle.board.specs.Access.{unsupported}
use Rattle.board.specs.Serving.{respond, serve_number, by_number, serve}
use Rattle.board.proofs.Outcomes.{respond_unsupported, respond_read}

-- the statement
abbrev pub DigestNotRead : Type 0
DigestNotRead = (d : Board) (p q : List ℕ) (size : ℕ) → DigestAside p q → serve d p size ≡ serve d q size

-- a request that does not write does not look at the data
data_unread : (d : Board) (q : Request) (new other : List ℕ) (u : Bool) → unsupported d.description d.capture q ≡ u → q.writes ≡ false
    → respond d q new ≡ respond d q other
data_unread d q new other true u w = respond_unsupported d q new u ∙ sym (respond_unsupported d q other u)
data_unread d q new other false u w = respond_read d q new u w ∙ sym (respond_read d q other u w)

module _ (d : Board) (p q : List ℕ) (same : SameAsked p q) where
  respond_same : (writes : Bool) → (request_of p).writes ≡ writes → respond d (request_of p) (data_of p) ≡ respond d (request_of q) (data_of q)
  respond_same true w = rw (same.«data» w, same.requests)
  respond_same false w =
      data_unread d (request_of p) (data_of p) (data_of q) _ refl w ∙ ap (λ (x : Request). respond d x (data_of q)) same.requests

  by_same : (n : ℕ) → by_number n d p ≡ by_number n d q
  by_same zero = respond_same _ refl
  by_same (suc n) = refl

  number_same : (size : ℕ) → serve_number d p size ≡ serve_number d q size
  number_same size = ap (λ (n : ℕ). cond (badly_described d) 1 (cond (ltb size 16) 2 n)) (same.numbers d.description.edition)

pub digest_not_read : DigestNotRead
unfolding serve
digest_not_read d p q size aside =
    let same = digest_aside p q aside in
    by_same d p q same (serve_number d p size) ∙ ap (λ (n : ℕ). by_number n d q) (number_same d p q same size)
