-- A well-described board serves a packet exactly if the packet and the reply's size say so, under its edition; and a packet that is served asks for the
-- trusted space exactly if it is trusted under it. Assumes nothing.
use Prim.Native.Nat.{ℕ}
use mathlib.Core.Bool.{Bool, true}
use mathlib.Core.List.{List, ◌∷◌}
use mathlib.Core.Logic.{◌↔◌}
use mathlib.Core.Path.{◌≡◌, sym, ap, ◌∙◌}
use borrow.Author.Tests.{eq-eqb, eqb-true}
use lib.Dec.{ltb}
use Rattle.answers.specs.Checks.{check, first_that_applies}
use Rattle.packet.specs.Request.{checks_under, trusted_under, is_trusted, request_of}
use Rattle.packet.proofs.Laws.{trusted_under_lem}
use Rattle.board.specs.Description.{Board, WellDescribed}
use Rattle.board.specs.Serving.{serve, serve_number}
use Rattle.board.proofs.Refusals.{outcome_number, sound_served}
use Rattle.shares.specs.Views.{edition_of, is_served}

-- the statement
abbrev pub ServedIff : Type 0
ServedIff = (d : Board) (bytes : List ℕ) (size : ℕ) → WellDescribed d → ((serve d bytes size).number ≡ 0) ↔ (is_served (edition_of d) bytes size ≡ true)

-- the number is that of the packet and the reply's size
pub number_is : (d : Board) (bytes : List ℕ) (size : ℕ) → WellDescribed d
    → (serve d bytes size).number ≡ first_that_applies (check 2 (ltb size 16) ∷ checks_under (edition_of d) bytes)
number_is d bytes size w =
    outcome_number d bytes size ∙ ap (λ (b : Bool). first_that_applies (check 1 b ∷ check 2 (ltb size 16) ∷ checks_under (edition_of d) bytes)) w

pub served_iff : ServedIff
served_iff d bytes size w = (
  (λ z. eq-eqb _ 0 (sym (number_is d bytes size w) ∙ z)),
  (λ t. number_is d bytes size w ∙ eqb-true _ 0 t),
)

pub served_kind : (d : Board) (bytes : List ℕ) (size : ℕ) → serve_number d bytes size ≡ 0
    → is_trusted (request_of bytes).target ≡ trusted_under (edition_of d) bytes
served_kind d bytes size n = trusted_under_lem (edition_of d) bytes (sound_served d bytes size n)
