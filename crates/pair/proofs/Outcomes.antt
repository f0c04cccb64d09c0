-- Each way through the code, over plain values: what the calls on the way have shown, and that the whole is what `serve_pair` says.
-- Assumes nothing.
use Prim.Native.Nat.{ℕ}
use mathlib.Core.Bool.{Bool, true, false}
use mathlib.Core.List.{List}
use mathlib.Core.Path.{◌≡◌, refl, ap₂}
use lib.ListN.{length}
use Rattle.std.specs.Prelude.{Err}
use Rattle.answers.specs.declared.Refusal.TheVariants.{BadDescription}
use Rattle.board.specs.Description.{Board, badly_described}
use Rattle.board.specs.Promise.{Served, Seen, shows, Serves}
use Rattle.pair.specs.declared.Side.{Side as Lent}
use Rattle.pair.specs.Pair.{Side, Pair, Primary, Alternate, board, is_for_role}
use Rattle.pair.specs.Pair as pairs
use Rattle.pair.specs.Serving.{answers_as, served_by, serve_pair}
use Rattle.pair.specs.Promise.{lent_side, pair_shows, PairServes}
use Rattle.pair.specs.Inner.{besides, ServesBeside}
use Rattle.pair.proofs.Laws.{equal_refused, beside_refused, alternate_answers, primary_answers}

-- ---- one function beside the other

module _ (d beside : Board) (p reply : List ℕ) where
  pub beside_bad_seen : badly_described beside ≡ true
      → ServesBeside d beside p reply (record { answer = Err BadDescription; capture = d.capture }) d.ordinary.bytes d.trusted.bytes reply
  unfolding shows besides
  beside_bad_seen b = rw b

  pub beside_served : (r : Served) (o t after : List ℕ) → badly_described beside ≡ false → Serves d p reply r o t after → ServesBeside d beside p reply r o t after
  unfolding besides
  beside_served r o t after b e = rw b e

-- what a function served as a board of its own, and what is then left of its spaces
pub own_served : (d : Board) (p reply : List ℕ) (r : Served) (o t after left_o left_t : List ℕ) → Serves d p reply r o t after → left_o ≡ o
    → left_t ≡ t → Serves d p reply r left_o left_t after
own_served d p reply r o t after left_o left_t e first second = rw (first, second) e

-- ---- the three ways through `serve`

module _ (pair : Pair) (p reply : List ℕ) where
  pub equal_seen : pairs.number_of Primary pair ≡ pairs.number_of Alternate pair
      → PairServes pair p reply
      (record { answer = Err BadDescription; kept = record { primary = pair.primary.capture; alternate = pair.alternate.capture } })
      pair.primary.ordinary.bytes pair.primary.trusted.bytes pair.alternate.ordinary.bytes pair.alternate.trusted.bytes reply
  unfolding pair_shows
  equal_seen e = rw (equal_refused pair p (length reply) e)

  module _ (apart : pairs.number_of Primary pair ≡ pairs.number_of Alternate pair → ⊥) where
    by_alternate : (b : Bool) → badly_described (board Primary pair) ≡ b → is_for_role Alternate pair p ≡ true
        → serve_pair pair p (length reply) ≡ answers_as Alternate pair (besides (board Alternate pair) (board Primary pair) p (length reply))
    unfolding besides served_by
    by_alternate true b h = rw b (beside_refused Primary pair p (length reply) b)
    by_alternate false b h = rw b (alternate_answers pair p (length reply) apart b h)

    by_primary : (b : Bool) → badly_described (board Alternate pair) ≡ b → is_for_role Alternate pair p ≡ false
        → serve_pair pair p (length reply) ≡ answers_as Primary pair (besides (board Primary pair) (board Alternate pair) p (length reply))
    unfolding besides served_by
    by_primary true b h = rw b (beside_refused Alternate pair p (length reply) b)
    by_primary false b h = rw b (primary_answers pair p (length reply) apart b h)

    -- the other function is as it was, and the one as it served
    module _ (beside : Lent) (s : Served) (o t after : List ℕ) where
      pub alternate_seen : is_for_role Alternate pair p ≡ true → lent_side beside ≡ pair.primary
          → ServesBeside (board Alternate pair) (board Primary pair) p reply s o t after
          → PairServes pair p reply (record { answer = s.answer; kept = record { primary = beside.capture; alternate = s.capture } })
          beside.ordinary.now beside.trusted.now o t after
      unfolding pair_shows shows
      alternate_seen h same e =
          rw (by_alternate _ refl h) (ap₂
          (λ (x : Side) (z : Seen).
          record {
            number = z.number;
            count = z.count;
            kept = record { primary = x.capture; alternate = z.capture };
            primary_ordinary = x.ordinary.bytes;
            primary_trusted = x.trusted.bytes;
            alternate_ordinary = z.ordinary;
            alternate_trusted = z.trusted;
            reply = z.reply;
          })
          same e)

      pub primary_seen : is_for_role Alternate pair p ≡ false → lent_side beside ≡ pair.alternate
          → ServesBeside (board Primary pair) (board Alternate pair) p reply s o t after
          → PairServes pair p reply (record { answer = s.answer; kept = record { primary = s.capture; alternate = beside.capture } })
          o t beside.ordinary.now beside.trusted.now after
      unfolding pair_shows shows
      primary_seen h same e =
          rw (by_primary _ refl h) (ap₂
          (λ (x : Side) (z : Seen).
          record {
            number = z.number;
            count = z.count;
            kept = record { primary = z.capture; alternate = x.capture };
            primary_ordinary = z.ordinary;
            primary_trusted = z.trusted;
            alternate_ordinary = x.ordinary.bytes;
            alternate_trusted = x.trusted.bytes;
            reply = z.reply;
          })
          same e)
