-- THEOREM. With a packet for the other space between, a repeat leaves what stands there: no write to one space changes the other, and no trusted one the capture. Assumes
-- nothing.
use Prim.Native.Nat.{ℕ}
use mathlib.Core.Bool.{Bool, true, false, not}
use mathlib.Core.List.{List}
use mathlib.Core.Logic.{◌⊎◌, inl, inr}
use mathlib.Core.Path.{◌≡◌, refl, sym, ap, ◌∙◌}
use Rattle.packet.specs.declared.Request.{Request}
use Rattle.packet.specs.Fields.{data_of}
use Rattle.packet.specs.Request.{is_trusted, request_of}
use Rattle.board.specs.Description.{with_bytes, Board}
use Rattle.capture.specs.Kept.{captured}
use Rattle.board.specs.Access.{stored_bytes, stored_ordinary, after_write}
use Rattle.board.specs.Serving.{Outcome, serve}
use Rattle.retry.specs.Writes.{OtherSpaceBetween}
use Rattle.retry.proofs.Writes.{Able, able, able_serves, kept_or_able, second_after, itself, write_twice}

-- a write that has been done already, after one to the other space
module _ (d : Board) (q r : Request) (new other : List ℕ) (done : after_write d q new ≡ d) where
  done_still : (t : Bool) → is_trusted q.target ≡ t → is_trusted r.target ≡ not t → after_write (after_write d r other) q new ≡ after_write d r other
  unfolding after_write
  done_still true t u =
      let e = rw t at done in
      rw (t, u)
      (λ i.
      record {
        description = d.description;
        capture = captured d.capture r.bus r.device;
        ordinary = with_bytes d.ordinary (stored_ordinary d.description.a d.ordinary r other);
        trusted = (e i).trusted;
      })
  done_still false t u =
      let e = rw t at done in
      rw (t, u)
      (λ i.
      record {
        description = d.description;
        capture = (e i).capture;
        ordinary = (e i).ordinary;
        trusted = with_bytes d.trusted (stored_bytes d.trusted r other);
      })

module _ (d : Board) (p q : List ℕ) (m n : ℕ) (apart : is_trusted (request_of q).target ≡ not (is_trusted (request_of p).target)) (a : Able d p m) where
  abbrev once : Board
  once = (serve d p m).after

  -- the write has been done
  done_once : after_write once (request_of p) (data_of p) ≡ once
  done_once =
      let e = able_serves d p m a in
      let again = able_serves (after_write d (request_of p) (data_of p)) p m (second_after d p p m m (itself p a.writes) a a) in
      ap (λ (x : Board). after_write x (request_of p) (data_of p)) (ap (λ (o : Outcome). o.after) e)
      ∙ ap (λ (o : Outcome). o.after) (sym again)
      ∙ ap (λ (o : Outcome). (serve o.after p m).after) (sym e)
      ∙ ap (λ (o : Outcome). o.after) (write_twice d p m a)

  by_second : ((serve once q n).after ≡ once) ⊎ Able once q n → Able (serve once q n).after p m → (serve (serve once q n).after p m).after ≡ (serve once q n).after
  by_second (inl kept) b = ap (λ (x : Board). (serve x p m).after) kept ∙ ap (λ (o : Outcome). o.after) (write_twice d p m a) ∙ sym kept
  by_second (inr c) b =
      let e : (serve once q n).after ≡ after_write once (request_of q) (data_of q) = ap (λ (o : Outcome). o.after) (able_serves once q n c) in
      ap (λ (o : Outcome). o.after) (able_serves (serve once q n).after p m b)
      ∙ ap (λ (x : Board). after_write x (request_of p) (data_of p)) e
      ∙ done_still once (request_of p) (request_of q) (data_of p) (data_of q) done_once _ refl apart
      ∙ sym e

pub other_space_between : OtherSpaceBetween
other_space_between d p q m n success apart = by (kept_or_able d p m) (kept_or_able (serve (serve d p m).after q n).after p m)
  where
    by : ((serve d p m).after ≡ d) ⊎ Able d p m → ((serve (serve (serve d p m).after q n).after p m).after ≡ (serve (serve d p m).after q n).after) ⊎ Able (serve (serve d p m).after q n).after p m
        → (serve (serve (serve d p m).after q n).after p m).after ≡ (serve (serve d p m).after q n).after
    by x (inl kept) = kept
    by (inr a) (inr b) = by_second d p q m n apart a (kept_or_able (serve d p m).after q n) b
    by (inl kept) (inr b) =
        by_second d p q m n apart (able d p m b.writes success) (kept_or_able (serve d p m).after q n) b
