-- Each outcome of serving: what the calls on the way have shown, and that the whole is what `serve` says.
-- Assumes nothing.
use Prim.Native.Nat.{ℕ, zero, suc, ◌+◌, ◌≤◌, ◌<◌}
use mathlib.Core.Bool.{Bool, true, false}
use mathlib.Core.List.{List}
use mathlib.Core.Path.{◌≡◌, refl, sym, ap, ◌∙◌}
use native.Mathlib.Omega.{arith}
use lib.ListN.{length}
use Rattle.std.specs.Prelude.{Ok, Err}
use borrow.Author.Tests.{lt-ltb, le-ltb}
use Rattle.answers.specs.declared.Refusal.{Refusal}
use Rattle.answers.specs.Numbers.{number_of}
use Rattle.answers.proofs.Unique.{number_positive}
use Rattle.packet.specs.declared.Request.{Request}
use Rattle.packet.specs.Fields.{data_of}
use Rattle.packet.specs.Request.{is_trusted, number_under, request_of, DecodesUnder}
use Rattle.packet.proofs.Laws.{offset_inside, write_long, sound_under}
use Rattle.packet.specs.declared.Status.TheVariants.{Success, Unsupported}
use Rattle.board.specs.Description.{Space, Board, badly_described}
use Rattle.board.specs.Access.{unsupported, stored_bytes, after_write}
use Rattle.board.specs.Serving.{Outcome, replies, replies_data, respond, serve_number, refused, by_number, serve}
use Rattle.board.specs.Promise.{shows, Serves}
use Rattle.board.specs.Inner.{Sized, Ready, Leaves, with_trusted, with_captured}
use Rattle.board.proofs.Laws.{WellSpace, well_described, stored_at_a, stored_ordinary_lem}

-- ---- the write: what it leaves of a board

module _ (d : Board) (q : Request) (new : List ℕ) where
  pub written_trusted : (bytes : List ℕ) → is_trusted q.target ≡ true → bytes ≡ stored_bytes d.trusted q new
      → with_trusted d bytes ≡ after_write d q new
  unfolding after_write
  written_trusted bytes t e = rw (t, e)

  module _ (t : is_trusted q.target ≡ false) where
    pub written_at_a : q.offset ≡ d.description.a → with_captured d q d.ordinary.bytes ≡ after_write d q new
    unfolding after_write
    written_at_a a = rw (t, stored_at_a d.description.a d.ordinary q new a)

    pub written_ordinary : (bytes : List ℕ) → (q.offset ≡ d.description.a → ⊥) → bytes ≡ stored_bytes d.ordinary q new
        → with_captured d q bytes ≡ after_write d q new
    unfolding after_write
    written_ordinary bytes h e = rw (t, stored_ordinary_lem d.description.a d.ordinary q new h, e)

-- ---- the three ways to respond

module _ (d : Board) (q : Request) (new : List ℕ) where
  pub respond_unsupported : unsupported d.description d.capture q ≡ true → respond d q new ≡ replies d Unsupported q
  unfolding respond
  respond_unsupported u = rw u

  module _ (u : unsupported d.description d.capture q ≡ false) where
    pub respond_write : q.writes ≡ true → respond d q new ≡ replies (after_write d q new) Success q
    unfolding respond
    respond_write w = rw (u, w)

    pub respond_read : q.writes ≡ false → respond d q new ≡ replies_data d q
    unfolding respond
    respond_read w = rw (u, w)

  number_by : (unsupp writes : Bool) → unsupported d.description d.capture q ≡ unsupp → q.writes ≡ writes → (respond d q new).number ≡ 0
  number_by true writes u w = rw (respond_unsupported u)
  number_by false true u w = rw (respond_write u w)
  number_by false false u w = rw (respond_read u w)

  -- a request that is responded to is served
  pub respond_number : (respond d q new).number ≡ 0
  respond_number = number_by _ _ refl refl

-- ---- the checks

pub refused_is : (n : ℕ) (d : Board) (p : List ℕ) → (n ≡ 0 → ⊥) → by_number n d p ≡ refused n d
refused_is zero d p h = absurd (h refl)
refused_is (suc n) d p h = refl

module _ (d : Board) (p reply : List ℕ) where
  -- a refusal with its number leaves all as it was
  pub refused_seen : (refusal : Refusal) → serve_number d p (length reply) ≡ number_of refusal
      → Serves d p reply (record { answer = Err refusal; capture = d.capture }) d.ordinary.bytes d.trusted.bytes reply
  unfolding shows serve
  refused_seen refusal n = rw (n, refused_is (number_of refusal) d p (number_positive refusal))

  pub bad_number : badly_described d ≡ true → serve_number d p (length reply) ≡ 1
  bad_number b = rw b

  module _ (well : badly_described d ≡ false) where
    pub room_number : length reply < 16 → serve_number d p (length reply) ≡ 2
    room_number h = rw (well, lt-ltb (length reply) 16 h)

    pub packet_number : 16 ≤ length reply → serve_number d p (length reply) ≡ number_under d.description.edition p
    packet_number h = rw (well, le-ltb (length reply) 16 h)

    pub served_is : 16 ≤ length reply → number_under d.description.edition p ≡ 0 → serve d p (length reply) ≡ respond d (request_of p) (data_of p)
    unfolding serve
    served_is h n = rw (packet_number h, n)

-- ---- a packet without a fault, on a well-described board with room for the reply

module _ (d : Board) (p reply : List ℕ) (well : badly_described d ≡ false) (room : 16 ≤ length reply) (q : Request)
    (asks : DecodesUnder d.description.edition p (Ok q)) where
  sized : (s : Space) → WellSpace s → q.offset + 4 ≤ 4096 → Sized s q
  sized s w inside = record { whole_bytes = w.bytes; whole_rules = w.rules; whole_marks = w.marks; inside = inside }

  pub ready : Ready d q reply
  ready =
      let w = well_described d well in
      let inside : q.offset + 4 ≤ 4096 = rw asks.1 (offset_inside p) in
      record {
        sized_ordinary = sized d.ordinary w.ordinary inside;
        sized_trusted = sized d.trusted w.trusted inside;
        register = omega (arith, w.register);
        room = room;
      }

  pub in_bounds : q.writes ≡ true → 16 ≤ length p
  in_bounds h = write_long p (sound_under d.description.edition p asks.0) (ap (λ (x : Request). x.writes) (sym asks.1) ∙ h)

  respond_is : respond d q (data_of p) ≡ serve d p (length reply)
  respond_is = ap (λ (x : Request). respond d x (data_of p)) asks.1 ∙ sym (served_is d p reply well room asks.0)

  module _ (b : Board) (n : ℕ) (after : List ℕ) (left : Leaves (respond d q (data_of p)) reply b n after) where
    pub served_seen : Serves d p reply (record { answer = Ok n; capture = b.capture }) b.ordinary.bytes b.trusted.bytes after
    unfolding shows
    served_seen =
        rw (← respond_is)
        (λ i.
        record {
          number = sym (respond_number d q (data_of p)) i;
          count = left.count i;
          capture = (left.board i).capture;
          ordinary = (left.board i).ordinary.bytes;
          trusted = (left.board i).trusted.bytes;
          reply = left.written i;
        })

    pub served_leaves : b ≡ (serve d p (length reply)).after
    served_leaves = left.board ∙ ap (λ (o : Outcome). o.after) respond_is
