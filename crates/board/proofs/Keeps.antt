-- What serving keeps: the description, the rules and the marks always, and a well-described board well described. Assumes nothing.
use Prim.Native.Nat.{ℕ, zero, suc, ◌+◌, ◌≤◌}
use mathlib.Core.Bool.{Bool, true, false}
use mathlib.Core.List.{List}
use mathlib.Core.Path.{◌≡◌, refl, sym, ap, ◌∙◌, subst}
use native.Mathlib.Omega.{arith}
use lib.Dec.{eqb}
use lib.ListN.{length}
use borrow.Author.Tests.{le-ltb}
use Rattle.answers.proofs.Checks.{none_of}
use Rattle.words.proofs.Laws.{put_length}
use Rattle.registers.proofs.Laws.{merged_length}
use Rattle.packet.specs.declared.Request.{Request}
use Rattle.packet.specs.Fields.{data_of}
use Rattle.packet.specs.Request.{is_trusted, request_of}
use Rattle.packet.proofs.Laws.{offset_inside, device_inside}
use Rattle.capture.specs.declared.Capture.{Capture}
use Rattle.capture.specs.Kept.{captured, forgotten}
use Rattle.board.specs.declared.Description.{Description}
use Rattle.board.specs.Promise.{Served, Seen, after_call, shows, Serves}
use Rattle.board.specs.Description.{Space, with_bytes, Board, ranges, out_of_range, WellDescribed, after_reset}
use Rattle.board.specs.Access.{unsupported, stored_bytes, stored_ordinary, after_write}
use Rattle.board.specs.Serving.{respond, serve_number, by_number, serve}
use Rattle.board.proofs.Laws.{WellSpace, Well, well_described, described_well}
use Rattle.board.proofs.Outcomes.{respond_unsupported, respond_write, respond_read}

-- what serving keeps, stated of the board before and the board after: of a space all but its bytes
pub record Keeping (d e : Board) : Type 0 where
  pub description : e.description ≡ d.description
  pub ordinary : e.ordinary ≡ with_bytes d.ordinary e.ordinary.bytes
  pub trusted : e.trusted ≡ with_bytes d.trusted e.trusted.bytes

abbrev pub ServeKeeps : Type 0
ServeKeeps = (d : Board) (p : List ℕ) (size : ℕ) → Keeping d (serve d p size).after

-- what a caller holds after a call is the board after serving
abbrev pub CallHolds : Type 0
CallHolds =
    (d : Board) (p reply : List ℕ) (r : Served) (o t after : List ℕ) → Serves d p reply r o t after
    → after_call d r.capture o t ≡ (serve d p (length reply)).after

abbrev pub ServeKeepsWell : Type 0
ServeKeepsWell = (d : Board) (p : List ℕ) (size : ℕ) → WellDescribed d → WellDescribed (serve d p size).after

-- ---- any property of boards that holds before, and after each kind of write, holds after serving

module _ (P : Board → Type 0) (d : Board) where
  after_response : (unsupp writes : Bool) (q : Request) (new : List ℕ) → unsupported d.description d.capture q ≡ unsupp → q.writes ≡ writes
      → P d → P (after_write d q new) → P (respond d q new).after
  after_response true writes q new u w same changed = rw (respond_unsupported d q new u) same
  after_response false true q new u w same changed = rw (respond_write d q new u w) changed
  after_response false false q new u w same changed = rw (respond_read d q new u w) same

  after_number : (n : ℕ) (p : List ℕ) → P d → (n ≡ 0 → P (after_write d (request_of p) (data_of p))) → P (by_number n d p).after
  after_number zero p same changed = after_response _ _ (request_of p) (data_of p) refl refl same (changed refl)
  after_number (suc n) p same changed = same

  -- serving leaves the board as it was, or, where the packet is served, as its write leaves it
  pub after_served : (p : List ℕ) (size : ℕ) → P d → (serve_number d p size ≡ 0 → P (after_write d (request_of p) (data_of p))) → P (serve d p size).after
  unfolding serve
  after_served p size same changed = after_number (serve_number d p size) p same changed

  pub after_serving : (p : List ℕ) (size : ℕ) → P d → P (after_write d (request_of p) (data_of p)) → P (serve d p size).after
  after_serving p size same changed = after_served p size same (λ n. changed)

-- ---- the description, the rules and the marks

kept_write : (d : Board) (q : Request) (new : List ℕ) (trusted : Bool) → is_trusted q.target ≡ trusted → Keeping d (after_write d q new)
unfolding after_write
kept_write d q new true t = rw t (record { description = refl; ordinary = refl; trusted = refl })
kept_write d q new false t = rw t (record { description = refl; ordinary = refl; trusted = refl })

pub serve_keeps : ServeKeeps
serve_keeps d p size =
    after_serving (Keeping d) d p size (record { description = refl; ordinary = refl; trusted = refl }) (kept_write d (request_of p) (data_of p) _ refl)

pub call_holds : CallHolds
unfolding shows
call_holds d p reply r o t after e =
    let k = serve_keeps d p (length reply) in
    λ i.
    record {
      description = sym k.description i;
      capture = (ap (λ (x : Seen). x.capture) e) i;
      ordinary = (ap (λ (x : Seen). with_bytes d.ordinary x.ordinary) e ∙ sym k.ordinary) i;
      trusted = (ap (λ (x : Seen). with_bytes d.trusted x.trusted) e ∙ sym k.trusted) i;
    }

-- the same of a board that is known to be the one after serving
pub serving_holds : (d : Board) (p : List ℕ) (size : ℕ) (b : Board) → b ≡ (serve d p size).after
    → b ≡ after_call d b.capture b.ordinary.bytes b.trusted.bytes
serving_holds d p size b e =
    let k : Keeping d b = subst (Keeping d) (sym e) (serve_keeps d p size) in
    λ i. record { description = k.description i; capture = b.capture; ordinary = k.ordinary i; trusted = k.trusted i }

-- ---- well described

captured_range : (d : Description) (kept : Capture) (bus device : ℕ) → device ≤ 31 → out_of_range d kept ≡ false
    → out_of_range d (captured kept bus device) ≡ false
captured_range d kept bus device h e =
    let n = none_of (ranges d kept) e in
    rw (le-ltb 31 device h, n.1.0, n.1.1.0, n.1.1.1.0, n.1.1.1.1.0)

-- a space with other bytes, as many
pub with_bytes_lem : (s : Space) (bytes : List ℕ) → WellSpace s → length bytes ≡ 4096 → WellSpace (with_bytes s bytes)
with_bytes_lem s bytes w e = record { bytes = e; rules = w.rules; marks = w.marks; once = w.once }

module _ (s : Space) (q : Request) (new : List ℕ) (w : WellSpace s) (inside : q.offset + 4 ≤ 4096) where
  stored_length : length (stored_bytes s q new) ≡ 4096
  unfolding stored_bytes
  stored_length = put_length s.bytes q.offset _ (rw merged_length (omega (arith, w.bytes))) ∙ w.bytes

  besides_length : (a : ℕ) (at : Bool) → eqb q.offset a ≡ at → length (stored_ordinary a s q new) ≡ 4096
  unfolding stored_ordinary
  besides_length a true at = rw at w.bytes
  besides_length a false at = rw at stored_length

well_write : (d : Board) (q : Request) (new : List ℕ) (trusted : Bool) → is_trusted q.target ≡ trusted → q.offset + 4 ≤ 4096 → q.device ≤ 31
    → Well d → WellDescribed (after_write d q new)
unfolding after_write
well_write d q new true t h k w =
    rw t
    (described_well d.description d.capture d.ordinary (with_bytes d.trusted (stored_bytes d.trusted q new))
    w.ordinary
    (with_bytes_lem d.trusted (stored_bytes d.trusted q new) w.trusted (stored_length d.trusted q new w.trusted h))
    w.in_range)
well_write d q new false t h k w =
    let stored = stored_ordinary d.description.a d.ordinary q new in
    rw t
    (described_well d.description (captured d.capture q.bus q.device) (with_bytes d.ordinary stored) d.trusted
    (with_bytes_lem d.ordinary stored w.ordinary (besides_length d.ordinary q new w.ordinary h d.description.a _ refl))
    w.trusted
    (captured_range d.description d.capture q.bus q.device k w.in_range))

pub serve_keeps_well : ServeKeepsWell
serve_keeps_well d p size e =
    after_serving WellDescribed d p size e
    (well_write d (request_of p) (data_of p) _ refl (offset_inside p) (device_inside p) (well_described d e))

pub reset_keeps_well : (d : Board) → WellDescribed d → WellDescribed (after_reset d)
reset_keeps_well d e =
    let w = well_described d e in
    let n = none_of (ranges d.description d.capture) w.in_range in
    described_well d.description (forgotten d.capture) d.ordinary d.trusted w.ordinary w.trusted (rw (n.1.0, n.1.1.0, n.1.1.1.0, n.1.1.1.1.0))
