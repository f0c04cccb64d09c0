-- Two writes that differ in their enables, and in what does not matter, at one board: when they succeed, what they leave, and what they are answered. Assumes
-- nothing.
use Prim.Native.Nat.{ℕ, zero, suc, ◌+◌, ◌≤◌}
use mathlib.Core.Bool.{Bool, true, false, ◌&&◌, cond, or-true, true≢false}
use mathlib.Core.List.{List}
use mathlib.Core.Logic.{◌⊎◌, inl, inr}
use mathlib.Core.Path.{◌≡◌, refl, sym, ap, ◌∙◌, subst}
use native.Mathlib.Omega.{arith}
use lib.Bits.{bit_or, or_comm, or_self}
use lib.Dec.{ltb}
use borrow.Author.Tests.{le-ltb}
use Rattle.packet.specs.declared.Id.{Id}
use Rattle.packet.specs.declared.Target.{Target}
use Rattle.packet.specs.declared.Target.TheVariants.{Type0, Type1, Trusted}
use Rattle.packet.specs.declared.Request.{Request}
use Rattle.packet.specs.declared.Status.TheVariants.{Success}
use Rattle.packet.specs.Fields.{data_of}
use Rattle.packet.specs.Request.{is_trusted, number_under, request_of}
use Rattle.packet.specs.Completion.{without_data}
use Rattle.packet.proofs.Laws.{offset_inside}
use Rattle.packet.proofs.EnablesAside.{enabling}
use Rattle.capture.specs.declared.Capture.{Capture}
use Rattle.capture.specs.declared.Capture.TheVariants.{Nothing, Number}
use Rattle.board.specs.declared.Description.{Description}
use Rattle.board.specs.Description.{Board, badly_described, WellDescribed}
use Rattle.board.specs.Access.{unsupported, after_write}
use Rattle.board.specs.Serving.{Outcome, completer_of, replies, serve_number, serve}
use Rattle.board.proofs.Laws.{well_described}
use Rattle.board.proofs.Outcomes.{respond_unsupported, respond_write}
use Rattle.board.proofs.Refusals.{outcome_number}
use Rattle.board.proofs.Keeps.{serve_keeps_well}
use Rattle.board.proofs.Lands.{served, supported, others_keep}
use Rattle.retry.specs.Rows.{Answer, answered}
use Rattle.retry.specs.Writes.{SameWrite, Successful, BothEnables, board_fits, OneFor}
use Rattle.retry.proofs.Stores.{written_twice, SameParts, after_same}

-- ---- what a request's being unsupported hangs on

-- the request's type, bus, device and function, and whether it is a poisoned write
unsupported_parts : (description : Description) (kept : Capture) (q r : Request) → q.target ≡ r.target → q.bus ≡ r.bus → q.device ≡ r.device → q.function ≡ r.function
    → (q.writes && q.poisoned) ≡ (r.writes && r.poisoned) → unsupported description kept q ≡ unsupported description kept r
unfolding unsupported
unsupported_parts description Nothing q r t b v f p = rw (t, f, p)
unsupported_parts description (Number bus device) q r t b v f p = rw (t, b, v, f, p)

poisoned_write : (description : Description) (kept : Capture) (q : Request) → q.writes ≡ true → q.poisoned ≡ true → unsupported description kept q ≡ true
unfolding unsupported
poisoned_write description kept q w p = simp (w, p, or-true)

-- and of the capture, for a request of the same type as the write that has just captured or not
after_capture : (d : Board) (q r : Request) (new : List ℕ) (t : Target) → q.target ≡ t → r.target ≡ t
    → unsupported d.description (after_write d q new).capture r ≡ unsupported d.description d.capture r
unfolding unsupported after_write
after_capture d q r new Type0 t u = rw (t, u)
after_capture d q r new Type1 t u = rw (t, u)
after_capture d q r new Trusted t u = rw t

-- ---- a write that succeeds

-- what it takes for a packet to be a successful write
pub record Able (d : Board) (p : List ℕ) (size : ℕ) : Type 0 where
  pub well : WellDescribed d
  pub room : ltb size 16 ≡ false
  pub sound : number_under d.description.edition p ≡ 0
  pub writes : (request_of p).writes ≡ true
  pub supports : unsupported d.description d.capture (request_of p) ≡ false

-- what a packet with the number 0 has passed
pub record Passed (bad short : Bool) (n : ℕ) : Type 0 where
  pub well : bad ≡ false
  pub room : short ≡ false
  pub sound : n ≡ 0

pub passed : (bad short : Bool) (n : ℕ) → cond bad 1 (cond short 2 n) ≡ 0 → Passed bad short n
passed true short n e = absurd (omega (arith, e))
passed false true n e = absurd (omega (arith, e))
passed false false n e = record { well = refl; room = refl; sound = e }

pub able : (d : Board) (p : List ℕ) (size : ℕ) → (request_of p).writes ≡ true → Successful (answered (serve d p size)) → Able d p size
able d p size w s =
    let z = passed (badly_described d) (ltb size 16) (number_under d.description.edition p) (sym (outcome_number d p size) ∙ s.0) in
    record { well = z.well; room = z.room; sound = z.sound; writes = w; supports = supported d p size _ refl s.0 s.2 }

module _ (d : Board) (p : List ℕ) (size : ℕ) (a : Able d p size) where
  number_zero : (serve d p size).number ≡ 0
  number_zero = outcome_number d p size ∙ rw (a.well, a.room, a.sound)

  -- it is served, and successful
  pub able_serves : serve d p size ≡ replies (after_write d (request_of p) (data_of p)) Success (request_of p)
  able_serves = served d p size number_zero ∙ respond_write d (request_of p) (data_of p) a.supports a.writes

  pub able_succeeds : Successful (answered (serve d p size))
  unfolding without_data
  able_succeeds = rw able_serves (refl, omega arith, refl)

  pub still_well : WellDescribed (after_write d (request_of p) (data_of p))
  still_well = subst (λ (o : Outcome). WellDescribed o.after) able_serves (serve_keeps_well d p size a.well)

  pub unpoisoned : (request_of p).poisoned ≡ false
  unpoisoned = by (request_of p).poisoned refl
    where
      by : (b : Bool) → (request_of p).poisoned ≡ b → (request_of p).poisoned ≡ false
      by true e = absurd (true≢false (sym (poisoned_write d.description d.capture (request_of p) a.writes e) ∙ a.supports))
      by false e = e

-- whatever a packet is, it leaves the board as it was or is a successful write
module _ (d : Board) (p : List ℕ) (size : ℕ) where
  by_response : (serve d p size).number ≡ 0 → Passed (badly_described d) (ltb size 16) (number_under d.description.edition p)
      → (u w : Bool) → unsupported d.description d.capture (request_of p) ≡ u → (request_of p).writes ≡ w
      → ((serve d p size).after ≡ d) ⊎ Able d p size
  by_response n past true w u e = inl (ap (λ (o : Outcome). o.after) (served d p size n ∙ respond_unsupported d (request_of p) (data_of p) u))
  by_response n past false false u e = inl (others_keep d p size (inr (inr e)))
  by_response n past false true u e = inr (record { well = past.well; room = past.room; sound = past.sound; writes = e; supports = u })

  by_number : (n : ℕ) → serve_number d p size ≡ n → ((serve d p size).after ≡ d) ⊎ Able d p size
  by_number zero n =
      by_response (outcome_number d p size ∙ n) (passed (badly_described d) (ltb size 16) (number_under d.description.edition p) n) _ _ refl refl
  by_number (suc k) n = inl (others_keep d p size (inl (λ z. omega (arith, sym n ∙ sym (outcome_number d p size) ∙ z))))

  pub kept_or_able : ((serve d p size).after ≡ d) ⊎ Able d p size
  kept_or_able = by_number (serve_number d p size) refl

-- ---- two of them

same_description : (d : Board) (q : Request) (new : List ℕ) (t : Bool) → is_trusted q.target ≡ t → (after_write d q new).description ≡ d.description
unfolding after_write
same_description d q new true t = rw t
same_description d q new false t = rw t

-- the completer ID after a write hangs on its type, bus and device, and not on a write of the same type before it
completer_again : (d : Board) (q r : Request) (new other : List ℕ) (t : Bool) → is_trusted q.target ≡ t → q.target ≡ r.target
    → completer_of (after_write (after_write d q new) r other) ≡ completer_of (after_write d r other)
unfolding after_write
completer_again d q r new other true t same = rw (← same, t)
completer_again d q r new other false t same = rw (← same, t)

completer_alike : (d : Board) (q r : Request) (new other : List ℕ) (t : Bool) → is_trusted q.target ≡ t → q.target ≡ r.target → q.bus ≡ r.bus → q.device ≡ r.device
    → completer_of (after_write d q new) ≡ completer_of (after_write d r other)
unfolding after_write
completer_alike d q r new other true t same b v = rw (← same, t)
completer_alike d q r new other false t same b v = rw (← same, t, b, v)

-- a reply of success without data
abbrev success_reply : Board → Request → Answer
success_reply d q = answered (replies d Success q)

module _ (d : Board) (p q : List ℕ) (m n : ℕ) (same : SameWrite p q) where
  abbrev P : Request
  P = request_of p

  abbrev Q : Request
  Q = request_of q

  -- what both sets of enables leave
  abbrev pub joined : Board
  joined = after_write d (enabling P (bit_or P.enables Q.enables)) (data_of p)

  -- where the second succeeds after the first, it does before it, and the other way round
  module _ (a : Able d p m) where
    pub second_before : Able (serve d p m).after q n → Able d q n
    second_before b =
        let c = subst (λ (o : Outcome). Able o.after q n) (able_serves d p m a) b in
        let k = same_description d P (data_of p) _ refl in
        record {
          well = a.well;
          room = c.room;
          sound = subst (λ (x : Description). number_under x.edition q ≡ 0) k c.sound;
          writes = c.writes;
          supports =
              sym (after_capture d P Q (data_of p) P.target refl (sym same.target))
              ∙ subst (λ (x : Description). unsupported x (after_write d P (data_of p)).capture Q ≡ false) k c.supports;
        }

    pub second_after : Able d q n → Able (after_write d P (data_of p)) q n
    second_after b =
        let k = same_description d P (data_of p) _ refl in
        record {
          well = still_well d p m a;
          room = b.room;
          sound = subst (λ (x : Description). number_under x.edition q ≡ 0) (sym k) b.sound;
          writes = b.writes;
          supports =
              subst (λ (x : Description). unsupported x (after_write d P (data_of p)).capture Q ≡ false) (sym k)
              (after_capture d P Q (data_of p) P.target refl (sym same.target) ∙ b.supports);
        }

    -- it writes to the same place
    inside : (length : ℕ) → length ≡ 4096 → P.offset + 4 ≤ length
    inside length e = omega (arith, e, offset_inside p)

    second_parts : SameParts Q (enabling P Q.enables)
    second_parts =
        record { target = sym same.target; bus = sym same.bus; device = sym same.device; offset = sym same.offset; enables = refl }

    both_leave : after_write (after_write d P (data_of p)) Q (data_of q) ≡ joined
    both_leave =
        let w = well_described d a.well in
        ap (after_write (after_write d P (data_of p)) Q) (sym same.«data»)
        ∙ after_same (after_write d P (data_of p)) Q (enabling P Q.enables) (data_of p) second_parts
        ∙ written_twice d P (data_of p) (inside _ w.ordinary.bytes) (inside _ w.trusted.bytes) Q.enables

    module _ (b : Able d q n) where
      served_second : serve (serve d p m).after q n ≡ replies (after_write (after_write d P (data_of p)) Q (data_of q)) Success Q
      served_second =
          ap (λ (o : Outcome). serve o.after q n) (able_serves d p m a)
          ∙ able_serves (after_write d P (data_of p)) q n (second_after b)

      -- THEOREM. Both leave what one with both sets of enables leaves, and the second is answered as without the first.
      pub left_by_both : (serve (serve d p m).after q n).after ≡ joined
      left_by_both = ap (λ (o : Outcome). o.after) served_second ∙ both_leave

      pub second_answer : answered (serve (serve d p m).after q n) ≡ answered (serve d q n)
      second_answer =
          ap answered served_second
          ∙ ap (λ (id : Id). record { number = 0; written = without_data id Success Q.requester Q.tag })
          (completer_again d P Q (data_of p) (data_of q) _ refl same.target)
          ∙ ap answered (sym (able_serves d q n b))

-- the same the other way round
pub turned : {p q : List ℕ} → SameWrite p q → SameWrite q p
turned s =
    record {
      writes = (s.writes.1, s.writes.0);
      target = sym s.target;
      bus = sym s.bus;
      device = sym s.device;
      function = cc;
      offset = sym s.offset;
      «data» = sym s.«data»;
    }

-- the order of the two does not matter to what both leave
pub joined_turned : (d : Board) (p q : List ℕ) (m n : ℕ) (same : SameWrite p q) → joined d q p n m (turned same) ≡ joined d p q m n same
joined_turned d p q m n same =
    ap (after_write d (enabling (request_of q) (bit_or (request_of q).enables (request_of p).enables))) (sym same.«data»)
    ∙ after_same d _ _ (data_of p)
    (record {
      target = sym same.target;
      bus = sym same.bus;
      device = sym same.device;
      offset = sym same.offset;
      enables = or_comm (request_of q).enables (request_of p).enables;
    })

-- ---- one with both sets of enables

module _ (d : Board) (p q r : List ℕ) (m n k : ℕ) (both : BothEnables p q r) (fits : board_fits d r k) (a : Able d p m) where
  abbrev same_r : SameWrite p r
  same_r = both.same

  pub one_able : Able d r k
  one_able =
      record {
        well = a.well;
        room = le-ltb k 16 fits.1;
        sound = fits.0;
        writes = same_r.writes.1;
        supports =
            unsupported_parts d.description d.capture (request_of r) (request_of p) (sym same_r.target) (sym same_r.bus) (sym same_r.device)
            (sym same_r.function) (rw (same_r.writes.1, same_r.writes.0, both.clean, unpoisoned d p m a))
            ∙ a.supports;
      }

  pub left_by_one : (same : SameWrite p q) → (serve d r k).after ≡ joined d p q m n same
  left_by_one same =
      ap (λ (o : Outcome). o.after) (able_serves d r k one_able)
      ∙ ap (after_write d (request_of r)) (sym same_r.«data»)
      ∙ after_same d (request_of r) _ (data_of p)
      (record {
        target = sym same_r.target;
        bus = sym same_r.bus;
        device = sym same_r.device;
        offset = sym same_r.offset;
        enables = both.enables;
      })

  pub one_for : OneFor p r (answered (serve d p m)) (answered (serve d r k))
  one_for =
      record {
        successful = able_succeeds d r k one_able;
        alike = λ req tag.
            ap answered (able_serves d r k one_able)
            ∙ (λ i.
            record {
              number = 0;
              written =
                  without_data
                  (completer_alike d (request_of r) (request_of p) (data_of r) (data_of p) _ refl (sym same_r.target) (sym same_r.bus) (sym same_r.device) i)
                  Success (req i) (tag i);
            })
            ∙ ap answered (sym (able_serves d p m a));
      }

-- ---- the same write twice

-- a write is one with itself
pub itself : (p : List ℕ) → (request_of p).writes ≡ true → SameWrite p p
itself p w = record { writes = (w, w); target = refl; bus = refl; device = refl; function = refl; offset = refl; «data» = refl }

pub write_twice : (d : Board) (p : List ℕ) (size : ℕ) → Able d p size → serve (serve d p size).after p size ≡ serve d p size
write_twice d p size a =
    let s = itself p a.writes in
    let left : (serve (serve d p size).after p size).after ≡ (serve d p size).after =
    left_by_both d p p size size s a a
    ∙ ap (λ (e : ℕ). after_write d (enabling (request_of p) e) (data_of p)) (or_self (request_of p).enables)
    ∙ ap (λ (o : Outcome). o.after) (sym (able_serves d p size a)) in
    let same = second_answer d p p size size s a a in
    λ i. record { number = (same i).number; after = left i; written = (same i).written }
