-- Serving one packet on two boards that give it the same number, and are alike in a view, in the function number and in the capture: if a write leaves them alike and a
-- read shows the same of both, then serving answers the same, writes the same reply and leaves them alike. For any view; both halves of
-- demand 3 use it. Assumes nothing.
use Prim.Native.Nat.{ℕ, zero, suc}
use mathlib.Core.Bool.{Bool, true, false, cond}
use mathlib.Core.List.{List}
use mathlib.Core.Path.{◌≡◌, refl, sym, ap, ap₂, ◌∙◌, subst}
use lib.Dec.{ltb}
use Rattle.packet.specs.declared.Id.{Id}
use Rattle.packet.specs.declared.Request.{Request}
use Rattle.packet.specs.Fields.{data_of}
use Rattle.packet.specs.Request.{number_under, request_of}
use Rattle.packet.specs.declared.Status.{Status}
use Rattle.packet.specs.declared.Status.TheVariants.{Success, Unsupported}
use Rattle.packet.specs.Completion.{with_data, without_data}
use Rattle.capture.specs.declared.Capture.{Capture}
use Rattle.capture.specs.Kept.{completer}
use Rattle.board.specs.Description.{Board, WellDescribed}
use Rattle.board.specs.Access.{unsupported, after_write, read_word}
use Rattle.board.specs.Serving.{Outcome, completer_of, replies, replies_data, respond, serve_number, by_number, serve}
use Rattle.board.proofs.Laws.{unsupported_same}
use Rattle.board.proofs.Outcomes.{respond_unsupported, respond_write, respond_read, respond_number}

-- two boards that are alike
pub record Alike {View : Type 0} (view : Board → View) (d e : Board) : Type 0 where
  pub views : view d ≡ view e
  pub functions : d.description.function ≡ e.description.function
  pub captures : d.capture ≡ e.capture

-- two outcomes that are
pub record Same {View : Type 0} (view : Board → View) (o u : Outcome) : Type 0 where
  pub numbers : o.number ≡ u.number
  pub written : o.written ≡ u.written
  pub afters : Alike view o.after u.after

-- what has to be known of a packet that is served
pub record Answered {View : Type 0} (view : Board → View) (d e : Board) (q : Request) (new : List ℕ) : Type 0 where
  pub stores : Alike view (after_write d q new) (after_write e q new)
  pub reads : read_word d q ≡ read_word e q

-- the statement
abbrev pub ServedAlike : {View : Type 0} → (Board → View) → Type 0
ServedAlike view =
    (d e : Board) (p : List ℕ) (size : ℕ) → serve_number d p size ≡ serve_number e p size → Alike view d e
    → ((serve d p size).number ≡ 0 → (serve e p size).number ≡ 0 → Answered view d e (request_of p) (data_of p)) → Same view (serve d p size) (serve e p size)

-- ---- the number

-- of a well-described board, the number is the packet's and the reply size's alone, under its edition
pub number_same : (d e : Board) (p : List ℕ) (size : ℕ) → WellDescribed d → WellDescribed e
    → number_under d.description.edition p ≡ number_under e.description.edition p → serve_number d p size ≡ serve_number e p size
number_same d e p size w v n = ap₂ (λ bad number. cond bad 1 (cond (ltb size 16) 2 number)) (w ∙ sym v) n

-- ---- a request

module _ {View : Type 0} (view : Board → View) (d e : Board) (q : Request) where
  completer_same : Alike view d e → completer_of d ≡ completer_of e
  completer_same a = ap₂ completer a.captures a.functions

  replies_same : (status : Status) → Alike view d e → Same view (replies d status q) (replies e status q)
  replies_same status a =
      record {
        numbers = refl;
        written = ap (λ (id : Id). without_data id status q.requester q.tag) (completer_same a);
        afters = a;
      }

  data_same : read_word d q ≡ read_word e q → Alike view d e → Same view (replies_data d q) (replies_data e q)
  data_same r a =
      record { numbers = refl; written = ap₂ (λ id word. with_data id q.requester q.tag word) (completer_same a) r; afters = a }

module _ {View : Type 0} (view : Board → View) (d e : Board) (q : Request) (new : List ℕ) (a : Alike view d e) (h : Answered view d e q new) where
  by_cases : (u w : Bool) → unsupported d.description d.capture q ≡ u → unsupported e.description e.capture q ≡ u → q.writes ≡ w
      → Same view (respond d q new) (respond e q new)
  by_cases true w ud ue wr = rw (respond_unsupported d q new ud, respond_unsupported e q new ue) (replies_same view d e q Unsupported a)
  by_cases false true ud ue wr =
      rw (respond_write d q new ud wr, respond_write e q new ue wr)
      (replies_same view (after_write d q new) (after_write e q new) q Success h.stores)
  by_cases false false ud ue wr = rw (respond_read d q new ud wr, respond_read e q new ue wr) (data_same view d e q h.reads a)

  respond_same : Same view (respond d q new) (respond e q new)
  respond_same =
      by_cases _ _ refl
      (sym
      (ap (λ (k : Capture). unsupported d.description k q) a.captures
      ∙ unsupported_same d.description e.description e.capture q a.functions))
      refl

-- ---- a packet

module _ {View : Type 0} (view : Board → View) (d e : Board) (p : List ℕ) where
  -- the outcomes of two numbers are the same, if what has to be known is known where both are 0
  abbrev ByNumber : ℕ → ℕ → Type 0
  ByNumber m n =
      ((by_number m d p).number ≡ 0 → (by_number n e p).number ≡ 0 → Answered view d e (request_of p) (data_of p))
      → Same view (by_number m d p) (by_number n e p)

  by_number_lem : (n : ℕ) → Alike view d e → ByNumber n n
  by_number_lem zero a h =
      respond_same view d e (request_of p) (data_of p) a (h (respond_number d (request_of p) (data_of p)) (respond_number e (request_of p) (data_of p)))
  by_number_lem (suc n) a h = record { numbers = refl; written = refl; afters = a }

pub served_alike : {View : Type 0} (view : Board → View) → ServedAlike view
unfolding serve
served_alike view d e p size n a =
    subst (ByNumber view d e p (serve_number d p size)) n (by_number_lem view d e p (serve_number d p size) a)
