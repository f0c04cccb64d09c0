-- What wrong servers of a board of two functions do, for any server at all: faults against document 02's 11/13 that a newcomer would make, each by itself: a
-- server with one may be right about every packet of another kind. A server here is what a caller sees of it. Assumes nothing.
use Rattle.std.specs.Prelude.{ℕ, ◌≤◌, ◌%◌, Bool, true, false, List, ◌≡◌, length, take, drop}
use Rattle.words.specs.Bytes.{byte, four}
use Rattle.registers.specs.Shown.{shown}
use Rattle.packet.specs.declared.Target.{Target}
use Rattle.packet.specs.declared.Target.TheVariants.{Type0, Type1, Trusted}
use Rattle.packet.specs.Fields.{function_of}
use Rattle.packet.specs.Request.{request_of}
use Rattle.board.specs.Description.{badly_described}
use Rattle.runs.specs.Servers.{untouched}
use Rattle.pair.specs.Pair.{Pair, Role, Primary, Alternate, other, side, board, WellPaired, is_for_role}
use Rattle.pair.specs.Pair as pairs
use Rattle.pair.specs.Serving.{serve_pair}
use Rattle.pair.specs.Promise.{PairSeen, pair_shows}

-- any server: the pair, the packet and the reply as lent, and what is seen afterwards
abbrev pub PairServer : Type 0
PairServer = Pair → List ℕ → List ℕ → PairSeen

-- it is right about a packet, with a reply of 16 bytes: as the promise of `pair::serve` wants it seen
abbrev pub PairRightAt : PairServer → Pair → List ℕ → Type 0
PairRightAt server pair p = server pair p untouched ≡ pair_shows (serve_pair pair p (length untouched)) untouched

-- the bytes of the reply that it says it wrote
abbrev pub pair_completion : PairSeen → List ℕ
pair_completion x = take x.count x.reply

-- a function's trusted bytes afterwards
abbrev pub trusted_after : Role → PairSeen → List ℕ
trusted_after Primary x = x.primary_trusted
trusted_after Alternate x = x.alternate_trusted

-- a packet for a function, to one of its spaces, which writes or reads and is not poisoned
pub record Ask (role : Role) (pair : Pair) (p : List ℕ) (target : Target) (writes : Bool) : Type 0 where
  pub for : is_for_role role pair p ≡ true
  pub to : (request_of p).target ≡ target
  pub does : (request_of p).writes ≡ writes
  pub clean : (request_of p).poisoned ≡ false

-- both functions share a capture: what a Type 0 write to one captures, the other has captured too
abbrev pub SharesCapture : Role → PairServer → Type 0
SharesCapture role server =
    (pair : Pair) (p reply : List ℕ) → Ask role pair p Type0 true → (server pair p reply).number ≡ 0
    → (server pair p reply).kept.primary ≡ (server pair p reply).kept.alternate

-- a trusted request is looked up in the other's spaces: a read that is given data shows the other function's trusted bytes, and a write leaves the
-- function's own as they are
abbrev pub LooksUpOther : Role → PairServer → Type 0
LooksUpOther role server =
    (pair : Pair) (p reply : List ℕ) → Ask role pair p Trusted false → (server pair p reply).count ≡ 16
    → drop 12 (pair_completion (server pair p reply)) ≡ shown (four (side (other role) pair).trusted.bytes (request_of p).offset)

abbrev pub WritesOther : Role → PairServer → Type 0
WritesOther role server =
    (pair : Pair) (p reply : List ℕ) → Ask role pair p Trusted true → trusted_after role (server pair p reply) ≡ (side role pair).trusted.bytes

-- UR for neither, with the ID of the function that is named: of a Type 0 request, without a fault, that names neither function
abbrev pub NamesTheNamed : PairServer → Type 0
NamesTheNamed server =
    (pair : Pair) (p reply : List ℕ) → is_for_role Primary pair p ≡ false → is_for_role Alternate pair p ≡ false → (request_of p).target ≡ Type0
    → (server pair p reply).number ≡ 0 → byte (pair_completion (server pair p reply)) 5 % 8 ≡ function_of (byte p 9)

-- routing by byte 9 before the faults: what names neither function is served, UR, though it has a fault
abbrev pub RoutesFirst : PairServer → Type 0
RoutesFirst server =
    (pair : Pair) (p reply : List ℕ) → WellPaired pair → 16 ≤ length reply → 12 ≤ length p → (function_of (byte p 9) ≡ pairs.number_of Primary pair → ⊥)
    → (function_of (byte p 9) ≡ pairs.number_of Alternate pair → ⊥) → (server pair p reply).number ≡ 0

-- and a Type 1 request is answered by the function that it names
abbrev pub RoutesType1 : PairServer → Type 0
RoutesType1 server =
    (pair : Pair) (p reply : List ℕ) → WellPaired pair → (request_of p).target ≡ Type1 → function_of (byte p 9) ≡ pairs.number_of Alternate pair → (server pair p reply).number ≡ 0
    → byte (pair_completion (server pair p reply)) 5 % 8 ≡ pairs.number_of Alternate pair

-- what is for neither is answered with the alternate's completer ID
abbrev pub AnswersAsAlternate : PairServer → Type 0
AnswersAsAlternate server =
    (pair : Pair) (p reply : List ℕ) → WellPaired pair → is_for_role Primary pair p ≡ false → is_for_role Alternate pair p ≡ false → (server pair p reply).number ≡ 0
    → byte (pair_completion (server pair p reply)) 5 % 8 ≡ pairs.number_of Alternate pair

-- two functions with one number, which are well described by themselves, are served
abbrev pub ServesEqual : PairServer → Type 0
ServesEqual server =
    (pair : Pair) (p reply : List ℕ) → 16 ≤ length reply → badly_described (board Primary pair) ≡ false → badly_described (board Alternate pair) ≡ false
    → pairs.number_of Primary pair ≡ pairs.number_of Alternate pair → is_for_role Primary pair p ≡ true → (server pair p reply).number ≡ 0

-- only the function that a packet is for is looked at: another function beside it, with the same number, makes no difference to the answer's number
abbrev pub LooksAtOne : Role → PairServer → Type 0
LooksAtOne role server =
    (pair spoilt : Pair) (p reply : List ℕ) → is_for_role role pair p ≡ true → pair.edition ≡ spoilt.edition → side role pair ≡ side role spoilt
    → pairs.number_of (other role) pair ≡ pairs.number_of (other role) spoilt → (server pair p reply).number ≡ (server spoilt p reply).number
