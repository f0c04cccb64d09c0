-- Document 02, 12/13: "two successful writes of the same type, bus, device, function, offset and data, with different enables, may be swapped, and leave what one
-- write with both sets of enables leaves. Under the bits of 6/13 as well, and in both editions." Assumes nothing.
use Rattle.std.specs.Prelude.{ℕ, ◌≤◌, true, false, not, List, [], ◌∷◌, ◌++◌, ◌≡◌, length}
use Rattle.std.specs.Int.Bits.{bit_or}
use Rattle.words.specs.Bytes.{byte, put}
use Rattle.packet.specs.declared.Status.TheVariants.{Success}
use Rattle.packet.specs.Fields.{data_of}
use Rattle.packet.specs.Request.{is_trusted, number_under, request_of}
use Rattle.packet.specs.Completion.{status_byte}
use Rattle.board.specs.Description.{Board}
use Rattle.board.specs.Serving.{serve}
use Rattle.pair.specs.Pair.{Pair}
use Rattle.ports.specs.declared.Port.{Port}
use Rattle.retry.specs.Rows.{Answer, Row, events_in, end, answers_in, AllMeet, answered}
use Rattle.retry.specs.Switch.{Boards, Sizes, verdict}

-- "of the same type, bus, device, function, offset and data": requester, tag, digest and what is reserved may differ
pub record SameWrite (p q : List ℕ) : Type 0 where
  pub writes : ((request_of p).writes ≡ true) × ((request_of q).writes ≡ true)
  pub target : (request_of p).target ≡ (request_of q).target
  pub bus : (request_of p).bus ≡ (request_of q).bus
  pub device : (request_of p).device ≡ (request_of q).device
  pub function : (request_of p).function ≡ (request_of q).function
  pub offset : (request_of p).offset ≡ (request_of q).offset
  pub «data» : data_of p ≡ data_of q

-- "successful": a completion of status 00h. It has 12 bytes at least: a reset, and a switch that answers UR by itself, have the number 0 and no completion
abbrev pub Successful : Answer → Type 0
Successful a = (a.number ≡ 0) × (12 ≤ length a.written) × (byte a.written 6 ≡ status_byte Success)

-- "may be swapped": both orders leave the same, and each of the two is answered the same. Of two successful writes that stand one after the other in a row; how a packet
-- comes into it, with the sizes of what is lent for it
abbrev pub SwapOf : {State Happening Step Size : Type 0} → Row State Happening Step → (List ℕ → Size → Happening) → Type 0
SwapOf {State} {Happening} {Step} {Size} row send =
    (s : State) (steps others : List Step) (before : List Happening) (p q : List ℕ) (m n : Size) (rest : List Happening)
    → AllMeet row s steps → AllMeet row s others
    → events_in row steps ≡ before ++ (send p m ∷ send q n ∷ rest)
    → events_in row others ≡ before ++ (send q n ∷ send p m ∷ rest)
    → SameWrite p q
    → (front : List Answer) (first second : Answer) (later : List Answer) → length front ≡ length before
    → answers_in row s steps ≡ front ++ (first ∷ second ∷ later)
    → Successful first → Successful second
    → (end row s others ≡ end row s steps) × (answers_in row s others ≡ front ++ (second ∷ first ∷ later))

-- so a write may be repeated under another requester and tag too: with the same enables, the second leaves what the first left, whatever it is answered
abbrev pub RepeatOtherwise : Type 0
RepeatOtherwise =
    (d : Board) (p q : List ℕ) (m n : ℕ) → SameWrite p q → (request_of p).enables ≡ (request_of q).enables → Successful (answered (serve d p m))
    → (serve (serve d p m).after q n).after ≡ (serve d p m).after

-- a packet that was successful, any packet for the other space, and the first again: it may then be answered otherwise (`limits`), but it leaves what stands there
abbrev pub OtherSpaceBetween : Type 0
OtherSpaceBetween =
    (d : Board) (p q : List ℕ) (m n : ℕ) → Successful (answered (serve d p m)) → is_trusted (request_of q).target ≡ not (is_trusted (request_of p).target)
    → (serve (serve (serve d p m).after q n).after p m).after ≡ (serve (serve d p m).after q n).after

-- "one write with both sets of enables", which is not poisoned
pub record BothEnables (p q r : List ℕ) : Type 0 where
  pub same : SameWrite p r
  pub enables : (request_of r).enables ≡ bit_or (request_of p).enables (request_of q).enables
  pub clean : (request_of r).poisoned ≡ false

-- it has no fault, and there is room for its reply: at a board, at a board of two functions, and at a switch, with the board behind the port by which it leaves
abbrev pub board_fits : Board → List ℕ → ℕ → Type 0
board_fits d r size = (number_under d.description.edition r ≡ 0) × (16 ≤ size)

abbrev pub pair_fits : Pair → List ℕ → ℕ → Type 0
pair_fits pair r size = (number_under pair.edition r ≡ 0) × (16 ≤ size)

abbrev pub switch_fits : List Port → Boards → List ℕ → Sizes → Type 0
switch_fits ports boards r sizes =
    (number_under (boards (verdict ports r sizes).port).description.edition r ≡ 0) × (20 ≤ sizes.buffer) × (16 ≤ sizes.reply)

-- "and leave what one write with both sets of enables leaves": that one is successful too, and with the requester and tag of the first it is answered as the first is
pub record OneFor (p r : List ℕ) (first one : Answer) : Type 0 where
  pub successful : Successful one
  pub alike : (request_of r).requester ≡ (request_of p).requester → (request_of r).tag ≡ (request_of p).tag → one ≡ first

abbrev pub JoinOf : {State Happening Step Size : Type 0} → Row State Happening Step → (List ℕ → Size → Happening) → (State → List ℕ → Size → Type 0) → Type 0
JoinOf {State} {Happening} {Step} {Size} row send Fits =
    (s : State) (steps others : List Step) (before : List Happening) (p q r : List ℕ) (m n k : Size) (rest : List Happening)
    → AllMeet row s steps → AllMeet row s others
    → events_in row steps ≡ before ++ (send p m ∷ send q n ∷ rest)
    → events_in row others ≡ before ++ (send r k ∷ rest)
    → SameWrite p q → BothEnables p q r → Fits s r k
    → (front : List Answer) (first second : Answer) (later : List Answer) → length front ≡ length before
    → answers_in row s steps ≡ front ++ (first ∷ second ∷ later)
    → Successful first → Successful second
    → (one : Answer) × OneFor p r first one × (end row s others ≡ end row s steps) × (answers_in row s others ≡ front ++ (one ∷ later))

-- there is such a write, wherever two were successful: the first with the enables of both. In the place of both it leaves what both leave, and is answered as the first
abbrev pub joined_packet : List ℕ → List ℕ → List ℕ
joined_packet p q = put p 7 (bit_or (request_of p).enables (request_of q).enables ∷ [])

abbrev pub JoinedOf : {State Happening Step Size : Type 0} → Row State Happening Step → (List ℕ → Size → Happening) → Type 0
JoinedOf {State} {Happening} {Step} {Size} row send =
    (s : State) (steps others : List Step) (before : List Happening) (p q : List ℕ) (m n : Size) (rest : List Happening)
    → AllMeet row s steps → AllMeet row s others
    → events_in row steps ≡ before ++ (send p m ∷ send q n ∷ rest)
    → events_in row others ≡ before ++ (send (joined_packet p q) m ∷ rest)
    → SameWrite p q
    → (front : List Answer) (first second : Answer) (later : List Answer) → length front ≡ length before
    → answers_in row s steps ≡ front ++ (first ∷ second ∷ later)
    → Successful first → Successful second
    → (end row s others ≡ end row s steps) × (answers_in row s others ≡ front ++ (first ∷ later))
