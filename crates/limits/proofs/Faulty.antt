-- There are servers with each of the faults of specs/Servers.antt that are right about every packet of another kind: without a memory about every one that is not a successful
-- write, and of such a write in all but the fault; with one about every first packet, and about the next, if it is another. So what is refuted in Wrong.antt asks of a server
-- nothing about those. Assumes nothing.
use Prim.Native.Nat.{ℕ, zero, suc, ◌+◌, ◌<◌}
use mathlib.Core.Bool.{Bool, true, false, not, ◌&&◌, cond}
use mathlib.Core.List.{List, [], ◌∷◌}
use mathlib.Core.Path.{◌≡◌, refl, sym, ap, ◌∙◌}
use native.Mathlib.Omega.{arith}
use lib.Dec.{eqb, ltb}
use lib.ListN.{length}
use lib.Seq.{take-append_seam}
use borrow.Author.Tests.{eq-eqb}
use Rattle.words.specs.Bytes.{byte, four, put}
use Rattle.words.specs.Fields.{bit}
use Rattle.words.proofs.Laws.{put_there}
use Rattle.registers.specs.Merge.{enabled}
use Rattle.packet.specs.declared.Target.TheVariants.{Type0}
use Rattle.packet.specs.declared.Status.TheVariants.{Success, Unsupported}
use Rattle.packet.specs.Request.{is_trusted, request_of}
use Rattle.packet.specs.Completion.{without_data}
use Rattle.packet.proofs.Laws.{offset_inside}
use Rattle.board.specs.Description.{Board, badly_described, WellDescribed}
use Rattle.board.specs.Access.{unsupported}
use Rattle.board.specs.Serving.{serve, completer_of}
use Rattle.board.specs.Promise.{Seen, shows, over}
use Rattle.board.proofs.Laws.{well_described}
use Rattle.board.proofs.Keeps.{serve_keeps_well}
use Rattle.board.proofs.Refusals.{outcome_number}
use Rattle.retry.proofs.Writes.{passed}
use Rattle.runs.specs.Servers.{Server, promised, completion, Remembering, OwnWrite}
use Rattle.runs.specs.Clearing.{left_in, Succeeds}
use Rattle.limits.specs.Servers.{FlipsMarked, CompletesFirst, ZeroesDisabled, RepliesFromMemory, StoresNotAgain, RefusesAgain, UnsupportedAgain}

-- ---- without a memory

-- a successful write, by what is promised for it
abbrev pub writes_there : Board → List ℕ → List ℕ → Bool
writes_there d p reply =
    (request_of p).writes && not (unsupported d.description d.capture (request_of p)) && eqb (promised d p reply).number 0

pub record Such (Fault : Server → Type 0) : Type 0 where
  pub server : Server
  pub faulty : Fault server
  pub right_else : (d : Board) (p reply : List ℕ) → writes_there d p reply ≡ false → server d p reply ≡ promised d p reply

-- right about all others
abbrev on_writes : (Seen → Board → List ℕ → List ℕ → Seen) → Server
on_writes wrong d p reply = cond (writes_there d p reply) (wrong (promised d p reply) d p reply) (promised d p reply)

else_right : (wrong : Seen → Board → List ℕ → List ℕ → Seen) (d : Board) (p reply : List ℕ) → writes_there d p reply ≡ false → on_writes wrong d p reply ≡ promised d p reply
else_right wrong d p reply e = rw e

-- it is one, where the server's number is 0 and the spoilt one has the number of the right one
module _ (wrong : Seen → Board → List ℕ → List ℕ → Seen) (kept : (x : Seen) (d : Board) (p reply : List ℕ) → (wrong x d p reply).number ≡ x.number)
    (d : Board) (p reply : List ℕ) (w : (request_of p).writes ≡ true) (u : unsupported d.description d.capture (request_of p) ≡ false)
    (n : (on_writes wrong d p reply).number ≡ 0) where
  number_by : (b : Bool) → (cond b (wrong (promised d p reply) d p reply) (promised d p reply)).number ≡ (promised d p reply).number
  number_by true = kept (promised d p reply) d p reply
  number_by false = refl

  promised_zero : (promised d p reply).number ≡ 0
  promised_zero = sym (number_by (writes_there d p reply)) ∙ n

  is_there : writes_there d p reply ≡ true
  is_there = λ i. w i && not (u i) && eqb (promised_zero i) 0

  spoilt : on_writes wrong d p reply ≡ wrong (promised d p reply) d p reply
  spoilt = rw is_there

  -- both spaces are whole then
  still_well : WellDescribed (serve d p (length reply)).after
  unfolding shows
  still_well =
      serve_keeps_well d p (length reply)
      (passed (badly_described d) (ltb (length reply) 16) _ (sym (outcome_number d p (length reply)) ∙ promised_zero)).well

  whole : (trusted : Bool) → length (left_in trusted (promised d p reply)) ≡ 4096
  unfolding shows
  whole true = (well_described _ still_well).trusted.bytes
  whole false = (well_described _ still_well).ordinary.bytes

-- the four bytes at the offset are others, of the space that is asked for: from what stands there
abbrev in_space : (List ℕ → List ℕ → List ℕ) → Seen → Board → List ℕ → List ℕ → Seen
in_space word x d p reply =
    let t = is_trusted (request_of p).target in
    let at = (request_of p).offset in
    record {
      number = x.number;
      count = x.count;
      capture = x.capture;
      ordinary = cond t x.ordinary (put x.ordinary at (word p (four x.ordinary at)));
      trusted = cond t (put x.trusted at (word p (four x.trusted at))) x.trusted;
      reply = x.reply;
    }

spoilt_space : (word : List ℕ → List ℕ → List ℕ) (trusted : Bool) (x : Seen) (d : Board) (p reply : List ℕ) → is_trusted (request_of p).target ≡ trusted
    → left_in trusted (in_space word x d p reply) ≡ put (left_in trusted x) (request_of p).offset (word p (four (left_in trusted x) (request_of p).offset))
spoilt_space word true x d p reply t = rw t
spoilt_space word false x d p reply t = rw t

-- a byte of it
module _ (word : List ℕ → List ℕ → List ℕ) (size : (p old : List ℕ) → length (word p old) ≡ 4) (trusted : Bool) (d : Board) (p reply : List ℕ)
    (s : Succeeds trusted d p true) (n : (on_writes (in_space word) d p reply).number ≡ 0) where
  spoilt_byte : (k : ℕ) → k < 4
      → byte (left_in trusted (on_writes (in_space word) d p reply)) ((request_of p).offset + k)
      ≡ byte (word p (four (left_in trusted (promised d p reply)) (request_of p).offset)) k
  spoilt_byte k h =
      let left : List ℕ = left_in trusted (promised d p reply) in
      let new : List ℕ = word p (four left (request_of p).offset) in
      ap (λ (x : Seen). byte (left_in trusted x) ((request_of p).offset + k)) (spoilt (in_space word) (λ x d p reply. refl) d p reply s.kind s.supported n)
      ∙ ap (λ (l : List ℕ). byte l ((request_of p).offset + k)) (spoilt_space word trusted (promised d p reply) d p reply s.target)
      ∙ put_there left (request_of p).offset new
      (rw (size p (four left (request_of p).offset)) (omega (arith, offset_inside p, whole (in_space word) (λ x d p reply. refl) d p reply s.kind s.supported n trusted)))
      k (rw (size p (four left (request_of p).offset)) h)

-- all ones, in which every marked bit is set that was 0
abbrev ones : List ℕ → List ℕ → List ℕ
ones p old = 0xff ∷ 0xff ∷ 0xff ∷ 0xff ∷ []

-- 00h where a byte is not enabled
abbrev zeroed : List ℕ → List ℕ → List ℕ
zeroed p old =
    let at : ℕ → ℕ = λ k. cond (enabled k (request_of p).enables) (byte old k) 0 in
    at 0 ∷ at 1 ∷ at 2 ∷ at 3 ∷ []

one_byte : (k : ℕ) → k < 4 → byte (ones [] []) k ≡ 0xff
one_byte zero h = refl
one_byte (suc zero) h = refl
one_byte (suc (suc zero)) h = refl
one_byte (suc (suc (suc zero))) h = refl
one_byte (suc (suc (suc (suc k)))) h = absurd (omega arith)

one_bit : (j : ℕ) → j < 8 → bit j 0xff ≡ 1
one_bit zero h = refl
one_bit (suc zero) h = refl
one_bit (suc (suc zero)) h = refl
one_bit (suc (suc (suc zero))) h = refl
one_bit (suc (suc (suc (suc zero)))) h = refl
one_bit (suc (suc (suc (suc (suc zero))))) h = refl
one_bit (suc (suc (suc (suc (suc (suc zero)))))) h = refl
one_bit (suc (suc (suc (suc (suc (suc (suc zero))))))) h = refl
one_bit (suc (suc (suc (suc (suc (suc (suc (suc j)))))))) h = absurd (omega arith)

flipping : (trusted : Bool) → FlipsMarked trusted (on_writes (in_space ones))
flipping trusted d p reply s n k j m e new old =
    ap (bit j) (spoilt_byte ones (λ p old. refl) trusted d p reply s n k m.0 ∙ one_byte k m.0) ∙ one_bit j m.1

zero_byte : (p old : List ℕ) (k : ℕ) → k < 4 → enabled k (request_of p).enables ≡ false → byte (zeroed p old) k ≡ 0
zero_byte p old zero h e = rw e
zero_byte p old (suc zero) h e = rw e
zero_byte p old (suc (suc zero)) h e = rw e
zero_byte p old (suc (suc (suc zero))) h e = rw e
zero_byte p old (suc (suc (suc (suc k)))) h e = absurd (omega arith)

zeroing : (trusted : Bool) → ZeroesDisabled trusted (on_writes (in_space zeroed))
zeroing trusted d p reply s n k h e = spoilt_byte zeroed (λ p old. refl) trusted d p reply s n k h ∙ zero_byte p (four (left_in trusted (promised d p reply)) (request_of p).offset) k h e

-- a completion with the completer ID of before
abbrev completing : Seen → Board → List ℕ → List ℕ → Seen
completing x d p reply =
    record {
      number = x.number;
      count = 12;
      capture = x.capture;
      ordinary = x.ordinary;
      trusted = x.trusted;
      reply = over (without_data (completer_of d) Success (request_of p).requester (request_of p).tag) reply;
    }

own_supported : (d : Board) (p : List ℕ) → OwnWrite d p Type0 false → unsupported d.description d.capture (request_of p) ≡ false
unfolding unsupported
own_supported d p own = rw (own.for, eq-eqb (request_of p).function d.description.function own.own, own.writes, own.poison)

completing_first : CompletesFirst (on_writes completing)
unfolding without_data
completing_first d p reply own n = rw (spoilt completing (λ x d p reply. refl) d p reply own.writes (own_supported d p own) n) (refl, refl)

-- ---- with a memory

-- two packets are the same
abbrev pub same_bytes : List ℕ → List ℕ → Bool
same_bytes [] [] = true
same_bytes [] (y ∷ ys) = false
same_bytes (x ∷ xs) [] = false
same_bytes (x ∷ xs) (y ∷ ys) = eqb x y && same_bytes xs ys

same_bytes_lem : (p : List ℕ) → same_bytes p p ≡ true
same_bytes_lem [] = refl
same_bytes_lem (x ∷ xs) = rw (eq-eqb x x refl, same_bytes_lem xs)

-- what is kept: nothing, or the first packet and what it was answered
pub data Note : Type 0 where
  unused : Note
  noted : (packet : List ℕ) (number : ℕ) (written : List ℕ) → Note

abbrev keep : Note → Board → List ℕ → List ℕ → Note
keep unused d p reply = noted p (serve d p (length reply)).number (serve d p (length reply)).written
keep (noted packet number written) d p reply = noted packet number written

-- asked the first again
abbrev on_first : (List ℕ → ℕ → List ℕ → Server) → Note → Server
on_first wrong unused d p reply = promised d p reply
on_first wrong (noted packet number written) d p reply = cond (same_bytes p packet) (wrong packet number written d p reply) (promised d p reply)

abbrev remembering : (List ℕ → ℕ → List ℕ → Server) → Remembering
remembering wrong = record { Memory = Note; start = unused; answers = on_first wrong; remembers = keep }

abbrev unchanged : Board → ℕ → List ℕ → List ℕ → Seen
unchanged d number written reply =
    record {
      number = number;
      count = length written;
      capture = d.capture;
      ordinary = d.ordinary.bytes;
      trusted = d.trusted.bytes;
      reply = over written reply;
    }

-- from memory; refused; UR
abbrev from_memory : Remembering
from_memory = remembering (λ packet number written d p reply. unchanged d number written reply)

abbrev refusing : Remembering
refusing = remembering (λ packet number written d p reply. unchanged d 5 [] reply)

abbrev unsupporting : Remembering
unsupporting =
    remembering
    (λ packet number written d p reply. unchanged d 0 (without_data (completer_of d) Unsupported (request_of p).requester (request_of p).tag) reply)

pub record SuchMemory (Fault : Remembering → Type 0) (m : Remembering) : Type 1 where
  pub faulty : Fault m
  pub right_first : (d : Board) (p reply : List ℕ) → m.answers m.start d p reply ≡ promised d p reply
  pub right_else : (d e : Board) (first p reply lent : List ℕ) → same_bytes p first ≡ false
      → m.answers (m.remembers m.start d first reply) e p lent ≡ promised e p lent

-- what was written is what was promised
written_first : (d : Board) (p reply : List ℕ) → completion (promised d p reply) ≡ (serve d p (length reply)).written
unfolding shows
written_first d p reply = take-append_seam (serve d p (length reply)).written _

replies_from : RepliesFromMemory from_memory
replies_from d e f p q reply w n =
    rw (same_bytes_lem p) (take-append_seam (serve d p (length reply)).written _) ∙ sym (written_first d p reply)

stores_not : StoresNotAgain from_memory
stores_not d e f p q reply w n = rw (same_bytes_lem p)

refuses_again : RefusesAgain refusing
refuses_again d e p reply w n again = omega (arith, sym (ap (λ (x : Seen). x.number) (first_again e p reply)) ∙ again)
  where
    first_again : (e : Board) (p reply : List ℕ) → on_first (λ packet number written d p reply. unchanged d 5 [] reply) (noted p 0 []) e p reply ≡ unchanged e 5 [] reply
    first_again e p reply = rw (same_bytes_lem p)

unsupported_again : UnsupportedAgain unsupporting
unfolding without_data
unsupported_again d e p reply w n = rw (same_bytes_lem p)

-- ---- the statement

pub record SuchServersExist : Type 1 where
  pub flips : (trusted : Bool) → Such (FlipsMarked trusted)
  pub completes : Such CompletesFirst
  pub zeroes : (trusted : Bool) → Such (ZeroesDisabled trusted)
  pub replies : (m : Remembering) × SuchMemory RepliesFromMemory m
  pub stores : (m : Remembering) × SuchMemory StoresNotAgain m
  pub refuses : (m : Remembering) × SuchMemory RefusesAgain m
  pub unsupported : (m : Remembering) × SuchMemory UnsupportedAgain m

pub such_servers_exist : SuchServersExist
such_servers_exist =
    record {
      flips = λ t. record { server = on_writes (in_space ones); faulty = flipping t; right_else = else_right (in_space ones) };
      completes = record { server = on_writes completing; faulty = completing_first; right_else = else_right completing };
      zeroes = λ t. record { server = on_writes (in_space zeroed); faulty = zeroing t; right_else = else_right (in_space zeroed) };
      replies = (from_memory, record { faulty = replies_from; right_first = λ d p reply. refl; right_else = λ d e first p reply lent h. rw h });
      stores = (from_memory, record { faulty = stores_not; right_first = λ d p reply. refl; right_else = λ d e first p reply lent h. rw h });
      refuses = (refusing, record { faulty = refuses_again; right_first = λ d p reply. refl; right_else = λ d e first p reply lent h. rw h });
      unsupported = (unsupporting, record { faulty = unsupported_again; right_first = λ d p reply. refl; right_else = λ d e first p reply lent h. rw h });
    }
