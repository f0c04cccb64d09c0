-- THEOREM. Everything that a board replies reads back as the completion that it means: completer, requester, tag, and what it says, with the data. From any
-- board, of any bytes. Assumes nothing.
use Prim.Native.Nat.{ℕ}
use mathlib.Core.Bool.{Bool, true, false, cond}
use mathlib.Core.List.{List}
use mathlib.Core.Path.{◌≡◌, refl, ◌∙◌}
use Rattle.packet.specs.declared.Id.{Id}
use Rattle.packet.specs.declared.Request.{Request}
use Rattle.packet.specs.declared.Status.TheVariants as status
use Rattle.packet.specs.Fields.{data_of}
use Rattle.packet.specs.Request.{request_of}
use Rattle.packet.specs.Completion.{with_data, without_data}
use Rattle.asking.specs.declared.Completion.{Completion}
use Rattle.asking.specs.declared.Said.{Said}
use Rattle.asking.specs.declared.Said.TheVariants.{Done, Unsupported}
use Rattle.asking.specs.Reading.{read_number, completion_of}
use Rattle.board.specs.Description.{Board}
use Rattle.board.specs.Access.{unsupported, after_write, read_word}
use Rattle.board.specs.Serving.{Outcome, completer_of, respond, serve}
use Rattle.board.proofs.Outcomes.{respond_unsupported, respond_write, respond_read}
use Rattle.board.proofs.Lands.{served}
use Rattle.circle.specs.Replies.{shown_four, meant}

-- bytes read back as a completion
pub record ReadsAs (c : List ℕ) (completion : Completion) : Type 0 where
  pub number : read_number c ≡ 0
  pub same : completion_of c ≡ completion

-- the statement
abbrev pub RepliesReadBack : Type 0
RepliesReadBack =
    (d : Board) (p : List ℕ) (size : ℕ) → (serve d p size).number ≡ 0 → ReadsAs (serve d p size).written (meant d p size)

-- ---- the bytes of each completion

pub reads_data : (completer requester : Id) (tag : ℕ) (four : List ℕ)
    → ReadsAs (with_data completer requester tag four) (record { completer = completer; requester = requester; tag = tag; said = shown_four four })
unfolding with_data completion_of
reads_data completer requester tag four = record { number = refl; same = refl }

pub reads_done : (completer requester : Id) (tag : ℕ)
    → ReadsAs (without_data completer status.Success requester tag) (record { completer = completer; requester = requester; tag = tag; said = Done })
unfolding without_data completion_of
reads_done completer requester tag = record { number = refl; same = refl }

pub reads_unsupported : (completer requester : Id) (tag : ℕ)
    → ReadsAs (without_data completer status.Unsupported requester tag) (record { completer = completer; requester = requester; tag = tag; said = Unsupported })
unfolding without_data completion_of
reads_unsupported completer requester tag = record { number = refl; same = refl }

-- ---- by the way that a request goes

-- what is said, in the three ways
said_unsupported : (u writes : Bool) (said : Said) → u ≡ true → Unsupported ≡ cond u Unsupported (cond writes Done said)
said_unsupported u writes said e = rw e

said_done : (u writes : Bool) (said : Said) → u ≡ false → writes ≡ true → Done ≡ cond u Unsupported (cond writes Done said)
said_done u writes said e w = rw (e, w)

said_shown : (u writes : Bool) (said : Said) → u ≡ false → writes ≡ false → said ≡ cond u Unsupported (cond writes Done said)
said_shown u writes said e w = rw (e, w)

module _ (d : Board) (p : List ℕ) (o : Outcome) (e : o ≡ respond d (request_of p) (data_of p)) where
  abbrev q : Request
  q = request_of p

  -- the completion that a board means, by the outcome and what is said
  abbrev saying : Said → Completion
  saying said = record { completer = completer_of o.after; requester = q.requester; tag = q.tag; said = said }

  -- an outcome whose bytes read back, and what is said
  reading : (r : Outcome) (said said' : Said) → o ≡ r
      → ReadsAs r.written (record { completer = completer_of r.after; requester = q.requester; tag = q.tag; said = said }) → said ≡ said'
      → ReadsAs o.written (saying said')
  reading r said said' f read g = rw (f, ← g) read

  response : (u writes : Bool) → unsupported d.description d.capture q ≡ u → q.writes ≡ writes
      → ReadsAs o.written (saying (cond (unsupported d.description d.capture q) Unsupported (cond q.writes Done (shown_four (read_word d q)))))
  response true writes u w =
      reading _ Unsupported _ (e ∙ respond_unsupported d q (data_of p) u) (reads_unsupported (completer_of d) q.requester q.tag)
      (said_unsupported _ q.writes (shown_four (read_word d q)) u)
  response false true u w =
      reading _ Done _ (e ∙ respond_write d q (data_of p) u w) (reads_done (completer_of (after_write d q (data_of p))) q.requester q.tag)
      (said_done _ _ (shown_four (read_word d q)) u w)
  response false false u w =
      reading _ _ _ (e ∙ respond_read d q (data_of p) u w) (reads_data (completer_of d) q.requester q.tag (read_word d q))
      (said_shown _ _ (shown_four (read_word d q)) u w)

pub replies_read_back : RepliesReadBack
replies_read_back d p size n = response d p (serve d p size) (served d p size n) _ _ refl refl
