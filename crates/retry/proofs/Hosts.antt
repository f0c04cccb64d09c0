-- THEOREM. A host that did not see a completion may send the same request again (document 02, 12/13 with 5/13): it reads the same completion back, the board is left as
-- the first left it, and the completion tells what became of the board as it was before the first. Over writer, board and reader together, as their promises
-- tell it. Assumes nothing.
use Prim.Native.Nat.{ℕ}
use mathlib.Core.List.{List}
use mathlib.Core.Path.{◌≡◌, sym, ap, ap₂, ◌∙◌, subst}
use lib.ListN.{length, take}
use lib.Seq.{take-append_seam}
use Rattle.std.specs.Prelude.{Ok}
use Rattle.board.specs.Description.{Board, WellDescribed}
use Rattle.board.specs.Serving.{Outcome, completer_of, serve}
use Rattle.board.specs.Promise.{count_of, Seen, shows, Serves}
use Rattle.board.proofs.Keeps.{call_holds}
use Rattle.asking.specs.declared.Parts.{Parts}
use Rattle.asking.specs.declared.Completion.{Completion}
use Rattle.asking.specs.Writing.{packet_of, told_written}
use Rattle.asking.specs.Reading.{Reads}
use Rattle.asking.proofs.Numbers.{served_packet}
use Rattle.asking.proofs.Unique.{read_completion_unique}
use Rattle.circle.specs.Sentence.{Means}
use Rattle.circle.proofs.NightShift.{Asked, held, successful_means_landed}
use Rattle.retry.proofs.Again.{twice}

-- the statement: a request that was written, served and read back, and the same request again at the board that is then held, with an equally long reply
pub record SameAgain (a : Parts) (new : List ℕ) (d : Board) (first : Asked a new d) (second : Asked a new (held first)) : Type 0 where
  pub heard : second.heard ≡ first.heard
  pub left : held second ≡ held first

abbrev pub AskedAgain : Type 0
AskedAgain =
    (a : Parts) (new : List ℕ) (d : Board) (first : Asked a new d) (second : Asked a new (held first)) → length second.reply ≡ length first.reply
    → SameAgain a new d first second

-- so the second completion, of which the first may be lost, tells of the request what the first does
abbrev pub SecondMeansLanded : Type 0
SecondMeansLanded =
    (a : Parts) (new : List ℕ) (d : Board) → WellDescribed d → (first : Asked a new d) (second : Asked a new (held first)) → length second.reply ≡ length first.reply
    → (c : Completion) → second.heard ≡ Ok c
    → (c.requester ≡ a.requester) × (c.tag ≡ a.tag) × (c.completer ≡ completer_of (held second)) × Means d (held second) a new c.said

-- ---- one request, served

module _ (a : Parts) (new : List ℕ) (d : Board) (s : Asked a new d) where
  sent_is : take (told_written s.written s.sent).count s.sent ≡ packet_of a new
  sent_is = (served_packet a new s.buffer s.written s.sent s.writes s.accepted).3

  serves_it : Serves d (packet_of a new) s.reply s.served s.ordinary s.trusted s.replied
  serves_it = subst (λ (p : List ℕ). Serves d p s.reply s.served s.ordinary s.trusted s.replied) sent_is s.serves

  held_is : held s ≡ (serve d (packet_of a new) (length s.reply)).after
  held_is = call_holds d (packet_of a new) s.reply s.served s.ordinary s.trusted s.replied serves_it

  replied_is : take (count_of s.served.answer) s.replied ≡ (serve d (packet_of a new) (length s.reply)).written
  unfolding shows
  replied_is =
      ap (λ (x : Seen). take x.count x.reply) serves_it ∙ take-append_seam (serve d (packet_of a new) (length s.reply)).written _

-- ---- and again

again : (a : Parts) (new : List ℕ) (d : Board) (first : Asked a new d) (second : Asked a new (held first)) → length second.reply ≡ length first.reply
    → serve (held first) (packet_of a new) (length second.reply) ≡ serve d (packet_of a new) (length first.reply)
again a new d first second size =
    ap₂ (λ (x : Board) (n : ℕ). serve x (packet_of a new) n) (held_is a new d first) size ∙ twice d (packet_of a new) (length first.reply)

same_again : (a : Parts) (new : List ℕ) (d : Board) (first : Asked a new d) (second : Asked a new (held first)) → length second.reply ≡ length first.reply
    → SameAgain a new d first second
same_again a new d first second size =
    let e = again a new d first second size in
    let same : take (count_of second.served.answer) second.replied ≡ take (count_of first.served.answer) first.replied =
    replied_is a new (held first) second ∙ ap (λ (o : Outcome). o.written) e ∙ sym (replied_is a new d first) in
    record {
      heard =
          read_completion_unique (take (count_of first.served.answer) first.replied) second.heard first.heard
          (subst (λ (c : List ℕ). Reads c second.heard) same second.reads) first.reads;
      left = held_is a new (held first) second ∙ ap (λ (o : Outcome). o.after) e ∙ sym (held_is a new d first);
    }

pub asked_again : AskedAgain
asked_again = same_again

pub second_means_landed : SecondMeansLanded
second_means_landed a new d well first second size c says =
    let s = same_again a new d first second size in
    let m = (successful_means_landed a new d well first).says c (sym s.heard ∙ says) in
    (m.0, m.1, subst (λ (x : Board). c.completer ≡ completer_of x) (sym s.left) m.2, subst (λ (x : Board). Means d x a new c.said) (sym s.left) m.3)
