-- THEOREM. The night shift's sentence: a renewal that is answered "successful" has landed, as far as its enables, the rules and the marks let it. Over writer,
-- board and reader together, as their promises tell it: a request that we wrote, served by any well-described board, and the completion read back. "Success
-- without data": the enabled writable bits at that place of that space equal the data, the enabled marked bits are cleared exactly where the data has a 1, and
-- nothing else changed (at A: nothing changed). "Success with data": the data is all four bytes that the space
-- shows there, whatever was enabled. UR: nothing changed. Assumes nothing.
use Prim.Native.Nat.{ℕ, ◌+◌, ◌<◌}
use mathlib.Core.Bool.{Bool, true, false, cond}
use mathlib.Core.List.{List, [], ◌∷◌}
use mathlib.Core.Logic.{◌⊎◌, inl, inr, ⊎_elim}
use mathlib.Core.Path.{◌≡◌, refl, sym, ap, ◌∙◌, subst}
use native.Mathlib.Nat.{zero-add}
use native.Mathlib.Omega.{arith}
use lib.Dec.{ltb}
use lib.ListN.{length, take}
use lib.Seq.{take_at}
use borrow.Author.Tests.{ltb-true}
use Rattle.std.specs.Prelude.{Result, Ok, Err}
use Rattle.answers.specs.declared.Refusal.{Refusal}
use Rattle.answers.specs.Checks.{any}
use Rattle.answers.proofs.Unique.{number_positive}
use Rattle.words.specs.Bytes.{byte, four}
use Rattle.words.specs.Fields.{bit}
use Rattle.words.proofs.Laws.{four_at}
use Rattle.registers.specs.Merge.{enabled, merged}
use Rattle.registers.proofs.Laws.{merged_disabled, merged_taken, merged_cleared, merged_kept}
use Rattle.packet.specs.declared.Request.{Request}
use Rattle.packet.specs.declared.Status.TheVariants as status
use Rattle.packet.specs.Fields.{data_of}
use Rattle.packet.specs.Request.{request_of}
use Rattle.packet.specs.Completion.{status_byte, without_data}
use Rattle.asking.specs.declared.Parts.{Parts}
use Rattle.asking.specs.declared.Said.{Said}
use Rattle.asking.specs.declared.Said.TheVariants.{Done, Unsupported}
use Rattle.asking.specs.declared.Completion.{Completion}
use Rattle.asking.specs.Writing.{outside, asks_write, packet_of, told_written, Writes}
use Rattle.asking.specs.Reading.{read_number, Reads}
use Rattle.asking.proofs.Numbers.{served_packet}
use Rattle.circle.proofs.Asked.{asked, packet_number_lem, request_is, data_is}
use Rattle.board.specs.Description.{Space, doubly_marked, Board, WellDescribed}
use Rattle.board.specs.Access.{unsupported, read_word, shown_word}
use Rattle.board.specs.Serving.{Outcome, completer_of, respond, serve_number, refused, serve}
use Rattle.board.specs.Promise.{Served, count_of, Seen, after_call, shows, Serves}
use Rattle.board.proofs.Outcomes.{respond_unsupported, respond_write}
use Rattle.board.proofs.Refusals.{outcome_number}
use Rattle.board.proofs.Laws.{Well, well_described}
use Rattle.board.proofs.MarkedTwice.{unmarked, unwritable}
use Rattle.board.proofs.Keeps.{serve_keeps, call_holds}
use Rattle.board.proofs.Lands as lands
use Rattle.board.proofs.Lands.{served, write_lands, others_keep}
use Rattle.board.proofs.Whole.{read_is_four}
use Rattle.circle.specs.Replies.{shown_four, meant}
use Rattle.circle.specs.Sentence.{BitsLanded, Landed, shown_there, Means}
use Rattle.circle.proofs.Heard.{replies_read_back}

-- what the caller of `Board::serve` holds afterwards: the capture and the two spaces as the call left them; the description, which
-- goes in by value, and the rules and marks, which are only read, are the caller's own
abbrev pub holding : Board → Served → List ℕ → List ℕ → Board
holding d r ordinary trusted = after_call d r.capture ordinary trusted

-- the request that was written, the board's answer to it and what was read: each meets its promise
pub record Asked (a : Parts) (new : List ℕ) (d : Board) : Type 0 where
  pub buffer : List ℕ
  pub written : Result ℕ Refusal
  pub sent : List ℕ
  pub writes : Writes a new buffer written sent
  pub accepted : (told_written written sent).number ≡ 0
  pub reply : List ℕ
  pub served : Served
  pub ordinary : List ℕ
  pub trusted : List ℕ
  pub replied : List ℕ
  pub serves : Serves d (take (told_written written sent).count sent) reply served ordinary trusted replied
  pub heard : Result Completion Refusal
  pub reads : Reads (take (count_of served.answer) replied) heard

-- the board that is then held
abbrev pub held : {a : Parts} {new : List ℕ} {d : Board} → Asked a new d → Board
held {d = d} s = holding d s.served s.ordinary s.trusted

-- the sentence: the completion is for this request, and means what it says. What is refused instead of read changes nothing; a reply under 16 bytes was lent
pub record Sentence (a : Parts) (new : List ℕ) (d : Board) (s : Asked a new d) : Type 0 where
  pub says : (c : Completion) → s.heard ≡ Ok c
      → (c.requester ≡ a.requester) × (c.tag ≡ a.tag) × (c.completer ≡ completer_of (held s)) × Means d (held s) a new c.said
  pub silent : (refusal : Refusal) → s.heard ≡ Err refusal → (held s ≡ d) × (length s.reply < 16)

abbrev pub SuccessfulMeansLanded : Type 0
SuccessfulMeansLanded = (a : Parts) (new : List ℕ) (d : Board) → WellDescribed d → (s : Asked a new d) → Sentence a new d s

-- ---- bits that land, by the merge

module _ (before after : Space) (once : doubly_marked before.rules before.marks ≡ false) (q : Request) (new : List ℕ)
    (l : lands.Landed before after q (four new 0)) where
  landed_byte : (k : ℕ) → k < 4
      → byte after.bytes (q.offset + k)
      ≡ byte (merged (four before.bytes q.offset) (four before.rules q.offset) (four before.marks q.offset) (four new 0) q.enables) k
  landed_byte k h = sym (four_at after.bytes q.offset k h) ∙ ap (λ (w : List ℕ). byte w k) l.there

  data_byte : (k : ℕ) → k < 4 → byte (four new 0) k ≡ byte new k
  data_byte k h = four_at new 0 k h ∙ ap (byte new) (zero-add k)

  module _ (k j : ℕ) (h : k < 4) (i : j < 8) where
    -- a bit of a buffer, in its four bytes at the offset
    there : (s : List ℕ) {b : ℕ} → bit j (byte s (q.offset + k)) ≡ b → bit j (byte (four s q.offset) k) ≡ b
    there s e = ap (bit j) (four_at s q.offset k h) ∙ e

    sent : {b : ℕ} → bit j (byte new k) ≡ b → bit j (byte (four new 0) k) ≡ b
    sent e = ap (bit j) (data_byte k h) ∙ e

    taken_bit : enabled k q.enables ≡ true → bit j (byte before.rules (q.offset + k)) ≡ 1
        → bit j (byte after.bytes (q.offset + k)) ≡ bit j (byte new k)
    taken_bit e w =
        ap (bit j) (landed_byte k h)
        ∙ merged_taken _ _ _ _ q.enables k j h i e (there before.rules w)
        (there before.marks (unmarked before.rules before.marks once (q.offset + k) j w))
        ∙ ap (bit j) (data_byte k h)

    cleared_bit : enabled k q.enables ≡ true → bit j (byte before.marks (q.offset + k)) ≡ 1 → bit j (byte new k) ≡ 1
        → bit j (byte after.bytes (q.offset + k)) ≡ 0
    cleared_bit e m d = ap (bit j) (landed_byte k h) ∙ merged_cleared _ _ _ _ q.enables k j h i e (there before.marks m) (sent d)

    -- what is not writable stays where it has no mark, or the data has a 0
    stays : bit j (byte before.rules (q.offset + k)) ≡ 0 → (bit j (byte before.marks (q.offset + k)) ≡ 0) ⊎ (bit j (byte new k) ≡ 0)
        → bit j (byte after.bytes (q.offset + k)) ≡ bit j (byte before.bytes (q.offset + k))
    stays w c =
        ap (bit j) (landed_byte k h)
        ∙ merged_kept _ _ _ _ q.enables k j h i (there before.rules w) (⊎_elim (λ m. inl (there before.marks m)) (λ d. inr (sent d)) c)
        ∙ ap (bit j) (four_at before.bytes q.offset k h)

    disabled_bit : enabled k q.enables ≡ false
        → bit j (byte after.bytes (q.offset + k)) ≡ bit j (byte before.bytes (q.offset + k))
    disabled_bit e =
        ap (bit j) (landed_byte k h) ∙ merged_disabled _ _ _ _ q.enables k j h i e ∙ ap (bit j) (four_at before.bytes q.offset k h)

  bits_landed : BitsLanded before after q.offset q.enables new
  bits_landed =
      record {
        taken = taken_bit;
        cleared = cleared_bit;
        spared = λ k j h i m d. stays k j h i (unwritable before.rules before.marks once (q.offset + k) j m) (inr d);
        kept = λ k j h i. ⊎_elim (disabled_bit k j h i) (λ c. stays k j h i c.0 (inl c.1));
        elsewhere = l.elsewhere;
        size = l.size;
        rules = l.rules;
        marks = l.marks;
      }

landed : (d e : Board) (a : Parts) (new : List ℕ) → Well d → lands.Writes d e (asked a) (four new 0) → e.description ≡ d.description
    → Landed d e a new
unfolding asked
landed d e a new well w description =
    record {
      trusted = λ t.
          let x = w.trusted t in (bits_landed d.trusted e.trusted well.trusted.once (asked a) new x.1, x.2, x.0);
      at_a = λ t h. let x = w.at_a t h in (x.1, x.2, x.0);
      ordinary = λ t h.
          let x = w.ordinary t h in (bits_landed d.ordinary e.ordinary well.ordinary.once (asked a) new x.1, x.2, x.0);
      description = description;
    }

-- what a read shows, in four bytes
shown_is : (d : Board) (a : Parts) → let w = read_word d (asked a) in (byte w 0 ∷ byte w 1 ∷ byte w 2 ∷ byte w 3 ∷ []) ≡ shown_there d a
unfolding asked shown_word
shown_is d a = read_is_four d (asked a)

-- ---- the three ways

module _ (a : Parts) (new : List ℕ) (inside : any (outside a) ≡ false) (d : Board) (well : WellDescribed d) (size : ℕ) where
  abbrev p : List ℕ
  p = packet_of a new

  abbrev e : Board
  e = (serve d p size).after

  fields : ((request_of p).requester ≡ a.requester) × ((request_of p).tag ≡ a.tag) × ((request_of p).writes ≡ asks_write a)
  unfolding asked
  fields =
      let q = request_is a new inside in
      (ap (λ (x : Request). x.requester) q, ap (λ (x : Request). x.tag) q, ap (λ (x : Request). x.writes) q)

  module _ (n : (serve d p size).number ≡ 0) where
    way : serve d p size ≡ respond d (request_of p) (data_of p)
    way = served d p size n

    status_done : unsupported d.description d.capture (request_of p) ≡ false → (request_of p).writes ≡ true
        → byte (serve d p size).written 6 ≡ status_byte status.Success
    unfolding without_data
    status_done u w = rw (way, respond_write d (request_of p) (data_of p) u w)

    means_done : unsupported d.description d.capture (request_of p) ≡ false → (request_of p).writes ≡ true → Means d e a new Done
    means_done u w =
        let writes : asks_write a ≡ true = sym fields.2 ∙ w in
        let l = write_lands d p size well n (status_done u w) w in (
          writes,
          landed d e a new (well_described d well)
              (subst (λ (x : List ℕ). lands.Writes d e (asked a) x) (data_is a new inside writes)
              (subst (λ (x : Request). lands.Writes d e x (data_of p)) (request_is a new inside) l))
              (serve_keeps d p size).description,
        )

    means_shown : unsupported d.description d.capture (request_of p) ≡ false → (request_of p).writes ≡ false
        → Means d e a new (shown_four (read_word d (request_of p)))
    means_shown u w = (
      sym fields.2 ∙ w,
      ap (λ (x : Request). let r = read_word d x in byte r 0 ∷ byte r 1 ∷ byte r 2 ∷ byte r 3 ∷ []) (request_is a new inside) ∙ shown_is d a,
      others_keep d p size (inr (inr w)),
    )

    means_unsupported : unsupported d.description d.capture (request_of p) ≡ true → Means d e a new Unsupported
    means_unsupported u = ap (λ (x : Outcome). x.after) (way ∙ respond_unsupported d (request_of p) (data_of p) u)

    means : (u w : Bool) → unsupported d.description d.capture (request_of p) ≡ u → (request_of p).writes ≡ w
        → Means d e a new (cond u Unsupported (cond w Done (shown_four (read_word d (request_of p)))))
    means true w x y = means_unsupported x
    means false true x y = means_done x y
    means false false x y = means_shown x y

    pub means_meant : Means d e a new (meant d p size).said
    means_meant = means _ _ refl refl

-- ---- the calls

module _ (a : Parts) (new : List ℕ) (d : Board) (well : WellDescribed d) (s : Asked a new d) where
  abbrev packet : List ℕ
  packet = packet_of a new

  abbrev room : ℕ
  room = length s.reply

  inside : any (outside a) ≡ false
  inside = (served_packet a new s.buffer s.written s.sent s.writes s.accepted).0

  called : Serves d packet s.reply s.served s.ordinary s.trusted s.replied
  called =
      subst (λ (x : List ℕ). Serves d x s.reply s.served s.ordinary s.trusted s.replied)
      (served_packet a new s.buffer s.written s.sent s.writes s.accepted).3
      s.serves

  held_is : held s ≡ (serve d packet room).after
  held_is = call_holds d packet s.reply s.served s.ordinary s.trusted s.replied called

  -- the bytes that are read are those that the board wrote
  taken : take (count_of s.served.answer) s.replied ≡ (serve d packet room).written
  unfolding shows
  taken =
      ap (take (count_of s.served.answer)) (ap (λ (x : Seen). x.reply) called)
      ∙ take_at (serve d packet room).written _ (count_of s.served.answer) (sym (ap (λ (x : Seen). x.count) called))

  read_by : Reads (serve d packet room).written s.heard
  read_by = subst (λ (x : List ℕ). Reads x s.heard) taken s.reads

  -- the number, by the room
  number_by : (short : Bool) → ltb room 16 ≡ short → serve_number d packet room ≡ cond short 2 0
  number_by short e = rw (well, e, packet_number_lem a new inside d.description.edition)

  refused_by : ltb room 16 ≡ true → serve d packet room ≡ refused 2 d
  unfolding serve
  refused_by e = rw (number_by true e)

  served_by : ltb room 16 ≡ false → (serve d packet room).number ≡ 0
  served_by e = outcome_number d packet room ∙ number_by false e

  says_by : (short : Bool) → ltb room 16 ≡ short → (c : Completion) → Reads (serve d packet room).written (Ok c)
      → (c.requester ≡ a.requester) × (c.tag ≡ a.tag) × (c.completer ≡ completer_of (held s)) × Means d (held s) a new c.said
  says_by true e c r =
      let z : read_number [] ≡ 0 = ap (λ (x : Outcome). read_number x.written) (sym (refused_by e)) ∙ r.0 in
      absurd (omega (arith, z))
  says_by false e c r =
      let n = served_by e in
      let same : c ≡ meant d packet room = r.1 ∙ (replies_read_back d packet room n).same in
      let f = fields a new inside d well room in (
        ap (λ (x : Completion). x.requester) same ∙ f.0,
        ap (λ (x : Completion). x.tag) same ∙ f.1,
        ap (λ (x : Completion). x.completer) same ∙ ap completer_of (sym held_is),
        subst (λ (x : Said). Means d (held s) a new x) (sym (ap (λ (x : Completion). x.said) same))
            (subst (λ (x : Board). Means d x a new (meant d packet room).said) (sym held_is) (means_meant a new inside d well room n)),
      )

  silent_by : (short : Bool) → ltb room 16 ≡ short → (refusal : Refusal) → Reads (serve d packet room).written (Err refusal)
      → (held s ≡ d) × (room < 16)
  silent_by true e refusal r = (held_is ∙ ap (λ (x : Outcome). x.after) (refused_by e), ltb-true room 16 e)
  silent_by false e refusal r =
      absurd (number_positive refusal (sym r ∙ (replies_read_back d packet room (served_by e)).number))

  pub so : Sentence a new d s
  so =
      record {
        says = λ c h. says_by _ refl c (subst (Reads (serve d packet room).written) h read_by);
        silent = λ refusal h. silent_by _ refl refusal (subst (Reads (serve d packet room).written) h read_by);
      }

pub successful_means_landed : SuccessfulMeansLanded
successful_means_landed a new d well s = so a new d well s
