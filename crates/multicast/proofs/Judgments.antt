-- Laws of what document 02, 8/13, says of an address: what the tests of the code tell, and the answer that is then promised. Assumes nothing.
use Prim.Native.Nat.{ℕ, ◌≤◌, ◌<◌}
use mathlib.Core.Bool.{Bool, true, false, not, cond}
use mathlib.Core.List.{List, [], ◌∷◌}
use mathlib.Core.Path.{◌≡◌, refl, ap}
use native.Mathlib.Omega.{arith}
use borrow.Author.Tests.{eq-eqb, ne_eqb, lt-ltb, le-ltb, ltb-false, le-leb, lt-leb, leb-false, not-false}
use lib.Dec.{leb, ltb}
use lib.ListN.{length}
use Rattle.std.specs.Prelude.{Ok, Err}
use Rattle.answers.proofs.Checks.{none_of}
use Rattle.answers.specs.declared.Refusal.TheVariants.{BadDescription}
use Rattle.words.specs.Fields.{bit}
use Rattle.multicast.specs.declared.Record.{Record}
use Rattle.multicast.specs.declared.Judged.TheVariants.{NoHit, Dropped, Leaves}
use Rattle.multicast.specs.Capability.{block_all}
use Rattle.multicast.specs.Records.{are_records}
use Rattle.multicast.specs.Judging.{port_at, is_bad, group_of, is_hit, Verdict, no_hit, dropped, leaves, unsaid, JudgedTold, told, entering_by, judged, Judges}
use Rattle.multicast.specs.Inner.{SetOf}
use Rattle.multicast.proofs.Sets.{bit_above}

no_bit : (k : ℕ) → bit k 0 ≡ 0
no_bit k = bit_above k 0 0 (omega arith) (omega arith)

abbrev causes : List Record → ℕ → List Bool
causes ports entering = ltb 32 (length ports) ∷ leb (length ports) entering ∷ not (are_records ports) ∷ []

-- of the verdicts, that it leaves
is_leaves : Verdict → Bool
is_leaves leaves = true
is_leaves dropped = false
is_leaves no_hit = false
is_leaves unsaid = false

module _ (ports : List Record) (entering : ℕ) where
  pub bad_long : 32 < length ports → is_bad ports entering ≡ true
  unfolding is_bad
  bad_long h = rw (lt-ltb 32 (length ports) h)

  pub bad_place : length ports ≤ 32 → length ports ≤ entering → is_bad ports entering ≡ true
  unfolding is_bad
  bad_place h k = rw (le-ltb 32 (length ports) h, le-leb (length ports) entering k)

  pub bad_record : length ports ≤ 32 → entering < length ports → are_records ports ≡ false → is_bad ports entering ≡ true
  unfolding is_bad
  bad_record h k e = rw (le-ltb 32 (length ports) h, lt-leb (length ports) entering k, e)

  pub good : length ports ≤ 32 → entering < length ports → are_records ports ≡ true → is_bad ports entering ≡ false
  unfolding is_bad
  good h k e = rw (le-ltb 32 (length ports) h, lt-leb (length ports) entering k, e)

  -- what a good list is
  pub good_length : is_bad ports entering ≡ false → length ports ≤ 32
  unfolding is_bad
  good_length e = ltb-false 32 (length ports) (none_of (causes ports entering) e).0

  pub good_place : is_bad ports entering ≡ false → entering < length ports
  unfolding is_bad
  good_place e = leb-false (length ports) entering (none_of (causes ports entering) e).1.0

  pub good_records : is_bad ports entering ≡ false → are_records ports ≡ true
  unfolding is_bad
  good_records e = not-false _ (none_of (causes ports entering) e).1.1.0

  module _ (address : ℕ) where
    pub judges_bad : is_bad ports entering ≡ true → Judges ports entering address (Err BadDescription)
    unfolding judged
    judges_bad e = record { tells = rw e; each = λ k h. rw e (no_bit k); most = omega arith }

    pub judges_no_hit : is_bad ports entering ≡ false → is_hit (port_at ports entering) address ≡ false → Judges ports entering address (Ok NoHit)
    unfolding judged entering_by
    judges_no_hit e h = record { tells = rw (e, h); each = λ k l. rw (e, h) (no_bit k); most = omega arith }

    pub judges_dropped : (group : ℕ) → is_bad ports entering ≡ false → is_hit (port_at ports entering) address ≡ true
        → group ≡ group_of (port_at ports entering) address → bit group (block_all (port_at ports entering)) ≡ 1
        → Judges ports entering address (Ok (Dropped group))
    unfolding judged entering_by
    judges_dropped group e h g b =
        let blocked = eq-eqb (bit group (block_all (port_at ports entering))) 1 b in
        record { tells = rw (e, h, ← g, blocked); each = λ k l. rw (e, h, ← g, blocked) (no_bit k); most = omega arith }

    pub judges_leaves : (group set : ℕ) → is_bad ports entering ≡ false → is_hit (port_at ports entering) address ≡ true
        → group ≡ group_of (port_at ports entering) address → (bit group (block_all (port_at ports entering)) ≡ 1 → ⊥) → SetOf ports entering group set
        → Judges ports entering address (Ok (Leaves group set))
    unfolding judged entering_by
    judges_leaves group set e h g b s =
        let free = ne_eqb (bit group (block_all (port_at ports entering))) 1 b in
        record { tells = rw (e, h, ← g, free); each = λ k l. rw (e, h, ← g, free) (s.each k l); most = s.most }

    -- a packet leaves by a good list only
    pub leaves_good : (group set : ℕ) → Judges ports entering address (Ok (Leaves group set)) → is_bad ports entering ≡ false
    unfolding judged is_leaves
    leaves_good group set j = go (is_bad ports entering) refl (ap (λ (t : JudgedTold). is_leaves t.verdict) j.tells)
      where
        go : (b : Bool) → is_bad ports entering ≡ b → true ≡ is_leaves (cond b (told 1 unsaid 0) (entering_by (port_at ports entering) address)).verdict → b ≡ false
        go false e f = refl
        go true e f = f
