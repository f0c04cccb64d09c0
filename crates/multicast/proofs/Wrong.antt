-- THEOREMS. Programs that a newcomer would write, refuted whatever else they do: for each way to be wrong an input is given, at which no program that is wrong in this way meets
-- the promise. Of judges: Block All taken from the port that a packet leaves by; the group compared after a shift that lost bits, or the windows' end; Num Group taken as a
-- count; leaving by the port that was entered by; the high half of Receive or Block All forgotten. Of readers: the base with its low twelve bits, and the high half of each of
-- the three registers of 64 bits forgotten. What such a program answers there is given too. Assumes nothing.
use Prim.Native.Nat.{ℕ, ◌+◌, ◌-◌, ◌*◌, ◌/◌, ◌%◌, ◌^◌, ◌≤◌, ◌<◌}
use mathlib.Core.Bool.{Bool, true, false}
use mathlib.Core.List.{List, [], ◌∷◌}
use mathlib.Core.Path.{◌≡◌, refl, sym, ap, ◌∙◌}
use native.Mathlib.Nat.{mod_self, sub-zero}
use native.Mathlib.Omega.{arith}
use borrow.Author.Tests.{le-leb, lt-leb, eqb-true, eqb-false}
use lib.Pow.{pow_pos, shl-shr}
use Rattle.std.specs.Prelude.{Result, Ok}
use Rattle.answers.specs.declared.Refusal.{Refusal}
use Rattle.words.specs.Fields.{bit}
use Rattle.multicast.specs.declared.Record.{Record}
use Rattle.multicast.specs.declared.Judged.{Judged}
use Rattle.multicast.specs.declared.Judged.TheVariants.{NoHit, Leaves}
use Rattle.multicast.specs.Capability.{num_group, enable, index, base, receive, block_all, clashes, long, CapabilityTold, tells_capability, capability_says}
use Rattle.multicast.specs.Records.{Row, is_record}
use Rattle.multicast.specs.Judging.{port_at, is_bad, group_of, is_hit, Verdict, unsaid, no_hit, dropped, leaves, JudgedTold, told, entering_by, judged, is_member, tells_judged, ports_of, Judges}
use Rattle.multicast.proofs.Facts.{record_fields, record_clear}
use Rattle.multicast.proofs.Sets.{bit_above}
use Rattle.multicast.proofs.Written.{space_with, written_found}

-- a judge, and that it meets the promise at an input
abbrev pub Judge : Type 0
Judge = List Record → ℕ → ℕ → Result Judged Refusal

abbrev pub RightAt : Judge → List Record → ℕ → ℕ → Type 0
RightAt f ports entering address = Judges ports entering address (f ports entering address)

-- what a judge says: the group, and whether there is a hit
abbrev pub group_told : Judge → List Record → ℕ → ℕ → ℕ
group_told f ports entering address = (tells_judged (f ports entering address)).group

abbrev pub is_hit_verdict : Verdict → Bool
is_hit_verdict unsaid = false
is_hit_verdict no_hit = false
is_hit_verdict dropped = true
is_hit_verdict leaves = true

abbrev pub HitTold : Judge → List Record → ℕ → ℕ → Type 0
HitTold f ports entering address = is_hit_verdict (tells_judged (f ports entering address)).verdict ≡ true

-- ---- the wrong ways, at an input

-- a port with its own Block All bit for the group is none that the packet leaves by
abbrev pub BlocksWhereItLeaves : Judge → List Record → ℕ → ℕ → Type 0
BlocksWhereItLeaves f ports entering address =
    (k : ℕ) → bit (group_told f ports entering address) (block_all (port_at ports k)) ≡ 1 → bit k (ports_of (f ports entering address)) ≡ 0

-- of the group, so many bits are compared with Num Group, and those above are lost
abbrev pub LosesGroupBits : ℕ → Judge → List Record → ℕ → ℕ → Type 0
LosesGroupBits width f ports entering address =
    enable (port_at ports entering) ≡ 1 → base (port_at ports entering) ≤ address
    → group_of (port_at ports entering) address % 2 ^ width ≤ num_group (port_at ports entering) → HitTold f ports entering address

-- a hit is below the end of all windows, of which 64 bits are kept
abbrev pub LosesEndBits : Judge → List Record → ℕ → ℕ → Type 0
LosesEndBits f ports entering address =
    HitTold f ports entering address
    → address - base (port_at ports entering) < (num_group (port_at ports entering) + 1) * 2 ^ index (port_at ports entering) % 2 ^ 64

-- so many groups as Num Group says are hit, and not one more
abbrev pub TakesNumGroupAsCount : Judge → List Record → ℕ → ℕ → Type 0
TakesNumGroupAsCount f ports entering address =
    HitTold f ports entering address → group_told f ports entering address < num_group (port_at ports entering)

-- the port that it entered by is as any other
abbrev pub LeavesByEntering : Judge → List Record → ℕ → ℕ → Type 0
LeavesByEntering f ports entering address =
    (tells_judged (f ports entering address)).verdict ≡ leaves
    → bit entering (ports_of (f ports entering address)) ≡ bit (group_told f ports entering address) (receive (port_at ports entering))

-- no group from 32 on leaves by any port, or none is dropped
abbrev pub ForgetsHighReceive : Judge → List Record → ℕ → ℕ → Type 0
ForgetsHighReceive f ports entering address =
    (k : ℕ) → 32 ≤ group_told f ports entering address → bit k (ports_of (f ports entering address)) ≡ 0

abbrev pub ForgetsHighBlocks : Judge → List Record → ℕ → ℕ → Type 0
ForgetsHighBlocks f ports entering address =
    32 ≤ group_told f ports entering address → (tells_judged (f ports entering address)).verdict ≡ dropped → ⊥

-- ---- the inputs

-- an enabled port with this Num Group, index, Receive and Block All, and base 0
abbrev pub port : ℕ → ℕ → ℕ → ℕ → Record
port num index receive block_all =
    record { max_group = 63; num_group = num; enable = 1; index = index; base = 0; receive = receive; block_all = block_all }

-- two of them: Num Group and index of the first, what it blocks, what both receive, and what the second blocks
abbrev pub two : ℕ → ℕ → ℕ → ℕ → ℕ → List Record
two num index blocked receive other = port num index receive blocked ∷ port 0 12 receive other ∷ []

-- an address past group 0 of a port that has that one only
past_group : (address : ℕ) → 0 < group_of (port 0 12 0 0) address → entering_by (port 0 12 0 0) address ≡ told 0 no_hit 0
unfolding entering_by is_hit
past_group address h = rw (le-leb 0 address (omega arith), lt-leb (group_of (port 0 12 0 0) address) 0 h)

module _ (f : Judge) where
  says : (ports : List Record) (entering address : ℕ) (t : JudgedTold) → RightAt f ports entering address → judged ports entering address ≡ t
      → tells_judged (f ports entering address) ≡ t
  says ports entering address t right e = right.tells ∙ e

  pub no_blocks_where_it_leaves : BlocksWhereItLeaves f (two 0 12 0 1 1) 0 0 → RightAt f (two 0 12 0 1 1) 0 0 → ⊥
  unfolding judged is_bad is_record clashes entering_by is_hit is_member
  no_blocks_where_it_leaves wrong right =
      let w = two 0 12 0 1 1 in
      let e = says w 0 0 (told 0 leaves 0) right refl in
      let set : bit 1 (ports_of (f w 0 0)) ≡ 1 = right.each 1 (omega arith) in
      let unset = wrong 1 (ap (λ (t : JudgedTold). bit t.group 1) e) in
      omega arith

  -- whatever the width, up to 51 bits: the address is below 2^64
  pub no_loses_group_bits : (width : ℕ) → width ≤ 51 → LosesGroupBits width f (two 0 12 0 0 0) 0 (2 ^ width * 2 ^ 12)
      → RightAt f (two 0 12 0 0 0) 0 (2 ^ width * 2 ^ 12) → ⊥
  unfolding judged is_bad is_record clashes
  no_loses_group_bits width h wrong right =
      let w = two 0 12 0 0 0 in
      let address = 2 ^ width * 2 ^ 12 in
      let group : group_of (port_at w 0) address ≡ 2 ^ width = ap (λ (x : ℕ). x / 2 ^ 12) (sub-zero address) ∙ shl-shr (2 ^ width) 12 in
      let kept : group_of (port_at w 0) address % 2 ^ width ≤ 0 = rw (group, mod_self (2 ^ width)) (omega arith) in
      let e = says w 0 address (told 0 no_hit 0) right (past_group address (rw group (pow_pos width))) in
      eqb-false 0 0 (sym (wrong refl (omega arith) kept) ∙ ap (λ (t : JudgedTold). is_hit_verdict t.verdict) e) refl

  pub no_loses_end_bits : LosesEndBits f (two 1 63 0 0 0) 0 0 → RightAt f (two 1 63 0 0 0) 0 0 → ⊥
  unfolding judged is_bad is_record clashes entering_by is_hit
  no_loses_end_bits wrong right =
      let end = wrong (ap (λ (t : JudgedTold). is_hit_verdict t.verdict) (says (two 1 63 0 0 0) 0 0 (told 0 leaves 0) right refl)) in
      omega arith

  pub no_num_group_as_count : TakesNumGroupAsCount f (two 0 12 0 0 0) 0 0 → RightAt f (two 0 12 0 0 0) 0 0 → ⊥
  unfolding judged is_bad is_record clashes entering_by is_hit
  no_num_group_as_count wrong right =
      let less = wrong (ap (λ (t : JudgedTold). is_hit_verdict t.verdict) (says (two 0 12 0 0 0) 0 0 (told 0 leaves 0) right refl)) in
      omega arith

  pub no_leaves_by_entering : LeavesByEntering f (two 0 12 0 1 0) 0 0 → RightAt f (two 0 12 0 1 0) 0 0 → ⊥
  unfolding judged is_bad is_record clashes entering_by is_hit is_member
  no_leaves_by_entering wrong right =
      let w = two 0 12 0 1 0 in
      let e = says w 0 0 (told 0 leaves 0) right refl in
      let none : bit 0 (ports_of (f w 0 0)) ≡ 0 = right.each 0 (omega arith) in
      let set = wrong (ap (λ (t : JudgedTold). t.verdict) e) ∙ ap (λ (t : JudgedTold). bit t.group 1) e in
      omega arith

  pub no_forgets_high_receive : ForgetsHighReceive f (two 40 12 0 (2 ^ 40) 0) 0 0x28000 → RightAt f (two 40 12 0 (2 ^ 40) 0) 0 0x28000 → ⊥
  unfolding judged is_bad is_record clashes entering_by is_hit is_member
  no_forgets_high_receive wrong right =
      let w = two 40 12 0 (2 ^ 40) 0 in
      let e = ap (λ (t : JudgedTold). t.group) (says w 0 0x28000 (told 0 leaves 40) right refl) in
      let set : bit 1 (ports_of (f w 0 0x28000)) ≡ 1 = right.each 1 (omega arith) in
      let unset = wrong 1 (omega arith) in
      omega arith

  pub no_forgets_high_blocks : ForgetsHighBlocks f (two 40 12 (2 ^ 40) 0 0) 0 0x28000 → RightAt f (two 40 12 (2 ^ 40) 0 0) 0 0x28000 → ⊥
  unfolding judged is_bad is_record clashes entering_by is_hit
  no_forgets_high_blocks wrong right =
      let e = says (two 40 12 (2 ^ 40) 0 0) 0 0x28000 (told 0 dropped 40) right refl in
      let group = ap (λ (t : JudgedTold). t.group) e in
      wrong (omega arith) (ap (λ (t : JudgedTold). t.verdict) e)

-- what each of them answers at its input: a judge that always answers so is wrong in this way there
abbrev always : Result Judged Refusal → Judge
always answer ports entering address = answer

pub such_judges_exist : BlocksWhereItLeaves (always (Ok (Leaves 0 0))) (two 0 12 0 1 1) 0 0
    × ((width : ℕ) → LosesGroupBits width (always (Ok (Leaves 0 0))) (two 0 12 0 0 0) 0 (2 ^ width * 2 ^ 12))
    × LosesEndBits (always (Ok NoHit)) (two 1 63 0 0 0) 0 0
    × TakesNumGroupAsCount (always (Ok NoHit)) (two 0 12 0 0 0) 0 0
    × LeavesByEntering (always (Ok (Leaves 0 3))) (two 0 12 0 1 0) 0 0
    × ForgetsHighReceive (always (Ok (Leaves 40 0))) (two 40 12 0 (2 ^ 40) 0) 0 0x28000
    × ForgetsHighBlocks (always (Ok (Leaves 40 0))) (two 40 12 (2 ^ 40) 0 0) 0 0x28000
such_judges_exist = (
  (λ k e. no_bit k),
  (λ width a b c. refl),
  (λ e. absurd (never e)),
  (λ e. absurd (never e)),
  (λ e. refl),
  (λ k h. no_bit k),
  (λ h e. never (ap is_dropped e)),
)
  where
    never : false ≡ true → ⊥
    never e = eqb-false 0 1 refl (eqb-true 0 1 e)

    no_bit : (k : ℕ) → bit k 0 ≡ 0
    no_bit k = bit_above k 0 0 (omega arith) (omega arith)

    is_dropped : Verdict → Bool
    is_dropped dropped = true
    is_dropped leaves = false
    is_dropped no_hit = false
    is_dropped unsaid = false

-- ---- readers

abbrev pub Reader : Type 0
Reader = List ℕ → ℕ → Result Record Refusal

abbrev pub ReadsRightAt : Reader → List ℕ → ℕ → Type 0
ReadsRightAt f s at = tells_capability (f s at) ≡ capability_says s at

-- the base is the whole register, with the index in its low bits
abbrev pub KeepsLowBits : Reader → List ℕ → ℕ → Type 0
KeepsLowBits f s at = (tells_capability (f s at)).number ≡ 0 → base (tells_capability (f s at)).fields ≡ long s (at + 8)

-- a register of 64 bits is read as its low word: the base, Receive or Block All
abbrev pub ForgetsHighWord : (Record → ℕ) → Reader → List ℕ → ℕ → Type 0
ForgetsHighWord register f s at = (tells_capability (f s at)).number ≡ 0 → register (tells_capability (f s at)).fields < 2 ^ 32

-- the record of an enabled port, by its base, Receive and Block All
abbrev having : ℕ → ℕ → ℕ → Record
having base receive block_all =
    record { max_group = 63; num_group = 40; enable = 1; index = 12; base = base; receive = receive; block_all = block_all }

-- the record of an enabled port with its base at 2^40, of which group 40 is received and blocked, in a space of bytes
abbrev pub example : Record
example = having (2 ^ 40) (2 ^ 40) (2 ^ 40)

example_record : is_record example ≡ true
unfolding is_record clashes
example_record = refl

example_row : Row example
example_row = record { seven = refl; wide = (omega arith, (omega arith, (omega arith, (omega arith, (omega arith, (omega arith, (omega arith, tt))))))) }

-- its register at +8 holds the index too
example_window : long (space_with example) 0x108 ≡ 2 ^ 40 + 12
unfolding space_with
example_window = refl

module _ (f : Reader) (right : ReadsRightAt f (space_with example) 0x100) where
  reads : tells_capability (f (space_with example) 0x100) ≡ record { number = 0; fields = example }
  reads = right ∙ written_found example (record_fields example example_record) example_row (record_clear example example_record)

  found : (tells_capability (f (space_with example) 0x100)).number ≡ 0
  found = ap (λ (t : CapabilityTold). t.number) reads

  field_read : (register : Record → ℕ) → register (tells_capability (f (space_with example) 0x100)).fields ≡ register example
  field_read register = ap (λ (t : CapabilityTold). register t.fields) reads

  pub no_keeps_low_bits : KeepsLowBits f (space_with example) 0x100 → ⊥
  no_keeps_low_bits wrong = let whole = wrong found ∙ example_window in let e = field_read base in omega arith

  pub no_forgets_high_word_of_base : ForgetsHighWord base f (space_with example) 0x100 → ⊥
  no_forgets_high_word_of_base wrong = let low = wrong found in let e = field_read base in omega arith

  pub no_forgets_high_word_of_receive : ForgetsHighWord receive f (space_with example) 0x100 → ⊥
  no_forgets_high_word_of_receive wrong = let low = wrong found in let e = field_read receive in omega arith

  pub no_forgets_high_word_of_block_all : ForgetsHighWord block_all f (space_with example) 0x100 → ⊥
  no_forgets_high_word_of_block_all wrong = let low = wrong found in let e = field_read block_all in omega arith

-- what each of these readers answers there: one that always answers so is wrong in this way
abbrev reads_always : Record → Reader
reads_always fields s at = Ok fields

pub such_readers_exist : KeepsLowBits (reads_always (having (2 ^ 40 + 12) (2 ^ 40) (2 ^ 40))) (space_with example) 0x100
    × ForgetsHighWord base (reads_always (having 0 (2 ^ 40) (2 ^ 40))) (space_with example) 0x100
    × ForgetsHighWord receive (reads_always (having (2 ^ 40) 0 (2 ^ 40))) (space_with example) 0x100
    × ForgetsHighWord block_all (reads_always (having (2 ^ 40) (2 ^ 40) 0)) (space_with example) 0x100
such_readers_exist = ((λ e. sym example_window), (λ e. omega arith), (λ e. omega arith), (λ e. omega arith))
