-- THEOREMS. What else holds of a judged address, of any answer that meets the promise. It never leaves by the port that it entered by. Another port is one that it
-- leaves by exactly if its own Receive bit for the group is set, and a Receive register that is changed changes that port's membership and nothing else. Block
-- All counts only where the packet enters. Of another port's record nothing but Receive counts, where both lists are good ones. With Enable clear at the
-- port that it enters by, there is no hit, whatever the rest of a good list holds; and by no list at all is it dropped then, or leaves. Assumes nothing.
use Prim.Native.Nat.{ℕ, ◌<◌}
use mathlib.Core.Bool.{Bool, true, false}
use mathlib.Core.List.{List}
use mathlib.Core.Logic.{◌⊎◌, inl, inr, ⊎_elim}
use mathlib.Core.Path.{◌≡◌, refl, sym, ap, ap₂, ◌∙◌}
use native.Mathlib.Omega.{arith}
use borrow.Author.Tests.{eq-eqb}
use lib.ListN.{length, get_or}
use Rattle.answers.specs.declared.Refusal.TheVariants.{BadDescription}
use Rattle.words.specs.Fields.{bit}
use Rattle.std.specs.Prelude.{Result, Ok, Err}
use Rattle.answers.specs.declared.Refusal.{Refusal}
use Rattle.multicast.specs.declared.Record.{Record}
use Rattle.multicast.specs.declared.Judged.{Judged}
use Rattle.multicast.specs.declared.Judged.TheVariants.{NoHit, Leaves}
use Rattle.multicast.specs.Capability.{enable, receive, numbers}
use Rattle.multicast.specs.Judging.{port_at, is_bad, is_hit, Verdict, unsaid, no_hit, dropped, leaves, JudgedTold, judged, is_member, leaves_bit, leaves_by, tells_judged, ports_of, Judges}
use Rattle.multicast.proofs.Alike.{Sound, bad_alike, entering_alike, judged_alike, member_alike, member_itself}
use Rattle.multicast.proofs.Held.{member_other}
use Rattle.multicast.proofs.Judgments.{judges_bad, judges_no_hit, leaves_good, good_length}
use Rattle.multicast.proofs.Sets.{below_or_from, bit_above, same_bits}
use Rattle.multicast.proofs.Unique.{told_apart, judge_unique}

-- two lists of ports have as many, and every number of every port alike, but for those excepted: by the port's place, and the number's in its record
pub record AlikeBut (except : ℕ → ℕ → Type 0) (a b : List Record) : Type 0 where
  pub many : length a ≡ length b
  pub each : (k i : ℕ) → (except k i → ⊥) → get_or (numbers (port_at a k)) i 0 ≡ get_or (numbers (port_at b k)) i 0

-- the numbers' places
abbrev receive_at : ℕ
receive_at = 5

abbrev block_all_at : ℕ
block_all_at = 6

-- the statements
abbrev pub NeverLeavesByEntering : Type 0
NeverLeavesByEntering =
    (ports : List Record) (entering address : ℕ) (r : Result Judged Refusal) → Judges ports entering address r → bit entering (ports_of r) ≡ 0

abbrev pub LeavesByReceive : Type 0
LeavesByReceive =
    (ports : List Record) (entering address group set k : ℕ) → Judges ports entering address (Ok (Leaves group set)) → k < length ports
    → (k ≡ entering → ⊥) → bit k set ≡ bit group (receive (port_at ports k))

abbrev pub ReceiveChangesItsPortOnly : Type 0
ReceiveChangesItsPortOnly =
    (a b : List Record) (port entering address : ℕ) (r q : Result Judged Refusal) → AlikeBut (λ k i. (k ≡ port) × (i ≡ receive_at)) a b
    → Judges a entering address r → Judges b entering address q
    → (tells_judged r ≡ tells_judged q) × ((k : ℕ) → (k ≡ port → ⊥) → bit k (ports_of r) ≡ bit k (ports_of q))

abbrev pub BlockAllCountsAtEntering : Type 0
BlockAllCountsAtEntering =
    (a b : List Record) (entering address : ℕ) (r q : Result Judged Refusal) → AlikeBut (λ k i. (k ≡ entering → ⊥) × (i ≡ block_all_at)) a b
    → Judges a entering address r → Judges b entering address q → r ≡ q

abbrev pub OthersCountByReceive : Type 0
OthersCountByReceive =
    (a b : List Record) (entering address : ℕ) (r q : Result Judged Refusal) → AlikeBut (λ k i. (k ≡ entering → ⊥) × (i ≡ receive_at → ⊥)) a b
    → is_bad a entering ≡ false → is_bad b entering ≡ false → Judges a entering address r → Judges b entering address q → r ≡ q

abbrev pub NotEnabledNoHit : Type 0
NotEnabledNoHit =
    (ports : List Record) (entering address : ℕ) (r : Result Judged Refusal) → Judges ports entering address r → is_bad ports entering ≡ false
    → enable (port_at ports entering) ≡ 0 → r ≡ Ok NoHit

-- also by a list that is refused
abbrev pub NotEnabledNotHit : Type 0
NotEnabledNotHit =
    (ports : List Record) (entering address : ℕ) (r : Result Judged Refusal) → Judges ports entering address r → enable (port_at ports entering) ≡ 0
    → (r ≡ Ok NoHit) ⊎ (r ≡ Err BadDescription)

-- ---- the port that it entered by

no_member : (v : Verdict) (b : Bool) → b ≡ false → leaves_bit v b ≡ 0
no_member unsaid b e = refl
no_member no_hit b e = refl
no_member dropped b e = refl
no_member leaves b e = rw e

pub never_leaves_by_entering : NeverLeavesByEntering
never_leaves_by_entering ports entering address r j =
    ⊎_elim
    (λ (h : entering < 32). j.each entering h ∙ no_member (judged ports entering address).verdict _ (member_itself ports entering (judged ports entering address).group))
    (λ h. bit_above entering 32 (ports_of r) j.most h)
    (below_or_from entering 32)

pub leaves_by_receive : LeavesByReceive
leaves_by_receive ports entering address group set k j h n =
    let few = good_length ports entering (leaves_good ports entering address group set j) in
    j.each k (omega arith) ∙ ap (λ (t : JudgedTold). leaves_by ports entering t k) (sym j.tells) ∙ sym (member_other ports entering group k h n)

-- ---- two lists

-- all but the ports are told alike, and so is each port whose Receive is alike
module _ (a b : List Record) (entering address : ℕ) (r q : Result Judged Refusal) (many : length a ≡ length b) (said : judged a entering address ≡ judged b entering address)
    (j : Judges a entering address r) (l : Judges b entering address q) where
  told_alike : tells_judged r ≡ tells_judged q
  told_alike = j.tells ∙ said ∙ sym l.tells

  port_alike : (k : ℕ) → receive (port_at a k) ≡ receive (port_at b k) → bit k (ports_of r) ≡ bit k (ports_of q)
  port_alike k e =
      ⊎_elim
      (λ (h : k < 32).
      j.each k h
      ∙ ap₂ leaves_bit (ap (λ (t : JudgedTold). t.verdict) said) (member_alike a b entering (judged a entering address).group k many e ∙ ap (λ (t : JudgedTold). is_member b entering t.group k) said)
      ∙ sym (l.each k h))
      (λ h. bit_above k 32 (ports_of r) j.most h ∙ sym (bit_above k 32 (ports_of q) l.most h))
      (below_or_from k 32)

  all_alike : ((k : ℕ) → receive (port_at a k) ≡ receive (port_at b k)) → r ≡ q
  all_alike e = told_apart r q told_alike (same_bits 32 (ports_of r) (ports_of q) j.most l.most (λ k h. port_alike k (e k)))

-- where what makes a record one is alike at every port, and Block All at the one that is entered by, the same is said
said_alike : (except : ℕ → ℕ → Type 0) (a b : List Record) (entering address : ℕ) → AlikeBut except a b → ((k i : ℕ) → i < 5 → except k i → ⊥)
    → (except entering block_all_at → ⊥) → judged a entering address ≡ judged b entering address
said_alike except a b entering address s n m =
    judged_alike a b entering address (bad_alike a b entering s.many sound)
    (entering_alike _ _ address (sound entering).groups (sound entering).enabling (sound entering).place (sound entering).window (s.each entering 6 m))
  where
    sound : (k : ℕ) → Sound (port_at a k) (port_at b k)
    sound k =
        record {
          maximum = s.each k 0 (n k 0 (omega arith));
          groups = s.each k 1 (n k 1 (omega arith));
          enabling = s.each k 2 (n k 2 (omega arith));
          place = s.each k 3 (n k 3 (omega arith));
          window = s.each k 4 (n k 4 (omega arith));
        }

pub receive_changes_its_port_only : ReceiveChangesItsPortOnly
receive_changes_its_port_only a b port entering address r q s j l =
    let said = said_alike (λ k i. (k ≡ port) × (i ≡ receive_at)) a b entering address s (λ k i h x. absurd (omega (arith, x.1))) (λ x. absurd (omega (arith, x.1))) in
    (told_alike a b entering address r q s.many said j l, (λ k n. port_alike a b entering address r q s.many said j l k (s.each k 5 (λ x. n x.0))))

pub block_all_counts_at_entering : BlockAllCountsAtEntering
block_all_counts_at_entering a b entering address r q s j l =
    let said = said_alike (λ k i. (k ≡ entering → ⊥) × (i ≡ block_all_at)) a b entering address s (λ k i h x. absurd (omega (arith, x.1))) (λ x. x.0 refl) in
    all_alike a b entering address r q s.many said j l (λ k. s.each k 5 (λ x. absurd (omega (arith, x.1))))

pub others_count_by_receive : OthersCountByReceive
others_count_by_receive a b entering address r q s good fine j l =
    all_alike a b entering address r q s.many (judged_alike a b entering address (good ∙ sym fine) (entering_alike _ _ address (at 1) (at 2) (at 3) (at 4) (at 6))) j l
    (λ k. s.each k 5 (λ x. x.1 refl))
  where
    at : (i : ℕ) → get_or (numbers (port_at a entering)) i 0 ≡ get_or (numbers (port_at b entering)) i 0
    at i = s.each entering i (λ x. x.0 refl)

-- ---- not enabled

not_hit : (r : Record) (address : ℕ) → enable r ≡ 0 → is_hit r address ≡ false
unfolding is_hit
not_hit r address e = rw (eq-eqb (enable r) 0 e)

pub not_enabled_no_hit : NotEnabledNoHit
not_enabled_no_hit ports entering address r j good e =
    judge_unique ports entering address r (Ok NoHit) j (judges_no_hit ports entering address good (not_hit (port_at ports entering) address e))

pub not_enabled_not_hit : NotEnabledNotHit
not_enabled_not_hit ports entering address r j e = go (is_bad ports entering) refl
  where
    go : (b : Bool) → is_bad ports entering ≡ b → (r ≡ Ok NoHit) ⊎ (r ≡ Err BadDescription)
    go true bad = inr (judge_unique ports entering address r (Err BadDescription) j (judges_bad ports entering address bad))
    go false good = inl (not_enabled_no_hit ports entering address r j good e)
