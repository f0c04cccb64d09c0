-- There are servers with each of the faults of specs/Servers.antt that are right about every packet of another kind: one that is not for the function that has the fault,
-- not for neither, not of Type 1, or of a pair whose numbers differ. So what is refuted in Wrong.antt asks of a server nothing about those. Assumes nothing.
use Prim.Native.Nat.{ℕ, ◌%◌}
use mathlib.Core.Bool.{Bool, true, false, not, ◌&&◌, cond}
use mathlib.Core.List.{List, [], ◌∷◌}
use mathlib.Core.Path.{◌≡◌, refl, sym, ap, ◌∙◌}
use native.Mathlib.Omega.{arith}
use lib.Dec.{eqb}
use lib.ListN.{length}
use borrow.Author.Tests.{eq-eqb, ne_eqb, ltb-false}
use Rattle.answers.proofs.Checks.{none_of}
use Rattle.words.specs.Bytes.{byte, four}
use Rattle.registers.specs.Shown.{shown}
use Rattle.packet.specs.Fields.{function_of}
use Rattle.packet.specs.Request.{request_of}
use Rattle.board.specs.Description.{ranges}
use Rattle.board.specs.Access.{is_type1}
use Rattle.board.specs.Serving.{serve}
use Rattle.board.proofs.Laws.{well_described}
use Rattle.pair.specs.declared.Captures.{Captures}
use Rattle.pair.specs.Pair.{Pair, Role, Primary, Alternate, other, side, board_of, board, WellPaired, is_for, is_for_role}
use Rattle.pair.specs.Pair as pairs
use Rattle.pair.specs.Serving.{serve_pair}
use Rattle.pair.specs.Promise.{PairSeen, pair_shows}
use Rattle.pair.proofs.Laws.{well_each}
use Rattle.witnesses.specs.Servers.{PairServer, SharesCapture, LooksUpOther, WritesOther, NamesTheNamed, RoutesFirst, RoutesType1, AnswersAsAlternate, ServesEqual, LooksAtOne}

-- what the promise wants seen
abbrev promised : PairServer
promised pair p reply = pair_shows (serve_pair pair p (length reply)) reply

-- the statement: a server has the fault, and is right about every pair and packet of which a test says that they are of another kind
pub record Such (Fault : PairServer → Type 0) (shows : Pair → List ℕ → Bool) : Type 0 where
  pub server : PairServer
  pub faulty : Fault server
  pub right_else : (pair : Pair) (p reply : List ℕ) → shows pair p ≡ false → server pair p reply ≡ promised pair p reply

-- the kinds
abbrev pub for_it : Role → Pair → List ℕ → Bool
for_it role pair p = is_for_role role pair p

abbrev pub for_none : Pair → List ℕ → Bool
for_none pair p = not (is_for_role Primary pair p) && not (is_for_role Alternate pair p)

abbrev pub names_none : Pair → List ℕ → Bool
names_none pair p = not (eqb (function_of (byte p 9)) (pairs.number_of Primary pair)) && not (eqb (function_of (byte p 9)) (pairs.number_of Alternate pair))

abbrev pub of_type1 : Pair → List ℕ → Bool
of_type1 pair p = is_type1 (request_of p).target

abbrev pub same_number : Pair → List ℕ → Bool
same_number pair p = eqb (pairs.number_of Primary pair) (pairs.number_of Alternate pair)

pub record SuchServersExist : Type 0 where
  pub shares_capture : (role : Role) → Such (SharesCapture role) (for_it role)
  pub looks_up_other : (role : Role) → Such (LooksUpOther role) (for_it role)
  pub writes_other : (role : Role) → Such (WritesOther role) (for_it role)
  pub names_the_named : Such NamesTheNamed for_none
  pub routes_first : Such RoutesFirst names_none
  pub routes_type1 : Such RoutesType1 of_type1
  pub answers_as_alternate : Such AnswersAsAlternate for_none
  pub serves_equal : Such ServesEqual same_number
  pub looks_at_one : (role : Role) → Such (LooksAtOne role) (for_it role)

-- ---- a right server, spoilt where a test says so

abbrev spoilt : (Pair → List ℕ → Bool) → (Pair → List ℕ → List ℕ → PairSeen → PairSeen) → PairServer
spoilt test spoil pair p reply = cond (test pair p) (spoil pair p reply (promised pair p reply)) (promised pair p reply)

spoilt_there : (test : Pair → List ℕ → Bool) (spoil : Pair → List ℕ → List ℕ → PairSeen → PairSeen) (pair : Pair) (p reply : List ℕ) → test pair p ≡ true
    → spoilt test spoil pair p reply ≡ spoil pair p reply (promised pair p reply)
spoilt_there test spoil pair p reply h = rw h

such : (Fault : PairServer → Type 0) (test : Pair → List ℕ → Bool) (spoil : Pair → List ℕ → List ℕ → PairSeen → PairSeen) → Fault (spoilt test spoil) → Such Fault test
such Fault test spoil faulty = record { server = spoilt test spoil; faulty = faulty; right_else = λ pair p reply h. rw h }

-- with another number, other captures, other trusted bytes of a function, or another reply
abbrev with_number : ℕ → PairSeen → PairSeen
with_number n x =
    record {
      number = n;
      count = x.count;
      kept = x.kept;
      primary_ordinary = x.primary_ordinary;
      primary_trusted = x.primary_trusted;
      alternate_ordinary = x.alternate_ordinary;
      alternate_trusted = x.alternate_trusted;
      reply = x.reply;
    }

abbrev with_captures : Captures → PairSeen → PairSeen
with_captures kept x =
    record {
      number = x.number;
      count = x.count;
      kept = kept;
      primary_ordinary = x.primary_ordinary;
      primary_trusted = x.primary_trusted;
      alternate_ordinary = x.alternate_ordinary;
      alternate_trusted = x.alternate_trusted;
      reply = x.reply;
    }

abbrev with_trusted : Role → List ℕ → PairSeen → PairSeen
with_trusted Primary bytes x =
    record {
      number = x.number;
      count = x.count;
      kept = x.kept;
      primary_ordinary = x.primary_ordinary;
      primary_trusted = bytes;
      alternate_ordinary = x.alternate_ordinary;
      alternate_trusted = x.alternate_trusted;
      reply = x.reply;
    }
with_trusted Alternate bytes x =
    record {
      number = x.number;
      count = x.count;
      kept = x.kept;
      primary_ordinary = x.primary_ordinary;
      primary_trusted = x.primary_trusted;
      alternate_ordinary = x.alternate_ordinary;
      alternate_trusted = bytes;
      reply = x.reply;
    }

abbrev with_reply : List ℕ → PairSeen → PairSeen
with_reply reply x =
    record {
      number = x.number;
      count = length reply;
      kept = x.kept;
      primary_ordinary = x.primary_ordinary;
      primary_trusted = x.primary_trusted;
      alternate_ordinary = x.alternate_ordinary;
      alternate_trusted = x.alternate_trusted;
      reply = reply;
    }

-- the primary's capture for both, or the alternate's
abbrev both : Role → Captures → Captures
both Primary kept = record { primary = kept.primary; alternate = kept.primary }
both Alternate kept = record { primary = kept.alternate; alternate = kept.alternate }

both_same : (role : Role) (kept : Captures) → (both role kept).primary ≡ (both role kept).alternate
both_same Primary kept = refl
both_same Alternate kept = refl

-- a completion without data, and one with four bytes of it, by byte 5
abbrev refusal : ℕ → List ℕ
refusal five = 0x0a ∷ 0 ∷ 0 ∷ 0 ∷ 0 ∷ five ∷ 0x20 ∷ 0x04 ∷ 0 ∷ 0 ∷ 0 ∷ 0 ∷ []

abbrev given : List ℕ → List ℕ
given word = 0x4a ∷ 0 ∷ 0 ∷ 0x01 ∷ 0 ∷ 0 ∷ 0 ∷ 0x04 ∷ 0 ∷ 0 ∷ 0 ∷ 0 ∷ byte word 0 ∷ byte word 1 ∷ byte word 2 ∷ byte word 3 ∷ []

-- a number in its range is one of three bits
small : (pair : Pair) → WellPaired pair → pairs.number_of Alternate pair % 8 ≡ pairs.number_of Alternate pair
small pair w =
    let d = board Alternate pair in
    let n = none_of (ranges d.description d.capture) (well_described d (well_each pair w Alternate)).in_range in
    let h = ltb-false 7 (pairs.number_of Alternate pair) n.1.0 in
    omega (arith, h)

-- ---- each fault

neither : (a b : Bool) → a ≡ false → b ≡ false → (not a && not b) ≡ true
neither a b e f = rw (e, f)

pub such_servers_exist : SuchServersExist
unfolding shown
such_servers_exist =
    record {
      shares_capture = λ role.
          such (SharesCapture role) (for_it role) (λ pair p reply x. with_captures (both role x.kept) x) (λ pair p reply ask n.
          rw ask.for (both_same role (promised pair p reply).kept));
      looks_up_other = λ role.
          such (LooksUpOther role) (for_it role)
          (λ pair p reply x. with_reply (given (four (side (other role) pair).trusted.bytes (request_of p).offset)) x) (λ pair p reply ask n. rw ask.for);
      writes_other = writes_other_lem;
      names_the_named =
          such NamesTheNamed for_none (λ pair p reply x. with_reply (refusal (byte p 9)) x) (λ pair p reply h k t n. rw (neither _ _ h k) (omega arith));
      routes_first =
          such RoutesFirst names_none (λ pair p reply x. with_number 0 x) (λ pair p reply w size long h k.
          rw (neither _ _ (ne_eqb _ _ h) (ne_eqb _ _ k)));
      routes_type1 =
          such RoutesType1 of_type1 (λ pair p reply x. with_reply (refusal (pairs.number_of Alternate pair)) x) (λ pair p reply w t h n. rw t (small pair w));
      answers_as_alternate =
          such AnswersAsAlternate for_none (λ pair p reply x. with_reply (refusal (pairs.number_of Alternate pair)) x) (λ pair p reply w h k n.
          rw (neither _ _ h k) (small pair w));
      serves_equal =
          such ServesEqual same_number (λ pair p reply x. with_number 0 x) (λ pair p reply size b c e h. rw (eq-eqb _ _ e));
      looks_at_one = looks_at_one_lem;
    }
  where
    writes_other_lem : (role : Role) → Such (WritesOther role) (for_it role)
    writes_other_lem Primary =
        such (WritesOther Primary) (for_it Primary) (λ pair p reply x. with_trusted Primary pair.primary.trusted.bytes x) (λ pair p reply ask. rw ask.for)
    writes_other_lem Alternate =
        such (WritesOther Alternate) (for_it Alternate) (λ pair p reply x. with_trusted Alternate pair.alternate.trusted.bytes x) (λ pair p reply ask. rw ask.for)

    looks_at_one_lem : (role : Role) → Such (LooksAtOne role) (for_it role)
    looks_at_one_lem role =
        let spoil : Pair → List ℕ → List ℕ → PairSeen → PairSeen = λ pair p reply x. with_number (serve (board role pair) p (length reply)).number x in
        such (LooksAtOne role) (for_it role) spoil (λ pair other p reply h e sides n.
        let k : is_for_role role other p ≡ true = (λ i. is_for (sym e i) (sym sides i).function.number p) ∙ h in
        ap (λ (x : PairSeen). x.number) (spoilt_there (for_it role) spoil pair p reply h)
        ∙ (λ i. (serve (board_of (e i) (sides i)) p (length reply)).number)
        ∙ sym (ap (λ (x : PairSeen). x.number) (spoilt_there (for_it role) spoil other p reply k)))
