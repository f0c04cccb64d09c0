-- THEOREMS. Every server of a board of two functions with one of the faults of specs/Servers.antt is wrong about a packet that is named here: whatever else it does, its
-- answer is not the promised one. Assumes nothing.
use Prim.Native.Nat.{ℕ, ◌%◌}
use mathlib.Core.List.{List}
use mathlib.Core.Path.{refl, sym, ap, ◌∙◌}
use native.Mathlib.Omega.{arith}
use lib.ListN.{drop}
use borrow.Author.Tests.{eqb-false}
use Rattle.words.specs.Bytes.{byte}
use Rattle.capture.specs.declared.Capture.{Capture}
use Rattle.capture.specs.declared.Capture.TheVariants.{Nothing, Number}
use Rattle.runs.specs.Servers.{untouched}
use Rattle.runs.specs.Bench.{p2}
use Rattle.pair.specs.Pair.{Side, Pair, Role, Primary, Alternate}
use Rattle.pair.specs.Promise.{PairSeen}
use Rattle.pair.proofs.Computing.{pair_computing}
use Rattle.witnesses.specs.Servers.{PairServer, PairRightAt, pair_completion, SharesCapture, LooksUpOther, WritesOther, NamesTheNamed, RoutesFirst, RoutesType1, AnswersAsAlternate, ServesEqual, LooksAtOne}
use Rattle.witnesses.proofs.Examples.{mine, another, paired, to, type1, too_long, secret, read4, trusted4, side_with}
use Rattle.witnesses.proofs.Needed.{usual, zero, full, twice}

-- ---- the witnesses

-- function 2 in a role and function 3 in the other, both fresh; and both with bus 05h and device 3 captured, FFh in the trusted word at 004h of one
abbrev pub fresh : Role → Pair
fresh role = paired role mine another

abbrev captured : Side
captured = side_with 3 0x104 0x00c (Number 0x05 0x03) zero (full 0x004)

abbrev pub apart : Role → Pair
apart role = paired role usual captured

abbrev pub equal : Pair
equal = paired Primary usual (side_with 2 0x104 0x00c Nothing zero zero)

-- the bus of a capture
abbrev bus : Capture → ℕ
bus Nothing = 0
bus (Number b device) = b

-- a completion's data, and its completer ID's function
abbrev data12 : PairSeen → ℕ
data12 x = byte (drop 12 (pair_completion x)) 0

abbrev who : PairSeen → ℕ
who x = byte (pair_completion x) 5 % 8

-- ---- each fault

-- the packets for either role: the function that serves is number 2, and the one beside it number 3
module _ (server : PairServer) where
  pub shared_capture_wrong : (role : Role) → SharesCapture role server → ¬ PairRightAt server (fresh role) (to 0x1a p2)
  unfolding pair_computing
  shared_capture_wrong Primary fault right =
      eqb-false 0x05 0 refl
      (sym (ap (λ (x : PairSeen). bus x.kept.primary) right)
      ∙ ap bus (fault (fresh Primary) (to 0x1a p2) untouched (record { for = refl; to = refl; does = refl; clean = refl }) (ap (λ (x : PairSeen). x.number) right))
      ∙ ap (λ (x : PairSeen). bus x.kept.alternate) right)
  shared_capture_wrong Alternate fault right =
      eqb-false 0 0x05 refl
      (sym (ap (λ (x : PairSeen). bus x.kept.primary) right)
      ∙ ap bus (fault (fresh Alternate) (to 0x1a p2) untouched (record { for = refl; to = refl; does = refl; clean = refl }) (ap (λ (x : PairSeen). x.number) right))
      ∙ ap (λ (x : PairSeen). bus x.kept.alternate) right)

  pub looks_up_other_wrong : (role : Role) → LooksUpOther role server → ¬ PairRightAt server (apart role) (to 0x1a trusted4)
  unfolding pair_computing
  looks_up_other_wrong Primary fault right =
      eqb-false 0 0xff refl
      (sym (ap data12 right)
      ∙ ap (λ (l : List ℕ). byte l 0)
      (fault (apart Primary) (to 0x1a trusted4) untouched (record { for = refl; to = refl; does = refl; clean = refl }) (ap (λ (x : PairSeen). x.count) right)))
  looks_up_other_wrong Alternate fault right =
      eqb-false 0 0xff refl
      (sym (ap data12 right)
      ∙ ap (λ (l : List ℕ). byte l 0)
      (fault (apart Alternate) (to 0x1a trusted4) untouched (record { for = refl; to = refl; does = refl; clean = refl }) (ap (λ (x : PairSeen). x.count) right)))

  pub writes_other_wrong : (role : Role) → WritesOther role server → ¬ PairRightAt server (apart role) (to 0x1a secret)
  unfolding pair_computing
  writes_other_wrong Primary fault right =
      eqb-false 0x5a 0 refl
      (sym (ap (λ (x : PairSeen). byte x.primary_trusted 4) right)
      ∙ ap (λ (l : List ℕ). byte l 4) (fault (apart Primary) (to 0x1a secret) untouched (record { for = refl; to = refl; does = refl; clean = refl })))
  writes_other_wrong Alternate fault right =
      eqb-false 0x5a 0 refl
      (sym (ap (λ (x : PairSeen). byte x.alternate_trusted 4) right)
      ∙ ap (λ (l : List ℕ). byte l 4) (fault (apart Alternate) (to 0x1a secret) untouched (record { for = refl; to = refl; does = refl; clean = refl })))

  pub names_the_named_wrong : NamesTheNamed server → ¬ PairRightAt server (fresh Primary) (to 0x1d read4)
  unfolding pair_computing
  names_the_named_wrong fault right =
      eqb-false 2 5 refl (sym (ap who right) ∙ fault (fresh Primary) (to 0x1d read4) untouched refl refl refl (ap (λ (x : PairSeen). x.number) right))

  pub routes_first_wrong : RoutesFirst server → ¬ PairRightAt server (fresh Primary) (to 0x1d too_long)
  unfolding pair_computing
  routes_first_wrong fault right =
      eqb-false 5 0 refl
      (sym (ap (λ (x : PairSeen). x.number) right)
      ∙ fault (fresh Primary) (to 0x1d too_long) untouched refl (omega arith) (omega arith) (eqb-false 5 2 refl) (eqb-false 5 3 refl))

  pub routes_type1_wrong : RoutesType1 server → ¬ PairRightAt server (fresh Primary) (to 0x1b type1)
  unfolding pair_computing
  routes_type1_wrong fault right =
      eqb-false 2 3 refl (sym (ap who right) ∙ fault (fresh Primary) (to 0x1b type1) untouched refl refl refl (ap (λ (x : PairSeen). x.number) right))

  pub answers_as_alternate_wrong : AnswersAsAlternate server → ¬ PairRightAt server (fresh Primary) (to 0x1d read4)
  unfolding pair_computing
  answers_as_alternate_wrong fault right =
      eqb-false 2 3 refl (sym (ap who right) ∙ fault (fresh Primary) (to 0x1d read4) untouched refl refl refl (ap (λ (x : PairSeen). x.number) right))

  pub serves_equal_wrong : ServesEqual server → ¬ PairRightAt server equal (to 0x1a read4)
  unfolding pair_computing
  serves_equal_wrong fault right =
      eqb-false 1 0 refl (sym (ap (λ (x : PairSeen). x.number) right) ∙ fault equal (to 0x1a read4) untouched (omega arith) refl refl refl refl)

  -- it is wrong about a pair whose other function is badly described, or about the same pair with one that is well described
  pub looks_at_one_wrong : (role : Role) → LooksAtOne role server → PairRightAt server (paired role usual another) (to 0x1a read4)
      → ¬ PairRightAt server (paired role usual twice) (to 0x1a read4)
  unfolding pair_computing
  looks_at_one_wrong Primary fault right spoilt =
      eqb-false 0 1 refl
      (sym (ap (λ (x : PairSeen). x.number) right)
      ∙ fault (paired Primary usual another) (paired Primary usual twice) (to 0x1a read4) untouched refl refl refl refl
      ∙ ap (λ (x : PairSeen). x.number) spoilt)
  looks_at_one_wrong Alternate fault right spoilt =
      eqb-false 0 1 refl
      (sym (ap (λ (x : PairSeen). x.number) right)
      ∙ fault (paired Alternate usual another) (paired Alternate usual twice) (to 0x1a read4) untouched refl refl refl refl
      ∙ ap (λ (x : PairSeen). x.number) spoilt)
