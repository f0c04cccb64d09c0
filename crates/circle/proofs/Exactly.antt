-- THEOREMS. The reader takes exactly the replies of document 01, and its check 6 is exactly "any other byte that no reply of document 01 with that first byte
-- has at its place": where the length fits the first byte, it applies exactly if some byte is one that no reply has there. So every completer ID, requester
-- ID, tag and data byte does occur, a reply with data has status 00h only, and one without has 00h or 20h. Assumes nothing.
use Prim.Native.Nat.{ℕ, ◌≤◌, ◌<◌}
use mathlib.Core.Bool.{Bool, true, false, not, cond, ◌||◌, ◌&&◌}
use mathlib.Core.List.Memᴰ
use mathlib.Core.List.{List, [], ◌∷◌}
use mathlib.Core.Logic.{◌↔◌}
use mathlib.Core.Path.{◌≡◌, refl, sym, ap, ap₂, ◌∙◌, subst}
use native.Mathlib.Omega.{arith}
use lib.Dec.{eqb}
use lib.ListN.{length}
use borrow.Author.Tests.{eq-eqb, eqb-true, le-ltb, ltb-false, not-false}
use Rattle.answers.proofs.Checks.{Positive, none_applies, none_of}
use Rattle.words.specs.Bytes.{byte, four}
use Rattle.words.proofs.Laws.{listed, listed_from}
use Rattle.packet.specs.Completion.{with_data, without_data}
use Rattle.asking.specs.Reading.{has_data, other_status, other_bytes, never_sent, read_checks, read_number}
use Rattle.circle.specs.Plain.{Octets}
use Rattle.circle.specs.Replies.{Reply, NoReplyHas}
use Rattle.circle.proofs.Heard.{replies_read_back}
use Rattle.circle.proofs.Given.{octets, gives_data, gives_done, gives_unsupported}

-- the statements: what reads back is a reply, and a reply reads back
abbrev pub ReadsExactly : Type 0
ReadsExactly = (c : List ℕ) → Octets c → (read_number c ≡ 0) ↔ Reply c

-- what the checks 3 to 5 leave
pub record Fitting (c : List ℕ) : Type 0 where
  pub long : 12 ≤ length c
  pub first : (eqb (byte c 0) 0x4a || eqb (byte c 0) 0x0a) ≡ true
  pub size : length c ≡ cond (has_data c) 16 12

-- and the check 6, by its words
abbrev pub SixExactly : Type 0
SixExactly = (c : List ℕ) → Octets c → Fitting c → (read_number c ≡ 6) ↔ ((k : ℕ) × (k < length c) × NoReplyHas (byte c 0) k (byte c k))

-- ---- bytes that read back: what each check has shown

pub record Sound (c : List ℕ) : Type 0 where
  pub fitting : Fitting c
  pub one : byte c 1 ≡ 0x00
  pub two : byte c 2 ≡ 0x00
  pub three : byte c 3 ≡ cond (has_data c) 1 0
  pub six : other_status (has_data c) (byte c 6) ≡ false
  pub seven : byte c 7 ≡ 0x04
  pub eleven : byte c 11 ≡ 0x00

is_not : (a b : ℕ) → not (eqb a b) ≡ false → a ≡ b
is_not a b e = eqb-true a b (not-false (eqb a b) e)

positive : (c : List ℕ) → Positive (read_checks c)
positive c = omega arith

pub sound : (c : List ℕ) → read_number c ≡ 0 → Sound c
sound c e =
    let n = none_applies (read_checks c) (positive c) e in
    let w = none_of (other_bytes (has_data c) (byte c 1) (byte c 2) (byte c 3) (byte c 6) (byte c 7) (byte c 11)) (n _ (Memᴰ.tail (Memᴰ.tail (Memᴰ.tail (Memᴰ.head refl))))) in
    record {
      fitting =
          record {
            long = ltb-false (length c) 12 (n _ (Memᴰ.head refl));
            first = not-false _ (n _ (Memᴰ.tail (Memᴰ.head refl)));
            size = is_not _ _ (n _ (Memᴰ.tail (Memᴰ.tail (Memᴰ.head refl))));
          };
      one = is_not _ _ w.0;
      two = is_not _ _ w.1.0;
      three = is_not _ _ w.1.1.0;
      six = w.1.1.1.0;
      seven = is_not _ _ w.1.1.1.1.0;
      eleven = is_not _ _ w.1.1.1.1.1.0;
    }

-- ---- such bytes are a reply

success_only : (six : ℕ) → other_status true six ≡ false → six ≡ 0x00
success_only six e = go (eqb six 0x00) refl e
  where
    go : (b : Bool) → eqb six 0x00 ≡ b → (not b && true) ≡ false → six ≡ 0x00
    go true f h = eqb-true six 0x00 f
    go false f h = let z : ◌≡◌ {A = ℕ} 0 1 = cc in absurd (omega arith)

unsupported_else : (six : ℕ) → other_status false six ≡ false → eqb six 0x00 ≡ false → six ≡ 0x20
unsupported_else six e f = is_not six 0x20 (ap (λ (b : Bool). not b && not (eqb six 0x20)) (sym f) ∙ e)

begins_data : (c : List ℕ) → has_data c ≡ true → byte c 0 ≡ 0x4a
begins_data c e = eqb-true (byte c 0) 0x4a e

begins_else : (c : List ℕ) → (eqb (byte c 0) 0x4a || eqb (byte c 0) 0x0a) ≡ true → has_data c ≡ false → byte c 0 ≡ 0x0a
begins_else c e f = eqb-true (byte c 0) 0x0a (ap (λ (b : Bool). b || eqb (byte c 0) 0x0a) (sym f) ∙ e)

module _ (c : List ℕ) (o : Octets c) (s : Sound c) where
  data_reply : has_data c ≡ true → Reply c
  unfolding with_data listed
  data_reply h =
      let status = success_only (byte c 6) (subst (λ (b : Bool). other_status b (byte c 6) ≡ false) h s.six) in
      let size : length c ≡ 16 = s.fitting.size ∙ ap (λ (b : Bool). cond b 16 12) h in
      let three : byte c 3 ≡ 1 = s.three ∙ ap (λ (b : Bool). cond b 1 0) h in
      subst Reply
      (sym
      (listed_from c 0 16 size
      ∙ (λ i.
      begins_data c h i ∷ s.one i ∷ s.two i ∷ three i ∷ byte c 4 ∷ byte c 5 ∷ status i ∷ s.seven i ∷ byte c 8 ∷ byte c 9 ∷ byte c 10 ∷ s.eleven i
      ∷ byte c 12 ∷ byte c 13 ∷ byte c 14 ∷ byte c 15 ∷ [])))
      (gives_data (byte c 4) (byte c 5) (record { high = byte c 8; low = byte c 9 }) (byte c 10) (four c 12) (o 4) (o 5) (o 8) (o 9) (o 10)
      (octets (four c 12) (o 12, (o 13, (o 14, (o 15, tt))))))

  module _ (h : has_data c ≡ false) where
    abbrev plain_bytes : ℕ → List ℕ
    plain_bytes six = 0x0a ∷ 0 ∷ 0 ∷ 0 ∷ byte c 4 ∷ byte c 5 ∷ six ∷ 4 ∷ byte c 8 ∷ byte c 9 ∷ byte c 10 ∷ 0 ∷ []

    twelve : (six : ℕ) → byte c 6 ≡ six → c ≡ plain_bytes six
    unfolding listed
    twelve six e =
        let size : length c ≡ 12 = s.fitting.size ∙ ap (λ (b : Bool). cond b 16 12) h in
        let three : byte c 3 ≡ 0 = s.three ∙ ap (λ (b : Bool). cond b 1 0) h in
        listed_from c 0 12 size
        ∙ (λ i.
        begins_else c s.fitting.first h i ∷ s.one i ∷ s.two i ∷ three i ∷ byte c 4 ∷ byte c 5 ∷ e i ∷ s.seven i ∷ byte c 8 ∷ byte c 9 ∷ byte c 10
        ∷ s.eleven i ∷ [])

    plain_reply : (done : Bool) → eqb (byte c 6) 0x00 ≡ done → Reply c
    unfolding without_data
    plain_reply true e =
        subst Reply (sym (twelve 0x00 (eqb-true (byte c 6) 0x00 e)))
        (gives_done (byte c 4) (byte c 5) (record { high = byte c 8; low = byte c 9 }) (byte c 10) [] (o 4) (o 5) (o 8) (o 9) (o 10) (octets [] tt))
    plain_reply false e =
        let status = unsupported_else (byte c 6) (subst (λ (b : Bool). other_status b (byte c 6) ≡ false) h s.six) e in
        subst Reply (sym (twelve 0x20 status))
        (gives_unsupported (byte c 4) (byte c 5) (record { high = byte c 8; low = byte c 9 }) (byte c 10) [] (o 4) (o 5) (o 8) (o 9) (o 10) (octets [] tt))

  is_reply : (with_data : Bool) → has_data c ≡ with_data → Reply c
  is_reply true h = data_reply h
  is_reply false h = plain_reply h _ refl

-- ---- and a reply reads back

pub reply_reads : (c : List ℕ) → Reply c → read_number c ≡ 0
reply_reads c r = subst (λ (x : List ℕ). read_number x ≡ 0) r.written (replies_read_back r.board r.packet r.size r.served).number

pub reads_exactly : ReadsExactly
reads_exactly c o = (λ e. is_reply c o (sound c e) _ refl, reply_reads c)

-- ---- the check 6

module _ (c : List ℕ) (fit : Fitting c) where
  -- past the checks 3 to 5 the check 6 decides
  six_decides : (never : Bool) → never_sent c ≡ never → read_number c ≡ cond never 6 0
  six_decides never e =
      rw (le-ltb (length c) 12 fit.long, fit.first, eq-eqb (length c) (cond (has_data c) 16 12) fit.size, e)

  -- a byte that a test of its place, and of whether there is data, finds in no reply
  caught : (f : Bool → ℕ → Bool) (k : ℕ) → ((r : List ℕ) → Sound r → f (has_data r) (byte r k) ≡ false) → f (has_data c) (byte c k) ≡ true
      → NoReplyHas (byte c 0) k (byte c k)
  caught f k none found r reply first same =
      let z = sym (none r (sound r (reply_reads r reply))) ∙ ap₂ f (ap (λ (x : ℕ). eqb x 0x4a) first) same ∙ found in
      let w : ◌≡◌ {A = ℕ} 0 1 = ap (λ (b : Bool). cond b 1 0) z in
      absurd (omega (arith, w))

  abbrev Caught : Type 0
  Caught = (k : ℕ) × (k < length c) × NoReplyHas (byte c 0) k (byte c k)

  at : (f : Bool → ℕ → Bool) (k : ℕ) → k < 12 → ((r : List ℕ) → Sound r → f (has_data r) (byte r k) ≡ false) → f (has_data c) (byte c k) ≡ true → Caught
  at f k h none found = (k, omega (arith, fit.long), caught f k none found)

  not_found : (a b : ℕ) → a ≡ b → not (eqb a b) ≡ false
  not_found a b e = ap not (eq-eqb a b e)

  -- the first of the six tests that finds one
  find : (a b d e f g : Bool) → not (eqb (byte c 1) 0x00) ≡ a → not (eqb (byte c 2) 0x00) ≡ b → not (eqb (byte c 3) (cond (has_data c) 1 0)) ≡ d
      → other_status (has_data c) (byte c 6) ≡ e → not (eqb (byte c 7) 0x04) ≡ f → not (eqb (byte c 11) 0x00) ≡ g
      → (a || (b || (d || (e || (f || (g || false)))))) ≡ true → Caught
  find true b d e f g h1 h2 h3 h6 h7 h11 t = at (λ w x. not (eqb x 0x00)) 1 (omega arith) (λ r s. not_found _ _ s.one) h1
  find false true d e f g h1 h2 h3 h6 h7 h11 t = at (λ w x. not (eqb x 0x00)) 2 (omega arith) (λ r s. not_found _ _ s.two) h2
  find false false true e f g h1 h2 h3 h6 h7 h11 t = at (λ w x. not (eqb x (cond w 1 0))) 3 (omega arith) (λ r s. not_found _ _ s.three) h3
  find false false false true f g h1 h2 h3 h6 h7 h11 t = at other_status 6 (omega arith) (λ r s. s.six) h6
  find false false false false true g h1 h2 h3 h6 h7 h11 t = at (λ w x. not (eqb x 0x04)) 7 (omega arith) (λ r s. not_found _ _ s.seven) h7
  find false false false false false true h1 h2 h3 h6 h7 h11 t = at (λ w x. not (eqb x 0x00)) 11 (omega arith) (λ r s. not_found _ _ s.eleven) h11
  find false false false false false false h1 h2 h3 h6 h7 h11 t = let z : ◌≡◌ {A = ℕ} 0 1 = cc in absurd (omega arith)

  finds : (never : Bool) → never_sent c ≡ never → read_number c ≡ 6 → Caught
  finds true e n = find _ _ _ _ _ _ refl refl refl refl refl refl e
  finds false e n = absurd (omega (arith, sym n ∙ six_decides false e))

  refuses : Octets c → (never : Bool) → never_sent c ≡ never → Caught → read_number c ≡ 6
  refuses o true e k = six_decides true e
  refuses o false e k = absurd (k.2 c ((reads_exactly c o).0 (six_decides false e)) refl refl)

pub six_exactly : SixExactly
six_exactly c o fit = (finds c fit _ refl, refuses c fit o _ refl)
