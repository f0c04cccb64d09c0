-- THEOREMS. The first check that applies, as document 01 speaks of numbers: 0 exactly if no check applies, and any other number is that of
-- a check that applies, before which none does. Where the numbers rise along the list, no check with a lower number applies: "the lowest
-- applicable number is given". Assumes nothing.
use Prim.Native.Nat.{ℕ, zero, suc, ◌≤◌}
use mathlib.Core.Bool.{Bool, true, false, cond}
use mathlib.Core.List.Memᴰ
use mathlib.Core.List.{List, [], ◌∷◌, ◌++◌, map, Memᴰ}
use mathlib.Core.Logic.{◌↔◌, ⊎_elim}
use mathlib.Core.Path.{◌≡◌, refl, sym, ap, ◌∙◌, subst}
use native.Mathlib.Nat.{le_of_eq}
use native.Mathlib.Omega.{arith}
use Rattle.answers.specs.Checks.{Check, first_that_applies, any}

-- none of the checks applies
abbrev pub NoneApplies : List Check → Type 0
NoneApplies cs = (c : Check) → Memᴰ c cs → c.applies ≡ false

-- the check that counts: it has this number and applies, and none before it does
pub record Counts (cs : List Check) (n : ℕ) : Type 0 where
  pub before : List Check
  pub check : Check
  pub behind : List Check
  pub stands : cs ≡ before ++ check ∷ behind
  pub passed : NoneApplies before
  pub applies : check.applies ≡ true
  pub given : check.number ≡ n

-- the number of the first check that applies
pub record First (cs : List Check) (n : ℕ) : Type 0 where
  pub none : (n ≡ 0) ↔ NoneApplies cs
  pub first : (n ≡ 0 → ⊥) → Counts cs n

-- "the lowest applicable number"
pub record Lowest (cs : List Check) (n : ℕ) : Type 0 where
  pub none : (n ≡ 0) ↔ NoneApplies cs
  pub some : (n ≡ 0 → ⊥) → (c : Check) × Memᴰ c cs × (c.applies ≡ true) × (c.number ≡ n)
  pub lowest : (c : Check) → Memᴰ c cs → c.applies ≡ true → n ≤ c.number

-- the numbers of the checks are not 0
abbrev pub Positive : List Check → Type 0
Positive [] = Unit {0}
Positive (c ∷ cs) = (1 ≤ c.number) × Positive cs

-- the numbers rise along the list
abbrev pub AtMost : ℕ → List Check → Type 0
AtMost n [] = Unit {0}
AtMost n (c ∷ cs) = (n ≤ c.number) × AtMost n cs

abbrev pub Rising : List Check → Type 0
Rising [] = Unit {0}
Rising (c ∷ cs) = AtMost c.number cs × Rising cs

-- the statements; the last, for any numbers: 0 or one of the list's
abbrev pub GivesFirst : Type 0
GivesFirst = (cs : List Check) → Positive cs → First cs (first_that_applies cs)

abbrev pub GivesLowest : Type 0
GivesLowest = (cs : List Check) → Positive cs → Rising cs → Lowest cs (first_that_applies cs)

abbrev pub GivesOneOf : Type 0
GivesOneOf = (cs : List Check) → Memᴰ (first_that_applies cs) (0 ∷ map (λ c. c.number) cs)

-- and neither leaves a choice: there is one first number, and one lowest
abbrev pub FirstUnique : Type 0
FirstUnique = (cs : List Check) (m n : ℕ) → First cs m → First cs n → m ≡ n

abbrev pub LowestUnique : Type 0
LowestUnique = (cs : List Check) (m n : ℕ) → Lowest cs m → Lowest cs n → m ≡ n

-- ---- 0 exactly if none applies

none_here : (applies : Bool) (number rest : ℕ) → 1 ≤ number → cond applies number rest ≡ 0 → (applies ≡ false) × (rest ≡ 0)
none_here true number rest h e = absurd (omega arith)
none_here false number rest h e = (refl, e)

pub none_applies : (cs : List Check) → Positive cs → first_that_applies cs ≡ 0 → NoneApplies cs
none_applies [] p e c m = elim m [ ]
none_applies (x ∷ cs) p e c (Memᴰ.head q) =
    ap (λ (y : Check). y.applies) q ∙ (none_here x.applies x.number (first_that_applies cs) p.0 e).0
none_applies (x ∷ cs) p e c (Memᴰ.tail m) =
    none_applies cs p.1 (none_here x.applies x.number (first_that_applies cs) p.0 e).1 c m

gives_none : (cs : List Check) → NoneApplies cs → first_that_applies cs ≡ 0
gives_none [] n = refl
gives_none (x ∷ cs) n = rw (n x (Memᴰ.head refl)) (gives_none cs (λ c m. n c (Memᴰ.tail m)))

-- ---- the check that counts

counts_later : (x : Check) (cs : List Check) (n : ℕ) → x.applies ≡ false → Counts cs n → Counts (x ∷ cs) n
counts_later x cs n e k =
    record {
      before = x ∷ k.before;
      check = k.check;
      behind = k.behind;
      stands = ap (λ (l : List Check). x ∷ l) k.stands;
      passed = λ c m. ⊎_elim (λ q. ap (λ (y : Check). y.applies) q ∙ e) (k.passed c) (Memᴰ.cases_cons m);
      applies = k.applies;
      given = k.given;
    }

counts : (cs : List Check) → (first_that_applies cs ≡ 0 → ⊥) → Counts cs (first_that_applies cs)
counts [] h = absurd (h refl)
counts (x ∷ cs) h = go x.applies refl h (counts cs)
  where
    go : (b : Bool) → x.applies ≡ b → (cond b x.number (first_that_applies cs) ≡ 0 → ⊥)
        → ((first_that_applies cs ≡ 0 → ⊥) → Counts cs (first_that_applies cs)) → Counts (x ∷ cs) (cond b x.number (first_that_applies cs))
    go true e h rest =
        record {
          before = [];
          check = x;
          behind = cs;
          stands = refl;
          passed = λ c m. absurd (Memᴰ.not-nil m);
          applies = e;
          given = refl;
        }
    go false e h rest = counts_later x cs (first_that_applies cs) e (rest h)

pub gives_first : GivesFirst
gives_first cs p = record { none = (none_applies cs p, gives_none cs); first = counts cs }

-- ---- the lowest

below : (n : ℕ) (cs : List Check) → AtMost n cs → {c : Check} → Memᴰ c cs → n ≤ c.number
below n [] a m = elim m [ ]
below n (x ∷ cs) a (Memᴰ.head e) = subst (λ (y : Check). n ≤ y.number) (sym e) a.0
below n (x ∷ cs) a (Memᴰ.tail m) = below n cs a.1 m

first_lowest : (applies : Bool) (number rest most : ℕ) → number ≤ most → rest ≤ most → cond applies number rest ≤ most
first_lowest true number rest most h k = h
first_lowest false number rest most h k = k

lowest : (cs : List Check) → Rising cs → (c : Check) → Memᴰ c cs → c.applies ≡ true → first_that_applies cs ≤ c.number
lowest [] r c m t = elim m [ ]
lowest (x ∷ cs) r c (Memᴰ.head e) t =
    rw (ap (λ (y : Check). y.applies) (sym e) ∙ t) (le_of_eq (ap (λ (y : Check). y.number) (sym e)))
lowest (x ∷ cs) r c (Memᴰ.tail m) t =
    first_lowest x.applies x.number (first_that_applies cs) c.number (below x.number cs r.0 m) (lowest cs r.1 c m t)

among : (before : List Check) (c : Check) (behind : List Check) → Memᴰ c (before ++ c ∷ behind)
among [] c behind = Memᴰ.head refl
among (x ∷ before) c behind = Memᴰ.tail (among before c behind)

pub gives_lowest : GivesLowest
gives_lowest cs p r =
    let f = gives_first cs p in
    record {
      none = f.none;
      some = λ h.
          let k = f.first h in
          (k.check, subst (λ (l : List Check). Memᴰ k.check l) (sym k.stands) (among k.before k.check k.behind), k.applies, k.given);
      lowest = lowest cs r;
    }

-- ---- one of the numbers

one_later : (applies : Bool) (number n : ℕ) (numbers : List ℕ) → Memᴰ n (0 ∷ numbers)
    → Memᴰ (cond applies number n) (0 ∷ number ∷ numbers)
one_later true number n numbers m = Memᴰ.tail (Memᴰ.head refl)
one_later false number n numbers (Memᴰ.head e) = Memᴰ.head e
one_later false number n numbers (Memᴰ.tail m) = Memᴰ.tail (Memᴰ.tail m)

pub gives_one_of : GivesOneOf
gives_one_of [] = Memᴰ.head refl
gives_one_of (x ∷ cs) = one_later x.applies x.number (first_that_applies cs) (map (λ c. c.number) cs) (gives_one_of cs)

-- ---- one number only

found_first : (before : List Check) (c : Check) (behind : List Check) → NoneApplies before → c.applies ≡ true
    → first_that_applies (before ++ c ∷ behind) ≡ c.number
found_first [] c behind none e = rw e
found_first (x ∷ before) c behind none e =
    rw (none x (Memᴰ.head refl)) (found_first before c behind (λ y m. none y (Memᴰ.tail m)) e)

is_first : (cs : List Check) (n : ℕ) → First cs n → n ≡ first_that_applies cs
is_first cs zero f = sym (gives_none cs (f.none.0 refl))
is_first cs (suc n) f =
    let k = f.first (λ e. omega arith) in
    sym (ap first_that_applies k.stands ∙ found_first k.before k.check k.behind k.passed k.applies ∙ k.given)

pub first_unique : FirstUnique
first_unique cs m n a b = is_first cs m a ∙ sym (is_first cs n b)

at_most : (cs : List Check) (m n : ℕ) → Lowest cs m → Lowest cs n → (n ≡ 0 → ⊥) → m ≤ n
at_most cs m n a b h = let s = b.some h in subst (λ (k : ℕ). m ≤ k) s.3 (a.lowest s.0 s.1 s.2)

pub lowest_unique : LowestUnique
lowest_unique cs zero zero a b = refl
lowest_unique cs zero (suc n) a b = sym (b.none.1 (a.none.0 refl))
lowest_unique cs (suc m) zero a b = a.none.1 (b.none.0 refl)
lowest_unique cs (suc m) (suc n) a b =
    let h = at_most cs (suc m) (suc n) a b (λ e. omega arith) in
    let k = at_most cs (suc n) (suc m) b a (λ e. omega arith) in
    omega arith

-- ---- where one of several causes would do, and none of them is there

abbrev pub NoneOf : List Bool → Type 0
NoneOf [] = Unit {0}
NoneOf (cause ∷ causes) = (cause ≡ false) × NoneOf causes

pub none_of : (causes : List Bool) → any causes ≡ false → NoneOf causes
none_of [] e = tt
none_of (true ∷ causes) e = let z : ◌≡◌ {A = ℕ} 0 1 = cc in absurd (omega arith)
none_of (false ∷ causes) e = (refl, none_of causes e)
