-- Laws of routing, for the proofs of this crate: what leaves and what is written of it, and the number by the first check that applies. Assumes
-- nothing.
use Prim.Native.Nat.{ℕ, zero, suc, ◌+◌, ◌*◌, ◌≤◌, ◌<◌}
use mathlib.Core.Bool.{Bool, true, false, cond, ◌&&◌, true≢false}
use mathlib.Core.List.Memᴰ
use mathlib.Core.List.{List, [], ◌∷◌, ◌++◌}
use mathlib.Core.Logic.{◌⊎◌, ⊎_elim}
use mathlib.Core.Path.{◌≡◌, refl, sym, ap, ap₂, ◌∙◌, subst}
use native.Mathlib.Omega.{arith}
use lib.Bits.{bit_and}
use lib.Dec.{eqb}
use lib.ListN.{length, set, drop}
use borrow.Author.Tests.{eqb-true, lt-ltb, le-ltb, ltb-false}
use Rattle.answers.specs.declared.Refusal.TheVariants.{UnknownType}
use Rattle.answers.specs.Checks.{Check, first_that_applies}
use Rattle.answers.proofs.Checks.{Positive, none_applies}
use Rattle.words.specs.Bytes.{byte}
use Rattle.words.specs.Fields.{bit}
use Rattle.packet.specs.declared.Target.{Target}
use Rattle.packet.specs.declared.Target.TheVariants.{Type0, Type1, Trusted}
use Rattle.std.specs.Prelude.{Some, None, Ok, Err}
use Rattle.packet.specs.declared.Request.{Request}
use Rattle.packet.specs.Fields.{known, type_code, type_of, digest}
use Rattle.packet.specs.Request.{typed, unknown, writes_of, target_of, packet_checks, packet_number, request_of}
use Rattle.packet.proofs.Laws.{positive, whole_is}
use Rattle.ports.specs.declared.Exit.{Exit}
use Rattle.ports.specs.Choice.{Choice}
use Rattle.router.specs.declared.Verdict.TheVariants.{Leaves, Unsupported}
use Rattle.router.specs.Routing.{bus_of, target_in, is_type0, is_type1, is_bad, barred_at, router_checks, route_number, type0_code, as_type0, turns, leaving_by, leaves_by, refused, by_number, decide}
use Rattle.router.specs.Promise.{told, over, shows}
use Rattle.router.specs.Inner.{Ready, left, Faultless, passes_by, passes}

-- ---- a packet without a fault

pub known_type : (p : List ℕ) → packet_number p ≡ 0 → unknown (typed p) ≡ false
known_type p e = none_applies (packet_checks p) (positive p) e _ (Memᴰ.tail (Memᴰ.head refl))

pub whole_header : (p : List ℕ) → packet_number p ≡ 0 → 12 ≤ length p
whole_header p e = ltb-false (length p) 12 (none_applies (packet_checks p) (positive p) e _ (Memᴰ.head refl))

at_most : (writes : Bool) (d : ℕ) → d < 2 → 12 + cond writes 4 0 + 4 * d ≤ 20
at_most true d h = omega arith
at_most false d h = omega arith

-- "under 20 bytes it is 2": no packet is longer than 20
pub at_most_20 : (p : List ℕ) → packet_number p ≡ 0 → length p ≤ 20
at_most_20 p e = subst (λ (n : ℕ). n ≤ 20) (sym (whole_is p e)) (at_most (writes_of (typed p)) (digest (byte p 2)) (omega arith))

-- ---- the type codes of Type 1, and byte 0 as Type 0

pub type1_codes : (code : ℕ) → unknown (type_of code) ≡ false → target_of (type_of code) ≡ Type1 → (code ≡ 0x05) ⊎ (code ≡ 0x45)
unfolding type_of
type1_codes code = go (eqb code 0x04) (eqb code 0x44) (eqb code 0x05) (eqb code 0x45) (eqb code 0x1b) (eqb code 0x5b) refl refl
  where
    other : {X : Type 0} (t : Target) → is_type1 t ≡ false → t ≡ Type1 → X
    other t e f = absurd (true≢false (sym (ap is_type1 f) ∙ e))

    go : (a b c d e f : Bool) → eqb code 0x05 ≡ c → eqb code 0x45 ≡ d
        → unknown (cond a (known false Type0) (cond b (known true Type0) (cond c (known false Type1) (cond d (known true Type1) (cond e (known false Trusted) (cond f (known true Trusted) None)))))) ≡ false
        → target_of (cond a (known false Type0) (cond b (known true Type0) (cond c (known false Type1) (cond d (known true Type1) (cond e (known false Trusted) (cond f (known true Trusted) None)))))) ≡ Type1
        → (code ≡ 0x05) ⊎ (code ≡ 0x45)
    go true b c d e f g h u t = other Type0 refl t
    go false true c d e f g h u t = other Type0 refl t
    go false false true d e f g h u t = ◌⊎◌.inl (eqb-true code 0x05 g)
    go false false false true e f g h u t = ◌⊎◌.inr (eqb-true code 0x45 h)
    go false false false false true f g h u t = other Trusted refl t
    go false false false false false true g h u t = other Trusted refl t
    go false false false false false false g h u t = absurd (true≢false u)

-- clearing the lowest bit of byte 0 makes Type 0 of Type 1, and leaves bit 7
cleared : (first high code : ℕ) → first ≡ 128 * high + code → high < 2 → (code ≡ 0x05) ⊎ (code ≡ 0x45) → bit_and first 254 ≡ 128 * high + type0_code code
cleared first high code e h = ⊎_elim (λ k. with_code 0x05 k (read high h)) (λ k. with_code 0x45 k (write high h))
  where
    with_code : (c : ℕ) → code ≡ c → bit_and (128 * high + c) 254 ≡ 128 * high + type0_code c → bit_and first 254 ≡ 128 * high + type0_code code
    with_code c k f =
        ap (λ (x : ℕ). bit_and x 254) (e ∙ ap (λ (x : ℕ). 128 * high + x) k) ∙ f ∙ ap (λ (x : ℕ). 128 * high + type0_code x) (sym k)

    read : (high : ℕ) → high < 2 → bit_and (128 * high + 0x05) 254 ≡ 128 * high + 0x04
    read zero h = refl
    read (suc zero) h = refl
    read (suc (suc n)) h = absurd (omega arith)

    write : (high : ℕ) → high < 2 → bit_and (128 * high + 0x45) 254 ≡ 128 * high + 0x44
    write zero h = refl
    write (suc zero) h = refl
    write (suc (suc n)) h = absurd (omega arith)

turned_byte : (first : ℕ) → first < 256 → (type_code first ≡ 0x05) ⊎ (type_code first ≡ 0x45) → bit_and first 254 ≡ 128 * bit 7 first + type0_code (type_code first)
turned_byte first h c = cleared first (bit 7 first) (type_code first) (omega arith) (omega arith) c

pub turned_first : (p : List ℕ) → packet_number p ≡ 0 → target_in p ≡ Type1 → byte p 0 < 256
    → bit_and (byte p 0) 254 ≡ 128 * bit 7 (byte p 0) + type0_code (type_code (byte p 0))
turned_first p e t h = turned_byte (byte p 0) h (type1_codes (type_code (byte p 0)) (known_type p e) t)

-- ---- what is written

pub turned_over : (p buffer : List ℕ) → packet_number p ≡ 0 → target_in p ≡ Type1 → byte p 0 < 256 → set (over p buffer) 0 (bit_and (byte p 0) 254) ≡ over (as_type0 p) buffer
turned_over [] buffer e t h = absurd (omega (arith, whole_header [] e))
turned_over (first ∷ rest) buffer e t h = ap (λ (x : ℕ). x ∷ (rest ++ drop (suc (length rest)) buffer)) (turned_first (first ∷ rest) e t h)

pub length_as_type0 : (p : List ℕ) → length (as_type0 p) ≡ length p
length_as_type0 [] = refl
length_as_type0 (first ∷ rest) = refl

-- ---- a request past the checks 1 to 6

pub target_is : (p : List ℕ) (q : Request) → q ≡ request_of p → q.target ≡ target_in p
unfolding request_of
target_is p q e = ap (λ (r : Request). r.target) e

pub bus_is : (p : List ℕ) (q : Request) → q ≡ request_of p → q.bus ≡ bus_of p
unfolding request_of
bus_is p q e = ap (λ (r : Request). r.bus) e

is_type1_lem : (t : Target) (b : Bool) → is_type1 t && b ≡ true → t ≡ Type1
is_type1_lem Type0 b e = absurd (true≢false (sym e))
is_type1_lem Type1 b e = refl
is_type1_lem Trusted b e = absurd (true≢false (sym e))

module _ (exit : Exit) (p : List ℕ) (q : Request) (buffer : List ℕ) (faultless : Faultless p q buffer) where
  pub ready : (turned : Bool) → turned ≡ turns q.target q.bus exit.port → Ready p turned buffer
  ready turned t =
      record {
        long = whole_header p faultless.number;
        fits = omega (arith, at_most_20 p faultless.number, faultless.room);
        type1 = λ e. sym (target_is p q faultless.request) ∙ is_type1_lem q.target (eqb q.bus exit.port.secondary) (sym t ∙ e);
        faultless = faultless.number;
      }

  pub barred_shows : barred_at exit.port q.target ≡ true → told (Err UnknownType) buffer ≡ shows (passes_by exit p) buffer
  unfolding shows
  barred_shows e = rw (ap (barred_at exit.port) (sym (target_is p q faultless.request)) ∙ e)

  leaving_length : (turned : Bool) → length (cond turned (as_type0 p) p) ≡ length p
  leaving_length true = length_as_type0 p
  leaving_length false = refl

  pub leaves_shows : (turned : Bool) (after : List ℕ) → barred_at exit.port q.target ≡ false → turned ≡ turns q.target q.bus exit.port → after ≡ left turned p buffer
      → told (Ok (Leaves exit.place (length p))) after ≡ shows (passes_by exit p) buffer
  unfolding shows leaving_by
  leaves_shows turned after e t a =
      let f = ap (barred_at exit.port) (sym (target_is p q faultless.request)) ∙ e in
      let u : turned ≡ turns (target_in p) (bus_of p) exit.port = t ∙ ap₂ (λ (x : Target) (y : ℕ). turns x y exit.port) (target_is p q faultless.request) (bus_is p q faultless.request) in
      rw (f, sym u, a, leaving_length turned)

-- the ways past Type 0, and Type 0 itself
module _ (p : List ℕ) (q : Request) (buffer : List ℕ) (faultless : Faultless p q buffer) where
  pub type0_shows : (c : Choice) → is_type0 q.target ≡ true → told (Err UnknownType) buffer ≡ shows (passes c p) buffer
  unfolding shows
  type0_shows c e = rw (ap is_type0 (sym (target_is p q faultless.request)) ∙ e)

  pub nowhere_shows : is_type0 q.target ≡ false → told (Ok Unsupported) buffer ≡ shows (passes (Ok None) p) buffer
  unfolding shows
  nowhere_shows e = rw (ap is_type0 (sym (target_is p q faultless.request)) ∙ e)

  by_barred : (b : Bool) (exit : Exit) → by_number (cond b 4 0) (Ok (Some exit)) p ≡ cond b (refused 4) (leaves_by exit.place (leaving_by exit.port p))
  by_barred true exit = refl
  by_barred false exit = refl

  pub at_passes : (exit : Exit) → is_type0 q.target ≡ false → passes (Ok (Some exit)) p ≡ passes_by exit p
  at_passes exit e = rw (ap is_type0 (sym (target_is p q faultless.request)) ∙ e) (by_barred (barred_at exit.port (target_in p)) exit)

-- ---- the checks 1 to 6

-- a list of checks and another: the first that applies is in the one, or none there does and it is the other's
first_of : (cs ds : List Check) → (first_that_applies cs ≡ 0 → ⊥) → first_that_applies (cs ++ ds) ≡ first_that_applies cs
first_of [] ds h = absurd (h refl)
first_of (x ∷ cs) ds h = go x.applies h (first_of cs ds)
  where
    go : (b : Bool) → (cond b x.number (first_that_applies cs) ≡ 0 → ⊥) → ((first_that_applies cs ≡ 0 → ⊥) → first_that_applies (cs ++ ds) ≡ first_that_applies cs)
        → cond b x.number (first_that_applies (cs ++ ds)) ≡ cond b x.number (first_that_applies cs)
    go true h rest = refl
    go false h rest = rest h

none_of : (cs ds : List Check) → Positive cs → first_that_applies cs ≡ 0 → first_that_applies (cs ++ ds) ≡ first_that_applies ds
none_of [] ds z e = refl
none_of (x ∷ cs) ds z e = go x.applies e (none_of cs ds z.1)
  where
    go : (b : Bool) → cond b x.number (first_that_applies cs) ≡ 0 → (first_that_applies cs ≡ 0 → first_that_applies (cs ++ ds) ≡ first_that_applies ds)
        → cond b x.number (first_that_applies (cs ++ ds)) ≡ first_that_applies ds
    go true e rest = absurd (omega (arith, z.0))
    go false e rest = rest e

refused_is : (n : ℕ) (c : Choice) (p : List ℕ) → (n ≡ 0 → ⊥) → by_number n c p ≡ refused n
refused_is zero c p h = absurd (h refl)
refused_is (suc n) c p h = refl

pub refused_shows : (c : Choice) (p buffer : List ℕ) (n : ℕ) → (n ≡ 0 → ⊥) → route_number c p (length buffer) ≡ n
    → record { number = n; leaves = false; port = 0; count = 0; buffer = buffer } ≡ shows (decide c p (length buffer)) buffer
unfolding shows decide
refused_shows c p buffer n h e = rw (e, refused_is n c p h)

module _ (c : Choice) (p : List ℕ) (size : ℕ) where
  pub bad_number : is_bad c ≡ true → route_number c p size ≡ 1
  bad_number e = rw e

  pub room_number : is_bad c ≡ false → size < 20 → route_number c p size ≡ 2
  room_number e h = rw (e, lt-ltb size 20 h)

  past : is_bad c ≡ false → 20 ≤ size → route_number c p size ≡ first_that_applies (packet_checks p ++ router_checks c p)
  past e h = rw (e, le-ltb size 20 h)

  pub packet_number_lem : is_bad c ≡ false → 20 ≤ size → (packet_number p ≡ 0 → ⊥) → route_number c p size ≡ packet_number p
  packet_number_lem e h f = past e h ∙ first_of (packet_checks p) (router_checks c p) f

  pub router_number : is_bad c ≡ false → 20 ≤ size → packet_number p ≡ 0 → route_number c p size ≡ first_that_applies (router_checks c p)
  router_number e h f = past e h ∙ none_of (packet_checks p) (router_checks c p) (positive p) f

  pub passes_decides : is_bad c ≡ false → 20 ≤ size → packet_number p ≡ 0 → decide c p size ≡ passes c p
  unfolding decide
  passes_decides e h f = ap (λ (n : ℕ). by_number n c p) (router_number e h f)
