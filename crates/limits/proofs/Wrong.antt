-- THEOREM. No server with one of the faults of specs/Servers.antt meets the promise of `Board::serve`, whatever else it does: for each fault, and for either space where the
-- fault can be in both, the board and the packets that show it. Assumes nothing.
use Prim.Native.Nat.{ℕ}
use mathlib.Core.Bool.{Bool, true, false}
use mathlib.Core.List.{List, [], ◌∷◌}
use mathlib.Core.Path.{◌≡◌, refl, sym, ap, ◌∙◌}
use native.Mathlib.Omega.{arith}
use lib.ListN.{get_or}
use Rattle.words.specs.Bytes.{byte}
use Rattle.words.specs.Fields.{bit}
use Rattle.capture.specs.declared.Capture.TheVariants.{Nothing, Number}
use Rattle.board.specs.Description.{Board, WellDescribed}
use Rattle.board.specs.Promise.{Seen}
use Rattle.board.proofs.Computing.{computing}
use Rattle.runs.specs.Bench.{holding, bench_description}
use Rattle.runs.specs.Servers.{Server, untouched, RightAt, completion, Remembering, board_after, seen_over, promised_over}
use Rattle.limits.specs.Servers.{FlipsMarked, CompletesFirst, ZeroesDisabled, RepliesFromMemory, StoresNotAgain, RefusesAgain, UnsupportedAgain}
use Rattle.limits.proofs.Examples.{fresh, ready, space, read, write, rewrite}

-- 55h at 005h of both spaces
abbrev pub holding5 : Board
holding5 =
    record {
      description = bench_description;
      capture = Number 0x05 0x03;
      ordinary = space (holding 0x005 (0x55 ∷ []));
      trusted = space (holding 0x005 (0x55 ∷ []));
    }

-- a write of the first of four bytes: by its type and its place
abbrev pub first : Bool → ℕ → List ℕ
first true eleven = write 0x5b 0x05 0x18 eleven 0x01
first false eleven = write 0x44 0x05 0x18 eleven 0x01

-- a write of four bytes at 004h, and one of other data
abbrev pub p : List ℕ
p = write 0x44 0x05 0x18 0x04 0x0f

abbrev pub newer : List ℕ
newer = rewrite 0x44 0x05 0x18 0x04 0x0f

abbrev pub read_there : List ℕ
read_there = read 0x04 0x00 0x04

-- the statements, of any server
pub record WrongServersCaught : Type 1 where
  pub boards : WellDescribed fresh × WellDescribed ready × WellDescribed holding5
  -- a write to a marked bit that is 0 already, as a repeat is
  pub flips : (trusted : Bool) (server : Server) → FlipsMarked trusted server → RightAt server ready (first trusted 0x08) → ⊥
  -- the first write to a fresh board
  pub completes : (server : Server) → CompletesFirst server → RightAt server fresh p → ⊥
  -- a write of one byte beside another
  pub zeroes : (trusted : Bool) (server : Server) → ZeroesDisabled trusted server → RightAt server holding5 (first trusted 0x04) → ⊥
  -- over a sequence: a read, a write there, and the read again
  pub replies : (m : Remembering) → RepliesFromMemory m
      → seen_over m m.start ready (read_there ∷ p ∷ read_there ∷ []) ≡ promised_over ready (read_there ∷ p ∷ read_there ∷ []) → ⊥
  -- a write, a newer one there, and the first again
  pub stores : (m : Remembering) → StoresNotAgain m → seen_over m m.start ready (p ∷ newer ∷ p ∷ []) ≡ promised_over ready (p ∷ newer ∷ p ∷ []) → ⊥
  -- a write twice
  pub refuses : (m : Remembering) → RefusesAgain m → seen_over m m.start ready (p ∷ p ∷ []) ≡ promised_over ready (p ∷ p ∷ []) → ⊥
  pub unsupported : (m : Remembering) → UnsupportedAgain m → seen_over m m.start ready (p ∷ p ∷ []) ≡ promised_over ready (p ∷ p ∷ []) → ⊥

-- ---- what tells two sights apart

nothing : Seen
nothing = record { number = 0; count = 0; capture = Nothing; ordinary = []; trusted = []; reply = [] }

nth : ℕ → List Seen → Seen
nth n xs = get_or xs n nothing

shown_byte : Seen → ℕ
shown_byte x = byte (completion x) 12

flips_caught : (trusted : Bool) (server : Server) → FlipsMarked trusted server → RightAt server ready (first trusted 0x08) → ⊥
unfolding computing
flips_caught false server flips right =
    let k = flips ready (first false 0x08) untouched (record { kind = refl; target = refl; supported = refl; away = λ t e. omega (arith, e) }) (ap (λ (x : Seen). x.number) right) 0 0
    (omega arith, omega arith, refl) refl refl refl in
    omega (arith, sym k ∙ ap (λ (x : Seen). bit 0 (byte x.ordinary 0x008)) right)
flips_caught true server flips right =
    let k = flips ready (first true 0x08) untouched (record { kind = refl; target = refl; supported = refl; away = λ t e. omega (arith, e) }) (ap (λ (x : Seen). x.number) right) 0 0
    (omega arith, omega arith, refl) refl refl refl in
    omega (arith, sym k ∙ ap (λ (x : Seen). bit 0 (byte x.trusted 0x008)) right)

completes_caught : (server : Server) → CompletesFirst server → RightAt server fresh p → ⊥
unfolding computing
completes_caught server completes right =
    let k = completes fresh p untouched (record { writes = refl; own = refl; for = refl; poison = refl }) (ap (λ (x : Seen). x.number) right) in
    omega (arith, sym k.0 ∙ ap (λ (x : Seen). byte (completion x) 4) right)

zeroes_caught : (trusted : Bool) (server : Server) → ZeroesDisabled trusted server → RightAt server holding5 (first trusted 0x04) → ⊥
unfolding computing
zeroes_caught false server zeroes right =
    let k = zeroes holding5 (first false 0x04) untouched (record { kind = refl; target = refl; supported = refl; away = λ t e. omega (arith, e) }) (ap (λ (x : Seen). x.number) right) 1
    (omega arith) refl in
    omega (arith, sym k ∙ ap (λ (x : Seen). byte x.ordinary 0x005) right)
zeroes_caught true server zeroes right =
    let k = zeroes holding5 (first true 0x04) untouched (record { kind = refl; target = refl; supported = refl; away = λ t e. omega (arith, e) }) (ap (λ (x : Seen). x.number) right) 1
    (omega arith) refl in
    omega (arith, sym k ∙ ap (λ (x : Seen). byte x.trusted 0x005) right)

-- ---- with a memory

module _ (m : Remembering) where
  abbrev one : Board → List ℕ → Seen
  one d a = m.answers m.start d a untouched

  abbrev held1 : Board → List ℕ → Board
  held1 d a = board_after d (one d a)

  abbrev two : Board → List ℕ → List ℕ → Seen
  two d a b = m.answers (m.remembers m.start d a untouched) (held1 d a) b untouched

  replies_caught : RepliesFromMemory m
      → seen_over m m.start ready (read_there ∷ p ∷ read_there ∷ []) ≡ promised_over ready (read_there ∷ p ∷ read_there ∷ []) → ⊥
  unfolding computing nothing nth shown_byte
  replies_caught from right =
      let e = held1 ready read_there in
      let k = from ready e (board_after e (two ready read_there p)) read_there p untouched refl (ap (λ (xs : List Seen). (nth 0 xs).number) right) in
      omega (arith, sym (ap (λ (xs : List Seen). shown_byte (nth 2 xs)) right) ∙ ap (λ (c : List ℕ). byte c 12) k ∙ ap (λ (xs : List Seen). shown_byte (nth 0 xs)) right)

  stores_caught : StoresNotAgain m → seen_over m m.start ready (p ∷ newer ∷ p ∷ []) ≡ promised_over ready (p ∷ newer ∷ p ∷ []) → ⊥
  unfolding computing nothing nth
  stores_caught keeps right =
      let e = held1 ready p in
      let k = keeps ready e (board_after e (two ready p newer)) p newer untouched refl (ap (λ (xs : List Seen). (nth 0 xs).number) right) in
      omega (
        arith,
        sym (ap (λ (xs : List Seen). byte (nth 2 xs).ordinary 0x004) right) ∙ ap (λ (l : List ℕ). byte l 0x004) k
            ∙ ap (λ (xs : List Seen). byte (nth 1 xs).ordinary 0x004) right,
      )

  refuses_caught : RefusesAgain m → seen_over m m.start ready (p ∷ p ∷ []) ≡ promised_over ready (p ∷ p ∷ []) → ⊥
  unfolding computing nothing nth
  refuses_caught refuses right =
      refuses ready (held1 ready p) p untouched refl (ap (λ (xs : List Seen). (nth 0 xs).number) right) (ap (λ (xs : List Seen). (nth 1 xs).number) right)

  unsupported_caught : UnsupportedAgain m → seen_over m m.start ready (p ∷ p ∷ []) ≡ promised_over ready (p ∷ p ∷ []) → ⊥
  unfolding computing nothing nth
  unsupported_caught answers right =
      let k = answers ready (held1 ready p) p untouched refl (ap (λ (xs : List Seen). (nth 0 xs).number) right) in
      omega (arith, sym k ∙ ap (λ (xs : List Seen). byte (completion (nth 1 xs)) 6) right)

well_fresh : WellDescribed fresh
unfolding computing
well_fresh = refl

well_ready : WellDescribed ready
unfolding computing
well_ready = refl

well_holding5 : WellDescribed holding5
unfolding computing
well_holding5 = refl

pub wrong_servers_caught : WrongServersCaught
wrong_servers_caught =
    record {
      boards = (well_fresh, well_ready, well_holding5);
      flips = flips_caught;
      completes = completes_caught;
      zeroes = zeroes_caught;
      replies = replies_caught;
      stores = stores_caught;
      refuses = refuses_caught;
      unsupported = unsupported_caught;
    }
