-- Every completion that reads back is one that some board gives: a well-described board of real bytes and a packet for each, with any completer ID, any
-- requester ID, any tag and any data. Assumes nothing.
use Prim.Native.Nat.{ℕ, zero, suc, ◌<◌}
use mathlib.Core.Bool.{false}
use mathlib.Core.List.{List, [], ◌∷◌}
use mathlib.Core.Path.{◌≡◌, refl, ap, ap₂, ◌∙◌}
use native.Mathlib.Nat.{zero-lt-suc}
use native.Mathlib.Omega.{arith}
use lib.ListN.{length, replicate, length-replicate}
use borrow.Author.Tests.{eq-eqb, le-ltb}
use Rattle.words.specs.Bytes.{byte, four}
use Rattle.words.specs.Places.{placed}
use Rattle.packet.specs.declared.Id.{Id}
use Rattle.packet.specs.declared.Status.TheVariants.{Success, Unsupported}
use Rattle.packet.specs.Fields.{type_of, device_of, function_of, data_of}
use Rattle.packet.specs.Request.{packet_number, request_of}
use Rattle.packet.specs.Completion.{with_data, without_data}
use Rattle.capture.specs.declared.Capture.TheVariants.{Number}
use Rattle.capture.specs.Kept.{completer}
use Rattle.capture.proofs.Laws.{completer_exact}
use Rattle.circle.specs.Plain.{Octets}
use Rattle.board.specs.Description.{Board, doubly_marked, badly_described, WellDescribed}
use Rattle.board.specs.Access.{unsupported, after_write}
use Rattle.board.specs.Serving.{Outcome, respond, serve}
use Rattle.board.specs.Promise.{space_of}
use Rattle.board.proofs.Laws.{unsupported_type0, unsupported_type1}
use Rattle.board.proofs.Outcomes.{respond_unsupported, respond_write, respond_read, served_is}
use Rattle.board.proofs.Whole.{read_whole}
use Rattle.circle.specs.Replies.{Reply}

-- ---- real bytes

abbrev pub AllBytes : List ℕ → Type 0
AllBytes [] = Unit {0}
AllBytes (x ∷ s) = (x < 256) × AllBytes s

pub octets : (s : List ℕ) → AllBytes s → Octets s
octets [] b k = zero-lt-suc 255
octets (x ∷ s) b zero = b.0
octets (x ∷ s) b (suc k) = octets s b.1 k

zeros_all : (n : ℕ) → AllBytes (replicate n 0)
zeros_all zero = tt
zeros_all (suc n) = (omega arith, zeros_all n)

-- ---- a board that has captured a completer ID's bus and device, has its function, and holds four bytes at 000h

zeros : List ℕ
zeros = replicate 4096 0

holding : List ℕ → List ℕ
holding new = byte new 0 ∷ byte new 1 ∷ byte new 2 ∷ byte new 3 ∷ replicate 4092 0

abbrev board_of : ℕ → ℕ → List ℕ → Board
board_of high low new =
    record {
      description = record { function = function_of low; a = 0x104; b = 0x00c; edition = 1 };
      capture = Number high (device_of low);
      ordinary = space_of (holding new) zeros zeros;
      trusted = space_of zeros zeros zeros;
    }

zeros_length : length zeros ≡ 4096
unfolding zeros
zeros_length = length-replicate {A = ℕ} 4096 0

holding_length : (new : List ℕ) → length (holding new) ≡ 4096
unfolding holding
holding_length new = ap (λ (n : ℕ). suc (suc (suc (suc n)))) (length-replicate {A = ℕ} 4092 0)

zeros_once : doubly_marked zeros zeros ≡ false
unfolding zeros doubly_marked
zeros_once = refl

board_well : (high low : ℕ) (new : List ℕ) → WellDescribed (board_of high low new)
unfolding placed badly_described
board_well high low new =
    rw (holding_length new, zeros_length, le-ltb 31 (device_of low) (omega arith), le-ltb 7 (function_of low) (omega arith), zeros_once)

-- its completer ID
completer_given : (high low : ℕ) → low < 256 → completer (Number high (device_of low)) (function_of low) ≡ record { high = high; low = low }
completer_given high low h =
    completer_exact high (device_of low) (function_of low) (omega arith) (omega arith)
    ∙ ap (λ (l : ℕ). record { high = high; low = l }) (omega arith)

-- ---- a packet of a type, for a completer's number, with any requester and tag; the data of a write is zeros

abbrev packet_for : ℕ → ℕ → ℕ → Id → ℕ → List ℕ → List ℕ
packet_for kind high low requester tag rest =
    kind ∷ 0 ∷ 0 ∷ 1 ∷ requester.high ∷ requester.low ∷ tag ∷ 15 ∷ high ∷ low ∷ 0 ∷ 0 ∷ rest

packet_octets : (kind high low : ℕ) (requester : Id) (tag : ℕ) (rest : List ℕ) → kind < 256 → high < 256 → low < 256 → requester.high < 256
    → requester.low < 256 → tag < 256 → AllBytes rest → Octets (packet_for kind high low requester tag rest)
packet_octets kind high low requester tag rest a b c d e f o =
    octets (packet_for kind high low requester tag rest)
    (a, (omega arith, (omega arith, (omega arith, (d, (e, (f, (omega arith, (b, (c, (omega arith, (omega arith, o))))))))))))

-- ---- what the board replies

reply : List ℕ
reply = replicate 16 0

module _ (high low : ℕ) (requester : Id) (tag : ℕ) (new : List ℕ) (h : high < 256) (l : low < 256) (rh : requester.high < 256)
    (rl : requester.low < 256) (t : tag < 256) (o : Octets new) where
  abbrev d : Board
  d = board_of high low new

  abbrev completer_id : Id
  completer_id = record { high = high; low = low }

  -- any such packet that is answered with some bytes
  given : (p c : List ℕ) → Octets p → packet_number p ≡ 0 → (respond d (request_of p) (data_of p)).number ≡ 0
      → (respond d (request_of p) (data_of p)).written ≡ c → Reply c
  unfolding zeros holding reply
  given p c bytes n number written =
      let s : serve d p 16 ≡ respond d (request_of p) (data_of p) = served_is d p reply (board_well high low new) (omega arith) n in
      record {
        board = d;
        packet = p;
        size = 16;
        well = board_well high low new;
        ordinary = (octets (holding new) (o 0, (o 1, (o 2, (o 3, zeros_all 4092)))), octets zeros (zeros_all 4096), octets zeros (zeros_all 4096));
        trusted = (octets zeros (zeros_all 4096), octets zeros (zeros_all 4096), octets zeros (zeros_all 4096));
        captured = h;
        packet_bytes = bytes;
        served = ap (λ (x : Outcome). x.number) s ∙ number;
        written = ap (λ (x : Outcome). x.written) s ∙ written;
      }

  -- a Type 0 read at 000h, of all four bytes
  abbrev read : List ℕ
  read = packet_for 0x04 high low requester tag []

  pub gives_data : Reply (with_data completer_id requester tag (four new 0))
  unfolding request_of type_of holding
  gives_data =
      let q = request_of read in
      let u : unsupported d.description d.capture q ≡ false = unsupported_type0 d.description d.capture q refl refl ∙ rw (eq-eqb (function_of low) (function_of low) refl) in
      let r = respond_read d q (data_of read) u refl in
      given read _ (packet_octets 0x04 high low requester tag [] (omega arith) h l rh rl t tt) refl
      (ap (λ (x : Outcome). x.number) r)
      (ap (λ (x : Outcome). x.written) r ∙ ap₂ (λ (id : Id) (word : List ℕ). with_data id requester tag word) (completer_given high low l) (read_whole d q))

  -- a Type 0 write there
  abbrev write : List ℕ
  write = packet_for 0x44 high low requester tag (0 ∷ 0 ∷ 0 ∷ 0 ∷ [])

  pub gives_done : Reply (without_data completer_id Success requester tag)
  unfolding request_of type_of after_write
  gives_done =
      let q = request_of write in
      let u : unsupported d.description d.capture q ≡ false = unsupported_type0 d.description d.capture q refl refl ∙ rw (eq-eqb (function_of low) (function_of low) refl) in
      let r = respond_write d q (data_of write) u refl in
      given write _ (packet_octets 0x44 high low requester tag (0 ∷ 0 ∷ 0 ∷ 0 ∷ []) (omega arith) h l rh rl t (zeros_all 4)) refl
      (ap (λ (x : Outcome). x.number) r)
      (ap (λ (x : Outcome). x.written) r ∙ ap (λ (id : Id). without_data id Success requester tag) (completer_given high low l))

  -- a Type 1 read
  abbrev other : List ℕ
  other = packet_for 0x05 high low requester tag []

  pub gives_unsupported : Reply (without_data completer_id Unsupported requester tag)
  unfolding request_of type_of
  gives_unsupported =
      let q = request_of other in
      let r = respond_unsupported d q (data_of other) (unsupported_type1 d.description d.capture q refl) in
      given other _ (packet_octets 0x05 high low requester tag [] (omega arith) h l rh rl t tt) refl
      (ap (λ (x : Outcome). x.number) r)
      (ap (λ (x : Outcome). x.written) r ∙ ap (λ (id : Id). without_data id Unsupported requester tag) (completer_given high low l))
