-- What `retry` says of two writes is said of something: its premises are met, and both writes leave their part. With marked bits in either space, at A, under edition 2, at the
-- alternate function, and of Type 1 packets that a switch turns into Type 0. Computed. Assumes nothing.
use Prim.Native.Nat.{ℕ}
use mathlib.Core.List.{List, [], ◌∷◌}
use mathlib.Core.Path.{◌≡◌, refl}
use native.Mathlib.Omega.{arith}
use Rattle.words.specs.Bytes.{four}
use Rattle.capture.specs.declared.Capture.TheVariants.{Number}
use Rattle.board.specs.Description.{Space, Board, with_edition, WellDescribed}
use Rattle.board.specs.Serving.{serve}
use Rattle.board.proofs.Computing.{computing}
use Rattle.pair.specs.Pair.{WellPaired}
use Rattle.pair.specs.Serving.{serve_pair}
use Rattle.pair.proofs.Computing.{pair_computing}
use Rattle.ports.specs.declared.Port.{Port}
use Rattle.ports.specs.Ports.{bad_list}
use Rattle.ports.specs.Choice.{choice}
use Rattle.router.specs.Routing.{leaving_by, decide}
use Rattle.runs.specs.Bench.{holding, bench_description}
use Rattle.runs.specs.Run.{packet}
use Rattle.retry.specs.Rows.{answered, pair_answer_to}
use Rattle.retry.specs.Switch.{Boards, Sizes, sent, switch_next, switch_answer}
use Rattle.retry.specs.Writes.{SameWrite, Successful}
use Rattle.limits.proofs.Examples.{rules, ready, fresh, paired, ask, write}

-- two successful writes of the same parts, one after the other
pub record Two (d : Board) (p q : List ℕ) : Type 0 where
  pub well : WellDescribed d
  pub same : SameWrite p q
  pub first : Successful (answered (serve d p 16))
  pub second : Successful (answered (serve (serve d p 16).after q 16))

abbrev pub both : Board → List ℕ → List ℕ → Board
both d p q = (serve (serve d p 16).after q 16).after

-- 16 error status bits at 008h, all up, in both spaces
abbrev pub erring : Board
erring =
    let s : Space = record { bytes = holding 0x008 (0xff ∷ 0xff ∷ []); rules = rules; marks = holding 0x008 (0xff ∷ 0xff ∷ []) } in
    record { description = bench_description; capture = Number 0x05 0x03; ordinary = s; trusted = s }

-- writes of 11 22 33 44 at 008h, and at A
abbrev pub clears : ℕ → ℕ → List ℕ
clears first enables = write first 0x05 0x18 0x08 enables

abbrev pub at_a : ℕ → List ℕ
at_a enables = ask 0x44 0x05 0x18 0x01 0x04 enables (0x11 ∷ 0x22 ∷ 0x33 ∷ 0x44 ∷ [])

-- to the alternate, and to a board behind a switch
abbrev pub to_alternate : ℕ → List ℕ
to_alternate enables = write 0x44 0x05 0x19 0x04 enables

abbrev pub through : ℕ → List ℕ
through enables = write 0x45 0x05 0x18 0x04 enables

abbrev pub ports : List Port
ports = record { secondary = 0x05; subordinate = 0x07; tcs = 1 } ∷ []

abbrev pub boards : Boards
boards k = fresh

abbrev pub sizes : Sizes
sizes = record { buffer = 20; reply = 16 }

pub record Bites : Type 0 where
  -- 11h is cleared of the first byte, and 22h of the second
  pub marked : Two erring (clears 0x44 0x01) (clears 0x44 0x02) × (four (both erring (clears 0x44 0x01) (clears 0x44 0x02)).ordinary.bytes 0x008 ≡ 0xee ∷ 0xdd ∷ 0x00 ∷ 0x00 ∷ [])
  pub marked_trusted : Two erring (clears 0x5b 0x01) (clears 0x5b 0x02) × (four (both erring (clears 0x5b 0x01) (clears 0x5b 0x02)).trusted.bytes 0x008 ≡ 0xee ∷ 0xdd ∷ 0x00 ∷ 0x00 ∷ [])
  -- nothing is written, and it captures
  pub at_a : Two fresh (at_a 0x01) (at_a 0x02) × ((both fresh (at_a 0x01) (at_a 0x02)).capture ≡ Number 0x05 0x03)
  pub edition2 : Two (with_edition ready 2) (write 0x44 0x05 0x18 0x04 0x01) (write 0x44 0x05 0x18 0x04 0x02)
      × (four (both (with_edition ready 2) (write 0x44 0x05 0x18 0x04 0x01) (write 0x44 0x05 0x18 0x04 0x02)).ordinary.bytes 0x004 ≡ 0x11 ∷ 0x22 ∷ 0x00 ∷ 0x00 ∷ [])
  pub alternate : WellPaired paired × SameWrite (to_alternate 0x01) (to_alternate 0x02) × Successful (pair_answer_to paired (packet (to_alternate 0x01) 16))
      × Successful (pair_answer_to (serve_pair paired (to_alternate 0x01) 16).after (packet (to_alternate 0x02) 16))
      × (four (serve_pair (serve_pair paired (to_alternate 0x01) 16).after (to_alternate 0x02) 16).after.alternate.ordinary.bytes 0x004 ≡ 0x11 ∷ 0x22 ∷ 0x00 ∷ 0x00 ∷ [])
  -- each leaves by the port as Type 0, and the board there is written
  pub turned : SameWrite (through 0x01) (through 0x02) × Successful (switch_answer ports boards (sent (through 0x01) sizes))
      × Successful (switch_answer ports (switch_next ports boards (sent (through 0x01) sizes)) (sent (through 0x02) sizes))
      × (four (switch_next ports (switch_next ports boards (sent (through 0x01) sizes)) (sent (through 0x02) sizes) 0).ordinary.bytes 0x004 ≡ 0x11 ∷ 0x22 ∷ 0x00 ∷ 0x00 ∷ [])

marked_two : Two erring (clears 0x44 0x01) (clears 0x44 0x02)
unfolding computing
marked_two = record { well = refl; same = record { writes = (refl, refl); target = refl; bus = refl; device = refl; function = refl; offset = refl; «data» = refl }; first = (refl, omega arith, refl); second = (refl, omega arith, refl) }

marked_left : four (both erring (clears 0x44 0x01) (clears 0x44 0x02)).ordinary.bytes 0x008 ≡ 0xee ∷ 0xdd ∷ 0x00 ∷ 0x00 ∷ []
unfolding computing
marked_left = refl

trusted_two : Two erring (clears 0x5b 0x01) (clears 0x5b 0x02)
unfolding computing
trusted_two = record { well = refl; same = record { writes = (refl, refl); target = refl; bus = refl; device = refl; function = refl; offset = refl; «data» = refl }; first = (refl, omega arith, refl); second = (refl, omega arith, refl) }

trusted_left : four (both erring (clears 0x5b 0x01) (clears 0x5b 0x02)).trusted.bytes 0x008 ≡ 0xee ∷ 0xdd ∷ 0x00 ∷ 0x00 ∷ []
unfolding computing
trusted_left = refl

at_a_two : Two fresh (at_a 0x01) (at_a 0x02)
unfolding computing
at_a_two = record { well = refl; same = record { writes = (refl, refl); target = refl; bus = refl; device = refl; function = refl; offset = refl; «data» = refl }; first = (refl, omega arith, refl); second = (refl, omega arith, refl) }

at_a_left : (both fresh (at_a 0x01) (at_a 0x02)).capture ≡ Number 0x05 0x03
unfolding computing
at_a_left = refl

edition_two : Two (with_edition ready 2) (write 0x44 0x05 0x18 0x04 0x01) (write 0x44 0x05 0x18 0x04 0x02)
unfolding computing
edition_two = record { well = refl; same = record { writes = (refl, refl); target = refl; bus = refl; device = refl; function = refl; offset = refl; «data» = refl }; first = (refl, omega arith, refl); second = (refl, omega arith, refl) }

edition_left : four (both (with_edition ready 2) (write 0x44 0x05 0x18 0x04 0x01) (write 0x44 0x05 0x18 0x04 0x02)).ordinary.bytes 0x004 ≡ 0x11 ∷ 0x22 ∷ 0x00 ∷ 0x00 ∷ []
unfolding computing
edition_left = refl

same_alternate : SameWrite (to_alternate 0x01) (to_alternate 0x02)
unfolding computing
same_alternate = record { writes = (refl, refl); target = refl; bus = refl; device = refl; function = refl; offset = refl; «data» = refl }

same_through : SameWrite (through 0x01) (through 0x02)
unfolding computing
same_through = record { writes = (refl, refl); target = refl; bus = refl; device = refl; function = refl; offset = refl; «data» = refl }

pub bites : Bites
unfolding pair_computing bad_list choice leaving_by decide
bites =
    record {
      marked = (marked_two, marked_left);
      marked_trusted = (trusted_two, trusted_left);
      at_a = (at_a_two, at_a_left);
      edition2 = (edition_two, edition_left);
      alternate = (refl, same_alternate, (refl, omega arith, refl), (refl, omega arith, refl), refl);
      turned = (same_through, (refl, omega arith, refl), (refl, omega arith, refl), refl);
    }
