-- Document 02, 9/13: "Under edition 2 a packet with bit 7 set counts as ordinary in demand 3", whatever its code; under edition 1, and where bit 7 is
-- clear, the packets are split as document 01 has it. So no split that goes by the seven bits of the type code is the one that demand 3 has. Assumes nothing.
use Prim.Native.Nat.{ℕ, zero, suc}
use mathlib.Core.Bool.{Bool, true, false, not, true≢false}
use mathlib.Core.List.{List, [], ◌∷◌}
use mathlib.Core.Path.{◌≡◌, refl, sym, ◌∙◌}
use Rattle.words.specs.Bytes.{byte}
use Rattle.packet.specs.Fields.{bit7_set}
use Rattle.packet.specs.Request.{trusted, trusted_under}
use Rattle.packet.proofs.Bit7Aside.{Bit7Aside}
use Rattle.packet.proofs.Laws.{clear_accepted}
use Rattle.runs.specs.Run.{packet}
use Rattle.shares.specs.Views.{trusted_packet, ordinary_packet}

-- the statements
abbrev pub Bit7IsOrdinary : Type 0
Bit7IsOrdinary = (p : List ℕ) → bit7_set (byte p 0) ≡ true → trusted_under 2 p ≡ false

-- under edition 1, and under any edition where bit 7 is clear, the split is document 01's, "whatever its length"
abbrev pub OneSplitsAsBefore : Type 0
OneSplitsAsBefore = (p : List ℕ) → trusted_under 1 p ≡ trusted p

abbrev pub ClearSplitsAsBefore : Type 0
ClearSplitsAsBefore = (edition : ℕ) (p : List ℕ) → bit7_set (byte p 0) ≡ false → trusted_under edition p ≡ trusted p

-- of the events of a run: a packet is one or the other, and which one does not hang on the reply's size
abbrev pub KindsAreTheSplit : Type 0
KindsAreTheSplit =
    (edition : ℕ) (p : List ℕ) (size : ℕ)
    → (trusted_packet edition (packet p size) ≡ trusted_under edition p) × (ordinary_packet edition (packet p size) ≡ not (trusted_under edition p))

-- a split into trusted and ordinary packets, by the edition and the packet, that does not look at bit 7
abbrev pub BySevenBits : (ℕ → List ℕ → Bool) → Type 0
BySevenBits split = (edition : ℕ) (p q : List ℕ) → Bit7Aside p q → split edition p ≡ split edition q

abbrev pub SevenBitsCaught : Type 0
SevenBitsCaught = (split : ℕ → List ℕ → Bool) → BySevenBits split → split 2 (0x1b ∷ []) ≡ trusted_under 2 (0x1b ∷ []) → split 2 (0x9b ∷ []) ≡ trusted_under 2 (0x9b ∷ []) → ⊥

pub bit_7_is_ordinary : Bit7IsOrdinary
bit_7_is_ordinary p set = rw set

pub one_splits_as_before : OneSplitsAsBefore
one_splits_as_before p = refl

pub clear_splits_as_before : ClearSplitsAsBefore
clear_splits_as_before edition p clear = rw (clear_accepted edition (byte p 0) clear)

pub kinds_are_the_split : KindsAreTheSplit
kinds_are_the_split edition p size = (refl, refl)

-- 1Bh and 9Bh, by themselves
aside : Bit7Aside (0x1b ∷ []) (0x9b ∷ [])
aside = record { sizes = refl; codes = refl; bytes = others }
  where
    others : (k : ℕ) → (k ≡ 0 → ⊥) → byte (0x1b ∷ []) k ≡ byte (0x9b ∷ []) k
    others zero h = absurd (h refl)
    others (suc k) h = refl

pub seven_bits_caught : SevenBitsCaught
seven_bits_caught split seven clear set = true≢false (sym clear ∙ seven 2 (0x1b ∷ []) (0x9b ∷ []) aside ∙ set)
