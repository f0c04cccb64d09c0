-- What the private functions of this crate tell each other while a chain is followed. No promise of a public entry cites this file.
-- Assumes nothing.
use Rattle.std.specs.Prelude.{ℕ, zero, suc, ◌*◌, ◌/◌, ◌≤◌, ◌<◌, List, ◌⊎◌, ◌≡◌, length, take, get_or, Result, Ok, Err}
use Rattle.words.specs.Fields.{word}
use Rattle.answers.specs.declared.Refusal.{Refusal}
use Rattle.answers.specs.declared.Refusal.TheVariants.{BelowFloor, ComesBack}
use Rattle.lists.specs.declared.Kind.{Kind}
use Rattle.lists.specs.declared.Kind.TheVariants.{Compatible, Extended, Trusted}
use Rattle.lists.specs.declared.Refused.{Refused}
use Rattle.lists.specs.declared.chase.Step.{Step}
use Rattle.lists.specs.declared.chase.Step.TheVariants.{Next, End, Fault}
use Rattle.lists.specs.declared.chase.Stopped.{Stopped}
use Rattle.lists.specs.Table.{ListRule, describe}
use Rattle.lists.specs.Chain.{HasChain}
use Rattle.lists.specs.Breaks.{met, Back}
use Rattle.lists.specs.Walks.{WholeSpace}

-- a pointer as it stands in the space, within twelve bits
pub record Raw (pointer r : ℕ) : Type 0 where
  pub is : r ≡ pointer
  pub small : r < 0x1000

-- a word of the space, of bytes
pub record Whole (s : List ℕ) (at r : ℕ) : Type 0 where
  pub is : r ≡ word s at
  pub small : r < 4294967296

-- the offset of a position, which counts words, and bytes in the compatible list
abbrev pub offset_of : Kind → ℕ → ℕ
offset_of Compatible position = position
offset_of Extended position = 4 * position
offset_of Trusted position = 4 * position

-- a pointer with its bottom two bits dropped, by the position that it leads to
pub record Counted (kind : Kind) (pointer position : ℕ) : Type 0 where
  pub is : offset_of kind position ≡ pointer
  pub inside : offset_of kind position ≤ 0xffc

-- a pointer to a word of the space, and not the end
pub record Onward (pointer : ℕ) : Type 0 where
  pub not_end : pointer ≡ 0 → ⊥
  pub inside : pointer ≤ 0xffc

-- "A step answers the next offset, the end, or a fault."
abbrev pub Leads : ListRule → ℕ → Step → Type 0
Leads list pointer (Next at) = (at ≡ pointer) × (pointer ≡ 0 → ⊥) × (list.floor ≤ pointer)
Leads list pointer End = pointer ≡ 0
Leads list pointer Fault = (pointer ≡ 0 → ⊥) × (pointer < list.floor)

-- the first so many pointers lead on, each to an offset from the floor on
pub record Leading (list : ListRule) (s : List ℕ) (count : ℕ) : Type 0 where
  pub onward : (k : ℕ) → k < count → met list s k ≡ 0 → ⊥
  pub above : (k : ℕ) → k < count → list.floor ≤ met list s k

-- they have been followed, and the offsets that they lead to are in the log, in order
pub record Followed (list : ListRule) (s log : List ℕ) (count : ℕ) : Type 0 where
  pub fits : count ≤ length log
  pub leading : Leading list s count
  pub logged : (k : ℕ) → k < count → get_or log k 0 ≡ met list s k

-- a chase has so many offsets in its log and goes on at a pointer
pub record Underway (kind : Kind) (s log : List ℕ) (count pointer : ℕ) : Type 0 where
  pub space : WholeSpace s
  pub followed : Followed (describe kind) s log count
  pub here : pointer ≡ met (describe kind) s count
  pub inside : pointer ≤ 0xffc

-- the position that waits for the chase to come by again: none, or one that was passed
abbrev pub Waits : Kind → List ℕ → ℕ → ℕ → Type 0
Waits kind s count waiting = (waiting ≡ 0) ⊎ ((j : ℕ) × (j < count) × (offset_of kind waiting ≡ met (describe kind) s j))

-- a chase has stopped at a pointer: below the floor, back at an offset that was passed, or with the log full
pub record Stops (kind : Kind) (s log : List ℕ) (count pointer : ℕ) : Type 0 where
  pub underway : Underway kind s log count pointer
  pub onward : pointer ≡ 0 → ⊥
  pub why : (pointer < (describe kind).floor) ⊎ (Back (describe kind) s count ⊎ (count ≡ length log))

-- how a chase ended, with its log
abbrev pub Chases : Kind → List ℕ → Result ℕ Stopped → List ℕ → Type 0
Chases kind s (Ok count) log = (count ≤ length log) × HasChain (describe kind) s (take count log)
Chases kind s (Err stopped) log = Stops kind s log stopped.count (offset_of kind stopped.position)

-- the offset that was passed last of the first so many of a log, or 0 where none was
abbrev pub last_of : List ℕ → ℕ → ℕ
last_of log zero = 0
last_of log (suc k) = get_or log k 0

-- every entry of a log is the offset of a word of a space
pub record Words (log : List ℕ) : Type 0 where
  pub aligned : (k : ℕ) → k < length log → get_or log k 0 ≡ 4 * (get_or log k 0 / 4)
  pub inside : (k : ℕ) → k < length log → get_or log k 0 ≤ 0xffc

-- the first index of a log whose offset stands before it already, or the log's end
pub record FirstAgain (log : List ℕ) (index : ℕ) : Type 0 where
  pub within : index ≤ length log
  pub apart : (j k : ℕ) → j < k → k < index → get_or log j 0 ≡ get_or log k 0 → ⊥
  pub again : index < length log → (j : ℕ) × (j < index) × (get_or log j 0 ≡ get_or log index 0)

-- a refusal is told, with a place
abbrev pub RefusedAt : Refusal → ℕ → Refused → Type 0
RefusedAt refusal place r = r ≡ record { refusal = refusal; place = place }

-- what a chase that stopped at a pointer, with these offsets passed, is refused by, unless it is gone on with
pub data Told (list : ListRule) (passed : List ℕ) (pointer : ℕ) (r : Refused) : Type 0 where
  below : pointer < list.floor → RefusedAt BelowFloor (last_of passed (length passed)) r → Told list passed pointer r
  back : list.floor ≤ pointer → (index : ℕ) → FirstAgain passed index → RefusedAt ComesBack (last_of passed index) r → Told list passed pointer r
