-- Document 02, 8/13: "Then judge an address, given the records of up to 32 ports and which one it enters by". Assumes nothing.
use Rattle.std.specs.Prelude.{ℕ, ◌-◌, ◌/◌, ◌<◌, ◌^◌, Bool, not, cond, List, [], ◌∷◌, ◌≡◌, eqb, leb, ltb, length, get_or, Result, Ok, Err}
use Rattle.answers.specs.Checks.{any}
use Rattle.answers.specs.declared.Refusal.{Refusal}
use Rattle.answers.specs.Numbers.{number_of}
use Rattle.words.specs.Fields.{bit}
use Rattle.records.specs.Required.{all}
use Rattle.multicast.specs.Capability.{num_group, index, base, receive, block_all, is_enabled, no_fields}
use Rattle.multicast.specs.Records.{are_records}
use Rattle.multicast.specs.declared.Record.{Record}
use Rattle.multicast.specs.declared.Judged.{Judged}
use Rattle.multicast.specs.declared.Judged.TheVariants.{NoHit, Dropped, Leaves}

-- the record of port k; past the end none, whose numbers read as 0
abbrev pub port_at : List Record → ℕ → Record
port_at ports k = get_or ports k no_fields

-- "a longer list, no such port, or a record the reading can't give is 1": the last as a test. Of rows of seven numbers of 64 bits, which is what the type of a list lets
-- through, it is what the reading gives, by proofs/Given; proofs/Refusals says it of the answer, over the reading
unfoldable pub is_bad : List Record → ℕ → Bool
is_bad ports entering = any (ltb 32 (length ports) ∷ leb (length ports) entering ∷ not (are_records ports) ∷ [])

-- "group floor((address − base) / 2^index)"
abbrev pub group_of : Record → ℕ → ℕ
group_of port address = (address - base port) / 2 ^ index port

-- "With the entering port's Enable set, an address at or above the base hits [this] group [..] if that is at most Num Group."
unfoldable pub is_hit : Record → ℕ → Bool
is_hit port address = all (is_enabled port ∷ leb (base port) address ∷ leb (group_of port address) (num_group port) ∷ [])

-- a register's bit for a group is set
abbrev pub is_set : ℕ → ℕ → Bool
is_set group register = eqb (bit group register) 1

-- what becomes of a packet: nothing is said of one that is refused
pub data Verdict : Type 0 where
  unsaid : Verdict
  no_hit : Verdict
  dropped : Verdict
  leaves : Verdict

-- the number, what becomes of the packet, and the group, which is 0 where none is hit
pub record JudgedTold : Type 0 where
  pub number : ℕ
  pub verdict : Verdict
  pub group : ℕ

abbrev pub told : ℕ → Verdict → ℕ → JudgedTold
told number verdict group = record { number = number; verdict = verdict; group = group }

-- "A packet is dropped where it enters if that port's Block All bit for the group is set; else it leaves [..]": of a packet that hits this group
abbrev pub of_group : Record → ℕ → JudgedTold
of_group port group = cond (is_set group (block_all port)) (told 0 dropped group) (told 0 leaves group)

-- "No hit is an answer of its own." What is said of a packet that enters by a port with this record
unfoldable pub entering_by : Record → ℕ → JudgedTold
entering_by port address = cond (is_hit port address) (of_group port (group_of port address)) (told 0 no_hit 0)

unfoldable pub judged : List Record → ℕ → ℕ → JudgedTold
judged ports entering address = cond (is_bad ports entering) (told 1 unsaid 0) (entering_by (port_at ports entering) address)

-- "every other port whose own Receive bit for it is set": whether port k is one of these
unfoldable pub is_member : List Record → ℕ → ℕ → ℕ → Bool
is_member ports entering group k =
    all (ltb k (length ports) ∷ not (eqb k entering) ∷ is_set group (receive (port_at ports k)) ∷ [])

-- bit k of the ports that it leaves by, of a packet of which this is said: none with any other verdict
abbrev pub leaves_bit : Verdict → Bool → ℕ
leaves_bit leaves member = cond member 1 0
leaves_bit dropped member = 0
leaves_bit no_hit member = 0
leaves_bit unsaid member = 0

abbrev pub leaves_by : List Record → ℕ → JudgedTold → ℕ → ℕ
leaves_by ports entering said k = leaves_bit said.verdict (is_member ports entering said.group k)

-- what an answer tells, and its ports
abbrev pub tells_judged : Result Judged Refusal → JudgedTold
tells_judged (Err refusal) = told (number_of refusal) unsaid 0
tells_judged (Ok NoHit) = told 0 no_hit 0
tells_judged (Ok (Dropped group)) = told 0 dropped group
tells_judged (Ok (Leaves group ports)) = told 0 leaves group

abbrev pub ports_of : Result Judged Refusal → ℕ
ports_of (Err refusal) = 0
ports_of (Ok NoHit) = 0
ports_of (Ok (Dropped group)) = 0
ports_of (Ok (Leaves group ports)) = ports

-- the promise of `judge`: what is told, and of each of the 32 bits whether it is set
pub record Judges (ports : List Record) (entering address : ℕ) (r : Result Judged Refusal) : Type 0 where
  pub tells : tells_judged r ≡ judged ports entering address
  pub each : (k : ℕ) → k < 32 → bit k (ports_of r) ≡ leaves_by ports entering (judged ports entering address) k
  pub most : ports_of r < 2 ^ 32
