-- What the functions that are exported for a test host promise: the promises of `asking`, with a host's numbers in the place of enums. Assumes nothing.
use Rattle.std.specs.Prelude.{ℕ, zero, suc, List, [], ◌∷◌, ◌≡◌, Result, Ok, Err}
use Rattle.answers.specs.declared.Refusal.{Refusal}
use Rattle.answers.specs.Numbers.{number_of}
use Rattle.asking.specs.declared.Parts.{Parts}
use Rattle.asking.specs.declared.Said.{Said}
use Rattle.asking.specs.declared.Said.TheVariants.{Shown, Done, Unsupported}
use Rattle.asking.specs.declared.Completion.{Completion}
use Rattle.asking.specs.Writing.{SeenWritten, shows_written}
use Rattle.asking.specs.Reading.{read_number, completion_of}
use Rattle.tester.specs.declared.HostParts.{HostParts}
use Rattle.tester.specs.declared.HostWritten.{HostWritten}
use Rattle.tester.specs.declared.HostHeard.{HostHeard}

-- the parts that a host gives, and the data
abbrev pub parts_by : HostParts → Parts
parts_by p =
    record {
      kind = p.kind;
      requester = p.requester;
      tag = p.tag;
      bus = p.bus;
      device = p.device;
      function = p.function;
      offset = p.offset;
      enables = p.enables;
    }

abbrev pub data_by : HostParts → List ℕ
data_by p = p.«data»

-- what was written, as a host is told it
abbrev pub told_written : Result ℕ Refusal → HostWritten
told_written (Ok count) = record { length = count; number = 0 }
told_written (Err refusal) = record { length = 0; number = number_of refusal }

-- what a host sees after a call: the result, and the lent buffer
pub record HostSees : Type 0 where
  pub result : HostWritten
  pub buffer : List ℕ

abbrev pub host_sees : HostWritten → List ℕ → HostSees
host_sees r after = record { result = r; buffer = after }

-- what it should see, by what a caller of `asking::write_request` should
abbrev pub host_shown : SeenWritten → HostSees
host_shown shown = record { result = record { length = shown.count; number = shown.number }; buffer = shown.buffer }

-- the promise of `thawribbon_write_request`: the parts and the buffer as lent, the result, and the buffer at its end
abbrev pub HostWrites : HostParts → List ℕ → HostWritten → List ℕ → Type 0
HostWrites p buffer r after = host_sees r after ≡ host_shown (shows_written (parts_by p) (data_by p) buffer)

-- a completion, as a host is told it: its fields, what it says as a number, and its data
unfoldable pub told_fields : Completion → ℕ → List ℕ → HostHeard
told_fields c said four =
    record {
      number = 0;
      said = said;
      completer = c.completer;
      requester = c.requester;
      tag = c.tag;
      «data» = four;
    }

-- 1 success with data, 2 success without, 3 UR
abbrev pub told_by_said : Completion → Said → HostHeard
told_by_said c (Shown four) = told_fields c 1 four
told_by_said c Done = told_fields c 2 (0 ∷ 0 ∷ 0 ∷ 0 ∷ [])
told_by_said c Unsupported = told_fields c 3 (0 ∷ 0 ∷ 0 ∷ 0 ∷ [])

abbrev pub told_completion : Completion → HostHeard
told_completion c = told_by_said c c.said

-- "Every number but 0 [..] reports [..] 0 for every field": nothing is said
unfoldable pub nothing_heard : ℕ → HostHeard
nothing_heard n =
    record {
      number = n;
      said = 0;
      completer = record { high = 0; low = 0 };
      requester = record { high = 0; low = 0 };
      tag = 0;
      «data» = 0 ∷ 0 ∷ 0 ∷ 0 ∷ [];
    }

abbrev pub told_heard : Result Completion Refusal → HostHeard
told_heard (Ok completion) = told_completion completion
told_heard (Err refusal) = nothing_heard (number_of refusal)

-- by its number: the completion, or the refusal
abbrev pub heard_by : ℕ → List ℕ → HostHeard
heard_by zero c = told_completion (completion_of c)
heard_by (suc n) c = nothing_heard (suc n)

-- the promise of `thawribbon_read_completion`: the bytes, and the result
abbrev pub HostReads : List ℕ → HostHeard → Type 0
HostReads c r = r ≡ heard_by (read_number c) c
