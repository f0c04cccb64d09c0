-- A second result that meets a promise of this crate is the same result. Assumes nothing.
use Prim.Native.Nat.{ℕ}
use mathlib.Core.Bool.{Bool}
use mathlib.Core.List.{List}
use mathlib.Core.Path.{◌≡◌, sym, ap, ◌∙◌}
use Rattle.std.specs.Prelude.{Option, Result, Ok, Err}
use Rattle.answers.specs.declared.Refusal.{Refusal}
use Rattle.answers.proofs.Unique.{number_tells, number_positive}
use Rattle.packet.specs.declared.Access.{Access}
use Rattle.packet.specs.declared.Id.{Id}
use Rattle.packet.specs.declared.Status.{Status}
use Rattle.packet.specs.declared.Target.{Target}
use Rattle.packet.specs.declared.Request.{Request}
use Rattle.packet.specs.Fields.{type_of}
use Rattle.packet.specs.Request.{Decodes, DecodesUnder, is_trusted}
use Rattle.packet.specs.Completion.{status_byte, with_data, without_data}

pub decode_under_unique : (edition : ℕ) (p : List ℕ) (r q : Result Request Refusal) → DecodesUnder edition p r → DecodesUnder edition p q → r ≡ q
decode_under_unique edition p (Ok r) (Ok q) e f = ap Ok (e.1 ∙ sym f.1)
decode_under_unique edition p (Ok r) (Err q) e f = absurd (number_positive q (sym f ∙ e.0))
decode_under_unique edition p (Err r) (Ok q) e f = absurd (number_positive r (sym e ∙ f.0))
decode_under_unique edition p (Err r) (Err q) e f = ap Err (number_tells r q (sym e ∙ f))

pub decode_unique : (p : List ℕ) (r q : Result Request Refusal) → Decodes p r → Decodes p q → r ≡ q
decode_unique p r q e f = decode_under_unique 1 p r q e f

pub type_of_unique : (code : ℕ) (r q : Option Access) → r ≡ type_of code → q ≡ type_of code → r ≡ q
type_of_unique code r q e f = e ∙ sym f

pub is_trusted_unique : (target : Target) (r q : Bool) → r ≡ is_trusted target → q ≡ is_trusted target → r ≡ q
is_trusted_unique target r q e f = e ∙ sym f

pub status_byte_unique : (status : Status) (r q : ℕ) → r ≡ status_byte status → q ≡ status_byte status → r ≡ q
status_byte_unique status r q e f = e ∙ sym f

pub with_data_unique : (completer requester : Id) (tag : ℕ) (four r q : List ℕ) → r ≡ with_data completer requester tag four
    → q ≡ with_data completer requester tag four → r ≡ q
with_data_unique completer requester tag four r q e f = e ∙ sym f

pub without_data_unique : (completer : Id) (status : Status) (requester : Id) (tag : ℕ) (r q : List ℕ)
    → r ≡ without_data completer status requester tag → q ≡ without_data completer status requester tag → r ≡ q
without_data_unique completer status requester tag r q e f = e ∙ sym f
