-- THEOREMS. A second result that meets a promise of this crate is the same result, with the same buffer afterwards. Assumes nothing.
use mathlib.Core.List.{List}
use mathlib.Core.Path.{◌≡◌, sym, ap, ◌∙◌}
use Prim.Native.Nat.{ℕ}
use Rattle.tester.specs.declared.HostParts.{HostParts}
use Rattle.tester.specs.declared.HostWritten.{HostWritten}
use Rattle.tester.specs.declared.HostHeard.{HostHeard}
use Rattle.tester.specs.Asks.{HostSees, host_sees, HostWrites, HostReads}

-- the statements
abbrev pub HostWriteUnique : Type 0
HostWriteUnique =
    (p : HostParts) (buffer : List ℕ) (r q : HostWritten) (l m : List ℕ) → HostWrites p buffer r l → HostWrites p buffer q m → (r ≡ q) × (l ≡ m)

abbrev pub HostReadUnique : Type 0
HostReadUnique = (c : List ℕ) (r q : HostHeard) → HostReads c r → HostReads c q → r ≡ q

pub host_write_unique : HostWriteUnique
host_write_unique p buffer r q l m e f =
    let s : host_sees r l ≡ host_sees q m = e ∙ sym f in (ap (λ (x : HostSees). x.result) s, ap (λ (x : HostSees). x.buffer) s)

pub host_read_unique : HostReadUnique
host_read_unique c r q e f = e ∙ sym f
