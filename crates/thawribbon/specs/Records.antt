-- What the exported functions for records promise: what document 01 says of the record asked for, in a host's numbers. Assumes nothing.
use Rattle.std.specs.Prelude.{ℕ, List, length}
use Rattle.records.specs.DvsecRule.{DvsecTold, dvsec_body, body_from}
use Rattle.records.specs.DualRule.{DualTold}
use Rattle.thawribbon.specs.declared.HostDvsec.{HostDvsec}
use Rattle.thawribbon.specs.declared.HostPart.{HostPart}
use Rattle.thawribbon.specs.declared.HostAlternate.{HostAlternate}

-- "One question answers vendor, revision, ID and length"
abbrev pub told_dvsec : DvsecTold → HostDvsec
told_dvsec t = record { number = t.number; revision = t.revision; vendor = t.vendor; id = t.id; length = t.length }

-- "the register body itself, as it lies in the lent space": where it begins there, and how long it is; 0 and 0 where refused
unfoldable pub body_part : List ℕ → ℕ → HostPart
body_part s at = record { start = body_from s at; length = length (dvsec_body s at) }

-- "that bit's place as alternate function, and device"
abbrev pub told_dual : DualTold → HostAlternate
told_dual t = record { number = t.number; function = t.function; device = t.device }
