-- Document 01: "The board also keeps the captured bus and device number between packets, or the fact that none is captured."
-- Assumes nothing.
use Rattle.std.specs.Prelude.{ℕ, ◌+◌, ◌*◌, ◌%◌, Bool, false, nat_lt}
use Rattle.packet.specs.declared.Id.{Id}
use Rattle.capture.specs.declared.Capture.{Capture}
use Rattle.capture.specs.declared.Capture.TheVariants.{Nothing, Number}
use Rattle.capture.specs.declared.Identified.{Identified}

-- "A fresh board has captured none."
abbrev pub fresh : Capture
fresh = Nothing

-- "Reset forgets the capture and changes no byte."
abbrev pub forgotten : Capture → Capture
forgotten kept = Nothing

-- "A successful Type 0 write captures its bus and device number"
abbrev pub captured : Capture → ℕ → ℕ → Capture
captured kept bus device = Number bus device

-- "a captured device is over 31"
abbrev pub device_over : Capture → Bool
device_over Nothing = false
device_over (Number bus device) = nat_lt 31 device

-- "Completer ID: captured bus, then captured device × 8 + own function; bus and device are 0 while none is captured." (Each is one byte:
-- the remainder is for a device over 31 or a function over 7, which a board answers with 1.)
unfoldable pub completer : Capture → ℕ → Id
completer Nothing function = record { high = 0; low = function }
completer (Number bus device) function = record { high = bus; low = (device * 8 + function) % 256 }

-- what `Capture::completer_id` hands back
unfoldable pub identified : Capture → ℕ → Identified
identified kept function = record { capture = kept; id = completer kept function }
