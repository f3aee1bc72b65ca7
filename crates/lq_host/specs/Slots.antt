-- The slots of a host, as its open handles.
use Rattle.std.specs.Prelude.{zero, suc, List, slice_get, Option, Some, None, string_bytes, option_and_then}
use Rattle.lq_host.specs.Host.{Opened, Output, Reads, Writes, Handles}
use Rattle.lq_host.specs.declared.slots.Slot.{Slot}
use Rattle.lq_host.specs.declared.slots.Slot.TheVariants.{Closed, Reader, Writer}

-- what the handle of a slot is open for
abbrev pub opened_of : Slot → Option Opened
opened_of Closed = None
opened_of (Reader name place) = Some (Reads (string_bytes name) place)
opened_of (Writer name) = Some (Writes (string_bytes name))

-- handle 0 is standard output, and handle k + 1 is slot k
abbrev pub handles_of : List Slot → Handles
handles_of slots zero = Some Output
handles_of slots (suc k) = option_and_then opened_of (slice_get slots k)
