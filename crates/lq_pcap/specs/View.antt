-- What contracts see of a capture in memory.
use Rattle.std.specs.Prelude.{◌-◌, length}
use Rattle.lq_model.specs.Capture.{Capture}
use Rattle.lq_pcap.specs.Reading.{ArePlaces}
use Rattle.lq_pcap.specs.declared.records.Capture.TheInside.{Inside}

abbrev pub capture_view : Inside → Capture
capture_view c = record { bytes = c.bytes.items; count = length c.places - 1 }

abbrev pub capture_invariant : Inside → Type 0
capture_invariant c = ArePlaces c.bytes.items c.places
