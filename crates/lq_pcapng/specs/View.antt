-- What contracts see of a capture in memory.
use Rattle.std.specs.Prelude.{◌≤◌, ℕ, List}
use Rattle.lq_pcapng.specs.Pcapng.{NgCapture, is_little_endian, total_length}
use Rattle.lq_pcapng.specs.Reading.{AreClocks, AreInterfaces, ArePackets, IsWholeAt, block_at, blocks_at}
use Rattle.lq_pcapng.specs.declared.interfaces.Clock.{Clock}
use Rattle.lq_pcapng.specs.declared.capture.NgCapture.TheInside.{Inside}

-- the capture whose blocks stand at these places
abbrev pub capture_at : List ℕ → List ℕ → List ℕ → NgCapture
capture_at bytes interfaces packets = record {
  section = block_at (is_little_endian bytes) bytes 0;
  interfaces = blocks_at (is_little_endian bytes) bytes interfaces;
  packets = blocks_at (is_little_endian bytes) bytes packets;
}

abbrev pub ng_capture_view : Inside → NgCapture
ng_capture_view c = capture_at c.bytes.items c.interfaces.items c.packets

pub record IsRead (bytes interfaces packets : List ℕ) : Type 0 where
  pub section : IsWholeAt (is_little_endian bytes) bytes 0
  pub section_long : 28 ≤ total_length (is_little_endian bytes) bytes
  pub interfaces_are : AreInterfaces (is_little_endian bytes) bytes interfaces
  pub packets_are : ArePackets (is_little_endian bytes) bytes (blocks_at (is_little_endian bytes) bytes interfaces) packets

pub record IsInMemory (bytes interfaces packets : List ℕ) (clocks : List Clock) : Type 0 where
  pub read : IsRead bytes interfaces packets
  pub clocks_are : AreClocks (is_little_endian bytes) bytes interfaces clocks

abbrev pub ng_capture_invariant : Inside → Type 0
ng_capture_invariant c = IsInMemory c.bytes.items c.interfaces.items c.packets c.clocks.items
