-- What the laws say of the classes.
use Rattle.std.specs.Prelude.{◌≡◌, ℕ, ◌+◌, ◌/◌, ◌≤◌, Bool, ◌==◌, if◌then◌else◌, bit_and, List, length, slice_index, slice_range}
use Rattle.std.specs.Int.{w16, from_be_bytes}

-- TYPES OF SERVICE

-- `IPTOS_LOWDELAY` and `IPTOS_THROUGHPUT` of include/uapi/linux/ip.h
abbrev pub is_low_delay : ℕ → Bool
is_low_delay tos = bit_and tos 0x10 == 0x10

abbrev pub is_high_throughput : ℕ → Bool
is_high_throughput tos = bit_and tos 0x08 == 0x08

-- a value for each choice: both, low delay alone, high throughput alone, neither
abbrev pub by_service : ℕ → ℕ → ℕ → ℕ → ℕ → ℕ
by_service tos both delay throughput neither =
    if is_low_delay tos then (if is_high_throughput tos then both else delay)
    else if is_high_throughput tos then throughput else neither

-- `TC_PRIO_INTERACTIVE_BULK`, `TC_PRIO_INTERACTIVE`, `TC_PRIO_BULK` and `TC_PRIO_BESTEFFORT` of
-- include/uapi/linux/pkt_sched.h
abbrev pub service_priority : ℕ → ℕ
service_priority tos = by_service tos 4 6 2 0

-- low delay alone is served first, and high throughput alone last
abbrev pub service_band : ℕ → ℕ
service_band tos = by_service tos 1 0 2 1

-- IPV4 AND IPV6 FRAMES

-- the two bytes from this place on are there, and are this EtherType
pub record HasType (ethertype : ℕ) (frame : List ℕ) (place : ℕ) : Type 0 where
  pub present : place + 2 ≤ length frame
  pub value : from_be_bytes w16 (slice_range frame place (place + 2)) ≡ ethertype

-- What stands before the header of the protocol with this EtherType. Of raw IP nothing does; of Ethernet two addresses and the type, or
-- two addresses, one VLAN tag and the type.
pub data IsHeaderPlace (ethertype link : ℕ) (frame : List ℕ) : ℕ → Type 0 where
  raw : link ≡ 101 → IsHeaderPlace ethertype link frame 0
  untagged : link ≡ 1 → HasType ethertype frame 12 → IsHeaderPlace ethertype link frame 14
  tagged : link ≡ 1 → HasType 0x8100 frame 12 → HasType ethertype frame 16 → IsHeaderPlace ethertype link frame 18

-- a header of this number, its version, and of so many bytes stands at the place
pub record IsHeaderAt (ethertype size number link : ℕ) (frame : List ℕ) (start : ℕ) : Type 0 where
  pub place : IsHeaderPlace ethertype link frame start
  pub whole : start + size ≤ length frame
  pub version : slice_index frame start / 16 ≡ number

abbrev pub IsIpv4At : ℕ → List ℕ → ℕ → Type 0
IsIpv4At link frame start = IsHeaderAt 0x0800 20 4 link frame start

abbrev pub IsIpv6At : ℕ → List ℕ → ℕ → Type 0
IsIpv6At link frame start = IsHeaderAt 0x86dd 40 6 link frame start
