-- The class of a frame: its priority and band, its source byte and its route byte.
use Rattle.std.specs.Prelude.{ℕ, ◌+◌, ◌/◌, Bool, ◌&&◌, nat_le, ◌==◌, if◌then◌else◌, bit_and, List, [], ◌∷◌, length, slice_index, slice_range, Option, Some, None}
use Rattle.std.specs.Option.{option_and_then, option_map_or}
use Rattle.std.specs.Int.{w16, from_be_bytes}

-- TABLES

-- `ip_tos2prio` of net/ipv4/route.c: a priority for each value of a type of service's bits 1 to 4
abbrev pub priority_table : List ℕ
priority_table = 0 ∷ 0 ∷ 0 ∷ 0 ∷ 2 ∷ 2 ∷ 2 ∷ 2 ∷ 6 ∷ 6 ∷ 6 ∷ 6 ∷ 4 ∷ 4 ∷ 4 ∷ 4 ∷ []

-- `rt_tos2priority` of include/net/route.h
unfoldable pub tos_priority : ℕ → ℕ
tos_priority tos = slice_index priority_table ((bit_and tos 0x1e) / 2)

-- `prio2band` of net/sched/sch_generic.c: a band for each value of a priority's lower four bits
abbrev pub band_table : List ℕ
band_table = 1 ∷ 2 ∷ 2 ∷ 2 ∷ 1 ∷ 2 ∷ 0 ∷ 0 ∷ 1 ∷ 1 ∷ 1 ∷ 1 ∷ 1 ∷ 1 ∷ 1 ∷ 1 ∷ []

unfoldable pub band_of : ℕ → ℕ
band_of priority = slice_index band_table (bit_and priority 15)

-- THE NETWORK HEADER

-- whether the two bytes at this place are there, and are this EtherType
abbrev pub has_type : List ℕ → ℕ → ℕ → Bool
has_type frame place type = nat_le (place + 2) (length frame) && (from_be_bytes w16 (slice_range frame place (place + 2)) == type)

-- where the header of the protocol with this EtherType would begin in an Ethernet frame: after the type, or after one VLAN tag and the type
abbrev pub ethernet_start : ℕ → List ℕ → Option ℕ
ethernet_start type frame =
    if has_type frame 12 type then Some 14
    else if has_type frame 12 0x8100 && has_type frame 16 type then Some 18 else None

-- the same of a frame of any network: Ethernet is number 1, raw IP is number 101
abbrev pub network_start : ℕ → ℕ → List ℕ → Option ℕ
network_start type link frame = if link == 1 then ethernet_start type frame else if link == 101 then Some 0 else None

-- whether 20 bytes are there from this place on, and the first one's upper four bits are 4
abbrev pub has_ipv4 : List ℕ → ℕ → Bool
has_ipv4 frame start = nat_le (start + 20) (length frame) && (slice_index frame start / 16 == 4)

-- where the frame's IPv4 header begins; None of a frame that isn't IPv4
unfoldable pub ipv4_start : ℕ → List ℕ → Option ℕ
ipv4_start link frame = option_and_then (λ start. if has_ipv4 frame start then Some start else None) (network_start 0x0800 link frame)

-- the same of IPv6, whose header has 40 bytes: its upper four bits are 6
abbrev pub has_ipv6 : List ℕ → ℕ → Bool
has_ipv6 frame start = nat_le (start + 40) (length frame) && (slice_index frame start / 16 == 6)

unfoldable pub ipv6_start : ℕ → List ℕ → Option ℕ
ipv6_start link frame = option_and_then (λ start. if has_ipv6 frame start then Some start else None) (network_start 0x86dd link frame)

-- CLASSES

-- from the header's second byte, its type of service
unfoldable pub priority_of : ℕ → List ℕ → ℕ
priority_of link frame = option_map_or (λ start. tos_priority (slice_index frame (start + 1))) (ipv4_start link frame) 0

-- the last byte of the header's source address
unfoldable pub source_byte_of : ℕ → List ℕ → ℕ
source_byte_of link frame = option_map_or (λ start. slice_index frame (start + 15)) (ipv4_start link frame) 0

-- the last byte of the header's destination address
unfoldable pub route_byte_of : ℕ → List ℕ → ℕ
route_byte_of link frame = option_map_or (λ start. slice_index frame (start + 19)) (ipv4_start link frame) 0
