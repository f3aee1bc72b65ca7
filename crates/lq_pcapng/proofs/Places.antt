-- Blocks at places of a file, and the byte order that the first of them shows.
use Rattle.std.proofs.Common.{◌≡◌, ◌<◌, ◌≤◌, ◌+◌, ◌-◌, [], ℕ, List, length, take, drop, sym, ap, ◌∙◌, subst, arith, get_or, Bool}
use Rattle.std.specs.Int.{w32, from_le_bytes}
use Rattle.std.specs.Prelude.{◌==◌}
use Rattle.std.specs.List.{slice_range}
use Rattle.std.proofs.lemmas.List.{drop-take, take-take, get_or-map, length-map, length-take-le}
use Rattle.lq_pcapng.specs.Pcapng.{NgCapture, captured_length, data_place, frame_in, is_little_endian, order_of, packet_block, padded, total_length}
use Rattle.lq_pcapng.specs.Reading.{AreInterfaces, IsPacket, IsWholeAt, block_at, blocks_at}
use Rattle.lq_pcapng.specs.View.{IsRead, capture_at}

-- a part of the first n
pub slice_range-take : (xs : List ℕ) (n a b : ℕ) → a ≤ b → b ≤ n → slice_range (take n xs) a b ≡ slice_range xs a b
slice_range-take xs n a b order within =
    let rest : n ≡ a + (n - a) = omega arith in
    let dropped : drop a (take n xs) ≡ take (n - a) (drop a xs) = ap (λ k. drop a (take k xs)) rest ∙ drop-take a (n - a) xs in
    rw dropped (take-take (b - a) (n - a) (drop a xs) (omega arith))

-- the order of a section is that of its first block
pub same_order : (xs : List ℕ) (n : ℕ) → 12 ≤ n → is_little_endian (take n xs) ≡ is_little_endian xs
same_order xs n long = ap (λ (part : List ℕ). from_le_bytes w32 part == 0x1a2b_3c4d) (slice_range-take xs n 8 12 (omega arith) long)

pub order_at : (bytes interfaces packets : List ℕ) → IsRead bytes interfaces packets → order_of (capture_at bytes interfaces packets) ≡ is_little_endian bytes
order_at bytes interfaces packets r = same_order (drop 0 bytes) (total_length (is_little_endian bytes) (drop 0 bytes)) r.section.long

-- the block at the i-th of some places
pub get_or-blocks_at : (little_endian : Bool) (bytes places : List ℕ) (i : ℕ) → i < length places → get_or (blocks_at little_endian bytes places) i [] ≡ block_at little_endian bytes (get_or places i 0)
get_or-blocks_at little_endian bytes places i below = get_or-map (block_at little_endian bytes) places i 0 [] below

-- A capture as a method sees it: i is the number of one of its packet blocks, or of its interfaces, and place where it
-- begins.
pub record IsSeen (bytes interfaces packets : List ℕ) (c : NgCapture) (little_endian : Bool) : Type 0 where
  pub read : IsRead bytes interfaces packets
  pub view : capture_at bytes interfaces packets ≡ c
  pub order : little_endian ≡ order_of c

pub order_seen : (bytes interfaces packets : List ℕ) (c : NgCapture) (little_endian : Bool) → IsSeen bytes interfaces packets c little_endian → little_endian ≡ is_little_endian bytes
order_seen bytes interfaces packets c little_endian s = s.order ∙ ap order_of (sym s.view) ∙ order_at bytes interfaces packets s.read

pub seen_packets : (bytes interfaces packets : List ℕ) (c : NgCapture) (little_endian : Bool) → IsSeen bytes interfaces packets c little_endian → length c.packets ≡ length packets
seen_packets bytes interfaces packets c little_endian s = ap (λ (k : NgCapture). length k.packets) (sym s.view) ∙ length-map packets (block_at (is_little_endian bytes) bytes)

pub interfaces_seen :
    (bytes interfaces packets : List ℕ) (c : NgCapture) (little_endian : Bool) → IsSeen bytes interfaces packets c little_endian
    → (AreInterfaces little_endian bytes interfaces) × (blocks_at little_endian bytes interfaces ≡ c.interfaces)
interfaces_seen bytes interfaces packets c little_endian s =
    let order = order_seen bytes interfaces packets c little_endian s in (
      subst (λ o. AreInterfaces o bytes interfaces) (sym order) s.read.interfaces_are,
      ap (λ o. blocks_at o bytes interfaces) order ∙ ap (λ (k : NgCapture). k.interfaces) s.view,
    )

pub packet_seen :
    (bytes interfaces packets : List ℕ) (c : NgCapture) (little_endian : Bool) (i place : ℕ) → IsSeen bytes interfaces packets c little_endian → i < length c.packets → place ≡ get_or packets i 0
    → IsWholeAt little_endian bytes place × (block_at little_endian bytes place ≡ packet_block c i) × IsPacket little_endian c.interfaces (block_at little_endian bytes place)
packet_seen bytes interfaces packets c little_endian i place s below is =
    let order = order_seen bytes interfaces packets c little_endian s in
    let within : i < length packets = (let same = seen_packets bytes interfaces packets c little_endian s in omega arith) in
    let here : get_or packets i 0 ≡ place = sym is in
    let block : block_at (is_little_endian bytes) bytes (get_or packets i 0) ≡ block_at little_endian bytes place =
    ap (block_at (is_little_endian bytes) bytes) here ∙ ap (λ o. block_at o bytes place) (sym order) in (
      subst (λ o. IsWholeAt o bytes place) (sym order) (subst (IsWholeAt (is_little_endian bytes) bytes) here (s.read.packets_are.whole i within)),
      sym block ∙ sym (get_or-blocks_at (is_little_endian bytes) bytes packets i within) ∙ ap (λ (k : NgCapture). packet_block k i) s.view,
      subst (IsPacket little_endian c.interfaces) block
          (subst (λ (is : List (List ℕ)). IsPacket little_endian is (block_at (is_little_endian bytes) bytes (get_or packets i 0))) (ap (λ (k : NgCapture). k.interfaces) s.view)
          (subst (λ o. IsPacket o (blocks_at (is_little_endian bytes) bytes interfaces) (block_at (is_little_endian bytes) bytes (get_or packets i 0))) (sym order) (s.read.packets_are.each i within))),
    )

pub section_seen :
    (bytes interfaces packets : List ℕ) (c : NgCapture) (little_endian : Bool) → IsSeen bytes interfaces packets c little_endian
    → IsWholeAt little_endian bytes 0 × (block_at little_endian bytes 0 ≡ c.section) × (28 ≤ length (block_at little_endian bytes 0))
section_seen bytes interfaces packets c little_endian s =
    let order = order_seen bytes interfaces packets c little_endian s in
    let whole : IsWholeAt little_endian bytes 0 = subst (λ o. IsWholeAt o bytes 0) (sym order) s.read.section in
    let long : 28 ≤ total_length little_endian bytes = subst (λ o. 28 ≤ total_length o bytes) (sym order) s.read.section_long in
    let len : length (block_at little_endian bytes 0) ≡ total_length little_endian bytes = length-take-le (total_length little_endian bytes) bytes whole.within in
    (whole, ap (λ o. block_at o bytes 0) order ∙ ap (λ (k : NgCapture). k.section) s.view, omega arith)

-- a number of bytes is at most what they are filled up to
pub le-padded : (n : ℕ) → n ≤ padded n
le-padded n = omega arith

-- what stands in a packet block at its data is the packet
pub frame_seen :
    (bytes interfaces packets : List ℕ) (c : NgCapture) (little_endian : Bool) (i place len : ℕ) (block : List ℕ) → IsSeen bytes interfaces packets c little_endian
    → block ≡ packet_block c i → IsPacket (order_of c) c.interfaces block → place ≡ data_place little_endian block
    → len ≡ captured_length little_endian (blocks_at little_endian bytes interfaces) block
    → (place + len ≤ length block) × (slice_range block place (place + len) ≡ frame_in c (packet_block c i))
frame_seen bytes interfaces packets c little_endian i place len block s block_is p place_is len_is =
    let same_place : place ≡ data_place (order_of c) block = place_is ∙ ap (λ o. data_place o block) s.order in
    let same_len : len ≡ captured_length (order_of c) c.interfaces block =
    len_is ∙ ap (λ (is : List (List ℕ)). captured_length little_endian is block) (interfaces_seen bytes interfaces packets c little_endian s).1 ∙ ap (λ o. captured_length o c.interfaces block) s.order in
    let whole : place + 4 + padded len ≤ length block = subst (λ m. m + 4 + padded len ≤ length block) (sym same_place) (subst (λ m. data_place (order_of c) block + 4 + padded m ≤ length block) (sym same_len) p.whole) in
    let filled = le-padded len in (
      omega arith,
      ap (λ m. slice_range block m (m + len)) same_place ∙ ap (λ m. slice_range block (data_place (order_of c) block) (data_place (order_of c) block + m)) same_len
          ∙ ap (λ (b : List ℕ). frame_in c b) block_is,
    )
