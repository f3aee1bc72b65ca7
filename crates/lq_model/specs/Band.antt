-- A band of a station, as lists and numbers: which packets joined it, which it holds, and when it is full.
use Rattle.std.specs.Prelude.{◌≡◌, ℕ, ◌+◌, ◌-◌, ◌%◌, ◌≤◌, nat_le, if◌then◌else◌, List, [], ◌∷◌, ◌++◌, length, take, drop, Some, slice_get}

-- BANDS

-- a band of a station
pub record Band : Type 0 where
  -- the packets that joined it since the last resize, the kept ones first
  pub line : List ℕ
  -- how many of them were taken
  pub taken : ℕ

abbrev pub empty_band : Band
empty_band = record { line = []; taken = 0 }

-- the packets that it holds, the oldest first
abbrev pub held_of : Band → List ℕ
held_of band = drop band.taken band.line

-- after a packet joined
abbrev pub joined : Band → ℕ → Band
joined band packet = record { line = band.line ++ packet ∷ []; taken = band.taken }

-- after the first so many that it held were taken
abbrev pub taken_by : Band → ℕ → Band
taken_by band count = record { line = band.line; taken = band.taken + count }

-- after a resize to a length: it keeps the first that it held, so many as that length
abbrev pub resized : Band → ℕ → Band
resized band len = record { line = take len (held_of band); taken = 0 }

-- FULL BANDS

-- How many slots are emptied at once: those of two cache lines of 64 bytes at pointers of 8 bytes, unless
-- that is more than half of the ring.
abbrev pub batch : ℕ → ℕ
batch size = if nat_le 32 size then 16 else 1

-- A packet may be dropped at a band of this length as full, where it saw that other one in its slot.
pub record MayBeFull (len : ℕ) (band : Band) (seen : ℕ) : Type 0 where
  -- the slot's last packet is the one that stands `len` places before the end
  pub again : len ≤ length band.line
  pub seen_is : slice_get band.line (length band.line - len) ≡ Some seen
  -- no more than a batch of the slots has a packet that was taken
  pub holds : len - batch len ≤ length (held_of band)

-- where no take is under way: how many slots of packets that were taken aren't empty yet
abbrev pub stale_count : ℕ → ℕ → ℕ
stale_count len taken = taken % len % batch len

-- where no take is under way, exactly then the slot of the next packet isn't empty
abbrev pub IsOccupied : ℕ → Band → Type 0
IsOccupied len band = length (held_of band) + stale_count len band.taken ≡ len
