-- Where the packets of a station stand: what was brought has one place or a fate, and what waits stands in each owner's order.
use Rattle.std.specs.Prelude.{◌≡◌, ◌⊎◌, ◌<◌, ◌≤◌, ℕ, List, length, AllPairs, Contains, Some}
use Rattle.lq_model.specs.Account.{Account, Event, held, held_in}
use Rattle.lq_model.specs.Band.{Band}
use Rattle.lq_model.specs.Legal.{brought_by}
use Rattle.lq_model.specs.Plan.{owner_in, station_in, band_in}
use Rattle.lq_model.specs.declared.fate.Fate.{Fate}
use Rattle.lq_model.specs.declared.fate.Info.{Info}

-- WHAT WAS BROUGHT

-- what has a place or a fate was brought, and what was brought is of the station
pub record AreBrought (infos : List Info) (station : ℕ) (past : List Event) (a : Account) : Type 0 where
  pub packets : (n : ℕ) → Contains (brought_by past) n → (n < length infos) × (station_in infos n ≡ station)
  pub lines : (b n : ℕ) → Contains (a.bands b).line n → Contains (brought_by past) n
  pub slot : (n : ℕ) → a.slot ≡ Some n → Contains (brought_by past) n
  pub hand : (n : ℕ) → a.hand ≡ Some n → Contains (brought_by past) n
  pub fates : (n : ℕ) (f : Fate) → a.fates n ≡ Some f → Contains (brought_by past) n

-- the packet has a fate, is held or is in hand
abbrev pub IsPlaced : Account → ℕ → Type 0
IsPlaced a n = ((fate : Fate) × (a.fates n ≡ Some fate)) ⊎ (Contains (held a) n ⊎ (a.hand ≡ Some n))

-- no more was taken of a band than joined it
abbrev pub IsWithin : Band → Type 0
IsWithin band = band.taken ≤ length band.line

-- WHAT WAITS

-- the packet stands in one of the three bands
pub record InBand (a : Account) (n : ℕ) : Type 0 where
  pub band : ℕ
  pub below : band < 3
  pub holds : Contains (held_in a band) n

-- the packet is in hand, in the requeue slot or in a band
pub data Waits (a : Account) (n : ℕ) : Type 0 where
  in_hand : a.hand ≡ Some n → Waits a n
  in_slot : a.slot ≡ Some n → Waits a n
  in_band : (b : ℕ) → b < 3 → Contains (held_in a b) n → Waits a n

-- what waits has no fate
abbrev pub Undecided : Account → Type 0
Undecided a = (n : ℕ) (f : Fate) → Waits a n → a.fates n ≡ Some f → ⊥

-- of one owner and band the first packet is the lower one
abbrev pub Precedes : List Info → ℕ → ℕ → Type 0
Precedes infos m n = owner_in infos m ≡ owner_in infos n → band_in infos m ≡ band_in infos n → m < n

pub record KeepsOrder (infos : List Info) (a : Account) : Type 0 where
  -- a line has packets of its band alone, in each owner's order
  pub bands : (b n : ℕ) → Contains (a.bands b).line n → band_in infos n ≡ b
  pub lines : (b : ℕ) → AllPairs (Precedes infos) (a.bands b).line
  -- one of the hand and the requeue slot is empty, and what is there came before what the bands hold
  pub one : (m n : ℕ) → a.hand ≡ Some m → a.slot ≡ Some n → ⊥
  pub hand_ahead : (n : ℕ) → a.hand ≡ Some n → (b m : ℕ) → b < 3 → Contains (held_in a b) m → Precedes infos n m
  pub slot_ahead : (n : ℕ) → a.slot ≡ Some n → (b m : ℕ) → b < 3 → Contains (held_in a b) m → Precedes infos n m
