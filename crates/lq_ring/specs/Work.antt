-- What control does to one band in a resize.
use Rattle.std.specs.Prelude.{◌≡◌, ◌⊎◌, ℕ, zero, suc, ◌+◌, ◌-◌, ◌/◌, ◌<◌, ◌==◌, if◌then◌else◌, true, List, [], take, drop, length, slice_index, slice_set, option_map, Some, Contains}
use Rattle.std.specs.Option.{unwrap_or}
use Rattle.lq_band_laws.specs.Three.{at}
use Rattle.lq_band_laws.specs.HalfResized.{IsBeforeResize, IsRefilled}
use Rattle.lq_model.specs.Plan.{band_in}
use Rattle.lq_model.specs.Positions.{holds_lock}
use Rattle.lq_model.specs.declared.fate.Fate.TheVariants as fate
use Rattle.lq_model.specs.declared.fate.Info.{Info}
use Rattle.lq_ring.specs.Fates.{fates_onto}
use Rattle.lq_table.specs.Views.{View, HalfResize, Work, no_resizing}
use Rattle.lq_table.specs.Resizes.{is_member, with_work, with_resizing}

-- the band's part of the resize that the seat has half done
abbrev pub work_at : ℕ → View → Work
work_at b v = at b (unwrap_or v.holder.resizing no_resizing).works

abbrev pub working : ℕ → Work → View → View
working b w v = with_resizing (option_map (with_work b w) v.holder.resizing) v

abbrev pub IsTurner : View → Type 0
IsTurner v = (holds_lock v.place.position ≡ true) × ((t : HalfResize) × (v.holder.resizing ≡ Some t) × (v.whole.state.resizing ≡ Some t))

-- it has this many slots, each empty or with one of its packets
abbrev pub HasSlots : ℕ → Work → Type 0
HasSlots limit w = (length w.slots ≡ limit) × ((x : ℕ) → (slice_index w.slots x ≡ 0) ⊎ (is_member (slice_index w.slots x) w ≡ true))

-- each of these is a packet of the capture and of this band
abbrev pub ArePacketsOf : List Info → ℕ → List ℕ → Type 0
ArePacketsOf infos b ns = (n : ℕ) → Contains ns n → (band_in infos n ≡ b) × (n < length infos)

-- a word is put back from the hand into a slot, unless it is 0
abbrev pub back_in : ℕ → ℕ → Work → Work
back_in i x w = if x == 0 then w else record w { slots = slice_set w.slots i x; hand = drop 1 w.hand }

-- this is made of the band's slots
abbrev pub changing_slots : ℕ → (List ℕ → List ℕ) → View → View
changing_slots b change v = let w = work_at b v in working b (record w { slots = change w.slots }) v

abbrev pub exchanged : ℕ → ℕ → List ℕ → List ℕ
exchanged i j s = slice_set (slice_set s i (slice_index s j)) j (slice_index s i)

-- after so many exchanges of the reversal from a up to b
abbrev pub reversed_to : ℕ → ℕ → ℕ → List ℕ → List ℕ
reversed_to a b zero s = s
reversed_to a b (suc k) s = exchanged (a + k) (b - 1 - k) (reversed_to a b k s)

-- after the reversals of the slots up to the head, of those from it on, and of all of them
abbrev pub rotated : ℕ → ℕ → List ℕ → List ℕ
rotated head size s = reversed_to 0 size ((size - 0) / 2) (reversed_to head size ((size - head) / 2) (reversed_to 0 head ((head - 0) / 2) s))

-- after so many slots from a place on were emptied
abbrev pub zeroed_to : ℕ → ℕ → List ℕ → List ℕ
zeroed_to from zero s = s
zeroed_to from (suc k) s = slice_set (zeroed_to from k s) (from + k) 0

-- the band's work is this now, and the fates of all packets that it dropped are stored
abbrev pub having_turned : ℕ → ℕ → Work → View → View
having_turned b event w v = record (working b w v) { settled = fates_onto (fate.Shrunk event) (work_at b v).waiting v.settled }

abbrev pub event_of_work : View → ℕ
event_of_work v = (unwrap_or v.holder.resizing no_resizing).event

-- the band at the beginning: what it held is kept up to the new length and dropped from there on
pub record IsWorkBegun (limit size tail head len : ℕ) (held : List ℕ) (w : Work) : Type 0 where
  pub kept_is : w.kept ≡ take len held
  pub waiting_is : w.waiting ≡ drop len held
  pub bare : w.hand ≡ []
  pub unturned : IsBeforeResize size limit w.slots held (record { head = head; tail = tail; edge = head })

-- the work on the band is done
pub record IsWorkDone (limit len : ℕ) (before after : Work) : Type 0 where
  pub kept_is : after.kept ≡ before.kept
  pub waiting_is : after.waiting ≡ []
  pub bare : after.hand ≡ []
  pub refilled : IsRefilled after.slots before.kept len
