-- The steps of a resize. In the account the resize is one event at its beginning; what control does from there on is to bring the slots to
-- what each band keeps, and to store the fates of what it dropped.
use Rattle.std.specs.Prelude.{ℕ, ◌+◌, ◌==◌, ◌||◌, Bool, false, List, [], ◌∷◌, ◌++◌, ◌-◌, if◌then◌else◌, slice_set, slice_index, drop, Option, ◌≡◌, Some, true, None, take, map, ◌<◌, length, Contains, ◌*◌}
use Rattle.lq_band_laws.specs.HalfResized.{IsBeforeResize, IsRefilled}
use Rattle.lq_band_laws.specs.Ring.{locked_at, at_start}
use Rattle.lq_band_laws.specs.Three.{put, Three, at, all_three}
use Rattle.lq_log.specs.Made.{Made, swap, store}
use Rattle.lq_model.specs.Account.{Resize, held_in}
use Rattle.lq_model.specs.Plan.{band_in}
use Rattle.lq_model.specs.declared.fate.Info.{Info}
use Rattle.lq_model.specs.declared.machine.Phase.TheVariants.{Active, Closing, Quiet, Purged}
use Rattle.lq_model.specs.declared.machine.Phase.{Phase}
use Rattle.lq_ring_core.specs.Slots.{round}
use Rattle.lq_table.specs.Places.{slot_word, producer_place, size_place}
use Rattle.lq_table.specs.Rule.{IsResting}
use Rattle.lq_table.specs.Sees.{lock_at, IsSole, account_of}
use Rattle.lq_table.specs.Views.{Work, HalfResize, View, Setup}
use Rattle.lq_table.specs.declared.shared.Cpu.{Cpu}

-- THE WORK ON A BAND

-- whether a word is that of one of these packets
abbrev pub is_word : ℕ → List ℕ → Bool
is_word x [] = false
is_word x (n ∷ ns) = (x == n + 1) || is_word x ns

-- whether it is that of a packet that the band keeps or has still to settle
abbrev pub is_member : ℕ → Work → Bool
is_member x w = is_word x (w.kept ++ w.waiting)

abbrev pub hand_with : Bool → ℕ → List ℕ → List ℕ
hand_with member x hand = if member then (x - 1) ∷ hand else hand

-- the slot i was emptied; its packet came into the hand where it is such a one
abbrev pub out_of : ℕ → Work → Work
out_of i w = record w { slots = slice_set w.slots i 0; hand = hand_with (is_member (slice_index w.slots i) w) (slice_index w.slots i) w.hand }

-- the packet n was put from the hand into the empty slot i
abbrev pub into : ℕ → ℕ → List ℕ → Work → Work
into i n hand w = record w { slots = slice_set w.slots i (n + 1); hand = hand }

-- the first of the dropped packets, which is in hand, has its fate stored
abbrev pub settled_work : Work → Work
settled_work w = record w { waiting = drop 1 w.waiting; hand = drop 1 w.hand }

abbrev pub with_work : ℕ → Work → HalfResize → HalfResize
with_work b w t = record t { works = put b w t.works }

-- the resize stands so
abbrev pub with_resizing : Option HalfResize → View → View
with_resizing o v = record v { holder = record v.holder { resizing = o }; whole = record v.whole { state = record v.whole.state { resizing = o } } }

-- a resize is half done
abbrev pub HasHalfResize : View → Type 0
HasHalfResize v = (t : HalfResize) × (v.holder.resizing ≡ Some t)

-- THE STEPS

-- begin_resize: a load of the size word begins it. In the log it is a load of the size.

-- it may begin while the station is active, and while it is deactivated once the purge has ended, when nothing is held
abbrev pub may_resize : Phase → Bool
may_resize Active = true
may_resize Closing = false
may_resize Quiet = false
may_resize Purged = true

-- no purge, no resize and no take is half done
abbrev pub HasNothingHalfDone : View → Type 0
HasNothingHalfDone v = (v.control.purge ≡ None) × (v.holder.resizing ≡ None) × IsResting v.holder.size v.holder.ends

-- something for each band
abbrev pub each_band : {A : Type 0} → (ℕ → A) → Three A
each_band f = record { low = f 0; mid = f 1; high = f 2 }

-- a resize of these bands, with these slots, at its beginning
abbrev pub resizing_of : ℕ → ℕ → (ℕ → List ℕ) → Three (List ℕ) → HalfResize
resizing_of len event held slots = record { len = len; event = event; works = each_band (λ b. record { kept = take len (held b); waiting = drop len (held b); slots = at b slots; hand = [] }) }

-- the resize began
abbrev pub begin_resize_view : HalfResize → View → View
begin_resize_view t v = record v {
  holder = record v.holder { resizing = Some t };
  whole = record v.whole {
    qdisc = record v.whole.qdisc { bands = map (λ band. take t.len band) v.whole.qdisc.bands; len = t.len };
    state = record v.whole.state { past = Resize t.len t.event ∷ v.whole.state.past; resizing = Some t };
  };
  trail = Resize t.len t.event ∷ v.trail;
}

-- The resize to this length began, for this event: control knows what each band held, and the slots, in which the held packets stand
-- from the head on; after a purge none was held.
abbrev pub BeginsResize : List Info → ℕ → ℕ → ℕ → View → View → Type 0
BeginsResize infos limit len event v w = (held : ℕ → List ℕ) × (slots : Three (List ℕ)) × (w ≡ begin_resize_view (resizing_of len event held slots) v)
    × ((b : ℕ) → b < 3 → IsBeforeResize v.holder.size limit (at b slots) (held b) (at b v.holder.ends))
    × ((b n : ℕ) → b < 3 → Contains (held b) n → (band_in infos n ≡ b) × (n < length infos))
    × (v.control.phase ≡ Purged → (b : ℕ) → b < 3 → held b ≡ [])
    × (IsSole v → (b : ℕ) → b < 3 → held b ≡ held_in (account_of v) b)

-- clear_slot: a slot is emptied, and a packet that its band has comes into the hand.

abbrev pub clear_slot_log : Setup → ℕ → ℕ → ℕ → Made
clear_slot_log k band i found = swap (slot_word k band i) 0 found

-- the slot i of a band was emptied
abbrev pub clear_slot_view : ℕ → ℕ → HalfResize → View → View
clear_slot_view b i t v = with_resizing (Some (with_work b (out_of i (at b t.works)) t)) v

-- fill_slot: a packet is put from the hand into an empty slot. In the log it is a store of a slot.

-- control has the packet n of a band in hand as the latest, and the slot i is empty
abbrev pub MayFill : ℕ → ℕ → ℕ → View → Type 0
MayFill b i n v = (t : HalfResize) × (hand : List ℕ) × (v.holder.resizing ≡ Some t) × ((at b t.works).hand ≡ n ∷ hand) × (slice_index (at b t.works).slots i ≡ 0)

-- the packet n was put into the slot i of a band, and these stay in the hand
abbrev pub fill_slot_view : ℕ → ℕ → ℕ → List ℕ → HalfResize → View → View
fill_slot_view b i n hand t v = with_resizing (Some (with_work b (into i n hand (at b t.works)) t)) v

-- set_producer: a producer word is stored as locked, with the index behind what the band keeps.

abbrev pub set_producer_log : ℕ → ℕ → Made
set_producer_log band index = store (producer_place band) (2 * index + 1)

-- store_size: the new length is stored, and the rings start again.

module _ {D : Type 0} where
  -- in each band what it keeps stands from slot 0 on, its producer is set behind that, and no fate is owed
  abbrev pub AreRefilled : HalfResize → Cpu D → Type 0
  AreRefilled t c = (b : ℕ) → b < 3 → IsRefilled (at b t.works).slots (at b t.works).kept t.len × (lock_at b c ≡ locked_at (round t.len (length (at b t.works).kept))) × ((at b t.works).waiting ≡ [])

abbrev pub store_size_log : ℕ → Made
store_size_log len = store size_place len

-- the rings start again, at the new length
abbrev pub store_size_view : HalfResize → View → View
store_size_view t v = record v {
  holder = record v.holder { size = t.len; ends = all_three at_start; resizing = None };
  whole = record v.whole { state = record v.whole.state { ends = all_three at_start; resizing = None } };
}
