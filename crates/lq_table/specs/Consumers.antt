-- The steps of the holder of the run lock on the slots. In the log they are loads and stores of a slot (`load_slot_log`, `store_slot_log`).
use Rattle.std.specs.Prelude.{false, ℕ, List, [], ◌∷◌, slice_set, ◌≡◌, None, true, slice_index, is_some, Some, ◌-◌, slice_get, ◌==◌, if◌then◌else◌, ◌+◌}
use Rattle.lq_band_laws.specs.Ring.{is_emptying, taken_on, emptied_on}
use Rattle.lq_band_laws.specs.Three.{at, put}
use Rattle.lq_device.specs.Station.{StationState}
use Rattle.lq_model.specs.Account.{Empty, Take, held_in}
use Rattle.lq_model.specs.Machine.{Qdisc, first_qdisc}
use Rattle.lq_model.specs.declared.machine.Answer.TheVariants.{Plain}
use Rattle.lq_model.specs.declared.machine.Packet.{Packet}
use Rattle.lq_table.specs.Moves.{moved, past_with}
use Rattle.lq_table.specs.Sees.{view, ends_at, carried, IsSole, account_of}
use Rattle.lq_table.specs.Views.{View, machine_packet}
use Rattle.lq_table.specs.declared.shared.Cpu.{Cpu}

-- the machine as a load of the slot at the head shows it
abbrev pub seen_band : ℕ → List Packet → Qdisc
seen_band b ps = record (first_qdisc 0 false 1) { bands = slice_set ([] ∷ [] ∷ [] ∷ []) b ps }

-- head_slot: the slot at the head of a band is loaded, and the packet in it is taken.

module _ {D : Type 0} where
  -- no resize is half done, and no slot of the band is to be emptied before the next take
  abbrev pub IsBetweenTakes : ℕ → Cpu D → Type 0
  IsBetweenTakes band c = ((view c).holder.resizing ≡ None) × (is_emptying (view c).holder.size (ends_at band c) ≡ false)

  -- it carries the station, with the head of the band as it knows it
  abbrev pub CarriesHead : ℕ → Cpu D → Type 0
  CarriesHead band c = (is_some c.station ≡ true) × (slice_index (carried c).heads band ≡ (ends_at band c).head)

-- the band was found empty
abbrev pub head_slot_view_empty : ℕ → View → View
head_slot_view_empty b v = moved Plain (seen_band b []) (λ h. h) (past_with (Empty b)) v

-- the packet was taken from the band
abbrev pub head_slot_view : ℕ → ℕ → View → View
head_slot_view b n v = moved Plain (seen_band b (machine_packet v.share.about.infos n ∷ [])) (λ h. record h { ends = put b (taken_on (at b h.ends)) h.ends; hand = Some n })
    (λ g. record g { past = Take b ∷ g.past; ends = put b (taken_on (at b g.ends)) g.ends }) v

-- the first packet of a band, from its slot at the head
abbrev pub SeesHead : ℕ → View → ℕ → Type 0
SeesHead b v found = IsSole v → slice_get (held_in (account_of v) b) 0 ≡ (if found == 0 then None else Some (found - 1))

-- zero_slot: the slot below the edge is emptied.

module _ {D : Type 0} where
  -- slots of the band are to be emptied, and the slot i is the next of them
  abbrev pub IsNextToEmpty : ℕ → ℕ → Cpu D → Type 0
  IsNextToEmpty band i c = (is_emptying (view c).holder.size (ends_at band c) ≡ true) × (i + 1 ≡ (ends_at band c).edge)

  -- the station that it carries has the band's ends as they were before the packet at the head was taken
  abbrev pub CarriesEndsBeforeTake : ℕ → Cpu D → Type 0
  CarriesEndsBeforeTake band c = (st : StationState) × (c.station ≡ Some st) × (slice_index st.heads band + 1 ≡ (ends_at band c).head) × (slice_index st.tails band ≡ (ends_at band c).tail)

-- the slot below the edge was emptied
abbrev pub zero_slot_view : ℕ → View → View
zero_slot_view b v = record v {
  holder = record v.holder { ends = put b (emptied_on v.holder.size (at b v.holder.ends)) v.holder.ends };
  whole = record v.whole { state = record v.whole.state { ends = put b (emptied_on v.holder.size (at b v.whole.state.ends)) v.whole.state.ends } };
}
