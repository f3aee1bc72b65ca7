-- What a take makes of what the holder of the run lock knows.
use Rattle.std.specs.Prelude.{◌≡◌, ℕ, zero, suc, ◌-◌, if◌then◌else◌, Some}
use Rattle.lq_band_laws.specs.Three.{at, put}
use Rattle.lq_band_laws.specs.Ring.{Ends, after_take, taken_on, emptied_on, is_emptying}
use Rattle.lq_table.specs.Views.{View}
use Rattle.lq_table.specs.Consumers.{head_slot_view}
use Rattle.lq_table.specs.Rule.{shown}
use Rattle.lq_table.specs.Sees.{view}
use Rattle.lq_table.specs.declared.shared.Cpu.{Cpu}

-- how far a band's consumer is, as the holder has it and in the state beside the machine
abbrev pub having_ends : ℕ → Ends → Ends → View → View
having_ends b own known v = record v {
  holder = record v.holder { ends = put b own v.holder.ends };
  whole = record v.whole { state = record v.whole.state { ends = put b known v.whole.state.ends } };
}

-- after so many slots were emptied
abbrev pub emptied_times : ℕ → ℕ → Ends → Ends
emptied_times size zero c = c
emptied_times size (suc n) c = emptied_on size (emptied_times size n c)

-- how many slots a take empties, where its packet was taken
abbrev pub emptied_count : ℕ → Ends → ℕ
emptied_count size c = if is_emptying size c then c.head - c.tail else 0

-- the packet was taken from the band, and all slots were emptied that this asks
abbrev pub consuming : ℕ → ℕ → View → View
consuming b n v = let size = v.holder.size in let own = at b v.holder.ends in
    having_ends b (after_take size own) (emptied_times size (emptied_count size (taken_on own)) (taken_on (at b v.whole.state.ends))) (head_slot_view b n v)

-- the seat carries the station as it is due at its next step
abbrev pub CarriesStation : {D : Type 0} → Cpu D → Type 0
CarriesStation c = c.station ≡ Some (shown (view c).holder)
