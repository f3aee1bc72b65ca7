-- Cutting a seat in two, and joining two.
use Rattle.std.specs.Prelude.{ℕ, List, [], ◌∷◌, if◌then◌else◌, eqb, ◌-◌, false, ◌≡◌, None, slice_set, slice_index, ◌+◌, ◌++◌, true}
use Rattle.lq_band_laws.specs.Ring.{unlocked}
use Rattle.lq_band_laws.specs.Three.{all_three}
use Rattle.lq_model.specs.Machine.{idle_seat, Qdisc}
use Rattle.lq_table.specs.Sees.{view, slot, steps}
use Rattle.lq_table.specs.Views.{View, no_packets, not_first, not_holding, State}
use Rattle.lq_table.specs.declared.shared.Cpu.{Cpu}

-- split: a new seat gets one share and an owner of the seat that it is cut off from.

-- the list without one of its x
abbrev pub without : ℕ → List ℕ → List ℕ
without x [] = []
without x (y ∷ ys) = if eqb x y then ys else y ∷ without x ys

-- the seat without a share and this owner
abbrev pub split_view : ℕ → View → View
split_view o v = record v { share = record v.share { shares = v.share.shares - 1; owners = without o v.share.owners } }

-- a new seat, with one share and this owner
abbrev pub split_view_new : ℕ → View → View
split_view_new o v = record {
  share = record { shares = 1; owners = o ∷ []; about = v.share.about };
  place = idle_seat;
  packets = no_packets;
  locks = all_three unlocked;
  holder = not_holding;
  control = not_first;
  whole = record v.whole { told = false };
  turns = v.turns;
  settled = [];
  trail = [];
}

module _ {D : Type 0} where
  -- a new seat with its indices, of the same table, with one share and this owner, which carries no station
  abbrev pub IsSplitOff : ℕ → Cpu D → Cpu D → Type 0
  IsSplitOff owner from c = (c.known.seat.table_id ≡ from.known.seat.table_id) × (c.station ≡ None) × (slot c ≡ []) × (view c ≡ split_view_new owner (view from))

  -- it made no step, and was cut off this seat itself
  abbrev pub IsCutOff : Cpu D → Cpu D → Type 0
  IsCutOff from c = (steps c ≡ []) × (c.known.seat.me.0.depth ≡ from.known.seat.me.0.depth + 1)

-- join: the first seat gets all that the other has, its steps too, and learns the whole state by a load of word 0 (`load_base_log`).

-- turn words with those of these owners as other turn words have them
abbrev pub with_turns : List ℕ → List ℕ → List ℕ → List ℕ
with_turns [] from turns = turns
with_turns (o ∷ os) from turns = slice_set (with_turns os from turns) o (slice_index from o)

-- the first seat with all that the other has
abbrev pub join_view : View → View → View
join_view v w = record v {
  share = record v.share { shares = v.share.shares + w.share.shares; owners = v.share.owners ++ w.share.owners };
  control = if v.control.first then v.control else w.control;
  whole = record v.whole { told = false };
  turns = with_turns w.share.owners w.turns v.turns;
  settled = v.settled ++ w.settled;
  trail = if v.control.first then v.trail else w.trail;
}

-- the whole state is told
abbrev pub learn_view : Qdisc → State → View → View
learn_view q g v = record v { whole = record { told = true; qdisc = q; state = g } }
