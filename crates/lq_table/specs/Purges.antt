-- The steps of a purge. In the account the purge is one event at its beginning; what control does from there on is to take the packets from
-- the bands and to store their fates.
use Rattle.std.specs.Option.{option_map}
use Rattle.std.specs.Prelude.{false, ◌∷◌, Some, None, ℕ, ◌<◌, ◌≤◌, length, List, Contains, ◌≡◌, ◌+◌, Option, true, slice_set, not, nat_lt, if◌then◌else◌}
use Rattle.lq_band_laws.specs.Ring.{taken_on}
use Rattle.lq_band_laws.specs.Three.{Three, at, put}
use Rattle.lq_model.specs.Account.{Purge as PurgeEvent}
use Rattle.lq_model.specs.Band.{Band, held_of, taken_by}
use Rattle.lq_model.specs.Control.{after_purge}
use Rattle.lq_model.specs.Machine.{Purge, Qdisc}
use Rattle.lq_model.specs.declared.fate.Cause.{Cause}
use Rattle.lq_model.specs.declared.fate.Fate.TheVariants as fate
use Rattle.lq_model.specs.declared.fate.Info.{Info}
use Rattle.lq_model.specs.declared.machine.Position.TheVariants.{Control}
use Rattle.lq_table.specs.Sees.{view, position, IsSole, account_of}
use Rattle.lq_table.specs.Views.{View, Left, machine_packets}
use Rattle.lq_table.specs.declared.shared.Cpu.{Cpu}

-- begin_purge: a load of the state begins the purge. In the log it is a load of the state.

abbrev pub first_purge : Purge
first_purge = record { band = 0; missed = false; draining = false }

-- the purge begins: in the account it is done; the seat owes the fate of the packet in the requeue slot, and has the bands before it
abbrev pub begin_purge_view : Cause → Three Band → View → View
begin_purge_view c bands v = record v {
  packets = record v.packets { owed = option_map (λ n. (n, fate.Purged c)) v.holder.slot };
  holder = record v.holder { slot = None; left = Some (record { cause = c; bands = bands }) };
  control = record v.control { purge = Some first_purge };
  whole = record v.whole {
    qdisc = record v.whole.qdisc { slot = None; purge = Some first_purge };
    state = record v.whole.state { past = PurgeEvent c ∷ v.whole.state.past; left = Some (record { cause = c; bands = bands }) };
  };
  trail = PurgeEvent c ∷ v.trail;
}

-- no band holds more than the rings' length
abbrev pub HoldsAtMost : ℕ → Three Band → Type 0
HoldsAtMost size bands = (b : ℕ) → b < 3 → length (held_of (at b bands)) ≤ size

-- each packet that they hold is one of the capture
abbrev pub HoldPackets : List Info → Three Band → Type 0
HoldPackets infos bands = (b n : ℕ) → b < 3 → Contains (held_of (at b bands)) n → n < length infos

-- a seat that has the table alone finds what its account says
abbrev pub AreKnown : View → Three Band → Type 0
AreKnown v bands = IsSole v → (b : ℕ) → b < 3 → at b bands ≡ (account_of v).bands b

-- begin_hung_purge: the same for a hung device.

module _ {D : Type 0} where
  -- control that has all shares and the run lock, while the device hangs
  abbrev pub MayPurgeHung : Cpu D → Type 0
  MayPurgeHung c = (position c ≡ Control true) × ((view c).share.shares ≡ 1024) × ((view c).holder.station.device.hung ≡ true)

-- purge_slot: the slot at the head of a band is loaded, and its packet is taken. In the log it is a load of a slot.

module _ {D : Type 0} where
  -- control that has come to this band in a purge
  abbrev pub IsPurgingBand : ℕ → Cpu D → Type 0
  IsPurgingBand band c = (u : Purge) × (l : Left) × (position c ≡ Control true) × ((view c).control.purge ≡ Some u) × (u.band ≡ band) × ((view c).holder.left ≡ Some l)

-- control took the first packet from the band b
abbrev pub purged_one : ℕ → Left → Left
purged_one b l = record l { bands = put b (taken_by (at b l.bands) 1) l.bands }

abbrev pub purge_slot_view : ℕ → ℕ → Left → View → View
purge_slot_view b n l v = record v {
  packets = record v.packets { owed = Some (n, fate.Purged l.cause) };
  holder = record v.holder { ends = put b (taken_on (at b v.holder.ends)) v.holder.ends; left = Some (purged_one b l) };
  whole = record v.whole {
    qdisc = record v.whole.qdisc { bands = slice_set v.whole.qdisc.bands b (machine_packets v.share.about.infos (held_of (taken_by (at b l.bands) 1))) };
    state = record v.whole.state { ends = put b (taken_on (at b v.whole.state.ends)) v.whole.state.ends; left = Some (purged_one b l) };
  };
}

-- the band was found empty: the purge goes on with the next
abbrev pub next_band : Purge → Purge
next_band u = record u { band = u.band + 1 }

abbrev pub purge_slot_view_empty : Purge → View → View
purge_slot_view_empty u v = record v {
  control = record v.control { purge = Some (next_band u) };
  whole = record v.whole { qdisc = record v.whole.qdisc { purge = Some (next_band u) } };
}

-- the purge has passed the last band, and no resize is half done
abbrev pub HasPassedBands : View → Type 0
HasPassedBands v = (u : Purge) × (l : Left) × (v.control.purge ≡ Some u) × (not (nat_lt u.band 3) ≡ true) × (v.holder.left ≡ Some l) × (v.holder.resizing ≡ None)

-- reset_missed, reset_draining: control clears the bits after the last packet, and the purge ends with the second. In the log they are as
-- clear_missed and clear_draining.

-- a purge ends as MISSED or DRAINING is cleared: nothing is left of it
abbrev pub purge_ending : (Qdisc → Qdisc) → View → View
purge_ending bit v = record v {
  holder = record v.holder { left = None };
  control = record v.control { phase = after_purge v.control.phase; purge = None };
  whole = record v.whole {
    qdisc = record (bit v.whole.qdisc) { phase = after_purge v.whole.qdisc.phase; purge = None };
    state = record v.whole.state { left = None };
  };
}

-- or it goes on to the other of these bits
abbrev pub purge_going : (Qdisc → Qdisc) → Purge → View → View
purge_going bit u v = record v {
  control = record v.control { purge = Some u };
  whole = record v.whole { qdisc = record (bit v.whole.qdisc) { purge = Some u } };
}

abbrev pub no_missed : Qdisc → Qdisc
no_missed q = record q { missed = false }

abbrev pub no_draining : Qdisc → Qdisc
no_draining q = record q { draining = false }

-- control clears MISSED after the last packet of a purge
abbrev pub reset_missed_view_in : Option Purge → View → View
reset_missed_view_in (Some u) v = if u.draining then purge_ending no_missed v else purge_going no_missed (record u { missed = true }) v
reset_missed_view_in None v = v

abbrev pub reset_missed_view : View → View
reset_missed_view v = reset_missed_view_in v.control.purge v

-- and DRAINING
abbrev pub reset_draining_view_in : Option Purge → View → View
reset_draining_view_in (Some u) v = if u.missed then purge_ending no_draining v else purge_going no_draining (record u { draining = true }) v
reset_draining_view_in None v = v

abbrev pub reset_draining_view : View → View
reset_draining_view v = reset_draining_view_in v.control.purge v
