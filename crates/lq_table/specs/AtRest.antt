-- What a seat that has the table alone, and is in no call, knows of what is left at its station.
use Rattle.std.specs.Prelude.{◌≡◌, true, ◌⊎◌, ℕ, Contains, Some, ◌+◌, ◌*◌, ◌<◌, ◌≤◌, false, [], length, slice_index, None, is_some}
use Rattle.lq_band_laws.specs.Ring.{unlocked}
use Rattle.lq_band_laws.specs.Three.{all_three}
use Rattle.lq_model.specs.Account.{Account, held}
use Rattle.lq_model.specs.Machine.{Qdisc, is_closed}
use Rattle.lq_model.specs.Plan.{owner_in, station_in, rank_in}
use Rattle.lq_model.specs.declared.fate.Fate.{Fate}
use Rattle.lq_model.specs.declared.machine.Phase.TheVariants.{Purged}
use Rattle.lq_table.specs.Moves.{at_rest}
use Rattle.lq_table.specs.Rule.{times}
use Rattle.lq_table.specs.Sees.{IsSole, account_of}
use Rattle.lq_table.specs.Views.{View, no_packets, Setup, State}

-- it has the table alone, is in no call, and has no packet of its own and no producer lock
abbrev pub IsSoleAtRest : View → Type 0
IsSoleAtRest v = IsSole v × (at_rest v.place.position ≡ true) × (v.packets ≡ no_packets) × (v.locks ≡ all_three unlocked)

-- in the account the packet has a fate, or is held
abbrev pub IsFatedOrHeld : Account → ℕ → Type 0
IsFatedOrHeld a n = ((f : Fate) × (a.fates n ≡ Some f)) ⊎ Contains (held a) n

-- of the machine q, the state g and the account a
pub record IsRest (k : Setup) (v : View) (q : Qdisc) (g : State) (a : Account) : Type 0 where
  pub hand_empty : a.hand ≡ None
  -- no swap of the device is half done
  pub shut : g.shut ≡ None
  -- each packet of the seat's owners whose turn was taken has a fate or is held
  pub kept : (n : ℕ) → n < length k.infos → station_in k.infos n ≡ k.station → 0 < times (owner_in k.infos n) v.share.owners → 2 * rank_in k.infos n + 1 ≤ slice_index v.turns (owner_in k.infos n) → IsFatedOrHeld a n
  -- an active station with SCHED clear whose queues are open holds nothing
  pub quiet : q.sched ≡ false → a.down ≡ None → ((queue : ℕ) → queue < k.queues → slice_index a.stops queue ≡ 0) → held a ≡ []
  -- nor does one that was purged
  pub purged : v.control.first ≡ true → v.control.phase ≡ Purged → v.control.purge ≡ None → held a ≡ []
  pub down : v.control.first ≡ true → is_some a.down ≡ is_closed v.control.phase
  -- the device is the account's present unit
  pub unit : a.unit ≡ g.station.unit
  -- no stop word says hung of a device that doesn't hang
  pub hung : (queue : ℕ) → slice_index a.stops queue ≡ 2 → g.station.device.hung ≡ true

abbrev pub KnowsRest : View → Type 0
KnowsRest v = IsRest v.share.about v v.whole.qdisc v.whole.state (account_of v)
