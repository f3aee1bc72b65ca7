-- What the steps of control's calls come to.
use Rattle.std.specs.Prelude.{◌≡◌, ◌⊎◌, ℕ, List, ◌∷◌, ◌++◌, length, true, Contains}
use Rattle.lq_model.specs.Account.{Event, Purge, Resize, held, dropped_in}
use Rattle.lq_model.specs.Device.{DeviceState}
use Rattle.lq_model.specs.declared.fate.Cause.TheVariants as cause
use Rattle.lq_model.specs.declared.fate.Fate.TheVariants as fate
use Rattle.lq_ring.specs.Fates.{fates_onto}
use Rattle.lq_table.specs.Rule.{HasServed, latest_unit, units_of}
use Rattle.lq_table.specs.Sees.{IsSole, account_of}
use Rattle.lq_table.specs.Views.{View, Setup}
use Rattle.lq_qdisc.specs.Calls.{KeepsFates}
use Rattle.lq_control.specs.Control.{IsKeptByControl, KeepsDevice, Stores}
use Rattle.lq_control.specs.Finish.{AreAllDone}

-- these events came, what control keeps is kept, and so many packets are purged by this event: for a seat that has the table alone all
-- that its account holds
pub record LeavesPurged (events : List Event) (event count : ℕ) (v w : View) : Type 0 where
  pub kept : IsKeptByControl v w
  pub trail : w.trail ≡ events ++ v.trail
  pub lost : List ℕ
  pub stores : Stores (fate.Purged (cause.Event event)) lost v w
  pub counted : count ≡ length lost
  pub all : IsSole v → lost ≡ held (account_of v)

-- the event came, what control keeps is kept, and so many packets have Shrunk by it: for a seat that has the table alone those that its
-- account drops
pub record Shrinks (len event count : ℕ) (v w : View) : Type 0 where
  pub kept : IsKeptByControl v w
  pub device : KeepsDevice v w
  pub trail : w.trail ≡ Resize len event ∷ v.trail
  pub lost : List ℕ
  pub settled : w.settled ≡ fates_onto (fate.Shrunk event) lost v.settled
  pub counted : count ≡ length lost
  pub all : IsSole v → lost ≡ (dropped_in len (account_of v) 0 ++ (dropped_in len (account_of v) 1 ++ dropped_in len (account_of v) 2))

-- what a swap tells of the device that came and the one that went
pub record SwapsFor (came went : DeviceState) (v w : View) : Type 0 where
  pub origin : w.control.origin ≡ came
  pub gone : w.control.gone ≡ (latest_unit v.share.about.station (units_of v.trail), went.accepted) ∷ v.control.gone
  pub has_served : HasServed v.share.about.infos v.share.about.station v.control.origin went

-- all packets of the station were transmitted, and fates that were stored stay so
pub record ComesToEnd (k : Setup) (count : ℕ) (v w : View) : Type 0 where
  pub done : AreAllDone k w.turns
  pub fates : KeepsFates v w
  -- each purge of a hung station on the trail came before, or is by the present unit, whose device hangs
  pub hung : (unit : ℕ) → Contains w.trail (Purge (cause.Hung unit))
      → Contains v.trail (Purge (cause.Hung unit)) ⊎ (((account_of w).unit ≡ unit) × (w.whole.state.station.device.hung ≡ true))
  -- Where all were transmitted before, nothing comes on the trail, and 0 is counted; or the purge of what a hung device left, by the
  -- account's unit.
  pub turns : AreAllDone k v.turns → w.turns ≡ v.turns
  pub purges : AreAllDone k v.turns → ((w.trail ≡ v.trail) × (count ≡ 0)) ⊎ (w.trail ≡ Purge (cause.Hung (account_of w).unit) ∷ v.trail)
