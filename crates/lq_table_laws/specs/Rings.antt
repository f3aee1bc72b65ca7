-- Where a seat stands that makes a step at a ring's slot, and where control stands in a purge, a swap and a resize.
use Rattle.std.specs.Prelude.{◌≡◌, ◌⊎◌, ℕ, ◌+◌, ◌<◌, Bool, true, false, List, Some, None}
use Rattle.lq_band_laws.specs.Ring.{is_emptying}
use Rattle.lq_band_laws.specs.HalfResized.{IsBeforeResize}
use Rattle.lq_band_laws.specs.Three.{Three, at}
use Rattle.lq_model.specs.Plan.{band_in}
use Rattle.lq_model.specs.Positions.{holds_lock}
use Rattle.lq_model.specs.declared.machine.Position.TheVariants.{Control, Put, Scan}
use Rattle.lq_model.specs.Control.{is_quiet}
use Rattle.lq_model.specs.Machine.{Purge}
use Rattle.lq_model.specs.declared.machine.Phase.TheVariants.{Purged}
use Rattle.lq_table.specs.Views.{HalfResize, Setup, View, machine_packet}

-- it puts the packet n into a band: it has the band's producer lock, has stored nothing under it, and no resize is half done
pub record IsPuttingAt (k : Setup) (band n : ℕ) (v : View) : Type 0 where
  pub band_within : band < 3
  pub slot_within : (at band v.locks).index < k.max_len
  pub holds : Bool
  pub position : v.place.position ≡ Put (machine_packet k.infos n) holds
  pub of_band : band_in k.infos n ≡ band
  pub locks : (at band v.locks).holds ≡ true
  pub stored : (at band v.locks).stored ≡ false
  pub calm : v.holder.resizing ≡ None

-- it looks at a band's head: no slot is to be emptied, and no resize is half done
pub record IsLookingAt (k : Setup) (band : ℕ) (v : View) : Type 0 where
  pub band_within : band < 3
  pub slot_within : (at band v.holder.ends).head < k.max_len
  pub second : Bool
  pub position : v.place.position ≡ Scan band second
  pub rests : is_emptying v.holder.size (at band v.holder.ends) ≡ false
  pub calm : v.holder.resizing ≡ None

-- it empties the slot i of a band, of which a packet was taken
pub record IsEmptyingAt (k : Setup) (band i : ℕ) (v : View) : Type 0 where
  pub band_within : band < 3
  pub slot_within : i < k.max_len
  pub holds : holds_lock v.place.position ≡ true
  pub busy : is_emptying v.holder.size (at band v.holder.ends) ≡ true
  pub edge : i + 1 ≡ (at band v.holder.ends).edge
  pub calm : v.holder.resizing ≡ None

-- control in a purge that has come to a band: no slot is to be emptied, and no resize is half done
pub record IsPurgingAt (k : Setup) (band : ℕ) (u : Purge) (v : View) : Type 0 where
  pub band_within : band < 3
  pub slot_within : (at band v.holder.ends).head < k.max_len
  pub position : v.place.position ≡ Control true
  pub under_way : v.control.purge ≡ Some u
  pub band_is : u.band ≡ band
  pub rests : is_emptying v.holder.size (at band v.holder.ends) ≡ false
  pub calm : v.holder.resizing ≡ None

-- control with the run lock, of a station that was purged, with no purge half done: so it may swap the device
pub record IsAtSwap (v : View) : Type 0 where
  pub position : v.place.position ≡ Control true
  pub purged : v.control.phase ≡ Purged
  pub calm : v.control.purge ≡ None

-- control with the run lock may begin a purge: the calls inside were loaded as 0 since DEACTIVATED was set, or no other seat has a share
pub record IsAtPurge (v : View) : Type 0 where
  pub position : v.place.position ≡ Control true
  pub calm : v.control.purge ≡ None
  pub alone : (is_quiet v.control.phase ≡ true) ⊎ (v.share.shares ≡ 1024)

-- control with the run lock begins a resize, of which it was told what each band held
pub record BeginsResizeOf (limit : ℕ) (held : ℕ → List ℕ) (slots : Three (List ℕ)) (v : View) : Type 0 where
  pub position : v.place.position ≡ Control true
  pub no_purge : v.control.purge ≡ None
  pub calm : v.holder.resizing ≡ None
  pub told : (b : ℕ) → b < 3 → IsBeforeResize v.holder.size limit (at b slots) (held b) (at b v.holder.ends)

-- a holder of the run lock in the resize t
pub record IsInResize (t : HalfResize) (v : View) : Type 0 where
  pub holds : holds_lock v.place.position ≡ true
  pub under_way : v.holder.resizing ≡ Some t
