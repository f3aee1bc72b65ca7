-- The stores of the fate words: when one may be stored, and what the store tells.
use Rattle.std.specs.Option.{option_map}
use Rattle.std.specs.Prelude.{length, ◌≡◌, ℕ, Bool, false, Some, true, List, ◌∷◌, ◌<◌, ◌+◌, Option, None}
use Rattle.lq_band_laws.specs.Three.{at}
use Rattle.lq_device.specs.Station.{StationState, HasAnswered}
use Rattle.lq_log.specs.Made.{Made, store}
use Rattle.lq_model.specs.Account.{Send}
use Rattle.lq_model.specs.Device.{is_busy}
use Rattle.lq_model.specs.Positions.{holds_lock}
use Rattle.lq_model.specs.declared.device.Tx.TheVariants.{Sent, SentStop, SentHang, Busy as NotSent}
use Rattle.lq_model.specs.declared.device.Tx.{Tx}
use Rattle.lq_model.specs.declared.fate.Fate.TheVariants as fate
use Rattle.lq_model.specs.declared.fate.Fate.{Fate}
use Rattle.lq_model.specs.declared.machine.Answer.TheVariants.{Plain, Stop, Hang, Busy}
use Rattle.lq_model.specs.declared.machine.Answer.{Answer}
use Rattle.lq_model.specs.declared.machine.Packet.{Packet}
use Rattle.lq_model.specs.declared.machine.Position.TheVariants.{Xmit}
use Rattle.lq_table.specs.Moves.{seen_by, moved, and_settled}
use Rattle.lq_table.specs.Places.{fates_offset}
use Rattle.lq_table.specs.Resizes.{settled_work, with_work, with_resizing}
use Rattle.lq_table.specs.Rule.{shown}
use Rattle.lq_table.specs.Sees.{Solo, heard, device_to}
use Rattle.lq_table.specs.Views.{View, HalfResize, Setup}

-- WHICH MAY BE STORED

-- the fate of a packet that the device accepts where its unit stands so
abbrev pub fate_sent : StationState → Fate
fate_sent st = fate.Sent st.unit (length st.device.accepted)

-- the device has just accepted the packet n, and the fate names its unit and its place in what that has sent
pub record MaySend (n : ℕ) (fate : Fate) (st : StationState) (v : View) : Type 0 where
  pub packet : Packet
  pub direct : Bool
  pub answer : Tx
  pub position : v.place.position ≡ Xmit packet direct
  pub in_hand : v.holder.hand ≡ Some n
  pub called : HasAnswered answer packet.queue n (shown v.holder) st
  pub accepted : is_busy answer ≡ false
  pub fate_is : fate ≡ fate_sent v.holder.station

-- a resize of this event has dropped the packet n of the band b: it is the first to be settled, and in control's hand
pub record MayShrink (b n event : ℕ) (v : View) : Type 0 where
  pub holds : holds_lock v.place.position ≡ true
  pub resizing : HalfResize
  pub under_way : v.holder.resizing ≡ Some resizing
  pub event_is : resizing.event ≡ event
  pub waiting : List ℕ
  pub first : (at b resizing.works).waiting ≡ n ∷ waiting
  pub hand : List ℕ
  pub in_hand : (at b resizing.works).hand ≡ n ∷ hand

-- Sent follows the device's answer; each other fate was decided by an earlier step, and the seat owes it
abbrev pub MaySettle : ℕ → ℕ → Fate → StationState → View → Type 0
MaySettle b n (fate.Sent unit serial) st v = MaySend n (fate.Sent unit serial) st v
MaySettle b n (fate.Full seen) st v = v.packets.owed ≡ Some (n, fate.Full seen)
MaySettle b n (fate.Refused event) st v = v.packets.owed ≡ Some (n, fate.Refused event)
MaySettle b n (fate.Purged cause) st v = v.packets.owed ≡ Some (n, fate.Purged cause)
MaySettle b n (fate.Shrunk event) st v = (b < 3) × MayShrink b n event v

-- THE STORE

-- settle: the fate of a packet is stored. The device accepted it, a step before owes its fate, or a resize dropped it.

abbrev pub settle_log : Setup → ℕ → ℕ → Made
settle_log k n v = store (fates_offset k + n) v

abbrev pub machine_answer : Option Tx → Answer
machine_answer None = Busy
machine_answer (Some Sent) = Plain
machine_answer (Some SentStop) = Stop
machine_answer (Some SentHang) = Hang
machine_answer (Some NotSent) = Busy

-- the packet in hand was accepted; the device is as the station st says
abbrev pub settle_view_sent : StationState → View → View
settle_view_sent st v = record (moved (machine_answer st.last) (seen_by v) (λ h. record h { station = st; hand = None; last = h.hand }) (λ g. record g { past = Send ∷ g.past; station = st }) v) { settled = and_settled (option_map (λ n. (n, fate_sent v.holder.station)) v.holder.hand) v.settled }

-- an owed fate is stored
abbrev pub settle_view_owed : View → View
settle_view_owed v = record v { packets = record v.packets { owed = None }; settled = and_settled v.packets.owed v.settled }

-- the packet n, which the resize of the event dropped from the band b, is settled
abbrev pub settle_view_shrunk : ℕ → ℕ → ℕ → View → View
settle_view_shrunk b n event v = record (with_resizing (option_map (λ (t : HalfResize). with_work b (settled_work (at b t.works)) t) v.holder.resizing) v) { settled = (n, fate.Shrunk event) ∷ v.settled }

-- the fate of the packet n of the band b was stored, where the station is as st says
abbrev pub settle_view : StationState → ℕ → ℕ → Fate → View → View
settle_view st b n (fate.Sent unit serial) v = settle_view_sent st v
settle_view st b n (fate.Full seen) v = settle_view_owed v
settle_view st b n (fate.Refused event) v = settle_view_owed v
settle_view st b n (fate.Purged cause) v = settle_view_owed v
settle_view st b n (fate.Shrunk event) v = settle_view_shrunk b n event v

-- a packet's fate was stored: where the device accepted it that is an event, and the device is as the station says
abbrev pub settle_alone : StationState → Fate → Solo → Solo
settle_alone st (fate.Sent unit serial) v = device_to st.device (heard Send v)
settle_alone st (fate.Full seen) v = v
settle_alone st (fate.Shrunk event) v = v
settle_alone st (fate.Purged cause) v = v
settle_alone st (fate.Refused event) v = v
