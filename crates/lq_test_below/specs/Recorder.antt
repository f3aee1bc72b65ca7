-- What callers see of a device whose list can be read.
use Rattle.std.specs.Prelude.{◌≡◌, ℕ, ◌-◌, ◌≤◌, false, [], None, vec_len, vec_capacity}
use Rattle.lq_model.specs.Device.{DeviceState}
use Rattle.lq_device.specs.Asked.{asked_list}
use Rattle.lq_test_below.specs.declared.recorder.Recorder.{Recorder}

-- all of them are one device, as far as callers see
abbrev pub recorder_identity : ℕ
recorder_identity = 1

abbrev pub recorder_state : Recorder → DeviceState
recorder_state d = record {
  identity = recorder_identity;
  asked = asked_list d.asked;
  accepted = d.accepted.items;
  spare = vec_capacity d.accepted - vec_len d.accepted;
  busy_left = 0;
  hung = false;
  told = None;
}

-- A device that was asked nothing, so that it has accepted nothing, doesn't hang, and has room for so many packets.
abbrev pub IsFreshWithRoom : ℕ → DeviceState → Type 0
IsFreshWithRoom room d = (d.accepted ≡ []) × (d.hung ≡ false) × (room ≤ d.spare) × (d.asked ≡ [])
