-- What callers see of a device of the built-in bench.
use Rattle.std.specs.Prelude.{ℕ, ◌-◌, false, [], Some, vec_len, vec_capacity}
use Rattle.lq_model.specs.Device.{DeviceState}
use Rattle.lq_device.specs.Asked.{asked_list}
use Rattle.lq_device.specs.declared.bench.BenchDevice.{BenchDevice}

-- all of them are one device, as far as callers see
abbrev pub bench_identity : ℕ
bench_identity = 0

abbrev pub bench_state : BenchDevice → DeviceState
bench_state d = record {
  identity = bench_identity;
  asked = asked_list d.asked;
  accepted = d.accepted.items;
  spare = vec_capacity d.accepted - vec_len d.accepted;
  busy_left = d.params.busy_limit - d.busies;
  hung = d.hung;
  told = Some (record { params = d.params; busies = d.busies });
}

-- one that was never configured has no room, and tells that no rule is on
abbrev pub unconfigured : DeviceState
unconfigured = record {
  identity = bench_identity;
  asked = [];
  accepted = [];
  spare = 0;
  busy_left = 0;
  hung = false;
  told = Some (record { params = record { burst = 0; busy_every = 0; busy_limit = 0; hang_after = 0 }; busies = 0 });
}
