use Rattle.std.proofs.Common.{◌≡◌, ◌≤◌, ◌-◌, map, replicate, vec_len, vec_capacity}
use Rattle.lq_device.specs.Bench.{bench_state, unconfigured}
use Rattle.lq_top.proofs.program.bench_devices.Given as goal

abbrev pub invariant-loop-alloc : goal.invariant-loop-alloc
invariant-loop-alloc l =
    record {
      few : vec_len l.devices ≤ 16;
      room : 16 ≤ vec_capacity l.devices;
      new : map bench_state l.devices.items ≡ replicate (vec_len l.devices) unconfigured;
    }

abbrev pub decreases-loop-alloc : goal.decreases-loop-alloc
decreases-loop-alloc l = 16 - vec_len l.devices
