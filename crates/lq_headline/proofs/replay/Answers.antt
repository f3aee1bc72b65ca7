use Rattle.std.proofs.Common.{◌≡◌, ◌∷◌, [], ℕ, List, ap, map, refl, subst, vec_len}
use Rattle.lq_model.specs.Device.{DeviceState}
use Rattle.lq_table.specs.Ended.{ended_state}
use Rattle.lq_headline.proofs.Replays.{Replays, replays}
use Rattle.lq_headline.proofs.replay.Goals as goal

-- what the devices accepted, by their states
accepted-is : {D : Type 0} (state : D → DeviceState) (devices : List D) → map (λ (d : DeviceState). d.accepted) (map state devices) ≡ map (λ device. (state device).accepted) devices
accepted-is state [] = refl
accepted-is state (device ∷ devices) = ap (λ (rest : List (List ℕ)). (state device).accepted ∷ rest) (accepted-is state devices)

pub returns : goal.returns
returns g c = record {
  headline = λ done.
      subst (Replays c.args.plan.now c.args.capture.now c.args.out.now (g.H.Host.state c.args.host.now) (g.H.Host.state c.lqtx.new.host))
      (accepted-is g.D.TxDevice.state c.lqtx.new.bench.items)
      (replays c.args.plan.now c.args.capture.now c.args.out.now (vec_len c.args.bench.now) (g.H.Host.state c.args.host.now) (g.H.Host.state c.lqtx.new.host)
      (map g.D.TxDevice.state c.args.bench.now.items) (map g.D.TxDevice.state c.lqtx.new.bench.items) (map ended_state c.lqtx.new.ended.items)
      (g.met.H.Host.output_is_open c.args.host.now) c.lqtx.result done c.lqtx.ensures.some);
}
