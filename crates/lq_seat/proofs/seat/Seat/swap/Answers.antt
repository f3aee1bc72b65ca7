use Rattle.std.proofs.Common.{◌<◌, ◌∷◌, sym, ap, ◌∙◌, subst}
use Rattle.lq_account_laws.specs.Trail.{down_of}
use Rattle.lq_control.specs.Control.{IsIn}
use Rattle.lq_model.specs.Account.{Down, Purge, Swap, Up}
use Rattle.lq_model.specs.declared.fate.Cause.TheVariants as cause
use Rattle.lq_seat.proofs.Steps.{swapped-drained, made-is, one-unit-more}
use Rattle.lq_seat.proofs.seat.Seat.swap.Goals as goal
use Rattle.lq_seat.specs.Calls.{DoesSwap}
use Rattle.lq_seat.specs.Rests.{AreUnitsSmall, phase_by}
use Rattle.lq_seat.specs.State.{IsWellMade, SeatState, units_of}
use Rattle.lq_control.proofs.CallLaws.{swaps_devices}
use Rattle.lq_control.specs.Steps.{SwapAt}
use Rattle.lq_qdisc.proofs.ListLemmas.{leads}
use Rattle.lq_table.specs.Sees.{known, setup, view}
use Rattle.lq_table.specs.Views.{Setup}

pub invariant_of-self : goal.invariant_of-self
invariant_of-self g c =
    let cpu = c.self.inside.cpu in let old = view cpu in let mid = view c.swap-old.new.cpu in let e = c.swap-old.ensures in let kept = e.same.1 in let was = c.self.invariant in
    record {
      live = subst (λ s. 0 < s.shares) (sym kept.share) was.live;
      at = e.at.0;
      ready = e.at.1;
      phase = λ now. subst (λ d. IsIn d mid) (sym (ap phase_by (ap down_of e.trail))) e.at.2;
      units = λ now. subst (λ (k : Setup). AreUnitsSmall k.station (units_of mid.trail)) (sym (ap (λ s. s.about) kept.share))
          (subst (AreUnitsSmall old.share.about.station) (sym (ap units_of e.trail))
          (one-unit-more old.share.about.station c.args.brought.unit (units_of old.trail) c.requires.may.small (was.units (ap (λ (s : SeatState). s.first) c.self.view_is ∙ c.requires.may.first))));
      made = subst IsWellMade (sym (ap (λ s. s.about) kept.share)) was.made;
    }

pub returns : goal.returns
returns g c plan params is =
    let sh = c.table.inside.shared in let cpu = c.self.inside.cpu in let old = view cpu in let e = c.swap-old.ensures in let event = c.args.brought.event in
    let made = made-is sh cpu c.args.table.now c.args.self.now c.table.view_is c.self.view_is c.requires.here in
    let steps = leads (SwapAt (setup sh) event c.args.brought.unit (g.D.TxDevice.state c.args.device) (g.D.TxDevice.state c.swap-old.result)) cpu c.swap-old.new.cpu e.makes in
    let devices = swaps_devices (setup sh) event c.args.brought.unit (g.D.TxDevice.state c.args.device) (g.D.TxDevice.state c.swap-old.result) (known cpu) (known c.swap-old.new.cpu) c.self.invariant.ready.1
    (ap (λ (s : SeatState). s.first) c.self.view_is ∙ c.requires.may.first) steps in
    subst (λ (s : SeatState). DoesSwap plan event params (g.D.TxDevice.state c.args.device) (g.D.TxDevice.state c.swap-old.result) s c.drain.new.self) c.self.view_is
    (swapped-drained sh cpu c.swap-old.new.cpu made plan event params (g.D.TxDevice.state c.args.device) (g.D.TxDevice.state c.swap-old.result) c.drain.new.self e.same.0 e.same.1
    (e.trail ∙ ap (λ u. Up ∷ Swap u ∷ Purge (cause.Event event) ∷ Down event ∷ old.trail) (sym is))
    devices (λ tells. e.alone plan params is tells) (c.args.brought.unit, steps) c.drain.ensures)
