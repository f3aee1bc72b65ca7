use Rattle.std.proofs.Common.{rules, false, true, List, ◌∷◌, sym, ap, ◌∙◌, subst, Contains}
use Rattle.lq_model.specs.Account.{Event, Swap, Up}
use Rattle.lq_model.specs.Alone.{changed}
use Rattle.lq_model.specs.declared.plan.EventKind.TheVariants as kind
use Rattle.lq_table.specs.Views.{first_account}
use Rattle.lq_table.specs.Sees.{view, setup, Solo, device_to, heard, solo}
use Rattle.lq_table.specs.Locks.{locked_to}
use Rattle.lq_table.specs.Rule.{units_of}
use Rattle.lq_qdisc.specs.Alone.{HasAll}
use Rattle.lq_control.proofs.Keeps.{keeps_reopened, reopened_at, reopened_trail, seat_then}
use Rattle.lq_qdisc.specs.StepLists.{Then}
use Rattle.lq_table.specs.Step.{Standing, Step}
use Rattle.lq_control.specs.Steps.{ChangeDevice, Deactivate, DevDeactivateMany, Reactivate, WaitUntilClear}
use Rattle.lq_control.proofs.StepLemmas.{and_then, reactivated}
use Rattle.lq_control.proofs.Alone.{downed, downed_at, stepped_at, swap_alone}
use Rattle.lq_control.proofs.swaps.swap.Goals as goal

pub swap_device-old-requires-clause-may : goal.swap_device-old-requires-clause-may
swap_device-old-requires-clause-may g c _ _ = record {
  at = search rules;
  in_phase = search rules;
  next =
      let trail = c.wait_until_clear.ensures.served.trail ∙ c.deactivate.ensures.trail in let u = c.requires.may.next in
      (u.0, record { first = u.1.first; later = λ n h. u.1.later n (subst (λ (es : List Event). Contains (units_of es) n) trail h) });
  fresh = search rules;
}

pub returns : goal.returns
returns g c = record {
  same =
      let c0 = c.args.cpu.now in let c1 = c.deactivate.new.cpu in let c2 = c.wait_until_clear.new.cpu in let c3 = c.swap_device-old.new.cpu in let c4 = c.clear_deactivated.new.cpu in let c5 = c.end_control.new.cpu in
      let d = c.deactivate.ensures in let w = c.wait_until_clear.ensures in let r = c.swap_device-old.ensures in let o = c.clear_deactivated.ensures in let e = c.end_control.ensures in
      let k = (keeps_reopened (view c3) (view c4) (view c5) o.makes.knows e.makes.1.knows).0 in let a = d.same.1 in let b = w.served.kept in let s = r.same.1 in (
        seat_then c0 c1 c5 d.same.0 (seat_then c1 c2 c5 w.same (seat_then c2 c3 c5 r.same.0 (seat_then c3 c4 c5 o.makes.seat e.makes.1.seat))),
        record {
          share = k.share ∙ (s.share ∙ (b.share ∙ a.share));
          turns = k.turns ∙ (s.turns ∙ (b.turns ∙ a.turns));
          first = k.first ∙ (s.first ∙ (b.first ∙ a.first));
          told = k.told ∙ (s.told ∙ (b.told ∙ a.told));
        },
      );
  at = let o = c.clear_deactivated.ensures in let e = c.end_control.ensures in
      reopened_at c.swap_device-old.new.cpu c.clear_deactivated.new.cpu c.end_control.new.cpu c.swap_device-old.ensures.at (o.makes.seat, o.makes.carries, o.makes.places, o.makes.has) o.makes.knows (e.makes.1.seat, e.makes.1.carries, e.makes.1.places, e.makes.1.has) e.makes.1.knows;
  trail =
      reopened_trail (view c.swap_device-old.new.cpu) (view c.clear_deactivated.new.cpu) (view c.end_control.new.cpu) c.clear_deactivated.ensures.makes.knows c.end_control.ensures.makes.1.knows
      ∙ ap (λ (es : List Event). Up ∷ es) (c.swap_device-old.ensures.trail ∙ ap (λ (es : List Event). Swap c.args.unit ∷ es) (c.wait_until_clear.ensures.served.trail ∙ c.deactivate.ensures.trail));
  makes = let k = setup c.args.shared.now in let event = c.args.event in let count = c.deactivate.result in
      let change : Standing → List Step → Type 0 = ChangeDevice k c.args.unit (g.D.TxDevice.state c.args.device) (g.D.TxDevice.state c.swap_device-old.result) in
      let t = and_then (DevDeactivateMany k event count) (Then change Reactivate)
      (and_then (Deactivate event count) (λ s. WaitUntilClear k s true) c.deactivate.ensures.makes c.wait_until_clear.ensures.makes)
      (and_then change Reactivate c.swap_device-old.ensures.makes (reactivated c.clear_deactivated.ensures.makes c.end_control.ensures.makes)) in
      (t.0, (count, t.1), t.2);
  alone = λ plan params is_unit told h.
      let infos = c.args.shared.now.infos.now in let start = first_account (setup c.args.shared.now) in let v = solo (view c.args.cpu.now) in let unit = c.args.unit in let event = c.args.event in let device = (g.D.TxDevice.state c.args.device) in
      let down = downed_at (setup c.args.shared.now) event (view c.args.cpu.now) (view c.deactivate.new.cpu) (view c.wait_until_clear.new.cpu) c.deactivate.ensures.same.1.share c.requires.seat.2 h.sender.sole (c.deactivate.ensures.alone h.sender.sole) c.wait_until_clear.ensures.alone in
      let is = ap solo c.end_control.ensures.makes.1.knows ∙ (ap solo c.clear_deactivated.ensures.makes.knows
      ∙ (ap (heard Up) (c.swap_device-old.ensures.alone (subst HasAll (sym down) h.sender.sole)) ∙ ap (λ (s : Solo). heard Up (locked_to false (device_to device (heard (Swap unit) (locked_to true s))))) down)) in
      stepped_at infos start (changed plan event (kind.Swap params)) v (heard Up (device_to device (heard (Swap unit) (downed event v)))) (solo (view c.end_control.new.cpu)) is (swap_alone infos start event unit device v plan params is_unit told h);
}
