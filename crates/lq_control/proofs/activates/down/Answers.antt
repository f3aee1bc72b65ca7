use Rattle.std.proofs.Common.{rules, true, ap, ◌∙◌}
use Rattle.lq_table.specs.Views.{first_account}
use Rattle.lq_table.specs.Sees.{view, setup, solo}
use Rattle.lq_model.specs.Alone.{changed}
use Rattle.lq_model.specs.declared.plan.EventKind.TheVariants as kind
use Rattle.lq_table.specs.Step.{EndControl}
use Rattle.lq_control.specs.Steps.{Deactivate, DevDeactivateMany, Finding, WaitUntilClear}
use Rattle.lq_control.proofs.StepLemmas.{and_then, finds}
use Rattle.lq_control.proofs.Alone.{down_alone, downed, downed_at, stepped_at}
use Rattle.lq_control.proofs.activates.down.Goals as goal

pub returns : goal.returns
returns g c = record {
  same = search rules;
  at = search rules;
  trail = search rules;
  makes = let k = setup c.args.shared.now in let event = c.args.event in let count = c.deactivate-purged.result in
      and_then (DevDeactivateMany k event count) (Finding EndControl) (and_then (Deactivate event count) (λ s. WaitUntilClear k s true) c.deactivate-purged.ensures.makes c.wait_until_clear.ensures.makes)
      (finds EndControl c.end_control.ensures.makes);
  alone = λ plan h.
      let infos = c.args.shared.now.infos.now in let start = first_account (setup c.args.shared.now) in let v = solo (view c.args.cpu.now) in let event = c.args.event in
      let is = ap solo c.end_control.ensures.makes.1.knows
      ∙ downed_at (setup c.args.shared.now) event (view c.args.cpu.now) (view c.deactivate-purged.new.cpu) (view c.wait_until_clear.new.cpu) c.deactivate-purged.ensures.same.1.share c.requires.seat.2 h.sender.sole (c.deactivate-purged.ensures.alone h.sender.sole) c.wait_until_clear.ensures.alone in
      stepped_at infos start (changed plan event kind.Down) v (downed event v) (solo (view c.end_control.new.cpu)) is (down_alone infos start event plan v h);
}
