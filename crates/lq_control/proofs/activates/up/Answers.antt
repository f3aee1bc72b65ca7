use Rattle.std.proofs.Common.{rules, ap, ◌∙◌}
use Rattle.lq_table.specs.Views.{View, first_account}
use Rattle.lq_table.specs.Sees.{view, setup, heard, solo}
use Rattle.lq_model.specs.Account.{Up}
use Rattle.lq_model.specs.Alone.{changed}
use Rattle.lq_model.specs.declared.plan.EventKind.TheVariants as kind
use Rattle.lq_table.specs.Step.{BeginControl}
use Rattle.lq_control.specs.Steps.{Finding, Reactivate}
use Rattle.lq_control.proofs.StepLemmas.{and_then, finds, reactivated}
use Rattle.lq_control.proofs.Alone.{stepped_at, up_alone}
use Rattle.lq_control.proofs.activates.up.Goals as goal

pub returns : goal.returns
returns g c = record {
  same = search rules;
  opened = search rules;
  makes = and_then (Finding BeginControl) Reactivate (finds BeginControl c.begin_control.ensures.makes) (reactivated c.clear_deactivated.ensures.makes c.end_control.ensures.makes);
  alone = λ event plan h.
      let infos = c.args.shared.now.infos.now in let start = first_account (setup c.args.shared.now) in let v = solo (view c.args.cpu.now) in
      let is = ap solo c.end_control.ensures.makes.1.knows ∙ (ap solo c.clear_deactivated.ensures.makes.knows ∙ ap (λ (v : View). heard Up (solo v)) c.begin_control.ensures.makes.1.knows) in
      stepped_at infos start (changed plan event kind.Up) v (heard Up v) (solo (view c.end_control.new.cpu)) is (up_alone infos start event plan v h);
}
