use Rattle.std.proofs.Common.{false, true, List, ◌∷◌, sym, ap, ◌∙◌, subst}
use Rattle.lq_table.specs.Views.{first_account}
use Rattle.lq_table.specs.Sees.{view, setup, Solo, heard, solo}
use Rattle.lq_table.specs.Locks.{locked_to}
use Rattle.lq_model.specs.Account.{Event, Resize, Up}
use Rattle.lq_model.specs.Alone.{changed}
use Rattle.lq_model.specs.declared.plan.EventKind.TheVariants as kind
use Rattle.lq_qdisc.specs.Alone.{HasAll}
use Rattle.lq_control.proofs.Keeps.{keeps_reopened, keeps_served, keeps_then, reopened_at, reopened_trail, seat_then}
use Rattle.lq_qdisc.specs.StepLists.{Then}
use Rattle.lq_control.specs.Steps.{Deactivate, DevDeactivateMany, Reactivate, Relength, WaitUntilClear}
use Rattle.lq_control.proofs.StepLemmas.{and_then, reactivated}
use Rattle.lq_control.proofs.Alone.{downed, downed_at, relength_alone, stepped_at}
use Rattle.lq_control.proofs.resizes.tx_queue_len.Goals as goal

pub returns : goal.returns
returns g c = record {
  same =
      let c0 = c.args.cpu.now in let c1 = c.deactivate-purged.new.cpu in let c2 = c.wait_until_clear.new.cpu in let c3 = c.relength.new.cpu in let c4 = c.clear_deactivated.new.cpu in let c5 = c.end_control.new.cpu in
      let d = c.deactivate-purged.ensures in let w = c.wait_until_clear.ensures in let r = c.relength.ensures in let o = c.clear_deactivated.ensures in let e = c.end_control.ensures in
      let v0 = view c0 in let v1 = view c1 in let v2 = view c2 in let v3 = view c3 in let v5 = view c5 in
      let on = keeps_then v2 v3 v5 (r.same.1, r.same.2) (keeps_reopened v3 (view c4) v5 o.makes.knows e.makes.1.knows) in
      let all = keeps_then v0 v1 v5 (d.same.1, d.same.2) (keeps_then v1 v2 v5 (keeps_served v1 v2 w.served) on) in
      (seat_then c0 c1 c5 d.same.0 (seat_then c1 c2 c5 w.same (seat_then c2 c3 c5 r.same.0 (seat_then c3 c4 c5 o.makes.seat e.makes.1.seat))), all.0, all.1);
  at = let o = c.clear_deactivated.ensures in let e = c.end_control.ensures in reopened_at c.relength.new.cpu c.clear_deactivated.new.cpu c.end_control.new.cpu c.relength.ensures.at (o.makes.seat, o.makes.carries, o.makes.places, o.makes.has) o.makes.knows (e.makes.1.seat, e.makes.1.carries, e.makes.1.places, e.makes.1.has) e.makes.1.knows;
  trail =
      reopened_trail (view c.relength.new.cpu) (view c.clear_deactivated.new.cpu) (view c.end_control.new.cpu) c.clear_deactivated.ensures.makes.knows c.end_control.ensures.makes.1.knows
      ∙ ap (λ (es : List Event). Up ∷ es) (c.relength.ensures.trail ∙ ap (λ (es : List Event). Resize c.args.len c.args.event ∷ es) (c.wait_until_clear.ensures.served.trail ∙ c.deactivate-purged.ensures.trail));
  makes = let k = setup c.args.shared.now in let event = c.args.event in let len = c.args.len in let count = c.deactivate-purged.result in
      and_then (DevDeactivateMany k event count) (Then (Relength event len) Reactivate)
      (and_then (Deactivate event count) (λ s. WaitUntilClear k s true) c.deactivate-purged.ensures.makes c.wait_until_clear.ensures.makes)
      (and_then (Relength event len) Reactivate c.relength.ensures.makes (reactivated c.clear_deactivated.ensures.makes c.end_control.ensures.makes));
  alone = λ plan h.
      let infos = c.args.shared.now.infos.now in let start = first_account (setup c.args.shared.now) in let v = solo (view c.args.cpu.now) in let len = c.args.len in let event = c.args.event in
      let down = downed_at (setup c.args.shared.now) event (view c.args.cpu.now) (view c.deactivate-purged.new.cpu) (view c.wait_until_clear.new.cpu) c.deactivate-purged.ensures.same.1.share c.requires.seat.2 h.sender.sole (c.deactivate-purged.ensures.alone h.sender.sole) c.wait_until_clear.ensures.alone in
      let is = ap solo c.end_control.ensures.makes.1.knows ∙ (ap solo c.clear_deactivated.ensures.makes.knows
      ∙ (ap (heard Up) (c.relength.ensures.alone (subst HasAll (sym down) h.sender.sole)) ∙ ap (λ (s : Solo). heard Up (locked_to false (heard (Resize len event) (locked_to true s)))) down)) in
      stepped_at infos start (changed plan event (kind.TxQueueLen len)) v (heard Up (heard (Resize len event) (downed event v))) (solo (view c.end_control.new.cpu)) is (relength_alone infos start len event plan v h);
}
