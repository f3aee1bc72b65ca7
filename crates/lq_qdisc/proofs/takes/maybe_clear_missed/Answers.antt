use Rattle.std.proofs.Common.{rules, ℕ, [], ◌∷◌, sym, ap, ◌∙◌, subst}
use Rattle.lq_table.proofs.StepsThen.{makes_then}
use Rattle.lq_table.specs.Step.{ClearMissed, LoadXoff, MakesSteps, SetDraining, SetMissed}
use Rattle.lq_table.specs.Stops.{load_xoff_view}
use Rattle.lq_table.specs.Views.{View}
use Rattle.lq_table.specs.Sees.{view}
use Rattle.lq_qdisc.specs.StepLists.{FindsOpened, FindsShut}
use Rattle.lq_qdisc.proofs.TakeLemmas.{LeavesBlocked, blocked_slot, carries_still, leaves_blocked, stop_loaded_again}
use Rattle.lq_qdisc.proofs.takes.maybe_clear_missed.Goals as goal
use Rattle.lq_qdisc.proofs.takes.maybe_clear_missed.Goals.{After-set_draining, After-set_missed}

-- what is known where the queue was found open then, and MISSED set
opened : (g : _) (c : After-set_missed g) → LeavesBlocked c.load_xoff.result c.args.cpu.now c.set_missed.new.cpu
opened g c =
    let a = c.clear_missed.ensures in let l = c.load_xoff.ensures in let s = c.set_missed.ensures in
    leaves_blocked _ _ c.args.cpu.now c.clear_missed.new.cpu c.load_xoff.new.cpu _ c.requires.at.1 (a.makes.seat, a.makes.carries, a.makes.places, a.makes.has) (l.makes.seat, l.makes.carries, l.makes.places, l.makes.has) (s.makes.1.seat, s.makes.1.carries, s.makes.1.places, s.makes.1.has) a.makes.knows l.makes.knows s.makes.1.knows

-- and where it was found stopped, and DRAINING set
stopped : (g : _) (c : After-set_draining g) → LeavesBlocked c.load_xoff.result c.args.cpu.now c.set_draining.new.cpu
stopped g c =
    let a = c.clear_missed.ensures in let l = c.load_xoff.ensures in let s = c.set_draining.ensures in
    leaves_blocked _ _ c.args.cpu.now c.clear_missed.new.cpu c.load_xoff.new.cpu _ c.requires.at.1 (a.makes.seat, a.makes.carries, a.makes.places, a.makes.has) (l.makes.seat, l.makes.carries, l.makes.places, l.makes.has) (s.makes.1.seat, s.makes.1.carries, s.makes.1.places, s.makes.1.has) a.makes.knows l.makes.knows s.makes.1.knows

pub returns-then-load_xoff-eq0 : goal.returns-then-load_xoff-eq0
returns-then-load_xoff-eq0 g c = record {
  kept = (opened g c).kept;
  run = search rules;
  station = search rules;
  at = (opened g c).at;
  holder = (opened g c).holder;
  fates = (opened g c).fates;
  sole = λ alone closed.
      let at_ = c.requires.at in let a = c.clear_missed.ensures in let l = c.load_xoff.ensures in
      let stop = stop_loaded_again c.args.queue _ at_.0 (view c.args.cpu.now) _ a.makes.knows at_.1 l.makes.told.0.3 alone c.requires.shut in
      absurd (closed (sym stop ∙ c.if-load_xoff-eq0.true));
  makes =
      let s = c.set_missed.ensures.makes in
      let l = subst (λ (found : ℕ). MakesSteps (LoadXoff c.args.queue found ∷ []) c.clear_missed.new.cpu c.load_xoff.new.cpu) c.if-load_xoff-eq0.true c.load_xoff.ensures.makes in
      (ClearMissed ∷ LoadXoff c.args.queue 0 ∷ SetMissed s.0 ∷ [], FindsOpened, makes_then (makes_then c.clear_missed.ensures.makes l) s.1);
}

pub returns-else-load_xoff-eq0 : goal.returns-else-load_xoff-eq0
returns-else-load_xoff-eq0 g c = record {
  kept = (stopped g c).kept;
  run = search rules;
  station = search rules;
  at = (stopped g c).at;
  holder = (stopped g c).holder;
  fates = (stopped g c).fates;
  sole = search rules;
  makes =
      let s = c.set_draining.ensures.makes in
      (ClearMissed ∷ LoadXoff c.args.queue c.load_xoff.result ∷ SetDraining s.0 ∷ [], FindsShut c.if-load_xoff-eq0.false, makes_then (makes_then c.clear_missed.ensures.makes c.load_xoff.ensures.makes) s.1);
}

-- the requeue slot is as it was
pub load_xoff-requires-clause-slot : goal.load_xoff-requires-clause-slot
load_xoff-requires-clause-slot g c _ _ =
    let a = c.clear_missed.ensures in carries_still c.args.cpu.now c.clear_missed.new.cpu a.makes.carries (ap (λ (v : View). v.holder.slot) a.makes.knows) c.requires.slot

pub set_missed-requires-clause-slot : goal.set_missed-requires-clause-slot
set_missed-requires-clause-slot g c _ _ =
    let a = c.clear_missed.ensures in let l = c.load_xoff.ensures in let at_ = c.requires.at in
    carries_still c.args.cpu.now c.load_xoff.new.cpu (l.makes.carries ∙ a.makes.carries)
    (ap (λ (v : View). v.holder.slot) (l.makes.knows ∙ ap (load_xoff_view c.load_xoff.result) a.makes.knows) ∙ blocked_slot at_.0 c.load_xoff.result (view c.args.cpu.now) at_.1) c.requires.slot
