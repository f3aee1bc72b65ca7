use Rattle.std.proofs.Common.{◌≡◌, Bool}
use Rattle.lq_model.specs.declared.machine.Position.TheVariants.{Scan}
use Rattle.lq_table.specs.Sees.{view, position, IsSeatOf, IsSole, account_of, solo}
use Rattle.lq_qdisc.specs.Calls.{IsKeptInRun, IsServing, IsSettledSame, AreNone, found_empty, looking_at}
use Rattle.lq_ring.specs.StepLists.{MakesStepsFrom}
use Rattle.lq_qdisc.specs.StepLists.{EmptyBelow}
use Rattle.lq_qdisc.proofs.takes.scan.Given as goal

abbrev pub invariant-loop-band : goal.invariant-loop-band
invariant-loop-band g l = record {
  seat : IsSeatOf l.shared l.cpu;
  kept : IsKeptInRun l.fn.cpu l.cpu;
  serving : IsServing l.cpu;
  run : (view l.cpu).place.run ≡ (view l.fn.cpu).place.run;
  settled : IsSettledSame l.fn.cpu l.cpu;
  at : (second : Bool) → position l.fn.cpu ≡ Scan 0 second → position l.cpu ≡ looking_at l.band second;
  past : (view l.cpu).whole.state.past ≡ found_empty l.band (view l.fn.cpu).whole.state.past;
  holder : (view l.cpu).holder ≡ (view l.fn.cpu).holder;
  step : solo (view l.cpu) ≡ solo (view l.fn.cpu);
  sole : IsSole (view l.fn.cpu) → AreNone (account_of (view l.fn.cpu)) l.band;
  makes : MakesStepsFrom (λ s. EmptyBelow s l.band) l.fn.cpu l.cpu;
}
