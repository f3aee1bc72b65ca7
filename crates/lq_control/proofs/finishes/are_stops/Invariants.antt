use Rattle.std.proofs.Common.{◌≡◌, ◌<◌, ℕ, None, slice_index}
use Rattle.lq_table.specs.Sees.{view, IsSeatOf, IsElseSame, IsSole, account_of}
use Rattle.lq_table.specs.Step.{MakesSteps}
use Rattle.lq_control.specs.EndSteps.{xoff_steps}
use Rattle.lq_control.proofs.finishes.are_stops.Given as goal

abbrev pub invariant-loop-queue : goal.invariant-loop-queue
invariant-loop-queue g l = record {
  seat : IsSeatOf l.shared l.cpu;
  still : IsElseSame l.fn.cpu l.cpu;
  same : view l.cpu ≡ view l.fn.cpu;
  sole : IsSole (view l.fn.cpu) → (view l.fn.cpu).whole.state.shut ≡ None → (queue : ℕ) → queue < l.queue → slice_index (account_of (view l.fn.cpu)).stops queue ≡ l.word;
  makes : MakesSteps (xoff_steps l.word l.queue) l.fn.cpu l.cpu;
}
