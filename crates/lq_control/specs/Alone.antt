-- What the calls of control do of a seat that has the table alone, where the device tells its rule: the plan's events in the run of
-- one sender.
use Rattle.std.specs.Prelude.{ℕ, false}
use Rattle.lq_model.specs.Alone.{changed}
use Rattle.lq_model.specs.Plan.{Plan}
use Rattle.lq_model.specs.declared.plan.EventKind.{EventKind}
use Rattle.lq_model.specs.declared.plan.EventKind.TheVariants as kind
use Rattle.lq_table.specs.Sees.{Solo, solo}
use Rattle.lq_table.specs.Views.{View, Setup, first_account}
use Rattle.lq_qdisc.specs.Alone.{Does}

-- it is just as this event of any plan leaves it
abbrev pub DoesEventAlone : Setup → ℕ → EventKind → View → View → Type 0
DoesEventAlone k event kind old new = (plan : Plan) → Does k.infos (first_account k) (changed plan event kind) (solo old) (solo new)

-- what it knows, without the raised mark and SCHED
abbrev pub unmarked : Solo → Solo
unmarked v = record v { raised = false; whole = record v.whole { scheduled = false } }
