use Rattle.std.proofs.Common.{Result, Ok, Err, IfOk}
use Rattle.lq_run_core.proofs.Sound.{first-sound}
use Rattle.lq_run_core.proofs.machine.Machine.with_queues.Goals as goal

on-ok : {A E : Type 0} (r : Result A E) (P Q : A → Type 0) → ((x : A) → P x → Q x) → IfOk r P → IfOk r Q
on-ok (Ok x) P Q f h = f x h
on-ok (Err e) P Q f h = h

pub returns-clause-sound : goal.returns-clause-sound
returns-clause-sound c = on-ok c.make.result _ _ (λ m is. first-sound m c.args.seats c.args.len c.args.bypass c.args.queues is) c.make.ensures
