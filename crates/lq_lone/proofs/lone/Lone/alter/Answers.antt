use Rattle.std.proofs.Common.{◌≡◌, ℕ, true, Some, None, refl, sym, subst}
use Rattle.lq_model.specs.Account.{Purge, Resize, after}
use Rattle.lq_model.specs.Alone.{RunningStation, changed}
use Rattle.lq_model.specs.Plan.{Plan}
use Rattle.lq_model.specs.declared.fate.Cause.TheVariants as cause
use Rattle.lq_model.specs.declared.plan.EventKind.{EventKind}
use Rattle.lq_model.specs.Wire.{sent_now}
use Rattle.lq_lone.specs.Lone.{IsLone, LoneState, lone_state}
use Rattle.lq_lone.proofs.Changes.{turned}
use Rattle.lq_lone.proofs.lone.Lone.alter.Goals as goal

-- what is so of one kind of event is so of that which is the same
of-kind : (plan : Plan) (event : ℕ) (s : RunningStation) (m : LoneState) (kind other : EventKind) → kind ≡ other
    → IsLone m (changed plan event other s) × (sent_now (changed plan event other s) ≡ sent_now s)
    → IsLone m (changed plan event kind s) × (sent_now (changed plan event kind s) ≡ sent_now s)
of-kind plan event s m kind other is holds = subst (λ (k : EventKind). IsLone m (changed plan event k s) × (sent_now (changed plan event k s) ≡ sent_now s)) (sym is) holds

pub returns-in-Down-clause-alters : goal.returns-in-Down-clause-alters
returns-in-Down-clause-alters c plan event s lone =
    of-kind plan event s _ _ _ c.in-Down.is (turned (record s { account = after (Purge (cause.Event event)) s.account; clean = true }) (lone_state c.purge.new.self) (c.purge.ensures.purges s (cause.Event event) lone) (Some event), refl)

pub returns-in-Up-clause-alters : goal.returns-in-Up-clause-alters
returns-in-Up-clause-alters c plan event s lone = of-kind plan event s _ _ _ c.in-Up.is (turned s (lone_state c.args.self.now) lone None, refl)

pub returns-in-Resize-clause-alters : goal.returns-in-Resize-clause-alters
returns-in-Resize-clause-alters c plan event s lone = of-kind plan event s _ _ _ c.in-Resize.is (c.resize.ensures.resizes s event lone, refl)

pub returns-in-TxQueueLen-clause-alters : goal.returns-in-TxQueueLen-clause-alters
returns-in-TxQueueLen-clause-alters c plan event s lone =
    let t : RunningStation = record s { account = after (Purge (cause.Event event)) s.account; clean = true } in
    of-kind plan event s _ _ _ c.in-TxQueueLen.is
    (turned (record t { account = after (Resize c.in-TxQueueLen.len event) t.account }) (lone_state c.resize-in-TxQueueLen.new.self) (c.resize-in-TxQueueLen.ensures.resizes t event (c.purge-in-TxQueueLen.ensures.purges s (cause.Event event) lone)) None, refl)
