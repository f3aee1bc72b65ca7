use Rattle.std.proofs.Common.{◌≡◌, ℕ, List, ◌++◌, ap, ◌∙◌}
use Rattle.std.specs.Prelude.{option_to_list}
use Rattle.lq_model.specs.Alone.{changed}
use Rattle.lq_lone.proofs.lone.Lone.change.Goals as goal

pub returns-clause-changes : goal.returns-clause-changes
returns-clause-changes c plan event infos s queues lone =
    let altered = c.alter.ensures.alters plan event s lone in let served = c.serve.ensures.serves infos (changed plan event c.args.kind s) queues altered.0 in
    record { is = served.is; sent = served.sent ∙ ap (λ (l : List ℕ). l ++ option_to_list c.serve.result) altered.1 }
