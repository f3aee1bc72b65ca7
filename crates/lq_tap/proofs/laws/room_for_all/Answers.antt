use Rattle.std.proofs.Common.{◌<◌, ⊎_elim, arith, length}
use Rattle.std.proofs.lemmas.Bool.{cases_lt}
use Rattle.lq_tap.proofs.laws.room_for_all.Goals as goal

pub returns-clause-none_full : goal.returns-clause-none_full
returns-clause-none_full c v s room n seen h = let a = s.full n seen h in let b = s.few_full n seen h in omega arith

pub returns-clause-none_lost : goal.returns-clause-none_lost
returns-clause-none_lost c v s room = ⊎_elim
    (λ (some_ : 0 < length v.reader.destroyed). absurd (let a = s.lost some_ in let b = s.few in omega arith))
    (λ none_. omega arith)
    (cases_lt 0 (length v.reader.destroyed))
