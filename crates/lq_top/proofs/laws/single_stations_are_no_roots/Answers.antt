use Rattle.std.proofs.Common.{◌≡◌, ◌<◌, ℕ, zero, suc, List, [], length, map, refl, sym, ap, arith}
use Rattle.std.proofs.lemmas.Bool.{le-ltb}
use Rattle.lq_model.specs.Plan.{Plan, mq_at}
use Rattle.lq_model.specs.declared.fate.Fate.{Fate}
use Rattle.lq_files.proofs.GroupLemmas.{lines_below, no-roots, no_root_line}
use Rattle.lq_top.proofs.laws.single_stations_are_no_roots.Goals as goal

pub returns-clause-files : goal.returns-clause-files
returns-clause-files c = λ out capture plan fates few. ap (map _) (no-roots plan few (length plan.groups))

-- the first groups have no line
no-lines : (plan : Plan) (fates : List Fate) → ((j : ℕ) → mq_at plan.groups j < 2) → (n : ℕ) → [] ≡ lines_below plan fates n
no-lines plan fates few zero = refl
no-lines plan fates few (suc n) = no_root_line plan fates n [] [] (le-ltb 1 (mq_at plan.groups n) (let two = few n in omega arith)) (no-lines plan fates few n)

pub returns-clause-lines : goal.returns-clause-lines
returns-clause-lines c = λ plan fates few. sym (no-lines plan fates few (length plan.groups))
