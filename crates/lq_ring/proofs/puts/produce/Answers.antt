use Rattle.std.proofs.Common.{rules, ◌+◌, ◌++◌, ◌∙◌, subst}
use Rattle.std.specs.Prelude.{MatchResult}
use Rattle.lq_table.specs.Producers.{SeesEnd}
use Rattle.lq_table.specs.Sees.{view, setup}
use Rattle.lq_table.specs.Step.{standing}
use Rattle.lq_table.specs.Views.{View}
use Rattle.lq_ring.specs.StepLists.{Produces}
use Rattle.lq_ring.proofs.ListLemmas.{put_keeps, put_knows, put_told}
use Rattle.lq_ring.proofs.StepsThen.{makes_then}
use Rattle.lq_ring.proofs.puts.produce.Goals as goal

pub returns : goal.returns
returns g c =
    let b = c.args.band in let n = c.args.n in let l = c.lock_producer-index.ensures in let p = c.produce_locked.ensures in let i = c.lock_producer-index.result in let answer = c.produce_locked.result in
    let old = c.args.cpu.now in let mid = c.lock_producer-index.new.cpu in let new = c.produce_locked.new.cpu in let k = setup c.args.shared.now in
    let all = makes_then l.makes.2 p.makes.2 in let kept = put_keeps answer p.makes.0 p.makes.1 (standing mid) in
    let knows = put_knows answer b n i (view old) (view mid) (view new) l.stands.3 p.stands in record {
      makes = (l.makes.0 ++ p.makes.0, Produces l.makes.1 p.makes.1, all);
      same = (all.seat, (p.makes.2.carries ∙ kept.0) ∙ l.stands.1, (p.makes.2.has ∙ kept.1) ∙ l.stands.2);
      knows = knows;
      at = search rules;
      step = search rules;
      sole = subst (λ (x : View). MatchResult answer (λ _. SeesEnd b x 0) (λ full. SeesEnd b x (full.seen + 1))) l.stands.3 (put_told answer p.makes.0 p.makes.1 (standing mid) p.makes.2.told);
    }
