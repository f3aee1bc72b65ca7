use Rattle.std.proofs.Common.{rules, ℕ, List, [], ◌∷◌, ◌++◌, Contains, length, sym, ap, ◌∙◌, subst, arith}
use Rattle.std.proofs.lemmas.List.{length-take}
use Rattle.lq_account_laws.proofs.Lists.{drop-in}
use Rattle.lq_ring_core.specs.Slots.{round}
use Rattle.lq_band_laws.specs.Three.{at}
use Rattle.lq_band_laws.specs.Ring.{locked_at}
use Rattle.lq_table.specs.Views.{View}
use Rattle.lq_table.specs.Producers.{with_lock_at}
use Rattle.lq_table.specs.Sees.{view}
use Rattle.lq_table.specs.Step.{SetProducer}
use Rattle.lq_ring.specs.StepLists.{Sets}
use Rattle.lq_ring.proofs.StepsThen.{makes_then}
use Rattle.lq_ring.specs.Work.{work_at, IsTurner, IsWorkBegun}
use Rattle.lq_ring.proofs.Works.{turner_after}
use Rattle.lq_ring.proofs.resize.turn_at.Goals as goal

pub turn_band-done-requires-clause-whole : goal.turn_band-done-requires-clause-whole
turn_band-done-requires-clause-whole g c _ _ =
    let r = c.requires.ready in let ends = c.ends_of-ends.ensures r.0 r.2 in
    (r.1, subst (λ (z : ℕ × ℕ). IsWorkBegun c.args.shared.now.max_len c.args.resize.size z.0 z.1 c.args.resize.len r.1 (work_at c.args.band (view c.args.cpu.now))) (λ j. (sym ends.0 j, sym ends.1 j)) r.3)

pub turn_band-done-requires-clause-packets : goal.turn_band-done-requires-clause-packets
turn_band-done-requires-clause-packets g c _ _ =
    λ n l. let r = c.requires.ready in r.4 n (drop-in c.args.resize.len r.1 n (subst (λ (ls : List ℕ). Contains ls n) r.3.waiting_is l))

pub index_after-index-requires : goal.index_after-index-requires
index_after-index-requires g c =
    let r = c.requires.ready in let k = c.turn_band-done.ensures.kept.0 ∙ ap length r.3.kept_is in let l = length-take c.args.resize.len r.1 in omega arith

pub set_producer-requires-clause-holder : goal.set_producer-requires-clause-holder
set_producer-requires-clause-holder g c _ _ =
    let b = c.args.band in let v = view c.args.cpu.now in let done = c.turn_band-done.ensures.stands in
    let turner = subst IsTurner (sym done.1.1) (turner_after b done.0 v c.requires.turner.0) in
    (turner.0, (turner.1.0, turner.1.1), ap (λ (x : View). (at b x.locks).holds) done.1.1 ∙ c.requires.lock)

pub returns : goal.returns
returns g c = record {
  makes = let x = c.turn_band-done.ensures.makes in (x.0 ++ SetProducer c.args.band c.index_after-index.result ∷ [], Sets x.1, makes_then x.2 c.set_producer.ensures.makes);
  stands =
      let b = c.args.band in let done = c.turn_band-done.ensures.stands in let i = c.index_after-index.result in (
        done.0,
        (search rules, c.set_producer.ensures.makes.knows ∙ ap (with_lock_at b (locked_at i)) done.1.1),
        done.2,
        c.index_after-index.ensures ∙ ap (round c.args.resize.len) (c.turn_band-done.ensures.kept.0 ∙ ap length (sym done.2.kept_is)),
      );
  count = search rules;
}
