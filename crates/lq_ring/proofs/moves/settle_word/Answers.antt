use Rattle.std.proofs.Common.{rules, ℕ, ◌<◌, ◌-◌, ◌∷◌, sym, ap, ◌∙◌, subst, eq-eqb, Bool}
use Rattle.std.specs.Prelude.{if◌then◌else◌}
use Rattle.lq_model.specs.declared.fate.Fate.TheVariants as fate
use Rattle.lq_model.specs.Plan.{band_in}
use Rattle.lq_table.specs.Views.{Setup, Work}
use Rattle.lq_table.specs.Fates.{MayShrink}
use Rattle.lq_table.specs.Sees.{view}
use Rattle.lq_ring.specs.Work.{work_at, working}
use Rattle.lq_ring.proofs.Works.{settled_none, work_back, shrunk_is, having_settled}
use Rattle.lq_ring.proofs.StepsThen.{turns_none, turns_settled}
use Rattle.lq_ring.proofs.moves.settle_word.Goals as goal

pub settle-requires-clause-may : goal.settle-requires-clause-may
settle-requires-clause-may g c _ _ =
    let w = c.requires.word c.if-x-eq0.false in let v = view c.args.cpu.now in
    (subst (λ (z : ℕ). z < 3) (sym w.2) w.1, subst (λ (z : ℕ). MayShrink z (c.args.x - 1) c.args.event v) (sym w.2) w.0)

pub returns-then-x-eq0 : goal.returns-then-x-eq0
returns-then-x-eq0 g c = record {
  makes = turns_none c.args.band c.args.cpu.now;
  stands = (
    search rules,
    let b = c.args.band in let v = view c.args.cpu.now in let t = c.requires.turner in let none_ = c.if-x-eq0.true in
        let same = ap (λ (w : Work). working b w v) (settled_none c.args.x (work_at b v) none_) ∙ work_back b v t.1.0 t.1.1 t.1.2 in
        sym (λ j. having_settled (ap (λ (x : Bool). if x then v.settled else (c.args.x - 1, fate.Shrunk c.args.event) ∷ v.settled) (eq-eqb c.args.x 0 none_) j) (same j)),
  );
  count = search rules;
}

pub returns : goal.returns
returns g c = record {
  makes = turns_settled c.args.band c.settle.ensures.makes;
  stands = (
    search rules,
    let w = c.requires.word c.if-x-eq0.false in let t = c.requires.turner.1 in
        c.settle.ensures.makes.knows ∙ shrunk_is c.args.band _ c.args.x c.args.event (view c.args.cpu.now) t.0 t.1 (ap (λ (k : Setup). band_in k.infos (c.args.x - 1)) c.requires.seat.2 ∙ w.2) c.if-x-eq0.false,
  );
  count = search rules;
}
