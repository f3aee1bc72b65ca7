-- What `store_xoff` makes of what a seat knows that has the table alone.
use Rattle.std.proofs.Common.{◌≡◌, ℕ, Bool, ap, ◌∙◌}
use Rattle.lq_model.specs.Account.{Stop}
use Rattle.lq_model.specs.declared.machine.Answer.TheVariants.{Plain}
use Rattle.lq_model.specs.declared.machine.Position.{Position}
use Rattle.lq_model.specs.declared.machine.Position.TheVariants as at
use Rattle.lq_model.specs.Steps.{step_at}
use Rattle.lq_table.specs.Views.{View}
use Rattle.lq_table.specs.Stops.{store_xoff_view, store_xoff_view_from, stop_value}
use Rattle.lq_table.specs.Sees.{solo, heard}

module _ (v : View) where
  pub stores_solo : (queue : ℕ) (hung direct : Bool) → v.place.position ≡ at.StoreXoff queue hung direct → solo (store_xoff_view v) ≡ heard (Stop queue (stop_value hung)) (solo v)
  stores_solo queue hung direct is = ap (λ (y : Position). solo (store_xoff_view_from y v)) is
      ∙ (ap (λ (y : Position). record (heard (Stop queue (stop_value hung)) (solo v)) {
        whole = record (heard (Stop queue (stop_value hung)) (solo v)).whole {
          missed = (step_at y Plain v.whole.qdisc v.place).qdisc.missed;
          draining = (step_at y Plain v.whole.qdisc v.place).qdisc.draining;
          scheduled = (step_at y Plain v.whole.qdisc v.place).qdisc.sched;
          locked = (step_at y Plain v.whole.qdisc v.place).qdisc.locked;
        };
      }) is)
