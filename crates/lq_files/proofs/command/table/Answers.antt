use Rattle.std.proofs.Common.{◌≡◌, ◌∙◌, ap, codes, IfOk, IsOkAnd, Ok, Err, Result}
use Rattle.std.proofs.lemmas.Result.{IfOk-weaker}
use Rattle.clap.specs.Words.{App, app_of, with_subcommand}
use Rattle.lq_files.specs.Forms.{form_of_five, form_of_one, form_of_three}
use Rattle.lq_files.proofs.command.table.Goals as goal

-- with a form of which it is known what it is
added :
    {E C : Type 0} (app_of : C → App) (form : Result C E) (shape before old new : App) → IfOk form (λ form. app_of form ≡ shape)
    → old ≡ before → IsOkAnd form (λ form. new ≡ with_subcommand old (app_of form).top) → new ≡ with_subcommand before shape.top
added app_of (Ok form) shape before old new is same adds =
    adds ∙ ap (λ a. with_subcommand a (app_of form).top) same ∙ ap (λ a. with_subcommand before a.top) is
added app_of (Err error) shape before old new is same adds = absurd adds

pub returns : goal.returns
returns c =
    let run = added app_of _ (form_of_three (codes "run")) _ _ _ c.form_of_three.ensures.app c.bare_table.ensures c.in_ok-table.ensures in
    let gen = added app_of _ (form_of_three (codes "gen")) _ _ _ c.form_of_three-2.ensures.app run c.in_ok-table-2.ensures in
    let trace = added app_of _ (form_of_one (codes "trace")) _ _ _ c.form_of_one.ensures.app gen c.in_ok-table-3.ensures in
    record {
      app =
          IfOk-weaker c.with_form-4.result _ _
          (λ whole. added app_of _ (form_of_five (codes "tap")) _ _ _ c.form_of_five.ensures.app trace)
          c.with_form-4.ensures;
    }
