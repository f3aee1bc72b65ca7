use Rattle.std.proofs.Common.{length, option_map, sym, ap, ◌∙◌, arith, map}
use Rattle.std.specs.Option.{option_map_or}
use Rattle.std.proofs.lemmas.Bool.{ltb-false, ltb-true}
use Rattle.std.proofs.lemmas.List.{length-map}
use Rattle.std.proofs.lemmas.Option.{slice_get-map, slice_get_past}
use Rattle.toml.specs.View.{table_view}
use Rattle.lq_model.specs.Plan.{mq_at}
use Rattle.lq_plan.specs.Keys.{mq_in}
use Rattle.lq_plan.specs.Tables.{tables_view}
use Rattle.lq_plan.proofs.Tables.{Table, table_at}
use Rattle.lq_plan.proofs.document.mq_for.Goals as goal

pub returns-in-Some : goal.returns-in-Some
returns-in-Some c =
    let ms = tables_view c.args.stations.now in let found = c.in-Some.ensures.lookup in
    let at = table_at c.args.stations.now c.group_of.result c.in-Some.station.now (ltb-true c.group_of.result (length c.args.stations.now) (sym found.0)) found.1 in
    c.mq_of.ensures ∙ (sym (ap (λ o. option_map_or (λ mq. mq) o 0) (slice_get-map mq_in ms c.group_of.result ∙ ap (option_map mq_in) at)) ∙ ap (mq_at (map mq_in ms)) c.group_of.ensures)

pub returns-in-None : goal.returns-in-None
returns-in-None c =
    let ms = tables_view c.args.stations.now in let found = c.in-None.ensures.lookup in
    let past = ltb-false c.group_of.result (length c.args.stations.now) (sym found.0) in
    let long = length-map c.args.stations.now (λ (t : Table). table_view t.now) in let longer = length-map ms mq_in in
    sym (ap (λ o. option_map_or (λ mq. mq) o 0) (slice_get_past (map mq_in ms) c.group_of.result (omega arith))) ∙ ap (mq_at (map mq_in ms)) c.group_of.ensures
