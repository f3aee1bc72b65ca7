use Rattle.std.proofs.Common.{◌≡◌, ◌≤◌, ◌∙◌, length, map, slice_get, ap, sym, subst, arith}
use Rattle.std.specs.Prelude.{sum}
use Rattle.std.specs.List.{flat_map}
use Rattle.std.proofs.lemmas.List.{length-map}
use Rattle.toml.specs.View.{table_view}
use Rattle.lq_plan.specs.Document.{document_view}
use Rattle.lq_plan.specs.Keys.{mq_in, version_of}
use Rattle.lq_plan.specs.Limits.{is_out_of_order, version_5}
use Rattle.lq_plan.specs.Reading.{IsEventSmall, children_in, event_in, has_many_links, irq_in}
use Rattle.lq_plan.specs.Tables.{tables_view}
use Rattle.lq_plan.proofs.Within.{event_small, facts, few-mq, irq-widened, of_version, stations-within, widened}
use Rattle.lq_plan.proofs.reader.read_root.Goals as goal

pub read_stations-requires-clause-within : goal.read_stations-requires-clause-within
read_stations-requires-clause-within c = λ j t at.
    let all = facts (table_view c.args.root.now) (document_view c.in_ok-document.document) c.in_ok-document.ensures c.in_default.ensures in
    stations-within (version_of (table_view c.args.root.now)) (table_view c.args.root.now) (document_view c.in_ok-document.document) all j t (ap (λ tables. slice_get (tables_view tables) j) (sym c.deref.ensures.value) ∙ at)

pub read_stations-requires-clause-few : goal.read_stations-requires-clause-few
read_stations-requires-clause-few c = λ j t at.
    few-mq (table_view c.args.root.now) (document_view c.in_ok-document.document) c.in_ok-document.ensures c.in_default.ensures j t (ap (λ tables. slice_get (tables_view tables) j) (sym c.deref.ensures.value) ∙ at)

pub read_groups-requires : goal.read_groups-requires
read_groups-requires c = λ j t at.
    few-mq (table_view c.args.root.now) (document_view c.in_ok-document.document) c.in_ok-document.ensures c.in_default.ensures j t (ap (λ tables. slice_get (tables_view tables) j) (sym c.deref-2.ensures.value) ∙ at)

pub read_events-requires-clause-few : goal.read_events-requires-clause-few
read_events-requires-clause-few c =
    let d = document_view c.in_ok-document.document in
    let all = facts (table_view c.args.root.now) d c.in_ok-document.ensures c.in_default.ensures in
    let same : c.deref-3.result.now ≡ map mq_in d.stations = c.deref-3.ensures.value ∙ (c.in_ok-groups.ensures ∙ ap (λ tables. map mq_in (tables_view tables)) c.deref-2.ensures.value) in
    let long = length-map d.stations mq_in in
    subst (λ gs. (length gs ≤ 8) × (sum gs ≤ 8)) (sym same) (omega (arith, long, all.few_stations), all.few_children)

pub read_events-requires-clause-each : goal.read_events-requires-clause-each
read_events-requires-clause-each c = λ e t at.
    let d = document_view c.in_ok-document.document in
    let all = facts (table_view c.args.root.now) d c.in_ok-document.ensures c.in_default.ensures in
    let there = ap (λ tables. slice_get (tables_view tables) e) (sym c.deref-4.ensures.value) ∙ at in
    let same : c.deref-3.result.now ≡ map mq_in d.stations = c.deref-3.ensures.value ∙ (c.in_ok-groups.ensures ∙ ap (λ tables. map mq_in (tables_view tables)) c.deref-2.ensures.value) in
    subst (λ gs. IsEventSmall (length gs) t) (sym same)
    (event_small d.stations t (stations-within (version_of (table_view c.args.root.now)) (table_view c.args.root.now) d all) all.has_station (all.events e t there))

pub overflow_cast-result : goal.overflow_cast-result
overflow_cast-result c =
    let all = facts (table_view c.args.root.now) (document_view c.in_ok-document.document) c.in_ok-document.ensures c.in_default.ensures in
    omega (arith, c.version_number.ensures, all.version.1, all.is.narrower.number)

pub overflow_cast-result-2 : goal.overflow_cast-result-2
overflow_cast-result-2 c =
    let all = facts (table_view c.args.root.now) (document_view c.in_ok-document.document) c.in_ok-document.ensures c.in_default.ensures in
    omega (arith, c.number_value.ensures, all.senders.1, all.is.narrower.senders)

pub read_irq-requires : goal.read_irq-requires
read_irq-requires c =
    let all = facts (table_view c.args.root.now) (document_view c.in_ok-document.document) c.in_ok-document.ensures c.in_default.ensures in
    irq-widened (version_of (table_view c.args.root.now)) version_5 all.is.narrower (irq_in (table_view c.args.root.now)) all.irq

pub invariant_of-result : goal.invariant_of-result
invariant_of-result c =
    let d = document_view c.in_ok-document.document in
    let all = facts (table_view c.args.root.now) d c.in_ok-document.ensures c.in_default.ensures in
    let stations : c.in_ok-stations.stations.items ≡ flat_map children_in d.stations =
    c.in_ok-stations.ensures ∙ ap (λ tables. flat_map children_in (tables_view tables)) c.deref.ensures.value
    in
    let groups : c.in_ok-groups.groups.items ≡ map mq_in d.stations = c.in_ok-groups.ensures ∙ ap (λ tables. map mq_in (tables_view tables)) c.deref-2.ensures.value in
    let events : c.in_ok-events.events.items ≡ map (event_in (map mq_in d.stations)) d.events =
    c.in_ok-events.ensures ∙ (ap (λ tables. map (event_in c.deref-3.result.now) (tables_view tables)) c.deref-4.ensures.value
    ∙ ap (λ gs. map (event_in gs) d.events) (c.deref-3.ensures.value ∙ groups))
    in
    let in_order = sym (c.if-is_out_of_order.ensures ∙ ap is_out_of_order (c.deref-5.ensures.value ∙ events)) in
    let few_links = sym (c.if-has_many_links.ensures ∙ ap has_many_links (c.deref-6.ensures.value ∙ stations)) in
    let version = version_of (table_view c.args.root.now) in
    widened version version_5 all.is.narrower _ (of_version version (table_view c.args.root.now) d _ all in_order few_links c.version_number.ensures c.number_value.ensures c.read_split.ensures c.read_spread.ensures c.read_classify.ensures c.read_irq.ensures stations groups events)
