use Rattle.std.proofs.Common.{◌≡◌, ◌∙◌, ap, sym, true, false}
use Rattle.std.proofs.lemmas.Bool.{false≢true}
use Rattle.toml.specs.View.{table_view}
use Rattle.lq_plan.specs.Keys.{keys_view}
use Rattle.lq_plan.proofs.Documents.{of_root, of_station, of_event, stations_fault, events_fault}
use Rattle.lq_plan.proofs.document.Document.has_fault.Goals as goal
use Rattle.lq_plan.proofs.document.Document.has_fault.Goals.{then-has_fault, else-has_fault}

pub returns-then-a_station_has_fault : goal.returns-then-a_station_has_fault
returns-then-a_station_has_fault c =
    let d = c.args.self.now in
    let root = table_view d.root.now in
    let version = c.args.version in
    let keys = keys_view c.root_keys.result in
    c.if-a_station_has_fault.true ∙ elim c.if-has_fault.branch [
      | then-has_fault w ↦
          of_root c.args.fault version root d.stations.items d.events.items keys c.root_keys.ensures w.if-has_fault.ensures
      | else-has_fault w ↦
          let here : true ≡ stations_fault c.args.fault version d.stations.items =
          sym (sym (w.value-is ∙ w.a_station_has_fault.ensures ∙ ap (stations_fault c.args.fault version) w.deref.ensures.value) ∙ c.if-a_station_has_fault.true)
          in
          of_station c.args.fault version root d.stations.items d.events.items keys c.root_keys.ensures w.if-has_fault.ensures here
    ]

pub returns-else-a_station_has_fault : goal.returns-else-a_station_has_fault
returns-else-a_station_has_fault c =
    let d = c.args.self.now in
    let root = table_view d.root.now in
    let version = c.args.version in
    let keys = keys_view c.root_keys.result in
    elim c.if-has_fault.branch [
      | then-has_fault w ↦ absurd (false≢true (sym c.if-a_station_has_fault.false ∙ w.value-is ∙ w.if-has_fault.true))
      | else-has_fault w ↦
          let none : false ≡ stations_fault c.args.fault version d.stations.items =
          sym (sym (w.value-is ∙ w.a_station_has_fault.ensures ∙ ap (stations_fault c.args.fault version) w.deref.ensures.value) ∙ c.if-a_station_has_fault.false)
          in
          let here : c.an_event_has_fault.result ≡ events_fault c.args.fault d.stations.items d.events.items =
          c.an_event_has_fault.ensures
          ∙ ap (λ stations. events_fault c.args.fault stations c.deref-else-a_station_has_fault-2.result.now) c.deref-else-a_station_has_fault.ensures.value
          ∙ ap (events_fault c.args.fault d.stations.items) c.deref-else-a_station_has_fault-2.ensures.value
          in
          of_event c.args.fault version root d.stations.items d.events.items keys c.an_event_has_fault.result c.root_keys.ensures w.if-has_fault.ensures none here
    ]
