-- The faults of a document, by those of its root, its stations and its events.
use Rattle.std.proofs.Common.{◌≡◌, Bool, true, false, List, String, BTreeMap, Global, Bor, refl, ap, ◌∙◌}
use Rattle.std.specs.List.{list_any}
use Rattle.toml.specs.Data.{Members}
use Rattle.toml.specs.View.{table_view}
use Rattle.toml.specs.declared.value.Value.{Value}
use Rattle.lq_plan.specs.Document.{Document, has_fault_in}
use Rattle.lq_plan.specs.Faults.{has_fault}
use Rattle.lq_plan.specs.Keys.{Key, event_keys, root_keys, station_keys}
use Rattle.lq_plan.specs.Tables.{tables_view}
use Rattle.lq_plan.specs.declared.faults.Fault.{Fault}
use Rattle.lq_plan.specs.declared.keys.Version.{Version}
use Rattle.lq_plan.proofs.Lists.{list_any-map}

abbrev Table : Type 0
Table = Bor (BTreeMap (String Global) Value)

-- as the code tests it
abbrev pub stations_fault : Fault → Version → List Table → Bool
stations_fault fault version = list_any (λ station. has_fault fault (station_keys version (table_view station.now)) (table_view station.now))

abbrev pub events_fault : Fault → List Table → List Table → Bool
events_fault fault stations = list_any (λ event. has_fault fault (event_keys (tables_view stations) (table_view event.now)) (table_view event.now))

abbrev document : Members → List Table → List Table → Document
document root stations events = record { root = root; stations = tables_view stations; events = tables_view events }

pub of_root : (fault : Fault) (version : Version) (root : Members) (stations events : List Table) (keys : List Key) → keys ≡ root_keys version
    → true ≡ has_fault fault keys root → true ≡ has_fault_in version fault (document root stations events)
of_root fault version root stations events keys same here =
    let seen : true ≡ has_fault fault (root_keys version) root = here ∙ ap (λ ks. has_fault fault ks root) same in
    rw (← seen) refl

pub of_station : (fault : Fault) (version : Version) (root : Members) (stations events : List Table) (keys : List Key) → keys ≡ root_keys version
    → false ≡ has_fault fault keys root → true ≡ stations_fault fault version stations → true ≡ has_fault_in version fault (document root stations events)
of_station fault version root stations events keys same no_root here =
    let of_root : false ≡ has_fault fault (root_keys version) root = no_root ∙ ap (λ ks. has_fault fault ks root) same in
    let seen : true ≡ list_any (λ station. has_fault fault (station_keys version station) station) (tables_view stations) =
    here ∙ list_any-map (λ station. has_fault fault (station_keys version station) station) (λ (t : Table). table_view t.now) stations
    in
    rw (← of_root, ← seen) refl

pub of_event : (fault : Fault) (version : Version) (root : Members) (stations events : List Table) (keys : List Key) (answer : Bool) → keys ≡ root_keys version
    → false ≡ has_fault fault keys root → false ≡ stations_fault fault version stations → answer ≡ events_fault fault stations events
    → answer ≡ has_fault_in version fault (document root stations events)
of_event fault version root stations events keys answer same no_root no_station here =
    let of_root : false ≡ has_fault fault (root_keys version) root = no_root ∙ ap (λ ks. has_fault fault ks root) same in
    let of_stations : false ≡ list_any (λ station. has_fault fault (station_keys version station) station) (tables_view stations) =
    no_station ∙ list_any-map (λ station. has_fault fault (station_keys version station) station) (λ (t : Table). table_view t.now) stations
    in
    let seen : answer ≡ list_any (λ event. has_fault fault (event_keys (tables_view stations) event) event) (tables_view events) =
    here ∙ list_any-map (λ event. has_fault fault (event_keys (tables_view stations) event) event) (λ (t : Table). table_view t.now) events
    in
    rw (← of_root, ← of_stations) seen
