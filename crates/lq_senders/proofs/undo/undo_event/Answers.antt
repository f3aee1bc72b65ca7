use Rattle.std.proofs.Common.{◌≡◌, ◌-◌, map, sym, ◌∙◌, arith}
use Rattle.std.specs.Prelude.{slice_set}
use Rattle.lq_senders.specs.Units.{swaps_before}
use Rattle.lq_senders.proofs.Seats.{read-at}
use Rattle.lq_senders.proofs.Undone.{trade}
use Rattle.lq_senders.proofs.Units.{unit-within}
use Rattle.lq_senders.proofs.undo.undo_event.Goals as goal

pub index_mut-requires-then-is_swap_kind : goal.index_mut-requires-then-is_swap_kind
index_mut-requires-then-is_swap_kind g c =
    let below = unit-within c.args.plan.now c.args.e c.event-station.result c.event-station.ensures.event (sym c.is_swap_kind.ensures ∙ c.if-is_swap_kind.true) in
    let unit = c.brought_unit.ensures in let stations = c.stations.ensures.stations in let long = c.requires.spares in let ok = c.args.spares.now.ok.0 in omega arith

pub returns-then-is_swap_kind-clause-undone : goal.returns-then-is_swap_kind-clause-undone
returns-then-is_swap_kind-clause-undone g c =
    let plan = c.args.plan.now in let e = c.args.e in let event = c.event-station.result in let state = g.D.TxDevice.state in let homes = c.args.homes.now.items in let spares = c.args.spares.now.items in
    let is = sym c.is_swap_kind.ensures ∙ c.if-is_swap_kind.true in
    let below = unit-within plan e event c.event-station.ensures.event is in
    let unit = c.brought_unit.ensures in let stations = c.stations.ensures.stations in let long = c.requires.spares in let own = c.event-station.ensures.within.station in let all = c.requires.homes in
    let place = c.brought_unit.result - c.stations.result in let place-is : place ≡ swaps_before plan e = omega arith in
    let x = c.index_mut.result.now in let y = c.index_mut-then-is_swap_kind.result.now in
    (λ i. (map state (slice_set homes event.station (c.swap.ensures.x_after i)), map state (slice_set spares place (c.swap.ensures.y_after i))))
    ∙ trade state plan e place event homes spares x y c.event-station.ensures.event is place-is
    (read-at homes event.station x (omega arith) c.index_mut.ensures.value)
    (read-at spares place y (omega arith) c.index_mut-then-is_swap_kind.ensures.value)
