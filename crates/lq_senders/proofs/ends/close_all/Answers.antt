use Rattle.std.proofs.Common.{◌≡◌, ℕ, ◌+◌, Some, List, [], ◌∷◌, length, map, drop, drop-drop, refl, sym, ap, ◌∙◌, subst, arith}
use Rattle.std.specs.Prelude.{slice_get}
use Rattle.std.proofs.lemmas.List.{map-append}
use Rattle.lq_senders.specs.Ends.{ClosedState, FirstClosed, MayCloseAt, closed_state}
use Rattle.lq_senders.proofs.Closes.{none-closed, one-closed, closes-as}
use Rattle.lq_senders.proofs.Lists.{length-mapped, next-left}
use Rattle.lq_senders.proofs.ends.close_all.Goals as goal
use Rattle.lq_senders.proofs.ends.close_all.Goals.{After-remove-cpu}

pub loop-station-init : goal.loop-station-init
loop-station-init g c = record {
  tables = refl;
  tables_len = omega arith;
  seats = refl;
  seats_len = omega arith;
  closed = subst (λ (l : List ClosedState). FirstClosed c.args.job.now.plan.now c.args.job.now.infos.now 0 c.args.seats.items l) (sym (ap (map closed_state) c.requires.none_yet)) (none-closed c.args.job.now.plan.now c.args.job.now.infos.now c.args.seats.items);
  room = c.requires.room;
}

pub remove-table-requires : goal.remove-table-requires
remove-table-requires g c =
    let test = c.loop-station-test.true in let e = c.stations-station-end.ensures.stations in let len = c.loop-station.invariant.tables_len in let all = c.requires.may.all in let ok = c.args.shared.ok.0 in omega arith

pub remove-cpu-requires : goal.remove-cpu-requires
remove-cpu-requires g c =
    let test = c.loop-station-test.true in let e = c.stations-station-end.ensures.stations in let len = c.loop-station.invariant.seats_len in let all = c.requires.may.all in let long = c.requires.may.long in let ok = c.args.seats.ok.0 in omega arith

table-here : (g : _) (c : After-remove-cpu g) → slice_get c.args.shared.items c.loop-station._station ≡ Some c.remove-table.result
table-here g c =
    let inv = c.loop-station.invariant in let test = c.loop-station-test.true in let e = c.stations-station-end.ensures.stations in let all = c.requires.may.all in
    let tables_len = inv.tables_len in let ok = c.args.shared.ok.0 in let here = c.loop-station.shared.ok.0 in
    next-left c.loop-station._station c.args.shared.items c.loop-station.shared.items c.remove-table.result inv.tables (omega arith) c.remove-table.ensures.value

seat-here : (g : _) (c : After-remove-cpu g) → slice_get c.args.seats.items c.loop-station._station ≡ Some c.remove-cpu.result
seat-here g c =
    let inv = c.loop-station.invariant in let test = c.loop-station-test.true in let e = c.stations-station-end.ensures.stations in let all = c.requires.may.all in let long = c.requires.may.long in
    let seats_len = inv.seats_len in let ok = c.args.shared.ok.0 in let ok' = c.args.seats.ok.0 in let here = c.loop-station.seats.ok.0 in
    next-left c.loop-station._station c.args.seats.items c.loop-station.seats.items c.remove-cpu.result inv.seats (omega arith) c.remove-cpu.ensures.value

at : (g : _) (c : After-remove-cpu g) → MayCloseAt c.args.job.now.plan.now c.args.job.now.infos.now c.loop-station._station c.remove-table.result c.remove-cpu.result
at g c = c.requires.may.each c.loop-station._station c.remove-table.result c.remove-cpu.result (table-here g c) (seat-here g c)

pub close-ended-requires-clause-here : goal.close-ended-requires-clause-here
close-ended-requires-clause-here g c κs within = (at g c).seat

pub close-ended-requires-clause-may : goal.close-ended-requires-clause-may
close-ended-requires-clause-may g c κs within = let may = (at g c).may in record { first = may.first; raised = may.raised; sole = may.sole }

pub close-ended-requires-clause-ended : goal.close-ended-requires-clause-ended
close-ended-requires-clause-ended g c κs within = (at g c).may.finished

pub push_reserved-requires : goal.push_reserved-requires
push_reserved-requires g c =
    let test = c.loop-station-test.true in let e = c.stations-station-end.ensures.stations in let so_many = c.loop-station.invariant.closed.so_many in let long = length-mapped closed_state c.loop-station.closed.items in
    let room = c.loop-station.invariant.room in let ok = c.loop-station.closed.ok.0 in omega arith

pub loop-station-preserved : goal.loop-station-preserved
loop-station-preserved g c =
    let inv = c.loop-station.invariant in let k = c.loop-station._station in let now = c.loop-station.closed.items in let ended = c.close-ended.result in let done = c.close-ended.ensures in
    let test = c.loop-station-test.true in let e = c.stations-station-end.ensures.stations in let all = c.requires.may.all in let long = c.requires.may.long in
    let left_t = inv.tables_len in let left_c = inv.seats_len in let ok = c.args.shared.ok.0 in let ok' = c.args.seats.ok.0 in let here = c.loop-station.shared.ok.0 in let here' = c.loop-station.seats.ok.0 in
    let at-t = next-left k c.args.shared.items c.loop-station.shared.items c.remove-table.result inv.tables (omega arith) c.remove-table.ensures.value in
    let at-c = next-left k c.args.seats.items c.loop-station.seats.items c.remove-cpu.result inv.seats (omega arith) c.remove-cpu.ensures.value in
    record {
      tables = c.remove-table.ensures.items ∙ (ap (drop 1) inv.tables ∙ drop-drop 1 k c.args.shared.items);
      tables_len = let less = c.remove-table.ensures.len in omega arith;
      seats = c.remove-cpu.ensures.items ∙ (ap (drop 1) inv.seats ∙ drop-drop 1 k c.args.seats.items);
      seats_len = let less = c.remove-cpu.ensures.len in omega arith;
      closed = subst (λ (l : List ClosedState). FirstClosed c.args.job.now.plan.now c.args.job.now.infos.now (k + 1) c.args.seats.items l) (sym (ap (map closed_state) c.push_reserved.ensures.items ∙ map-append closed_state now (ended ∷ [])))
          (one-closed c.args.job.now.plan.now c.args.job.now.infos.now k c.args.seats.items (map closed_state now) c.remove-cpu.result (closed_state ended) at-c
          (closes-as c.args.job.now.plan.now c.args.job.now.infos.now k c.remove-table.result c.remove-cpu.result (closed_state ended) (c.requires.may.each k c.remove-table.result c.remove-cpu.result at-t at-c) done.closed done.plan done.sound) inv.closed);
      room = let room = inv.room in let same = c.push_reserved.ensures.capacity in omega arith;
    }

pub returns : goal.returns
returns g c =
    let test = c.loop-station-test.false in let e = c.stations-station-end.ensures.stations in let stop = c.loop-station.auto._station-end in
    let same : c.loop-station._station ≡ length c.args.job.now.plan.now.stations = omega arith in
    subst (λ (k : ℕ). FirstClosed c.args.job.now.plan.now c.args.job.now.infos.now k c.args.seats.items (map closed_state c.loop-station.closed.items)) same c.loop-station.invariant.closed
