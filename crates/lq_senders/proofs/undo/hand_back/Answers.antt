use Rattle.std.proofs.Common.{◌++◌, length, ap, ◌∙◌, arith, map, length-append}
use Rattle.lq_senders.proofs.HandsBack.{laid-before, laid-by-unit}
use Rattle.lq_senders.proofs.undo.hand_back.Goals as goal

pub lay_back-requires-clause-room : goal.lay_back-requires-clause-room
lay_back-requires-clause-room g c κs within =
    let spares = c.undo_swaps.ensures.spares in let asked = c.requires.spares in let ok = c.undo_swaps.new.spares.ok.0 in let room = c.requires.room in omega arith

pub lay_back-requires-2-clause-room : goal.lay_back-requires-2-clause-room
lay_back-requires-2-clause-room g c κs within =
    let spares = c.undo_swaps.ensures.spares in let spares_asked = c.requires.spares in
    let homes = c.undo_swaps.ensures.homes in let homes_asked = c.requires.homes in let ok = c.undo_swaps.new.homes.ok.0 in
    let laid = ap length c.lay_back.ensures.laid in let ok' = c.lay_back.new.bench.ok.0 in let ok'' = c.args.bench.now.ok.0 in
    let same = c.lay_back.ensures.capacity in let room = c.requires.room in
    omega (arith, length-append c.undo_swaps.new.spares.items c.args.bench.now.items)

pub returns-clause-states : goal.returns-clause-states
returns-clause-states g c =
    let state = g.D.TxDevice.state in
    laid-by-unit c.undo_swaps.new.homes.items c.undo_swaps.new.spares.items c.args.bench.now.items c.lay_back-2.new.bench.items
    (c.lay_back-2.ensures.laid ∙ ap (λ l. c.undo_swaps.new.homes.items ++ l) c.lay_back.ensures.laid)
    state c.args.plan.now (map state c.args.homes.items) (map state c.args.spares.items) c.undo_swaps.ensures.undone

pub returns-clause-rest : goal.returns-clause-rest
returns-clause-rest g c =
    laid-before c.undo_swaps.new.homes.items c.undo_swaps.new.spares.items c.args.bench.now.items c.lay_back-2.new.bench.items
    (c.lay_back-2.ensures.laid ∙ ap (λ l. c.undo_swaps.new.homes.items ++ l) c.lay_back.ensures.laid)
    _ (let spares = c.undo_swaps.ensures.spares in let spares_asked = c.requires.spares in let homes = c.undo_swaps.ensures.homes in let homes_asked = c.requires.homes in omega arith)

pub returns-clause-len : goal.returns-clause-len
returns-clause-len g c =
    let spares = c.undo_swaps.ensures.spares in let spares_asked = c.requires.spares in
    let homes = c.undo_swaps.ensures.homes in let homes_asked = c.requires.homes in
    let laid = ap length c.lay_back.ensures.laid in let laid' = ap length c.lay_back-2.ensures.laid in
    let ok = c.lay_back-2.new.bench.ok.0 in let ok' = c.args.bench.now.ok.0 in
    omega (arith, length-append c.undo_swaps.new.spares.items c.args.bench.now.items, length-append c.undo_swaps.new.homes.items c.lay_back.new.bench.items)
