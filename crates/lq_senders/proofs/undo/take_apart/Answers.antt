use Rattle.std.proofs.Common.{◌≡◌, ◌∷◌, ◌++◌, [], suc, ◌+◌, ◌<◌, length, sym, ap, ◌∙◌, subst, arith, drop, take, map}
use Rattle.std.proofs.lemmas.List.{append-nil, drop_all}
use Rattle.lq_senders.specs.Ends.{ClosedState, closed_state, home_device}
use Rattle.lq_table.specs.Ended.{ended_state}
use Rattle.lq_senders.proofs.Benches.{last-at, last-taken, so-where-ok}
use Rattle.lq_senders.proofs.HandsBack.{home-is, laid-through}
use Rattle.lq_senders.proofs.Lists.{take-all}
use Rattle.lq_senders.proofs.Seats.{mapped-at}
use Rattle.lq_senders.proofs.undo.take_apart.Goals as goal

pub into_device-stays-requires-clause-home : goal.into_device-stays-requires-clause-home
into_device-stays-requires-clause-home g c κs within =
    let own = c.loop-station.invariant in
    let closed = c.args.closed.items in
    let n = c.pop.new.self.len in
    let one_more : c.loop-station.closed.len ≡ suc n = let len = c.in-Some.ensures.len in omega arith in
    let taken : take (suc n) closed ≡ c.pop.new.self.items ++ c.in-Some.station ∷ [] = ap (λ k. take k closed) (sym one_more) ∙ (sym own.left ∙ c.in-Some.ensures.items) in
    let so_many : length c.pop.new.self.items ≡ n = sym c.pop.new.self.ok.0 in
    let h = closed_state {D = g.row.D.Denot} {g = g.D.TxDevice} in
    c.requires.home n (h c.in-Some.station) (mapped-at h closed n c.in-Some.station (last-at n closed c.pop.new.self.items c.in-Some.station taken so_many))

pub loop-station-preserved : goal.loop-station-preserved
loop-station-preserved g c =
    let own = c.loop-station.invariant in
    let closed = c.args.closed.items in
    let n = c.pop.new.self.len in
    let one_more : c.loop-station.closed.len ≡ suc n = let len = c.in-Some.ensures.len in omega arith in
    let taken : take (suc n) closed ≡ c.pop.new.self.items ++ c.in-Some.station ∷ [] = ap (λ k. take k closed) (sym one_more) ∙ (sym own.left ∙ c.in-Some.ensures.items) in
    let so_many : length c.pop.new.self.items ≡ n = sym c.pop.new.self.ok.0 in
    let h = closed_state {D = g.row.D.Denot} {g = g.D.TxDevice} in
    let stays = ended_state {D = g.row.D.Denot} {g = g.D.TxDevice} in
    let at_home = c.requires.home n (h c.in-Some.station) (mapped-at h closed n c.in-Some.station (last-at n closed c.pop.new.self.items c.in-Some.station taken so_many)) in
    let state = g.D.TxDevice.state in
    let room : c.loop-station.homes.len < c.loop-station.homes.cap = let len = own.homes_len in let asks = own.homes_room in omega arith in
    let succeeds = c.insert-taken_out.ensures.succeeds room in
    let laid : c.insert-taken_out.new.self.items ≡ c.into_device-stays.result.1 ∷ c.loop-station.homes.items =
    so-where-ok c.insert-taken_out.result _ _ _ succeeds c.insert-taken_out.ensures.items in
    let ended_room : c.loop-station.ended.len < c.loop-station.ended.cap = let len = own.ended_len in let asks = own.ended_room in omega arith in
    let lays_out = c.insert-laid_out.ensures.succeeds ended_room in
    let laid_out : c.insert-laid_out.new.self.items ≡ c.into_device-stays.result.0 ∷ c.loop-station.ended.items =
    so-where-ok c.insert-laid_out.result _ _ _ lays_out c.insert-laid_out.ensures.items in
    record {
      fewer = let fewer = own.fewer in omega arith;
      left = (last-taken n closed c.pop.new.self.items c.in-Some.station taken so_many).0;
      homes = ap (map state) laid
          ∙ laid-through state h home_device closed c.pop.new.self.items n c.in-Some.station c.into_device-stays.result.1 c.loop-station.homes.items [] taken so_many
          (c.into_device-stays.ensures.device at_home.0 at_home.1 ∙ sym (home-is (h c.in-Some.station) at_home.0 at_home.1))
          (subst (λ k. map state c.loop-station.homes.items ≡ map home_device (map h (drop k closed)) ++ []) one_more own.homes);
      homes_len = let old = own.homes_len in let new : c.insert-taken_out.new.self.len ≡ c.loop-station.homes.len + 1 =
          so-where-ok c.insert-taken_out.result _ _ _ succeeds c.insert-taken_out.ensures.len in omega arith;
      homes_room = let old = own.homes_room in let same = (c.insert-taken_out.ensures.in_place room).1.0 in omega arith;
      stays = ap (map stays) laid_out
          ∙ laid-through stays h (λ (x : ClosedState). x.ended) closed c.pop.new.self.items n c.in-Some.station c.into_device-stays.result.0 c.loop-station.ended.items [] taken so_many
          (ap stays c.into_device-stays.ensures.ended)
          (subst (λ k. map stays c.loop-station.ended.items ≡ map (λ (x : ClosedState). x.ended) (map h (drop k closed)) ++ []) one_more own.stays);
      ended_len = let old = own.ended_len in let new : c.insert-laid_out.new.self.len ≡ c.loop-station.ended.len + 1 =
          so-where-ok c.insert-laid_out.result _ _ _ lays_out c.insert-laid_out.ensures.len in omega arith;
      ended_room = let old = own.ended_room in let same = (c.insert-laid_out.ensures.in_place ended_room).1.0 in omega arith;
    }

pub loop-station-init : goal.loop-station-init
loop-station-init g c =
    let closed = c.args.closed.items in let long = c.args.closed.ok.0 in
    let past = drop_all c.args.closed.len closed (omega arith) in
    let no_home = ap length c.requires.none_yet.0 in let homes = c.args.homes.now.ok.0 in
    let none_ended = ap length c.requires.none_yet.1 in let ended = c.args.ended.now.ok.0 in
    let h = closed_state {D = g.row.D.Denot} {g = g.D.TxDevice} in
    record {
      fewer = omega arith;
      left = sym (ap (λ k. take k closed) long ∙ take-all closed);
      homes = ap (map g.D.TxDevice.state) c.requires.none_yet.0 ∙ sym (ap (λ xs. map home_device (map h xs) ++ []) past);
      homes_len = omega arith;
      homes_room = c.requires.room.0;
      stays = ap (map (ended_state {D = g.row.D.Denot} {g = g.D.TxDevice})) c.requires.none_yet.1 ∙ sym (ap (λ xs. map (λ (x : ClosedState). x.ended) (map h xs) ++ []) past);
      ended_len = omega arith;
      ended_room = c.requires.room.1;
    }

pub returns-clause-homes : goal.returns-clause-homes
returns-clause-homes g c =
    let h = closed_state {D = g.row.D.Denot} {g = g.D.TxDevice} in
    c.loop-station.invariant.homes ∙ (append-nil _ ∙ ap (λ k. map home_device (map h (drop k c.args.closed.items))) c.in_default.ensures.cases.0)

pub returns-clause-ended : goal.returns-clause-ended
returns-clause-ended g c =
    let h = closed_state {D = g.row.D.Denot} {g = g.D.TxDevice} in
    c.loop-station.invariant.stays ∙ (append-nil _ ∙ ap (λ k. map (λ (x : ClosedState). x.ended) (map h (drop k c.args.closed.items))) c.in_default.ensures.cases.0)
