use Rattle.std.proofs.Common.{◌≡◌, ◌∷◌, ◌++◌, [], suc, ◌+◌, ◌-◌, ◌<◌, length, refl, sym, ap, ◌∙◌, subst, arith, drop, take, map}
use Rattle.lq_senders.specs.Fates.{identities_of}
use Rattle.lq_seat.specs.State.{SeatState}
use Rattle.lq_senders.specs.Setup.{HasOneSeat, origins_of}
use Rattle.std.proofs.lemmas.List.{drop_all}
use Rattle.lq_senders.proofs.Lists.{take-all}
use Rattle.lq_senders.proofs.Benches.{boxes-back, last-at, last-taken, so-where-ok}
use Rattle.lq_senders.proofs.setup.give_all_back.Goals as goal

pub loop-table-init : goal.loop-table-init
loop-table-init g c =
    let long = c.requires.whole.long in let tables = c.args.tables.ok.0 in let seats = c.args.seats.ok.0 in
    let same : c.args.tables.len ≡ length c.args.seats.items = omega arith in let none : c.args.tables.len - c.args.tables.len ≡ 0 = omega arith in
    record {
      fewer = omega arith;
      left = sym (ap (λ k. take k c.args.tables.items) tables ∙ take-all c.args.tables.items);
      seats = omega arith;
      seats_left = sym (ap (λ k. take k c.args.seats.items) same ∙ take-all c.args.seats.items);
      boxes = ap (λ cs. origins_of cs ++ identities_of (map g.D.TxDevice.state c.args.bench.now.items)) (sym (drop_all c.args.tables.len c.args.seats.items (omega arith)));
      rest = ap (λ k. drop k c.args.bench.now.items) none;
      len = refl;
      capacity = refl;
    }

-- the table that is given back has one seat alone
at : (g : _) (c : goal.After-insert-arg-1 g) → HasOneSeat c.in-Some.table c.in-Some-pop.cpu
at g c =
    let own = c.loop-table.invariant in
    let tables = c.args.tables.items in
    let seats = c.args.seats.items in
    let n = c.pop.new.self.len in
    let one_more : c.loop-table.tables.len ≡ suc n = let len = c.in-Some.ensures.len in omega arith in
    let taken : take (suc n) tables ≡ c.pop.new.self.items ++ c.in-Some.table ∷ [] = ap (λ k. take k tables) (sym one_more) ∙ (sym own.left ∙ c.in-Some.ensures.items) in
    let so_many : length c.pop.new.self.items ≡ n = sym c.pop.new.self.ok.0 in
    let taken' : take (suc n) seats ≡ c.pop-in-Some.new.self.items ++ c.in-Some-pop.cpu ∷ [] = ap (λ k. take k seats) (sym one_more) ∙ (sym own.seats_left ∙ c.in-Some-pop.ensures.items) in
    let so_many' : length c.pop-in-Some.new.self.items ≡ n = let seats = own.seats in let len = c.in-Some-pop.ensures.len in let ok = c.pop-in-Some.new.self.ok.0 in omega arith in
    c.requires.whole.each n c.in-Some.table c.in-Some-pop.cpu (last-at n tables c.pop.new.self.items c.in-Some.table taken so_many) (last-at n seats c.pop-in-Some.new.self.items c.in-Some-pop.cpu taken' so_many')

pub give_back-requires-clause-here : goal.give_back-requires-clause-here
give_back-requires-clause-here g c κs within = (at g c).seat

pub give_back-requires-clause-may : goal.give_back-requires-clause-may
give_back-requires-clause-may g c κs within = (at g c).may

pub loop-table-preserved : goal.loop-table-preserved
loop-table-preserved g c =
    let own = c.loop-table.invariant in
    let tables = c.args.tables.items in
    let seats = c.args.seats.items in
    let n = c.pop.new.self.len in
    let one_more : c.loop-table.tables.len ≡ suc n = let len = c.in-Some.ensures.len in omega arith in
    let taken : take (suc n) tables ≡ c.pop.new.self.items ++ c.in-Some.table ∷ [] = ap (λ k. take k tables) (sym one_more) ∙ (sym own.left ∙ c.in-Some.ensures.items) in
    let so_many : length c.pop.new.self.items ≡ n = sym c.pop.new.self.ok.0 in
    let taken' : take (suc n) seats ≡ c.pop-in-Some.new.self.items ++ c.in-Some-pop.cpu ∷ [] = ap (λ k. take k seats) (sym one_more) ∙ (sym own.seats_left ∙ c.in-Some-pop.ensures.items) in
    let so_many' : length c.pop-in-Some.new.self.items ≡ n = let seats = own.seats in let len = c.in-Some-pop.ensures.len in let ok = c.pop-in-Some.new.self.ok.0 in omega arith in
    let state = g.D.TxDevice.state in
    let room : c.loop-table.bench.len < c.loop-table.bench.cap = let len = own.len in let same = own.capacity in let asks = c.requires.room in omega arith in
    let succeeds = c.insert-laid_back.ensures.succeeds room in
    let laid : c.insert-laid_back.new.self.items ≡ c.give_back.result ∷ c.loop-table.bench.items =
    so-where-ok c.insert-laid_back.result _ _ _ succeeds c.insert-laid_back.ensures.items in
    record {
      fewer = let fewer = own.fewer in omega arith;
      left = (last-taken n tables c.pop.new.self.items c.in-Some.table taken so_many).0;
      seats = let ok = c.pop-in-Some.new.self.ok.0 in omega arith;
      seats_left = (last-taken n seats c.pop-in-Some.new.self.items c.in-Some-pop.cpu taken' so_many').0;
      boxes = ap (λ xs. identities_of (map state xs)) laid
          ∙ boxes-back state (λ (x : SeatState). x.origin.identity) seats c.pop-in-Some.new.self.items n c.in-Some-pop.cpu c.give_back.result c.loop-table.bench.items c.args.bench.now.items taken' so_many' c.give_back.ensures.identity
          (subst (λ k. identities_of (map state c.loop-table.bench.items) ≡ origins_of (drop k seats) ++ identities_of (map state c.args.bench.now.items)) one_more own.boxes);
      rest = let gone : c.args.tables.len - n ≡ suc (c.args.tables.len - c.loop-table.tables.len) = let fewer = own.fewer in omega arith in
          ap (λ k. drop k c.insert-laid_back.new.self.items) gone ∙ (ap (drop (suc (c.args.tables.len - c.loop-table.tables.len))) laid ∙ own.rest);
      len = let old = own.len in let new : c.insert-laid_back.new.self.len ≡ c.loop-table.bench.len + 1 =
          so-where-ok c.insert-laid_back.result _ _ _ succeeds c.insert-laid_back.ensures.len in omega arith;
      capacity = (c.insert-laid_back.ensures.in_place room).1.0 ∙ own.capacity;
    }

pub loop-table-smaller : goal.loop-table-smaller
loop-table-smaller g c = let len = c.in-Some.ensures.len in omega arith

pub unreachable-requires : goal.unreachable-requires
unreachable-requires g c = let seats = c.loop-table.invariant.seats in let len = c.in-Some.ensures.len in let none = c.in-None.ensures.cases.0 in omega arith

pub returns-clause-boxes : goal.returns-clause-boxes
returns-clause-boxes g c =
    c.loop-table.invariant.boxes ∙ ap (λ k. origins_of (drop k c.args.seats.items) ++ identities_of (map g.D.TxDevice.state c.args.bench.now.items)) c.in_default.ensures.cases.0

pub returns-clause-rest : goal.returns-clause-rest
returns-clause-rest g c =
    let all : c.args.tables.len - c.loop-table.tables.len ≡ c.args.tables.len = let none = c.in_default.ensures.cases.0 in omega arith in
    sym (ap (λ k. drop k c.loop-table.bench.items) all) ∙ c.loop-table.invariant.rest

pub returns-clause-len : goal.returns-clause-len
returns-clause-len g c = let len = c.loop-table.invariant.len in let none = c.in_default.ensures.cases.0 in omega arith
