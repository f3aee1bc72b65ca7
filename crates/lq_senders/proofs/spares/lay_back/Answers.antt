use Rattle.std.proofs.Common.{◌≡◌, ◌∷◌, ◌++◌, [], suc, ◌+◌, ◌<◌, length, sym, ap, ◌∙◌, arith, drop, take}
use Rattle.lq_senders.proofs.Benches.{last-taken, so-where-ok}
use Rattle.lq_senders.proofs.spares.lay_back.Goals as goal

pub loop-device-preserved : goal.loop-device-preserved
loop-device-preserved g c =
    let own = c.loop-device.invariant in
    let devices = c.args.devices.items in
    let n = c.pop.new.self.len in
    let one_more : c.loop-device.devices.len ≡ suc n = let len = c.in-Some.ensures.len in omega arith in
    let taken : take (suc n) devices ≡ c.pop.new.self.items ++ c.in-Some.device ∷ [] = ap (λ k. take k devices) (sym one_more) ∙ (sym own.left ∙ c.in-Some.ensures.items) in
    let so_many : length c.pop.new.self.items ≡ n = sym c.pop.new.self.ok.0 in
    let last = last-taken n devices c.pop.new.self.items c.in-Some.device taken so_many in
    let room : c.loop-device.bench.len < c.loop-device.bench.cap = let len = own.len in let same = own.capacity in let asks = c.requires.room in omega arith in
    let succeeds = c.insert-laid_back.ensures.succeeds room in
    let laid : c.insert-laid_back.new.self.items ≡ c.in-Some.device ∷ c.loop-device.bench.items =
    so-where-ok c.insert-laid_back.result _ _ _ succeeds c.insert-laid_back.ensures.items in
    record {
      fewer = let fewer = own.fewer in omega arith;
      left = last.0;
      laid = laid ∙ (ap (λ xs. c.in-Some.device ∷ xs) (own.laid ∙ ap (λ k. drop k devices ++ c.args.bench.now.items) one_more) ∙ ap (λ xs. xs ++ c.args.bench.now.items) (sym last.1));
      len = let old = own.len in let new : c.insert-laid_back.new.self.len ≡ c.loop-device.bench.len + 1 =
          so-where-ok c.insert-laid_back.result _ _ _ succeeds c.insert-laid_back.ensures.len in omega arith;
      capacity = (c.insert-laid_back.ensures.in_place room).1.0 ∙ own.capacity;
    }
