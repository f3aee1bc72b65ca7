use Rattle.std.proofs.Common.{◌≡◌, ◌<◌, ◌∷◌, ◌++◌, [], length, refl, ap, ◌∙◌, arith, drop, drop-drop, take}
use Rattle.lq_senders.proofs.Lists.{first-with-next}
use Rattle.lq_senders.proofs.spares.take_spares.Goals as goal

pub loop-place-init : goal.loop-place-init
loop-place-init g c = record {
  taken = c.requires.none_yet;
  so_many = let none = ap length c.requires.none_yet in let ok = c.args.spares.now.ok.0 in omega arith;
  rest = refl;
  len = omega arith;
  capacity = refl;
  room = c.requires.room;
}

pub loop-place-preserved : goal.loop-place-preserved
loop-place-preserved g c =
    let own = c.loop-place.invariant in
    let k = c.loop-place._place in
    let all = c.args.bench.now.items in
    let some : 0 < length c.loop-place.bench.items = let test = c.loop-place-test.true in let len = own.len in let many = c.requires.many in let ok = c.loop-place.bench.ok.0 in omega arith in
    record {
      taken = c.push_reserved.ensures.items ∙ (ap (λ l. l ++ c.remove.result ∷ []) own.taken ∙ first-with-next k all c.loop-place.bench.items c.remove.result own.rest some c.remove.ensures.value);
      so_many = let e = own.so_many in let len = c.push_reserved.ensures.len in omega arith;
      rest = c.remove.ensures.items ∙ (ap (drop 1) own.rest ∙ drop-drop 1 k all);
      len = let len = own.len in let less = c.remove.ensures.len in omega arith;
      capacity = c.remove.ensures.capacity ∙ own.capacity;
      room = let room = own.room in let same = c.push_reserved.ensures.capacity in omega arith;
    }

-- all were taken
all : (g : _) (c : goal.After-loop-place g) → c.loop-place._place ≡ c.args.count
all g c = let test = c.loop-place-test.false in let stop = c.loop-place.auto._place-end in omega arith

pub returns-clause-spares : goal.returns-clause-spares
returns-clause-spares g c = c.loop-place.invariant.taken ∙ ap (λ k. take k c.args.bench.now.items) (all g c)

pub returns-clause-rest : goal.returns-clause-rest
returns-clause-rest g c = c.loop-place.invariant.rest ∙ ap (λ k. drop k c.args.bench.now.items) (all g c)
