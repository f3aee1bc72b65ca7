use Rattle.std.proofs.Common.{rules, ◌≡◌, Bool, true, ℕ, ◌≤◌, List, [], ◌∷◌, ◌++◌, sym, ap, ◌∙◌, subst, arith, Some}
use Rattle.lq_model.specs.Positions.{holds_lock}
use Rattle.lq_model.specs.Machine.{Purge}
use Rattle.lq_band_laws.specs.Three.{at}
use Rattle.lq_band_laws.specs.Ring.{Ends, IsAtRest}
use Rattle.lq_table.specs.Views.{Left, Setup, View}
use Rattle.lq_table.specs.Rule.{shown, IsResting}
use Rattle.lq_table.specs.Sees.{view}
use Rattle.lq_ring.specs.Purged.{purged_by}
use Rattle.lq_ring.proofs.Seats.{seat_on}
use Rattle.lq_ring.proofs.TakeSteps.{sized_none, rest_at, rest_put}
use Rattle.lq_ring.proofs.PurgeSteps.{IsPurgedTo, few_left, none_purged, next_purged, all_purged, still_held}
use Rattle.lq_band_laws.proofs.Three.{at_put_same}
use Rattle.lq_table.specs.Step.{LoadSize, MakesSteps, PurgeSlot, Standing, Step, standing}
use Rattle.lq_ring.specs.StepLists.{EmptiesBand, NoneYet, OneMore, PurgeOne}
use Rattle.lq_ring.proofs.ListLemmas.{pass_leaves, passes, purge_leaves}
use Rattle.lq_ring.proofs.StepsThen.{makes_then, stands_after}
use Rattle.lq_ring.proofs.purges.purge_band.Goals as goal

pub loop-n-init : goal.loop-n-init
loop-n-init g c =
    let v = view c.args.cpu.now in let loaded = c.load_size-size.ensures.makes.knows ∙ sized_none c.load_size-size.result v c.requires.idle in let s = c.load_size-size.ensures.makes in record {
      seat = seat_on c.args.shared.now c.args.cpu.now c.load_size-size.new.cpu c.requires.seat s.seat (ap (λ (x : View). x.share) loaded);
      still = s.seat;
      slot = s.has;
      station = s.carries ∙ (c.requires.station ∙ ap (λ (x : View). Some (shown x.holder)) (sym loaded));
      each = ([], NoneYet, s);
      purged = λ f left. subst (λ (x : View). IsPurgedTo c.args.band 0 f v x) (sym loaded) (none_purged c.args.band f v c.requires.below left (rest_at _ c.args.band _ c.requires.rests.0));
    }

pub purge_one-requires-clause-at : goal.purge_one-requires-clause-at
purge_one-requires-clause-at g c _ _ =
    let at = c.requires.at in let l = at.1 in let b = c.args.band in let p = c.loop-n.invariant.purged l at.5 in
    (at.0, purged_by b c.loop-n.n l, ap (λ (x : View). x.place.position) p.is ∙ at.2, ap (λ (x : View). x.control.purge) p.is ∙ at.3, at.4, ap (λ (x : View). x.holder.left) p.is, at.6, (λ n h. at.7 n (still_held b c.loop-n.n l n h)), few_left b c.loop-n.n l _ _ (ap (λ (x : View). x.holder.size) p.is) at.8)

pub purge_one-requires-clause-packets : goal.purge_one-requires-clause-packets
purge_one-requires-clause-packets g c _ _ =
    let at = c.requires.at in let p = c.loop-n.invariant.purged at.1 at.5 in (ap (λ (x : View). x.packets.owed) p.is ∙ c.requires.packets.0, ap (λ (x : View). x.packets.fresh) p.is ∙ c.requires.packets.1)

pub purge_one-requires-clause-rests : goal.purge_one-requires-clause-rests
purge_one-requires-clause-rests g c _ _ =
    let at = c.requires.at in let v = view c.args.cpu.now in let p = c.loop-n.invariant.purged at.1 at.5 in
    let size : v.holder.size ≡ c.load_size-size.result = sym (c.load_size-size.ensures.makes.told.0.2 (ap holds_lock at.2)) in (
      subst (λ (x : View). IsResting x.holder.size x.holder.ends) (sym p.is) (rest_put v.holder.size c.args.band p.ends v.holder.ends c.requires.rests.0 p.rests),
      ap (λ (x : View). x.holder.resizing) p.is ∙ c.requires.rests.1,
      ap (λ (x : View). x.holder.size) p.is ∙ size,
      subst (λ (k : Setup). c.load_size-size.result ≤ k.max_len) c.requires.seat.2 c.load_size-size.ensures.makes.told.0.1,
    )

pub loop-n-preserved : goal.loop-n-preserved
loop-n-preserved g c =
    let b = c.args.band in let k = c.loop-n.n in let v = view c.args.cpu.now in let w = view c.loop-n.cpu in let i = c.loop-n.invariant in let m = c.purge_one.ensures.makes in let s = m.2.seat in
    let z = c.load_size-size.result in let length : z ≡ v.holder.size = c.load_size-size.ensures.makes.told.0.2 (ap holds_lock c.requires.at.2) in
    let one = subst (λ (r : Bool). PurgeOne b z c.args.cause (standing c.loop-n.cpu) r m.0) c.if-not-purge_one.false m.1 in
    let taken = λ (l : Left) (left : v.holder.left ≡ Some l). (let p = i.purged l left in
    let ends : at b w.holder.ends ≡ p.ends = ap (λ (x : View). at b x.holder.ends) p.is ∙ at_put_same b p.ends v.holder.ends in
    purge_leaves b z c.args.cause (standing c.loop-n.cpu) (purged_by b k l) m.0 one m.2.told (ap (λ (x : View). x.holder.left) p.is)
    (subst (λ (x : ℕ × Ends). IsAtRest x.0 x.1) (λ j. (sym length j, sym ends j)) p.rests) (ap (λ (x : View). x.holder.size) p.is ∙ sym length)) in
    let next = λ (l : Left) (left : v.holder.left ≡ Some l). (let t = taken l left in next_purged b k t.0 l v w (view c.purge_one.new.cpu) c.requires.packets.0 (i.purged l left) t.1 (m.2.knows ∙ t.2)) in record {
      seat = seat_on c.args.shared.now c.args.cpu.now c.purge_one.new.cpu c.requires.seat (s.0 ∙ i.still.0, s.1 ∙ i.still.1) (ap (λ (x : View). x.share) (next c.requires.at.1 c.requires.at.5).is);
      still = (s.0 ∙ i.still.0, s.1 ∙ i.still.1);
      slot = c.purge_one.ensures.stands.0 ∙ i.slot;
      station = c.purge_one.ensures.stands.1;
      each = (i.each.0 ++ m.0, OneMore i.each.1 (subst (λ (x : Standing). PurgeOne b z c.args.cause x true m.0) (stands_after i.each.2) one), makes_then i.each.2 m.2);
      purged = next;
    }

pub unreachable-requires : goal.unreachable-requires
unreachable-requires g c =
    let at = c.requires.at in let few = (c.loop-n.invariant.purged at.1 at.5).few in let most = at.8 in let past = c.loop-n-test.false in
    let size : c.load_size-size.result ≡ (view c.args.cpu.now).holder.size = c.load_size-size.ensures.makes.told.0.2 (ap holds_lock at.2) in absurd (omega arith)

pub returns-then-not-purge_one : goal.returns-then-not-purge_one
returns-then-not-purge_one g c =
    let i = c.loop-n.invariant in let m = c.purge_one.ensures.makes in let z = c.load_size-size.result in let b = c.args.band in let k = c.loop-n.n in let s = m.2.seat in
    let none_ = subst (λ (r : Bool). PurgeOne b z c.args.cause (standing c.loop-n.cpu) r m.0) c.if-not-purge_one.true m.1 in
    let passed = λ (u : Purge) (l : Left) (purge : (view c.args.cpu.now).control.purge ≡ Some u) (left : (view c.args.cpu.now).holder.left ≡ Some l). (let p = i.purged l left in
    pass_leaves b z c.args.cause (standing c.loop-n.cpu) u (purged_by b k l) m.0 none_ m.2.told (ap (λ (x : View). x.control.purge) p.is ∙ purge) (ap (λ (x : View). x.holder.left) p.is)) in
    let knows = λ (u : Purge) (l : Left) (purge : (view c.args.cpu.now).control.purge ≡ Some u) (left : (view c.args.cpu.now).holder.left ≡ Some l). (let t = passed u l purge left in
    all_purged b k u l (view c.args.cpu.now) (view c.loop-n.cpu) (view c.purge_one.new.cpu) (i.purged l left) t.0 (m.2.knows ∙ t.1)) in record {
      makes = (
        LoadSize z ∷ i.each.0 ++ PurgeSlot b 0 ∷ [],
        EmptiesBand i.each.1,
        makes_then i.each.2 (subst (λ (xs : List Step). MakesSteps xs c.loop-n.cpu c.purge_one.new.cpu) (passes b z c.args.cause (standing c.loop-n.cpu) m.0 none_) m.2),
      );
      same = ((s.0 ∙ i.still.0, s.1 ∙ i.still.1), c.purge_one.ensures.stands.0 ∙ i.slot);
      few = search rules;
      station = search rules;
      knows = knows;
    }
