use Rattle.std.proofs.Common.{◌≡◌, ℕ, [], ◌∷◌, ◌+◌, ◌-◌, refl, sym, ap, ◌∙◌, subst, arith, Option, Some}
use Rattle.std.specs.Prelude.{option_map, slice_index, is_some}
use Rattle.std.specs.Option.{unwrap_or}
use Rattle.lq_account_laws.proofs.Lists.{first-in}
use Rattle.lq_device.specs.Station.{StationState, with_ends}
use Rattle.lq_model.specs.Positions.{holds_lock}
use Rattle.lq_model.specs.declared.fate.Fate.TheVariants as fate
use Rattle.lq_model.specs.declared.fate.Cause.{Cause}
use Rattle.lq_band_laws.specs.Three.{at}
use Rattle.lq_band_laws.specs.Ring.{Ends, taken_on}
use Rattle.lq_band_laws.proofs.Three.{at_put_same}
use Rattle.lq_table.specs.Views.{Left, View, no_station}
use Rattle.lq_table.specs.Rule.{shown}
use Rattle.lq_table.specs.Purges.{purge_slot_view}
use Rattle.lq_table.specs.Fates.{settle_view_owed}
use Rattle.lq_table.specs.Sees.{view}
use Rattle.lq_table.specs.Step.{MakesSteps, PurgeSlot, Settle, Standing, standing, steps_leave}
use Rattle.lq_ring.specs.StepLists.{FindsNone, PurgesNext, discard_steps}
use Rattle.lq_ring.proofs.TakeSteps.{ends_left, heads_at, tails_at, rest_at, taken_batch, takes_end}
use Rattle.lq_ring.proofs.Seats.{seat_on}
use Rattle.lq_ring.proofs.PurgeSteps.{PurgesOne, purged_station}
use Rattle.lq_ring.proofs.StepsThen.{makes_then, stands_after}
use Rattle.lq_ring.proofs.ZeroSteps.{discard_leaves, discarded}
use Rattle.lq_ring.proofs.purges.purge_one.Given as given
use Rattle.lq_table.proofs.OneStep.{passes_empty_band, takes_first_left}
use Rattle.lq_ring.proofs.purges.purge_one.Goals as goal

abbrev at_ : ℕ → View → Ends
at_ b v = at b v.holder.ends

pub purge_slot-found-requires-clause-rests : goal.purge_slot-found-requires-clause-rests
purge_slot-found-requires-clause-rests g c _ _ = let r = c.requires.rests in (r.1, (rest_at _ c.args.band _ r.0).3)

pub purge_slot-found-requires-clause-station : goal.purge_slot-found-requires-clause-station
purge_slot-found-requires-clause-station g c _ _ =
    let b = c.args.band in let e = c.requires.station in
    (ap (λ (o : Option StationState). is_some o) e, ap (λ (o : Option StationState). slice_index (unwrap_or o no_station).heads b) e ∙ heads_at b (view c.args.cpu.now).holder c.requires.below)

pub purge_slot-found-requires-clause-head : goal.purge_slot-found-requires-clause-head
purge_slot-found-requires-clause-head g c _ _ =
    let r = c.requires.rests in let size = r.2 in let few = r.3 in let below = (rest_at _ c.args.band _ r.0).1 in omega arith

pub settle-requires-clause-packet : goal.settle-requires-clause-packet
settle-requires-clause-packet g c _ _ =
    let at = c.requires.at in let first = (takes_first_left c.purge_slot-found.ensures.makes at.1 at.5 c.if-found-eq0.false).0 in (at.7 (c.purge_slot-found.result - 1) (first-in _ _ first), c.requires.word)

pub settle-requires-clause-may : goal.settle-requires-clause-may
settle-requires-clause-may g c _ _ =
    let at = c.requires.at in let n = c.purge_slot-found.result - 1 in
    ap (λ (x : View). x.packets.owed) (takes_first_left c.purge_slot-found.ensures.makes at.1 at.5 c.if-found-eq0.false).1 ∙ ap (λ (z : Cause). Some (n, fate.Purged z)) at.6

pub discard_one-requires-clause-holder : goal.discard_one-requires-clause-holder
discard_one-requires-clause-holder g c _ _ =
    let at = c.requires.at in let r = c.requires.rests in
    let took = c.settle.ensures.makes.knows ∙ ap settle_view_owed (takes_first_left c.purge_slot-found.ensures.makes at.1 at.5 c.if-found-eq0.false).1 in
    (ap (λ (x : View). holds_lock x.place.position) took ∙ ap holds_lock at.2, ap (λ (x : View). x.holder.resizing) took ∙ r.1, ap (λ (x : View). x.holder.size) took ∙ r.2, r.3)

pub discard_one-requires-clause-station : goal.discard_one-requires-clause-station
discard_one-requires-clause-station g c _ _ =
    let at = c.requires.at in let b = c.args.band in let v = view c.args.cpu.now in let own : Ends = at_ b v in
    let took = c.settle.ensures.makes.knows ∙ ap settle_view_owed (takes_first_left c.purge_slot-found.ensures.makes at.1 at.5 c.if-found-eq0.false).1 in
    let ends : at_ b (view c.settle.new.cpu) ≡ taken_on own = ap (λ (x : View). at_ b x) took ∙ at_put_same b (taken_on own) v.holder.ends in (
      shown v.holder,
      c.settle.ensures.makes.carries ∙ (c.purge_slot-found.ensures.makes.carries ∙ c.requires.station),
      ap (λ (x : ℕ). x + 1) (heads_at b v.holder c.requires.below) ∙ sym (ap (λ (e : Ends). e.head) ends),
      tails_at b v.holder c.requires.below ∙ sym (ap (λ (e : Ends). e.tail) ends),
    )

pub discard_one-requires-clause-ends : goal.discard_one-requires-clause-ends
discard_one-requires-clause-ends g c _ _ =
    let at = c.requires.at in let r = c.requires.rests in let b = c.args.band in let v = view c.args.cpu.now in let own : Ends = at_ b v in
    let took = c.settle.ensures.makes.knows ∙ ap settle_view_owed (takes_first_left c.purge_slot-found.ensures.makes at.1 at.5 c.if-found-eq0.false).1 in
    let ends : at_ b (view c.settle.new.cpu) ≡ taken_on own = ap (λ (x : View). at_ b x) took ∙ at_put_same b (taken_on own) v.holder.ends in
    taken_batch v.holder.size c.args.size own _ ends (rest_at v.holder.size b v.holder.ends r.0) (sym r.2)

pub settle-requires-clause-seat : goal.settle-requires-clause-seat
settle-requires-clause-seat g c _ _ =
    let at = c.requires.at in seat_on c.args.shared.now c.args.cpu.now c.purge_slot-found.new.cpu c.requires.seat c.purge_slot-found.ensures.makes.seat (ap (λ (x : View). x.share) (takes_first_left c.purge_slot-found.ensures.makes at.1 at.5 c.if-found-eq0.false).1)

pub discard_one-requires-clause-seat : goal.discard_one-requires-clause-seat
discard_one-requires-clause-seat g c _ _ =
    let at = c.requires.at in let took = c.settle.ensures.makes.knows ∙ ap settle_view_owed (takes_first_left c.purge_slot-found.ensures.makes at.1 at.5 c.if-found-eq0.false).1 in
    let a = c.purge_slot-found.ensures.makes.seat in let b = c.settle.ensures.makes.seat in
    seat_on c.args.shared.now c.args.cpu.now c.settle.new.cpu c.requires.seat (b.0 ∙ a.0, b.1 ∙ a.1) (ap (λ (x : View). x.share) took)

pub returns-then-found-eq0 : goal.returns-then-found-eq0
returns-then-found-eq0 g c = record {
  makes =
      let b = c.args.band in let empty = subst (λ (n : ℕ). MakesSteps (PurgeSlot b n ∷ []) c.args.cpu.now c.purge_slot-found.new.cpu) c.if-found-eq0.true c.purge_slot-found.ensures.makes in
      (PurgeSlot b 0 ∷ [], FindsNone, empty);
  stands =
      let at = c.requires.at in let e = (passes_empty_band c.purge_slot-found.ensures.makes at.0 at.1 at.3 at.5 c.if-found-eq0.true).1 in
      (c.purge_slot-found.ensures.makes.has, c.purge_slot-found.ensures.makes.carries ∙ (c.requires.station ∙ ap (λ (x : View). Some (shown x.holder)) (sym e)));
}

-- the slots that were taken are emptied where that is due
left-is : (g : given.Over) (c : goal.After-discard_one g) → let m = standing c.settle.new.cpu in let own = at_ c.args.band (view c.args.cpu.now) in
    (at_ c.args.band m.view ≡ taken_on own) × (standing c.discard_one.new.cpu ≡ discarded c.args.band c.args.size (taken_on own) (at c.args.band m.view.whole.state.ends) (ends_left c.args.size (taken_on own)) m)
left-is g c =
    let at = c.requires.at in let r = c.requires.rests in let b = c.args.band in let v = view c.args.cpu.now in let own : Ends = at_ b v in let z = c.args.size in let m = standing c.settle.new.cpu in
    let took = c.settle.ensures.makes.knows ∙ ap settle_view_owed (takes_first_left c.purge_slot-found.ensures.makes at.1 at.5 c.if-found-eq0.false).1 in
    let ends : at_ b m.view ≡ taken_on own = ap (λ (x : View). at_ b x) took ∙ at_put_same b (taken_on own) v.holder.ends in
    let some_ = taken_batch v.holder.size z own (taken_on own) refl (rest_at v.holder.size b v.holder.ends r.0) (sym r.2) in
    (ends, stands_after c.discard_one.ensures ∙ (ap (λ (e : Ends). steps_leave (discard_steps b z e) m) ends ∙ discard_leaves b z (taken_on own) m ends (ap (λ (x : View). x.holder.size) took ∙ r.2) some_.0 some_.1))

pub returns : goal.returns
returns g c =
    let first = λ (l : Left) (left : (view c.args.cpu.now).holder.left ≡ Some l). (let b = c.args.band in let v = view c.args.cpu.now in let n = c.purge_slot-found.result - 1 in
    let answer : PurgesOne b l v (view c.discard_one.new.cpu) = (let took_ = takes_first_left c.purge_slot-found.ensures.makes l left c.if-found-eq0.false in (
      n,
      took_.0,
      takes_end b c.args.size v.holder.size (at_ b v) (at b v.whole.state.ends) (settle_view_owed (purge_slot_view b n l v)) (view c.settle.new.cpu) (view c.discard_one.new.cpu) (sym c.requires.rests.2)
          (c.settle.ensures.makes.knows ∙ ap settle_view_owed took_.1) (at_put_same b _ v.holder.ends) (at_put_same b _ v.whole.state.ends) (ap (λ (x : Standing). x.view) (left-is g c).1),
    )) in answer) in record {
      makes =
          let b = c.args.band in let own : Ends = at_ b (view c.args.cpu.now) in let z = c.args.size in let found = c.purge_slot-found.result in let n = found - 1 in
          let some_ = c.if-found-eq0.false in let back : found ≡ n + 1 = omega arith in
          let takes = subst (λ (m : ℕ). MakesSteps (PurgeSlot b m ∷ []) c.args.cpu.now c.purge_slot-found.new.cpu) back c.purge_slot-found.ensures.makes in
          let discards = subst (λ (e : Ends). MakesSteps (discard_steps b z e) c.settle.new.cpu c.discard_one.new.cpu) (left-is g c).0 c.discard_one.ensures in
          (PurgeSlot b (n + 1) ∷ Settle n (fate.Purged c.args.cause) ∷ discard_steps b z (taken_on own), PurgesNext, makes_then takes (makes_then c.settle.ensures.makes discards));
      stands =
          let at = c.requires.at in let r = c.requires.rests in let b = c.args.band in let v = view c.args.cpu.now in let n = c.purge_slot-found.result - 1 in let own : Ends = at_ b v in let left = (left-is g c).1 in (
            ap (λ (x : Standing). x.slot) left ∙ (c.settle.ensures.makes.has ∙ c.purge_slot-found.ensures.makes.has),
            purged_station b n at.1 v (view c.discard_one.new.cpu) c.discard_one.new.cpu.station c.requires.below (first at.1 at.5).2
                (ap (λ (x : Standing). x.station) left
                ∙ (λ j. option_map (λ (st : StationState). with_ends st b (ends_left (sym r.2 j) (taken_on own)).head (ends_left (sym r.2 j) (taken_on own)).tail) ((c.settle.ensures.makes.carries ∙ (c.purge_slot-found.ensures.makes.carries ∙ c.requires.station)) j))),
          );
    }
