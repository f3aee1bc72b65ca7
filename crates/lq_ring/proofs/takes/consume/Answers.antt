use Rattle.std.proofs.Common.{rules, ◌≡◌, ℕ, [], ◌∷◌, ◌+◌, ◌-◌, ◌≤◌, refl, sym, ap, ◌∙◌, subst, arith}
use Rattle.lq_model.specs.Positions.{holds_lock}
use Rattle.lq_band_laws.specs.Three.{at}
use Rattle.lq_band_laws.specs.Ring.{Ends, taken_on}
use Rattle.lq_band_laws.proofs.Three.{at_put_same}
use Rattle.lq_table.specs.Views.{Setup, View}
use Rattle.lq_table.specs.Rule.{shown}
use Rattle.lq_table.specs.Consumers.{head_slot_view_empty, head_slot_view}
use Rattle.lq_table.specs.Sees.{view, solo}
use Rattle.lq_ring.specs.Take.{consuming}
use Rattle.std.specs.Prelude.{option_map}
use Rattle.lq_device.specs.Station.{StationState, with_ends}
use Rattle.lq_table.specs.Step.{HeadSlot, LoadSize, MakesSteps, Standing, standing, steps_leave}
use Rattle.lq_ring.specs.StepLists.{FindsEmpty, TakesFirst, discard_steps}
use Rattle.lq_ring.proofs.StepsThen.{makes_then, stands_after}
use Rattle.lq_ring.proofs.ZeroSteps.{discard_leaves, discarded}
use Rattle.lq_table.specs.Moves.{IsPacketOf}
use Rattle.lq_ring.proofs.TakeSteps.{sized_none, none_leads, none_heard, take_leads, take_heard, heads_at, tails_at, ends_left, rest_at, taken_batch, takes_end, rests_after, station_after, known_after}
use Rattle.lq_ring.proofs.takes.consume.Given as given
use Rattle.lq_table.proofs.OneStep.{finds_empty_band, takes_head}
use Rattle.lq_ring.proofs.takes.consume.Goals as goal

pub discard_one-requires-clause-holder : goal.discard_one-requires-clause-holder
discard_one-requires-clause-holder g c _ _ =
    let b = c.args.band in let v = view c.args.cpu.now in let n = c.head_slot-found.result - 1 in let at_ = c.requires.at in
    let loaded = c.load_size-size.ensures.makes.knows ∙ sized_none c.load_size-size.result v c.requires.idle in
    let took = takes_head c.head_slot-found.ensures.makes c.if-found-eq0.false ∙ ap (λ (x : View). head_slot_view b n x) loaded in (
      ap (λ (x : View). holds_lock x.place.position) took ∙ ap holds_lock (take_leads b at_.0 v at_.1 n c.requires.below),
      ap (λ (x : View). x.holder.resizing) took ∙ c.requires.rests.1,
      ap (λ (x : View). x.holder.size) took ∙ sym (c.load_size-size.ensures.makes.told.0.2 (ap holds_lock at_.1)),
      subst (λ (k : Setup). c.load_size-size.result ≤ k.max_len) c.requires.seat.2 c.load_size-size.ensures.makes.told.0.1,
    )

pub discard_one-requires-clause-station : goal.discard_one-requires-clause-station
discard_one-requires-clause-station g c _ _ =
    let b = c.args.band in let v = view c.args.cpu.now in let n = c.head_slot-found.result - 1 in let own : Ends = at b v.holder.ends in
    let loaded = c.load_size-size.ensures.makes.knows ∙ sized_none c.load_size-size.result v c.requires.idle in
    let took = takes_head c.head_slot-found.ensures.makes c.if-found-eq0.false ∙ ap (λ (x : View). head_slot_view b n x) loaded in
    let ends : at b (view c.head_slot-found.new.cpu).holder.ends ≡ taken_on own = ap (λ (x : View). at b x.holder.ends) took ∙ at_put_same b (taken_on own) v.holder.ends in (
      shown v.holder,
      c.head_slot-found.ensures.makes.carries ∙ (c.load_size-size.ensures.makes.carries ∙ c.requires.station),
      ap (λ (x : ℕ). x + 1) (heads_at b v.holder c.requires.below) ∙ sym (ap (λ (e : Ends). e.head) ends),
      tails_at b v.holder c.requires.below ∙ sym (ap (λ (e : Ends). e.tail) ends),
    )

pub discard_one-requires-clause-ends : goal.discard_one-requires-clause-ends
discard_one-requires-clause-ends g c _ _ =
    let b = c.args.band in let v = view c.args.cpu.now in let n = c.head_slot-found.result - 1 in let own : Ends = at b v.holder.ends in let z = c.load_size-size.result in
    let loaded = c.load_size-size.ensures.makes.knows ∙ sized_none z v c.requires.idle in
    let took = takes_head c.head_slot-found.ensures.makes c.if-found-eq0.false ∙ ap (λ (x : View). head_slot_view b n x) loaded in
    let ends : at b (view c.head_slot-found.new.cpu).holder.ends ≡ taken_on own = ap (λ (x : View). at b x.holder.ends) took ∙ at_put_same b (taken_on own) v.holder.ends in
    taken_batch v.holder.size z own _ ends (rest_at v.holder.size b v.holder.ends c.requires.rests.0) (c.load_size-size.ensures.makes.told.0.2 (ap holds_lock c.requires.at.1))

-- the slots that were taken are emptied where that is due
left-is : (g : given.Over) (c : goal.After-discard_one g) → let m = standing c.head_slot-found.new.cpu in let own = at c.args.band (view c.args.cpu.now).holder.ends in
    standing c.discard_one.new.cpu ≡ discarded c.args.band c.load_size-size.result (taken_on own) (at c.args.band m.view.whole.state.ends) (ends_left c.load_size-size.result (taken_on own)) m
left-is g c =
    let b = c.args.band in let v = view c.args.cpu.now in let n = c.head_slot-found.result - 1 in let own : Ends = at b v.holder.ends in let z = c.load_size-size.result in let m = standing c.head_slot-found.new.cpu in
    let loaded = c.load_size-size.ensures.makes.knows ∙ sized_none z v c.requires.idle in
    let took = takes_head c.head_slot-found.ensures.makes c.if-found-eq0.false ∙ ap (λ (x : View). head_slot_view b n x) loaded in
    let ends : at b m.view.holder.ends ≡ taken_on own = ap (λ (x : View). at b x.holder.ends) took ∙ at_put_same b (taken_on own) v.holder.ends in
    let same = c.load_size-size.ensures.makes.told.0.2 (ap holds_lock c.requires.at.1) in
    let some_ = taken_batch v.holder.size z own (taken_on own) refl (rest_at v.holder.size b v.holder.ends c.requires.rests.0) same in
    stands_after c.discard_one.ensures ∙ (ap (λ (e : Ends). steps_leave (discard_steps b z e) m) ends ∙ discard_leaves b z (taken_on own) m ends (ap (λ (x : View). x.holder.size) took ∙ sym same) some_.0 some_.1)

taken-is : (g : given.Over) (c : goal.After-discard_one g) → view c.discard_one.new.cpu ≡ consuming c.args.band (c.head_slot-found.result - 1) (view c.args.cpu.now)
taken-is g c =
    let b = c.args.band in let v = view c.args.cpu.now in let n = c.head_slot-found.result - 1 in let z = c.load_size-size.result in
    let loaded = c.load_size-size.ensures.makes.knows ∙ sized_none z v c.requires.idle in
    let took = takes_head c.head_slot-found.ensures.makes c.if-found-eq0.false ∙ ap (λ (x : View). head_slot_view b n x) loaded in
    takes_end b z v.holder.size (at b v.holder.ends) (at b v.whole.state.ends) (head_slot_view b n v) (view c.head_slot-found.new.cpu) (view c.discard_one.new.cpu) (c.load_size-size.ensures.makes.told.0.2 (ap holds_lock c.requires.at.1))
    took (at_put_same b _ v.holder.ends) (at_put_same b _ v.whole.state.ends) (ap (λ (x : Standing). x.view) (left-is g c))

pub returns-then-found-eq0 : goal.returns-then-found-eq0
returns-then-found-eq0 g c = record {
  makes =
      let b = c.args.band in let z = c.load_size-size.result in
      let empty = subst (λ (n : ℕ). MakesSteps (HeadSlot b n ∷ []) c.load_size-size.new.cpu c.head_slot-found.new.cpu) c.if-found-eq0.true c.head_slot-found.ensures.makes in
      (LoadSize z ∷ HeadSlot b 0 ∷ [], FindsEmpty, makes_then c.load_size-size.ensures.makes empty);
  same = search rules;
  knows =
      let b = c.args.band in finds_empty_band c.head_slot-found.ensures.makes c.if-found-eq0.true ∙ ap (λ (x : View). head_slot_view_empty b x) (c.load_size-size.ensures.makes.knows ∙ sized_none c.load_size-size.result (view c.args.cpu.now) c.requires.idle);
  packet = search rules;
  at = λ second here. let b = c.args.band in let v = view c.args.cpu.now in let loaded = c.load_size-size.ensures.makes.knows ∙ sized_none c.load_size-size.result v c.requires.idle in
      let none_ = finds_empty_band c.head_slot-found.ensures.makes c.if-found-eq0.true ∙ ap (λ (x : View). head_slot_view_empty b x) loaded in
      ap (λ (x : View). x.place.position) none_ ∙ none_leads b second v here c.requires.below;
  rests = search rules;
  station = search rules;
  step =
      let b = c.args.band in let v = view c.args.cpu.now in let loaded = c.load_size-size.ensures.makes.knows ∙ sized_none c.load_size-size.result v c.requires.idle in
      let none_ = finds_empty_band c.head_slot-found.ensures.makes c.if-found-eq0.true ∙ ap (λ (x : View). head_slot_view_empty b x) loaded in
      ap (λ (x : View). solo x) none_ ∙ none_heard b c.requires.at.0 v c.requires.at.1;
  sole = search rules;
  known = search rules;
}

pub returns : goal.returns
returns g c = record {
  makes =
      let b = c.args.band in let v = view c.args.cpu.now in let found = c.head_slot-found.result in let n = found - 1 in let own : Ends = at b v.holder.ends in let z = c.load_size-size.result in
      let some_ = c.if-found-eq0.false in let back : found ≡ n + 1 = omega arith in
      let took = takes_head c.head_slot-found.ensures.makes some_ ∙ ap (λ (x : View). head_slot_view b n x) (c.load_size-size.ensures.makes.knows ∙ sized_none z v c.requires.idle) in
      let ends : at b (view c.head_slot-found.new.cpu).holder.ends ≡ taken_on own = ap (λ (x : View). at b x.holder.ends) took ∙ at_put_same b (taken_on own) v.holder.ends in
      let takes = subst (λ (m : ℕ). MakesSteps (HeadSlot b m ∷ []) c.load_size-size.new.cpu c.head_slot-found.new.cpu) back c.head_slot-found.ensures.makes in
      let discards = subst (λ (e : Ends). MakesSteps (discard_steps b z e) c.head_slot-found.new.cpu c.discard_one.new.cpu) ends c.discard_one.ensures in
      (LoadSize z ∷ HeadSlot b (n + 1) ∷ discard_steps b z (taken_on own), TakesFirst, makes_then c.load_size-size.ensures.makes (makes_then takes discards));
  same =
      let l = c.load_size-size.ensures.makes in let h = c.head_slot-found.ensures.makes in let d = c.discard_one.ensures in let left = left-is g c in
      ((d.seat.0 ∙ (h.seat.0 ∙ l.seat.0), d.seat.1 ∙ (h.seat.1 ∙ l.seat.1)), ap (λ (x : Standing). x.indices) left ∙ (h.places ∙ l.places), ap (λ (x : Standing). x.slot) left ∙ (h.has ∙ l.has));
  knows = taken-is g c;
  packet =
      let loaded = c.load_size-size.ensures.makes.knows ∙ sized_none c.load_size-size.result (view c.args.cpu.now) c.requires.idle in
      subst (λ (x : View). IsPacketOf x.share.about (c.head_slot-found.result - 1)) loaded (c.head_slot-found.ensures.makes.told.0.2 c.if-found-eq0.false);
  at =
      let b = c.args.band in let v = view c.args.cpu.now in let n = c.head_slot-found.result - 1 in let at_ = c.requires.at in
      ap (λ (x : View). x.place.position) (taken-is g c) ∙ take_leads b at_.0 v at_.1 n c.requires.below;
  rests = rests_after c.args.band (c.head_slot-found.result - 1) (view c.args.cpu.now) (view c.discard_one.new.cpu) c.requires.rests.0 (taken-is g c);
  station =
      let b = c.args.band in let v = view c.args.cpu.now in let own : Ends = at b v.holder.ends in let same = c.load_size-size.ensures.makes.told.0.2 (ap holds_lock c.requires.at.1) in
      station_after b (c.head_slot-found.result - 1) v (view c.discard_one.new.cpu) c.discard_one.new.cpu.station c.requires.below (taken-is g c)
      (ap (λ (x : Standing). x.station) (left-is g c)
      ∙ (λ j. option_map (λ (st : StationState). with_ends st b (ends_left (same j) (taken_on own)).head (ends_left (same j) (taken_on own)).tail) ((c.head_slot-found.ensures.makes.carries ∙ (c.load_size-size.ensures.makes.carries ∙ c.requires.station)) j)));
  step =
      let at_ = c.requires.at in
      ap (λ (x : View). solo x) (taken-is g c) ∙ take_heard c.args.band at_.0 (view c.args.cpu.now) at_.1 (c.head_slot-found.result - 1);
  sole = search rules;
  known = λ same. let v = view c.args.cpu.now in
      known_after c.args.band (c.head_slot-found.result - 1) v (view c.discard_one.new.cpu) (rest_at v.holder.size c.args.band v.holder.ends c.requires.rests.0) (taken-is g c) same;
}
