use Rattle.std.proofs.Common.{◌≡◌, false, refl, sym, ap, ◌∙◌, subst, arith, ◌-◌, [], ◌∷◌, ◌++◌, Option, None, Contains}
use Rattle.std.specs.Prelude.{is_some}
use Rattle.std.specs.Option.{unwrap_or}
use Rattle.lq_device.specs.Station.{StationState, with_device}
use Rattle.lq_table.specs.Views.{View, HolderPart, Setup, WholePart, no_station, Known}
use Rattle.lq_table.specs.Locks.{try_lock_view_in_control, locked_to}
use Rattle.lq_table.specs.Rule.{shown, station_count, units_of}
use Rattle.lq_table.specs.Controls.{IsSwap, swap_view}
use Rattle.lq_table.specs.Sees.{view, setup, Solo, device_to, heard, solo}
use Rattle.lq_model.specs.Account.{Swap}
use Rattle.lq_control.specs.Control.{all_opened, with_lock_free}
use Rattle.lq_table.specs.Step.{MoveStation, SetStation, SwapDevice, Unlock}
use Rattle.lq_table.proofs.StepsThen.{makes_then}
use Rattle.lq_control.specs.Steps.{TakeLock, open_steps}
use Rattle.lq_control.proofs.Keeps.{seat_then}
use Rattle.lq_control.proofs.StepLemmas.{and_then, station_set}
use Rattle.lq_control.proofs.swaps.swap_device.Goals as goal

pub swap-requires-clause-station : goal.swap-requires-clause-station
swap-requires-clause-station g c _ _ =
    let h = (view c.take_lock.new.cpu).holder in let changed = (c.change_device-old.ensures.makes h c.take_lock.ensures.station.1).carries in let unit = c.args.unit in
    let now = ap (λ (x : Known). x.view) (station_set (c.change_device-old.ensures.makes (view c.take_lock.new.cpu).holder c.take_lock.ensures.station.1)) in
    let about : (view c.change_device-old.new.cpu).share.about ≡ Rattle.lq_table.specs.Sees.setup c.args.shared.now = ap (λ (x : View). x.share.about) now ∙ (ap (λ (x : View). x.share.about) c.take_lock.ensures.got.1 ∙ c.requires.seat.2) in
    let units : (view c.change_device-old.new.cpu).holder.units ≡ Rattle.lq_table.specs.Rule.units_of (view c.args.cpu.now).trail = ap (λ (x : View). x.holder.units) now ∙ c.take_lock.ensures.units c.requires.may.at.1 in
    let above = c.requires.may.next.1 in let first = above.first in (
      ap (λ (o : Option StationState). is_some o) changed,
      subst (λ (z : Option StationState). IsSwap (view c.change_device-old.new.cpu).share.about.infos (view c.change_device-old.new.cpu).share.about.station (view c.change_device-old.new.cpu).holder.units (unwrap_or z no_station)) (sym changed) record {
        asked = c.requires.may.fresh.3;
        accepted = c.requires.may.fresh.0;
        alive = c.requires.may.fresh.1;
        room = (let fits = c.requires.may.fresh.2 in let same = ap (λ (k : Setup). station_count k.infos k.station) about in omega arith);
        other = λ e. (let s : (view c.change_device-old.new.cpu).share.about.station ≡ c.args.shared.now.station = ap (λ (k : Setup). k.station) about in absurd (omega arith));
        new = λ is. (let l = above.later unit (subst (λ (us : _). Contains us unit) units is) in absurd (omega arith));
        small = c.requires.may.next.0;
      },
    )

-- the lock is got, the device swapped, the queues are opened, and the lock is released
swapped_is : (d : HolderPart) (st : StationState) (whole : WholePart) (v v1 v2 v3 v4 v5 : View) → v1 ≡ try_lock_view_in_control d v → v2 ≡ v1 → v3 ≡ swap_view st v2 → v4 ≡ all_opened None whole v3 → v5 ≡ with_lock_free v4
    → v5 ≡ with_lock_free (all_opened None whole (swap_view st (try_lock_view_in_control d v)))
swapped_is d st whole v v1 v2 v3 v4 v5 got same swaps opens frees = frees ∙ ap with_lock_free (opens ∙ ap (all_opened None whole) (swaps ∙ ap (swap_view st) (same ∙ got)))

pub returns : goal.returns
returns g c = record {
  same =
      let v = view c.args.cpu.now in let got = c.take_lock.ensures.got in let locked = c.change_device-old.new.cpu in let opened = c.open_queues.ensures.opened in let whole = opened.0 in
      let e = swapped_is got.0 (unwrap_or locked.station no_station) whole v (view c.take_lock.new.cpu) (view locked) (view c.swap.new.cpu) (view c.open_queues.new.cpu) (view c.release.new.cpu)
      got.1 (ap (λ (x : Known). x.view) (station_set (c.change_device-old.ensures.makes (view c.take_lock.new.cpu).holder c.take_lock.ensures.station.1))) c.swap.ensures.makes.knows opened.1 c.release.ensures.released in
      let c1 = c.take_lock.new.cpu in let c3 = c.swap.new.cpu in let c4 = c.open_queues.new.cpu in let c5 = c.release.new.cpu in
      let to_end = seat_then c3 c4 c5 c.open_queues.ensures.same.0 c.release.ensures.same.0 in let swaps = c.swap.ensures.makes.knows in
      let told = opened.2 ∙ (ap (λ (x : View). x.whole.told) swaps ∙ (ap (λ (x : Known). x.view.whole.told) (station_set (c.change_device-old.ensures.makes (view c.take_lock.new.cpu).holder c.take_lock.ensures.station.1)) ∙ ap (λ (x : View). x.whole.told) got.1)) in (
        seat_then c.args.cpu.now c1 c5 c.take_lock.ensures.same.0 (seat_then c1 locked c5 (c.change_device-old.ensures.makes (view c.take_lock.new.cpu).holder c.take_lock.ensures.station.1).seat (seat_then locked c3 c5 c.swap.ensures.makes.seat to_end)),
        record { share = ap (λ (x : View). x.share) e; turns = ap (λ (x : View). x.turns) e; first = ap (λ (x : View). x.control.first) e; told = ap (λ (x : View). x.whole.told) e ∙ told },
      );
  at =
      let v = view c.args.cpu.now in let got = c.take_lock.ensures.got in let locked = c.change_device-old.new.cpu in let opened = c.open_queues.ensures.opened in let whole = opened.0 in
      let e = swapped_is got.0 (unwrap_or locked.station no_station) whole v (view c.take_lock.new.cpu) (view locked) (view c.swap.new.cpu) (view c.open_queues.new.cpu) (view c.release.new.cpu)
      got.1 (ap (λ (x : Known). x.view) (station_set (c.change_device-old.ensures.makes (view c.take_lock.new.cpu).holder c.take_lock.ensures.station.1))) c.swap.ensures.makes.knows opened.1 c.release.ensures.released in
      let ready = c.requires.may.at.2 in (
        ap (λ (x : View). x.place.position) e,
        (c.release.ensures.empty, ap (λ (x : View). x.packets) e ∙ ready.1, ap (λ (x : View). x.locks) e ∙ ready.2, ap (λ (x : View). x.holder.resizing) e ∙ got.5),
        (ap (λ (x : View). x.control.phase) e ∙ c.requires.may.in_phase.0, ap (λ (x : View). x.control.purge) e ∙ c.requires.may.in_phase.1),
      );
  trail =
      let v = view c.args.cpu.now in let got = c.take_lock.ensures.got in let locked = c.change_device-old.new.cpu in let opened = c.open_queues.ensures.opened in let whole = opened.0 in
      let e = swapped_is got.0 (unwrap_or locked.station no_station) whole v (view c.take_lock.new.cpu) (view locked) (view c.swap.new.cpu) (view c.open_queues.new.cpu) (view c.release.new.cpu)
      got.1 (ap (λ (x : Known). x.view) (station_set (c.change_device-old.ensures.makes (view c.take_lock.new.cpu).holder c.take_lock.ensures.station.1))) c.swap.ensures.makes.knows opened.1 c.release.ensures.released in
      ap (λ (x : View). x.trail) e
      ∙ ap (λ (o : Option StationState). Swap (unwrap_or o no_station).unit ∷ v.trail) (c.change_device-old.ensures.makes (view c.take_lock.new.cpu).holder c.take_lock.ensures.station.1).carries;
  makes =
      let h = (view c.take_lock.new.cpu).holder in let at = c.take_lock.ensures.station.1 in let changed = c.change_device-old.ensures.makes h at in let unit = c.args.unit in
      let came = g.D.TxDevice.state c.args.device in
      let m = makes_then (makes_then (makes_then changed c.swap.ensures.makes) c.open_queues.ensures.makes) c.release.ensures.makes in
      let steps = SetStation (with_device (shown h) unit came) ∷ SwapDevice ∷ open_steps (c.args.shared.now.queues - 1) ++ MoveStation ∷ Unlock ∷ [] in
      and_then (λ s. TakeLock) (λ before xs. (g.D.TxDevice.state c.change_device-old.result ≡ before.view.holder.station.device)
      × (xs ≡ SetStation (with_device (shown before.view.holder) unit came) ∷ SwapDevice ∷ open_steps (c.args.shared.now.queues - 1) ++ MoveStation ∷ Unlock ∷ []))
      c.take_lock.ensures.makes (steps, (c.change_device-old.ensures.went h at, refl), m);
  alone = λ sole.
      let h = (view c.take_lock.new.cpu).holder in let changed = (c.change_device-old.ensures.makes h c.take_lock.ensures.station.1).carries in let before = view c.change_device-old.new.cpu in
      let device = (g.D.TxDevice.state c.args.device) in
      let swapped = ap solo c.swap.ensures.makes.knows ∙ ap (λ (o : Option StationState). device_to (unwrap_or o no_station).device (heard (Swap (unwrap_or o no_station).unit) (solo before))) changed in
      ap solo c.release.ensures.released ∙ (ap (locked_to false) (c.open_queues.ensures.step ∙ swapped)
      ∙ ap (λ (s : Solo). locked_to false (device_to device (heard (Swap c.args.unit) s))) (ap (λ (x : Known). solo x.view) (station_set (c.change_device-old.ensures.makes (view c.take_lock.new.cpu).holder c.take_lock.ensures.station.1)) ∙ (c.take_lock.ensures.sole sole).0));
}
