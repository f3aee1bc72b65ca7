use Rattle.std.proofs.Common.{◌≡◌, ◌⊎◌, ℕ, ◌<◌, Bool, List, ⊎_elim, inl, inr, refl, sym, ap, ◌∙◌, subst, slice_index}
use Rattle.std.specs.Prelude.{is_some, if◌then◌else◌}
use Rattle.lq_model.specs.Account.{Account, held}
use Rattle.lq_model.specs.declared.fate.Info.{Info}
use Rattle.lq_table.specs.Views.{View, Setup, FirstPart, SharePart, first_account}
use Rattle.lq_table.specs.Sees.{view, known, setup, Solo, account_of, solo}
use Rattle.lq_qdisc.specs.Alone.{IsAlone, account_in}
use Rattle.lq_qdisc.proofs.AloneSteps.{account_at, count_of}
use Rattle.lq_control.specs.declared.finishes.Seen.TheVariants.{Hung, Ended}
use Rattle.lq_table.specs.Step.{EndControl, Standing, Step}
use Rattle.lq_ring.specs.StepLists.{MakesStepsFrom}
use Rattle.lq_qdisc.specs.StepLists.{Then}
use Rattle.lq_control.specs.Control.{IsServed}
use Rattle.lq_control.specs.Steps.{Finding}
use Rattle.lq_control.specs.EndSteps.{PurgeHung, SendAllLeft, ServeToEnd}
use Rattle.lq_control.proofs.StepLemmas.{and_then, finds}
use Rattle.lq_control.specs.Ending.{IsEndedAlike, IsFinishedAlone}
use Rattle.lq_control.specs.Finish.{AreAllDone, AreAllStops, AreFor, Hangs, IsActiveOrPurged, IsOver, IsFinished, IsSent, PurgesHung, Shows, hung_cause}
use Rattle.lq_control.proofs.EndingLemmas.{AreValues, over_finishes, purged_finishes}
use Rattle.lq_control.proofs.FinishSteps.{finished, finished_purged, made_kept, ready_kept, sole_kept}
use Rattle.lq_control.proofs.finishes.finish.Given as given
use Rattle.lq_control.proofs.finishes.finish.Goals as goal
use Rattle.lq_control.proofs.finishes.finish.Goals.{After-serve_to_end}

-- What is known once the station was served to its end: each packet's turn was taken, and in a run of one sender the end is the
-- account's.
module _ (g : given.Over) (c : After-serve_to_end g) where
  abbrev k : Setup
  k = setup c.args.shared.now

  abbrev infos : List Info
  infos = c.args.shared.now.infos.now

  abbrev start : Account
  start = first_account k

  abbrev v0 : View
  v0 = view c.args.cpu.now

  abbrev v2 : View
  v2 = view c.serve_to_end.new.cpu

  all_sent : IsSent k v0 (view c.send_all_left.new.cpu) × AreAllDone k (view c.send_all_left.new.cpu).turns × (AreAllDone k v0.turns → view c.send_all_left.new.cpu ≡ v0)
  all_sent = let m = c.send_all_left.ensures.makes in
      subst (λ (w : View). IsSent k v0 w × AreAllDone k w.turns × (AreAllDone k v0.turns → w ≡ v0)) (sym m.2.knows) m.1.came

  served : IsServed (view c.send_all_left.new.cpu) v2
  served = let m = c.serve_to_end.ensures.makes in subst (IsServed (view c.send_all_left.new.cpu)) (sym m.2.knows) m.1.came

  turns : AreAllDone k v2.turns
  turns = subst (AreAllDone k) (sym served.kept.turns) all_sent.1

  share : v2.share ≡ v0.share
  share = served.kept.share ∙ c.send_all_left.ensures.kept.share

  made : AreFor k v2
  made = made_kept k v0 v2 share c.requires.made

  about : v2.share.about ≡ k
  about = ap (λ (x : SharePart). x.about) share ∙ c.requires.seat.2

  is : account_in start (solo v2) ≡ account_of v2
  is = account_at k v2 about

  values_are : (value : ℕ) → AreAllStops value v2 → AreValues value (account_in start (solo v2)).stops
  values_are value stops queue below =
      let all = subst (λ (n : ℕ). queue < n) (count_of k (solo v2) ∙ ap (λ (x : Setup). x.queues) (sym about)) below in
      ap (λ (a : Account). slice_index a.stops queue) is ∙ stops queue all

  alike : AreAllDone k v0.turns → IsAlone infos start (solo v0) → IsEndedAlike infos start (solo v0) (solo v2)
  alike done h =
      let same = all_sent.2 done in
      let ends = c.serve_to_end.ensures.alone (subst (λ (x : View). IsAlone infos start (solo x)) (sym same) h) in
      subst (λ (x : View). IsEndedAlike infos start (solo x) (solo v2)) same ends

-- where the station hangs
hangs : (g : given.Over) (c : goal.After-purge_hung g) → Hangs (view c.serve_to_end.new.cpu)
hangs g c =
    let v = view c.serve_to_end.new.cpu in
    subst (λ (b : Bool). Shows (if b then Hung else Ended) v) c.if-serve_to_end.true c.serve_to_end.ensures.shows

purges : (g : given.Over) (c : goal.After-purge_hung g) → PurgesHung c.purge_hung.result (view c.serve_to_end.new.cpu) (view c.purge_hung.new.cpu)
purges g c = let m = c.purge_hung.ensures.makes in subst (PurgesHung c.purge_hung.result (view c.serve_to_end.new.cpu)) (sym m.2.knows) m.1.came

-- what follows what was left
abbrev rest : Setup → ℕ → Standing → List Step → Type 0
rest k count before xs = Then (ServeToEnd k Hung) (PurgeHung count) before xs ⊎ ((count ≡ 0) × Then (ServeToEnd k Ended) (Finding EndControl) before xs)

-- where it doesn't
over : (g : given.Over) (c : goal.After-end_control g) → IsOver (view c.serve_to_end.new.cpu)
over g c =
    let v = view c.serve_to_end.new.cpu in
    subst (λ (b : Bool). Shows (if b then Hung else Ended) v) c.if-serve_to_end.false c.serve_to_end.ensures.shows

pub returns-then-serve_to_end : goal.returns-then-serve_to_end
returns-then-serve_to_end g c = record {
  kept =
      let s = c.send_all_left.ensures.kept in let t = c.serve_to_end.ensures in let p = c.purge_hung.ensures.kept in record {
        seat = (p.seat.0 ∙ (t.same.0 ∙ s.seat.0), p.seat.1 ∙ (t.same.1 ∙ s.seat.1));
        share = p.share ∙ share g c.before.before.before;
        control = p.control ∙ ((served g c.before.before.before).control ∙ s.control);
        told = p.told ∙ ((served g c.before.before.before).kept.told ∙ s.told);
      };
  at =
      let at = c.purge_hung.ensures.at in (at.0, c.purge_hung.ensures.raised ∙ c.serve_to_end.ensures.at.2, at.1);
  finished =
      let b = c.before.before.before in let v = v2 g b in
      finished_purged (k g b) v (made g b) (turns g b) (hung_cause v) (view c.purge_hung.new.cpu) c.serve_to_end.ensures.kept (purges g c).account;
  alone = λ done h.
      let b = c.before.before.before in let v = v2 g b in let hung = hangs g c in
      purged_finishes (infos g b) (start g b) (solo (v0 g b)) (solo v) (alike g b done h) v.whole.state.station.unit
      (solo (view c.purge_hung.new.cpu)) c.serve_to_end.ensures.at.2 (ap (λ (a : Account). a.down) (is g b) ∙ hung.up)
      (values_are g b 2 hung.stops) (ap (λ (a : Account). a.unit) (is g b) ∙ hung.unit) (purges g c).step;
  makes =
      let s = setup c.args.shared.now in let count = c.purge_hung.result in let first = c.serve_to_end.ensures.makes in
      let hung = subst (λ (b : Bool). MakesStepsFrom (ServeToEnd s (if b then Hung else Ended)) c.send_all_left.new.cpu c.serve_to_end.new.cpu) c.if-serve_to_end.true first in
      let t = and_then (ServeToEnd s Hung) (PurgeHung count) hung c.purge_hung.ensures.makes in
      and_then (SendAllLeft s) (rest s count) c.send_all_left.ensures.makes (t.0, inl t.1, t.2);
}

pub returns : goal.returns
returns g c = record {
  kept =
      let s = c.send_all_left.ensures.kept in let t = c.serve_to_end.ensures in let e = c.end_control.ensures in record {
        seat = (e.makes.1.seat.0 ∙ (t.same.0 ∙ s.seat.0), e.makes.1.seat.1 ∙ (t.same.1 ∙ s.seat.1));
        share = ap (λ (x : View). x.share) e.makes.1.knows ∙ share g c.before.before.before;
        control = ap (λ (x : View). x.control) e.makes.1.knows ∙ ((served g c.before.before.before).control ∙ s.control);
        told = ap (λ (x : View). x.whole.told) e.makes.1.knows ∙ ((served g c.before.before.before).kept.told ∙ s.told);
      };
  at =
      let at = c.serve_to_end.ensures.at in let e = c.end_control.ensures in let b = c.serve_to_end.new.cpu in
      let packets = ap (λ (x : View). x.packets) e.makes.1.knows in let locks = ap (λ (x : View). x.locks) e.makes.1.knows in
      let resizing = ap (λ (x : View). x.holder.resizing) e.makes.1.knows in (
        ap (λ (x : View). x.place.position) e.makes.1.knows,
        ap (λ (x : View). x.place.raised) e.makes.1.knows ∙ at.2,
        ready_kept b c.end_control.new.cpu (e.makes.1.seat, e.makes.1.carries, e.makes.1.places, e.makes.1.has) packets locks resizing at.1,
      );
  finished =
      let b = c.before.before.before in
      let f = finished (k g b) (v2 g b) (made g b) (turns g b) c.serve_to_end.ensures.kept (over g c).nothing_held in
      subst (λ (x : View). IsFinished (k g b) x) (sym c.end_control.ensures.makes.1.knows)
      (record { nothing_held = f.nothing_held; hand_empty = f.hand_empty; decided = f.decided });
  alone = λ done h.
      let b = c.before.before.before in let e = is g b in
      let none = ap held e ∙ (over g c).nothing_held in
      let down = ap (λ (a : Account). is_some a.down) e in
      let ends = ⊎_elim (λ is_down. inl (down ∙ is_down)) (λ opens. inr (values_are g b 0 opens)) (over g c).over in
      subst (λ (x : Solo). IsFinishedAlone (infos g b) (start g b) (solo (v0 g b)) x) (sym (ap solo c.end_control.ensures.makes.1.knows))
      (over_finishes (infos g b) (start g b) (solo (v0 g b)) (solo (v2 g b)) (alike g b done h) none ends);
  makes =
      let s = setup c.args.shared.now in let first = c.serve_to_end.ensures.makes in
      let over_ = subst (λ (b : Bool). MakesStepsFrom (ServeToEnd s (if b then Hung else Ended)) c.send_all_left.new.cpu c.serve_to_end.new.cpu) c.if-serve_to_end.false first in
      let t = and_then (ServeToEnd s Ended) (Finding EndControl) over_ (finds EndControl c.end_control.ensures.makes) in
      and_then (SendAllLeft s) (rest s 0) c.send_all_left.ensures.makes (t.0, inr (refl, t.1), t.2);
}

pub serve_to_end-requires-clause-sole : goal.serve_to_end-requires-clause-sole
serve_to_end-requires-clause-sole g c _ _ = let k = c.send_all_left.ensures.kept in let sole = c.requires.sole in (
  sole_kept (view c.args.cpu.now) (view c.send_all_left.new.cpu) k.share k.told sole.0,
  subst (λ (x : FirstPart). IsActiveOrPurged (record (view c.send_all_left.new.cpu) { control = x })) (sym k.control) sole.1,
)
