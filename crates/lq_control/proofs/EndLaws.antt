-- What the end of a station comes to: each owner's packets were transmitted, fates stay, and a purge is by the unit of a device that hangs.
use Rattle.std.proofs.Common.{◌≡◌, ◌⊎◌, true, length, inl, inr, ⊎_elim, ℕ, List, ◌∷◌, Contains, Some, None, [], refl, sym, ap, ◌∙◌, subst}
use Rattle.std.proofs.lemmas.List.Elements.{Contains-append_cases}
use Rattle.lq_account_laws.proofs.Lists.{cons-in}
use Rattle.lq_model.specs.Account.{Account, Event, Purge, held}
use Rattle.lq_model.specs.Device.{DeviceState}
use Rattle.lq_model.specs.Legal.{brought}
use Rattle.lq_model.specs.declared.fate.Cause.{Cause}
use Rattle.lq_model.specs.declared.fate.Cause.TheVariants as cause
use Rattle.lq_model.specs.declared.fate.Fate.TheVariants as fate
use Rattle.lq_table.specs.Sees.{account_of}
use Rattle.lq_table.specs.Views.{View, Setup, Known}
use Rattle.lq_qdisc.specs.Calls.{KeepsFates}
use Rattle.lq_control.specs.Comes.{ComesToEnd}
use Rattle.lq_control.specs.Control.{IsServed}
use Rattle.lq_table.specs.Controls.{end_control_view}
use Rattle.lq_table.specs.Step.{BeginControl, BeginHungPurge, EndControl, Standing, Step}
use Rattle.lq_run.specs.Steps.{End}
use Rattle.lq_qdisc.specs.StepLists.{LeadsBy, Then}
use Rattle.lq_control.specs.EndSteps.{EndStation, Look, LookLeft, PurgeHung, SendAllLeft, SendLeftBelow, ServeEach, ServeToEnd}
use Rattle.lq_control.specs.Steps.{DevResetQueue, Finding, TakeLock, Wait}
use Rattle.lq_control.specs.declared.finishes.Seen.TheVariants as seen
use Rattle.lq_control.proofs.StepLemmas.{apart, came_by, found_leaves}
use Rattle.lq_control.specs.Finish.{AreAllDone, IsSent, PurgesHung, hung_cause}
use Rattle.lq_control.proofs.FinishLemmas.{fates_before, keeps_then}

-- each purge of a hung station on the trail came before, or is by the present unit, whose device hangs
abbrev ArePurgesHung : View → View → Type 0
ArePurgesHung v w = (unit : ℕ) → Contains w.trail (Purge (cause.Hung unit)) → Contains v.trail (Purge (cause.Hung unit)) ⊎ (((account_of w).unit ≡ unit) × (w.whole.state.station.device.hung ≡ true))

-- nothing comes on the trail, and 0 is counted; or the purge of what a hung device left, by the account's unit
abbrev PurgesAtMost : ℕ → View → View → Type 0
PurgesAtMost count v w = ((w.trail ≡ v.trail) × (count ≡ 0)) ⊎ (w.trail ≡ Purge (cause.Hung (account_of w).unit) ∷ v.trail)

abbrev unit_purged : Event → ℕ
unit_purged (Purge (cause.Hung unit)) = unit
unit_purged event = 0

purge_no_packet : (cause : Cause) (n : ℕ) → brought (Purge cause) ≡ Some n → ⊥
purge_no_packet cause n e = let none : brought (Purge cause) ≡ None = refl in cc

-- transmits put no purge on the trail
sent_no_purge : (k : Setup) (v w : View) (unit : ℕ) → IsSent k v w → Contains w.trail (Purge (cause.Hung unit)) → Contains v.trail (Purge (cause.Hung unit))
sent_no_purge k v w unit s there = ⊎_elim
    (λ sent. let first = s.first (Purge (cause.Hung unit)) sent in absurd (purge_no_packet (cause.Hung unit) first.0 first.1))
    (λ before. before)
    (Contains-append_cases s.events v.trail (Purge (cause.Hung unit)) (subst (λ (es : List Event). Contains es (Purge (cause.Hung unit))) s.trail there))

module _ (count : ℕ) (v w : View) (p : PurgesHung count v w) where
  of_unit : (account_of w).unit ≡ v.whole.state.station.unit
  of_unit = ap (λ (a : Account). a.unit) p.account ∙ p.unit

  purge_hangs : ArePurgesHung v w
  purge_hangs unit there = ⊎_elim
      (λ (same : Purge (hung_cause v) ≡ Purge (cause.Hung unit)). inr (of_unit ∙ ap unit_purged same, ap (λ (d : DeviceState). d.hung) p.device ∙ p.hung))
      (λ earlier. inl earlier)
      (cons-in (Purge (hung_cause v)) v.trail (Purge (cause.Hung unit)) (subst (λ (es : List Event). Contains es (Purge (cause.Hung unit))) p.trail there))

  purge_keeps : KeepsFates v w
  purge_keeps = let before = fates_before (fate.Purged (hung_cause v)) (held (account_of v)) v.settled in (before.0, p.settled ∙ before.1)

module _ (k : Setup) (count : ℕ) (old sent new : Known) (s : LeadsBy (SendAllLeft k) old sent) where
  all : IsSent k old.view sent.view × AreAllDone k sent.view.turns × (AreAllDone k old.view.turns → sent.view ≡ old.view)
  all = came_by (λ v w. IsSent k v w × AreAllDone k w.turns × (AreAllDone k v.turns → w ≡ v)) (SendLeftBelow k (length k.infos)) old sent s

  -- what came after the last packet was sent
  ends : new.view.turns ≡ sent.view.turns → KeepsFates sent.view new.view → ArePurgesHung sent.view new.view → PurgesAtMost count sent.view new.view → ComesToEnd k count old.view new.view
  ends turns fates hung purges = record {
    done = subst (AreAllDone k) (sym turns) all.1;
    fates = keeps_then old.view sent.view new.view all.0.fates fates;
    hung = λ unit there. ⊎_elim (λ was. inl (sent_no_purge k old.view sent.view unit all.0 was)) (λ now. inr now) (hung unit there);
    turns = λ done. turns ∙ ap (λ (v : View). v.turns) (all.2 done);
    purges = λ done. subst (λ (v : View). PurgesAtMost count v new.view) (all.2 done) purges;
  }

  ends_hung : LeadsBy (Then (ServeToEnd k seen.Hung) (PurgeHung count)) sent new → ComesToEnd k count old.view new.view
  ends_hung h =
      let two = apart (ServeToEnd k seen.Hung) (PurgeHung count) sent new h in let hung : Known = two.0 in
      let served : IsServed sent.view hung.view = came_by IsServed (Then (ServeEach k) (Then (Finding BeginControl) (λ z. Look k.queues seen.Hung))) sent hung two.1 in
      let p : PurgesHung count hung.view new.view = came_by (PurgesHung count) (Then (λ z. Wait LookLeft true) (Then (λ z. TakeLock)
      (Then (λ before. DevResetQueue BeginHungPurge (cause.Hung before.view.holder.station.unit) count before) (λ z. End)))) hung new two.2 in ends
      (p.turns ∙ served.kept.turns)
      (keeps_then sent.view hung.view new.view served.fates (purge_keeps count hung.view new.view p))
      (λ unit there. ⊎_elim (λ was. inl (subst (λ (es : List Event). Contains es (Purge (cause.Hung unit))) served.trail was)) (λ now. inr now) (purge_hangs count hung.view new.view p unit there))
      (inr (p.trail ∙ (λ j. Purge (cause.Hung (sym (of_unit count hung.view new.view p) j)) ∷ served.trail j)))

  ends_quiet : count ≡ 0 → LeadsBy (Then (ServeToEnd k seen.Ended) (Finding EndControl)) sent new → ComesToEnd k count old.view new.view
  ends_quiet none h =
      let two = apart (ServeToEnd k seen.Ended) (Finding EndControl) sent new h in let over : Known = two.0 in
      let served : IsServed sent.view over.view = came_by IsServed (Then (ServeEach k) (Then (Finding BeginControl) (λ z. Look k.queues seen.Ended))) sent over two.1 in
      let is = found_leaves EndControl end_control_view (λ found z. refl) over new two.2 in
      let trail : new.view.trail ≡ sent.view.trail = ap (λ (x : View). x.trail) is ∙ served.trail in ends
      (ap (λ (x : View). x.turns) is ∙ served.kept.turns)
      (keeps_then sent.view over.view new.view served.fates ([], ap (λ (x : View). x.settled) is))
      (λ unit there. inl (subst (λ (es : List Event). Contains es (Purge (cause.Hung unit))) trail there))
      (inl (trail, none))

pub finish_comes : (k : Setup) (count : ℕ) (old new : Known) → LeadsBy (EndStation k count) old new → ComesToEnd k count old.view new.view
finish_comes k count old new h =
    let rest : Standing → List Step → Type 0 = λ before xs. Then (ServeToEnd k seen.Hung) (PurgeHung count) before xs ⊎ ((count ≡ 0) × Then (ServeToEnd k seen.Ended) (Finding EndControl) before xs) in
    let s = apart (SendAllLeft k) rest old new h in let r = s.2 in ⊎_elim
    (λ hung. ends_hung k count old s.0 new s.1 (r.0, r.1, hung, r.3, r.4, r.5, r.6, r.7))
    (λ quiet. ends_quiet k count old s.0 new s.1 quiet.0 (r.0, r.1, quiet.1, r.3, r.4, r.5, r.6, r.7))
    r.2
