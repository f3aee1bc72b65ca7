-- A direct transmit, from the load of the stop word on.
use Rattle.std.proofs.Common.{◌≡◌, ◌==◌, ℕ, Bool, true, List, ◌∷◌, None, Some, if◌then◌else◌, refl, ap, ◌∙◌, subst}
use Rattle.lq_model.specs.Account.{Back, Send}
use Rattle.lq_model.specs.declared.device.Tx.TheVariants.{Busy}
use Rattle.lq_model.specs.declared.machine.Blocked.TheVariants.{InHand}
use Rattle.lq_model.specs.declared.machine.Packet.{Packet}
use Rattle.lq_model.specs.declared.machine.Position.TheVariants.{BlockedClear, Gate, Xmit}
use Rattle.lq_device.specs.Station.{HasAnswered}
use Rattle.lq_table.specs.Views.{View, HolderPart}
use Rattle.lq_table.specs.Rule.{shown}
use Rattle.lq_table.specs.Sees.{view, position, solo, heard, device_to}
use Rattle.lq_table.specs.Fates.{fate_sent}
use Rattle.lq_table.specs.Stops.{load_xoff_view}
use Rattle.lq_table.specs.States.{missed_to}
use Rattle.lq_table.specs.Step.{Standing, Step}
use Rattle.lq_table.specs.declared.shared.Cpu.{Cpu}
use Rattle.lq_qdisc.specs.Direct.{Accepts, Directs, IsBusyAt, SeesOpen, hearing_stops, stopped_by}
use Rattle.lq_qdisc.specs.StepLists.{IsAccepted, IsGivenBack, StartXmit}
use Rattle.lq_qdisc.specs.declared.answers.Through.{Through}
use Rattle.lq_qdisc.specs.declared.answers.Through.TheVariants as through
use Rattle.lq_qdisc.specs.declared.answers.Why.TheVariants as why
use Rattle.lq_qdisc.proofs.DirectLemmas.{loaded_at_gate, moved_to}

abbrev accepted_before : (n queue : ℕ) (v m w : View) → m.holder ≡ v.holder → m.share ≡ v.share → m.whole.state.past ≡ v.whole.state.past → m.settled ≡ v.settled → solo m ≡ solo v → SeesOpen queue v → Accepts n queue m w → Accepts n queue v w
accepted_before n queue v m w holder share past settled alone sees a = record {
  answer = a.answer;
  station = a.station;
  called = subst (λ (h : HolderPart). HasAnswered a.answer queue n (shown h) a.station) holder a.called;
  accepted = a.accepted;
  past = a.past ∙ (λ j. stopped_by a.answer queue (share j).about.queues (Send ∷ past j));
  holder = a.holder ∙ ap (λ (h : HolderPart). record h { station = a.station; hand = None; last = Some n }) holder;
  settled = a.settled ∙ (λ j. (n, fate_sent (holder j).station) ∷ settled j);
  step = a.step ∙ (λ j. hearing_stops a.answer queue (share j).about.queues (device_to a.station.device (heard Send (alone j))));
  sole = sees;
}

abbrev busy_before : (n queue : ℕ) (v m w : View) → m.holder ≡ v.holder → m.settled ≡ v.settled → solo m ≡ solo v → SeesOpen queue v → IsBusyAt n queue m w → IsBusyAt n queue v w
busy_before n queue v m w holder settled alone sees b = record {
  station = b.station;
  called = subst (λ (h : HolderPart). HasAnswered Busy queue n (shown h) b.station) holder b.called;
  holder = b.holder ∙ ap (λ (h : HolderPart). record h { station = b.station; slot = Some n; hand = None }) holder;
  settled = b.settled ∙ settled;
  step = b.step ∙ (λ j. device_to b.station.device (heard Back (missed_to true (alone j))));
  sole = sees;
}

-- the device was asked, and so the packet wasn't laid aside
not_aside : {queues n queue : ℕ} {before : Standing} {t : Through} {xs : List Step} → StartXmit queues n queue before t xs → t ≡ through.Back why.Stopped → ⊥
not_aside (IsAccepted accepted called) is = cc
not_aside (IsGivenBack called) is = cc

module _ {D : Type 0} where
  pub offers_directs : {queues : ℕ} {before : Standing} {xs : List Step} (t : Through) (n queue first : ℕ) (p : Packet) (direct : Bool) (b m w : Cpu D) → first ≡ 0 → position b ≡ Gate p direct → view m ≡ load_xoff_view first (view b)
      → SeesOpen queue (view m) → StartXmit queues n queue before t xs → Directs t n queue (view m) (view w) → Directs t n queue (view b) (view w)
  offers_directs through.Yes n queue first p direct b m w opened here loaded sees o d =
      let e : view m ≡ moved_to (if first == 0 then Xmit p direct else BlockedClear (InHand p direct)) (view b) = loaded ∙ loaded_at_gate first (view b) p direct here in
      accepted_before n queue (view b) (view m) (view w) (ap (λ (v : View). v.holder) e) (ap (λ (v : View). v.share) e) (ap (λ (v : View). v.whole.state.past) e) (ap (λ (v : View). v.settled) e) (ap (λ (v : View). solo v) e) (subst (λ (v : View). SeesOpen queue v) e sees) d
  offers_directs (through.Back why.Busy) n queue first p direct b m w opened here loaded sees o d =
      let e : view m ≡ moved_to (if first == 0 then Xmit p direct else BlockedClear (InHand p direct)) (view b) = loaded ∙ loaded_at_gate first (view b) p direct here in
      busy_before n queue (view b) (view m) (view w) (ap (λ (v : View). v.holder) e) (ap (λ (v : View). v.settled) e) (ap (λ (v : View). solo v) e) (subst (λ (v : View). SeesOpen queue v) e sees) d
  offers_directs (through.Back why.Stopped) n queue first p direct b m w opened here loaded sees o d = absurd (not_aside o refl)
