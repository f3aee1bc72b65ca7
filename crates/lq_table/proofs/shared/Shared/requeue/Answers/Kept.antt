-- `requeue` keeps the rule of the table.
use Rattle.std.proofs.Common.{◌≡◌, ℕ, ◌<◌, Bool, true, true≢false, ◌∷◌, ◌++◌, refl, sym, ap, ◌∙◌, subst, arith, Some, None}
use Rattle.std.specs.Prelude.{bit_or}
use Rattle.std.specs.Option.{option_map}
use Rattle.std.proofs.lemmas.Bool.{lt-ltb}
use mathlib.Core.Option.{none}
use Rattle.std.proofs.lemmas.List.{append-nil}
use Rattle.atomic_table.specs.Table.{step, Allows, keeps}
use Rattle.lq_device.specs.Station.{StationState, HasAnswered}
use Rattle.lq_model.specs.declared.device.Tx.TheVariants.{Busy}
use Rattle.lq_model.specs.declared.machine.Answer.TheVariants.{Plain, Busy as IsBusy}
use Rattle.lq_model.specs.declared.machine.Packet.{Packet}
use Rattle.lq_model.specs.declared.machine.Position.{Position}
use Rattle.lq_model.specs.declared.machine.Position.TheVariants.{Xmit, Again, Unlock}
use Rattle.lq_model.specs.declared.machine.Seat.{Seat}
use Rattle.lq_model.specs.Account.{Event, Back, after}
use Rattle.lq_model.specs.Machine.{Qdisc}
use Rattle.lq_model.specs.Positions.{holds_lock, needs_slot}
use Rattle.lq_model.specs.Kept.{IsInductive}
use Rattle.lq_table.specs.Places.{state_place}
use Rattle.lq_table.specs.Views.{View, Setup, HolderPart, machine_packet}
use Rattle.lq_table.specs.Rule.{words_of, account, holders, event_word, shown, Holder, IsDevice, Rule}
use Rattle.lq_table.specs.Moves.{Sat}
use Rattle.lq_table.specs.States.{requeue_view}
use Rattle.std.proofs.lemmas.Option.{same_Some}
use Rattle.lq_table.proofs.Bits.{or_missed}
use Rattle.lq_table.proofs.ByName.{set_state}
use Rattle.lq_table.proofs.Middle.{middle, steps_in}
use Rattle.lq_table.proofs.Facts.{slot_free}
use Rattle.lq_table.proofs.Serves.{serves}
use Rattle.lq_table.proofs.DeviceKept.{answers_kept, alive_at_xmit}
use Rattle.lq_table.proofs.Frames.{firsts_same, opened, closed, moves}
use Rattle.lq_table.proofs.StationFrames.{stands_state}
use Rattle.lq_log.specs.Made.{becomes}

module _ (k : Setup) where
  -- the device didn't accept the packet
  pub requeues : (slots id n : ℕ) (st : StationState) (m : Sat) (y : Packet) (direct : Bool) → m.0.place.position ≡ Xmit y direct → m.0.holder.hand ≡ Some n → HasAnswered Busy y.queue n (shown m.0.holder) st → 0 < m.0.share.shares
      → Allows (Rule k) slots id m state_place (λ n. bit_or n 4) (becomes (λ _. requeue_view st) (step slots state_place 4 0 none) m)
  requeues slots id n st m y direct position0 hand sends some_share s r deep here small =
      let v : View = m.0 in let p = r.parts in let g = r.state in let a = account k g in let q = r.qdisc in let W = words_of k s.words in let live = lt-ltb 0 v.share.shares some_share in let mid = middle s.views id v here live in
      let D : HolderPart = holders g a W.size in let holds : holds_lock v.place.position ≡ true = ap holds_lock position0 in let x : Packet = machine_packet k.infos n in
      let at : Holder k.infos W.xoff g.past D (Xmit y direct) v.holder = subst (λ (z : Position). Holder k.infos W.xoff g.past D z v.holder) position0 (p.station.lends.knows id v here live holds) in
      let in_hand_is : a.hand ≡ Some n = sym (ap (λ (z : HolderPart). z.hand) at.is) ∙ hand in
      let y_is : x ≡ y = same_Some x y (sym (at.in_hand ∙ ap (option_map (machine_packet k.infos)) in_hand_is)) in let position : v.place.position ≡ Xmit x direct = position0 ∙ ap (λ (z : Packet). Xmit z direct) (sym y_is) in
      let x_told : option_map (machine_packet v.share.about.infos) v.holder.hand ≡ Some x = λ j. option_map (machine_packet (p.seats.shares.about id v here live j).infos) (hand j) in
      let w : View = requeue_view st v in let e : Event = Back in let q1 : Qdisc = record q { slot = Some x } in let q' : Qdisc = record q { slot = Some x; missed = true } in
      let at_device : Seat = record v.place { position = Xmit x direct } in let at_again : Seat = record v.place { position = Again } in
      let first : IsInductive (record { qdisc = q1; seats = _ }) = steps_in q mid.before mid.after at_device IsBusy refl
      (subst (λ (u : Seat). IsInductive (record { qdisc = q; seats = mid.before ++ u ∷ mid.after })) (λ j. record v.place { position = position j }) (opened s.views id v here live q p.machine.invariant)) in
      let second : IsInductive (record { qdisc = q'; seats = _ }) = steps_in q1 mid.before mid.after at_again Plain refl first in
      let mach = moves k s r id v w here live q' refl refl (closed s.views id v here live w q' (record v.place { position = Unlock }) live refl second) (λ y own. absurd cc)
      (firsts_same k s.views id v w here q.phase q.phase q.purge q.purge p.machine.firsts live refl refl refl refl (λ c. absurd cc)) in
      let no_slot : a.slot ≡ None = slot_free k.infos s.views id v here live q a _ p.machine.invariant p.station.ties (ap needs_slot position) in
      let same_unit : st.unit ≡ g.station.unit = ap (λ (z : StationState). z.unit) sends.rest ∙ ap (λ (z : HolderPart). z.station.unit) at.is in
      let same_sent : st.device.accepted ≡ g.station.device.accepted = sends.answers.accepted ∙ (append-nil v.holder.station.device.accepted ∙ ap (λ (z : HolderPart). z.station.device.accepted) at.is) in (
        w,
        keeps,
        tt,
        serves k s r state_place _ id (bit_or W.state 4) W.xoff v w q' e (λ _. st) (after e a) here live holds refl refl refl refl (λ e1 j. record (e1 j) { slot = x_told j; missed = true }) refl
            mach refl refl (set_state k s.words _ (let wide = r.wide in omega arith))
            (stands_state p.station.stands (ap (λ (z : ℕ). bit_or z 4) p.station.stands.state ∙ or_missed q.sched q.deactivated q.missed q.draining (event_word a.down)) refl)
            refl ((n, in_hand_is), no_slot) tt refl
            p.station.stops
            (answers_kept k.infos k.station a.stops g.origin v.holder.station.device st.device Busy y.queue n sends.answers (let known = p.account.accounted.brought.packets n (p.account.accounted.brought.hand n in_hand_is) in record { within = known.0; of_station = known.1; own_queue = ap (λ (z : Packet). z.queue) (sym y_is) }) (subst (λ (z : HolderPart). IsDevice k.infos k.station a.stops g.origin z.station.device) (sym at.is) p.account.device) (alive_at_xmit k s r id v here live n direct position in_hand_is)) refl tt
            (record { bands_are = p.station.ties.bands_are; slot = sym (ap (option_map (machine_packet k.infos)) in_hand_is); len = p.station.ties.len; down = p.station.ties.down }) refl refl (λ _. refl)
            (record { unit = p.account.sends.unit ∙ sym same_unit; sent = p.account.sends.sent ∙ sym same_sent; small = subst (λ (z : ℕ). z < 256) (sym same_unit) p.account.sends.small })
            record {
              is = λ j. record (at.is j) { station = st; slot = (at.is j).hand; hand = None };
              in_hand = refl;
              looked = λ c l. absurd (omega arith);
              stopping = tt;
              alive = λ _ h. absurd (true≢false (sym h ∙ sends.answers.hung));
            },
        refl,
      )
