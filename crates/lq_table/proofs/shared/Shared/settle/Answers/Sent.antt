-- The device accepted the packet in hand: its fate's word is stored, the machine steps on, and the account sends.
use Rattle.std.proofs.Common.{◌≡◌, ◌≢◌, ℕ, ◌+◌, ◌-◌, ◌<◌, Bool, true, false, true≢false, List, [], ◌∷◌, ◌++◌, length, set, refl, sym, ap, ◌∙◌, subst, arith, Option, Some, None}
use Rattle.std.specs.Prelude.{if◌then◌else◌, ◌==◌, slice_index}
use Rattle.std.specs.Option.{option_map}
use Rattle.std.specs.List.{slice_get}
use Rattle.std.proofs.lemmas.Bool.{eqb-true, lt-ltb}
use Rattle.std.proofs.lemmas.List.{length-append}
use mathlib.Core.Option.{none}
use Rattle.atomic_table.specs.Table.{step, Allows, keeps}
use Rattle.lq_device.specs.Station.{StationState, HasAnswered}
use Rattle.lq_model.specs.Device.{is_busy, is_hang, taken}
use Rattle.lq_model.specs.Words.{word_of, HasWord}
use Rattle.lq_model.specs.declared.device.Tx.{Tx}
use Rattle.lq_model.specs.declared.device.Tx.TheVariants.{Sent, SentStop, SentHang, Busy}
use Rattle.lq_model.specs.declared.fate.Fate.{Fate}
use Rattle.lq_model.specs.declared.fate.Fate.TheVariants as fate
use Rattle.lq_model.specs.declared.machine.Packet.{Packet}
use Rattle.lq_model.specs.declared.machine.Position.{Position}
use Rattle.lq_model.specs.declared.machine.Position.TheVariants.{Xmit, Post, Quota}
use Rattle.lq_model.specs.declared.machine.Seat.{Seat}
use Rattle.lq_model.specs.declared.state.TheConstants.{QUOTA}
use Rattle.lq_model.specs.Account.{Account, Event, Send, sent_from_hand}
use Rattle.lq_model.specs.Legal.{MayCome}
use Rattle.lq_model.specs.Plan.{queue_in}
use Rattle.lq_model.specs.Machine.{Qdisc, is_queue_open}
use Rattle.lq_model.specs.Steps.{step_at, accepted, counted}
use Rattle.lq_model.specs.Positions.{holds_lock, may_be_inside}
use Rattle.lq_model.specs.Control.{is_control}
use Rattle.lq_account_laws.specs.Places.Waits.{in_hand}
use Rattle.lq_account_laws.proofs.Lists.{get-push-new}
use Rattle.lq_band_laws.proofs.Seats.{each_step}
use Rattle.lq_table.specs.Views.{View, Setup, State, HolderPart, machine_packet}
use Rattle.lq_table.specs.Rule.{words_of, fates_offset, account, holders, shown, last_sent, Holder, IsDevice, KnowsPackets, Rule}
use Rattle.lq_table.proofs.UnitsKept.{gone_step}
use Rattle.lq_table.specs.Moves.{Sat, and_settled, seen_by}
use Rattle.lq_table.specs.Fates.{machine_answer, fate_sent, settle_view_sent}
use Rattle.lq_table.proofs.ByName.{set_fate}
use Rattle.lq_table.proofs.Facts.{calm_rule, none_if, device_open}
use Rattle.lq_table.proofs.Shows.{Shows, begins_alike, after_plain, holder_shows}
use Rattle.lq_table.proofs.Accounts.{with_at_same, with_at_other}
use Rattle.lq_table.proofs.FatesKept.{fates_stored, fated_after, word_new}
use Rattle.lq_table.proofs.DeviceKept.{answers_kept, alive_at_xmit}
use Rattle.lq_table.proofs.StopsKept.{agree, call_none}
use Rattle.lq_table.proofs.SettledKept.{settled_stored}
use Rattle.lq_table.proofs.TrailsKept.{trails_same}
use Rattle.lq_table.proofs.Frames.{rings_same, none_left, rule_after, Fits, plays, held_after, lends_held}
use Rattle.lq_table.proofs.SeatFrames.{seats_with, sole_on}
use Rattle.lq_table.proofs.StationFrames.{stands_same, ties_same, account_after}
use Rattle.lq_log.specs.Made.{becomes}

xmit_fits : (q seen : Qdisc) → Shows q seen → (tx : Tx) → is_busy tx ≡ false → (p : Packet) (direct : Bool) (s : Seat) → Fits q seen (machine_answer (Some tx)) (Xmit p direct) s (accepted q)
xmit_fits q seen e Sent sent p direct s = record { may = refl; seat = ap (λ (d : Position). record (counted s) { position = if direct then Post else if (counted s).run == QUOTA then Quota else d }) (begins_alike q seen e); words = refl }
xmit_fits q seen e SentStop sent p direct s = record { may = refl; seat = refl; words = refl }
xmit_fits q seen e SentHang sent p direct s = record { may = refl; seat = refl; words = refl }
xmit_fits q seen e Busy sent p direct s = absurd cc

module _ (seen : Qdisc) (infos : List _) (xoff : List ℕ) (past : List Event) (d h : HolderPart) (n : ℕ) (direct : Bool) (s : Seat) (is : h ≡ d) (empty : d.hand ≡ None) (last : d.last ≡ Some n) where
  sent_holder : (tx : Tx) → is_busy tx ≡ false → d.station.device.hung ≡ is_hang tx
      → Holder infos xoff (Send ∷ past) d (step_at (Xmit (machine_packet infos n) direct) (machine_answer (Some tx)) seen s).seat.position h
  sent_holder Sent sent hung = let b = after_plain direct ((counted s).run == QUOTA) seen in record {
    is = is;
    in_hand = b.hand ∙ sym (ap (option_map (machine_packet infos)) empty);
    looked = λ c l. absurd (let z = b.looked in omega arith);
    stopping = b.stopping infos xoff (Send ∷ past) d.last;
    alive = λ _ h. absurd (true≢false (sym h ∙ hung));
  }
  sent_holder SentStop sent hung = record {
    is = is;
    in_hand = sym (ap (option_map (machine_packet infos)) empty);
    looked = λ c l. absurd (omega arith);
    stopping = (refl, (n, last, refl));
    alive = λ _ h. absurd (true≢false (sym h ∙ hung));
  }
  sent_holder SentHang sent hung = record {
    is = is;
    in_hand = sym (ap (option_map (machine_packet infos)) empty);
    looked = λ c l. absurd (omega arith);
    stopping = (refl, λ c l. absurd (omega arith));
    alive = λ calm _. absurd (true≢false calm);
  }
  sent_holder Busy sent hung = absurd cc

taken_one : (tx : Tx) → is_busy tx ≡ false → (n : ℕ) → taken tx n ≡ n ∷ []
taken_one Sent e n = refl
taken_one SentStop e n = refl
taken_one SentHang e n = refl
taken_one Busy e n = absurd cc

last_pushed : (xs : List ℕ) (n : ℕ) → slice_get (xs ++ n ∷ []) (length (xs ++ n ∷ []) - 1) ≡ Some n
last_pushed xs n = ap (slice_get (xs ++ n ∷ [])) (let l = length-append xs (n ∷ []) in let i : length (xs ++ n ∷ []) - 1 ≡ length xs = omega arith in i) ∙ get-push-new xs n

module _ (k : Setup) where
  pub settles : (slots id n : ℕ) (st : StationState) (m : Sat) (p : Packet) (direct : Bool) (tx : Tx) → m.0.place.position ≡ Xmit p direct → m.0.holder.hand ≡ Some n → HasAnswered tx p.queue n (shown m.0.holder) st → is_busy tx ≡ false → HasWord (fate_sent m.0.holder.station) → 0 < m.0.share.shares → n < length k.infos
      → Allows (Rule k) slots id m (fates_offset k + n) (λ _. word_of (fate_sent m.0.holder.station)) (λ _. becomes (λ _. settle_view_sent st) (step slots (fates_offset k + n) (word_of (fate_sent m.0.holder.station)) 0 none) m (word_of (fate_sent m.0.holder.station)))
  settles slots id n st m x direct tx position hand sends sent has_word some_share within s r0 deep here small =
      let v : View = m.0 in let r = calm_rule k s r0 id v here (lt-ltb 0 v.share.shares some_share) (ap may_be_inside position) (ap is_control position) in let p = r.parts in let g = r.state in let a = account k g in let q = r.qdisc in let W = words_of k s.words in let live = lt-ltb 0 v.share.shares some_share in
      let D : HolderPart = holders g a W.size in let holds : holds_lock v.place.position ≡ true = ap holds_lock position in
      let at : Holder k.infos W.xoff g.past D (Xmit x direct) v.holder = subst (λ (z : Position). Holder k.infos W.xoff g.past D z v.holder) position (p.station.lends.knows id v here live holds) in
      let in_hand_is : a.hand ≡ Some n = sym (ap (λ (z : HolderPart). z.hand) at.is) ∙ hand in
      let x_is : machine_packet k.infos n ≡ x = (let e : Some x ≡ Some (machine_packet k.infos n) = at.in_hand ∙ ap (option_map (machine_packet k.infos)) in_hand_is in cc) in
      let there : v.place.position ≡ Xmit (machine_packet k.infos n) direct = position ∙ ap (λ (z : Packet). Xmit z direct) (sym x_is) in
      let w : View = settle_view_sent st v in let e : Event = Send in let g' : State = record g { past = e ∷ g.past; station = st } in
      let a' : Account = sent_from_hand (Some n) a in let same : account k g' ≡ a' = ap (λ (o : Option ℕ). sent_from_hand o a) in_hand_is in
      let D' : HolderPart = holders g' a' W.size in let f : Fate = fate_sent v.holder.station in
      let unit : a.unit ≡ v.holder.station.unit = p.account.sends.unit ∙ sym (ap (λ (z : HolderPart). z.station.unit) at.is) in
      let list : a.sent a.unit ≡ v.holder.station.device.accepted = p.account.sends.sent ∙ sym (ap (λ (z : HolderPart). z.station.device.accepted) at.is) in
      let pushed : a'.sent a'.unit ≡ a.sent a.unit ++ n ∷ [] = with_at_same a.unit (a.sent a.unit ++ n ∷ []) a.sent in
      let last : last_sent a' ≡ Some n = ap (λ (ls : List ℕ). slice_get ls (length ls - 1)) pushed ∙ last_pushed (a.sent a.unit) n in
      let fate_now : a'.fates n ≡ Some f = with_at_same n (Some (fate.Sent a.unit (length (a.sent a.unit)))) a.fates ∙ (λ j. Some (fate.Sent (unit j) (length (list j)))) in
      let rest : (l : ℕ) → l ≢ n → a'.fates l ≡ a.fates l = λ l apart. with_at_other n l (Some (fate.Sent a.unit (length (a.sent a.unit)))) a.fates apart in
      let new : a.fates n ≡ None = none_if (a.fates n) (λ f' is. p.account.accounted.free n f' (in_hand in_hand_is) is) in
      let answered : st.last ≡ Some tx = ap (λ (z : StationState). z.last) sends.rest in
      let fits : Fits q (seen_by v) (machine_answer st.last) v.place.position v.place (accepted q) =
      subst (λ (z : Option Tx × Position). Fits q (seen_by v) (machine_answer z.0) z.1 v.place (accepted q)) (λ j. (sym answered j, sym position j)) (xmit_fits q (seen_by v) (holder_shows k s r id v here live holds) tx sent x direct v.place) in
      let mach = plays k s r id v w here live (machine_answer st.last) (seen_by v) (accepted q) fits refl refl refl refl in
      let open_ : is_queue_open q (queue_in k.infos n) ≡ true = ap (λ (z : Packet). is_queue_open q z.queue) x_is ∙ device_open k.infos s.views id v here live q a a.bands p.machine.invariant p.station.ties x direct position in
      let no_shut : g.shut ≡ None = call_none s.views id v here live q p.machine.invariant (ap may_be_inside position) g.shut a.stops p.station.stops in
      let may : MayCome k.infos k.station g.past a Send = (n, in_hand_is, eqb-true _ 0 (ap (λ (ls : List ℕ). slice_index ls (queue_in k.infos n) == 0) (sym (agree q.phase q.locked q.xoff a.stops g.shut no_shut p.station.stops)) ∙ open_)) in (
        w,
        keeps,
        tt,
        rule_after k s r (fates_offset k + n) (word_of f) id s.homes r.home w (record W { fates = set W.fates n (word_of f) }) (accepted q) g' a' r.deep (set_fate k s.words (word_of f) n within) same record {
          seats = seats_with k s r id v w here live (set W.fates n (word_of f)) (e ∷ g.past) g.origin (accepted q) g' a' refl refl refl refl
              (each_step (λ u. KnowsPackets k g.past a u.share u.packets) (λ u. KnowsPackets k (e ∷ g.past) a' u.share u.packets) s.views id w p.seats.packets
              (fated_after k g.past a a' e n v.share v.packets refl rest new (p.seats.packets id v here)) (λ j u _ _ y. fated_after k g.past a a' e n u.share u.packets refl rest new y))
              (settled_stored s.views id v w here W.fates n f has_word (word_new k s.views W.fates a g.resizing None n p.station.fates new) (let long = p.station.fates.stored.long in omega arith) p.seats.settled (ap (λ (o : Option ℕ). and_settled (option_map (λ l. (l, f)) o) v.settled) hand))
              (trails_same k.infos s.views id v w here p.seats.trails refl refl refl refl refl)
              (gone_step k s.views id v w here e tt p.seats.gone refl)
              (sole_on k s r id v w here live (accepted q) g' refl refl (λ e1 e2. (ap (λ (z : Qdisc). (step_at v.place.position (machine_answer st.last) z v.place).qdisc) e1 ∙ fits.words, ap (λ (z : State). record z { past = e ∷ z.past; station = st }) e2)));
          machine = mach;
          station = record {
            stands = stands_same p.station.stands refl;
            ties = ties_same p.station.ties refl refl;
            lends = lends_held k s r id v here live holds w q.locked W.xoff (e ∷ g.past) D' refl
                (subst (λ (z : Position × Option Tx). Holder k.infos W.xoff (e ∷ g.past) D' (step_at z.0 (machine_answer z.1) (seen_by v) v.place).seat.position w.holder) (λ j. (sym there j, sym answered j))
                (sent_holder (seen_by v) k.infos W.xoff g.past D' w.holder n direct v.place (λ j. record (at.is j) { station = st; hand = None; last = (hand ∙ sym last) j }) refl last tx sent sends.answers.hung));
            fates = fates_stored k s.views id v w here W.fates a a' g.resizing None p.station.fates n f rest fate_now new within refl;
            rings = rings_same k s.views id v w here k.max_len W.size W.producers W.slots a.len a.bands g.ends g.resizing p.station.rings refl (λ _ _ l h. (l, held_after k s r id v w here live (machine_answer st.last) (seen_by v) (accepted q) fits refl h));
            stops = p.station.stops;
          };
          account = account_after k s r e a' same may tt tt tt
              (record {
                unit = p.account.sends.unit ∙ (sym (ap (λ (z : HolderPart). z.station.unit) at.is) ∙ sym (ap (λ (z : StationState). z.unit) sends.rest));
                sent = pushed ∙ (ap (λ (ls : List ℕ). ls ++ n ∷ []) list ∙ (ap (λ (ls : List ℕ). v.holder.station.device.accepted ++ ls) (sym (taken_one tx sent n)) ∙ sym sends.answers.accepted));
                small = subst (λ (z : ℕ). z < 256) (ap (λ (z : HolderPart). z.station.unit) (sym at.is) ∙ sym (ap (λ (z : StationState). z.unit) sends.rest)) p.account.sends.small;
              })
              (answers_kept k.infos k.station a.stops g.origin v.holder.station.device st.device tx x.queue n sends.answers (let known = p.account.accounted.brought.packets n (p.account.accounted.brought.hand n in_hand_is) in record { within = known.0; of_station = known.1; own_queue = ap (λ (z : Packet). z.queue) (sym x_is) }) (subst (λ (z : HolderPart). IsDevice k.infos k.station a.stops g.origin z.station.device) (sym at.is) p.account.device) (alive_at_xmit k s r id v here live n direct there in_hand_is))
              (none_left _ _);
        },
        refl,
      )
