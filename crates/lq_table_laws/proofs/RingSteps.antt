-- The kinds of steps at the turn words, at the producer words, the size and the slots, and at the fates.
use Rattle.std.proofs.Common.{◌≡◌, ◌≢◌, ℕ, ◌+◌, ◌*◌, ◌-◌, Bool, true, false, eqb, refl, sym, ap, ◌∙◌, subst, arith}
use Rattle.std.proofs.lemmas.Bool.{eqb-false, eqb-true}
use Rattle.std.specs.Prelude.{if◌then◌else◌, drop}
use Rattle.lq_band_laws.specs.Ring.{with_room}
use Rattle.lq_band_laws.specs.Three.{at}
use Rattle.lq_device.specs.Station.{StationState}
use Rattle.lq_model.specs.Plan.{band_in, owner_in, rank_in}
use Rattle.lq_model.specs.declared.fate.Cause.{Cause}
use Rattle.lq_model.specs.declared.fate.Fate.TheVariants as fate
use Rattle.lq_table.specs.Consumers.{head_slot_view, head_slot_view_empty}
use Rattle.lq_table.specs.Places.{fates_offset, producer_place, size_place, slot_word, turn_place}
use Rattle.lq_table.specs.Producers.{producer_slot_view_full, with_lock_at}
use Rattle.lq_table.specs.Resizes.{into, out_of, settled_work}
use Rattle.lq_table.specs.Rule.{is_live, words_of}
use Rattle.lq_table.specs.Step.{ClearSlot, FillSlot, GiveProducer, GiveTurn, HeadSlot, ProducerSlot, SetProducer, Settle, Standing, StoreSize, StoreSlot, TakeProducer, TakeTurn, ZeroSlot, brought_packet, carried_station, due_word, resize_of}
use Rattle.lq_table.specs.Turns.{take_turn_view}
use Rattle.lq_table.specs.Views.{View}
use Rattle.lq_table.proofs.ByName.{set_size}
use Rattle.lq_log.specs.Made.{exchange}
use Rattle.lq_table_laws.specs.StepMoves.{IsLogged}
use Rattle.lq_table_laws.specs.Stepped.{Leads, Remains, machine_after, machine_before}
use Rattle.lq_table_laws.proofs.AnyStep.{MovesAt, here, live, logs, no_move, one_move, remains, stays}
use Rattle.lq_table_laws.proofs.Devices.{send_move}
use Rattle.lq_table_laws.proofs.Looks.{at_fate, at_producer, at_turn}
use Rattle.lq_table_laws.proofs.Puts.{drops_move, joins_move}
use Rattle.lq_table_laws.proofs.Resizes.{fate_stays, resize_ends, slot_stays}
use Rattle.lq_table_laws.proofs.Rings.{empties_no_move, finds_none_move, takes_move}

-- THE TURNS

pub take_turn : (n seen : ℕ) (s : Standing) → MovesAt (TakeTurn n seen) s (turn_place (owner_in s.view.share.about.infos n))
take_turn n seen s t m = by (eqb seen (due_word v n)) refl m.knows (logs m)
  where
    v : View
    v = s.view

    o : ℕ
    o = owner_in v.share.about.infos n

    by : (b : Bool) → eqb seen (due_word v n) ≡ b → t.after ≡ (if b then take_turn_view n o (rank_in v.share.about.infos n) v else v)
        → IsLogged (exchange (turn_place o) (2 * rank_in v.share.about.infos n) (2 * rank_in v.share.about.infos n + 1) b) t → Leads no_move (machine_before t) (machine_after t)
    by true e is log = at_turn _ t.old t.rule (turn_place o) t.stored t.seat v t.after t.homes t.rule_after (here m) (live m) m.station
        (subst (Remains v) (sym is) (record { share = refl; place = refl; holder = refl; control = refl })) o (m.may (eqb-true seen (due_word v n) e)) refl
    by false e is log = stays m m.station log.2 v is (remains v)

pub give_turn : (n : ℕ) (s : Standing) → MovesAt (GiveTurn n) s (turn_place (owner_in s.view.share.about.infos n))
give_turn n s t m = at_turn _ t.old t.rule (turn_place (owner_in s.view.share.about.infos n)) t.stored t.seat s.view t.after t.homes t.rule_after (here m) (live m) m.station
    (subst (Remains s.view) (sym m.knows) (record { share = refl; place = refl; holder = refl; control = refl })) (owner_in s.view.share.about.infos n) m.may refl

-- THE PRODUCERS

pub take_producer : (band seen : ℕ) (s : Standing) → MovesAt (TakeProducer band seen true) s (producer_place band)
take_producer band seen s t m = at_producer _ t.old t.rule (producer_place band) t.stored t.seat s.view t.after t.homes t.rule_after (here m) (live m) m.station
    (subst (Remains s.view) (sym m.knows) (record { share = refl; place = refl; holder = refl; control = refl })) band m.may refl

pub give_producer : (band index : ℕ) (s : Standing) → MovesAt (GiveProducer band index) s (producer_place band)
give_producer band index s t m = at_producer _ t.old t.rule (producer_place band) t.stored t.seat s.view t.after t.homes t.rule_after (here m) (live m) m.station
    (subst (Remains s.view) (sym m.knows) (record { share = refl; place = refl; holder = refl; control = refl })) band m.may refl

pub set_producer : (band index : ℕ) (s : Standing) → MovesAt (SetProducer band index) s (producer_place band)
set_producer band index s t m = at_producer _ t.old t.rule (producer_place band) t.stored t.seat s.view t.after t.homes t.rule_after (here m) (live m) m.station
    (subst (Remains s.view) (sym m.knows) (record { share = refl; place = refl; holder = refl; control = refl })) band m.may refl

-- THE SLOTS

pub producer_slot : (band seen : ℕ) (s : Standing) → MovesAt (ProducerSlot band seen) s (slot_word s.view.share.about band (at band s.view.locks).index)
producer_slot band seen s t m = by (eqb seen 0) refl m.knows
  where
    v : View
    v = s.view

    n : ℕ
    n = brought_packet v

    by : (b : Bool) → eqb seen 0 ≡ b → t.after ≡ (if b then with_lock_at band (with_room (at band v.locks)) v else producer_slot_view_full n (seen - 1) v)
        → Leads (if b then no_move else one_move) (machine_before t) (machine_after t)
    by true e is = stays m m.station (logs m).2 _ is (record { share = refl; place = refl; holder = refl; control = refl })
    by false e is = let full : seen ≢ 0 = eqb-false seen 0 e in let p = m.may full in
        drops_move _ t.old t.rule band _ n t.stored t.seat v t.after t.homes (here m) (live m) m.station t.rule_after p.band_within p.slot_within p.holds p.position p.of_band p.locks p.stored refl p.calm
        (is ∙ ap (λ (z : ℕ). producer_slot_view_full n (z - 1) v) (sym (logs m).1)) (logs m).2 (λ z. full (sym (logs m).1 ∙ z))

pub store_slot : (band n : ℕ) (s : Standing) → MovesAt (StoreSlot band n) s (slot_word s.view.share.about band (at band s.view.locks).index)
store_slot band n s t m = let p = m.may.0 in
    joins_move _ t.old t.rule band _ n t.stored t.seat s.view t.after t.homes (here m) (live m) m.station t.rule_after p.band_within p.slot_within p.holds p.position p.of_band p.locks p.stored refl p.calm
    m.knows (logs m).1 m.may.1

pub head_slot : (band seen : ℕ) (s : Standing) → MovesAt (HeadSlot band seen) s (slot_word s.view.share.about band (at band s.view.holder.ends).head)
head_slot band seen s t m = by (eqb seen 0) refl m.knows
  where
    v : View
    v = s.view

    by : (b : Bool) → eqb seen 0 ≡ b → t.after ≡ (if b then head_slot_view_empty band v else head_slot_view band (seen - 1) v) → Leads one_move (machine_before t) (machine_after t)
    by true e is = let p = m.may in
        finds_none_move _ t.old t.rule band _ t.stored t.seat v t.after t.homes (here m) (live m) m.station t.rule_after p.band_within p.slot_within p.second is (logs m).2 ((logs m).1 ∙ eqb-true seen 0 e)
        p.position p.calm p.rests refl
    by false e is = let p = m.may in
        takes_move _ t.old t.rule band _ t.stored t.seat v t.after t.homes (here m) (live m) m.station t.rule_after p.band_within p.slot_within p.second
        (is ∙ ap (λ (z : ℕ). head_slot_view band (z - 1) v) (sym (logs m).1)) (logs m).2 (λ z. eqb-false seen 0 e (sym (logs m).1 ∙ z)) p.position p.calm p.rests refl

pub zero_slot : (band i : ℕ) (s : Standing) → MovesAt (ZeroSlot band i) s (slot_word s.view.share.about band i)
zero_slot band i s t m = let p = m.may in
    empties_no_move _ t.old t.rule band i t.stored t.seat s.view t.after t.homes (here m) (live m) m.station t.rule_after p.band_within p.slot_within m.knows (logs m).1 p.holds p.calm p.busy p.edge

-- THE FATES

pub settle_sent : (n unit serial : ℕ) (s : Standing) → MovesAt (Settle n (fate.Sent unit serial)) s (fates_offset s.view.share.about + n)
settle_sent n unit serial s t m = let sends = m.may.1 in
    send_move _ t.old t.rule t.stored t.seat s.view t.after t.homes (here m) (live m) m.station n (carried_station s) sends.answer sends.packet sends.direct t.rule_after m.may.0 m.knows sends.position sends.in_hand
    (ap (λ (z : StationState). z.last) sends.called.rest) sends.accepted

-- a fate that was decided by an earlier step
module _ (n : ℕ) (s : Standing) where
  pub settle_full : (by : ℕ) → MovesAt (Settle n (fate.Full by)) s (fates_offset s.view.share.about + n)
  settle_full by t m = at_fate _ t.old t.rule (fates_offset s.view.share.about + n) t.stored t.seat s.view t.after t.homes t.rule_after (here m) (live m) m.station
      (subst (Remains s.view) (sym m.knows) (record { share = refl; place = refl; holder = refl; control = refl })) n m.may refl

  pub settle_refused : (event : ℕ) → MovesAt (Settle n (fate.Refused event)) s (fates_offset s.view.share.about + n)
  settle_refused event t m = at_fate _ t.old t.rule (fates_offset s.view.share.about + n) t.stored t.seat s.view t.after t.homes t.rule_after (here m) (live m) m.station
      (subst (Remains s.view) (sym m.knows) (record { share = refl; place = refl; holder = refl; control = refl })) n m.may refl

  pub settle_purged : (cause : Cause) → MovesAt (Settle n (fate.Purged cause)) s (fates_offset s.view.share.about + n)
  settle_purged cause t m = at_fate _ t.old t.rule (fates_offset s.view.share.about + n) t.stored t.seat s.view t.after t.homes t.rule_after (here m) (live m) m.station
      (subst (Remains s.view) (sym m.knows) (record { share = refl; place = refl; holder = refl; control = refl })) n m.may refl

-- A RESIZE

pub settle_shrunk : (n event : ℕ) (s : Standing) → MovesAt (Settle n (fate.Shrunk event)) s (fates_offset s.view.share.about + n)
settle_shrunk n event s t m = let p = m.may.1 in let r = resize_of s.view in let b = band_in s.view.share.about.infos n in
    fate_stays _ t.old t.rule b t.stored t.seat s.view t.after t.homes (here m) (live m) (ap is_live m.knows ∙ live m) m.station r (settled_work (at b r.works)) (t.rule.setup.bands n m.may.0) refl p.holds p.under_way
    n event t.rule_after m.may.0 refl m.knows

pub clear_slot : (band i seen : ℕ) (s : Standing) → MovesAt (ClearSlot band i seen) s (slot_word s.view.share.about band i)
clear_slot band i seen s t m = let p = m.may.2 in let r = resize_of s.view in
    slot_stays _ t.old t.rule band t.stored t.seat s.view t.after t.homes (here m) (live m) (ap is_live m.knows ∙ live m) m.station r (out_of i (at band r.works)) m.may.0 refl p.holds p.under_way i t.rule_after m.may.1 m.knows

pub fill_slot : (band i n : ℕ) (s : Standing) → MovesAt (FillSlot band i n) s (slot_word s.view.share.about band i)
fill_slot band i n s t m = let p = m.may.2 in let r = resize_of s.view in
    slot_stays _ t.old t.rule band t.stored t.seat s.view t.after t.homes (here m) (live m) (ap is_live m.knows ∙ live m) m.station r (into i n (drop 1 (at band r.works).hand) (at band r.works)) m.may.0 refl
    p.holds p.under_way i t.rule_after m.may.1 m.knows

pub store_size : (len : ℕ) (s : Standing) → MovesAt (StoreSize len) s size_place
store_size len s t m = let p = m.may.0 in
    resize_ends _ t.old t.rule size_place t.stored t.seat s.view t.after t.homes t.rule_after (here m) (live m) (ap is_live m.knows ∙ live m) m.station (resize_of s.view) m.knows
    (set_size s.view.share.about t.old.words t.stored (let wide = t.rule.wide in omega arith) ∙ ap (λ (n : ℕ). record (words_of s.view.share.about t.old.words) { size = n }) ((logs m).1 ∙ m.may.1)) p.holds p.under_way m.may.2
