-- The device's room, and when it hangs.
use Rattle.std.proofs.Common.{◌≡◌, ℕ, ◌+◌, Bool, true, false, true≢false, ◌&&◌, List, set, sym, ap, ap₂, ◌∙◌, subst, arith, refl, Option, Some, None, length, slice_index, get_or, length-set, get_or-set_same, get_or-set_other, eq-eqb, if◌then◌else◌}
use Rattle.std.specs.Prelude.{All, nat_lt, ◌==◌, IfSome}
use Rattle.std.specs.Option.{option_map}
use Rattle.std.proofs.lemmas.Bool.{lt-ltb}
use Rattle.std.proofs.lemmas.List.{length-append, get_or_past}
use Rattle.std.proofs.lemmas.List.Elements.{All-push}
use Rattle.std.proofs.lemmas.Option.{same_Some}
use mathlib.Core.Logic.{dite}
use mathlib.Core.Option.{some}
use native.Mathlib.Decide.{ℕ_discrete, dec_lt}
use lib.ListN.{get_elem?}
use Rattle.atomic_table.specs.Table as table
use Rattle.lq_device.specs.Station.{StationState}
use Rattle.lq_model.specs.Device.{DeviceState, Telling, Answers, device_call, answer_of, taken, is_hang, is_busy, told_after}
use Rattle.lq_model.specs.declared.device.Params.{Params}
use Rattle.lq_model.specs.declared.device.Tx.{Tx}
use Rattle.lq_model.specs.declared.device.Tx.TheVariants.{Sent, SentStop, SentHang, Busy}
use Rattle.lq_model.specs.declared.fate.Info.{Info}
use Rattle.lq_model.specs.declared.machine.Position.{Position}
use Rattle.lq_model.specs.declared.machine.Position.TheVariants.{Xmit}
use Rattle.lq_model.specs.Machine.{is_queue_open}
use Rattle.lq_model.specs.Positions.{holds_lock}
use Rattle.lq_model.specs.Plan.{queue_in}
use Rattle.lq_table.specs.Views.{View, Setup, HolderPart, machine_packet}
use Rattle.lq_table.specs.Rule.{words_of, is_live, account, holders, bands_now, Holder, HangsWhere, IsCallOf, IsDevice, Rule}
use Rattle.lq_table.proofs.ByName.{xoff_long}
use Rattle.lq_table.proofs.Frames.{none_some}
use Rattle.lq_table.proofs.Facts.{device_open}

-- STOP WORDS

-- a stop word is stored, as 2 only where the device hangs
pub xoff_stored : (infos : List Info) (station : ℕ) (xoff : List ℕ) (origin d : DeviceState) (queue x : ℕ) → IsDevice infos station xoff origin d → (x ≡ 2 → d.hung ≡ true) → IsDevice infos station (set xoff queue x) origin d
xoff_stored infos station xoff origin d queue x i hangs = record {
  room = i.room;
  hung = λ c is. dite (ℕ_discrete c queue)
      (λ same. dite (dec_lt queue (length xoff))
      (λ inside. hangs (sym (get_or-set_same xoff queue x 0 inside) ∙ (ap (λ (z : ℕ). get_or (set xoff queue x) z 0) (sym same) ∙ is)))
      (λ past. absurd (let e = get_or_past (set xoff queue x) c 0 (let l = length-set xoff queue x in omega arith) in let is' : get_or (set xoff queue x) c 0 ≡ 2 = is in omega arith)))
      (λ other. i.hung c (sym (get_or-set_other xoff queue c x 0 other) ∙ is));
  served = i.served;
}

pub stop_stored : (infos : List Info) (station : ℕ) (xoff : List ℕ) (origin d : DeviceState) (queue : ℕ) (hung : Bool) → IsDevice infos station xoff origin d → d.hung ≡ hung → IsDevice infos station (set xoff queue (if hung then 2 else 1)) origin d
stop_stored infos station xoff origin d queue true i is = xoff_stored infos station xoff origin d queue 2 i (λ _. is)
stop_stored infos station xoff origin d queue false i is = xoff_stored infos station xoff origin d queue 1 i (λ e. absurd (omega arith))

-- ANSWERS

hang_said : (b h s : Bool) (tx : Tx) → tx ≡ (if b then Busy else if h then SentHang else if s then SentStop else Sent) → is_busy tx ≡ false → is_hang tx ≡ h
hang_said true h s tx e sent = absurd (true≢false (sym (ap is_busy e) ∙ sent))
hang_said false true s tx e sent = ap is_hang e
hang_said false false true tx e sent = ap is_hang e
hang_said false false false tx e sent = ap is_hang e

one_taken : (tx : Tx) (n : ℕ) → is_busy tx ≡ false → length (taken tx n) ≡ 1
one_taken Sent n e = refl
one_taken SentStop n e = refl
one_taken SentHang n e = refl
one_taken Busy n e = absurd (true≢false e)

none_taken : (tx : Tx) (n : ℕ) → is_busy tx ≡ true → (length (taken tx n) ≡ 0) × (is_hang tx ≡ false)
none_taken Busy n e = (refl, refl)
none_taken Sent n e = absurd (true≢false (sym e))
none_taken SentStop n e = absurd (true≢false (sym e))
none_taken SentHang n e = absurd (true≢false (sym e))

-- a device that doesn't hang answers as it told
hangs_on : (t : Telling) (tx : Tx) (queue n : ℕ) (d d' : DeviceState) → Answers tx queue n d d' → d.hung ≡ false → tx ≡ answer_of t (length d.accepted) → HangsWhere t.params d → (busy : Bool) → is_busy tx ≡ busy → HangsWhere t.params d'
hangs_on t tx queue n d d' a alive rule w true e = let z = none_taken tx n e in
    let same : length d'.accepted ≡ length d.accepted = ap length a.accepted ∙ (length-append d.accepted (taken tx n) ∙ (let y = z.0 in omega arith)) in
    (a.hung ∙ (z.1 ∙ (sym alive ∙ (w.0 ∙ ap (λ (l : ℕ). nat_lt 0 t.params.hang_after && (l == t.params.hang_after)) (sym same)))), λ some_. let m = w.1 some_ in omega arith)
hangs_on t tx queue n d d' a alive rule w false e =
    let more : length d'.accepted ≡ length d.accepted + 1 = ap length a.accepted ∙ (length-append d.accepted (taken tx n) ∙ (let y = one_taken tx n e in omega arith)) in
    let said : is_hang tx ≡ (nat_lt 0 t.params.hang_after && (length d.accepted + 1 == t.params.hang_after)) = hang_said _ _ _ tx rule e in (
      a.hung ∙ (said ∙ ap (λ (l : ℕ). nat_lt 0 t.params.hang_after && (l == t.params.hang_after)) (sym more)),
      λ some_. dite (ℕ_discrete (length d.accepted) t.params.hang_after)
          (λ reached. absurd (true≢false (sym (ap₂ (λ (x y : Bool). x && y) (lt-ltb 0 t.params.hang_after some_) (eq-eqb (length d.accepted) t.params.hang_after reached)) ∙ (sym w.0 ∙ alive))))
          (λ other. let m = w.1 some_ in omega arith),
    )

-- an answer changes no parameters
params_stay : (tx : Tx) (o : Option Telling) → option_map (λ (t : Telling). t.params) (option_map (told_after tx) o) ≡ option_map (λ (t : Telling). t.params) o
params_stay tx None = refl
params_stay tx (Some t) = refl

pub answers_kept : (infos : List Info) (station : ℕ) (xoff : List ℕ) (origin d d' : DeviceState) (tx : Tx) (queue n : ℕ) → Answers tx queue n d d' → IsCallOf infos station (device_call queue n) → IsDevice infos station xoff origin d → d.hung ≡ false → IsDevice infos station xoff origin d'
answers_kept infos station xoff origin d d' tx queue n a call i alive = record {
  room = let l = ap length a.accepted ∙ length-append d.accepted (taken tx n) in let s = a.spare in let m = i.room in omega arith;
  hung = λ c is. absurd (true≢false (sym (i.hung c is) ∙ alive));
  served = record {
    identity = a.identity ∙ i.served.identity;
    params = ap (option_map (λ (t : Telling). t.params)) a.told ∙ (params_stay tx d.told ∙ i.served.params);
    asked = subst (All (IsCallOf infos station)) (sym a.asked) (All-push (IsCallOf infos station) d.asked (device_call queue n) i.served.asked call);
    told = go d.told refl a.told a.rule;
  };
}
  where
    go : (o : Option Telling) → d.told ≡ o → d'.told ≡ option_map (told_after tx) o → IfSome o (λ t. tx ≡ answer_of t (length d.accepted)) → (t : Telling) → d'.told ≡ Some t → HangsWhere t.params d'
    go None is is' rule t now = absurd (none_some (sym is' ∙ now))
    go (Some t) is is' rule t' now = subst (λ (p : Params). HangsWhere p d') (ap (λ (z : Telling). z.params) (same_Some _ _ (sym is' ∙ now))) (hangs_on t tx queue n d d' a alive rule (i.served.told t is) (is_busy tx) refl)

-- WHERE A PACKET IS TO GO TO THE DEVICE

by_cases : (b : Bool) → (b ≡ true → ⊥) → b ≡ false
by_cases true no_ = absurd (no_ refl)
by_cases false no_ = refl

-- the device doesn't hang where a packet is to go to it
pub alive_at_xmit : (k : Setup) (s : table.State (Option StationState) View) (r : Rule k s) (id : ℕ) (v : View) (here : get_elem? s.views id ≡ some v) (live : is_live v ≡ true) (n : ℕ) (direct : Bool) → v.place.position ≡ Xmit (machine_packet k.infos n) direct → (account k r.state).hand ≡ Some n
    → v.holder.station.device.hung ≡ false
alive_at_xmit k s r id v here live n direct position in_hand =
    let p = r.parts in let q = r.qdisc in let g = r.state in let a = account k g in let W = words_of k s.words in let D : HolderPart = holders g a W.size in
    let at : Holder k.infos W.xoff g.past D (Xmit (machine_packet k.infos n) direct) v.holder = subst (λ (z : Position). Holder k.infos W.xoff g.past D z v.holder) position (p.station.lends.knows id v here live (ap holds_lock position)) in
    let open_ : is_queue_open q (queue_in k.infos n) ≡ true = device_open k.infos s.views id v here live q a (bands_now g.left a.bands) p.machine.invariant p.station.ties (machine_packet k.infos n) direct position in
    let known = p.account.accounted.brought.packets n (p.account.accounted.brought.hand n in_hand) in let below = r.setup.queues_are n known.0 known.1 in let long = xoff_long k s.words r.wide in
    ap (λ (z : HolderPart). z.station.device.hung) at.is ∙ by_cases g.station.device.hung (λ hangs.
    let two : slice_index W.xoff (queue_in k.infos n) ≡ 2 = at.alive refl hangs (queue_in k.infos n) (omega arith) in
    true≢false (sym open_ ∙ ap (λ (x : ℕ). x == 0) (ap (λ (xs : List ℕ). slice_index xs (queue_in k.infos n)) p.station.stands.xoff ∙ two)))
