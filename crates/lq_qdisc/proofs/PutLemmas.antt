-- What the steps of a put come to.
use Rattle.std.proofs.Common.{◌≡◌, ◌≢◌, ne_eqb, ℕ, ◌+◌, ◌-◌, Bool, true, false, if◌then◌else◌, List, [], ◌∷◌, Some, refl, sym, ap, ◌∙◌, subst, arith}
use Rattle.std.specs.Option.{unwrap_or}
use Rattle.std.specs.Prelude.{Ok, Err}
use Rattle.lq_model.specs.Account.{Full as FullEvent, Join}
use Rattle.lq_model.specs.Plan.{band_in}
use Rattle.lq_model.specs.declared.fate.Fate.TheVariants as fate
use Rattle.lq_model.specs.declared.machine.Packet.{Packet}
use Rattle.lq_model.specs.declared.machine.Position.{Position}
use Rattle.lq_model.specs.declared.machine.Position.TheVariants.{Put}
use Rattle.lq_band_laws.specs.Ring.{locked_at, with_room}
use Rattle.lq_band_laws.specs.Three.{at, put}
use Rattle.lq_ring_core.specs.declared.ring.Full.{Full}
use Rattle.lq_ring.specs.Put.{dropping_full, no_locks, putting}
use Rattle.lq_ring.specs.StepLists.{DroppedFull, Joined, Produce, ProduceLocked, Produces}
use Rattle.lq_ring.proofs.PutSteps.{ends_full, ends_put}
use Rattle.lq_ring.proofs.StepsThen.{leave_then}
use Rattle.lq_ring.proofs.ListLemmas.{lock_leaves}
use Rattle.lq_run.specs.Steps.{MakesStepsOf}
use Rattle.lq_table.specs.Fates.{settle_view_owed}
use Rattle.lq_table.specs.Producers.{SeesEnd, load_size_view, producer_slot_view_full, with_lock_at}
use Rattle.lq_table.specs.Sees.{heard, solo, view}
use Rattle.lq_table.specs.Step.{Settle, Standing, Step, brought_packet, standing, steps_leave, steps_tell}
use Rattle.lq_table.specs.Views.{Setup, View}
use Rattle.lq_table.specs.declared.shared.Cpu.{Cpu}
use Rattle.lq_qdisc.specs.StepLists.{DropsFull, PfifoFastEnqueue, PutsIn}
use Rattle.lq_qdisc.specs.declared.answers.Sending.{Sending}
use Rattle.lq_table.proofs.StepsThen.{tell_first, tell_last}
use Rattle.lq_qdisc.proofs.ViewRelations.{Enqueues}

joined : {band index n : ℕ} {rest : List Step} → ProduceLocked band index n (Ok tt) rest → (m : Standing) → m.view.locks ≡ put band (locked_at index) no_locks → steps_tell rest m
    → ((steps_leave rest m).view ≡ putting band n m.view) × SeesEnd band m.view 0
joined {band} {index} {n} (Joined {size}) m had t = (ends_put band size index n m.view (load_size_view size m.view) had refl _ refl _ refl _ refl, t.1.0.1)

dropped : {band index n : ℕ} {full : Full} {rest : List Step} → ProduceLocked band index n (Err full) rest → (m : Standing) → m.view.locks ≡ put band (locked_at index) no_locks → m.view.packets.fresh ≡ Some n
    → steps_tell rest m → ((steps_leave rest m).view ≡ dropping_full n full.seen m.view) × SeesEnd band m.view (full.seen + 1)
dropped {band} {index} {n} (DroppedFull {size} {full}) m had fresh t =
    let some_ : full.seen + 1 ≢ 0 = λ e. (let q : full.seen + 1 ≡ 0 = e in absurd (omega arith)) in let back : full.seen + 1 - 1 ≡ full.seen = omega arith in
    let v = load_size_view size m.view in
    let saw = ap (λ (x : Bool). if x then with_lock_at band (with_room (at band v.locks)) v else producer_slot_view_full (brought_packet v) (full.seen + 1 - 1) v) (ne_eqb (full.seen + 1) 0 some_)
    ∙ (λ j. producer_slot_view_full (unwrap_or (fresh j) 0) (back j) v) in
    (ends_full band size index n m.view v had refl full.seen _ _ saw refl, t.1.0.1)

-- where the seat brings the packet and has no producer lock
abbrev pub BringsUnlocked : ℕ → View → Type 0
BringsUnlocked n v = (v.packets.fresh ≡ Some n) × (v.locks ≡ no_locks)

had : (band index n : ℕ) (v m : View) → m ≡ with_lock_at band (locked_at index) v → BringsUnlocked n v → m.locks ≡ put band (locked_at index) no_locks
had band index n v m w brings = ap (λ (x : View). x.locks) w ∙ ap (put band (locked_at index)) brings.1

put_joined : {band n : ℕ} {xs : List Step} → Produce band n (Ok tt) xs → (s : Standing) → BringsUnlocked n s.view → steps_tell xs s → ((steps_leave xs s).view ≡ putting band n s.view) × SeesEnd band s.view 0
put_joined {band} {n} (Produces {index} {locked} {rest} l p) s brings told =
    let m = steps_leave locked s in let w = lock_leaves l s in let e = joined p m (had band index n s.view m.view w brings) (tell_last locked rest s told) in (
      ap (λ (z : Standing). z.view) (leave_then locked rest s) ∙ (e.0 ∙ ap (putting band n) w),
      subst (λ (v : View). SeesEnd band v 0) w e.1,
    )

put_dropped : {band n : ℕ} {full : Full} {xs : List Step} → Produce band n (Err full) xs → (s : Standing) → BringsUnlocked n s.view → steps_tell xs s
    → ((steps_leave xs s).view ≡ dropping_full n full.seen s.view) × SeesEnd band s.view (full.seen + 1)
put_dropped {band} {n} {full} (Produces {index} {locked} {rest} l p) s brings told =
    let m = steps_leave locked s in let w = lock_leaves l s in
    let e = dropped p m (had band index n s.view m.view w brings) (ap (λ (v : View). v.packets.fresh) w ∙ brings.0) (tell_last locked rest s told) in (
      ap (λ (z : Standing). z.view) (leave_then locked rest s) ∙ (e.0 ∙ ap (dropping_full n full.seen) w),
      subst (λ (v : View). SeesEnd band v (full.seen + 1)) w e.1,
    )

-- and is due to put it
abbrev pub IsAtPut : ℕ → View → Type 0
IsAtPut n v = (p : Packet) × (holds : Bool) × (v.place.position ≡ Put p holds) × BringsUnlocked n v

abbrev stands : Position → View → View
stands p v = record v { place = record v.place { position = p } }

heard_joined : (band n : ℕ) (p : Packet) (holds : Bool) (v : View) → v.place.position ≡ Put p holds → solo (putting band n v) ≡ heard (Join n band) (solo v)
heard_joined band n p holds v here = ap (λ (y : Position). solo (putting band n (stands y v))) here ∙ by holds
  where
    by : (holds : Bool) → solo (putting band n (stands (Put p holds) v)) ≡ heard (Join n band) (solo v)
    by true = refl
    by false = refl

heard_dropped : (n seen : ℕ) (p : Packet) (holds : Bool) (v : View) → v.place.position ≡ Put p holds → solo (settle_view_owed (dropping_full n seen v)) ≡ heard (FullEvent n seen) (solo v)
heard_dropped n seen p holds v here = ap (λ (y : Position). solo (settle_view_owed (dropping_full n seen (stands y v)))) here ∙ by holds
  where
    by : (holds : Bool) → solo (settle_view_owed (dropping_full n seen (stands (Put p holds) v))) ≡ heard (FullEvent n seen) (solo v)
    by true = refl
    by false = refl

pub enqueues : {k : Setup} {n : ℕ} {answer : Sending} {xs : List Step} → PfifoFastEnqueue k n answer xs → (s : Standing) → IsAtPut n s.view → steps_tell xs s
    → Enqueues n (band_in k.infos n) answer s.view (steps_leave xs s).view
enqueues {k} {n} (PutsIn {xs} p) s due told =
    let e = put_joined p s due.3 told in (e.0, e.1, ap solo e.0 ∙ heard_joined (band_in k.infos n) n due.0 due.1 s.view due.2)
enqueues {k} {n} (DropsFull {full} {xs} p) s due told =
    let last = Settle n (fate.Full full.seen) ∷ [] in let e = put_dropped p s due.3 (tell_first xs last s told) in
    let is = ap (λ (z : Standing). z.view) (leave_then xs last s) ∙ ap settle_view_owed e.0 in
    (is, e.1, ap solo is ∙ heard_dropped n full.seen due.0 due.1 s.view due.2)

pub put_comes : {D : Type 0} (k : Setup) (n : ℕ) (answer : Sending) (b a : Cpu D) → IsAtPut n (view b) → MakesStepsOf (PfifoFastEnqueue k n answer) b a → Enqueues n (band_in k.infos n) answer (view b) (view a)
put_comes k n answer b a due made = subst (λ (v : View). Enqueues n (band_in k.infos n) answer (view b) v) (sym made.2.knows) (enqueues made.1 (standing b) due made.2.told)
