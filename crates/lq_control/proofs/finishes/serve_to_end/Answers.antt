use Rattle.std.proofs.Common.{◌≡◌, rules, ℕ, List, false, refl, None, [], ◌∷◌, sym, ap, ◌∙◌, subst}
use Rattle.lq_model.specs.Account.{Account}
use Rattle.lq_model.specs.declared.machine.Position.TheVariants.{Control}
use Rattle.lq_table.specs.Controls.{begin_control_view}
use Rattle.lq_table.specs.Views.{View, FirstPart, Setup, SharePart, first_account}
use Rattle.lq_table.specs.Sees.{view, setup, position, IsElseSame, Solo, account_of, solo}
use Rattle.lq_table.specs.declared.shared.Cpu.{Cpu}
use Rattle.lq_ring.proofs.Seats.{seat_on}
use Rattle.lq_qdisc.specs.Alone.{account_in}
use Rattle.lq_qdisc.specs.Sends.{IsReadyToSend}
use Rattle.lq_qdisc.proofs.AloneSteps.{account_at}
use Rattle.lq_table.specs.Step.{BeginControl, MakesSteps, Standing, Step}
use Rattle.lq_ring.specs.StepLists.{MakesStepsFrom}
use Rattle.lq_ring.proofs.StepsThen.{makes_none}
use Rattle.lq_qdisc.specs.StepLists.{Then}
use Rattle.lq_control.specs.Control.{IsServed}
use Rattle.lq_control.specs.EndSteps.{Look, ServeEach, ServeToEnd, ServedNone}
use Rattle.lq_control.specs.Steps.{Drain, Finding}
use Rattle.lq_control.specs.Ending.{IsEndedAlike}
use Rattle.lq_control.specs.Finish.{IsLook, Shows}
use Rattle.lq_control.specs.declared.finishes.Seen.{Seen}
use Rattle.lq_control.specs.declared.finishes.Seen.TheVariants as seen
use Rattle.lq_control.proofs.EndStepLemmas.{serves_more}
use Rattle.lq_control.proofs.StepLemmas.{and_then, coming, finds}
use Rattle.lq_control.proofs.EndingLemmas.{alike_further, alike_same}
use Rattle.lq_control.proofs.Keeps.{seat_then}
use Rattle.lq_control.proofs.Looks.{IsLooked}
use Rattle.lq_control.proofs.Served.{served_none, served_then}
use Rattle.lq_control.proofs.FinishSteps.{ready_kept, served_begun, served_looked, served_returned, solo_looked}
use Rattle.lq_control.proofs.finishes.serve_to_end.Goals as goal

-- what was served, up to this look
served_to_look : (v0 v1 v2 v3 : View) → IsServed v0 v1 → v2 ≡ begin_control_view v1 → IsLook v2 v3 → IsServed v0 v3
served_to_look v0 v1 v2 v3 served begun look = served_then v0 v1 v3 served (served_then v1 v2 v3 (served_begun v1 v2 begun) (served_looked v2 v3 look))

-- where it stands then
looked_at : {D : Type 0} (a b c : Cpu D) → IsElseSame a b → view b ≡ begin_control_view (view a) → IsLooked b c → IsReadyToSend a → (view a).place.raised ≡ false
    → (position c ≡ Control false) × IsReadyToSend c × ((view c).place.raised ≡ false)
looked_at a b c same e look ready low =
    let ready2 = ready_kept a b same (ap (λ (x : View). x.packets) e) (ap (λ (x : View). x.locks) e) (ap (λ (x : View). x.holder.resizing) e) ready in let f = look.1.1 in (
      ap (λ (x : View). x.place.position) f ∙ ap (λ (x : View). x.place.position) e,
      ready_kept b c look.0 (ap (λ (x : View). x.packets) f) (ap (λ (x : View). x.locks) f) (ap (λ (x : View). x.holder.resizing) f) ready2,
      ap (λ (x : View). x.place.raised) f ∙ (ap (λ (x : View). x.place.raised) e ∙ low),
    )

-- up to this look
ends_at : {D : Type 0} {k : Setup} {found answer : Seen} {a b c d : Cpu D} → found ≡ answer → MakesStepsFrom (ServeEach k) a b → (n : ℕ) × MakesSteps (BeginControl n ∷ []) b c → MakesStepsFrom (λ s. Look k.queues found) c d
    → IsServed (view a) (view d) → MakesStepsFrom (ServeToEnd k answer) a d
ends_at {D} {k} {found} {answer} {a} {b} {c} {d} is serves begin looks served =
    let look : Standing → List Step → Type 0 = λ s. Look k.queues found in
    subst (λ (x : Seen). MakesStepsFrom (ServeToEnd k x) a d) is (coming IsServed (Then (ServeEach k) (Then (Finding BeginControl) look))
    (and_then (ServeEach k) (Then (Finding BeginControl) look) serves (and_then (Finding BeginControl) look (finds BeginControl begin) looks)) served)

drained_low : {D : Type 0} {k : Setup} {b a : Cpu D} → MakesStepsFrom (Drain k) b a → (view a).place.raised ≡ false
drained_low m = ap (λ (v : View). v.place.raised) m.2.knows ∙ m.1.1

pub loop-init : goal.loop-init
loop-init g c = let v = view c.args.cpu.now in record {
  can = (search rules);
  ends = (search rules);
  seat = c.requires.seat;
  same = (refl, refl);
  at = c.requires.at.0.0;
  ready = c.requires.at.0.2;
  low = c.requires.at.1;
  served = served_none v v refl;
  alike = λ h. alike_same c.args.shared.now.infos.now (first_account (setup c.args.shared.now)) (solo v) h;
  on = ([], ServedNone, makes_none c.args.cpu.now);
}

pub irq-requires-clause-seat : goal.irq-requires-clause-seat
irq-requires-clause-seat g c _ _ =
    let i = c.loop.invariant in let b = c.begin_control.ensures in let p = c.look.ensures.same in let e = c.end_control.ensures in
    let share = ap (λ (x : View). x.share) e.makes.1.knows ∙ (ap (λ (x : View). x.share) p.1.1 ∙ ap (λ (x : View). x.share) b.makes.1.knows) in
    seat_on c.args.shared.now c.loop.cpu c.end_control.new.cpu i.seat (e.makes.1.seat.0 ∙ (p.0.0.0 ∙ b.makes.1.seat.0), e.makes.1.seat.1 ∙ (p.0.0.1 ∙ b.makes.1.seat.1)) share

pub irq-requires-clause-ready : goal.irq-requires-clause-ready
irq-requires-clause-ready g c _ _ =
    let i = c.loop.invariant in let b = c.begin_control.ensures in let p = c.look.ensures.same in let e = c.end_control.ensures in
    let ready3 = (looked_at c.loop.cpu c.begin_control.new.cpu c.look.new.cpu (b.makes.1.seat, b.makes.1.carries, b.makes.1.places, b.makes.1.has) b.makes.1.knows p i.ready i.low).1 in
    ready_kept c.look.new.cpu c.end_control.new.cpu (e.makes.1.seat, e.makes.1.carries, e.makes.1.places, e.makes.1.has) (ap (λ (x : View). x.packets) e.makes.1.knows) (ap (λ (x : View). x.locks) e.makes.1.knows) (ap (λ (x : View). x.holder.resizing) e.makes.1.knows) ready3

pub loop-preserved : goal.loop-preserved
loop-preserved g c =
    let i = c.loop.invariant in let b = c.begin_control.ensures in let l = c.look.ensures in let e = c.end_control.ensures in let n = c.irq.ensures in let d = c.drain.ensures in
    let v0 = view c.args.cpu.now in let v1 = view c.loop.cpu in let v2 = view c.begin_control.new.cpu in let v3 = view c.look.new.cpu in let v4 = view c.end_control.new.cpu in let v5 = view c.irq.new.cpu in let v6 = view c.drain.new.cpu in
    let woken : IsServed v4 v5 = record {
      kept = record { share = n.kept.share; turns = n.still.turns; first = ap (λ (x : FirstPart). x.first) n.kept.control; told = n.kept.told };
      control = n.kept.control;
      trail = n.still.trail;
      fates = ([], n.fates);
    } in
    let returned : IsServed v1 v4 = served_then v1 v2 v4 (served_begun v1 v2 b.makes.1.knows) (served_then v2 v3 v4 (served_looked v2 v3 l.same.1) (served_returned v3 v4 e.makes.1.knows)) in
    let more : IsServed v1 v6 = served_then v1 v4 v6 returned (served_then v4 v5 v6 woken d.served) in
    let p = l.same.0 in
    let ids = d.same.0 ∙ (n.kept.seat.0 ∙ (e.makes.1.seat.0 ∙ (p.0.0 ∙ b.makes.1.seat.0))) in let ids1 = d.same.1 ∙ (n.kept.seat.1 ∙ (e.makes.1.seat.1 ∙ (p.0.1 ∙ b.makes.1.seat.1))) in
    let k = setup c.args.shared.now in let infos = c.args.shared.now.infos.now in let start : Account = first_account k in
    let about4 : v4.share.about ≡ k = ap (λ (x : SharePart). x.about) returned.kept.share ∙ i.seat.2 in
    let same4 : solo v4 ≡ solo v1 = ap solo e.makes.1.knows ∙ solo_looked v1 v2 v3 b.makes.1.knows l.same.1 in
    let shows : (account_of v3).down ≡ None = subst (λ (x : Seen). Shows x v3) c.in-Going.is l.shows in
    let active : (account_in start (solo v4)).down ≡ None = ap (λ (a : Account). a.down) (account_at k v4 about4) ∙ (ap (λ (x : View). (account_of x).down) e.makes.1.knows ∙ shows) in record {
      can = (search rules);
      ends = (search rules);
      seat = seat_on c.args.shared.now c.loop.cpu c.drain.new.cpu i.seat (ids, ids1) more.kept.share;
      same = (ids ∙ i.same.0, ids1 ∙ i.same.1);
      at = d.at.0;
      ready = d.at.1;
      low = drained_low d.makes;
      served = served_then v0 v1 v6 i.served more;
      alike = λ h. alike_further infos start (solo v0) (solo v4) (subst (λ (s : Solo). IsEndedAlike infos start (solo v0) s) (sym same4) (i.alike h)) (ap (λ (s : Solo). s.raised) same4 ∙ i.low) (solo v5) (solo v6) active n.alone d.alone;
      on = serves_more k c.irq.result i.on b.makes (subst (λ (x : Seen). MakesStepsFrom (λ s. Look k.queues x) c.begin_control.new.cpu c.look.new.cpu) c.in-Going.is l.makes) e.makes n.makes d.makes;
    }

pub returns-in-Ended : goal.returns-in-Ended
returns-in-Ended g c =
    let i = c.loop.invariant in let b = c.begin_control.ensures in let l = c.look.ensures in let c0 = c.args.cpu.now in let c1 = c.loop.cpu in let c2 = c.begin_control.new.cpu in let c3 = c.look.new.cpu in record {
      same = seat_then c0 c1 c3 i.same (seat_then c1 c2 c3 b.makes.1.seat l.same.0.0);
      at = looked_at c1 c2 c3 (b.makes.1.seat, b.makes.1.carries, b.makes.1.places, b.makes.1.has) b.makes.1.knows l.same i.ready i.low;
      kept = l.kept;
      shows = subst (λ (x : Seen). Shows x (view c3)) c.in-Ended.is l.shows;
      alone = λ h. subst (λ (s : Solo). IsEndedAlike c.args.shared.now.infos.now (first_account (setup c.args.shared.now)) (solo (view c0)) s) (sym (solo_looked (view c1) (view c2) (view c3) b.makes.1.knows l.same.1)) (i.alike h);
      makes = ends_at c.in-Ended.is i.on b.makes l.makes (served_to_look (view c0) (view c1) (view c2) (view c3) i.served b.makes.1.knows l.same.1);
    }

pub returns-in-Hung : goal.returns-in-Hung
returns-in-Hung g c =
    let i = c.loop.invariant in let b = c.begin_control.ensures in let l = c.look.ensures in let c0 = c.args.cpu.now in let c1 = c.loop.cpu in let c2 = c.begin_control.new.cpu in let c3 = c.look.new.cpu in record {
      same = seat_then c0 c1 c3 i.same (seat_then c1 c2 c3 b.makes.1.seat l.same.0.0);
      at = looked_at c1 c2 c3 (b.makes.1.seat, b.makes.1.carries, b.makes.1.places, b.makes.1.has) b.makes.1.knows l.same i.ready i.low;
      kept = l.kept;
      shows = subst (λ (x : Seen). Shows x (view c3)) c.in-Hung.is l.shows;
      alone = λ h. subst (λ (s : Solo). IsEndedAlike c.args.shared.now.infos.now (first_account (setup c.args.shared.now)) (solo (view c0)) s) (sym (solo_looked (view c1) (view c2) (view c3) b.makes.1.knows l.same.1)) (i.alike h);
      makes = ends_at c.in-Hung.is i.on b.makes l.makes (served_to_look (view c0) (view c1) (view c2) (view c3) i.served b.makes.1.knows l.same.1);
    }
