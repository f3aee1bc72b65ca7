-- What the calls come to, as relations of views alone.
use Rattle.std.proofs.Common.{◌≡◌, ◌||◌, ◌&&◌, not, eq-eqb, ◌≢◌, ℕ, suc, ◌+◌, Bool, true, false, if◌then◌else◌, List, [], ◌∷◌, ◌++◌, ◌⊎◌, Some, None, ◌-◌, ◌/◌, ◌*◌, refl, sym, ap, ◌∙◌, subst, inl, inr, arith}
use Rattle.std.proofs.lemmas.Bool.{true≢false}
use Rattle.lq_model.specs.Account.{Direct}
use Rattle.lq_model.specs.declared.fate.Fate.TheVariants as fate
use Rattle.lq_model.specs.Plan.{band_in, queue_in}
use Rattle.lq_table.specs.Views.{View, Setup, Known}
use Rattle.lq_table.specs.Inside.{enter_view}
use Rattle.lq_table.specs.Fates.{settle_view_owed}
use Rattle.lq_table.specs.Moves.{is_set, pass_view}
use Rattle.lq_table.specs.Sees.{solo, heard}
use Rattle.lq_table.specs.States.{check_view_refused, clear_sched_alone, load_state_view, recheck_view_direct, some_bit}
use Rattle.lq_table.specs.Step.{Standing, Step, step_leaves, steps_leave, steps_tell}
use Rattle.lq_table.specs.Step.{Check, ClearSched, Enter, Leave, LoadState, LookStop, Recheck, SetSched, Settle, Wake}
use Rattle.lq_ring.proofs.StepsThen.{leave_then}
use Rattle.lq_table.proofs.StepsThen.{tell_first, tell_last}
use Rattle.lq_qdisc.proofs.ListLemmas.{left_then, tells_first, tells_rest, told_first, told_then}
use Rattle.lq_model.specs.declared.machine.Attempt.TheVariants.{Direct as ToPass}
use Rattle.lq_model.specs.declared.machine.Packet.{Packet}
use Rattle.lq_model.specs.declared.machine.Position.{Position}
use Rattle.lq_model.specs.declared.machine.Position.TheVariants.{Check as AtCheck, Gate, Put, Recheck as AtRecheck, Try1}
use Rattle.lq_model.specs.declared.machine.Answer.TheVariants.{Plain}
use Rattle.lq_model.specs.Steps.{step_at}
use Rattle.lq_table.specs.Moves.{seen_by}
use Rattle.lq_table.specs.States.{seen_state}
use Rattle.lq_qdisc.proofs.LockLemmas.{brings_still, gets_lock, got_at, missed_at, misses, releases}
use Rattle.lq_qdisc.proofs.PutLemmas.{BringsUnlocked, IsAtPut, enqueues}
use Rattle.lq_qdisc.proofs.SendLemmas.{checked_leads}
use Rattle.lq_qdisc.proofs.ViewRelations.{Attempts, Enqueues, FollowsDirect, Goes, GoesPast, GoesThrough, GoesThroughHeld, Hands, Interrupts, IsDue, IsLockReleased, IsRefused, LastTurn, Runs, RunsToEnd, Sends, TriesToPass, WakesAt, WakesFirst}
use Rattle.lq_qdisc.specs.Direct.{Accepts, Directs}
use Rattle.lq_qdisc.specs.StepLists.{BeginSoftirq, BypassLocked, EnqueueAndRun, EnqueueAndRunLocked, HandsOver, LeadsBy, NetTxAction, QdiscRun, Restart, QdiscRunLocked, RunAfterBypass, RunToEnd, SendEach, TryBypass, WakeEach, WakeQueue, XmitBypass, XmitSkb}
use Rattle.lq_qdisc.specs.StepLists.{EndsAfter, EndsAtOnce, EndsEarly, IsActive, IsBack, IsDown, IsDueNow, IsLaid, IsNotDue, IsSent, LooksAgain, MayNotPass, MayPass, NothingHeld, Passes, QueueStopped, ReachesQuota, SentMore, SentNone, ServesAfter, Waits}
use Rattle.lq_qdisc.specs.StepLists.{IsNotStopped, IsOpenBefore, IsOpened, LooksAtNext, LooksAtNone}
use Rattle.lq_qdisc.specs.Sends.{WakesBelow}
use Rattle.lq_qdisc.specs.declared.answers.Ran.{Ran}
use Rattle.lq_qdisc.specs.declared.answers.RunEnd.{RunEnd}
use Rattle.lq_qdisc.specs.declared.answers.RunEnd.TheVariants as end
use Rattle.lq_qdisc.specs.declared.answers.Sending.{Sending}
use Rattle.lq_qdisc.specs.declared.answers.Sending.TheVariants as sending
use Rattle.lq_qdisc.specs.declared.answers.Through.{Through}
use Rattle.lq_qdisc.specs.declared.answers.Through.TheVariants as through

-- what a seat knows after a list of steps
abbrev seen : List Step → Standing → View
seen xs s = (steps_leave xs s).view

hands_view : (k : Setup) (n : ℕ) (t : Through) (s : Standing) (xs : List Step) → HandsOver k n t s xs → Hands (Directs t) k.infos s.view (seen xs s)
hands_view k n t s xs h = record {
  packet = n;
  between = seen h.xs s;
  dequeued = h.first.came.0;
  one = h.first.came.1;
  same = h.first.came.2;
  is = subst (λ (z : Standing). Directs t n (queue_in k.infos n) (seen h.xs s) z.view) (sym (left_then h)) h.next.came.0;
  share = ap (λ (z : Standing). z.view.share) (left_then h) ∙ (h.next.came.1 ∙ h.first.came.2);
}

sent_view : {k : Setup} {s : Standing} {xs : List Step} → Restart k s None xs → Hands Accepts k.infos s.view (seen xs s)
sent_view {k} {s} {xs} (IsSent {n = n} h) = hands_view k n through.Yes s xs h

ends_view : {k : Setup} {s : Standing} {e : RunEnd} {xs : List Step} → Restart k s (Some e) xs → LastTurn e k.infos s.view (seen xs s)
ends_view {k} {s} {e} {xs} (IsLaid {n = n} h) = inr (hands_view k n _ s xs h)
ends_view {k} {s} {e} {xs} (IsBack {n = n} h) = hands_view k n _ s xs h
ends_view (NothingHeld d) = (d.came.0, d.came.1)
ends_view (QueueStopped d) = inl (d.came.0, d.came.1)

ends_share : {k : Setup} {s : Standing} {e : RunEnd} {xs : List Step} → Restart k s (Some e) xs → (seen xs s).share ≡ s.view.share
ends_share {k} {s} {e} {xs} (IsLaid {n = n} h) = (hands_view k n _ s xs h).share
ends_share {k} {s} {e} {xs} (IsBack {n = n} h) = (hands_view k n _ s xs h).share
ends_share (NothingHeld d) = d.came.2
ends_share (QueueStopped d) = d.came.2

not_quota : {k : Setup} {s : Standing} {e : RunEnd} {xs : List Step} → Restart k s (Some e) xs → e ≢ end.Quota
not_quota (IsLaid h) is = cc
not_quota (IsBack h) is = cc
not_quota (NothingHeld d) is = cc
not_quota (QueueStopped d) is = cc

sends_view : {k : Setup} {s : Standing} {sent : ℕ} {xs : List Step} → SendEach k s sent xs → Sends sent k.infos s.view (seen xs s)
sends_view SentNone = refl
sends_view {k} {s} (SentMore {sent = sent} {xs = xs} {ys = ys} h last) =
    let one : suc sent ≡ sent + 1 = omega arith in
    subst (λ (n : ℕ). Sends n k.infos s.view (seen (xs ++ ys) s)) one (seen xs s, sends_view h, subst (λ (z : Standing). Hands Accepts k.infos (seen xs s) z.view) (sym (leave_then xs ys s)) (sent_view last))

sends_share : {k : Setup} {s : Standing} {sent : ℕ} {xs : List Step} → SendEach k s sent xs → (seen xs s).share ≡ s.view.share
sends_share SentNone = refl
sends_share {k} {s} (SentMore {xs = xs} {ys = ys} h last) = ap (λ (z : Standing). z.view.share) (leave_then xs ys s) ∙ ((sent_view last).share ∙ sends_share h)

pub runs_view : {k : Setup} {s : Standing} {ran : Ran} {xs : List Step} → QdiscRunLocked k s ran xs → Runs k.infos ran s.view (seen xs s)
runs_view {k} {s} (EndsEarly {sent = sent} {end_ = end_} {xs = xs} {ys = ys} less h last) = record {
  last = seen xs s;
  sent = sends_view h;
  share = sends_share h;
  ends = subst (λ (z : Standing). LastTurn end_ k.infos (seen xs s) z.view) (sym (leave_then xs ys s)) (ends_view last);
  within = omega (arith, less);
  quota = (λ e. absurd (not_quota last e), λ e. absurd (omega (arith, less, e)));
}
runs_view {k} {s} (ReachesQuota {xs = xs} was h passes tells) =
    record { last = seen xs s; sent = sends_view h; share = sends_share h; ends = (passes, tells); within = omega arith; quota = (λ _. refl, λ _. refl) }

run_share : {k : Setup} {s : Standing} {ran : Ran} {xs : List Step} → QdiscRunLocked k s ran xs → (seen xs s).share ≡ s.view.share
run_share {k} {s} (EndsEarly {xs = xs} {ys = ys} less h last) = ap (λ (z : Standing). z.view.share) (leave_then xs ys s) ∙ (ends_share last ∙ sends_share h)
run_share (ReachesQuota was h passes tells) = ap (λ (v : View). v.share) passes ∙ sends_share h

to_end_view : (k : Setup) (s : Standing) (xs : List Step) → RunToEnd k s xs → steps_tell xs s → RunsToEnd k.infos s.view (seen xs s)
to_end_view k s xs (ran, t) told = record {
  ran = ran;
  last = seen t.xs s;
  runs = runs_view t.first;
  share = run_share t.first;
  ended = subst (λ (z : Standing). IsLockReleased (seen t.xs s) z.view) (sym (left_then t)) (releases t.next (steps_leave t.xs s) (told_then t told));
}

attempts_view : (k : Setup) (s : Standing) (xs : List Step) → QdiscRun k s xs → steps_tell xs s → Attempts k.infos s.view (seen xs s)
attempts_view k s xs (inl m) told = inl (misses m s told)
attempts_view k s xs (inr t) told =
    inr (seen t.xs s, gets_lock t.first s (told_first t told), subst (λ (z : Standing). RunsToEnd k.infos (seen t.xs s) z.view) (sym (left_then t)) (to_end_view k (steps_leave t.xs s) t.ys t.next (told_then t told)))

through_view : (k : Setup) (n : ℕ) (answer : Sending) (s : Standing) (xs : List Step) → EnqueueAndRun k n answer s xs → IsAtPut n s.view → steps_tell xs s → GoesThrough k.infos n answer s.view (seen xs s)
through_view k n answer s xs t due told = record {
  put = seen t.xs s;
  enqueued = enqueues t.first s due (told_first t told);
  attempted = subst (λ (z : Standing). Attempts k.infos (seen t.xs s) z.view) (sym (left_then t)) (attempts_view k (steps_leave t.xs s) t.ys t.next (told_then t told));
}

follows_view : {k : Setup} {s : Standing} {t : Through} {xs : List Step} → RunAfterBypass k s t xs → steps_tell xs s → FollowsDirect t k.infos s.view (seen xs s)
follows_view {k} {s} (ServesAfter {state = state} {xs = xs} set h) told =
    let loaded = tells_first (LoadState state) xs s told in (state, loaded.1, loaded.0, inl (set, to_end_view k (step_leaves (LoadState state) s) xs h (tells_rest (LoadState state) xs s told)))
follows_view {k} {s} (EndsAfter {state = state} {xs = xs} clear h) told = let loaded = tells_first (LoadState state) xs s told in (state, loaded.1, loaded.0, inr (clear, releases h (step_leaves (LoadState state) s) (tells_rest (LoadState state) xs s told)))
follows_view {k} {s} (EndsAtOnce h) told = releases h s told

-- after the load under the run lock
module _ (k : Setup) (n state : ℕ) (s : Standing) (xs : List Step) where
  abbrev after : Standing
  after = step_leaves (Recheck n state) s

  seen_as : (b : Bool) → some_bit state ≡ b → after.view ≡ (if b then load_state_view state s.view else recheck_view_direct n state s.view)
  seen_as b is = ap (λ (c : Bool). if c then load_state_view state s.view else recheck_view_direct n state s.view) is

  held_at : (p : Packet) → some_bit state ≡ true → s.view.place.position ≡ AtRecheck p → after.view.place.position ≡ Put p true
  held_at p set here =
      ap (λ (v : View). v.place.position) (seen_as true set)
      ∙ (ap (λ (y : Position). (step_at y Plain (seen_state (seen_by s.view) s.view.share.about.bypass state) s.view.place).seat.position) here
      ∙ ap (λ (c : Bool). if c then Put p true else Gate p true) set)

  held_view : (answer : Sending) (p : Packet) → some_bit state ≡ true → EnqueueAndRunLocked k n answer after xs → s.view.place.position ≡ AtRecheck p → BringsUnlocked n s.view
      → steps_tell (Recheck n state ∷ xs) s → GoesThroughHeld k.infos n answer s.view (seen xs after)
  held_view answer p set t here brings told_ = let told = tells_rest (Recheck n state) xs s told_ in record {
    state = state;
    waits = set;
    sees = (tells_first (Recheck n state) xs s told_).1;
    put = seen t.xs after;
    enqueued = subst (λ (v : View). Enqueues n (band_in k.infos n) answer v (seen t.xs after)) (seen_as true set)
        (enqueues t.first after (p, true, held_at p set here, subst (λ (v : View). BringsUnlocked n v) (sym (seen_as true set)) brings) (told_first t told));
    served = subst (λ (z : Standing). RunsToEnd k.infos (seen t.xs after) z.view) (sym (left_then t)) (to_end_view k (steps_leave t.xs after) t.ys t.next (told_then t told));
  }

  past_view : some_bit state ≡ false → XmitBypass k n after xs → steps_tell (Recheck n state ∷ xs) s → GoesPast k.infos n s.view (seen xs after)
  past_view clear (through, t) told = let loaded = tells_first (Recheck n state) xs s told in record {
    state = state;
    clear = clear;
    sees = loaded.1;
    step = ap solo (sym (seen_as false clear)) ∙ (loaded.0 ∙ ap (λ (b : Bool). if b then solo s.view else heard (Direct n) (solo s.view)) clear);
    handed = through;
    after = seen t.xs after;
    direct = subst (λ (v : View). Directs through n (queue_in k.infos n) v (seen t.xs after)) (seen_as false clear) t.first.came;
    follows = subst (λ (z : Standing). FollowsDirect through k.infos (seen t.xs after) z.view) (sym (left_then t)) (follows_view t.next (told_then t (tells_rest (Recheck n state) xs s told)));
  }

locked_view : {k : Setup} {n : ℕ} {s : Standing} {answer : Sending} {xs : List Step} (p : Packet) → BypassLocked k n s answer xs → s.view.place.position ≡ AtRecheck p → BringsUnlocked n s.view → steps_tell xs s
    → GoesThroughHeld k.infos n answer s.view (seen xs s) ⊎ ((answer ≡ sending.Direct) × GoesPast k.infos n s.view (seen xs s))
locked_view {k} {n} {s} {answer} p (Waits {state = state} {xs = xs} set t) here brings told = inl (held_view k n state s xs answer p set t here brings told)
locked_view {k} {n} {s} p (Passes {state = state} {xs = xs} clear t) here brings told = inr (refl, past_view k n state s xs clear t told)

tries_view : (k : Setup) (n : ℕ) (answer : Sending) (s : Standing) (xs : List Step) (p : Packet) → TryBypass k n answer s xs → s.view.place.position ≡ Try1 (ToPass p) → BringsUnlocked n s.view → steps_tell xs s
    → TriesToPass k.infos n answer s.view (seen xs s)
tries_view k n answer s xs p (inl t) here brings told =
    let first = told_first t told in let due : IsAtPut n (seen t.xs s) = (p, false, missed_at p t.first s first here, brings_still t.first s first brings) in
    inl (seen t.xs s, misses t.first s first, subst (λ (z : Standing). GoesThrough k.infos n answer (seen t.xs s) z.view) (sym (left_then t)) (through_view k n answer (steps_leave t.xs s) t.ys t.next due (told_then t told)))
tries_view k n answer s xs p (inr t) here brings told = let first = told_first t told in inr (
  seen t.xs s,
  gets_lock t.first s first,
  subst (λ (z : Standing). GoesThroughHeld k.infos n answer (seen t.xs s) z.view ⊎ ((answer ≡ sending.Direct) × GoesPast k.infos n (seen t.xs s) z.view)) (sym (left_then t))
      (locked_view p t.next (got_at p t.first s first here) (brings_still t.first s first brings) (told_then t told)),
)

-- after the first load
module _ (k : Setup) (n state : ℕ) (s : Standing) where
  active_as : is_set 2 state ≡ false → (step_leaves (Check n state) s).view ≡ load_state_view state s.view
  active_as off = ap (λ (b : Bool). if b then check_view_refused n (state / 256 - 1) state s.view else load_state_view state s.view) off

pub goes_view : {k : Setup} {n : ℕ} {s : Standing} {answer : Sending} {xs : List Step} (p : Packet) → XmitSkb k n s answer xs → s.view.place.position ≡ AtCheck p → BringsUnlocked n s.view
    → s.view.share.about.bypass ≡ k.bypass → steps_tell xs s → Goes k.infos k.bypass n answer s.view (seen xs s)
goes_view {k} {n} {s} p (IsDown {state = state} on) here brings may_is told =
    let event = state / 256 - 1 in let loaded = tells_first (Check n state) (Settle n (fate.Refused event) ∷ []) s told in let h = loaded.0 on in
    let same : h.0 ≡ event = h.5 in
    let r : IsRefused n event state s.view (seen (Check n state ∷ Settle n (fate.Refused event) ∷ []) s) = (
      on,
      (h.1, h.2, h.4 ∙ ap (λ (e : ℕ). h.1 + 256 * (e + 1)) same),
      ap (λ (b : Bool). settle_view_owed (if b then check_view_refused n event state s.view else load_state_view state s.view)) on,
    ) in record {
      state = state;
      sees = loaded.2;
      first = loaded.3;
      refused = λ _. (event, refl, r);
      through = λ off. absurd (true≢false (sym on ∙ off));
      past = λ off. absurd (true≢false (sym on ∙ off));
    }
goes_view {k} {n} {s} {answer} p (MayPass {state = state} {xs = xs} off may t) here brings may_is told = let loaded = tells_first (Check n state) xs s told in let m = step_leaves (Check n state) s in let e = active_as k n state s off in record {
  state = state;
  sees = loaded.2;
  first = loaded.3;
  refused = λ on. absurd (true≢false (sym on ∙ off));
  through = λ _ not_. absurd (true≢false (sym may ∙ not_));
  past = λ _ _. subst (λ (v : View). TriesToPass k.infos n answer v (seen xs m)) e
      (tries_view k n answer m xs p t (checked_leads p state true s.view m.view here off (ap (λ (b : Bool). b && not (some_bit state)) may_is ∙ may) e) (subst (λ (v : View). BringsUnlocked n v) (sym e) brings) (tells_rest (Check n state) xs s told));
}
goes_view {k} {n} {s} {answer} p (MayNotPass {state = state} {xs = xs} off may_not t) here brings may_is told = let loaded = tells_first (Check n state) xs s told in let m = step_leaves (Check n state) s in let e = active_as k n state s off in record {
  state = state;
  sees = loaded.2;
  first = loaded.3;
  refused = λ on. absurd (true≢false (sym on ∙ off));
  through = λ _ _. subst (λ (v : View). GoesThrough k.infos n answer v (seen xs m)) e
      (through_view k n answer m xs t (p, false, checked_leads p state false s.view m.view here off (ap (λ (b : Bool). b && not (some_bit state)) may_is ∙ may_not) e, subst (λ (v : View). BringsUnlocked n v) (sym e) brings) (tells_rest (Check n state) xs s told));
  past = λ _ may. absurd (true≢false (sym may ∙ may_not));
}

-- SCHED was cleared
pub due_view : {due : Bool} {xs : List Step} (s : Standing) → BeginSoftirq due xs → steps_tell xs s → IsDue due s.view (seen xs s)
due_view s (IsActive {first = first} off) told =
    let rest = ClearSched ∷ [] in let loaded = tells_first (LoadState first) rest s told in let cleared = tells_first ClearSched [] (step_leaves (LoadState first) s) (tells_rest (LoadState first) rest s told) in record {
      first = first;
      sees = loaded.1;
      step = cleared ∙ ap clear_sched_alone loaded.0;
      active = λ _. (refl, refl);
      deactivated = λ on. absurd (true≢false (sym on ∙ off));
    }
due_view s (LooksAgain {first = first} {second = second} on) told =
    let rest = ClearSched ∷ LoadState second ∷ [] in let m = step_leaves (LoadState first) s in let after_first = tells_rest (LoadState first) rest s told in
    let loaded = tells_first (LoadState first) rest s told in let cleared = tells_first ClearSched (LoadState second ∷ []) m after_first in
    let again = tells_first (LoadState second) [] (step_leaves ClearSched m) (tells_rest ClearSched (LoadState second ∷ []) m after_first) in let step_ = cleared ∙ ap clear_sched_alone loaded.0 in record {
      first = first;
      sees = loaded.1;
      step = step_;
      active = λ off. absurd (true≢false (sym on ∙ off));
      deactivated = λ _. (second, refl, refl, again.0 ∙ step_, λ sole. (again.1 sole).down);
    }

left_call : {k : Setup} {s : Standing} {xs : List Step} → NetTxAction k s xs → steps_tell xs s
    → (before : View) × Interrupts k.infos (enter_view s.view) before × (seen xs s ≡ pass_view before) × (solo (seen xs s) ≡ solo before)
left_call {k} {s} (IsDueNow {xs = xs} t) told =
    let m = step_leaves Enter s in let ended = leave_then xs (Leave ∷ []) m in let last = tells_first Leave [] (steps_leave xs m) (tell_last xs (Leave ∷ []) m (tells_rest Enter (xs ++ Leave ∷ []) s told)) in (
      seen xs m,
      record {
        due = true;
        cleared = seen t.xs m;
        begins = due_view m t.first (told_first t (tell_first xs (Leave ∷ []) m (tells_rest Enter (xs ++ Leave ∷ []) s told)));
        serves = λ _. subst (λ (z : Standing). Attempts k.infos (seen t.xs m) z.view) (sym (left_then t)) (attempts_view k (steps_leave t.xs m) t.ys t.next (told_then t (tell_first xs (Leave ∷ []) m (tells_rest Enter (xs ++ Leave ∷ []) s told))));
        leaves = λ off. absurd (true≢false off);
      },
      ap (λ (z : Standing). z.view) ended,
      ap (λ (z : Standing). solo z.view) ended ∙ last,
    )
left_call {k} {s} (IsNotDue {xs = xs} d) told =
    let m = step_leaves Enter s in let ended = leave_then xs (Leave ∷ []) m in let last = tells_first Leave [] (steps_leave xs m) (tell_last xs (Leave ∷ []) m (tells_rest Enter (xs ++ Leave ∷ []) s told)) in (
      seen xs m,
      record { due = false; cleared = seen xs m; begins = due_view m d (tell_first xs (Leave ∷ []) m (tells_rest Enter (xs ++ Leave ∷ []) s told)); serves = λ on. absurd (true≢false (sym on)); leaves = λ _. refl },
      ap (λ (z : Standing). z.view) ended,
      ap (λ (z : Standing). solo z.view) ended ∙ last,
    )

pub interrupts_view : (k : Setup) (old new : Known) → LeadsBy (NetTxAction k) old new → (before : View) × Interrupts k.infos (enter_view old.view) before × (new.view ≡ pass_view before) × (solo new.view ≡ solo before)
interrupts_view k old new (s, xs, such, v, was, w, is, told) =
    let c = left_call such told in (c.0, subst (λ (x : View). Interrupts k.infos (enter_view x) c.0) v c.1, w ∙ c.2, ap solo w ∙ c.3)

-- a queue was looked at
pub wakes_view : {opened : Bool} {xs : List Step} (queue : ℕ) (s : Standing) → WakeQueue queue opened xs → steps_tell xs s → WakesAt queue opened s.view (seen xs s)
wakes_view queue s (IsNotStopped {found = found} other) told = (refl, λ sole z. other (tells_first (LookStop queue found) [] s told sole ∙ z))
wakes_view queue s IsOpenBefore told =
    let m = step_leaves (LookStop queue 1) s in let lost = tells_first (Wake queue false) [] m (tells_rest (LookStop queue 1) (Wake queue false ∷ []) s told) in
    (refl, λ sole z. absurd (true≢false (sym (lost sole ∙ eq-eqb _ _ z))))
wakes_view queue s (IsOpened {was = was}) told =
    let rest = Wake queue true ∷ SetSched was ∷ [] in let m = step_leaves (LookStop queue 1) s in let woken = tells_rest (LookStop queue 1) rest s told in
    let set = tells_first (SetSched was) [] (step_leaves (Wake queue true) m) (tells_rest (Wake queue true) (SetSched was ∷ []) m woken) in
    (was, refl, set.0, set.1, λ sole. sym (tells_first (LookStop queue 1) rest s told sole))

each_view : {opened : Bool} {queues : ℕ} {xs : List Step} (s : Standing) → WakeEach queues opened xs → steps_tell xs s → WakesFirst queues opened s.view (seen xs s)
each_view s LooksAtNone told = (refl, refl)
each_view s (LooksAtNext {queue = queue} {before = before} {here = here} {xs = xs} {ys = ys} h w) told =
    let one : suc queue ≡ queue + 1 = omega arith in
    subst (λ (n : ℕ). WakesFirst n (before || here) s.view (seen (xs ++ ys) s)) one (
      seen xs s,
      before,
      here,
      each_view s h (tell_first xs ys s told),
      subst (λ (z : Standing). WakesAt queue here (seen xs s) z.view) (sym (leave_then xs ys s)) (wakes_view queue (steps_leave xs s) w (tell_last xs ys s told)),
      refl,
    )

pub below_view : (k : Setup) (queues : ℕ) (opened : Bool) (old new : Known) → WakesBelow k queues opened old new → WakesFirst queues opened old.view new.view
below_view k queues opened old new (s, xs, such, v, was, w, is, told) =
    subst (λ (x : View). WakesFirst queues opened x new.view) v (subst (λ (x : View). WakesFirst queues opened s.view x) (sym w) (each_view s such told))
