-- What a run attempt leaves, and a station between two calls.
use Rattle.lq_table.specs.Sees.{Solo, heard}
use Rattle.lq_table.specs.Locks.{locked_to}
use Rattle.lq_table.specs.Inside.{lowered}
use Rattle.lq_table.specs.States.{clear_sched_alone}
use Rattle.lq_qdisc.specs.Stations.{IsBetweenOffers, dirty, is_waiting, may_take}
use Rattle.lq_qdisc.specs.Alone.{HasAll, IsAlone, IsOneSender, RestsAlone, RunsAlone, account_in, bits_are_clear, running}
use Rattle.lq_qdisc.proofs.AloneForms.{AttemptsAlone, MayRun, ended}
use Rattle.std.proofs.Common.{◌≡◌, ℕ, Bool, true, false, not, ◌&&◌, ◌||◌, [], List, Option, None, IsSome, refl, sym, ap, subst, ◌∙◌}
use Rattle.std.proofs.lemmas.Bool.{true≢false}
use Rattle.lq_model.specs.Account.{Account, Event, after, held}
use Rattle.lq_model.specs.Alone.{RunningStation, gone_through, joined_or_full, served}
use Rattle.lq_model.specs.Plan.{band_in}
use Rattle.lq_model.specs.declared.fate.Info.{Info}
use Rattle.lq_qdisc.proofs.AloneBrought.{queued_active, queued_between, queued_in, same_dirty, served_rests, through_served}

no-event : {X : Type 0} (o : Option X) → o ≡ None → IsSome o → ⊥
no-event o none some = cc

-- A RUN ATTEMPT

same-scheduled : (sched raised missed : Bool) → sched ≡ raised → (sched || missed) ≡ (raised || (missed && not sched))
same-scheduled true true missed e = refl
same-scheduled false false true e = refl
same-scheduled false false false e = refl
same-scheduled true false missed e = cc
same-scheduled false true missed e = cc

missed-raises : (sched raised missed : Bool) → sched ≡ raised → missed ≡ true → (raised || (missed && not sched)) ≡ true
missed-raises true true missed e m = refl
missed-raises false false true e m = refl
missed-raises false false false e m = cc
missed-raises true false missed e m = cc
missed-raises false true missed e m = refl

not-missed : (sched raised missed : Bool) → sched ≡ raised → (raised || (missed && not sched)) ≡ false → missed ≡ false
not-missed sched raised true e none = absurd (true≢false (sym (missed-raises sched raised true e refl) ∙ none))
not-missed sched raised false e none = refl

-- after the end of a run the station rests
pub ended_rests : (infos : List Info) (start : Account) (v : Solo) → v.whole.scheduled ≡ v.raised → (account_in start v).down ≡ None
    → (bits_are_clear v ≡ true → held (account_in start v) ≡ []) → (v.whole.missed ≡ false → bits_are_clear v ≡ false → is_waiting infos (account_in start v) ≡ true)
    → ((v.raised || (v.whole.missed && not v.whole.scheduled)) ≡ true → bits_are_clear v ≡ true → may_take (account_in start v) ≡ true)
    → RestsAlone infos start (ended v)
ended_rests infos start v scheduled active empty waits shut = record {
  unlocked = refl;
  scheduled = same-scheduled v.whole.scheduled v.raised v.whole.missed scheduled;
  missed = missed-raises v.whole.scheduled v.raised v.whole.missed scheduled;
  empty = empty;
  waits = λ low. waits (not-missed v.whole.scheduled v.raised v.whole.missed scheduled low);
  shut = shut;
  off = λ some. absurd (no-event (account_in start v).down active some);
}

pub attempt_done : (infos : List Info) (start : Account) (old mid new : Solo) → MayRun start old → RunsAlone infos start (locked_to true old) mid → new ≡ ended mid → AttemptsAlone infos start old new
attempt_done infos start old mid new ready runs e = subst (AttemptsAlone infos start old) (sym e) (record {
  alone = record {
    sender = record {
      sole = runs.on.sender.sole;
      tells = runs.on.sender.tells;
      station = record { queues = runs.on.sender.station.queues; known = runs.on.sender.station.known; hand = runs.on.sender.station.hand; busies = runs.on.sender.station.busies };
    };
    rests = ended_rests infos start mid (runs.on.scheduled ∙ ready.scheduled ∙ sym runs.on.raised) runs.on.active runs.at_end.empty runs.at_end.waits (λ _. runs.at_end.shut);
  };
  does = same_dirty infos (running start mid) runs.on.active runs.at_end.shut ∙ runs.on.does;
})

pub ready_locked : (start : Account) (old : Solo) → MayRun start old → IsOneSender start (locked_to true old)
ready_locked start old ready = record {
  sole = ready.sender.sole;
  tells = ready.sender.tells;
  station = record { queues = ready.sender.station.queues; known = ready.sender.station.known; hand = ready.sender.station.hand; busies = ready.sender.station.busies };
}

-- THROUGH THE BANDS

-- the packet was put
module _ (infos : List Info) (start : Account) (n : ℕ) (old mid : Solo) (event : Event) (ready : MayRun start old) (e : mid ≡ heard event old)
    (queues_it : after event (account_in start old) ≡ joined_or_full n (band_in infos n) (account_in start old)) where
  running-mid : running start mid ≡ queued_in infos n (running start old)
  running-mid = ap (running start) e ∙ ap {A = Account} {B = RunningStation} (λ account. record (running start old) { account = account }) queues_it

  pub put_ready : MayRun start mid
  put_ready = record {
    sender = record {
      sole = subst HasAll (sym e) ready.sender.sole;
      tells = subst (λ (v : Solo). IsSome v.whole.device.told) (sym e) ready.sender.tells;
      station = subst IsBetweenOffers (sym running-mid) (queued_between infos n (running start old) ready.sender.station);
    };
    active = ap (λ (s : RunningStation). s.account.down) running-mid ∙ queued_active infos n (running start old) ready.sender.station ready.active;
    unlocked = ap (λ (v : Solo). v.whole.locked) e ∙ ready.unlocked;
    scheduled = ap (λ (v : Solo). v.whole.scheduled) e ∙ ready.scheduled ∙ sym (ap (λ (v : Solo). v.raised) e);
  }

  pub put_through : (new : Solo) → AttemptsAlone infos start mid new → IsAlone infos start new × (served infos (running start new) ≡ served infos (gone_through infos n (running start old)))
  put_through new h = (
    h.alone,
    h.does ∙ ap (λ (s : RunningStation). served infos (dirty s)) running-mid
        ∙ sym (through_served infos n (running start old) ready.sender.station ready.active),
  )

-- SOFT INTERRUPTS

-- the mark was taken down and SCHED was cleared
abbrev pub entered : Solo → Solo
entered v = clear_sched_alone (lowered v)

pub entered_ready : (infos : List Info) (start : Account) (v : Solo) → IsAlone infos start v → (account_in start v).down ≡ None → MayRun start (entered v)
entered_ready infos start v h active = record {
  sender = record {
    sole = h.sender.sole;
    tells = h.sender.tells;
    station = record { queues = h.sender.station.queues; known = h.sender.station.known; hand = h.sender.station.hand; busies = h.sender.station.busies };
  };
  active = active;
  unlocked = h.rests.unlocked;
  scheduled = refl;
}

pub entered_serves : (infos : List Info) (start : Account) (v new : Solo) → IsAlone infos start v → v.raised ≡ true → (account_in start v).down ≡ None → AttemptsAlone infos start (entered v) new
    → IsAlone infos start new × (served infos (running start new) ≡ served infos (running start v))
entered_serves infos start v new h raised active t = (t.alone, t.does ∙ sym (same_dirty infos (running start v) active (h.rests.shut raised)))

clean-missed : (missed draining : Bool) → not (missed || draining) ≡ true → missed ≡ true → ⊥
clean-missed true draining clean e = true≢false (sym clean)
clean-missed false draining clean e = true≢false (sym e)

pub entered_off : (infos : List Info) (start : Account) (v : Solo) → IsAlone infos start v → IsSome (account_in start v).down
    → IsAlone infos start (entered v) × (served infos (running start (entered v)) ≡ served infos (running start v))
entered_off infos start v h some = (
  record {
    sender = record {
      sole = h.sender.sole;
      tells = h.sender.tells;
      station = record { queues = h.sender.station.queues; known = h.sender.station.known; hand = h.sender.station.hand; busies = h.sender.station.busies };
    };
    rests = record {
      unlocked = h.rests.unlocked;
      scheduled = refl;
      missed = λ e. absurd (clean-missed v.whole.missed v.whole.draining (h.rests.off some) e);
      empty = h.rests.empty;
      waits = λ _ e. absurd (true≢false (sym (h.rests.off some) ∙ e));
      shut = λ e. absurd (true≢false (sym e));
      off = h.rests.off;
    };
  },
  refl,
)

-- DRAINED

-- a station that rests and isn't raised is as serving would leave it
pub rests_served : (infos : List Info) (start : Account) (v : Solo) → IsAlone infos start v → v.raised ≡ false → served infos (running start v) ≡ running start v
rests_served infos start v h low = served_rests infos (running start v) h.sender.station.hand h.rests.empty (h.rests.waits low)
