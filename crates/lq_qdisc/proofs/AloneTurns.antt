-- The turns of a run, one by one, and its ends.
use Rattle.lq_table.specs.Sees.{Solo, heard}
use Rattle.lq_table.specs.States.{missed_to}
use Rattle.lq_qdisc.specs.Stations.{AreStopValues, IsBetweenOffers, dirty}
use Rattle.lq_qdisc.specs.Alone.{HasAll, IsAtEnd, IsOneSender, RunsAlone, RunsOn, account_in, running, telling_of}
use Rattle.lq_qdisc.proofs.AloneForms.{LaysAlone, SendsAlone, TakesAlone, answering, stopping, through_of}
use Rattle.std.proofs.Common.{◌≡◌, ℕ, zero, suc, ◌<◌, Bool, true, false, not, ◌||◌, ◌∷◌, List, Option, Some, None, IsSome, length, refl, sym, ap, ap₂, subst, ◌∙◌}
use Rattle.std.specs.Option.{option_map, option_map_or}
use Rattle.std.proofs.lemmas.Bool.{true≢false}
use Rattle.lq_account_laws.proofs.Taken.{IsInHand, held_none, in_hand, turn_of}
use Rattle.lq_model.specs.Account.{Account, Event, Back, Send, Stop, after, after_all, is_open}
use Rattle.lq_model.specs.Alone.{RunningStation, answered, hung_up_to, offered, served}
use Rattle.lq_model.specs.Device.{Telling, told_after}
use Rattle.lq_model.specs.Plan.{queue_in}
use Rattle.lq_model.specs.declared.device.Tx.{Tx}
use Rattle.lq_model.specs.declared.device.Tx.TheVariants.{Sent, SentStop, SentHang, Busy}
use Rattle.lq_model.specs.declared.fate.Info.{Info}
use Rattle.lq_qdisc.specs.Direct.{hung_below}
use Rattle.lq_qdisc.specs.declared.answers.Taken.TheVariants as taken
use Rattle.lq_qdisc.specs.declared.answers.Through.{Through}
use Rattle.lq_qdisc.specs.declared.answers.Through.TheVariants as through
use Rattle.lq_qdisc.specs.declared.answers.Why.TheVariants as why
use Rattle.lq_qdisc.proofs.AloneServed.{IsTurned, dirty_laid, dirty_turn, is_turned, offered_on}

-- THE DEVICE ANSWERED

some_told : (told told' : Option Telling) (answer : Tx) → IsSome told → told' ≡ option_map (told_after answer) told
    → (IsSome told') × (telling_of told' ≡ told_after answer (telling_of told))
some_told (Some t) told' answer some e = rw e (refl, refl)
some_told None told' answer some e = absurd (true≢false (sym some))

hung_heard : (start : Account) (queues : ℕ) (past : List Event) → after_all start (hung_below queues past) ≡ hung_up_to queues (after_all start past)
hung_heard start zero past = refl
hung_heard start (suc queue) past = ap (after (Stop queue 2)) (hung_heard start queue past)

-- the account after what follows an answer
account_behind : (start : Account) (answer : Tx) (queue : ℕ) (v new : Solo) → new ≡ answering answer queue (length (account_in start v).stops) new.whole.device v
    → account_in start new ≡ answered answer queue (account_in start v)
account_behind start Sent queue v new e = ap (account_in start) e
account_behind start SentStop queue v new e = ap (account_in start) e
account_behind start SentHang queue v new e = ap (account_in start) e ∙ hung_heard start (length (account_in start v).stops) (Send ∷ v.whole.past)
account_behind start Busy queue v new e = ap (account_in start) e

-- what it leaves of the rest
pub record IsBehind (answer : Tx) (v new : Solo) : Type 0 where
  pub shares : new.shares ≡ v.shares
  pub told : new.told ≡ v.told
  pub raised : new.raised ≡ v.raised
  pub scheduled : new.whole.scheduled ≡ v.whole.scheduled
  pub locked : new.whole.locked ≡ v.whole.locked
  pub draining : new.whole.draining ≡ v.whole.draining
  pub missed : through_of answer ≡ through.Yes → new.whole.missed ≡ v.whole.missed
  pub busy : through_of answer ≡ through.Back why.Busy → new.whole.missed ≡ true

pub is_behind : (answer : Tx) (queue queues : ℕ) (v new : Solo) → new ≡ answering answer queue queues new.whole.device v → IsBehind answer v new
is_behind Sent queue queues v new e = rw e (record { shares = refl; told = refl; raised = refl; scheduled = refl; locked = refl; draining = refl; missed = λ _. refl; busy = λ no_. cc })
is_behind SentStop queue queues v new e = rw e (record { shares = refl; told = refl; raised = refl; scheduled = refl; locked = refl; draining = refl; missed = λ _. refl; busy = λ no_. cc })
is_behind SentHang queue queues v new e = rw e (record { shares = refl; told = refl; raised = refl; scheduled = refl; locked = refl; draining = refl; missed = λ _. refl; busy = λ no_. cc })
is_behind Busy queue queues v new e = rw e (record { shares = refl; told = refl; raised = refl; scheduled = refl; locked = refl; draining = refl; missed = λ no_. cc; busy = λ _. refl })

-- the station of the run of one sender was offered the packet in hand
module _ (start : Account) (queue : ℕ) (answered_ : Through) (v new : Solo) (tells : IsSome v.whole.device.told) (s : SendsAlone start queue answered_ v new) where
  pub sent_tells : IsSome new.whole.device.told
  sent_tells = (some_told v.whole.device.told new.whole.device.told s.answer tells s.told).0

  pub sent_running : (b : Bool) → record (running start new) { clean = b } ≡ record (offered queue (running start v)) { clean = b }
  sent_running b =
      ap₂ {A = Account} {B = Telling} {C = RunningStation} (λ account device. record { account = account; clean = b; device = device })
      (account_behind start s.answer queue v new s.view_is)
      (some_told v.whole.device.told new.whole.device.told s.answer tells s.told).1
      ∙ ap {A = Tx} {B = RunningStation} (λ answer. record { account = answered answer queue (account_in start v); clean = b; device = told_after answer (running start v).device }) s.is

-- ONE TURN

pub same_between : (s t : RunningStation) → dirty s ≡ dirty t → IsBetweenOffers t → IsBetweenOffers s
same_between s t e one =
    let h = subst IsBetweenOffers (sym e) (record { queues = one.queues; known = one.known; hand = one.hand; busies = one.busies }) in
    record { queues = h.queues; known = h.known; hand = h.hand; busies = h.busies }

pub run_begins : (infos : List Info) (start : Account) (v : Solo) → IsOneSender start v → (account_in start v).down ≡ None → RunsOn infos start v v
run_begins infos start v sender active = record { sender = sender; active = active; raised = refl; scheduled = refl; does = refl }

-- a packet was taken
module _ (infos : List Info) (start : Account) (old now mid : Solo) (n : ℕ) (r : RunsOn infos start old now) (d : TakesAlone infos start (taken.Packet n) now mid) where
  tells-mid : IsSome mid.whole.device.told
  tells-mid = subst (λ (v : Solo). IsSome v.whole.device.told) (sym d.1.is) r.sender.tells

  pub turn_may : HasAll mid × IsSome mid.whole.device.told
  turn_may = ((ap (λ (v : Solo). v.shares) d.1.is ∙ r.sender.sole.0, ap (λ (v : Solo). v.told) d.1.is ∙ r.sender.sole.1), tells-mid)

  account-mid : account_in start mid ≡ after d.1.event (account_in start now)
  account-mid = ap (account_in start) d.1.is

  queue-now : option_map_or (queue_in infos) (after d.1.event (account_in start now)).hand 0 ≡ queue_in infos n
  queue-now = ap (λ (o : Option ℕ). option_map_or (queue_in infos) o 0) d.1.hand

  -- and offered
  module _ (new : Solo) (answered_ : Through) (s : SendsAlone start (queue_in infos n) answered_ mid new) where
    opens-now : is_open (after d.1.event (account_in start now)) (queue_in infos n) ≡ true
    opens-now = ap (λ (a : Account). is_open a (queue_in infos n)) (sym account-mid) ∙ s.opens

    behind-it : IsBehind s.answer mid new
    behind-it = is_behind s.answer (queue_in infos n) (length (account_in start mid).stops) mid new s.view_is

    turned : dirty (running start new) ≡ dirty (offered_on (queue_in infos n) d.1.event (running start now))
    turned = sent_running start (queue_in infos n) answered_ mid new tells-mid s false ∙ ap (λ (v : Solo). dirty (offered (queue_in infos n) (running start v))) d.1.is

    one-turn : IsTurned (running start now) (offered_on (queue_in infos n) d.1.event (running start now))
    one-turn = is_turned (running start now) d.1.event (queue_in infos n) r.sender.station d.1.next opens-now

    pub run_turns : RunsOn infos start old new
    run_turns = record {
      sender = record {
        sole = (
          behind-it.shares ∙ ap (λ (v : Solo). v.shares) d.1.is ∙ r.sender.sole.0,
          behind-it.told ∙ ap (λ (v : Solo). v.told) d.1.is ∙ r.sender.sole.1,
        );
        tells = sent_tells start (queue_in infos n) answered_ mid new tells-mid s;
        station = same_between (running start new) (offered_on (queue_in infos n) d.1.event (running start now)) turned one-turn.between;
      };
      active = ap (λ (s : RunningStation). s.account.down) turned ∙ (one-turn.down ∙ r.active);
      raised = behind-it.raised ∙ ap (λ (v : Solo). v.raised) d.1.is ∙ r.raised;
      scheduled = behind-it.scheduled ∙ ap (λ (v : Solo). v.whole.scheduled) d.1.is ∙ r.scheduled;
      does = ap (served infos) turned ∙ (dirty_turn infos (running start now) d.1.event r.sender.station r.active d.0 d.1.next (queue_in infos n) queue-now opens-now ∙ r.does);
    }

-- ENDS

not-clean : (missed draining : Bool) → missed ≡ true → not (missed || draining) ≡ true → ⊥
not-clean true draining e clean = true≢false (sym clean)
not-clean false draining e clean = true≢false (sym e)

missed_ends : (infos : List Info) (start : Account) (v : Solo) → v.whole.missed ≡ true → IsAtEnd infos start v
missed_ends infos start v missed = record {
  empty = λ clean. absurd (not-clean v.whole.missed v.whole.draining missed clean);
  shut = λ clean. absurd (not-clean v.whole.missed v.whole.draining missed clean);
  waits = λ other. absurd (true≢false (sym missed ∙ other));
}

-- other bits
with_bits : (infos : List Info) (start : Account) (old now : Solo) (missed draining : Bool) → RunsOn infos start old now
    → RunsOn infos start old (record now { whole = record now.whole { missed = missed; draining = draining } })
with_bits infos start old now missed draining r = record {
  sender = record {
    sole = r.sender.sole;
    tells = r.sender.tells;
    station = record { queues = r.sender.station.queues; known = r.sender.station.known; hand = r.sender.station.hand; busies = r.sender.station.busies };
  };
  active = r.active;
  raised = r.raised;
  scheduled = r.scheduled;
  does = r.does;
}

pub ends_empty : (infos : List Info) (start : Account) (old now new : Solo) → RunsOn infos start old now → TakesAlone infos start taken.Empty now new → RunsAlone infos start old new
ends_empty infos start old now new r d = subst (RunsAlone infos start old) (sym d.2) (record {
  on = with_bits infos start old now false false r;
  at_end = record { empty = λ _. held_none (account_in start now) d.1; shut = λ _. d.0; waits = λ _ e. absurd (true≢false e) };
})

pub ends_stopped : (infos : List Info) (start : Account) (old now new : Solo) → RunsOn infos start old now → TakesAlone infos start taken.Stopped now new → RunsAlone infos start old new
ends_stopped infos start old now new r d = subst (RunsAlone infos start old) (sym d.1) (record {
  on = with_bits infos start old now false true r;
  at_end = record { empty = λ e. absurd (true≢false (sym e)); shut = λ e. absurd (true≢false (sym e)); waits = λ _ _. d.0 };
})

pub ends_quota : (infos : List Info) (start : Account) (old now new : Solo) → RunsOn infos start old now → new ≡ missed_to true now → RunsAlone infos start old new
ends_quota infos start old now new r e = subst (RunsAlone infos start old) (sym e) (record {
  on = with_bits infos start old now true now.whole.draining r;
  at_end = missed_ends infos start (missed_to true now) refl;
})

module _ (infos : List Info) (start : Account) (old now mid new : Solo) (n : ℕ) (r : RunsOn infos start old now) (d : TakesAlone infos start (taken.Packet n) now mid) where
  pub ends_busy : SendsAlone start (queue_in infos n) (through.Back why.Busy) mid new → RunsAlone infos start old new
  ends_busy s = record {
    on = run_turns infos start old now mid n r d new (through.Back why.Busy) s;
    at_end = missed_ends infos start new ((is_behind s.answer (queue_in infos n) (length (account_in start mid).stops) mid new s.view_is).busy (sym s.through));
  }

  -- the packet was laid aside
  pub ends_laid : LaysAlone start (queue_in infos n) mid new → RunsAlone infos start old new
  ends_laid l = subst (RunsAlone infos start old) (sym (l.1 ∙ ap (λ (v : Solo). missed_to true (heard Back (stopping v))) d.1.is)) (record {
    on = record {
      sender = record {
        sole = r.sender.sole;
        tells = r.sender.tells;
        station = record {
          queues = subst (λ (xs : List ℕ). 0 < length xs) (sym h.stops) r.sender.station.queues;
          known = subst AreStopValues (sym h.stops) r.sender.station.known;
          hand = refl;
          busies = r.sender.station.busies;
        };
      };
      active = h.down ∙ r.active;
      raised = r.raised;
      scheduled = r.scheduled;
      does = dirty_laid infos (running start now) d.1.event r.active d.0 d.1.next n d.1.hand closed ∙ r.does;
    };
    at_end = missed_ends infos start _ refl;
  })
    where
      h : IsInHand (account_in start now) (after d.1.event (account_in start now))
      h = in_hand (turn_of (account_in start now) d.1.event d.1.next)

      closed : is_open (after d.1.event (account_in start now)) (queue_in infos n) ≡ false
      closed = ap (λ (a : Account). is_open a (queue_in infos n)) (sym (ap (account_in start) d.1.is)) ∙ l.0
