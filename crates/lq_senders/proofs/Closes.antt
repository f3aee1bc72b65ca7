-- Stations are finished, and closed one by one.
use Rattle.std.proofs.Common.{◌≡◌, ℕ, zero, suc, ◌+◌, ◌<◌, List, [], ◌∷◌, ◌++◌, inl, inr, length, Some, refl, sym, ap, ◌∙◌, subst, slice_get, map, filter, arith, length-append}
use Rattle.std.specs.Prelude.{slice_index}
use Rattle.std.proofs.lemmas.Option.{same_Some}
use Rattle.lq_account_laws.proofs.Lists.{get-push-cases}
use Rattle.lq_account_laws.specs.Progress.{start_of}
use Rattle.lq_account_laws.specs.Trail.{IsTrail, HaveCome, down_of}
use Rattle.lq_control.specs.Finish.{AreAllDone}
use Rattle.lq_model.specs.Account.{Account, Event, Join, Full, Refuse, Take, Pick, Direct, Send, Back, Empty, Stop, Wake, Resize, Down, Purge, Swap, Up, after, after_all}
use Rattle.lq_model.specs.Alone.{RunningStation, finished}
use Rattle.lq_model.specs.Plan.{Plan, station_in}
use Rattle.lq_model.specs.Words.{IsWordOf}
use Rattle.lq_model.specs.declared.fate.Fate.{Fate}
use Rattle.lq_model.specs.declared.fate.Info.{Info}
use Rattle.lq_qdisc.specs.Alone.{IsAlone, running}
use Rattle.lq_seat.specs.Ends.{EndsTrail, Finishes, IsClosedAs, IsSoundAtClose, MayFinish}
use Rattle.lq_seat.specs.State.{HasAllOf, HasAlone, SeatState, Setup, TableState, seat_account, first_account, is_heard, latest_unit, setup_of, solo_of, units_of}
use Rattle.lq_senders.specs.Ends.{AllMayClose, ClosedState, FirstClosed, HaveFatesAlone, IsClosedStation, MayCloseAt}
use Rattle.lq_senders.specs.Joins.{IsTakenIn, Joined, JoinedAt, SenderJoined}
use Rattle.lq_senders.specs.Senders.{AllDid, AreRunAlone}
use Rattle.lq_senders.specs.Seats.{KeepsSeat}
use Rattle.lq_senders.specs.Units.{SameDevices, unit_at}
use Rattle.lq_senders.specs.Way.{IsOnWay, down_after_events}
use Rattle.lq_senders.proofs.Seats.{here-kept, made-of, mapped-at}
use Rattle.lq_senders.proofs.Turns.{some-there}

-- BEFORE THE FINISH

pub sole-at : (plan : Plan) (infos : List Info) (station : ℕ) (v : SeatState) → Joined plan infos station 0 v → HasAllOf v
sole-at plan infos station v joined = (let shares = joined.shares in omega arith, joined.told)

taken-all : (plan : Plan) (owner : ℕ) → owner < plan.senders → IsTakenIn plan 0 owner
taken-all plan zero below = (below, inl refl)
taken-all plan (suc owner) below = (below, inr (omega arith))

-- the first sender's seat may bring its station to its end, once all others are joined into it
pub may-finish : (plan : Plan) (infos : List Info) (j : ℕ) (t : TableState) (c : SeatState) → JoinedAt plan infos 0 j t c → MayFinish c
may-finish plan infos j t c at = let made = made-of plan infos j t at.table c at.seat in record {
  first = at.joined.first;
  sole = sole-at plan infos j c at.joined;
  owners = λ owner below. at.joined.owners owner (taken-all plan owner (subst (λ (k : Setup). owner < k.senders) made below));
  wide = at.joined.wide ∙ sym (ap (λ (k : Setup). k.senders) made);
  done = subst (λ (k : Setup). AreAllDone k c.turns) (sym made) (λ owner below. at.joined.done owner (taken-all plan owner below));
}

-- WHAT A FINISH LEAVES

-- the end of a trail
ends-trail : (plan : Plan) (station : ℕ) (old new : SeatState) → IsOnWay plan station (length plan.events) old.trail → EndsTrail old new
    → IsTrail plan station new.trail × (HaveCome plan station (length plan.events) new.trail × (latest_unit station (units_of new.trail) ≡ unit_at plan station (length plan.events)))
ends-trail plan station old new way (inl same) = (
  subst (IsTrail plan station) (sym same) way.planned,
  (subst (HaveCome plan station (length plan.events)) (sym same) way.come, ap (λ past. latest_unit station (units_of past)) same ∙ way.unit),
)
ends-trail plan station old new way (inr is) = (
  subst (IsTrail plan station) (sym is) (way.planned, record { ahead = _; meets_down = _; no_hang = _ }),
  (
    subst (HaveCome plan station (length plan.events)) (sym is) way.come,
    ap (λ past. latest_unit station (units_of past)) is ∙ way.unit,
  ),
)

-- the purge of a hung device activates nothing, and deactivates nothing
ends-down : (plan : Plan) (station : ℕ) (old new : SeatState) → IsOnWay plan station (length plan.events) old.trail → EndsTrail old new → down_of new.trail ≡ down_after_events plan station (length plan.events)
ends-down plan station old new way (inl same) = ap down_of same ∙ way.down
ends-down plan station old new way (inr is) = ap down_of is ∙ way.down

-- looks that found a band empty changed no account
heard-past : (start : Account) (past : List Event) → after_all start (filter is_heard past) ≡ after_all start past
heard-past start [] = refl
heard-past start (Empty band ∷ past) = heard-past start past
heard-past start (Join n band ∷ past) = ap (after (Join n band)) (heard-past start past)
heard-past start (Full n seen ∷ past) = ap (after (Full n seen)) (heard-past start past)
heard-past start (Refuse n event ∷ past) = ap (after (Refuse n event)) (heard-past start past)
heard-past start (Take band ∷ past) = ap (after (Take band)) (heard-past start past)
heard-past start (Pick ∷ past) = ap (after Pick) (heard-past start past)
heard-past start (Direct n ∷ past) = ap (after (Direct n)) (heard-past start past)
heard-past start (Send ∷ past) = ap (after Send) (heard-past start past)
heard-past start (Back ∷ past) = ap (after Back) (heard-past start past)
heard-past start (Stop queue value ∷ past) = ap (after (Stop queue value)) (heard-past start past)
heard-past start (Wake queue ∷ past) = ap (after (Wake queue)) (heard-past start past)
heard-past start (Resize len event ∷ past) = ap (after (Resize len event)) (heard-past start past)
heard-past start (Down event ∷ past) = ap (after (Down event)) (heard-past start past)
heard-past start (Purge cause ∷ past) = ap (after (Purge cause)) (heard-past start past)
heard-past start (Swap unit ∷ past) = ap (after (Swap unit)) (heard-past start past)
heard-past start (Up ∷ past) = ap (after Up) (heard-past start past)

-- finished seats may be closed
pub finished-may-close : (plan : Plan) (infos : List Info) (tables : List TableState) (old new : List SeatState) → SenderJoined plan infos 0 tables old → AllDid Finishes old new → AllMayClose plan infos tables new
finished-may-close plan infos tables old new standing did = record {
  long = did.long ∙ standing.long;
  all = standing.all;
  each = λ j t c at at'.
      let was = some-there old new j c (sym did.long) at' in let before = standing.each j t was.0 at was.1 in let own = did.each j was.0 c was.1 at' in
      let trail = ends-trail plan j was.0 c before.joined.way own.trail in let sole = sole-at plan infos j was.0 before.joined in
      record {
        table = before.table;
        seat = here-kept t was.0 c (subst (KeepsSeat was.0) (sym own.is) refl) before.seat;
        may = record {
          sole = (ap (λ (s : SeatState). s.shares) own.is ∙ sole.0, ap (λ (s : SeatState). s.told) own.is ∙ sole.1);
          first = ap (λ (s : SeatState). s.first) own.is ∙ before.joined.first;
          raised = ap (λ (s : SeatState). s.raised) own.is ∙ before.joined.raised;
          finished = own.ended;
          hung = own.hung before.joined.way.no_hang;
          trail = trail.0;
          come = trail.1.0;
          down = ends-down plan j was.0 c before.joined.way own.trail;
          unit = trail.1.1;
        };
      };
}

pub devices-did : (old new : List SeatState) → AllDid Finishes old new → SameDevices old new
devices-did old new did = record {
  long = did.long;
  each = λ j c c' at at'. let own = did.each j c c' at at' in (ap (λ (s : SeatState). s.origin) own.is, ap (λ (s : SeatState). s.gone) own.is);
}

-- where the seats had the stations of the run of one sender, the fates are those of that run
pub fates-finished : (plan : Plan) (infos : List Info) (tables : List TableState) (old new : List SeatState) (from : List RunningStation) → SenderJoined plan infos 0 tables old → AllDid Finishes old new
    → AreRunAlone plan infos old from → HaveFatesAlone new (map (finished infos) from)
fates-finished plan infos tables old new from standing did runs j c at =
    let was = some-there old new j c (sym did.long) at in let t = some-there tables old j was.0 (sym standing.long) was.1 in
    let own = standing.each j t.0 was.0 t.1 was.1 in let before = runs j was.0 was.1 in (
      finished infos (running (start_of plan j) (solo_of was.0)),
      mapped-at (finished infos) from j _ before.1,
      fates j was.0 c (made-of plan infos j t.0 own.table was.0 own.seat) (did.each j was.0 c was.1 at) before.0,
    )
  where
    fates : (j : ℕ) (d c : SeatState) → d.made ≡ setup_of plan infos j → Finishes d c → IsAlone infos (start_of plan j) (solo_of d)
        → (seat_account c).fates ≡ (finished infos (running (start_of plan j) (solo_of d))).account.fates
    fates j d c made does alone =
        let made' : c.made ≡ setup_of plan infos j = ap (λ (s : SeatState). s.made) does.is ∙ made in
        let had : HasAlone d = subst (λ (k : Setup). IsAlone k.infos (first_account k) (solo_of d)) (sym made) alone in
        let same : (running (start_of plan j) (solo_of c)).account.fates ≡ (finished infos (running (start_of plan j) (solo_of d))).account.fates =
        subst (λ (k : Setup). (running (first_account k) (solo_of c)).account.fates ≡ (finished infos (running (start_of plan j) (solo_of d))).account.fates) made'
        (subst (λ (k : Setup). (running (first_account c.made) (solo_of c)).account.fates ≡ (finished k.infos (running (first_account k) (solo_of d))).account.fates) made (does.alone had)) in
        ap (λ (k : Setup). (after_all (first_account k) c.whole.past).fates) made'
        ∙ (ap (λ (a : Account). a.fates) (sym (heard-past (start_of plan j) c.whole.past)) ∙ same)

-- CLOSED TABLES

pub none-closed : (plan : Plan) (infos : List Info) (seats : List SeatState) → FirstClosed plan infos 0 seats []
none-closed plan infos seats = record { so_many = refl; each = λ j c x at at'. absurd cc }

pub one-closed : (plan : Plan) (infos : List Info) (k : ℕ) (seats : List SeatState) (closed : List ClosedState) (c : SeatState) (x : ClosedState) → slice_get seats k ≡ Some c → IsClosedStation plan infos k c x
    → FirstClosed plan infos k seats closed → FirstClosed plan infos (k + 1) seats (closed ++ x ∷ [])
one-closed plan infos k seats closed c x at-c is first = record {
  so_many = let so_many = first.so_many in omega (arith, length-append closed (x ∷ []));
  each = λ j d y at at'. elim (get-push-cases closed x y j at') [
    | inl old ↦ first.each j d y at old
    | inr new ↦
        (let here : j ≡ k = new.0 ∙ first.so_many in
        let d-is : c ≡ d = same_Some c d (sym at-c ∙ (ap (slice_get seats) (sym here) ∙ at)) in
        subst (λ (i : ℕ). IsClosedStation plan infos i d y) (sym here) (subst (λ (z : SeatState). IsClosedStation plan infos k z y) d-is (subst (λ (z : ClosedState). IsClosedStation plan infos k c z) new.1 is)))
  ];
}

pub closes-as : (plan : Plan) (infos : List Info) (k : ℕ) (t : TableState) (c : SeatState) (x : ClosedState) → MayCloseAt plan infos k t c
    → IsClosedAs c x.ended.number x.ended.packets x.ended.words x.home → x.ended.plan ≡ t.plan → IsSoundAtClose c.made.infos c.made.station (first_account c.made) c
    → IsClosedStation plan infos k c x
closes-as plan infos k t c x may closed plan_is sound = let made = made-of plan infos k t may.table c may.seat in record {
  number_is = closed.number_is ∙ ap (λ (k : Setup). k.station) made;
  plan_is = may.table.plan_is ∙ ap Some (sym plan_is);
  packets_are = closed.packets_are ∙ ap (λ (k : Setup). length k.infos) made;
  fates = subst (λ (k : Setup). (n : ℕ) (f : Fate) → n < length k.infos → station_in k.infos n ≡ k.station → (seat_account c).fates n ≡ Some f → IsWordOf f (slice_index x.ended.words n)) made closed.fates;
  at_home = (closed.at_home.0, closed.at_home.1, closed.at_home.2);
  ends = record {
    about = made;
    sound = subst (λ (k : Setup). IsSoundAtClose k.infos k.station (first_account k) c) made sound;
    finished = may.may.finished;
    hung = sound.hung may.may.hung;
    trail = may.may.trail;
    come = may.may.come;
    down = may.may.down;
    unit = may.may.unit;
  };
}
