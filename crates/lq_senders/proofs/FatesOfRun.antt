-- The fates that the finished stations leave.
use Rattle.std.proofs.Common.{◌≡◌, ℕ, ◌<◌, ◌==◌, nat_lt, true, List, length, refl, ap, arith, Option, Some, None, sym, ◌∙◌, subst, map, All}
use Rattle.std.proofs.lemmas.Bool.{and_parts, ltb-true, eqb-true}
use Rattle.std.proofs.lemmas.List.Elements.{All-weaker}
use Rattle.std.proofs.lemmas.Option.{same_Some, slice_get_within, slice_get-map, get_or_from_slice_get}
use Rattle.std.specs.Prelude.{IsSome, slice_get, option_map}
use Rattle.lq_account_laws.proofs.Complete.{complete}
use Rattle.lq_account_laws.proofs.Law.{law_of_accounts}
use Rattle.lq_account_laws.proofs.Meets.{all-meet, meets-at}
use Rattle.lq_account_laws.proofs.Settle.{accounts_are_in_order, accounts_settle, sent_list_of}
use Rattle.lq_account_laws.proofs.Trails.{have-all-come, no-swap-after-hang}
use Rattle.lq_account_laws.specs.Accounts.{AreSettledStations, IsClosed}
use Rattle.lq_account_laws.specs.Progress.{start_of}
use Rattle.lq_account_laws.specs.Trail.{trail_of, IsTrail, HaveCome}
use Rattle.lq_model.proofs.FirstNumbers.{list_for_each}
use Rattle.lq_fates.proofs.SentLemmas.{count_is, sent_is}
use Rattle.lq_model.specs.Account.{Account, Event, after_all, held}
use Rattle.lq_model.specs.Alone.{alone, alone_at, after_run, fate_in, new_stations, run_fates}
use Rattle.lq_model.specs.Device.{DeviceState, Telling, told_params}
use Rattle.lq_model.specs.Plan.{Plan, queues_at, station_in, unit_count}
use Rattle.lq_model.specs.Sent.{sent_of}
use Rattle.lq_model.specs.Settled.{IsSettled, IsSentList, IsUnitOf, HangsAfter, HangsAsTold, IsConfiguredWith}
use Rattle.lq_model.specs.declared.device.Params.{Params}
use Rattle.lq_model.specs.declared.fate.Cause.TheVariants.{Hung}
use Rattle.lq_model.specs.declared.fate.Fate.{Fate}
use Rattle.lq_model.specs.declared.fate.Fate.TheVariants.{Purged}
use Rattle.lq_model.specs.declared.fate.Info.{Info}
use Rattle.lq_seat.specs.State.{SeatState, seat_account, HangsWhere, IsCallOf}
use Rattle.lq_senders.proofs.OwnPackets.{own_fates}
use Rattle.lq_senders.proofs.AtEnd.{account-at, as-planned, configured-below, trail-at}
use Rattle.lq_senders.proofs.Lists.{length-mapped}
use Rattle.lq_senders.proofs.Turns.{event-there}
use Rattle.lq_senders.specs.Ends.{RunEnds, UnitEnds}
use Rattle.lq_senders.specs.Fates.{AllTell, AreFatesOf, IsCallOfUnit}

-- DEVICES

-- a device tells these parameters
told-some : (d : DeviceState) (o : Option Telling) (params : Params) → d.told ≡ o → told_params d ≡ Some params → (t : Telling) × (d.told ≡ Some t) × (t.params ≡ params)
told-some d None params is told = absurd (let e = ap (option_map (λ (t : Telling). t.params)) is in cc)
told-some d (Some t) params is told = (t, is, same_Some t.params params (sym (ap (option_map (λ (u : Telling). u.params)) is) ∙ told))

known : (params : Params) (o : Option Telling) → IsSome o → option_map (λ (_ : Telling). params) o ≡ Some params
known params (Some t) some = refl
known params None some = absurd cc

hangs-at : (params : Params) (d : DeviceState) → HangsWhere params d → d.hung ≡ true → (0 < params.hang_after) × (length d.accepted ≡ params.hang_after)
hangs-at params d hangs hung =
    let both = and_parts (nat_lt 0 params.hang_after) (length d.accepted == params.hang_after) (sym hangs.0 ∙ hung) in (ltb-true _ _ both.0, eqb-true _ _ both.1)

-- THE RUN

module _ (plan : Plan) (infos : List Info) (opens : ℕ → ℕ) (before after : List DeviceState) (views : ℕ → SeatState) (fates : List Fate) (ends : RunEnds plan infos opens before after views fates) where
  abbrev pasts : ℕ → List Event
  pasts station = (views station).whole.past

  abbrev accounts : ℕ → Account
  accounts station = after_all (start_of plan station) (pasts station)

  account-is : (station : ℕ) → station < length plan.stations → seat_account (views station) ≡ accounts station
  account-is station below = account-at plan infos station (views station) (ends.each station below)

  trails : (station : ℕ) → station < length plan.stations → IsTrail plan station (trail_of infos (pasts station))
  trails station below = trail-at plan infos station (views station) (ends.each station below)

  -- a packet's fate is that of its station's account
  fate-is : (station : ℕ) → station < length plan.stations → (n : ℕ) → n < length infos → station_in infos n ≡ station → slice_get fates n ≡ (accounts station).fates n
  fate-is station below n inside at = ends.fates_are n inside ∙ (ap (λ (s : ℕ). (seat_account (views s)).fates n) at ∙ ap (λ (a : Account). a.fates n) (account-is station below))

  closed : (station : ℕ) → station < length plan.stations → IsClosed plan infos fates station (pasts station) (accounts station)
  closed station below = let own = ends.each station below in let is = account-is station below in record {
    orderly = own.sound.orderly;
    account = refl;
    nothing_held = ap held (sym is) ∙ own.finished.nothing_held;
    hand_empty = ap (λ (a : Account). a.hand) (sym is) ∙ own.finished.hand_empty;
    events = have-all-come plan infos station (pasts station) (subst (HaveCome plan station (length plan.events)) (sym own.sound.trail) own.come);
    no_swap_after_hang = no-swap-after-hang plan infos station (pasts station) (trails station below);
    decided = λ n inside at. let there = event-there fates n (let e = ends.one_each in omega arith) in (there.0, there.1, sym (fate-is station below n inside at) ∙ there.1);
  }

  settled-stations : AreSettledStations plan infos fates accounts
  settled-stations = record {
    one_each = ends.one_each;
    of_plan = ends.of_plan;
    each = λ station below. law_of_accounts plan infos fates station (pasts station) (accounts station) below (closed station below);
  }

  is-settled : IsSettled plan infos fates
  is-settled = accounts_settle plan infos fates accounts settled-stations

  -- what a unit sent is what its device accepted
  sent-list : (unit : ℕ) (u : UnitEnds plan infos after views unit) → IsSentList fates unit u.device.accepted
  sent-list unit u =
      subst (IsSentList fates unit) (ap (λ (a : Account). a.sent unit) (sym (account-is u.station u.within)) ∙ u.sent)
      (sent_list_of plan infos fates accounts settled-stations u.station unit u.within u.of_station)

  devices-are : (unit : ℕ) → unit < unit_count plan → slice_get (map (λ device. device.accepted) after) unit ≡ Some (sent_of fates unit)
  devices-are unit below =
      let u = ends.units unit below in
      slice_get-map (λ device. device.accepted) after unit
      ∙ (ap (option_map (λ device. device.accepted)) u.there
      ∙ ap Some (sym (sent_is fates unit u.device.accepted (sent-list unit u))))

  asked-are : (unit : ℕ) (device : DeviceState) → unit < unit_count plan → slice_get after unit ≡ Some device → All (IsCallOfUnit plan infos unit) device.asked
  asked-are unit device below there =
      let u = ends.units unit below in
      subst (λ (d : DeviceState). All (IsCallOfUnit plan infos unit) d.asked) (same_Some u.device device (sym u.there ∙ there))
      (All-weaker (IsCallOf infos u.station) (IsCallOfUnit plan infos unit) (λ call is. record {
        packet = is.within;
        of_station = subst (λ (s : ℕ). IsUnitOf plan s unit) (sym is.of_station) u.of_station;
        own_queue = is.own_queue;
        one_of_its = subst (λ queue. queue < queues_at plan.stations (station_in infos call.packet)) (sym is.own_queue) (ends.queues call.packet is.within);
      }) u.device.asked u.asked)

  -- a packet is purged as hung only by its station's latest unit, which hangs
  hung-is : (n unit : ℕ) (device : DeviceState) → slice_get fates n ≡ Some (Purged (Hung unit)) → slice_get after unit ≡ Some device → device.hung ≡ true
  hung-is n unit device there here =
      let inside : n < length infos = let within = slice_get_within fates n (Purged (Hung unit)) there in let e = ends.one_each in omega arith in
      let below = ends.of_plan n inside in let v = views (station_in infos n) in
      let by = (ends.each (station_in infos n) below).hung n unit (sym (ends.fates_are n inside) ∙ there) in
      let same : v.whole.device ≡ device = same_Some _ device (sym (ends.present (station_in infos n) below) ∙ (ap (slice_get after) (sym by.0) ∙ here)) in
      ap (λ d. d.hung) (sym same) ∙ by.1

  -- a unit's device that tells hangs as it was configured
  hangs-of : (unit : ℕ) (params : Params) (old : DeviceState) → IsConfiguredWith plan unit params → slice_get before unit ≡ Some old → IsSome old.told → (u : UnitEnds plan infos after views unit) → HangsWhere params u.device
  hangs-of unit params old configured was tells u =
      let told = told-some u.device u.device.told params refl (ends.tells unit params old u.device configured was u.there ∙ known params old.told tells) in
      subst (λ (p : Params). HangsWhere p u.device) told.2 (u.hangs told.0 told.1)

  hangs-after : (unit : ℕ) (params : Params) (old : DeviceState) → IsConfiguredWith plan unit params → slice_get before unit ≡ Some old → IsSome old.told → HangsAfter fates unit params
  hangs-after unit params old configured was tells =
      let u = ends.units unit (configured-below plan unit params configured) in let hangs = hangs-of unit params old configured was tells u in
      let count = count_is fates unit u.device.accepted (sent-list unit u) in record {
        at_most = λ some. let most = hangs.1 some in omega arith;
        purged = λ n there. let at = hangs-at params u.device hangs (hung-is n unit u.device there u.there) in (at.0, count ∙ at.1);
      }

  -- a unit of the plan stood in the bench
  as-told : AllTell (unit_count plan) before → HangsAsTold plan fates
  as-told tell unit params configured =
      let below = configured-below plan unit params configured in let old = event-there before unit (let bench = ends.bench in omega arith) in
      hangs-after unit params old.0 configured old.1 (tell unit old.0 below old.1)

  options-length : length (map (λ (fate : Fate). Some fate) fates) ≡ length infos
  options-length = length-mapped (λ (fate : Fate). Some fate) fates ∙ ends.one_each

  is-alone : AllTell (unit_count plan) before → plan.senders ≡ 1 → map (λ fate. Some fate) fates ≡ alone plan infos opens
  unfolding run_fates
  is-alone tell one = list_for_each (fate_in (after_run plan infos opens (λ n. true) (new_stations 0 plan.stations)) infos) (map (λ (fate : Fate). Some fate) fates) (length infos) options-length
      (λ n d inside.
      let there = event-there fates n (let e = ends.one_each in omega arith) in
      get_or_from_slice_get (map (λ (fate : Fate). Some fate) fates) n (Some there.0) d (slice_get-map (λ (fate : Fate). Some fate) fates n ∙ ap (option_map (λ (fate : Fate). Some fate)) there.1)
      ∙ (sym there.1 ∙ (ends.fates_are n inside ∙ sym (ends.alone tell one n inside))))

  is-apart : AllTell (unit_count plan) before → plan.senders ≡ 1 → (n : ℕ) (fate : Fate) → slice_get fates n ≡ Some fate → slice_get (alone_at plan infos opens (station_in infos n)) n ≡ Some (Some fate)
  is-apart tell one n fate there =
      own_fates plan infos opens n ∙ (ap (λ (l : List (Option Fate)). slice_get l n) (sym (is-alone tell one)) ∙ (slice_get-map (λ (f : Fate). Some f) fates n ∙ ap (option_map (λ (f : Fate). Some f)) there))

  pub fates_of_run : AreFatesOf plan infos opens fates before after
  fates_of_run = record {
    settled = is-settled;
    complete = complete plan infos fates ends.of_plan is-settled;
    in_order = accounts_are_in_order plan infos fates accounts settled-stations;
    accounts = λ station below. (pasts station, accounts station, closed station below, as-planned plan infos station (views station) (ends.each station below) (closed station below).events);
    events = all-meet plan infos fates ends.one_each ends.of_plan (λ station below. meets-at plan infos station below fates (pasts station) (accounts station) (closed station below) (trails station below));
    devices = devices-are;
    asked = asked-are;
    hung = hung-is;
    configured = ends.tells;
    hangs = hangs-after;
    as_told = as-told;
    alone = is-alone;
    apart = is-apart;
  }
