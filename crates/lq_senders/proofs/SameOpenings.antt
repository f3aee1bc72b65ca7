-- The fates of a run depend on how often queues are opened after its own packets alone.
use Rattle.std.proofs.Common.{◌≡◌, ℕ, zero, suc, ◌<◌, ◌≤◌, ◌==◌, Bool, true, List, length, map, Option, slice_get, refl, sym, ap, ap₂, ◌∙◌, arith}
use Rattle.lq_model.specs.Alone.{RunningStation, after_packets, events_after, fate_in, finished, new_stations, run_fates, with_events, with_turn}
use Rattle.lq_model.specs.Device.{DeviceState}
use Rattle.lq_model.specs.Numbers.{first_numbers}
use Rattle.lq_model.specs.Plan.{Plan, station_in}
use Rattle.lq_model.specs.declared.fate.Fate.{Fate}
use Rattle.lq_model.specs.declared.fate.Info.{Info}
use Rattle.lq_senders.specs.Fates.{AreFatesOf}

module _ (plan : Plan) (infos : List Info) (opens others : ℕ → ℕ) (same : (n : ℕ) → n < length infos → opens n ≡ others n) where
  packets-same : (offers : ℕ → Bool) (start : List RunningStation) (n : ℕ) → n ≤ length infos → after_packets plan infos opens offers start n ≡ after_packets plan infos others offers start n
  packets-same offers start zero within = refl
  packets-same offers start (suc n) within =
      ap₂ (λ (times : ℕ) (stations : List RunningStation). with_turn plan infos (λ _. times) offers n stations) (same n (omega arith)) (packets-same offers start n (omega arith))

  run-same : (offers : ℕ → Bool) → run_fates plan infos opens offers ≡ run_fates plan infos others offers
  unfolding run_fates
  run-same offers =
      ap (λ (stations : List RunningStation). map (fate_in (map (finished infos) (with_events plan infos (events_after plan (length infos)) stations)) infos) (first_numbers (length infos)))
      (packets-same offers (new_stations 0 plan.stations) (length infos) (omega arith))

  pub fates-same : (fates : List Fate) (before after : List DeviceState) → AreFatesOf plan infos opens fates before after → AreFatesOf plan infos others fates before after
  fates-same fates before after are = record {
    settled = are.settled;
    complete = are.complete;
    in_order = are.in_order;
    accounts = are.accounts;
    events = are.events;
    devices = are.devices;
    asked = are.asked;
    hung = are.hung;
    configured = are.configured;
    hangs = are.hangs;
    as_told = are.as_told;
    alone = λ tell one. are.alone tell one ∙ run-same (λ n. true);
    apart = λ tell one n fate there.
        ap (λ (l : List (Option Fate)). slice_get l n) (sym (run-same (λ m. station_in infos m == station_in infos n))) ∙ are.apart tell one n fate there;
  }
