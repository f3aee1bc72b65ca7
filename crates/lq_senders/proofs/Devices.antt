-- Where the units' devices are, after an event or a packet.
use Rattle.std.proofs.Common.{◌≡◌, ℕ, zero, suc, ◌+◌, ◌<◌, Bool, true, false, cond, List, [], ◌∷◌, ◌++◌, inl, inr, length, drop, map, slice_get, Some, refl, sym, ap, ◌∙◌, subst, arith, Contains, length-append}
use Rattle.std.specs.Prelude.{slice_index_or, slice_set}
use Rattle.std.proofs.lemmas.List.{map-append}
use Rattle.std.proofs.lemmas.Option.{same_Some, slice_get_within}
use mathlib.Core.Logic.{dite}
use native.Mathlib.Decide.{ℕ_discrete}
use Rattle.lq_account_laws.proofs.Lists.{get-push-old, get-push-new, here-in, there-in}
use Rattle.lq_model.specs.Device.{DeviceState}
use Rattle.lq_model.proofs.Reach.{at-own-swap, swap-apart}
use Rattle.lq_model.specs.Plan.{Plan, is_swap, unit_of_swap}
use Rattle.lq_model.specs.declared.fate.Info.{Info}
use Rattle.lq_model.specs.declared.plan.EventPlan.{EventPlan}
use Rattle.lq_seat.specs.State.{SeatState, HasServed}
use Rattle.lq_senders.specs.Senders.{KeepAll}
use Rattle.lq_senders.specs.Units.{DevicesStand, IsTaken, SameDevices, swaps_before, unit_at}
use Rattle.lq_senders.proofs.Seats.{each-set, set-here, set-apart}
use Rattle.lq_senders.proofs.Turns.{event-there, some-there}
use Rattle.lq_account_laws.proofs.Units.{one_where, unit-more}
use Rattle.lq_senders.proofs.Units.{unit-elsewhere, unit-here, unit-stays, unit-within}
use Rattle.lq_senders.proofs.Ways.{below-or-at}

-- so many swaps more
pub swaps-more : (plan : Plan) (count : ℕ) (event : EventPlan) → slice_get plan.events count ≡ Some event → (b : Bool) → is_swap event ≡ b → swaps_before plan (suc count) ≡ swaps_before plan count + one_where b
swaps-more plan count event there b is = let more = unit-more plan count event there b is in omega (arith, more)

-- the first of the units that are left
drop-one : {X : Type 0} (xs : List X) (n : ℕ) (x : X) → slice_get xs n ≡ Some x → drop n xs ≡ x ∷ drop (suc n) xs
drop-one [] n x there = absurd cc
drop-one (y ∷ ys) zero x there = ap (λ z. z ∷ ys) (same_Some y x there)
drop-one (y ∷ ys) (suc n) x there = drop-one ys n x there

-- the spare devices without the first, and with one more at the end
pub spares-turned : {X Y : Type 0} (f : X → Y) (xs : List X) (x : X) → map f (drop 1 xs ++ x ∷ []) ≡ drop 1 (map f xs) ++ f x ∷ []
spares-turned f [] x = refl
spares-turned f (y ∷ ys) x = map-append f ys (x ∷ [])

-- the first spare device, as the seat reads it
first-read : {X Y : Type 0} (f : X → Y) (xs : List X) (x : X) (y : Y) (ys : List Y) → map f xs ≡ y ∷ ys → x ≡ slice_index_or xs 0 x → y ≡ f x
first-read f [] x y ys same is = absurd cc
first-read f (z ∷ zs) x y ys same is = same_Some y (f x) (sym (ap (λ l. slice_get l 0) same) ∙ ap (λ w. Some (f w)) (sym is))

has-first : {X Y : Type 0} (f : X → Y) (xs : List X) (y : Y) (ys : List Y) → map f xs ≡ y ∷ ys → 0 < length xs
has-first f [] y ys same = absurd cc
has-first f (x ∷ xs) y ys same = omega arith

module _ (plan : Plan) (infos : List Info) (units : List DeviceState) where
  -- the first spare device is that of the next swap
  first-spare : (count : ℕ) (event : EventPlan) (seats : List SeatState) (spares : List DeviceState) → slice_get plan.events count ≡ Some event → is_swap event ≡ true
      → (stand : DevicesStand plan infos units count seats spares)
      → (came : DeviceState) × (slice_get units (unit_of_swap plan count) ≡ Some came) × (spares ≡ came ∷ (drop (suc (unit_of_swap plan count)) units ++ stand.taken))
  first-spare count event seats spares there swap stand = (x.0, x.1, stand.spares_are ∙ ap (λ l. l ++ stand.taken) (drop-one units (unit_of_swap plan count) x.0 x.1))
    where
      x : (came : DeviceState) × (slice_get units (unit_of_swap plan count) ≡ Some came)
      x = event-there units (unit_of_swap plan count) (let within = unit-within plan count event there swap in let long = stand.units_are.long in omega arith)

  pub first-comes : {X : Type 0} (f : X → DeviceState) (count : ℕ) (event : EventPlan) (seats : List SeatState) (items : List X) (x : X) → slice_get plan.events count ≡ Some event → is_swap event ≡ true
      → x ≡ slice_index_or items 0 x → DevicesStand plan infos units count seats (map f items) → slice_get units (unit_of_swap plan count) ≡ Some (f x)
  first-comes f count event seats items x there swap is stand =
      let first = first-spare count event seats (map f items) there swap stand in
      first.1 ∙ ap Some (first-read f items x first.0 (drop (suc (unit_of_swap plan count)) units ++ stand.taken) first.2 is)

  pub some-spare : {X : Type 0} (f : X → DeviceState) (count : ℕ) (event : EventPlan) (seats : List SeatState) (items : List X) → slice_get plan.events count ≡ Some event → is_swap event ≡ true
      → DevicesStand plan infos units count seats (map f items) → 0 < length items
  some-spare f count event seats items there swap stand =
      let first = first-spare count event seats (map f items) there swap stand in has-first f items first.0 (drop (suc (unit_of_swap plan count)) units ++ stand.taken) first.2

  -- the seats have the same devices still
  pub devices-same : (count : ℕ) (old new : List SeatState) (spares : List DeviceState) → SameDevices old new → DevicesStand plan infos units count old spares → DevicesStand plan infos units count new spares
  devices-same count old new spares same stand = record {
    units_are = stand.units_are;
    home = λ j c at. let was = some-there old new j c (sym same.long) at in stand.home j was.0 was.1 ∙ ap Some (sym (same.each j was.0 c was.1 at).0);
    taken = stand.taken;
    so_many = stand.so_many;
    spares_are = stand.spares_are;
    each = λ e event below there swap. let took = stand.each e event below there swap in record {
      origin = took.origin;
      device = took.device;
      came = took.came;
      went = took.went;
      has_served = took.has_served;
      gone = λ c at. let was = some-there old new event.station c (sym same.long) at in
          subst (λ l. Contains l (unit_at plan event.station e, took.device.accepted)) (sym (same.each event.station was.0 c was.1 at).1) (took.gone was.0 was.1);
    };
  }

  pub devices-kept : (count : ℕ) (old new : List SeatState) (spares : List DeviceState) → KeepAll old new → DevicesStand plan infos units count old spares → DevicesStand plan infos units count new spares
  devices-kept count old new spares keeps = devices-same count old new spares (record { long = keeps.long; each = λ j c c' at at'. let own = keeps.each j c c' at at' in (ap (λ (s : SeatState). s.origin) own, ap (λ (s : SeatState). s.gone) own) })

  -- an event that swaps no device
  pub devices-past : (count : ℕ) (event : EventPlan) (seats : List SeatState) (spares : List DeviceState) → slice_get plan.events count ≡ Some event → is_swap event ≡ false
      → DevicesStand plan infos units count seats spares → DevicesStand plan infos units (suc count) seats spares
  devices-past count event seats spares there none stand = record {
    units_are = stand.units_are;
    home = λ j c at. ap (slice_get units) (unit-stays plan j count event there none) ∙ stand.home j c at;
    taken = stand.taken;
    so_many = stand.so_many ∙ (let more : swaps_before plan (suc count) ≡ swaps_before plan count + 0 = swaps-more plan count event there false none in omega arith);
    spares_are = stand.spares_are ∙ ap (λ u. drop u units ++ stand.taken) (let more : unit_of_swap plan (suc count) ≡ unit_of_swap plan count + 0 = unit-more plan count event there false none in omega arith);
    each = λ e late below at swap. elim (below-or-at e count below) [
      | inl less ↦ stand.each e late less at swap
      | inr same ↦ absurd (let z : event ≡ late = same_Some event late (sym there ∙ (ap (slice_get plan.events) (sym same) ∙ at)) in let no : is_swap late ≡ false = ap is_swap (sym z) ∙ none in
          let e : true ≡ false = sym swap ∙ no in cc)
    ];
  }

  -- a swap: this device came, and that one went
  pub devices-swapped : (count : ℕ) (event : EventPlan) (seats : List SeatState) (spares : List DeviceState) (c c' : SeatState) (came went : DeviceState) → slice_get plan.events count ≡ Some event → is_swap event ≡ true
      → slice_get seats event.station ≡ Some c → slice_get units (unit_of_swap plan count) ≡ Some came → c'.origin ≡ came
      → HasServed infos event.station c.origin went
      → c'.gone ≡ (unit_at plan event.station count, went.accepted) ∷ c.gone
      → DevicesStand plan infos units count seats spares → DevicesStand plan infos units (suc count) (slice_set seats event.station c') (drop 1 spares ++ went ∷ [])
  devices-swapped count event seats spares c c' came went there swap at-c brought origin has_served gone stand = record {
    units_are = stand.units_are;
    home = each-set (λ (j : ℕ) (x : SeatState). slice_get units (unit_at plan j (suc count)) ≡ Some x.origin) seats event.station c' (slice_get_within seats event.station c at-c)
        (ap (slice_get units) (unit-here plan event.station count event there (at-own-swap event swap) ∙ ap (λ b. cond b (unit_of_swap plan count) (unit_at plan event.station count)) swap) ∙ (brought ∙ ap Some (sym origin)))
        (λ j x other at. ap (slice_get units) (unit-elsewhere plan j count event there (swap-apart j event swap other)) ∙ stand.home j x at);
    taken = stand.taken ++ went ∷ [];
    so_many = length-append stand.taken (went ∷ []) ∙ (let more : swaps_before plan (suc count) ≡ swaps_before plan count + 1 = swaps-more plan count event there true swap in let so_many = stand.so_many in omega arith);
    spares_are = spares-are;
    each = λ e late below at is. elim (below-or-at e count below) [ inl less ↦ before e late less at is | inr same ↦ now e late same at is ];
  }
    where
      append-next : {X : Type 0} (xs ys zs : List X) → (xs ++ ys) ++ zs ≡ xs ++ (ys ++ zs)
      append-next [] ys zs = refl
      append-next (x ∷ xs) ys zs = ap (λ l. x ∷ l) (append-next xs ys zs)

      spares-are : drop 1 spares ++ went ∷ [] ≡ drop (unit_of_swap plan (suc count)) units ++ (stand.taken ++ went ∷ [])
      spares-are =
          let more : unit_of_swap plan (suc count) ≡ unit_of_swap plan count + 1 = unit-more plan count event there true swap in
          let same : suc (unit_of_swap plan count) ≡ unit_of_swap plan (suc count) = omega arith in
          ap (λ l. drop 1 l ++ went ∷ []) (stand.spares_are ∙ ap (λ l. l ++ stand.taken) (drop-one units (unit_of_swap plan count) came brought))
          ∙ (append-next (drop (suc (unit_of_swap plan count)) units) stand.taken (went ∷ [])
          ∙ ap (λ u. drop u units ++ (stand.taken ++ went ∷ [])) same)

      -- one that an earlier swap took
      before : (e : ℕ) (late : EventPlan) → e < count → slice_get plan.events e ≡ Some late → is_swap late ≡ true → IsTaken plan infos units (stand.taken ++ went ∷ []) (slice_set seats event.station c') e late
      before e late below at is = let took = stand.each e late below at is in record {
        origin = took.origin;
        device = took.device;
        came = took.came;
        went = get-push-old stand.taken (went ∷ []) took.device (swaps_before plan e) took.went;
        has_served = took.has_served;
        gone = λ x there-x. dite (ℕ_discrete late.station event.station)
            (λ same. let is : c' ≡ x = same_Some c' x (sym (set-here seats event.station c' (slice_get_within seats event.station c at-c)) ∙ (ap (slice_get (slice_set seats event.station c')) (sym same) ∙ there-x)) in
            subst (λ (z : SeatState). Contains z.gone (unit_at plan late.station e, took.device.accepted)) is
            (subst (λ l. Contains l (unit_at plan late.station e, took.device.accepted)) (sym gone) (there-in _ c.gone _ (took.gone c (ap (slice_get seats) same ∙ at-c)))))
            (λ other. took.gone x (sym (set-apart seats event.station late.station c' other) ∙ there-x));
      }

      now : (e : ℕ) (late : EventPlan) → e ≡ count → slice_get plan.events e ≡ Some late → is_swap late ≡ true → IsTaken plan infos units (stand.taken ++ went ∷ []) (slice_set seats event.station c') e late
      now e late same at is =
          let late-is : event ≡ late = same_Some event late (sym there ∙ (ap (slice_get plan.events) (sym same) ∙ at)) in
          subst (λ (k : ℕ). IsTaken plan infos units (stand.taken ++ went ∷ []) (slice_set seats event.station c') k late) (sym same)
          (subst (λ (x : EventPlan). IsTaken plan infos units (stand.taken ++ went ∷ []) (slice_set seats event.station c') count x) late-is (record {
            origin = c.origin;
            device = went;
            came = stand.home event.station c at-c;
            went = ap (slice_get (stand.taken ++ went ∷ [])) (sym stand.so_many) ∙ get-push-new stand.taken went;
            has_served = has_served;
            gone = λ x there-x. let is : c' ≡ x = same_Some c' x (sym (set-here seats event.station c' (slice_get_within seats event.station c at-c)) ∙ there-x) in
                subst (λ (z : SeatState). Contains z.gone (unit_at plan event.station count, went.accepted)) is
                (subst (λ l. Contains l (unit_at plan event.station count, went.accepted)) (sym gone) (here-in _ c.gone));
          }))
