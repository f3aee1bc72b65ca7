-- The device has room for the packet in hand: what it accepted are distinct packets of the station, and this is one more.
use Rattle.lq_account_laws.specs.Places.Waits.{in_hand}
use Rattle.std.proofs.Common.{◌≡◌, ◌≢◌, ℕ, zero, suc, ◌+◌, ◌<◌, ◌≤◌, Bool, true, false, true≢false, List, [], ◌∷◌, length, take, refl, sym, ap, ◌∙◌, subst, arith, ⊎_elim, inl, inr, ◌⊎◌, Option, Some, None, eq-eqb, count_by, slice_get, get_or}
use Rattle.std.specs.Prelude.{if◌then◌else◌, nat_lt, ◌==◌}
use Rattle.std.specs.Option.{option_map_or}
use Rattle.std.proofs.lemmas.Bool.{cases_eq, lt-ltb, ltb-true}
use Rattle.std.proofs.lemmas.Option.{same_Some, slice_get_cases, slice_get_read}
use Rattle.std.proofs.lemmas.List.Sums.{count_by-le-length, count_by_more_no, count_by_more_yes}
use Rattle.std.proofs.Math.Seq.{take-length}
use mathlib.Core.Logic.{dite}
use native.Mathlib.Decide.{dec_lt}
use Rattle.atomic_table.specs.Table as table
use Rattle.lq_device.specs.Station.{StationState}
use Rattle.lq_model.specs.Plan.{station_in}
use Rattle.lq_model.specs.declared.fate.Fate.{Fate}
use Rattle.lq_model.specs.declared.fate.Fate.TheVariants.{Sent}
use Rattle.lq_model.specs.declared.fate.Info.{Info}
use Rattle.lq_band_laws.specs.Times.{times}
use Rattle.lq_band_laws.proofs.Times.{in_times, times_in, times_none, times_same, times_other}
use Rattle.lq_table.specs.Views.{View, Setup}
use Rattle.lq_table.specs.Rule.{account, station_count, Rule}

abbrev one_where : Bool → ℕ
one_where b = if b then 1 else 0

-- how many of the list are below i
abbrev below : ℕ → List ℕ → ℕ
below i [] = 0
below i (y ∷ ys) = one_where (nat_lt y i) + below i ys

not_true : (b : Bool) → (b ≡ true → ⊥) → b ≡ false
not_true true no_ = absurd (no_ refl)
not_true false no_ = refl

either_way : (b : Bool) → (b ≡ true) ⊎ (b ≡ false)
either_way true = inl refl
either_way false = inr refl

is_below : (y i : ℕ) → y < i → one_where (nat_lt y i) ≡ 1
is_below y i l = ap one_where (lt-ltb y i l)

not_below : (y i : ℕ) → i ≤ y → one_where (nat_lt y i) ≡ 0
not_below y i l = ap one_where (not_true (nat_lt y i) (λ e. let l' = ltb-true y i e in omega arith))

below_none : (ys : List ℕ) → below 0 ys ≡ 0
below_none [] = refl
below_none (y ∷ ys) = let a = not_below y 0 (omega arith) in let b : below 0 ys ≡ 0 = below_none ys in omega arith

below_next : (i : ℕ) (ys : List ℕ) → below (i + 1) ys ≡ below i ys + times i ys
below_next i [] = refl
below_next i (y ∷ ys) = let more : below (i + 1) ys ≡ below i ys + times i ys = below_next i ys in ⊎_elim
    (λ (same : i ≡ y). let a = is_below y (i + 1) (omega arith) in let b = not_below y i (omega arith) in let c = times_same i y ys same in omega arith)
    (λ (other : i ≢ y). let c = times_other i y ys other in ⊎_elim
    (λ (less : nat_lt y i ≡ true). let l = ltb-true y i less in let a = is_below y (i + 1) (omega arith) in let b = is_below y i l in omega arith)
    (λ (no_ : nat_lt y i ≡ false). let far : i < y = past y i no_ other in let a = not_below y (i + 1) (omega arith) in let b = not_below y i (omega arith) in omega arith)
    (either_way (nat_lt y i)))
    (cases_eq i y)
  where
    past : (y i : ℕ) → nat_lt y i ≡ false → i ≢ y → i < y
    past y i e other = dite (dec_lt y i) (λ l. absurd (true≢false (sym (lt-ltb y i l) ∙ e))) (λ far. omega arith)

below_all : (bound : ℕ) (ys : List ℕ) → ((y : ℕ) → 0 < times y ys → y < bound) → below bound ys ≡ length ys
below_all bound [] h = refl
below_all bound (y ∷ ys) h = let a = is_below y bound (h y (let t = times_same y y ys refl in omega arith)) in let b : below bound ys ≡ length ys = below_all bound ys (λ z l. h z (omega arith)) in omega arith

-- no more of a list of distinct packets of the station are below i than the station has there
fewer : (infos : List Info) (station : ℕ) (ys : List ℕ) → ((y : ℕ) → times y ys ≤ 1) → ((y : ℕ) → 0 < times y ys → station_in infos y ≡ station) → (i : ℕ) → i ≤ length infos → below i ys ≤ count_by (λ (info : Info). info.station == station) (take i infos)
fewer infos station ys once of zero l = let z = below_none ys in omega arith
fewer infos station ys once of (suc i) l =
    let before : below i ys ≤ count_by (λ (info : Info). info.station == station) (take i infos) = fewer infos station ys once of i (omega arith) in
    let next : below (suc i) ys ≡ below i ys + times i ys = ap (λ (z : ℕ). below z ys) (let e : suc i ≡ i + 1 = omega arith in e) ∙ below_next i ys in
    let few = once i in ⊎_elim
    (λ t. let x : Info = t.0 in go x t.2 t.3 next before few)
    (λ (t : (length infos ≤ i) × (slice_get infos i ≡ None)). absurd (let z = t.0 in omega arith))
    (slice_get_cases infos i).1
  where
    go : (x : Info) → slice_get infos i ≡ Some x → get_or infos i x ≡ x → below (suc i) ys ≡ below i ys + times i ys → below i ys ≤ count_by (λ (info : Info). info.station == station) (take i infos) → times i ys ≤ 1
        → below (suc i) ys ≤ count_by (λ (info : Info). info.station == station) (take (suc i) infos)
    go x here same next before few = subst (λ (z : ℕ). below (suc i) ys ≤ count_by (λ (info : Info). info.station == station) (take z infos)) (let e : i + 1 ≡ suc i = omega arith in e)
        (⊎_elim
        (λ (yes : (x.station == station) ≡ true). let c = count_by_more_yes (λ (info : Info). info.station == station) infos i x (omega arith) (ap (λ (z : Info). z.station == station) same ∙ yes) in omega arith)
        (λ (no_ : (x.station == station) ≡ false). let c = count_by_more_no (λ (info : Info). info.station == station) infos i x (omega arith) (ap (λ (z : Info). z.station == station) same ∙ no_) in
        let none_ : times i ys ≡ 0 = times_none i ys (λ has. true≢false (sym (eq-eqb x.station station (sym (ap (λ (o : Option Info). option_map_or (λ (info : Info). info.station) o 0) here) ∙ of i (times_in i ys has))) ∙ no_)) in omega arith)
        (either_way (x.station == station)))

pub distinct_packets : (infos : List Info) (station : ℕ) (ys : List ℕ) → ((y : ℕ) → times y ys ≤ 1) → ((y : ℕ) → 0 < times y ys → (y < length infos) × (station_in infos y ≡ station)) → length ys ≤ station_count infos station
distinct_packets infos station ys once of =
    let all : below (length infos) ys ≡ length ys = below_all (length infos) ys (λ y h. (of y h).0) in
    let most = fewer infos station ys once (λ y h. (of y h).1) (length infos) (omega arith) in
    let whole : count_by (λ (info : Info). info.station == station) (take (length infos) infos) ≡ station_count infos station = ap (count_by (λ (info : Info). info.station == station)) (take-length infos) in omega arith

-- a list in which no element stands at two places
once_if : (xs : List ℕ) → ((i j l : ℕ) → slice_get xs i ≡ Some l → slice_get xs j ≡ Some l → i ≡ j) → (l : ℕ) → times l xs ≤ 1
once_if [] one l = omega arith
once_if (x ∷ xs) one l = ⊎_elim
    (λ (same : l ≡ x). let t = times_same l x xs same in
    let none_ : times l xs ≡ 0 = times_none l xs (λ has. let e = one 0 (suc has.0) l (ap (λ z. Some z) (sym same)) (slice_get_read xs (length xs) has.0 l refl has.1 (sym has.2)) in absurd (omega arith)) in omega arith)
    (λ (other : l ≢ x). let t = times_other l x xs other in let more : times l xs ≤ 1 = once_if xs (λ i j y a b. let e = one (suc i) (suc j) y a b in omega arith) l in omega arith)
    (cases_eq l x)

same_serial : (u s t : ℕ) → Some (Sent u s) ≡ Some (Sent u t) → s ≡ t
same_serial u s t e = ap serial_of (same_Some _ _ e)
  where
    serial_of : Fate → ℕ
    serial_of (Sent unit serial) = serial
    serial_of f = 0

-- with a packet in hand the device has room
pub has_room : (k : Setup) (s : table.State (Option StationState) View) (r : Rule k s) (n : ℕ) → (account k r.state).hand ≡ Some n → (0 < r.state.station.device.spare) × (length r.state.station.device.accepted < length k.infos)
has_room k s r n hand =
    let p = r.parts in let a = account k r.state in let xs : List ℕ = r.state.station.device.accepted in let acc = p.account.accounted in
    let fate : (i l : ℕ) → slice_get xs i ≡ Some l → a.fates l ≡ Some (Sent a.unit i) = λ i l is. acc.sent l a.unit i (ap (λ (zs : List ℕ). slice_get zs i) p.account.sends.sent ∙ is) in
    let once : (l : ℕ) → times l xs ≤ 1 = once_if xs (λ i j l is is'. same_serial a.unit i j (sym (fate i l is) ∙ fate j l is')) in
    let known : (l : ℕ) → 0 < times l xs → (f : Fate) × (a.fates l ≡ Some f) = λ l h. (let has = in_times l xs h in (Sent a.unit has.0, fate has.0 l (slice_get_read xs (length xs) has.0 l refl has.1 (sym has.2)))) in
    let new : times n xs ≡ 0 = times_none n xs (λ has. let f = known n (times_in n xs has) in acc.free n f.0 (in_hand hand) f.1) in
    let most : length (n ∷ xs) ≤ station_count k.infos k.station = distinct_packets k.infos k.station (n ∷ xs)
    (λ l. ⊎_elim (λ (same : l ≡ n). let t = times_same l n xs same in let z : times l xs ≡ 0 = ap (λ (y : ℕ). times y xs) same ∙ new in omega arith) (λ (other : l ≢ n). let t = times_other l n xs other in let o = once l in omega arith) (cases_eq l n))
    (λ l h. ⊎_elim (λ (same : l ≡ n). subst (λ (y : ℕ). (y < length k.infos) × (station_in k.infos y ≡ k.station)) (sym same) (acc.brought.packets n (acc.brought.hand n hand)))
    (λ (other : l ≢ n). let t = times_other l n xs other in let f = known l (omega arith) in acc.brought.packets l (acc.brought.fates l f.0 f.1)) (cases_eq l n)) in
    let all : station_count k.infos k.station ≤ length k.infos = count_by-le-length (λ (info : Info). info.station == k.station) k.infos in
    let room = p.account.device.room in (omega arith, omega arith)
