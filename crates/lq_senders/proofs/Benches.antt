-- The devices of a bench: configured, taken out and laid back.
use Rattle.std.proofs.Common.{◌≡◌, inl, inr, ℕ, zero, suc, ◌+◌, ◌-◌, ◌<◌, ◌≤◌, List, [], ◌∷◌, ◌++◌, length, refl, ap, arith, Some, Result, Ok, Err, sym, ◌∙◌, subst, map, take, drop, slice_get, slice_index_or, drop-drop}
use Rattle.std.specs.Prelude.{option_map, slice_set}
use Rattle.std.specs.Result.{IsOk, is_ok}
use Rattle.std.specs.Bool.{if◌then◌else◌}
use Rattle.std.proofs.lemmas.Bool.{cases_eq}
use Rattle.std.proofs.lemmas.List.{length-map, length-set}
use Rattle.std.proofs.lemmas.Option.{same_Some, slice_get_within, slice_get-map, slice_get_cases}
use Rattle.lq_model.specs.Device.{DeviceState, IsConfigured}
use Rattle.lq_model.specs.Plan.{Plan}
use Rattle.lq_model.specs.declared.fate.Info.{Info}
use Rattle.lq_model.specs.declared.plan.StationPlan.{StationPlan}
use Rattle.lq_seat.specs.State.{station_count}
use Rattle.lq_senders.specs.Fates.{identities_of}
use Rattle.lq_senders.specs.Setup.{AreConfigured}
use Rattle.lq_senders.proofs.Seats.{set-here, set-apart, mapped-at}

-- LISTS

pub get-drop : {X : Type 0} (xs : List X) (k : ℕ) → slice_get (drop k xs) 0 ≡ slice_get xs k
get-drop xs zero = refl
get-drop [] (suc k) = refl
get-drop (x ∷ xs) (suc k) = get-drop xs k

-- the first that is left
pub first-left : {X : Type 0} (k : ℕ) (xs ys : List X) (x : X) → ys ≡ drop k xs → 0 < length ys → x ≡ slice_index_or ys 0 x → slice_get xs k ≡ Some x
first-left zero [] ys x left some is = absurd (let none : length ys ≡ 0 = ap length left in omega arith)
first-left zero (y ∷ xs) ys x left some is = ap Some (sym (is ∙ ap (λ zs. slice_index_or zs 0 x) left))
first-left (suc k) [] ys x left some is = absurd (let none : length ys ≡ 0 = ap length left in omega arith)
first-left (suc k) (y ∷ xs) ys x left some is = first-left k xs ys x left some is

-- lists with the same rest have the same later rest
pub drop-later : {X : Type 0} (m k : ℕ) (xs ys : List X) → m ≤ k → drop m xs ≡ drop m ys → drop k xs ≡ drop k ys
drop-later m k xs ys within same = let both : m + (k - m) ≡ k = omega arith in
    subst (λ n. drop n xs ≡ drop n ys) both (sym (drop-drop (k - m) m xs) ∙ (ap (drop (k - m)) same ∙ drop-drop (k - m) m ys))

-- the last of the first n + 1
pub last-taken : {X : Type 0} (n : ℕ) (xs left : List X) (x : X) → take (suc n) xs ≡ left ++ x ∷ [] → length left ≡ n
    → (left ≡ take n xs) × (drop n xs ≡ x ∷ drop (suc n) xs)
last-taken n [] [] x taken len = cc
last-taken zero (z ∷ xs) [] x taken len = (refl, ap (λ y. y ∷ xs) (cc))
last-taken (suc n) xs [] x taken len = absurd (omega arith)
last-taken n [] (y ∷ left) x taken len = cc
last-taken zero xs (y ∷ left) x taken len = absurd (omega arith)
last-taken (suc n) (z ∷ xs) (y ∷ left) x taken len =
    let rest = last-taken n xs left x (cc) (omega arith) in
    let same : y ≡ z = cc in
    (ap (λ w. w ∷ left) same ∙ ap (λ ys. z ∷ ys) rest.0, rest.1)

pub so-where-ok : {T E X : Type 0} (r : Result T E) (new changed same : X) → IsOk r → new ≡ (if is_ok r then changed else same) → new ≡ changed
so-where-ok (Ok x) new changed same ok is = is
so-where-ok (Err e) new changed same ok is = absurd cc

-- DEVICES

-- a device of the bench was changed and is the same one
pub kept-its-identity : {X : Type 0} (state : X → DeviceState) (bench : List X) (k : ℕ) (old new : X) → slice_get bench k ≡ Some old
    → (state new).identity ≡ (state old).identity → identities_of (map state (slice_set bench k new)) ≡ identities_of (map state bench)
kept-its-identity state [] k old new there same = cc
kept-its-identity state (x ∷ bench) zero old new there same = ap (λ i. i ∷ identities_of (map state bench)) (same ∙ ap (λ y. (state y).identity) (sym (same_Some x old there)))
kept-its-identity state (x ∷ bench) (suc k) old new there same = ap (λ ids. (state x).identity ∷ ids) (kept-its-identity state bench k old new there same)

-- what is known of a device that was configured
pub configured-at : (plan : Plan) (infos : List Info) (before devices : List DeviceState) (station : ℕ) (s : StationPlan) (d : DeviceState)
    → AreConfigured plan infos (length plan.stations) before devices → slice_get plan.stations station ≡ Some s → slice_get devices station ≡ Some d
    → (old : DeviceState) × (slice_get before station ≡ Some old) × IsConfigured s.params (station_count infos station) old d
configured-at plan infos before devices station s d configured planned there = elim ((slice_get_cases before station).1) [
  | inl (old, inside, was, same) ↦ (old, was, configured.configured station s old d (slice_get_within plan.stations station s planned) planned was there)
  | inr (past, nothing) ↦ absurd (let within = slice_get_within devices station d there in let len = configured.same_length in omega arith)
]

-- one more device is configured
pub configured-more : {X : Type 0} (state : X → DeviceState) (plan : Plan) (infos : List Info) (k : ℕ) (first mid : List X) (s : StationPlan) (old new : X)
    → AreConfigured plan infos k (map state first) (map state mid) → drop k mid ≡ drop k first → slice_get plan.stations k ≡ Some s → slice_get mid k ≡ Some old
    → IsConfigured s.params (station_count infos k) (state old) (state new)
    → AreConfigured plan infos (k + 1) (map state first) (map state (slice_set mid k new))
configured-more state plan infos k first mid s old new configured rest planned there now = record {
  same_length = length-map (slice_set mid k new) state ∙ (length-set mid k new ∙ (sym (length-map mid state) ∙ configured.same_length));
  configured = λ station t a b below planned' was is. elim (cases_eq station k) [
    | inl same ↦
        let known_s : s ≡ t = same_Some s t (sym planned ∙ (ap (slice_get plan.stations) (sym same) ∙ planned')) in
        let known_a : state old ≡ a = same_Some _ _ (sym (mapped-at state first k old (sym (get-drop first k) ∙ (ap (λ xs. slice_get xs 0) (sym rest) ∙ (get-drop mid k ∙ there))))
        ∙ (ap (slice_get (map state first)) (sym same) ∙ was)) in
        let known_b : state new ≡ b = same_Some _ _ (sym (mapped-at state (slice_set mid k new) k new (set-here mid k new (slice_get_within mid k old there)))
        ∙ (ap (slice_get (map state (slice_set mid k new))) (sym same) ∙ is)) in
        subst (λ j. IsConfigured t.params (station_count infos j) a b) (sym same)
        (subst (λ u. IsConfigured u.params (station_count infos k) a b) known_s
        (subst (λ x. IsConfigured s.params (station_count infos k) x b) known_a
        (subst (λ y. IsConfigured s.params (station_count infos k) (state old) y) known_b now)))
    | inr other ↦ configured.configured station t a b (omega arith) planned' was
        (slice_get-map state mid station ∙ (ap (option_map state) (sym (set-apart mid k station new other)) ∙ (sym (slice_get-map state (slice_set mid k new) station) ∙ is)))
  ];
}

-- BACK IN THE BENCH

-- the same of which device it is
pub boxes-back : {X A : Type 0} (state : X → DeviceState) (g : A → ℕ) (all left : List A) (n : ℕ) (a : A) (device : X) (bench first : List X)
    → take (suc n) all ≡ left ++ a ∷ [] → length left ≡ n → (state device).identity ≡ g a
    → identities_of (map state bench) ≡ map g (drop (suc n) all) ++ identities_of (map state first)
    → identities_of (map state (device ∷ bench)) ≡ map g (drop n all) ++ identities_of (map state first)
boxes-back state g all left n a device bench first taken len is before =
    let dropped = (last-taken n all left a taken len).1 in
    ap (λ d. d ∷ identities_of (map state bench)) is ∙ (ap (λ ds. g a ∷ ds) before ∙ ap (λ xs. map g xs ++ identities_of (map state first)) (sym dropped))

-- the last of the first n + 1 stands at place n
pub last-at : {X : Type 0} (n : ℕ) (xs left : List X) (x : X) → take (suc n) xs ≡ left ++ x ∷ [] → length left ≡ n → slice_get xs n ≡ Some x
last-at n xs left x taken len = sym (get-drop xs n) ∙ ap (λ ys. slice_get ys 0) (last-taken n xs left x taken len).1
