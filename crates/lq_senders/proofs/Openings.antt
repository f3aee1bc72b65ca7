-- Stations are opened over the devices of a bench.
use Rattle.std.proofs.Common.{◌≡◌, inl, inr, ℕ, zero, suc, ◌+◌, ◌-◌, ◌<◌, ◌≤◌, false, List, [], ◌∷◌, ◌++◌, length, refl, ap, arith, Some, sym, ◌∙◌, subst, map, take, drop, slice_get, slice_index_or, drop-drop, length-append}
use Rattle.std.proofs.lemmas.List.{take-append-drop}
use Rattle.std.proofs.lemmas.Option.{same_Some, slice_get_within, slice_get_cases}
use Rattle.lq_model.specs.Device.{DeviceState}
use Rattle.lq_model.specs.Plan.{Plan}
use Rattle.lq_model.specs.declared.fate.Info.{Info}
use Rattle.lq_seat.specs.Ends.{MayCloseBy}
use Rattle.lq_seat.specs.State.{IsTableOf, SeatState, Setup, TableState, new_seat, station_count}
use Rattle.lq_senders.specs.Fates.{identities_of}
use Rattle.lq_senders.specs.Setup.{AreConfigured, AreOpened, AreWhole, IsOpenedAt, origins_of}
use Rattle.lq_senders.proofs.Benches.{configured-at, first-left}
use Rattle.lq_senders.proofs.Seats.{mapped-at}
use Rattle.lq_senders.proofs.Turns.{event-there}

-- TWO LISTS

-- so of each pair at one place, and of one pair more at their ends
pub pairs-more : {X Y : Type 0} (R : ℕ → X → Y → Type 0) (xs : List X) (ys : List Y) (x : X) (y : Y) → length ys ≡ length xs
    → ((j : ℕ) (a : X) (b : Y) → slice_get xs j ≡ Some a → slice_get ys j ≡ Some b → R j a b) → R (length xs) x y
    → (j : ℕ) (a : X) (b : Y) → slice_get (xs ++ x ∷ []) j ≡ Some a → slice_get (ys ++ y ∷ []) j ≡ Some b → R j a b
pairs-more R [] [] x y long each new zero a b at at' = subst (λ u. R 0 u b) (same_Some x a at) (subst (λ w. R 0 x w) (same_Some y b at') new)
pairs-more R [] [] x y long each new (suc j) a b at at' = cc
pairs-more R [] (w ∷ ys) x y long each new j a b at at' = absurd (omega arith)
pairs-more R (v ∷ xs) [] x y long each new j a b at at' = absurd (omega arith)
pairs-more R (v ∷ xs) (w ∷ ys) x y long each new zero a b at at' = each 0 a b at at'
pairs-more R (v ∷ xs) (w ∷ ys) x y long each new (suc j) a b at at' = pairs-more (λ k. R (suc k)) xs ys x y (omega arith) (λ k. each (suc k)) new j a b at at'

-- ONE STATION

-- what the next device of the bench was configured to be
pub fresh-device : {X : Type 0} (state : X → DeviceState) (plan : Plan) (infos : List Info) (before : List DeviceState) (k : ℕ) (all left : List X) (device : X)
    → AreConfigured plan infos (length plan.stations) before (map state all) → k < length plan.stations
    → left ≡ drop k all → 0 < length left → device ≡ slice_index_or left 0 device
    → (((state device).accepted ≡ []) × ((state device).asked ≡ []) × ((state device).hung ≡ false)) × (station_count infos k ≤ (state device).spare)
fresh-device state plan infos before k all left device configured below rest some is =
    let s = event-there plan.stations k below in
    let known = configured-at plan infos before (map state all) k s.0 (state device) configured s.1 (mapped-at state all k device (first-left k all left device rest some is)) in
    ((known.2.accepted, known.2.asked, known.2.hung), known.2.spare)

pub opened-here : (plan : Plan) (infos : List Info) (devices : List DeviceState) (j : ℕ) (device : DeviceState) (t : TableState) (c : SeatState)
    → slice_get devices j ≡ Some device → IsTableOf plan infos j t → c ≡ new_seat t.id t.made device → IsOpenedAt plan infos devices j t c
opened-here plan infos devices j device t c there table is = subst (IsOpenedAt plan infos devices j t) (sym is) (record {
  table = table;
  seat = record { table = refl; made = refl };
  device = there;
  view_is = ap (λ (k : Setup). new_seat t.id k device) table.setup_is;
})

pub opened-more : (plan : Plan) (infos : List Info) (devices : List DeviceState) (tables : List TableState) (seats : List SeatState) (t : TableState) (c : SeatState)
    → AreOpened plan infos devices tables seats → IsOpenedAt plan infos devices (length tables) t c → AreOpened plan infos devices (tables ++ t ∷ []) (seats ++ c ∷ [])
opened-more plan infos devices tables seats t c opened new = record {
  long = let long = opened.long in omega (arith, length-append tables (t ∷ []), length-append seats (c ∷ []));
  each = pairs-more (IsOpenedAt plan infos devices) tables seats t c opened.long opened.each new;
}

-- WHERE THERE WAS NO ROOM

pub drop-map : {X Y : Type 0} (f : X → Y) (k : ℕ) (xs : List X) → map f (drop k xs) ≡ drop k (map f xs)
drop-map f zero xs = refl
drop-map f (suc k) [] = refl
drop-map f (suc k) (x ∷ xs) = drop-map f k xs

pub states-left : {X : Type 0} (state : X → DeviceState) (all left : List X) (k : ℕ) → left ≡ drop k all → map state left ≡ drop k (map state all)
states-left state all left k rest = ap (map state) rest ∙ drop-map state k all

-- the device that was taken out came back
pub states-back : {X : Type 0} (state : X → DeviceState) (all left rest : List X) (k : ℕ) (device back : X) → left ≡ drop k all → 0 < length left
    → device ≡ slice_index_or left 0 device → rest ≡ drop 1 left → state back ≡ state device → map state (back ∷ rest) ≡ drop k (map state all)
states-back state all [] rest k device back left_is some is rest_is same = absurd (omega arith)
states-back state all (x ∷ left) rest k device back left_is some is rest_is same =
    ap (λ d. d ∷ map state rest) (same ∙ ap state is) ∙ (ap (λ xs. state x ∷ map state xs) rest_is ∙ states-left state all (x ∷ left) k left_is)

pub others-back : {X : Type 0} (all left rest : List X) (k n : ℕ) (back : X) → left ≡ drop k all → rest ≡ drop 1 left → k < n → drop (n - k) (back ∷ rest) ≡ drop n all
others-back all left rest k n back left_is rest_is below =
    let more : n - k ≡ suc (n - (k + 1)) = omega arith in
    let whole : (k + 1) + (n - (k + 1)) ≡ n = omega arith in
    ap (λ m. drop m (back ∷ rest)) more
    ∙ (ap (drop (n - (k + 1))) (rest_is ∙ (ap (drop 1) left_is ∙ drop-drop 1 k all))
    ∙ (drop-drop (n - (k + 1)) (k + 1) all ∙ ap (λ m. drop m all) whole))

-- WHAT COMES BACK

firsts-are : {X Y : Type 0} (h : X → Y) (g : Y → ℕ) (xs : List X) (ys : List Y) → ((j : ℕ) (x : X) → slice_get xs j ≡ Some x → slice_get ys j ≡ Some (h x))
    → map (λ x. g (h x)) xs ≡ take (length xs) (map g ys)
firsts-are h g [] ys each = refl
firsts-are {X} {Y} h g (x ∷ xs) [] each = let bad : slice_get {X = Y} [] 0 ≡ Some (h x) = each 0 x refl in cc
firsts-are h g (x ∷ xs) (y ∷ ys) each =
    ap (λ z. g z ∷ map (λ w. g (h w)) xs) (sym (same_Some y (h x) (each 0 x refl))) ∙ ap (λ zs. g y ∷ zs) (firsts-are h g xs ys (λ j. each (suc j)))

-- the devices of opened stations are those that came
pub origins-are : (plan : Plan) (infos : List Info) (devices : List DeviceState) (tables : List TableState) (seats : List SeatState) → AreOpened plan infos devices tables seats
    → origins_of seats ≡ take (length tables) (identities_of devices)
origins-are plan infos devices tables seats opened =
    firsts-are (λ (c : SeatState). c.origin) (λ (d : DeviceState). d.identity) seats devices (λ j c at'. elim (slice_get_cases tables j).1 [
      | inl (t, inside, at, same) ↦ (opened.each j t c at at').device
      | inr (past, nothing) ↦ absurd (let inside = slice_get_within seats j c at' in let long = opened.long in omega arith)
    ])
    ∙ ap (λ k. take k (identities_of devices)) opened.long

pub whole-opened : (plan : Plan) (infos : List Info) (devices : List DeviceState) (tables : List TableState) (seats : List SeatState) → AreOpened plan infos devices tables seats → AreWhole tables seats
whole-opened plan infos devices tables seats opened = record {
  long = opened.long;
  each = λ j t c at at'. let here = opened.each j t c at at' in record { seat = here.seat; may = subst MayCloseBy (sym here.view_is) (record { first = refl; raised = refl; sole = (refl, refl) }) };
}

-- and each box is in its place again
pub boxes-again : {X : Type 0} (state : X → DeviceState) (plan : Plan) (infos : List Info) (old mid new : List X) (tables : List TableState) (seats : List SeatState)
    → AreOpened plan infos (map state old) tables seats → map state mid ≡ drop (length tables) (map state old)
    → identities_of (map state new) ≡ origins_of seats ++ identities_of (map state mid) → identities_of (map state new) ≡ identities_of (map state old)
boxes-again state plan infos old mid new tables seats opened left laid =
    laid
    ∙ (ap (λ ids. ids ++ identities_of (map state mid)) (origins-are plan infos (map state old) tables seats opened)
    ∙ (ap (λ ds. take (length tables) (identities_of (map state old)) ++ identities_of ds) left
    ∙ (ap (λ ids. take (length tables) (identities_of (map state old)) ++ ids) (drop-map (λ (d : DeviceState). d.identity) (length tables) (map state old))
    ∙ take-append-drop (length tables) (identities_of (map state old)))))

pub rest-again : {X : Type 0} (k n : ℕ) (old mid new : List X) → k ≤ n → drop k new ≡ mid → drop (n - k) mid ≡ drop n old → drop n new ≡ drop n old
rest-again k n old mid new within laid others =
    let whole : k + (n - k) ≡ n = omega arith in
    ap (λ m. drop m new) (sym whole) ∙ (sym (drop-drop (n - k) k new) ∙ (ap (drop (n - k)) laid ∙ others))

-- the stations' devices and the others stand where they stood
pub boxes-whole : {X : Type 0} (state : X → DeviceState) (n : ℕ) (old mid rest new : List X) → rest ≡ drop n mid → drop n mid ≡ drop n old
    → identities_of (map state new) ≡ take n (identities_of (map state old)) ++ identities_of (map state rest) → identities_of (map state new) ≡ identities_of (map state old)
boxes-whole state n old mid rest new left same laid =
    laid
    ∙ (ap (λ xs. take n (identities_of (map state old)) ++ identities_of (map state xs)) (left ∙ same)
    ∙ (ap (λ ids. take n (identities_of (map state old)) ++ ids) (ap identities_of (drop-map state n old) ∙ drop-map (λ (d : DeviceState). d.identity) n (map state old))
    ∙ take-append-drop n (identities_of (map state old))))
