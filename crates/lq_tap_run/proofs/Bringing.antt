-- What a sender brings, packet by packet.
use Rattle.std.proofs.Common.{◌≡◌, ◌<◌, ◌≤◌, ◌+◌, ◌*◌, ◌/◌, ◌%◌, ◌++◌, ◌∷◌, [], ◌&&◌, ℕ, true, false, eqb, ltb, List, vec_len, refl, sym, ap, ◌∙◌, arith, inl, inr, eq-eqb, ne_eqb}
use Rattle.std.proofs.Math.Nat.{mul-le-mul_left}
use Rattle.std.proofs.lemmas.Bool.{cases_Bool, cases_eq, cases_lt, le-ltb, lt-ltb}
use Rattle.std.proofs.lemmas.List.{map-append}
use Rattle.lq_band_laws.specs.Times.{times}
use Rattle.lq_band_laws.proofs.Times.{times_append}
use Rattle.lq_tap.specs.Told.{having_found_full, having_joined, having_put}
use Rattle.lq_tap.specs.Views.{Setup, View}
use Rattle.lq_tap.specs.Sees.{IsSenderOf, view}
use Rattle.lq_tap.specs.declared.shared.Tap.{Tap}
use Rattle.lq_tap.specs.declared.shared.TapSeat.{TapSeat}
use Rattle.lq_tap_run.specs.Lanes.{CanPut, HasBrought, LaneStandsAt, brought_by_lane, numbers_of, one_where}
use Rattle.lq_tap_run.specs.declared.lanes.Lane.{Lane}

-- REMAINDERS

-- of the numbers from n on below n + s, only n has its remainder
pub same_rest : (s n m : ℕ) → 0 < s → n ≤ m → m < n + s → m % s ≡ n % s → m ≡ n
same_rest s n m pos le lt same = elim (cases_lt (n / s) (m / s)) [
  | inl more ↦ (let up : n / s + 1 ≤ m / s = omega arith in absurd (omega (arith, mul-le-mul_left s up)))
  | inr rest ↦ (let down : m / s ≤ n / s = omega arith in omega (arith, mul-le-mul_left s down))
]

pub rest_on : (s n sender : ℕ) → 0 < s → n % s ≡ sender → (n + s) % s ≡ sender
rest_on s n sender pos mine =
    let lt : (n + s) % s < s = omega arith in
    let lt_n : n % s < s = omega arith in
    let same : (n + s) % s ≡ n % s = (elim (cases_lt ((n + s) / s) (n / s + 1)) [
      | inl less ↦ (let down : (n + s) / s ≤ n / s = omega arith in absurd (omega (arith, mul-le-mul_left s down)))
      | inr more ↦ (elim (cases_lt (n / s + 1) ((n + s) / s)) [
        | inl over ↦ (let up : n / s + 2 ≤ (n + s) / s = omega arith in absurd (omega (arith, mul-le-mul_left s up)))
        | inr under ↦ (let is : (n + s) / s ≡ n / s + 1 = omega arith in omega (arith, ap (λ k. s * k) is))
      ])
    ]) in
    same ∙ mine

-- HOW OFTEN

abbrev own : ℕ → ℕ → ℕ → ℕ → ℕ
own senders sender n m = one_where (eqb (m % senders) sender && ltb m n)

-- the next of a sender's packets is the one that is new below the one after it
own_more : (s sender n m : ℕ) → 0 < s → n % s ≡ sender → own s sender (n + s) m ≡ own s sender n m + one_where (eqb m n)
own_more s sender n m pos mine = elim (cases_eq m n) [
  | inl here ↦
      let is : eqb (m % s) sender ≡ true = eq-eqb (m % s) sender (ap (λ k. k % s) here ∙ mine) in
      let below : ltb m (n + s) ≡ true = lt-ltb m (n + s) (omega arith) in
      let not_yet : ltb m n ≡ false = le-ltb m n (omega arith) in
      let one : eqb m n ≡ true = eq-eqb m n here in
      rw (is, below, not_yet, one) refl
  | inr other ↦
      let none : eqb m n ≡ false = ne_eqb m n other in
      elim (cases_Bool (eqb (m % s) sender)) [
        | inr theirs ↦ rw (theirs, none) refl
        | inl mine_too ↦ elim (cases_lt m n) [
          | inl lt ↦ (let before : ltb m n ≡ true = lt-ltb m n lt in let below : ltb m (n + s) ≡ true = lt-ltb m (n + s) (omega arith) in rw (mine_too, none, before, below) refl)
          | inr ge ↦ elim (cases_lt m (n + s)) [
            | inl lt ↦ absurd (other (same_rest s n m pos ge lt (rest_is mine_too ∙ sym mine)))
            | inr past ↦ (let not_yet : ltb m n ≡ false = le-ltb m n ge in let later : ltb m (n + s) ≡ false = le-ltb m (n + s) past in rw (mine_too, none, not_yet, later) refl)
          ]
        ]
      ]
]
  where
    rest_is : eqb (m % s) sender ≡ true → m % s ≡ sender
    rest_is same = elim (cases_eq (m % s) sender) [ inl e ↦ e | inr apart ↦ absurd (let f : eqb (m % s) sender ≡ false = ne_eqb (m % s) sender apart in let t : true ≡ false = sym same ∙ f in cc) ]

-- a packet more was put, or found full
pub times_more : (m n : ℕ) (xs : List ℕ) → times m (xs ++ n ∷ []) ≡ times m xs + one_where (eqb m n)
times_more m n xs = times_append m xs (n ∷ []) ∙ omega arith

pub numbers_more : (m n seen : ℕ) (fulls : List (ℕ × ℕ)) → times m (numbers_of (fulls ++ (n, seen) ∷ [])) ≡ times m (numbers_of fulls) + one_where (eqb m n)
numbers_more m n seen fulls = ap (times m) (map-append (λ (f : ℕ × ℕ). f.0) fulls ((n, seen) ∷ [])) ∙ times_more m n (numbers_of fulls)

pub brought_put : (m n : ℕ) (v : View) → brought_by_lane m (having_put n v) ≡ brought_by_lane m v + one_where (eqb m n)
brought_put m n v = let more = times_more m n v.sender.puts in omega arith

pub brought_full : (m n seen : ℕ) (v : View) → brought_by_lane m (having_found_full n seen v) ≡ brought_by_lane m v + one_where (eqb m n)
brought_full m n seen v = let more = numbers_more m n seen v.sender.fulls in omega arith

pub brought_joined : (m : ℕ) (from v : View) → brought_by_lane m (having_joined from v) ≡ brought_by_lane m v + brought_by_lane m from
brought_joined m from v =
    let puts = times_append m v.sender.puts from.sender.puts in
    let fulls : times m (numbers_of (v.sender.fulls ++ from.sender.fulls)) ≡ times m (numbers_of v.sender.fulls) + times m (numbers_of from.sender.fulls) =
    ap (times m) (map-append (λ (f : ℕ × ℕ). f.0) v.sender.fulls from.sender.fulls) ∙ times_append m (numbers_of v.sender.fulls) (numbers_of from.sender.fulls) in
    omega arith

-- the next packet is brought
pub brings :
    (packets senders sender n : ℕ) (v new : View) → 0 < senders → n % senders ≡ sender → n < packets → HasBrought packets senders sender n v
    → ((m : ℕ) → brought_by_lane m new ≡ brought_by_lane m v + one_where (eqb m n)) → HasBrought packets senders sender (n + senders) new
brings packets senders sender n v new pos mine lt has more = record {
  once = λ m. more m ∙ ap (λ k. k + one_where (eqb m n)) (has.once m) ∙ sym (own_more senders sender n m pos mine);
  below = λ m past. (
      let none : one_where (eqb m n) ≡ 0 = ap one_where (ne_eqb m n (λ e. omega arith)) in
      let old : brought_by_lane m v ≡ 0 = has.below m past in
      let is = more m in omega arith
      );
}

-- A SENDER'S SEAT

module _ (tap : Tap) (packets senders sender k n : ℕ) (lane : Lane) (may : CanPut tap packets senders) (below : n < packets) (stands : LaneStandsAt tap packets senders sender k n lane) where
  some_senders : 0 < senders
  some_senders = may.few_senders.0

  senders_are : (view lane.seat).about.senders ≡ senders
  senders_are = ap (λ (s : Setup). s.senders) stands.seat.0.1 ∙ may.made.2

  number_on : n + senders ≡ sender + (k + 1) * senders
  number_on = ap (λ m. m + senders) stands.number ∙ omega arith

  pub stands_put : (seat : TapSeat) → IsSenderOf tap seat → view seat ≡ having_put n (view lane.seat) → LaneStandsAt tap packets senders sender (k + 1) (n + senders) (record lane { seat = seat })
  stands_put seat is sees = record {
    seat = is;
    going = ap (λ (v : View). v.sender.going) sees ∙ stands.going;
    next = ap (λ (v : View). v.sender.next) sees ∙ ap (λ m. m + (view lane.seat).about.senders) stands.next ∙ ap (λ s. n + s) senders_are;
    number = number_on;
    mine = rest_on senders n sender some_senders stands.mine;
    fulls = stands.fulls ∙ ap (λ (v : View). v.sender.fulls) (sym sees);
    few = (let few = stands.few in omega arith);
    has = brings packets senders sender n (view lane.seat) (view seat) some_senders stands.mine below stands.has (λ m. ap (brought_by_lane m) sees ∙ brought_put m n (view lane.seat));
  }

  pub stands_full :
      (seen : ℕ) (new : Lane) → IsSenderOf tap new.seat → view new.seat ≡ having_found_full n seen (view lane.seat) → new.full.items ≡ lane.full.items ++ (n, seen) ∷ [] → vec_len new.full ≡ vec_len lane.full + 1
      → LaneStandsAt tap packets senders sender (k + 1) (n + senders) new
  stands_full seen new is sees items len = record {
    seat = is;
    going = ap (λ (v : View). v.sender.going) sees ∙ stands.going;
    next = ap (λ (v : View). v.sender.next) sees ∙ ap (λ m. m + (view lane.seat).about.senders) stands.next ∙ ap (λ s. n + s) senders_are;
    number = number_on;
    mine = rest_on senders n sender some_senders stands.mine;
    fulls = items ∙ ap (λ (fs : List (ℕ × ℕ)). fs ++ (n, seen) ∷ []) stands.fulls ∙ ap (λ (v : View). v.sender.fulls) (sym sees);
    few = (let few = stands.few in omega arith);
    has = brings packets senders sender n (view lane.seat) (view new.seat) some_senders stands.mine below stands.has (λ m. ap (brought_by_lane m) sees ∙ brought_full m n seen (view lane.seat));
  }
