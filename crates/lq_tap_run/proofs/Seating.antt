-- The seats of a run, split before it and joined after it.
use Rattle.std.proofs.Common.{◌≡◌, ◌<◌, ◌+◌, ◌%◌, ◌++◌, ◌∷◌, [], ◌&&◌, ℕ, Bool, true, false, eqb, leb, ltb, List, All, length, take, drop, slice_get, get_or, vec_len, refl, sym, ap, ◌∙◌, subst, arith, inl, inr, eq-eqb, ne_eqb}
use Rattle.std.proofs.Math.Dec.{leb-zero}
use Rattle.std.proofs.Math.Nat.{mod-eq_of_lt}
use Rattle.std.proofs.lemmas.Bool.{cases_eq, cases_lt, le-leb, lt-leb, le-ltb}
use Rattle.std.proofs.lemmas.List.{take_at}
use Rattle.std.proofs.lemmas.List.Elements.{All-from_get_or, Contains-get_or}
use Rattle.lq_account_laws.proofs.Lists.{get-push-new, get-push-cases, get-push-old}
use Rattle.lq_band_laws.specs.Times.{times}
use Rattle.lq_band_laws.proofs.Times.{times_in}
use Rattle.lq_tap.specs.Sees.{IsSenderOf, setup, view}
use Rattle.lq_tap.specs.Told.{having_joined}
use Rattle.lq_tap.specs.Views.{View, sender_view}
use Rattle.lq_tap.specs.declared.shared.Tap.{Tap}
use Rattle.lq_tap_run.specs.Lanes.{AreDone, AreReady, LaneHasRoom, IsLaneDone, IsLaneReady, brought_by_lane, numbers_of, one_where}
use Rattle.lq_tap_run.specs.declared.lanes.Lane.{Lane}
use Rattle.lq_tap_run.proofs.Bringing.{brought_joined}

-- a slice of a whole list, written back
pub written_back : {X : Type 0} (new old : List X) (n : ℕ) → length new ≡ n → take n (new ++ drop (length new) old) ≡ new
written_back new old n long = take_at new (drop (length new) old) n long

-- READY

rest_small : (s n : ℕ) → n < s → n % s ≡ n
rest_small s n lt = mod-eq_of_lt lt

none_before : (s sender m : ℕ) → sender < s → 0 ≡ one_where (eqb (m % s) sender && ltb m sender)
none_before s sender m lt = elim (cases_lt m sender) [
  | inl before ↦ (
      let own : m % s ≡ m = rest_small s m (omega arith) in
      let other : eqb (m % s) sender ≡ false = ne_eqb (m % s) sender (λ e. (let same : m ≡ sender = sym own ∙ e in omega arith)) in
      rw other refl)
  | inr past ↦ (let none : ltb m sender ≡ false = le-ltb m sender past in rw none (both_none (eqb (m % s) sender)))
]
  where
    both_none : (b : Bool) → 0 ≡ one_where (b && false)
    both_none true = refl
    both_none false = refl

-- a sender that has brought nothing
pub ready_lane :
    (tap : Tap) (packets senders sender : ℕ) (lane : Lane) → sender < senders → IsSenderOf tap lane.seat → view lane.seat ≡ sender_view (setup tap) sender → lane.full.items ≡ [] → vec_len lane.full ≡ 0
    → LaneHasRoom packets senders lane → IsLaneReady tap packets senders sender lane
ready_lane tap packets senders sender lane lt seat sees items none room = record {
  below = lt;
  stands = record {
    seat = seat;
    going = ap (λ (v : View). v.sender.going) sees;
    next = ap (λ (v : View). v.sender.next) sees;
    number = omega arith;
    mine = rest_small senders sender lt;
    fulls = items ∙ sym (ap (λ (v : View). v.sender.fulls) sees);
    few = omega arith;
    has = record {
      once = λ m. ap (brought_by_lane m) sees ∙ none_before senders sender m lt;
      below = λ m past. ap (brought_by_lane m) sees;
    };
  };
  room = room;
}

pub one_more_ready :
    (tap : Tap) (packets senders : ℕ) (lanes : List Lane) (lane : Lane) → AreReady tap packets senders lanes → IsLaneReady tap packets senders (length lanes) lane → AreReady tap packets senders (lanes ++ lane ∷ [])
one_more_ready tap packets senders lanes lane are is i l at = elim (get-push-cases lanes lane l i at) [
  | inl old ↦ are i l old
  | inr new ↦ subst (IsLaneReady tap packets senders i) new.1 (subst (λ k. IsLaneReady tap packets senders k lane) (sym new.0) is)
]

-- JOINED

-- the last of the lanes that are left
pub last_done : (tap : Tap) (packets senders : ℕ) (lanes rest : List Lane) (lane : Lane) → AreDone tap packets senders lanes → lanes ≡ rest ++ lane ∷ [] → IsLaneDone tap packets senders (length rest) lane
last_done tap packets senders lanes rest lane are is = are (length rest) lane (ap (λ (ls : List Lane). slice_get ls (length rest)) is ∙ get-push-new rest lane)

pub rest_done : (tap : Tap) (packets senders : ℕ) (lanes rest : List Lane) (lane : Lane) → AreDone tap packets senders lanes → lanes ≡ rest ++ lane ∷ [] → AreDone tap packets senders rest
rest_done tap packets senders lanes rest lane are is i l at = are i l (ap (λ (ls : List Lane). slice_get ls i) is ∙ get-push-old rest (lane ∷ []) l i at)

-- those that a sender found full are packets
pub full_below : (tap : Tap) (packets senders sender count : ℕ) (lane : Lane) → IsLaneDone tap packets senders sender lane → count ≡ packets → All (λ n. n < count) (numbers_of lane.full.items)
full_below tap packets senders sender count lane done same = All-from_get_or (λ n. n < count) (numbers_of lane.full.items) 0 (λ i lt. (
    let n = get_or (numbers_of lane.full.items) i 0 in
    let some : 0 < times n (numbers_of lane.full.items) = times_in n (numbers_of lane.full.items) (Contains-get_or (numbers_of lane.full.items) i 0 lt) in
    let there : times n (numbers_of lane.full.items) ≡ times n (numbers_of (view lane.seat).sender.fulls) = ap (λ (fs : List (ℕ × ℕ)). times n (numbers_of fs)) done.fulls in
    elim (cases_lt n packets) [
      | inl below ↦ subst (λ k. n < k) (sym same) below
      | inr past ↦ (
          let none : ltb n packets ≡ false = le-ltb n packets past in
          let zero_of : brought_by_lane n (view lane.seat) ≡ 0 = done.once n ∙ rw none (both_none (eqb (n % senders) sender)) in
          absurd (omega arith))
    ]
    ))
  where
    both_none : (b : Bool) → one_where (b && false) ≡ 0
    both_none true = refl
    both_none false = refl

one_of : (i r : ℕ) (b : Bool) → one_where (leb (i + 1) r && b) + one_where (eqb r i && b) ≡ one_where (leb i r && b)
one_of i r b = elim (cases_eq r i) [
  | inl same ↦ (let a : leb (i + 1) r ≡ false = lt-leb (i + 1) r (omega arith) in let e : eqb r i ≡ true = eq-eqb r i same in let d : leb i r ≡ true = le-leb i r (omega arith) in rw (a, e, d) (omega arith))
  | inr apart ↦
      let e : eqb r i ≡ false = ne_eqb r i apart in
      elim (cases_lt i r) [
        | inl lt ↦ (let a : leb (i + 1) r ≡ true = le-leb (i + 1) r (omega arith) in let d : leb i r ≡ true = le-leb i r (omega arith) in rw (a, e, d) (omega arith))
        | inr ge ↦ (let a : leb (i + 1) r ≡ false = lt-leb (i + 1) r (omega arith) in let d : leb i r ≡ false = lt-leb i r (omega arith) in rw (a, e, d) refl)
      ]
]

-- one lane more
pub once_joined :
    (packets senders i : ℕ) (from v new : View) → new ≡ having_joined from v → ((m : ℕ) → brought_by_lane m v ≡ one_where (leb (i + 1) (m % senders) && ltb m packets))
    → ((m : ℕ) → brought_by_lane m from ≡ one_where (eqb (m % senders) i && ltb m packets)) → (m : ℕ) → brought_by_lane m new ≡ one_where (leb i (m % senders) && ltb m packets)
once_joined packets senders i from v new is old theirs m =
    ap (brought_by_lane m) is ∙ brought_joined m from v ∙ (let a = old m in let b = theirs m in let c = one_of i (m % senders) (ltb m packets) in omega arith)

-- after the last
pub all_joined : (packets senders m : ℕ) → one_where (leb 0 (m % senders) && ltb m packets) ≡ one_where (ltb m packets)
all_joined packets senders m = rw (leb-zero (m % senders)) refl
