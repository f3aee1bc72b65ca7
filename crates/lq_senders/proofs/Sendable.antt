-- The packets of a capture under a plan are numbered by rank.
use Rattle.std.proofs.Common.{◌≡◌, inl, inr, ℕ, zero, suc, ◌+◌, ◌<◌, ◌≤◌, ◌&&◌, ◌==◌, Bool, true, List, [], ◌∷◌, length, map, take, Some, refl, sym, ap, ◌∙◌, subst, cond, arith, slice_get, count_by, eq-eqb}
use Rattle.std.proofs.lemmas.Bool.{and_from, cases_order}
use Rattle.std.proofs.lemmas.List.{length-map, take-append-le, take-map, take_all}
use Rattle.std.proofs.lemmas.List.Sums.{sum_by-cons, count_by_more_yes}
use Rattle.std.proofs.lemmas.Option.{get_or_from_slice_get, same_Some, slice_get_cases, slice_get_within}
use Rattle.std.specs.Option.{option_map_or}
use Rattle.lq_control.specs.Finish.{AreRanks, count_below, is_packet_of}
use Rattle.lq_model.proofs.FirstNumbers.{first-at, length-first_numbers}
use Rattle.lq_model.specs.Capture.{Packets}
use Rattle.lq_model.specs.Numbers.{first_numbers}
use Rattle.lq_model.specs.Plan.{Plan, AreRanked, info_of, infos_of, owner_in, owner_of, queues_at, rank_in, station_in, station_of}
use Rattle.lq_model.specs.declared.fate.Info.{Info}
use Rattle.lq_plan.specs.Packets.{IsInfoWithin}
use Rattle.lq_senders.specs.Senders.{IsSendable}
use Rattle.lq_senders.specs.Setup.{IsRunBy}
use Rattle.lq_senders.proofs.Seats.{all-at, mapped-at}

-- NUMBERS

take-numbers : (n k : ℕ) → k ≤ n → take k (first_numbers n) ≡ first_numbers k
take-numbers zero zero le = refl
take-numbers zero (suc k) le = absurd (omega arith)
take-numbers (suc n) k le = elim (cases_order k (suc n)) [
  | inl same ↦ subst (λ m. take m (first_numbers (suc n)) ≡ first_numbers m) (sym same) (take_all (suc n) (first_numbers (suc n)) (let long = length-first_numbers (suc n) in omega arith))
  | inr (inl less) ↦ take-append-le k (first_numbers n) (n ∷ []) (let long = length-first_numbers n in omega arith) ∙ take-numbers n k (omega arith)
  | inr (inr more) ↦ absurd (omega arith)
]

-- COUNTS

count-map : {X Y : Type 0} (p : Y → Bool) (f : X → Y) (xs : List X) → count_by p (map f xs) ≡ count_by (λ x. p (f x)) xs
count-map p f [] = refl
count-map p f (x ∷ xs) = sum_by-cons (λ y. cond (p y) 1 0) (f x) (map f xs) ∙ ap (λ n. cond (p (f x)) 1 0 + n) (count-map p f xs) ∙ sym (sum_by-cons (λ y. cond (p (f y)) 1 0) x xs)

pub count-later : {X : Type 0} (p : X → Bool) (xs : List X) (i n : ℕ) → i ≤ n → count_by p (take i xs) ≤ count_by p (take n xs)
count-later p xs zero n le = omega arith
count-later p [] (suc i) n le = omega arith
count-later p (x ∷ xs) (suc i) zero le = absurd (omega arith)
count-later p (x ∷ xs) (suc i) (suc n) le =
    let rest = count-later p xs i n (omega arith) in
    let a = sum_by-cons (λ y. cond (p y) 1 0) x (take i xs) in
    let b = sum_by-cons (λ y. cond (p y) 1 0) x (take n xs) in omega arith

-- RANKS

-- a rank counts the lower packets of the same owner and station
pub infos-have-ranks : (plan : Plan) (packets : Packets) → AreRanks (infos_of plan packets)
infos-have-ranks plan packets n info there =
    let f = info_of plan packets in
    let within : n < length (first_numbers packets.count) = subst (λ k. n < k) (length-map (first_numbers packets.count) f) (slice_get_within (infos_of plan packets) n info there) in
    let below : n < packets.count = subst (λ k. n < k) (length-first_numbers packets.count) within in
    let is : info ≡ f n = same_Some info (f n) (sym there ∙ mapped-at f (first_numbers packets.count) n n (first-at packets.count n below)) in
    let counted : (owner station : ℕ) → count_below (infos_of plan packets) owner station n ≡ count_by (λ m. (owner_of plan packets m == owner) && (station_of plan packets m == station)) (first_numbers n) =
    λ owner station. ap (count_by (is_packet_of owner station)) (take-map f n (first_numbers packets.count) ∙ ap (map f) (take-numbers packets.count n (omega arith)))
    ∙ count-map (is_packet_of owner station) f (first_numbers n) in
    subst (λ (i : Info). i.rank ≡ count_below (infos_of plan packets) i.owner i.station n) (sym is) (sym (counted (owner_of plan packets n) (station_of plan packets n)))

module _ (infos : List Info) (ranks : AreRanks infos) where
  pub owner-at : (n : ℕ) (info : Info) → slice_get infos n ≡ Some info → owner_in infos n ≡ info.owner
  owner-at n info there = ap (λ o. option_map_or (λ (i : Info). i.owner) o 0) there

  station-at : (n : ℕ) (info : Info) → slice_get infos n ≡ Some info → station_in infos n ≡ info.station
  station-at n info there = ap (λ o. option_map_or (λ (i : Info). i.station) o 0) there

  rank-at : (n : ℕ) (info : Info) → slice_get infos n ≡ Some info → rank_in infos n ≡ count_below infos info.owner info.station n
  rank-at n info there = ap (λ o. option_map_or (λ (i : Info). i.rank) o 0) there ∙ ranks n info there

  there : (n : ℕ) → n < length infos → (info : Info) × (slice_get infos n ≡ Some info)
  there n within = elim (slice_get_cases infos n).1 [ inl found ↦ (found.0, found.2) | inr past ↦ absurd (let none = past.0 in omega arith) ]

  -- of one owner and station the later packet has the higher rank
  rises : (m n : ℕ) → m < n → n < length infos → owner_in infos m ≡ owner_in infos n → station_in infos m ≡ station_in infos n → rank_in infos m < rank_in infos n
  rises m n before within owner station =
      let a = there m (omega arith) in let b = there n within in
      let o : a.0.owner ≡ b.0.owner = sym (owner-at m a.0 a.1) ∙ owner ∙ owner-at n b.0 b.1 in
      let s : a.0.station ≡ b.0.station = sym (station-at m a.0 a.1) ∙ station ∙ station-at n b.0 b.1 in
      let p = is_packet_of a.0.owner a.0.station in
      let own : p a.0 ≡ true = and_from (a.0.owner == a.0.owner) (a.0.station == a.0.station) (eq-eqb a.0.owner a.0.owner refl) (eq-eqb a.0.station a.0.station refl) in
      let one : count_by p (take (m + 1) infos) ≡ count_by p (take m infos) + 1 = count_by_more_yes p infos m a.0 (omega arith) (ap p (get_or_from_slice_get infos m a.0 a.0 a.1) ∙ own) in
      let later : count_by p (take (m + 1) infos) ≤ count_by p (take n infos) = count-later p infos (m + 1) n (omega arith) in
      let first = rank-at m a.0 a.1 in
      let second : rank_in infos n ≡ count_by p (take n infos) = rank-at n b.0 b.1 ∙ ap (λ owner'. count_below infos owner' b.0.station n) (sym o) ∙ ap (λ station'. count_below infos a.0.owner station' n) (sym s) in
      omega arith

  pub ranked : AreRanked infos
  ranked m n m_in n_in owner station less = elim (cases_order m n) [
    | inl same ↦ absurd (let e : rank_in infos m ≡ rank_in infos n = ap (rank_in infos) same in omega arith)
    | inr (inl before) ↦ before
    | inr (inr later) ↦ absurd (let more = rises n m later m_in (sym owner) (sym station) in omega arith)
  ]

  pub one-rank : (m n : ℕ) → m < length infos → n < length infos → owner_in infos m ≡ owner_in infos n → station_in infos m ≡ station_in infos n → rank_in infos m ≡ rank_in infos n → m ≡ n
  one-rank m n m_in n_in owner station same = elim (cases_order m n) [
    | inl equal ↦ equal
    | inr (inl before) ↦ absurd (let more = rises m n before n_in owner station in omega arith)
    | inr (inr later) ↦ absurd (let more = rises n m later m_in (sym owner) (sym station) in omega arith)
  ]

-- A RUN

-- the packets of a capture under a plan can be sent
pub sendable : (plan : Plan) (infos : List Info) → IsRunBy plan infos → IsSendable plan infos
sendable plan infos run = record {
  few = run.few;
  within = run.within;
  made = λ j below. record {
    owners = λ n inside. let t = there infos ranks n inside in subst (λ o. o < plan.senders) (sym (owner-at infos ranks n t.0 t.1)) (all-at (IsInfoWithin plan) infos n t.0 run.within t.1).owner;
    bands = λ n inside. let t = there infos ranks n inside in subst (λ b. b < 3) (sym (ap (λ o. option_map_or (λ (i : Info). i.band) o 0) t.1)) (all-at (IsInfoWithin plan) infos n t.0 run.within t.1).band;
    queues_are = λ n inside of.
        let t = there infos ranks n inside in
        let own : t.0.station ≡ j = ap (λ o. option_map_or (λ (i : Info). i.station) o 0) (sym t.1) ∙ of in
        subst (λ q. q < queues_at plan.stations j) (sym (ap (λ o. option_map_or (λ (i : Info). i.queue) o 0) t.1))
        (subst (λ k. t.0.queue < queues_at plan.stations k) own (all-at (IsInfoWithin plan) infos n t.0 run.within t.1).queue);
    ranked = ranked infos ranks;
    one_rank = one-rank infos ranks;
  };
  ranks = ranks;
}
  where
    ranks : AreRanks infos
    ranks = subst AreRanks (sym run.infos_are) (infos-have-ranks plan run.packets)
