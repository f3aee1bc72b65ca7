-- The packets that a card accepted, turn by turn.
use Rattle.std.proofs.Common.{◌≡◌, ℕ, zero, suc, ◌+◌, ◌-◌, ◌<◌, ◌≤◌, ◌==◌, true, List, [], ◌∷◌, ◌++◌, drop, length, nat_lt, slice_get, inl, inr, refl, sym, ap, ap₂, ◌∙◌, arith}
use Rattle.std.proofs.lemmas.List.{append-nil, append_assoc, drop_all}
use Rattle.std.proofs.lemmas.Bool.{cases_lt, cond-false, cond-true, le-leb, lt-leb, ne_eqb}
use Rattle.std.specs.Option.{option_map_or}
use Rattle.lq_model.specs.Capture.{Packets}
use Rattle.lq_model.specs.Plan.{Plan}
use Rattle.lq_model.specs.Texts.{times_text}
use Rattle.lq_model.specs.Wire.{Wired, after_wired, finished_wired, first_wired, flights_of, flights_of_card, turned}
use Rattle.lq_model.specs.declared.fate.Info.{Info}
use Rattle.lq_model.specs.declared.flight.Flight.{Flight}
use Rattle.lq_model.specs.declared.plan.Card.{Card}
use Rattle.lq_model.specs.declared.plan.StationPlan.{StationPlan}
use Rattle.lq_wire.specs.Times.{HasGone, IsBeforePacket, flights_before, lines_left}
use Rattle.lq_wire.specs.Wired.{IsWired, load, none_told}
use Rattle.lq_wire.specs.declared.times.Times.{Times}
use Rattle.lq_wire.proofs.Lines.{lines-both}
use Rattle.lq_wire.proofs.Told.{finished-flights, told-on, turned-flights}

module _ (card : Card) (plan : Plan) (packets : Packets) (infos : List Info) (station : StationPlan) where
  abbrev at : ℕ → Wired
  at n = after_wired card plan packets infos (first_wired station) n

  abbrev before : ℕ → List Flight
  before n = flights_before card plan packets infos station n

  before-is : (n : ℕ) → n < packets.count → before n ≡ (at n).flights
  before-is n below = cond-true (nat_lt n packets.count) (at n).flights (flights_of_card card plan packets infos) (le-leb (suc n) packets.count (omega arith))

  -- those of the last packet
  all-are : plan.stations ≡ station ∷ [] → (n : ℕ) → n + 1 ≡ packets.count → flights_of_card card plan packets infos ≡ (finished_wired card plan packets infos n (at n)).flights
  unfolding flights_of_card
  all-are stations n last =
      let some : packets.count ≡ 0 → ⊥ = λ none. absurd (omega arith) in
      let same : packets.count - 1 ≡ n = omega arith in
      ap (λ (ss : List StationPlan). option_map_or (λ (s : StationPlan). flights_of card plan packets infos (first_wired s)) (slice_get ss 0) []) stations
      ∙ (cond-false (packets.count == 0) [] _ (ne_eqb packets.count 0 some) ∙ ap (λ (k : ℕ). (finished_wired card plan packets infos k (at k)).flights) same)

  before-all : plan.stations ≡ station ∷ [] → (n : ℕ) → n + 1 ≡ packets.count → before (n + 1) ≡ (finished_wired card plan packets infos n (at n)).flights
  before-all stations n last = cond-false (nat_lt (n + 1) packets.count) (at (n + 1)).flights (flights_of_card card plan packets infos) (lt-leb (suc (n + 1)) packets.count (omega arith)) ∙ all-are stations n last

  -- what was accepted from packet n on is what isn't told yet
  pub gone-flights : plan.stations ≡ station ∷ [] → (n : ℕ) (m : Times) → n < packets.count → HasGone m card plan packets infos station n → before (n + 1) ≡ before n ++ m.wired.wire.untold.items
  gone-flights stations n m there gone = elim (cases_lt (n + 1) packets.count) [
    | inl more ↦
        (let next : suc n ≡ n + 1 = omega arith in
        before-is (n + 1) more ∙ (ap (λ (k : ℕ). (at k).flights) (sym next)
        ∙ (turned-flights card plan packets infos n (at n) ∙ ap₂ (λ (xs ys : List Flight). xs ++ ys) (sym (before-is n there)) (sym (gone.next more).wire.flights))))
    | inr over ↦
        (let last : n + 1 ≡ packets.count = omega arith in
        before-all stations n last
        ∙ (finished-flights card plan packets infos n (at n) ∙ ap₂ (λ (xs ys : List Flight). xs ++ ys) (sym (before-is n there)) (sym (gone.last last).wire.flights)))
  ]

  -- those that are told by and by
  one-more : plan.stations ≡ station ∷ [] → (n : ℕ) → n < packets.count → (more : List Flight) × (before (n + 1) ≡ before n ++ more)
  one-more stations n there = elim (cases_lt (n + 1) packets.count) [
    | inl more ↦
        (let more-flights = (turned card plan packets infos n (none_told (at n))).wired.flights in let next : suc n ≡ n + 1 = omega arith in (
          more-flights,
          before-is (n + 1) more ∙ (ap (λ (k : ℕ). (at k).flights) (sym next)
              ∙ (turned-flights card plan packets infos n (at n) ∙ ap (λ (xs : List Flight). xs ++ more-flights) (sym (before-is n there)))),
        ))
    | inr over ↦
        (let more-flights = (finished_wired card plan packets infos n (none_told (at n))).flights in let last : n + 1 ≡ packets.count = omega arith in
        (more-flights, before-all stations n last ∙ (finished-flights card plan packets infos n (at n) ∙ ap (λ (xs : List Flight). xs ++ more-flights) (sym (before-is n there)))))
  ]

  -- are the first of all
  all-begin : plan.stations ≡ station ∷ [] → (left n : ℕ) → n + left ≡ packets.count → (more : List Flight) × (flights_of_card card plan packets infos ≡ before n ++ more)
  all-begin stations zero n is = ([], sym (append-nil (before n) ∙ cond-false (nat_lt n packets.count) (at n).flights _ (lt-leb (suc n) packets.count (omega arith))))
  all-begin stations (suc left) n is =
      let one = one-more stations n (omega arith) in let rest = all-begin stations left (n + 1) (omega arith) in
      (one.0 ++ rest.0, rest.1 ∙ (ap (λ (xs : List Flight). xs ++ rest.0) one.1 ∙ append_assoc (before n) one.0 rest.0))

  left-are : (n : ℕ) (more : List Flight) → flights_of_card card plan packets infos ≡ before n ++ more → lines_left card plan packets infos station n ≡ times_text card more
  left-are n more is = ap (times_text card) (ap (drop (length (before n))) is ∙ drop-first (before n) more)
    where
      drop-first : (xs ys : List Flight) → drop (length xs) (xs ++ ys) ≡ ys
      drop-first [] ys = refl
      drop-first (x ∷ xs) ys = drop-first xs ys

  eqb-of : (n : ℕ) → n ≡ 0 → (n == 0) ≡ true
  eqb-of n is = ap (λ (k : ℕ). k == 0) is

  none-come : plan.stations ≡ station ∷ [] → packets.count ≡ 0 → flights_of_card card plan packets infos ≡ []
  unfolding flights_of_card
  none-come stations none =
      ap (λ (ss : List StationPlan). option_map_or (λ (s : StationPlan). flights_of card plan packets infos (first_wired s)) (slice_get ss 0) []) stations ∙ cond-true (packets.count == 0) [] _ (eqb-of packets.count none)

  -- before the first packet all lines are left, and behind the last one none
  pub all-left : plan.stations ≡ station ∷ [] → lines_left card plan packets infos station 0 ≡ times_text card (flights_of_card card plan packets infos)
  all-left stations = elim (cases_lt 0 packets.count) [
    | inl some ↦ left-are 0 _ (sym (ap (λ (xs : List Flight). xs ++ flights_of_card card plan packets infos) (before-is 0 some)))
    | inr over ↦
        (let none : packets.count ≡ 0 = omega arith in let all = none-come stations none in
        left-are 0 [] (all ∙ sym (append-nil (before 0) ∙ (cond-false (nat_lt 0 packets.count) (at 0).flights _ (lt-leb 1 packets.count (omega arith)) ∙ all))) ∙ ap (times_text card) (sym all))
  ]

  pub none-left : (n : ℕ) → packets.count ≤ n → lines_left card plan packets infos station n ≡ []
  unfolding times_text
  none-left n over =
      ap (λ (xs : List Flight). times_text card (drop (length xs) (flights_of_card card plan packets infos))) (cond-false (nat_lt n packets.count) (at n).flights _ (lt-leb (suc n) packets.count (omega arith)))
      ∙ ap (times_text card) (drop_all (length (flights_of_card card plan packets infos)) (flights_of_card card plan packets infos) (omega arith))

  -- the lines of a turn were written
  pub turn-written : plan.stations ≡ station ∷ [] → (n : ℕ) (m : Times) (told : List Flight) (old new : List ℕ) → n < packets.count → HasGone m card plan packets infos station n → told ≡ m.wired.wire.untold.items
      → new ≡ old ++ times_text card told → new ++ lines_left card plan packets infos station (n + 1) ≡ old ++ lines_left card plan packets infos station n
  turn-written stations n m told old new there gone is wrote =
      let more = m.wired.wire.untold.items in
      let rest = all-begin stations (packets.count - (n + 1)) (n + 1) (omega arith) in
      let next = left-are (n + 1) rest.0 rest.1 in
      let here = left-are n (more ++ rest.0) (rest.1 ∙ (ap (λ (xs : List Flight). xs ++ rest.0) (gone-flights stations n m there gone) ∙ append_assoc (before n) more rest.0)) in
      ap₂ (λ (xs ys : List ℕ). xs ++ ys) (wrote ∙ ap (λ (fs : List Flight). old ++ times_text card fs) is) next
      ∙ (append_assoc old (times_text card more) (times_text card rest.0) ∙ ap (λ (xs : List ℕ). old ++ xs) (sym (here ∙ lines-both card more rest.0)))

  -- it stands before the next packet, once they are told
  pub gone-on : (n : ℕ) (m new : Times) → HasGone m card plan packets infos station n → ((w : Wired) → IsWired m.wired w → IsWired new.wired (none_told w)) → new.time ≡ m.time
      → load new.wired ≡ load m.wired → new.wired.station.bypass ≡ m.wired.station.bypass → new.wired.wire.card ≡ m.wired.wire.card → IsBeforePacket new card plan packets infos station (n + 1)
  gone-on n m new gone told time same bypass of_card = record {
    wired = λ more. told-on card plan packets infos station n m.wired new.wired (gone.next more) told;
    time = λ more. time ∙ gone.time more;
    load = λ more. let few = gone.load more in omega arith;
    bypass = λ more. bypass ∙ gone.bypass more;
    of_card = of_card ∙ gone.of_card;
  }
