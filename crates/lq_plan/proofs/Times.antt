-- How often the stopped queues are opened after each packet of a capture, as a pass over it lays it.
use Rattle.std.proofs.Common.{◌≡◌, ℕ, suc, ◌+◌, ◌-◌, ◌*◌, ◌<◌, ◌≤◌, ◌==◌, if◌then◌else◌, List, Option, None, Some, length, get_or, set, slice_get, refl, sym, ap, ap₂, ◌∙◌, arith, inl, inr}
use Rattle.std.specs.Prelude.{min, nat_lt, option_and_then}
use Rattle.std.specs.Option.{option_map_or}
use Rattle.std.proofs.lemmas.Bool.{cond-false, cond-true, le-leb, lt-leb, ne_eqb, cases_lt}
use Rattle.std.proofs.lemmas.List.{get_or-set_other, get_or-set_same}
use Rattle.lq_model.specs.Capture.{Packets}
use Rattle.lq_model.specs.Openings.{multiples_between, openings, openings_by}
use Rattle.lq_model.specs.Plan.{Plan, card_of, infos_of}
use Rattle.lq_model.specs.Wire.{openings_of_card}
use Rattle.lq_model.specs.declared.plan.Card.{Card}
use Rattle.lq_model.specs.declared.plan.Irq.TheVariants.{Period}
use Rattle.lq_model.specs.declared.plan.StationPlan.{StationPlan}
use Rattle.lq_plan.specs.Limits.{IsPlanOf}
use Rattle.lq_plan.specs.Openings.{AreTimes}
use Rattle.lq_plan.specs.declared.keys.Version.{Version}

-- a plan of a version that knows no card has none, and opens the queues as it says
no-card : (version : Version) (plan : Plan) → version.max_rate ≡ 0 → IsPlanOf version plan → card_of plan ≡ None
no-card version plan unknown within = by (slice_get plan.stations 0) refl
  where
    none : (s : StationPlan) → slice_get plan.stations 0 ≡ Some s → (o : Option Card) → s.card ≡ o → o ≡ None
    none s at None is = refl
    none s at (Some card) is = let of = ((within.each_station 0 s at).card card is).0 in absurd (omega (arith, of.some, of.rate, unknown))

    by : (o : Option StationPlan) → slice_get plan.stations 0 ≡ o → card_of plan ≡ None
    by None is = ap (option_and_then (λ s. s.card)) is
    by (Some s) is = ap (option_and_then (λ s. s.card)) is ∙ none s is s.card refl

pub opens-by : (version : Version) (plan : Plan) (packets : Packets) (n : ℕ) → version.max_rate ≡ 0 → IsPlanOf version plan → openings plan packets n ≡ openings_by plan.irq plan packets n
opens-by version plan packets n unknown within =
    ap (λ (o : Option Card). option_map_or (λ card. openings_of_card card plan packets (infos_of plan packets) n) o (openings_by plan.irq plan packets n)) (no-card version plan unknown within)

module _ (microseconds : ℕ) (packets : Packets) where
  -- how often between packet n and the next one
  abbrev pub opened : ℕ → ℕ
  opened n = min 65535 (multiples_between (microseconds * 1000) (packets.time n) (packets.time (n + 1)))

  -- with a next one, and at the last packet
  pub opened-within : (plan : Plan) (n : ℕ) → n + 1 < packets.count → openings_by (Period microseconds) plan packets n ≡ opened n
  opened-within plan n next = cond-true (nat_lt (n + 1) packets.count) _ _ (le-leb (suc (n + 1)) packets.count (omega arith))

  pub opened-last : (plan : Plan) (n : ℕ) → packets.count ≤ n + 1 → openings_by (Period microseconds) plan packets n ≡ 0
  opened-last plan n last = cond-false (nat_lt (n + 1) packets.count) _ _ (lt-leb (suc (n + 1)) packets.count (omega arith))

  -- before packet n: the time of the one before it is known, and how often after each that has a next one below n; the others have 0
  pub record AreTimesUpTo (n earlier : ℕ) (times : List ℕ) : Type 0 where
    pub before : earlier ≡ (if n == 0 then 0 else packets.time (n - 1))
    pub done : (k : ℕ) → k + 1 < n → get_or times k 0 ≡ opened k
    pub rest : (k : ℕ) → n ≤ k + 1 → get_or times k 0 ≡ 0

  -- the time of packet n is the one before packet n + 1
  next-before : (n time : ℕ) → time ≡ packets.time n → time ≡ (if n + 1 == 0 then 0 else packets.time (n + 1 - 1))
  next-before n time is =
      is ∙ ap packets.time (let same : n ≡ n + 1 - 1 = omega arith in same)
      ∙ sym (cond-false (n + 1 == 0) 0 (packets.time (n + 1 - 1)) (ne_eqb (n + 1) 0 (λ e. omega arith)))

  -- the step at packet 0, and at another
  pub times-first : (n earlier time : ℕ) (times : List ℕ) → AreTimesUpTo n earlier times → n ≡ 0 → time ≡ packets.time n → AreTimesUpTo (n + 1) time times
  times-first n earlier time times so_far first is = record {
    before = next-before n time is;
    done = λ k lt. absurd (omega arith);
    rest = λ k le. so_far.rest k (omega arith);
  }

  pub times-more : (n earlier time opens : ℕ) (times : List ℕ) → AreTimesUpTo n earlier times → 0 < n → n ≤ length times → time ≡ packets.time n
      → opens ≡ min 65535 (multiples_between (microseconds * 1000) earlier time) → AreTimesUpTo (n + 1) time (set times (n - 1) opens)
  times-more n earlier time opens times so_far some within is opens_is = record {
    before = next-before n time is;
    done = λ k lt. elim (cases_lt (k + 1) n) [
      | inl below ↦ get_or-set_other times (n - 1) k opens 0 (λ e. omega arith) ∙ so_far.done k below
      | inr here ↦ at-last k (omega arith)
    ];
    rest = λ k le. get_or-set_other times (n - 1) k opens 0 (λ e. omega arith) ∙ so_far.rest k (omega arith);
  }
    where
      known : earlier ≡ packets.time (n - 1)
      known = so_far.before ∙ cond-false (n == 0) 0 (packets.time (n - 1)) (ne_eqb n 0 (λ e. omega arith))

      at-last : (k : ℕ) → k ≡ n - 1 → get_or (set times (n - 1) opens) k 0 ≡ opened k
      at-last k e =
          ap (λ i. get_or (set times (n - 1) opens) i 0) e ∙ get_or-set_same times (n - 1) opens 0 (omega arith) ∙ opens_is
          ∙ ap₂ (λ (a b : ℕ). min 65535 (multiples_between (microseconds * 1000) a b)) (known ∙ ap packets.time (sym e))
          (is ∙ ap packets.time (let same : n ≡ k + 1 = omega arith in same))

  -- after the last
  pub times-all : (n earlier : ℕ) (times : List ℕ) → AreTimesUpTo n earlier times → n ≡ packets.count → length times ≡ packets.count → AreTimes microseconds packets times
  times-all n earlier times so_far end long = record {
    count = long;
    each = λ plan k below. elim (cases_lt (k + 1) n) [
      | inl next ↦ so_far.done k next ∙ sym (opened-within plan k (omega arith))
      | inr last ↦ so_far.rest k last ∙ sym (opened-last plan k (omega arith))
    ];
  }
