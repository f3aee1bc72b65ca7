-- A plan within the limits of version 3, in which neither flows nor times count.
use Rattle.std.proofs.Common.{◌≡◌, ℕ, ◌%◌, ◌<◌, ◌≤◌, ◌==◌, if◌then◌else◌, refl, ap, ◌∙◌, arith, inl, inr}
use Rattle.std.proofs.lemmas.Bool.{false≢true, lt-leb}
use Rattle.lq_model.specs.Capture.{Packets}
use Rattle.lq_model.specs.Openings.{number_among_own, openings, openings_by}
use Rattle.lq_model.specs.Plan.{Plan, queues_at, route_number, source_number, split_number, station_of}
use Rattle.lq_model.specs.declared.plan.Irq.{Irq}
use Rattle.lq_model.specs.declared.plan.Irq.TheVariants.{Every, Period}
use Rattle.lq_model.specs.declared.plan.Split.{Split}
use Rattle.lq_model.specs.declared.plan.Split.TheVariants as split
use Rattle.lq_model.specs.declared.plan.Spread.{Spread}
use Rattle.lq_model.specs.declared.plan.Spread.TheVariants as spread
use Rattle.lq_plan.specs.Laws.{IsByBytes, IsRoundOrSource, station_by}
use Rattle.lq_plan.proofs.Times.{opens-by}
use Rattle.lq_plan.specs.Limits.{IsIrqOf, IsPlanOf, IsSplitOf, IsSpreadOf, version_3}

spread-bytes : (s : Spread) → IsSpreadOf version_3 s → s ≡ spread.Bytes
spread-bytes spread.Bytes of = refl
spread-bytes spread.Flow of = absurd (false≢true of)

owners_by : (plan : Plan) (s : Split) → plan.split ≡ s → IsSplitOf version_3 s → IsRoundOrSource plan
owners_by plan split.Round is of = inl (λ packets n. ap (λ by. split_number by packets n % plan.senders) is)
owners_by plan split.Source is of = inr (λ packets n. ap (λ by. split_number by packets n % plan.senders) is)
owners_by plan split.Flow is of = absurd (false≢true of)

opened_by : (plan : Plan) → IsPlanOf version_3 plan → (irq : Irq) → plan.irq ≡ irq → IsIrqOf version_3 irq
    → (every : ℕ) × (0 < every) × (every ≤ 1000) × ((packets : Packets) (n : ℕ) → openings plan packets n ≡ (if number_among_own plan packets n % every == 0 then 1 else 0))
opened_by plan within (Every every) is of = (every, of.0, of.1, λ packets n. opens-by version_3 plan packets n refl within ∙ ap (λ by. openings_by by plan packets n) is)
opened_by plan within (Period microseconds) is of = absurd (omega (arith, of.0, of.1))

pub by_bytes : (plan : Plan) → IsPlanOf version_3 plan → IsByBytes plan
by_bytes plan within =
    let is : plan.spread ≡ spread.Bytes = spread-bytes plan.spread within.spread in
    record {
      stations = λ packets n. ap (λ by. station_by plan (source_number by packets n) (route_number by packets n)) is;
      queues = λ packets n. ap (λ by. source_number by packets n % queues_at plan.stations (station_of plan packets n)) is;
      owners = owners_by plan plan.split refl within.split;
      openings = opened_by plan within plan.irq refl within.irq;
      times = lt-leb 4 plan.version (omega (arith, within.of_version));
    }
