-- A packet, and what follows it.
use Rattle.std.proofs.Common.{◌≡◌, ℕ, suc, ◌+◌, ◌*◌, ◌<◌, ◌≤◌, Bool, cond, List, [], ◌∷◌, Some, nat_lt, slice_get, sym, ap, ap₂, subst, ◌∙◌, arith}
use Rattle.std.proofs.lemmas.Bool.{cond-false, le-leb, lt-leb}
use Rattle.std.specs.Option.{option_map_or}
use Rattle.std.specs.Prelude.{min}
use Rattle.lq_model.specs.Alone.{brought_in, bypass_of, events_before, served}
use Rattle.lq_model.specs.Capture.{Packets}
use Rattle.lq_model.specs.Plan.{Plan}
use Rattle.lq_model.specs.Wire.{OpenedSoFar, Wired, after_wired, all_interrupted, first_wired, moment, opened_at, openings_of_card, made_at, turned, wired_with, with_changes}
use Rattle.lq_model.specs.declared.fate.Info.{Info}
use Rattle.lq_model.specs.declared.plan.Card.{Card}
use Rattle.lq_model.specs.declared.plan.StationPlan.{StationPlan}
use Rattle.lq_wire.specs.Wire.{due_by}
use Rattle.lq_wire.specs.Wired.{HasOpened, HasTurned, IsWired, StepsTo, none_told}
use Rattle.lq_wire.proofs.Stepped.{steps-then}
use Rattle.lq_wire.proofs.Told.{times-untold}
use Rattle.lq_wire.specs.declared.wired.Wired.{Wired as Linked}

module _ (card : Card) (plan : Plan) (packets : Packets) (infos : List Info) (station : StationPlan) where
  abbrev at : ℕ → Wired
  at n = after_wired card plan packets infos (first_wired station) n

  -- the scaled time of a packet
  pub moment-is : (n now time : ℕ) → now ≡ min time 0xffff_ffff_ffff_ffff * card.rate_kbit → time ≡ packets.time n → now ≡ moment card packets n
  moment-is n now time is of = is ∙ ap (λ (t : ℕ). min t 0xffff_ffff_ffff_ffff * card.rate_kbit) of

  -- the events before it, and the packet
  pub comes : (n now : ℕ) (w : Wired) (m new : Linked) → now ≡ moment card packets n → StepsTo card packets now (with_changes plan infos (events_before plan n)) w m
      → StepsTo card packets now (λ s. served infos (brought_in infos (bypass_of plan 0) n s)) (made_at card packets now (with_changes plan infos (events_before plan n)) w) new
      → IsWired new (wired_with card plan packets infos n w)
  comes n now w m new is first next =
      subst (λ (t : ℕ). IsWired new (made_at card packets t (λ s. served infos (brought_in infos (bypass_of plan 0) n (with_changes plan infos (events_before plan n) s))) w)) is
      (steps-then card packets now (with_changes plan infos (events_before plan n)) (λ s. served infos (brought_in infos (bypass_of plan 0) n s)) w m new first next).wired

  opens-are : plan.stations ≡ station ∷ [] → (n : ℕ) → n + 1 < packets.count → openings_of_card card plan packets infos n ≡ (turned card plan packets infos n (at n)).times
  unfolding openings_of_card
  opens-are stations n there =
      ap₂ (λ (b : Bool) (ss : List StationPlan). cond b (option_map_or (λ (s : StationPlan). (turned card plan packets infos n (after_wired card plan packets infos (first_wired s) n)).times) (slice_get ss 0) 0) 0)
      (le-leb (suc (n + 1)) packets.count (omega arith)) stations

  none-opens : (n : ℕ) → packets.count ≤ n + 1 → openings_of_card card plan packets infos n ≡ 0
  unfolding openings_of_card
  none-opens n last = cond-false (nat_lt (n + 1) packets.count) _ _ (lt-leb (suc (n + 1)) packets.count (omega arith))

  pub turned-last : (n : ℕ) (m : Linked) → packets.count ≤ n + 1 → HasTurned card plan packets infos station n 0 m
  turned-last n m last = record { opens = sym (none-opens n last); next = λ more. absurd (omega arith) }

  abbrev opened-by : ℕ → ℕ → ℕ → OpenedSoFar
  opened-by now until n =
      all_interrupted card packets infos (due_by (Some until)) (opened_at card packets infos now (record { times = 0; wired = wired_with card plan packets infos n (none_told (at n)) }))

  pub turned-on : plan.stations ≡ station ∷ [] → (n now until times : ℕ) (m : Linked) → n + 1 < packets.count → now ≡ moment card packets n → until ≡ moment card packets (n + 1)
      → HasOpened (opened-by now until n) (record { times = 0; wired = wired_with card plan packets infos n (none_told (at n)) }) times m → HasTurned card plan packets infos station n times m
  turned-on stations n now until times m there now-is until-is has =
      let same : opened-by now until n ≡ turned card plan packets infos n (none_told (at n)) = ap₂ (λ (a b : ℕ). opened-by a b n) now-is until-is in
      let counts : (opened-by now until n).times ≡ times = has.times ∙ (let none : 0 + times ≡ times = omega arith in none) in
      record {
        opens = sym (opens-are stations n there ∙ (times-untold card plan packets infos n (at n) ∙ (ap (λ (o : OpenedSoFar). o.times) (sym same) ∙ counts)));
        next = λ more. subst (λ (o : OpenedSoFar). IsWired m o.wired) same has.wired;
      }
