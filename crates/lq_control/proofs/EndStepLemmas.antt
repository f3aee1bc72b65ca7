-- Steps of the end of a station: one more, and one after the other.
use Rattle.std.proofs.Common.{◌≡◌, ℕ, suc, ◌+◌, ◌*◌, ◌<◌, ◌≤◌, Bool, true, false, not, List, [], ◌∷◌, ◌++◌, Option, Some, slice_get, sym, subst, ap, ◌∙◌, arith}
use Rattle.std.specs.Option.{option_map_or}
use Rattle.lq_model.specs.Plan.{owner_in, rank_in, station_in}
use Rattle.lq_model.specs.declared.fate.Info.{Info}
use Rattle.lq_table.specs.Views.{Setup}
use Rattle.lq_table.specs.Moves.{is_set}
use Rattle.lq_table.specs.Step.{BeginControl, EndControl, LoadInside, LoadState, LoadTurn, LoadXoff, MakesSteps, Standing, Step}
use Rattle.lq_table.specs.declared.shared.Cpu.{Cpu}
use Rattle.lq_ring.specs.StepLists.{MakesStepsFrom}
use Rattle.lq_ring.proofs.StepsThen.{makes_then}
use Rattle.lq_qdisc.specs.StepLists.{Then, WakeEach}
use Rattle.lq_qdisc.specs.declared.answers.Sending.{Sending}
use Rattle.lq_qdisc.proofs.ListLemmas.{from_there}
use Rattle.lq_control.specs.Steps.{Drain, Finding}
use Rattle.lq_control.specs.EndSteps.{AllLeft, IsLeft, Look, LookLeft, SendLeft, SendLeftBelow, ServeEach, ServedMore, StillScheduled, Transmit, WasSent, xoff_steps}
use Rattle.lq_control.specs.declared.finishes.Seen.TheVariants as seen
use Rattle.lq_control.proofs.StepLemmas.{and_then, finds}

-- the station of a packet with this entry
station_of : (k : Setup) (n : ℕ) (info : Info) → slice_get k.infos n ≡ Some info → info.station ≡ k.station → station_in k.infos n ≡ k.station
station_of k n info here own = ap (λ (o : Option Info). option_map_or (λ (i : Info). i.station) o 0) here ∙ own

module _ {D : Type 0} (k : Setup) where
  pub sends_more : (n : ℕ) {b m a : Cpu D} → MakesStepsFrom (SendLeftBelow k n) b m → MakesStepsFrom (SendLeft k n) m a → MakesStepsFrom (SendLeftBelow k (n + 1)) b a
  sends_more n {b} {m} {a} h one = let up : suc n ≡ n + 1 = omega arith in subst (λ (i : ℕ). MakesStepsFrom (SendLeftBelow k i) b a) up (and_then (SendLeftBelow k n) (SendLeft k n) h one)

  -- a packet of the station, whose owner's turn word was loaded
  module _ (n turn : ℕ) (info : Info) (here : slice_get k.infos n ≡ Some info) (own : info.station ≡ k.station) where
    loaded : {b m : Cpu D} → MakesSteps (LoadTurn info.owner turn ∷ []) b m → MakesSteps (LoadTurn (owner_in k.infos n) turn ∷ []) b m
    loaded {b} {m} x = subst (λ (o : ℕ). MakesSteps (LoadTurn o turn ∷ []) b m) (sym (ap (λ (o : Option Info). option_map_or (λ (i : Info). i.owner) o 0) here)) x

    pub sends_left : (answer : Sending) {b m a : Cpu D} → turn ≤ 2 * rank_in k.infos n → MakesSteps (LoadTurn info.owner turn ∷ []) b m → MakesStepsFrom (Then (Transmit k n answer) (Drain k)) m a
        → MakesStepsFrom (SendLeft k n) b a
    sends_left answer {b} {m} {a} low x y = let l = loaded x in (LoadTurn (owner_in k.infos n) turn ∷ y.0, IsLeft {turn = turn} {answer = answer} (station_of k n info here own) low (from_there (Then (Transmit k n answer) (Drain k)) l y.1), makes_then l y.2)

    pub sends_none : {b a : Cpu D} → 2 * rank_in k.infos n < turn → MakesSteps (LoadTurn info.owner turn ∷ []) b a → MakesStepsFrom (SendLeft k n) b a
    sends_none past x = (LoadTurn (owner_in k.infos n) turn ∷ [], WasSent (station_of k n info here own) past, loaded x)

  -- one more round of looks, wakes and soft interrupts
  pub serves_more : (opened : Bool) {b one two three four five a : Cpu D} → MakesStepsFrom (ServeEach k) b one → (found : ℕ) × MakesSteps (BeginControl found ∷ []) one two
      → MakesStepsFrom (λ s. Look k.queues seen.Going) two three → (found : ℕ) × MakesSteps (EndControl found ∷ []) three four → MakesStepsFrom (λ s. WakeEach k.queues opened) four five → MakesStepsFrom (Drain k) five a
      → MakesStepsFrom (ServeEach k) b a
  serves_more opened h begin look end wake drain =
      let looks : Standing → List Step → Type 0 = λ s. Look k.queues seen.Going in let wakes : Standing → List Step → Type 0 = λ s. WakeEach k.queues opened in
      let third : Standing → List Step → Type 0 = Then wakes (Drain k) in let second : Standing → List Step → Type 0 = Then (Finding EndControl) third in let first : Standing → List Step → Type 0 = Then looks second in
      let y = and_then (Finding BeginControl) first (finds BeginControl begin) (and_then looks second look (and_then (Finding EndControl) third (finds EndControl end) (and_then wakes (Drain k) wake drain))) in
      (h.0 ++ y.0, ServedMore {opened = opened} h.1 (from_there (Then (Finding BeginControl) first) h.2 y.1), makes_then h.2 y.2)

-- what the state tells where no call was found inside
pub left_by : (answer : Bool) (state : ℕ) → is_set 1 state ≡ not answer → LookLeft answer (LoadInside 0 ∷ LoadState state ∷ [])
left_by true state e = AllLeft e
left_by false state e = StillScheduled e

-- one more stop word is this one
pub stops_more : {D : Type 0} {b m a : Cpu D} (word queue : ℕ) → MakesSteps (xoff_steps word queue) b m → MakesSteps (LoadXoff queue word ∷ []) m a → MakesSteps (xoff_steps word (queue + 1)) b a
stops_more {D} {b} {m} {a} word queue x y = let up : suc queue ≡ queue + 1 = omega arith in subst (λ (n : ℕ). MakesSteps (xoff_steps word n) b a) up (makes_then x y)
