use Rattle.std.proofs.Common.{◌≡◌, ◌⊎◌, ℕ, ◌+◌, ◌-◌, ◌<◌, ◌≤◌, List, [], ◌∷◌, ◌++◌, inl, inr, ⊎_elim, sym, ap, ◌∙◌, subst, arith}
use Rattle.std.specs.Prelude.{if◌then◌else◌}
use Rattle.lq_model.specs.Band.{batch}
use Rattle.lq_band_laws.specs.Ring.{Ends, all_empty}
use Rattle.lq_band_laws.proofs.EndsKept.{all_but_last, all_of_lap}
use Rattle.lq_table.specs.Sees.{ends_at}
use Rattle.lq_table.specs.Step.{MakesSteps, SetEnds, Standing, Step, standing}
use Rattle.lq_ring.specs.StepLists.{zero_steps}
use Rattle.lq_ring.proofs.StepsThen.{makes_then}
use Rattle.lq_ring.proofs.ZeroSteps.{emptying_if, zero_leaves}
use Rattle.lq_ring.proofs.takes.discard_one.Goals as goal
use Rattle.lq_ring.proofs.takes.discard_one.Goals.{then-head-size-2, else-head-size-2}

pub set_ends-requires-clause-station : goal.set_ends-requires-clause-station
set_ends-requires-clause-station g c κs within =
    let z = c.zero_tail.ensures in let s = c.requires.station in
    (s.0, (z.carries ∙ ap (λ (x : Standing). x.station) (zero_leaves c.args.band (c.ends_of-tail.result.head + 1) (c.ends_of-tail.result.head + 1 - c.ends_of-tail.result.tail) (standing c.args.cpu.now))) ∙ s.1)

pub returns-after-head-size-2 : goal.returns-after-head-size-2
returns-after-head-size-2 g c =
    let b = c.args.band in let size = c.args.size in let own : Ends = ends_at b c.args.cpu.now in let s = c.requires.station in let e = c.ends_of-tail.ensures s.0 s.1 in
    let tail = c.ends_of-tail.result.tail in let head = c.ends_of-tail.result.head + 1 in
    let tail_is : own.tail ≡ tail = sym (e.0 ∙ s.3) in let head_is : own.head ≡ head = sym (ap (λ (n : ℕ). n + 1) e.1 ∙ s.2) in
    let due : (own.tail + batch size ≤ own.head) ⊎ (own.head ≡ size) = ⊎_elim
    (λ (few : tail + c.batch.result ≤ head). inl (let n = c.batch.ensures in omega arith))
    (λ (last : (head < tail + c.batch.result) × (head ≡ size)). inr (head_is ∙ last.1))
    c.if-head-size.either in
    let busy = emptying_if size own due in let end = c.if-head-size-2.end in
    let all : all_empty size own ≡ record { head = end; tail = end; edge = end } = elim c.if-head-size-2.branch [
      | then-head-size-2 w ↦ all_of_lap size own (head_is ∙ w.if-head-size-2.true) ∙ (λ j. record { head = sym w.end-is j; tail = sym w.end-is j; edge = sym w.end-is j })
      | else-head-size-2 w ↦ (let is = head_is ∙ sym w.end-is in all_but_last size own (λ e. w.if-head-size-2.false (sym head_is ∙ e)) ∙ (λ j. record { head = is j; tail = is j; edge = is j }))
    ] in
    subst (λ (xs : List Step). MakesSteps xs c.args.cpu.now c.set_ends.new.cpu)
    (λ j. if sym busy j then zero_steps b (sym head_is j) (sym head_is j - sym tail_is j) ++ SetEnds b (sym all j).head (sym all j).tail ∷ [] else SetEnds b own.head own.tail ∷ [])
    (makes_then c.zero_tail.ensures c.set_ends.ensures)
