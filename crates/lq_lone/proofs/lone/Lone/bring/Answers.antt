use Rattle.std.proofs.Common.{◌≡◌, ℕ, ◌&&◌, Bool, true, false, sym, ap, ap₂, subst, ◌∙◌}
use Rattle.std.specs.Prelude.{not}
use Rattle.lq_model.specs.Alone.{RunningStation, brought_in, joined_or_full, served}
use Rattle.lq_model.specs.Plan.{band_in}
use Rattle.lq_lone.specs.Lone.{IsLone, StepsLone, lone_state}
use Rattle.lq_lone.proofs.Brings.{goes-through, joined-sends, refuses}
use Rattle.lq_lone.proofs.Serves.{is-none}
use Rattle.lq_lone.proofs.lone.Lone.bring.Goals as goal
use Rattle.lq_lone.proofs.lone.Lone.bring.Goals.{else-self-2-via-then-self-2+else-self-3, else-self-2-via-else-self-2, then-self-4, else-self-4}

pub returns-then-self-clause-brings : goal.returns-then-self-clause-brings
returns-then-self-clause-brings c infos s queues in-band lone = refuses infos s (lone_state c.args.self.now) c.args.n c.args.self.now.bypass lone c.if-self.true

pub returns-clause-brings : goal.returns-clause-brings
returns-clause-brings c infos s queues in-band lone =
    let m = lone_state c.args.self.now in let m2 = lone_state c.serve-accepted.new.self in
    let same : s.clean ≡ m.clean = ap (λ (t : RunningStation). t.clean) lone.is in
    let dirty : (c.args.self.now.bypass && s.clean) ≡ false = elim c.else-self-2.branch [
      | else-self-2-via-then-self-2+else-self-3 w ↦ ap₂ (λ (b d : Bool). b && d) w.if-self-2.true (same ∙ w.if-self-3.false)
      | else-self-2-via-else-self-2 w ↦ ap (λ (b : Bool). b && s.clean) w.if-self-2.false
    ] in
    let clean : c.if-self-4.self ≡ (m2.clean && not m2.stopped) = elim c.if-self-4.branch [
      | then-self-4 w ↦ w.self-is ∙ sym (ap (λ (b : Bool). b && not m2.stopped) w.if-self-4.true)
      | else-self-4 w ↦ w.self-is ∙ (w.if-self-4.false ∙ sym (ap (λ (b : Bool). b && not m2.stopped) w.if-self-4.false))
    ] in
    let t : RunningStation = record s { account = joined_or_full c.args.n (band_in infos c.args.n) s.account } in
    let joined = subst (λ (band : ℕ). IsLone (lone_state c.join.new.self) (record s { account = joined_or_full c.args.n band s.account })) (sym in-band) (c.in_ok-join.ensures.joins s lone) in
    subst (λ (b : Bool). StepsLone c.serve-accepted.result (record m2 { clean = b }) s (served infos (brought_in infos c.args.self.now.bypass c.args.n s))) (sym clean)
    (goes-through infos s m m2 c.serve-accepted.result c.args.n c.args.self.now.bypass queues (ap (λ (t : RunningStation). t.account.down) lone.is ∙ is-none lone.rest.down (lone.down ∙ c.if-self.false)) dirty
    (c.serve-accepted.ensures.serves infos t queues joined) c.serve-accepted.ensures.settled (joined-sends s c.args.n (band_in infos c.args.n)))
