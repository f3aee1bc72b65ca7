use Rattle.std.proofs.Common.{◌≡◌, ◌+◌, Bool, false, ◌||◌, sym, ap, ◌∙◌, subst, arith}
use Rattle.std.specs.Prelude.{slice_set}
use Rattle.lq_seat.specs.Calls.{WakesQueues}
use Rattle.lq_senders.specs.Senders.{IsWoken}
use Rattle.lq_senders.proofs.Rounds.{FirstOpened, IsNext, all-did, next-read, none-did, one-more-woken, was-opened}
use Rattle.lq_senders.proofs.course.wake_all.Given as given
use Rattle.lq_senders.proofs.course.wake_all.Goals as goal
use Rattle.lq_senders.proofs.course.wake_all.Goals.{After-index-tables-j, then-opened, else-opened}

pub loop-j-init : goal.loop-j-init
loop-j-init g c = record { did = none-did IsWoken c.args.seats.now.items; was = none-did (WakesQueues false) c.args.seats.now.items }

next : (g : given.Over) (c : After-index-tables-j g)
    → IsNext IsWoken c.loop-j.j c.args.seats.now.items c.loop-j.seats.items c.index-tables-j.result c.index_mut.result.now
next g c =
    next-read IsWoken c.loop-j.j c.args.tables.now c.args.seats.now.items c.loop-j.seats.items
    c.index-tables-j.result c.index_mut.result.now c.requires.seats c.loop-j.invariant.did c.loop-j-test.true
    c.index-tables-j.is c.index_mut.ensures.value

pub wake-here-requires-clause-here : goal.wake-here-requires-clause-here
wake-here-requires-clause-here g c κs within = (next g c).here

pub loop-j-preserved : goal.loop-j-preserved
loop-j-preserved g c =
    let one = next g (goal.at.loop-j-preserved g c).After-index-tables-j in let here = c.wake-here.result in
    let is : c.if-opened.opened ≡ (c.loop-j.opened || here) = elim c.if-opened.branch [
      | then-opened w ↦ w.opened-is ∙ (w.if-opened.true ∙ sym (ap (λ (o : Bool). o || here) w.if-opened.true))
      | else-opened w ↦ w.opened-is ∙ sym (ap (λ (o : Bool). o || here) w.if-opened.false)
    ] in record {
      did = one.once_done c.wake-here.new.self (c.wake-here.result, c.wake-here.ensures);
      was = subst (λ (o : Bool). FirstOpened o (c.loop-j.j + 1) c.args.seats.now.items (slice_set c.loop-j.seats.items c.loop-j.j c.wake-here.new.self)) (sym is) (one-more-woken c.loop-j.opened here c.loop-j.j c.args.seats.now.items c.loop-j.seats.items c.index_mut.result.now c.wake-here.new.self
          one.at c.wake-here.ensures c.loop-j.invariant.was);
    }

pub returns-clause-wakes : goal.returns-clause-wakes
returns-clause-wakes g c =
    let test = c.loop-j-test.false in let same = c.requires.seats.long in
    all-did IsWoken c.loop-j.j c.args.seats.now.items c.loop-j.seats.items (omega arith) c.loop-j.invariant.did

pub returns-clause-was : goal.returns-clause-was
returns-clause-was g c =
    let test = c.loop-j-test.false in let same = c.requires.seats.long in
    was-opened c.loop-j.opened c.loop-j.j c.args.seats.now.items c.loop-j.seats.items (omega arith) c.loop-j.invariant.was
