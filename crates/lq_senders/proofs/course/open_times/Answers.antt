use Rattle.std.proofs.Common.{◌≡◌, ℕ, ◌+◌, ◌<◌, ◌≤◌, Bool, true, false, sym, ◌∙◌, subst, arith}
use Rattle.std.proofs.lemmas.Bool.{true≢false}
use Rattle.lq_plan.specs.Openings.{opens_while_stopped}
use Rattle.lq_senders.specs.Senders.{AllOpened}
use Rattle.lq_senders.proofs.OpenedTimes.{AreOpenedAfter, all-opened, not-opened, opened-enough, opened-once-more}
use Rattle.lq_senders.proofs.Turns.{sender-seats}
use Rattle.lq_senders.proofs.course.open_times.Given as given
use Rattle.lq_senders.proofs.course.open_times.Goals as goal
use Rattle.lq_senders.proofs.course.open_times.Goals.{After-loop-time, After-open_once-opened}
use Rattle.lq_senders.proofs.course.open_times.Goals.{else-only_while_stopped-via-then-only_while_stopped+else-not-opened, else-only_while_stopped-via-else-only_while_stopped}

pub loop-time-init : goal.loop-time-init
loop-time-init g c = not-opened c.args.run.now.job.plan.now c.args.run.now.job.infos.now c.args.run.now.tables.now c.args.seats.now.items

pub open_once-opened-requires-clause-seats : goal.open_once-opened-requires-clause-seats
open_once-opened-requires-clause-seats g c κs within =
    let s = c.requires.stands in let run = c.args.run.now in
    sender-seats run.job.plan.now run.job.infos.now s.0 s.1 s.2 run.tables.now c.loop-time.seats.items (c.loop-time.invariant.leaves.stands s.0 s.1 s.2 s.3)

-- one opening more, of which it isn't the case that it opened none and none is to follow
pub loop-time-preserved : goal.loop-time-preserved
loop-time-preserved g c =
    let s = c.requires.stands in let run = c.args.run.now in let made = c.loop-time.invariant in
    let one : opens_while_stopped run.job.plan.now ≡ true → c.open_once-opened.result ≡ true = λ only. elim c.else-only_while_stopped.branch [
      | else-only_while_stopped-via-then-only_while_stopped+else-not-opened w ↦ w.if-not-opened.false
      | else-only_while_stopped-via-else-only_while_stopped w ↦ absurd (true≢false (sym only ∙ (sym c.opens_while_stopped-only_while_stopped.ensures ∙ w.if-only_while_stopped.false)))
    ] in
    opened-once-more run.job.plan.now run.job.infos.now s.0 s.1 s.2 run.tables.now c.loop-time._time c.open_once-opened.result c.args.seats.now.items c.loop-time.seats.items
    c.open_once-opened.new.seats.items (made.leaves.stands s.0 s.1 s.2 s.3) c.open_once-opened.ensures one made

-- the opening that opened none
enough : (g : given.Over) (c : After-open_once-opened g) → opens_while_stopped c.args.run.now.job.plan.now ≡ true → c.open_once-opened.result ≡ false
    → AreOpenedAfter c.args.run.now.job.plan.now c.args.run.now.job.infos.now c.args.run.now.tables.now c.args.times c.args.seats.now.items c.open_once-opened.new.seats.items
enough g c only none =
    let s = c.requires.stands in let run = c.args.run.now in let made = c.loop-time.invariant in
    opened-enough run.job.plan.now run.job.infos.now s.0 s.1 s.2 run.tables.now c.loop-time._time c.args.times c.args.seats.now.items c.loop-time.seats.items
    c.open_once-opened.new.seats.items c.loop-time-test.true only (made.leaves.stands s.0 s.1 s.2 s.3)
    (subst (λ (o : Bool). AllOpened o c.loop-time.seats.items c.open_once-opened.new.seats.items) none c.open_once-opened.ensures) made

pub returns-then-not-opened-clause-stands : goal.returns-then-not-opened-clause-stands
returns-then-not-opened-clause-stands g c =
    (enough g (goal.at.returns-then-not-opened-clause-stands g c).After-open_once-opened (sym c.opens_while_stopped-only_while_stopped.ensures ∙ c.if-only_while_stopped.true)
    c.if-not-opened.true).leaves.stands

pub returns-then-not-opened-clause-keeps : goal.returns-then-not-opened-clause-keeps
returns-then-not-opened-clause-keeps g c =
    (enough g (goal.at.returns-then-not-opened-clause-keeps g c).After-open_once-opened (sym c.opens_while_stopped-only_while_stopped.ensures ∙ c.if-only_while_stopped.true)
    c.if-not-opened.true).leaves.keeps

pub returns-then-not-opened-clause-runs : goal.returns-then-not-opened-clause-runs
returns-then-not-opened-clause-runs g c =
    (enough g (goal.at.returns-then-not-opened-clause-runs g c).After-open_once-opened (sym c.opens_while_stopped-only_while_stopped.ensures ∙ c.if-only_while_stopped.true)
    c.if-not-opened.true).leaves.runs

pub returns-then-not-opened-clause-opened : goal.returns-then-not-opened-clause-opened
returns-then-not-opened-clause-opened g c =
    (enough g (goal.at.returns-then-not-opened-clause-opened g c).After-open_once-opened (sym c.opens_while_stopped-only_while_stopped.ensures ∙ c.if-only_while_stopped.true)
    c.if-not-opened.true).opened

-- all were made
all : (g : given.Over) (c : After-loop-time g) → c.args.times ≤ c.loop-time._time
    → AreOpenedAfter c.args.run.now.job.plan.now c.args.run.now.job.infos.now c.args.run.now.tables.now c.args.times c.args.seats.now.items c.loop-time.seats.items
all g c through =
    let run = c.args.run.now in let stop = c.loop-time.auto._time-end in
    let same : c.loop-time._time ≡ c.args.times = omega arith in
    subst (λ (k : ℕ). AreOpenedAfter run.job.plan.now run.job.infos.now run.tables.now k c.args.seats.now.items c.loop-time.seats.items) same
    (all-opened run.job.plan.now run.job.infos.now run.tables.now c.loop-time._time c.args.seats.now.items c.loop-time.seats.items c.loop-time.invariant)

pub returns-clause-stands : goal.returns-clause-stands
returns-clause-stands g c = let test = c.loop-time-test.false in (all g (goal.at.returns-clause-stands g c).After-loop-time (omega arith)).leaves.stands

pub returns-clause-keeps : goal.returns-clause-keeps
returns-clause-keeps g c = let test = c.loop-time-test.false in (all g (goal.at.returns-clause-keeps g c).After-loop-time (omega arith)).leaves.keeps

pub returns-clause-runs : goal.returns-clause-runs
returns-clause-runs g c = let test = c.loop-time-test.false in (all g (goal.at.returns-clause-runs g c).After-loop-time (omega arith)).leaves.runs

pub returns-clause-opened : goal.returns-clause-opened
returns-clause-opened g c = let test = c.loop-time-test.false in (all g (goal.at.returns-clause-opened g c).After-loop-time (omega arith)).opened
