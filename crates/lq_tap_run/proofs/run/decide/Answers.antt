use Rattle.std.proofs.Common.{◌<◌, ◌≤◌, ◌∙◌, ℕ, List, All, length, ap, sym, subst, arith}
use Rattle.lq_band_laws.specs.Times.{times}
use Rattle.lq_tap.specs.Sees.{view}
use Rattle.lq_tap_run.specs.Marks.{AreMarked}
use Rattle.lq_tap_run.proofs.Deciding.{Ends, ends_of, few_read, is_run, read_below, read_once}
use Rattle.lq_tap_run.proofs.run.decide.Given as given
use Rattle.lq_tap_run.proofs.run.decide.Goals as goal
use Rattle.lq_tap_run.proofs.run.decide.Goals.{After-join_all}

-- what is known of this run once its seats are joined
ends : (g : given.Over) (c : After-join_all g)
    → Ends c.args.run.now.packets c.args.run.now.senders c.args.run.now.tap.now.len (view c.join_all.new.seat) c.args.reader.read.items
ends g c =
    let run = c.args.run.now in let joined = c.join_all.ensures.joined in let kept = c.join_all.ensures.reader in
    ends_of run.tap.now run.packets run.senders run.tap.now.len c.args.reader.seat c.join_all.new.seat c.args.reader.read.items
    run.may.made c.requires.read joined.0 joined.1 kept.0 kept.1

pub mark_read-requires-clause-known : goal.mark_read-requires-clause-known
mark_read-requires-clause-known g c =
    subst (λ most. All (λ n. n < most) c.deref.result.now) (sym c.join_all.ensures.fates.long)
    (subst (λ (xs : List ℕ). All (λ n. n < c.args.run.now.packets) xs) (sym c.deref.ensures.value)
    (read_below _ _ _ _ _ (ends g (goal.at.mark_read-requires-clause-known g c).After-join_all)))

pub mark_read-requires-clause-few : goal.mark_read-requires-clause-few
mark_read-requires-clause-few g c =
    let few = few_read _ _ _ _ _ (ends g (goal.at.mark_read-requires-clause-few g c).After-join_all) in
    let same = ap length c.deref.ensures.value in let most = c.args.run.now.may.few_packets in omega arith

pub mark_read-requires-clause-once : goal.mark_read-requires-clause-once
mark_read-requires-clause-once g c = λ n.
    subst (λ (xs : List ℕ). times n xs ≤ 1) (sym c.deref.ensures.value)
    (read_once _ _ _ _ _ (ends g (goal.at.mark_read-requires-clause-once g c).After-join_all) n)

pub returns-clause-run : goal.returns-clause-run
returns-clause-run g c =
    let count = c.args.run.now.packets in let fulls = (view c.join_all.new.seat).sender.fulls in let fates = c.mark_read.new.fates.items in
    is_run _ _ _ _ _ (ends g (goal.at.returns-clause-run g c).After-join_all) fates
    (subst (λ (xs : List ℕ). AreMarked count fulls xs fates) c.deref.ensures.value
    (c.mark_read.ensures count fulls c.join_all.ensures.fates))

pub returns-clause-ring : goal.returns-clause-ring
returns-clause-ring g c =
    let run = c.args.run.now in let count = run.packets in let seat = c.join_all.new.seat in let fulls = (view seat).sender.fulls in let fates = c.mark_read.new.fates.items in
    let made = run.may.made in let joined = c.join_all.ensures.joined in record {
      about = joined.0.reader.0.1 ∙ (λ j. record { packets = made.0 j; len = run.tap.now.len; senders = made.2 j });
      settled = joined.1;
      marked = subst (λ (xs : List ℕ). AreMarked count fulls xs fates) (c.deref.ensures.value ∙ sym (c.join_all.ensures.reader.0 ∙ c.requires.read.taken)) (c.mark_read.ensures count fulls c.join_all.ensures.fates);
    }
