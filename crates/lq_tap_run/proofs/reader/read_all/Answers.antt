use Rattle.std.proofs.Common.{◌≡◌, ◌≢◌, ◌≤◌, ◌∙◌, ◌++◌, ℕ, List, [], append-nil, length, take, refl, sym, ap, arith}
use Rattle.lq_tap.specs.Sees.{view}
use Rattle.lq_tap.specs.Views.{View}
use Rattle.lq_tap_run.specs.Rounds.{no_round}
use Rattle.lq_tap_run.proofs.Rounding.{equal_found, on_empty, on_with_half, other_found, some_taken, to_end}
use Rattle.lq_tap_run.proofs.reader.read_all.Goals as goal

pub loop-init : goal.loop-init
loop-init g c = record {
  read = c.requires.read;
  rounds = no_round;
  on = record { sender = refl; out = refl };
  room = c.requires.room;
  long = refl;
}

pub loop-preserved-then-count-gt0 : goal.loop-preserved-then-count-gt0
loop-preserved-then-count-gt0 g c =
    let inv = c.loop.invariant in
    let looks = c.ended-over.ensures.found.2 in
    let takes = c.get_batch-count.ensures in
    let out : List ℕ = c.get_batch-count.new.out in
    let within : c.get_batch-count.result ≤ length out = (let le = takes.count in let same = takes.out.0 in omega arith) in
    record {
      read = c.read_half.ensures.read;
      rounds = on_with_half c.ended-over.new.seat c.get_batch-count.new.seat inv.rounds looks inv.long (takes.view, takes.steps) c.read_half.new.seat
          (some_taken c.get_batch-count.result out c.if-count-gt0.true within) c.read_half.ensures.gives;
      on = record {
        sender = c.read_half.ensures.on.sender ∙ ap (λ (v : View). v.sender) takes.view ∙ ap (λ (v : View). v.sender) looks.0 ∙ inv.on.sender;
        out = c.read_half.ensures.on.out ∙ ap (λ (v : View). v.reader.out) takes.view ∙ ap (λ (v : View). v.reader.out) looks.0 ∙ inv.on.out;
      };
      room = (let same = c.read_half.ensures.room in let room = inv.room in omega arith);
      long = takes.out.0 ∙ inv.long;
    }

pub returns-then-over-clause-rounds : goal.returns-then-over-clause-rounds
returns-then-over-clause-rounds g c =
    let inv = c.loop.invariant in
    let seen = c.if-over.ensures.found in
    let takes = c.get_batch-count.ensures in
    let none : c.get_batch-count.result ≡ 0 = (let not_more = c.if-count-gt0.false in omega arith) in
    let over : seen.0 ≡ c.args.run.now.senders = equal_found seen.0 c.args.run.now.tap.now.senders (sym seen.1) ∙ c.args.run.now.may.made.2 in
    to_end c.ended-over.new.seat c.get_batch-count.new.seat inv.rounds seen.2 inv.long (takes.view, takes.steps) (ap (λ k. take k c.get_batch-count.new.out) none) over

pub loop-preserved : goal.loop-preserved
loop-preserved g c =
    let inv = c.loop.invariant in
    let seen = c.if-over.ensures.found in
    let takes = c.get_batch-count.ensures in
    let is = takes.view in
    let none : c.get_batch-count.result ≡ 0 = (let not_more = c.if-count-gt0.false in omega arith) in
    let empty : take c.get_batch-count.result c.get_batch-count.new.out ≡ [] = ap (λ k. take k c.get_batch-count.new.out) none in
    let under_way : seen.0 ≢ c.args.run.now.senders = λ same. other_found seen.0 c.args.run.now.tap.now.senders (sym seen.1) (same ∙ sym c.args.run.now.may.made.2) in
    record {
      read = record {
        reader = takes.seat;
        taken = ap (λ (v : View). v.reader.taken) is ∙ ap (λ (xs : List ℕ). (view c.ended-over.new.seat).reader.taken ++ xs) empty
            ∙ append-nil (view c.ended-over.new.seat).reader.taken ∙ ap (λ (v : View). v.reader.taken) seen.2.0 ∙ inv.read.taken;
        few = (let same = ap (λ (v : View). length v.reader.destroyed) is in let before = ap (λ (v : View). length v.reader.destroyed) seen.2.0 in let few = inv.read.few in omega arith);
      };
      rounds = on_empty c.ended-over.new.seat c.get_batch-count.new.seat inv.rounds seen.2 inv.long (takes.view, takes.steps) empty under_way;
      on = record {
        sender = ap (λ (v : View). v.sender) is ∙ ap (λ (v : View). v.sender) seen.2.0 ∙ inv.on.sender;
        out = ap (λ (v : View). v.reader.out) is ∙ ap (λ (v : View). v.reader.out) seen.2.0 ∙ inv.on.out;
      };
      room = inv.room;
      long = takes.out.0 ∙ inv.long;
    }
