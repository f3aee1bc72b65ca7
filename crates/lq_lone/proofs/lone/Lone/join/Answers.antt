use Rattle.std.proofs.Common.{◌≡◌, ℕ, Result, Ok, Err, OnOk, sym, subst, arith}
use Rattle.lq_model.specs.Alone.{RunningStation, joined_or_full}
use Rattle.lq_lone.specs.Lone.{IsLone, line_band, lone_state}
use Rattle.lq_lone.proofs.Brings.{joins-high, joins-low, joins-mid}
use Rattle.lq_lone.proofs.lone.Lone.join.Goals as goal

on-ok : {T E A B : Type 0} (r : Result T E) → OnOk r A → (A → B) → OnOk r B
on-ok (Ok x) a f = f a
on-ok (Err e) a f = a

pub returns-then-band-eq0-clause-joins : goal.returns-then-band-eq0-clause-joins
returns-then-band-eq0-clause-joins c = on-ok c.join_or_drop.result c.join_or_drop.ensures.ok (λ new s lone.
    subst (λ (band : ℕ). IsLone (record (lone_state c.args.self.now) { low = line_band c.join_or_drop.new.self }) (record s { account = joined_or_full c.args.n band s.account })) (sym c.if-band-eq0.true)
    (joins-low s (lone_state c.args.self.now) c.args.n lone (line_band c.join_or_drop.new.self) new))

pub returns-then-band-eq1-clause-joins : goal.returns-then-band-eq1-clause-joins
returns-then-band-eq1-clause-joins c = on-ok c.join_or_drop-then-band-eq1.result c.join_or_drop-then-band-eq1.ensures.ok (λ new s lone.
    subst (λ (band : ℕ). IsLone (record (lone_state c.args.self.now) { mid = line_band c.join_or_drop-then-band-eq1.new.self }) (record s { account = joined_or_full c.args.n band s.account })) (sym c.if-band-eq1.true)
    (joins-mid s (lone_state c.args.self.now) c.args.n lone (line_band c.join_or_drop-then-band-eq1.new.self) new))

pub returns-else-band-eq1-clause-joins : goal.returns-else-band-eq1-clause-joins
returns-else-band-eq1-clause-joins c =
    let below = c.requires in let zero = c.if-band-eq0.false in let one = c.if-band-eq1.false in let two : 2 ≡ c.args.band = omega arith in
    on-ok c.join_or_drop-else-band-eq1.result c.join_or_drop-else-band-eq1.ensures.ok (λ new s lone.
    subst (λ (band : ℕ). IsLone (record (lone_state c.args.self.now) { high = line_band c.join_or_drop-else-band-eq1.new.self }) (record s { account = joined_or_full c.args.n band s.account })) two
    (joins-high s (lone_state c.args.self.now) c.args.n lone (line_band c.join_or_drop-else-band-eq1.new.self) new))
