use Rattle.std.proofs.Common.{◌≡◌, ℕ, ◌+◌, ◌-◌, ◌*◌, ◌/◌, ◌<◌, ◌≤◌, sym, ap, ◌∙◌, arith}
use Rattle.std.proofs.Math.Nat.{mul-add-div_right}
use Rattle.lq_wire.proofs.times.nanoseconds.Goals as goal

-- what lies behind a multiple is divided alone
behind : (from rate moment : ℕ) → 0 < rate → from * rate ≤ moment → from + (moment - from * rate) / rate ≡ moment / rate
behind from rate moment some later = sym (mul-add-div_right some from (moment - from * rate)) ∙ ap (λ (k : ℕ). k / rate) (let whole : from * rate + (moment - from * rate) ≡ moment = omega arith in whole)

pub returns-then-moment-start-le-WORD : goal.returns-then-moment-start-le-WORD
returns-then-moment-start-le-WORD c = ap (λ (k : ℕ). c.args.from + k) c.divided.ensures ∙ behind c.args.from c.args.card.rate_kbit c.args.moment c.if-rate-gt0.true c.if-start-moment.true
