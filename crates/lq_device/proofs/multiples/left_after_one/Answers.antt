use Rattle.std.proofs.Common.{◌≡◌, ℕ, ◌+◌, ◌*◌, ◌/◌, ◌%◌, ◌<◌, inl, inr, ap, ◌∙◌, arith}
use Rattle.std.proofs.Math.Nat.{add-mul, mod-lt}
use Rattle.std.proofs.lemmas.Bool.{cases_lt}
use Rattle.std.proofs.lemmas.Nat.{div-add-mod', mod-mul-add}
use Rattle.lq_device.proofs.multiples.left_after_one.Goals as goal

-- the remainder of a number that is one more
remainder-more : (n e : ℕ) → n % e + 1 < e → (n + 1) % e ≡ n % e + 1
remainder-more n e less =
    let parts = div-add-mod' n e in let same : n + 1 ≡ n / e * e + (n % e + 1) = omega arith in
    ap (λ m. m % e) same ∙ mod-mul-add (n / e) e (n % e + 1) less

remainder-none : (n e : ℕ) → n % e + 1 ≡ e → (n + 1) % e ≡ 0
remainder-none n e full =
    let parts = div-add-mod' n e in let one : 1 * e ≡ e = omega arith in let both = add-mul (n / e) 1 e in
    let same : n + 1 ≡ (n / e + 1) * e + 0 = omega arith in
    ap (λ m. m % e) same ∙ mod-mul-add (n / e + 1) e 0 (omega arith)

pub returns-then-left-gt1 : goal.returns-then-left-gt1
returns-then-left-gt1 c n is =
    let test = c.if-left-gt1.true in let more = remainder-more n c.args.every (omega arith) in omega arith

pub returns-else-left-gt1 : goal.returns-else-left-gt1
returns-else-left-gt1 c n is = elim (cases_lt 0 c.args.every) [
  | inl some ↦ (
      let test = c.if-left-gt1.false in let small : n % c.args.every < c.args.every = mod-lt n some in
      let none = remainder-none n c.args.every (omega arith) in omega arith)
  | inr zero_ ↦ omega arith
]
