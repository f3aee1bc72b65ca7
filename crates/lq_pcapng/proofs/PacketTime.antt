-- The time of a packet, from that of the one before it.
use Rattle.std.proofs.Common.{◌≡◌, ◌-◌, ℕ, zero, suc, cond, eqb, false, sym, ap, ◌∙◌, arith}
use Rattle.std.proofs.lemmas.Bool.{ne_eqb}
use Rattle.lq_pcapng.specs.Pcapng.{NgCapture, packet_block, time_behind, time_in}

-- what stands before the next one
before_next : (f : ℕ → ℕ) (i before : ℕ) → before ≡ cond (eqb (suc i) 0) 0 (f (suc i - 1)) → f i ≡ before
before_next f i before is =
    let no : eqb (suc i) 0 ≡ false = ne_eqb (suc i) 0 (λ e. omega arith) in
    let back : suc i - 1 ≡ i = omega arith in
    sym (is ∙ ap (λ b. cond b 0 (f (suc i - 1))) no ∙ ap f back)

pub time_from_before : (c : NgCapture) (i before : ℕ) → before ≡ cond (eqb i 0) 0 (time_in c (i - 1)) → time_in c i ≡ time_behind c before (packet_block c i)
time_from_before c zero before is = ap (λ t. time_behind c t (packet_block c 0)) (sym is)
time_from_before c (suc i) before is = ap (λ t. time_behind c t (packet_block c (suc i))) (before_next (time_in c) i before is)
