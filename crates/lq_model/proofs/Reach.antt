-- Which stations an event is one of.
use Rattle.std.proofs.Common.{◌≡◌, ◌≢◌, ℕ, ◌+◌, ◌<◌, ◌≤◌, Bool, true, false, ◌&&◌, cond, refl, ap, arith}
use Rattle.std.proofs.lemmas.Bool.{le-leb, leb-true, lt-ltb, ltb-true}
use Rattle.std.specs.Prelude.{nat_le, nat_lt}
use Rattle.lq_model.specs.Plan.{is_at, is_swap, reach}
use Rattle.lq_model.specs.declared.plan.EventPlan.{EventPlan}

both-true : (a b : Bool) → (a && b) ≡ true → (a ≡ true) × (b ≡ true)
both-true true true h = (refl, refl)
both-true true false h = cc
both-true false b h = cc

-- one of its stations stands within its reach
pub at-within : (station : ℕ) (event : EventPlan) → is_at station event ≡ true → (event.station ≤ station) × (station < event.station + reach event)
at-within station event at =
    let parts = both-true (nat_le event.station station) (nat_lt station (event.station + reach event)) at in (leb-true event.station station parts.0, ltb-true station (event.station + reach event) parts.1)

-- a swap is one of its own station alone
pub at-swap : (station : ℕ) (event : EventPlan) → is_swap event ≡ true → is_at station event ≡ true → station ≡ event.station
at-swap station event swap at =
    let parts = at-within station event at in let one : reach event ≡ 1 = ap (λ b. cond b 1 event.mq) swap in omega arith

-- a station within its reach is one of its stations
pub at-of : (station : ℕ) (event : EventPlan) → event.station ≤ station → station < event.station + reach event → is_at station event ≡ true
at-of station event low high = both (nat_le event.station station) (nat_lt station (event.station + reach event)) (le-leb event.station station low) (lt-ltb station (event.station + reach event) high)
  where
    both : (a b : Bool) → a ≡ true → b ≡ true → (a && b) ≡ true
    both true true p q = refl
    both true false p q = cc
    both false b p q = cc

-- an event of some stations reaches no more of them
pub reach-few : (event : EventPlan) → 0 < event.mq → reach event ≤ event.mq
reach-few event some = go (is_swap event)
  where
    go : (b : Bool) → cond b 1 event.mq ≤ event.mq
    go true = omega arith
    go false = omega arith

pub at-own-swap : (event : EventPlan) → is_swap event ≡ true → is_at event.station event ≡ true
at-own-swap event swap = let one : reach event ≡ 1 = ap (λ b. cond b 1 event.mq) swap in at-of event.station event (omega arith) (omega arith)

pub swap-apart : (station : ℕ) (event : EventPlan) → is_swap event ≡ true → station ≢ event.station → is_at station event ≡ false
swap-apart station event swap other = go (is_at station event) refl
  where
    go : (b : Bool) → is_at station event ≡ b → b ≡ false
    go false is = refl
    go true is = absurd (other (at-swap station event swap is))
