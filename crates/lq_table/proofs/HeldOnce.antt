-- No packet is held twice.
use Rattle.lq_account_laws.specs.Places.{Waits, Undecided}
use Rattle.std.proofs.Common.{◌≡◌, ◌≢◌, ℕ, zero, suc, ◌+◌, ◌<◌, ◌≤◌, List, [], ◌++◌, refl, sym, ap, ◌∙◌, arith, ⊎_elim, Option, Some, None}
use Rattle.std.specs.Option.{option_to_list}
use Rattle.std.proofs.lemmas.Bool.{cases_eq}
use Rattle.lq_model.specs.Account.{Account, Event, held, held_in}
use Rattle.lq_model.specs.Plan.{band_in}
use Rattle.lq_model.specs.declared.fate.Fate.{Fate}
use Rattle.lq_account_laws.proofs.Order.{held-band, held-pairs, never-itself}
use Rattle.lq_band_laws.specs.Times.{times}
use Rattle.lq_band_laws.proofs.Times.{in_times, times_none, times_once, times_same, times_other, times_append}
use Rattle.lq_table.specs.Views.{Setup}
use Rattle.lq_table.specs.Rule.{Accounted}

-- what waits has no fate
pub no_fate : (a : Account) → Undecided a → (n : ℕ) → Waits a n → a.fates n ≡ None
no_fate a free n waits = go (a.fates n) refl
  where
    go : (o : Option Fate) → a.fates n ≡ o → a.fates n ≡ None
    go None e = e
    go (Some f) e = absurd (free n f waits e)

small_sum : (x y : ℕ) → x ≤ 1 → y ≤ 1 → (0 < x → 0 < y → ⊥) → x + y ≤ 1
small_sum zero y h h' no_ = omega arith
small_sum (suc x) zero h h' no_ = omega arith
small_sum (suc x) (suc y) h h' no_ = absurd (no_ (omega arith) (omega arith))

-- a packet stands once in the bands
pub held_once : (k : Setup) (past : List Event) (a : Account) → Accounted k past a → (n : ℕ) → times n (held_in a 0) + (times n (held_in a 1) + times n (held_in a 2)) ≤ 1
held_once k past a acc n =
    let one : (b : ℕ) → times n (held_in a b) ≤ 1 = λ b. times_once k.infos n (held_in a b) (held-pairs k.infos k.station past a acc.brought acc.order b) in
    let band : (b : ℕ) → 0 < times n (held_in a b) → band_in k.infos n ≡ b = λ b h. held-band k.infos k.station past a acc.brought acc.order b n (in_times n (held_in a b) h) in
    let x = small_sum _ _ (one 0) (one 1) (λ h h'. let e = band 0 h in let e' = band 1 h' in omega arith) in
    let y = small_sum _ _ (one 0) (one 2) (λ h h'. let e = band 0 h in let e' = band 2 h' in omega arith) in
    let z = small_sum _ _ (one 1) (one 2) (λ h h'. let e = band 1 h in let e' = band 2 h' in omega arith) in omega arith

-- or once in the requeue slot
pub held_all : (k : Setup) (past : List Event) (a : Account) → Accounted k past a → (n : ℕ) → times n (option_to_list a.slot) + (times n (held_in a 0) + (times n (held_in a 1) + times n (held_in a 2))) ≤ 1
held_all k past a acc n = go a.slot refl
  where
    bands : ℕ
    bands = times n (held_in a 0) + (times n (held_in a 1) + times n (held_in a 2))

    none_there : a.slot ≡ Some n → (b : ℕ) → b < 3 → times n (held_in a b) ≡ 0
    none_there e b h = times_none n (held_in a b) (λ x. never-itself k.infos n (acc.order.slot_ahead n e b n h x))

    go : (o : Option ℕ) → a.slot ≡ o → times n (option_to_list a.slot) + bands ≤ 1
    go None e = let x = ap (λ (z : Option ℕ). times n (option_to_list z)) e in let y = held_once k past a acc n in omega arith
    go (Some m) e = let x = ap (λ (z : Option ℕ). times n (option_to_list z)) e in ⊎_elim
        (λ (is : n ≡ m). let here = e ∙ ap Some (sym is) in let x0 = none_there here 0 (omega arith) in let x1 = none_there here 1 (omega arith) in let x2 = none_there here 2 (omega arith) in let z = times_same n m [] is in omega arith)
        (λ (no_ : n ≢ m). let z = times_other n m [] no_ in let y = held_once k past a acc n in omega arith)
        (cases_eq n m)

-- all that is held, counted
pub held_sum : (n : ℕ) (a : Account) → times n (held a) ≡ times n (option_to_list a.slot) + (times n (held_in a 0) + (times n (held_in a 1) + times n (held_in a 2)))
held_sum n a =
    let x = times_append n (option_to_list a.slot) (held_in a 0 ++ (held_in a 1 ++ held_in a 2)) in let y = times_append n (held_in a 0) (held_in a 1 ++ held_in a 2) in let z = times_append n (held_in a 1) (held_in a 2) in omega arith
