-- Each law is tried at all 256 types of service.
use Rattle.std.proofs.Common.{◌≡◌, ℕ, ◌<◌, ◌*◌, ◌/◌, true, nat_eq, refl}
use Rattle.std.proofs.lemmas.Bool.{agree_below, agree_below_at, eqb-true}
use Rattle.lq_model.specs.Class.{tos_priority, band_of}
use Rattle.lq_class.specs.Laws.{service_priority, service_band}
use Rattle.lq_class.proofs.laws.type_of_service.Goals as goal

-- two functions that agree at each of 256 numbers, by computing
each_byte : (f g : ℕ → ℕ) → agree_below (λ n. nat_eq (f n) (g n)) (λ _. true) 256 ≡ true → (n : ℕ) → n < 256 → f n ≡ g n
each_byte f g alike n is_byte =
    eqb-true (f n) (g n) (agree_below_at (λ k. nat_eq (f k) (g k)) (λ _. true) 256 n alike is_byte)

pub returns-clause-priority : goal.returns-clause-priority
unfolding tos_priority
returns-clause-priority c = each_byte tos_priority service_priority refl

pub returns-clause-band : goal.returns-clause-band
unfolding tos_priority band_of
returns-clause-band c = each_byte (λ tos. band_of (tos_priority tos)) service_band refl

pub returns-clause-congestion : goal.returns-clause-congestion
unfolding tos_priority
returns-clause-congestion c = each_byte tos_priority (λ tos. tos_priority (tos / 4 * 4)) refl
