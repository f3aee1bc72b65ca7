use Rattle.std.proofs.Common.{◌≡◌, [], ◌∷◌, ℕ, List, zero, suc, ap, sym, slice_get, subst, rules, Some}
use Rattle.lq_model.specs.declared.fate.Fate.{Fate}
use Rattle.lq_model.specs.declared.fate.Fate.TheVariants.{Sent, Full}
use Rattle.lq_model.specs.Settled.{AreSerials}
use Rattle.lq_test_below.proofs.fates.sent_packets_stand_in_order_of_serial.Goals as goal

abbrev fates : List Fate
fates = Sent 1 1 ∷ Full 0 ∷ Sent 0 0 ∷ Sent 1 0 ∷ []

abbrev sent : ℕ → List ℕ
sent zero = 2 ∷ []
sent (suc zero) = 3 ∷ 0 ∷ []
sent (suc (suc unit)) = []

to_sent : (unit n s : ℕ) → slice_get fates n ≡ Some (Sent unit s) → slice_get (sent unit) s ≡ Some n
to_sent zero zero s at = cc
to_sent zero (suc zero) s at = cc
to_sent zero (suc (suc zero)) s at = let none : 0 ≡ s = cc in ap (slice_get (sent 0)) (sym none)
to_sent zero (suc (suc (suc zero))) s at = cc
to_sent zero (suc (suc (suc (suc n)))) s at = cc
to_sent (suc zero) zero s at = let one : 1 ≡ s = cc in ap (slice_get (sent 1)) (sym one)
to_sent (suc zero) (suc zero) s at = cc
to_sent (suc zero) (suc (suc zero)) s at = cc
to_sent (suc zero) (suc (suc (suc zero))) s at = let none : 0 ≡ s = cc in ap (slice_get (sent 1)) (sym none)
to_sent (suc zero) (suc (suc (suc (suc n)))) s at = cc
to_sent (suc (suc unit)) zero s at = cc
to_sent (suc (suc unit)) (suc zero) s at = cc
to_sent (suc (suc unit)) (suc (suc zero)) s at = cc
to_sent (suc (suc unit)) (suc (suc (suc zero))) s at = cc
to_sent (suc (suc unit)) (suc (suc (suc (suc n)))) s at = cc

from_sent : (unit n s : ℕ) → slice_get (sent unit) s ≡ Some n → slice_get fates n ≡ Some (Sent unit s)
from_sent zero n zero at = let two : 2 ≡ n = cc in ap (slice_get fates) (sym two)
from_sent zero n (suc s) at = cc
from_sent (suc zero) n zero at = let three : 3 ≡ n = cc in ap (slice_get fates) (sym three)
from_sent (suc zero) n (suc zero) at = let none : 0 ≡ n = cc in ap (slice_get fates) (sym none)
from_sent (suc zero) n (suc (suc s)) at = cc
from_sent (suc (suc unit)) n s at = cc

pub sent_by_units-requires-clause-serials : goal.sent_by_units-requires-clause-serials
sent_by_units-requires-clause-serials g c = λ κs unit.
    let is : c.expect-fates.result.items ≡ fates = (search rules) in
    subst (λ (xs : List Fate). AreSerials xs unit) (sym is) (sent unit, λ n s. (to_sent unit n s, from_sent unit n s))
