-- A transmit brings no unit.
use Rattle.std.proofs.Common.{◌≡◌, ◌≢◌, ℕ, Bool, true, false, List, ◌∷◌, length, ◌+◌, ◌*◌, ◌⊎◌, inl, inr, cond, refl, ap, ◌∙◌}
use Rattle.std.proofs.lemmas.List.{length-set}
use Rattle.lq_model.specs.Account.{Event, Join, Full, Refuse, Direct}
use Rattle.lq_model.specs.declared.fate.Info.{Info}
use Rattle.lq_model.specs.Plan.{band_in, owner_in, rank_in}
use Rattle.lq_table.specs.Views.{Setup, View, Known}
use Rattle.lq_table.specs.Rule.{units_of}
use Rattle.lq_qdisc.specs.Sends.{came_as, trail_with}
use Rattle.lq_qdisc.specs.Steps.{TransmitsBy}
use Rattle.lq_qdisc.specs.declared.answers.Sending.{Sending}
use Rattle.lq_qdisc.specs.declared.answers.Sending.TheVariants as sending

units_own : (b : Bool) (e : Event) (t : List Event) → units_of (e ∷ t) ≡ units_of t → units_of (cond b (e ∷ t) t) ≡ units_of t
units_own true e t same = same
units_own false e t same = refl

units_came : (infos : List Info) (n : ℕ) (a : Sending) (v : View) → units_of (trail_with (came_as infos n a) v) ≡ units_of v.trail
units_came infos n sending.Direct v = units_own _ (Direct n) v.trail refl
units_came infos n sending.Queued v = units_own _ (Join n (band_in infos n)) v.trail refl
units_came infos n (sending.FullSeen seen) v = units_own _ (Full n seen) v.trail refl
units_came infos n (sending.Refused event) v = units_own _ (Refuse n event) v.trail refl
units_came infos n (sending.OutOfTurn found) v = refl

-- whether it was the packet's turn or not
pub units_sent : (k : Setup) (n turn due : ℕ) (a : Sending) (old new : Known) → (turn ≡ due) ⊎ (turn ≢ due) → (turn ≡ due → TransmitsBy k n a old new) → (turn ≢ due → new.view ≡ old.view) → units_of new.view.trail ≡ units_of old.view.trail
units_sent k n turn due a old new (inl same) sent still = ap units_of (sent same).trail ∙ units_came k.infos n a old.view
units_sent k n turn due a old new (inr other) sent still = ap (λ (v : View). units_of v.trail) (still other)

-- nor does it change how many turn words there are
pub turns_sent : (k : Setup) (n turn due : ℕ) (a : Sending) (old new : Known) → (turn ≡ due) ⊎ (turn ≢ due) → (turn ≡ due → TransmitsBy k n a old new) → (turn ≢ due → new.view ≡ old.view) → length new.view.turns ≡ length old.view.turns
turns_sent k n turn due a old new (inl same) sent still = ap (λ (ts : List ℕ). length ts) (sent same).turns ∙ length-set old.view.turns (owner_in k.infos n) (2 * rank_in k.infos n + 2)
turns_sent k n turn due a old new (inr other) sent still = ap (λ (v : View). length v.turns) (still other)
