-- What a transmit leaves, whose packet has come.
use Rattle.std.proofs.Common.{◌≡◌, ℕ, ◌+◌, ◌*◌, refl, ap, ◌∙◌, List, Option, Some, None}
use Rattle.std.specs.Prelude.{slice_set}
use Rattle.std.proofs.lemmas.List.{set-set}
use Rattle.lq_model.specs.Account.{Event}
use Rattle.lq_model.specs.Plan.{owner_in, rank_in}
use Rattle.lq_model.specs.declared.fate.Info.{Info}
use Rattle.lq_table.specs.Views.{View}
use Rattle.lq_table.specs.Turns.{give_turn_view}
use Rattle.lq_table.specs.Moves.{pass_view}
use Rattle.lq_qdisc.specs.Sends.{HasCome, came_as, trail_with}
use Rattle.lq_qdisc.proofs.ViewRelations.{transmitting}
use Rattle.lq_qdisc.specs.declared.answers.Sending.{Sending}

same_trail : (infos : List Info) (n : ℕ) (o : Option Event) (v : View) → trail_with o (transmitting infos n v) ≡ trail_with o v
same_trail infos n None v = refl
same_trail infos n (Some event) v = refl

pub transmits_as : (infos : List Info) (n : ℕ) (answer : Sending) (old last left new : View) → HasCome infos n answer (transmitting infos n old) last → left ≡ pass_view last → new ≡ give_turn_view (owner_in infos n) (rank_in infos n) left
    → (new.turns ≡ slice_set old.turns (owner_in infos n) (2 * rank_in infos n + 2)) × (new.trail ≡ trail_with (came_as infos n answer) old)
transmits_as infos n answer old last left new came leaves gives = (
  ap (λ (v : View). v.turns) gives
      ∙ (ap (λ (xs : List ℕ). slice_set xs (owner_in infos n) (2 * rank_in infos n + 2)) (ap (λ (v : View). v.turns) leaves ∙ came.turns)
      ∙ set-set old.turns (owner_in infos n) (2 * rank_in infos n + 1) (2 * rank_in infos n + 2)),
  ap (λ (v : View). v.trail) gives ∙ (ap (λ (v : View). v.trail) leaves ∙ (came.trail ∙ same_trail infos n (came_as infos n answer) old)),
)
