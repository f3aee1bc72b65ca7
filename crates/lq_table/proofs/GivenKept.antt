-- Turns that were taken and given back.
use Rattle.std.proofs.Common.{true, ◌≡◌, ℕ, ◌+◌, ◌*◌, List, ◌∷◌, set, sym, ap, ◌∙◌, subst, arith, Some, None, Contains}
use Rattle.std.proofs.lemmas.Option.{same_Some}
use Rattle.std.specs.Prelude.{nat_lt}
use mathlib.Core.Option.{some}
use lib.ListN.{get_elem?}
use Rattle.lq_model.specs.Account.{Event}
use Rattle.lq_model.specs.Legal.{brought, brought_by}
use Rattle.lq_account_laws.proofs.Brought.{brought-before, brought-now}
use Rattle.lq_band_laws.specs.Seats.{total, Each}
use Rattle.lq_band_laws.proofs.Seats.{total_same, each_step, each_same}
use Rattle.lq_table.specs.Views.{View, Setup, SharePart}
use Rattle.lq_table.specs.Rule.{is_live, KnowsWords, has_turn, Given}

module _ (k : Setup) (views : List View) (id : ℕ) (v w : View) (here : get_elem? views id ≡ some v) (words : List ℕ) where
  turns_as : (o : ℕ) → w.packets.busy ≡ v.packets.busy → total (λ u. has_turn k.infos o u.packets.busy) (set views id w) ≡ total (λ u. has_turn k.infos o u.packets.busy) views
  turns_as o e = total_same (λ u. has_turn k.infos o u.packets.busy) views id v w here (ap (has_turn k.infos o) e)

  words_kept : Each (λ u. is_live u ≡ true → KnowsWords k.senders words u.share.owners u.turns) views → w.share ≡ v.share → w.turns ≡ v.turns → Each (λ u. is_live u ≡ true → KnowsWords k.senders words u.share.owners u.turns) (set views id w)
  words_kept g share turns = each_same (λ u. is_live u ≡ true → KnowsWords k.senders words u.share.owners u.turns) views id w g
      (subst (λ (z : SharePart × List ℕ). nat_lt 0 z.0.shares ≡ true → KnowsWords k.senders words z.0.owners z.1) (λ j. (sym share j, sym turns j)) (g id v here))

  -- a step that takes and gives no turn and brings no packet
  pub given_with : {past past' : List Event} → Given k words views past → w.packets.busy ≡ v.packets.busy → w.packets.fresh ≡ v.packets.fresh → brought_by past' ≡ brought_by past
      → Each (λ u. is_live u ≡ true → KnowsWords k.senders words u.share.owners u.turns) (set views id w) → Given k words (set views id w) past'
  given_with {past} {past'} g busy fresh same knows = record {
    turn = λ o h. let t = g.turn o h in (t.0, t.1 ∙ ap (λ (z : ℕ). 2 * t.0 + z) (sym (turns_as o busy)));
    one = λ o h. let e = turns_as o busy in let m = g.one o h in omega arith;
    over = λ n h st l. subst (λ (ns : List ℕ). Contains ns n) (sym same) (g.over n h st l);
    words_are = knows;
    now = each_step (λ u. (n : ℕ) → u.packets.busy ≡ Some n → u.packets.fresh ≡ None → Contains (brought_by past) n) (λ u. (n : ℕ) → u.packets.busy ≡ Some n → u.packets.fresh ≡ None → Contains (brought_by past') n) views id w g.now
        (λ n is none_. subst (λ (ns : List ℕ). Contains ns n) (sym same) (g.now id v here n (sym busy ∙ is) (sym fresh ∙ none_)))
        (λ j u _ _ y n is none_. subst (λ (ns : List ℕ). Contains ns n) (sym same) (y n is none_));
  }

  pub given_same : {past past' : List Event} → Given k words views past → w.packets.busy ≡ v.packets.busy → w.packets.fresh ≡ v.packets.fresh → brought_by past' ≡ brought_by past → w.share ≡ v.share → w.turns ≡ v.turns → Given k words (set views id w) past'
  given_same g busy fresh same share turns = given_with g busy fresh same (words_kept g.words_are share turns)

  -- the packet whose turn the seat has is brought
  pub given_brought : {past : List Event} (e : Event) (n : ℕ) → Given k words views past → brought e ≡ Some n → v.packets.busy ≡ Some n → w.packets.busy ≡ v.packets.busy → w.share ≡ v.share → w.turns ≡ v.turns → Given k words (set views id w) (e ∷ past)
  given_brought {past} e n g came mine busy share turns = record {
    turn = λ o h. let t = g.turn o h in (t.0, t.1 ∙ ap (λ (z : ℕ). 2 * t.0 + z) (sym (turns_as o busy)));
    one = λ o h. let e = turns_as o busy in let m = g.one o h in omega arith;
    over = λ m h st l. brought-before e past m (g.over m h st l);
    words_are = words_kept g.words_are share turns;
    now = each_step (λ u. (m : ℕ) → u.packets.busy ≡ Some m → u.packets.fresh ≡ None → Contains (brought_by past) m) (λ u. (m : ℕ) → u.packets.busy ≡ Some m → u.packets.fresh ≡ None → Contains (brought_by (e ∷ past)) m) views id w g.now
        (λ m is _. subst (λ (l : ℕ). Contains (brought_by (e ∷ past)) l) (same_Some n m (sym mine ∙ (sym busy ∙ is))) (brought-now e past n came))
        (λ j u _ _ y m is none_. brought-before e past m (y m is none_));
  }
