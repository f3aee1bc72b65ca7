-- `give_turn` keeps the rule of the table.
use Rattle.std.proofs.Common.{◌≡◌, ◌≢◌, ℕ, ◌+◌, ◌*◌, ◌<◌, true, set, refl, sym, ap, ◌∙◌, subst, arith, ⊎_elim, Some, None, get_or, length-set, Contains}
use Rattle.std.proofs.lemmas.Bool.{cases_eq, lt-ltb}
use mathlib.Core.Logic.{dite}
use mathlib.Core.Option.{none}
use native.Mathlib.Decide.{ℕ_discrete}
use Rattle.atomic_table.specs.Table.{step, Allows, keeps}
use Rattle.lq_model.specs.Plan.{owner_in, rank_in}
use Rattle.lq_model.specs.Legal.{brought_by}
use Rattle.lq_band_laws.specs.Seats.{total}
use Rattle.lq_band_laws.proofs.Seats.{total_set, each_step, each_same}
use Rattle.lq_table.specs.Places.{turn_place}
use Rattle.lq_table.specs.Views.{View, Setup}
use Rattle.lq_table.specs.Rule.{words_of, account, KnowsTurn, has_turn, Rule}
use Rattle.lq_table.specs.Moves.{Sat, at_rest}
use Rattle.lq_table.specs.Turns.{give_turn_view}
use Rattle.lq_table.proofs.Facts.{rest_owns}
use Rattle.lq_table.proofs.Frames.{none_some}
use Rattle.lq_table.proofs.TurnsKept.{has_mine, has_other, other_word, others_turns, same_word, turn_stored, words_after}
use Rattle.lq_log.specs.Made.{becomes}

module _ (k : Setup) where
  pub gives_turn : (slots id : ℕ) (m : Sat) (n : ℕ) → at_rest m.0.place.position ≡ true → m.0.packets.busy ≡ Some n → m.0.packets.fresh ≡ None → 0 < m.0.share.shares
      → Allows (Rule k) slots id m (turn_place (owner_in k.infos n)) (λ _. 2 * rank_in k.infos n + 2)
      (becomes (λ _. give_turn_view (owner_in k.infos n) (rank_in k.infos n)) (step slots (turn_place (owner_in k.infos n)) (2 * rank_in k.infos n + 2) 0 none) m)
  gives_turn slots id m n rests busy none_fresh some_share s r deep here small =
      let v : View = m.0 in let live = lt-ltb 0 v.share.shares some_share in let p = r.parts in let g = r.state in let a = account k g in let W = words_of k s.words in let o : ℕ = owner_in k.infos n in let rank : ℕ = rank_in k.infos n in let t = p.seats.turns in
      let q = p.seats.packets id v here in let know = (t.knows id v here).busy n busy in let mine = know.0 in let o_in = q.own o mine in let w : View = give_turn_view o rank v in let x : ℕ = 2 * rank + 2 in let gv = p.seats.given in
      let is : get_or W.turns o 0 ≡ 2 * rank + 1 = know.1 in let here_new = same_word k s r id v w here live o o_in mine x in let else_new = other_word k s r id v w here live o o_in mine x in
      let came : Contains (brought_by g.past) n = gv.now id v here n busy none_fresh in let of_n = p.account.accounted.brought.packets n came in
      let mine_now : (y : ℕ) → total (λ u. has_turn k.infos y u.packets.busy) (set s.views id w) + has_turn k.infos y (Some n) ≡ total (λ u. has_turn k.infos y u.packets.busy) s.views =
      λ y. (let a = total_set (λ u. has_turn k.infos y u.packets.busy) s.views id v w here in let b : has_turn k.infos y v.packets.busy ≡ has_turn k.infos y (Some n) = ap (has_turn k.infos y) busy in omega arith) in (
        w,
        keeps,
        tt,
        turn_stored k s r id v w here live o o_in mine x (rest_owns v.place.position rests) refl refl refl refl refl refl refl refl refl
            record { own = q.own; fresh = q.fresh; owed = q.owed }
            record {
              long = length-set W.turns o x ∙ t.long;
              brought = λ l h. let old = t.brought l h in ⊎_elim
                  (λ (e : owner_in k.infos l ≡ o). let x : get_or W.turns (owner_in k.infos l) 0 ≡ 2 * rank + 1 = ap (λ (y : ℕ). get_or W.turns y 0) e ∙ is in
                  let y : get_or (set W.turns o (2 * rank + 2)) (owner_in k.infos l) 0 ≡ 2 * rank + 2 = ap (λ (y : ℕ). get_or (set W.turns o (2 * rank + 2)) y 0) e ∙ here_new in omega arith)
                  (λ (e : owner_in k.infos l ≢ o). let x = else_new (owner_in k.infos l) e in omega arith)
                  (cases_eq (owner_in k.infos l) o);
              knows = each_step (λ u. KnowsTurn k W.turns u.share u.packets) (λ u. KnowsTurn k (set W.turns o x) u.share u.packets) s.views id w t.knows
                  record { busy = λ l h. absurd (none_some h); fresh = λ l h. absurd (none_some (sym none_fresh ∙ h)) }
                  (others_turns k s r id v w here live o o_in mine x);
            }
            record {
              turn = λ y l. let z = gv.turn y l in let now = mine_now y in let few = gv.one y l in ⊎_elim
                  (λ (e : y ≡ o). (rank + 1, (let a = ap (λ (y : ℕ). get_or (set W.turns o x) y 0) e ∙ here_new in let c = has_mine k.infos n y (sym e) in omega arith)))
                  (λ (e : y ≢ o). (z.0, (let a = else_new y e in let b = z.1 in let c = has_other k.infos n y (λ s. e (sym s)) in omega arith)))
                  (cases_eq y o);
              one = λ y l. let z = gv.one y l in let now = mine_now y in omega arith;
              over = λ l h st less. ⊎_elim
                  (λ (e : owner_in k.infos l ≡ o). let a : get_or (set W.turns o x) (owner_in k.infos l) 0 ≡ 2 * rank + 2 = ap (λ (y : ℕ). get_or (set W.turns o x) y 0) e ∙ here_new in
                  let b : get_or W.turns (owner_in k.infos l) 0 ≡ 2 * rank + 1 = ap (λ (y : ℕ). get_or W.turns y 0) e ∙ is in
                  dite (ℕ_discrete (rank_in k.infos l) rank)
                  (λ same. subst (λ (y : ℕ). Contains (brought_by g.past) y) (sym (r.setup.one_rank l n h of_n.0 e (st ∙ sym of_n.1) same)) came)
                  (λ apart. gv.over l h st (omega arith)))
                  (λ (e : owner_in k.infos l ≢ o). let a = else_new (owner_in k.infos l) e in gv.over l h st (omega arith))
                  (cases_eq (owner_in k.infos l) o);
              words_are = words_after k s r id v w here live o o_in mine x refl refl;
              now = each_same (λ u. (l : ℕ) → u.packets.busy ≡ Some l → u.packets.fresh ≡ None → Contains (brought_by g.past) l) s.views id w gv.now (λ l is _. absurd (none_some is));
            },
        refl,
      )
