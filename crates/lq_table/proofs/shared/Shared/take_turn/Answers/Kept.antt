-- `take_turn` keeps the rule of the table.
use Rattle.std.proofs.Common.{◌≡◌, ◌≢◌, ℕ, ◌+◌, ◌*◌, ◌<◌, true, eqb, length, set, refl, sym, ap, ◌∙◌, subst, arith, ⊎_elim, Option, Some, None, eq-eqb, ne_eqb, get_or, length-set, Contains}
use Rattle.lq_model.specs.Positions.{own_packet}
use Rattle.std.proofs.lemmas.Option.{same_Some}
use Rattle.std.proofs.lemmas.Bool.{cases_eq, lt-ltb}
use mathlib.Core.Logic.{dite}
use mathlib.Core.Option.{some, none}
use lib.ListN.{get_elem?}
use native.Mathlib.Decide.{ℕ_discrete}
use prog.Atomic.{either}
use Rattle.atomic_table.specs.Table as table
use Rattle.atomic_table.specs.Table.{step, Allows, keeps, stepped}
use Rattle.lq_device.specs.Station.{StationState}
use Rattle.lq_model.specs.Plan.{owner_in, station_in, rank_in}
use Rattle.lq_model.specs.Legal.{brought_by}
use Rattle.lq_band_laws.specs.Seats.{total}
use Rattle.lq_band_laws.proofs.Seats.{total_set, each_step, each_same}
use Rattle.lq_table.specs.Places.{turn_place}
use Rattle.lq_table.specs.Views.{View, Setup}
use Rattle.lq_table.specs.Comes.{IsFresh}
use Rattle.lq_table.specs.Rule.{words_of, times, is_live, account, KnowsTurn, has_turn, Rule}
use Rattle.lq_table.specs.Moves.{Sat}
use Rattle.lq_table.specs.Turns.{take_turn_view}
use Rattle.lq_table.proofs.shared.Shared.take_turn.Invariants.{take_turn_told}
use Rattle.lq_table.proofs.ByName.{turn_of_word}
use Rattle.lq_table.proofs.Facts.{none_if}
use Rattle.lq_table.proofs.Frames.{none_some, rule_same}
use Rattle.lq_table.proofs.TurnsKept.{has_mine, has_other, other_word, others_turns, same_word, turn_stored, words_after}

-- a seat that has no turn is in no transmit
none_owned : (k : Setup) (s : table.State (Option StationState) View) (r : Rule k s) (id : ℕ) (v : View) → get_elem? s.views id ≡ some v → is_live v ≡ true → v.packets.busy ≡ None → own_packet v.place.position ≡ None
none_owned k s r id v here live idle = none_if (own_packet v.place.position) (λ y own. none_some (sym idle ∙ (r.parts.machine.hands id v here live y own).3))

module _ (k : Setup) where
  pub takes_turn : (slots id : ℕ) (m : Sat) (n : ℕ) → n < length k.infos → station_in k.infos n ≡ k.station → 0 < times (owner_in k.infos n) m.0.share.owners → m.0.packets.busy ≡ None → 0 < m.0.share.shares
      → Allows (Rule k) slots id m (turn_place (owner_in k.infos n)) (λ x. either (eqb x (2 * rank_in k.infos n)) (2 * rank_in k.infos n + 1) x)
      (take_turn_told n (owner_in k.infos n) (rank_in k.infos n) (step slots (turn_place (owner_in k.infos n)) (2 * rank_in k.infos n) (2 * rank_in k.infos n + 1) none) m)
  takes_turn slots id m n inside here_station mine idle some_share s r deep here small =
      let v : View = m.0 in let live = lt-ltb 0 v.share.shares some_share in let p = r.parts in let g = r.state in let a = account k g in let W = words_of k s.words in let o : ℕ = owner_in k.infos n in let rank : ℕ = rank_in k.infos n in let t = p.seats.turns in
      let q = p.seats.packets id v here in let o_in = q.own o mine in let word = turn_of_word k s.words o o_in in let known = (p.seats.given.words_are id v here live).1 o mine in
      let w : View = take_turn_view n o rank v in let x : ℕ = 2 * rank + 1 in let gv = p.seats.given in
      dite (ℕ_discrete (get_or s.words (turn_place o) 0) (2 * rank))
      (λ free. let is : get_or W.turns o 0 ≡ 2 * rank = sym word ∙ free in let here_new = same_word k s r id v w here live o o_in mine x in let else_new = other_word k s r id v w here live o o_in mine x in
      let nobody : total (λ u. has_turn k.infos o u.packets.busy) s.views ≡ 0 = (let z = gv.turn o o_in in let e = z.1 in let one = gv.one o o_in in omega arith) in
      let mine_now : (y : ℕ) → total (λ u. has_turn k.infos y u.packets.busy) (set s.views id w) ≡ total (λ u. has_turn k.infos y u.packets.busy) s.views + has_turn k.infos y (Some n) =
      λ y. (let a = total_set (λ u. has_turn k.infos y u.packets.busy) s.views id v w here in let b : has_turn k.infos y v.packets.busy ≡ 0 = ap (has_turn k.infos y) idle in omega arith) in
      let new : IsFresh k.infos k.station g.past n = record {
        is_packet = inside;
        of_station = here_station;
        in_turn = λ l h same.
            let below = t.brought l h in let at_o : get_or W.turns (owner_in k.infos l) 0 ≡ 2 * rank = ap (λ (y : ℕ). get_or W.turns y 0) same ∙ is in
            r.setup.ranked l n (p.account.accounted.brought.packets l h).0 inside same ((p.account.accounted.brought.packets l h).1 ∙ sym here_station) (omega arith);
      } in (
        w,
        keeps,
        tt,
        subst (λ c. Rule k (stepped s (turn_place o) (either c (2 * rank + 1) (get_or s.words (turn_place o) 0)) id m.1 w keeps)) (sym (eq-eqb _ _ free))
            (turn_stored k s r id v w here live o o_in mine x (none_owned k s r id v here live idle) refl refl refl refl refl refl refl refl refl
            record { own = q.own; fresh = λ l h. subst (λ (y : ℕ). (0 < times (owner_in k.infos y) v.share.owners) × IsFresh k.infos k.station g.past y) (same_Some n l h) (mine, new); owed = q.owed }
            record {
              long = length-set W.turns o x ∙ t.long;
              brought = λ l h. let old = t.brought l h in ⊎_elim
                  (λ (e : owner_in k.infos l ≡ o). let x : get_or W.turns (owner_in k.infos l) 0 ≡ 2 * rank = ap (λ (y : ℕ). get_or W.turns y 0) e ∙ is in
                  let y : get_or (set W.turns o (2 * rank + 1)) (owner_in k.infos l) 0 ≡ 2 * rank + 1 = ap (λ (y : ℕ). get_or (set W.turns o (2 * rank + 1)) y 0) e ∙ here_new in omega arith)
                  (λ (e : owner_in k.infos l ≢ o). let x = else_new (owner_in k.infos l) e in omega arith)
                  (cases_eq (owner_in k.infos l) o);
              knows = each_step (λ u. KnowsTurn k W.turns u.share u.packets) (λ u. KnowsTurn k (set W.turns o x) u.share u.packets) s.views id w t.knows
                  record {
                    busy = λ l h. subst (λ (y : ℕ). (0 < times (owner_in k.infos y) v.share.owners) × (get_or (set W.turns o (2 * rank + 1)) (owner_in k.infos y) 0 ≡ 2 * rank_in k.infos y + 1)) (same_Some n l h) (mine, here_new);
                    fresh = λ l h. h;
                  }
                  (others_turns k s r id v w here live o o_in mine x);
            }
            record {
              turn = λ y l. let z = gv.turn y l in let now = mine_now y in ⊎_elim
                  (λ (e : y ≡ o). (
                    rank,
                    (let a = ap (λ (y : ℕ). get_or (set W.turns o x) y 0) e ∙ here_new in let b : total (λ u. has_turn k.infos y u.packets.busy) s.views ≡ 0 = ap (λ (y : ℕ). total (λ u. has_turn k.infos y u.packets.busy) s.views) e ∙ nobody in
                        let c = has_mine k.infos n y (sym e) in omega arith),
                  ))
                  (λ (e : y ≢ o). (z.0, (let a = else_new y e in let b = z.1 in let c = has_other k.infos n y (λ s. e (sym s)) in omega arith)))
                  (cases_eq y o);
              one = λ y l. let z = gv.one y l in let now = mine_now y in ⊎_elim
                  (λ (e : y ≡ o). let b : total (λ u. has_turn k.infos y u.packets.busy) s.views ≡ 0 = ap (λ (y : ℕ). total (λ u. has_turn k.infos y u.packets.busy) s.views) e ∙ nobody in let c = has_mine k.infos n y (sym e) in omega arith)
                  (λ (e : y ≢ o). let c = has_other k.infos n y (λ s. e (sym s)) in omega arith)
                  (cases_eq y o);
              over = λ l h st less. ⊎_elim
                  (λ (e : owner_in k.infos l ≡ o). let a : get_or (set W.turns o x) (owner_in k.infos l) 0 ≡ 2 * rank + 1 = ap (λ (y : ℕ). get_or (set W.turns o x) y 0) e ∙ here_new in
                  let b : get_or W.turns (owner_in k.infos l) 0 ≡ 2 * rank = ap (λ (y : ℕ). get_or W.turns y 0) e ∙ is in gv.over l h st (omega arith))
                  (λ (e : owner_in k.infos l ≢ o). let a = else_new (owner_in k.infos l) e in gv.over l h st (omega arith))
                  (cases_eq (owner_in k.infos l) o);
              words_are = words_after k s r id v w here live o o_in mine x refl refl;
              now = each_same (λ u. (l : ℕ) → u.packets.busy ≡ Some l → u.packets.fresh ≡ None → Contains (brought_by g.past) l) s.views id w gv.now (λ l _ none_. absurd (none_some (sym none_)));
            }),
        (word ∙ sym known, (λ _. refl), λ no_. absurd (no_ free)),
      ))
      (λ other. (
        v,
        keeps,
        tt,
        subst (λ c. Rule k (stepped s (turn_place o) (either c (2 * rank + 1) (get_or s.words (turn_place o) 0)) id m.1 v keeps)) (sym (ne_eqb _ _ other)) (rule_same k s r (turn_place o) id v here),
        (word ∙ sym known, (λ free. absurd (other free)), λ _. refl),
      ))
