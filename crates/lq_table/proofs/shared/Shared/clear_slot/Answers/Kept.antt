-- `clear_slot` keeps the rule of the table.
use Rattle.std.proofs.Common.{◌≡◌, ℕ, ◌+◌, ◌-◌, ◌<◌, ◌≤◌, true, List, ◌++◌, length, set, refl, sym, ap, ◌∙◌, subst, arith, ⊎_elim, Option, Some, get_or, Contains}
use Rattle.std.proofs.lemmas.List.Elements.{Contains-append_cases}
use mathlib.Core.Option.{none}
use Rattle.atomic_table.specs.Table as table
use Rattle.atomic_table.specs.Table.{step, Allows, keeps}
use Rattle.lq_device.specs.Station.{StationState}
use Rattle.lq_model.specs.Positions.{holds_lock}
use Rattle.lq_band_laws.specs.Three.{at}
use Rattle.lq_band_laws.specs.HalfResized.{IsHalfResized}
use Rattle.lq_band_laws.proofs.Times.{times_in}
use Rattle.lq_band_laws.proofs.HalfResizedKept.{clears, clears_other}
use Rattle.lq_table.specs.Views.{View, Setup, HalfResize, Work}
use Rattle.lq_table.specs.Rule.{words_of, slot_word, account, bands_now, locks_at, Rule}
use Rattle.lq_table.specs.Moves.{Sat}
use Rattle.lq_table.specs.Resizes.{is_member, hand_with, out_of, with_work, with_resizing}
use Rattle.lq_table.proofs.shared.Shared.clear_slot.Invariants.{clear_slot_told}
use Rattle.lq_table.proofs.ByName.{slots_long, set_slot, slot_of}
use Rattle.lq_table.proofs.SettledKept.{settled_same}
use Rattle.lq_table.proofs.ResizeSlotsKept.{resizing_rule, line_now, word_member, word_other, waiting_at, by_bool, resizing_known, works_on, fates_resizing}

module _ (k : Setup) where
  -- a packet that a band keeps or has still to settle is one of the packets
  resizing_packet : (s : table.State (Option StationState) View) (r : Rule k s) (t : HalfResize) → r.state.resizing ≡ Some t → (b : ℕ) → b < 3 → (n : ℕ) → Contains ((at b t.works).kept ++ (at b t.works).waiting) n → n < length k.infos
  resizing_packet s r t now b below n member =
      let p = r.parts in let a = account k r.state in ⊎_elim
      (λ (kept : Contains (at b t.works).kept n). let line = subst (λ (ls : List ℕ). Contains ls n) (sym ((p.station.rings.half_resized t now).kept b below)) kept in (p.account.accounted.brought.packets n (p.account.accounted.brought.lines b n (subst (λ (ls : List ℕ). Contains ls n) (line_now r.state.left r.qdisc.purge a p.account.leaves b below) line))).0)
      (λ (waiting : Contains (at b t.works).waiting n). (p.account.accounted.brought.packets n (p.account.accounted.brought.fates n _ (p.station.fates.shrunk t now n (let x = times_in n (at b t.works).waiting waiting in let y = waiting_at n b t.works in omega arith)))).0)
      (Contains-append_cases (at b t.works).kept (at b t.works).waiting n member)

  module _ (slots id : ℕ) (m : Sat) (b i : ℕ) (t : HalfResize) (below : b < 3) (inside : i < k.max_len) (holds : holds_lock m.0.place.position ≡ true) (under_way : m.0.holder.resizing ≡ Some t) (some_share : 0 < m.0.share.shares) where
    abbrev word : ℕ
    word = slot_word k b i

    -- any slot is emptied
    pub clears_slot : length k.infos ≤ 1000000 → Allows (Rule k) slots id m word (λ _. 0) (clear_slot_told b i t (step slots word 0 0 none) m)
    clears_slot few s r1 deep here small =
        let v : View = m.0 in let r = resizing_rule k s r1 (Some t) (resizing_known k s r1 id v (Some t) here some_share holds under_way) in let p = r.parts in let g = r.state in let W = words_of k s.words in
        let a = account k g in let res = p.station.rings.half_resized t refl in let old = res.ring b below in let x : Work = at b t.works in let f : ℕ = get_or x.slots i 0 in
        let long : i < length (at b W.slots) = (let l = slots_long k s.words b r.wide below in omega arith) in
        let there : get_or (at b W.slots) i 0 ≡ f = ap (λ (xs : List ℕ). get_or xs i 0) old.known_is in
        let found : get_or s.words word 0 ≡ f = slot_of k s.words b i below inside ∙ there in
        let line = res.kept b below in
        let all : (n : ℕ) → Contains ((bands_now g.left a.bands b).line ++ x.waiting) n → Contains (x.kept ++ x.waiting) n = λ n h. subst (λ (ls : List ℕ). Contains (ls ++ x.waiting) n) line h in
        let both = by_bool (is_member f x) (λ c. IsHalfResized (set (at b W.slots) i 0) (at b W.producers) (locks_at b s.views) (bands_now g.left a.bands b) x.waiting (set x.slots i 0) (hand_with c f x.hand) × (c ≡ true → f ≤ 1000000))
        (λ yes_. let y = word_member f (x.kept ++ x.waiting) yes_ in let is : f ≡ f - 1 + 1 = y.0 in let member = y.1 in (
          clears _ _ _ _ _ _ _ old i (f - 1) long (there ∙ is) (subst (λ (ls : List ℕ). Contains (ls ++ x.waiting) (f - 1)) (sym line) member),
          λ _. let known = resizing_packet s r t refl b below (f - 1) member in omega arith,
        )) (λ no_. (clears_other _ _ _ _ _ _ _ old i long (λ n h e. word_other f (x.kept ++ x.waiting) no_ n (all n h) (sym there ∙ e)), λ e. absurd (cc))) in (
          with_resizing (Some (with_work b (out_of i x) t)) v,
          keeps,
          tt,
          works_on k s r word 0 id b v t (out_of i x) (set (at b W.slots) i 0) W.fates v.settled here some_share holds under_way below (set_slot k s.words 0 b i below inside) refl both.0 (fates_resizing k s.views id v W.fates a b t (out_of i x) g.left here refl p.station.fates)
              (settled_same s.views id v (with_resizing (Some (with_work b (out_of i x) t)) v) here W.fates p.seats.settled refl),
          (found, refl, λ yes_. let y = both.1 (sym (ap (λ (z : ℕ). is_member z x) found) ∙ yes_) in let e : get_or s.words word 0 ≡ f = found in omega arith),
        )
