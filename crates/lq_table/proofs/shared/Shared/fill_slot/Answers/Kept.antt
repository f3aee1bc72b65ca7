-- `fill_slot` keeps the rule of the table.
use Rattle.std.proofs.Common.{◌≡◌, ℕ, ◌+◌, ◌<◌, true, List, ◌∷◌, set, refl, ap, ◌∙◌, subst, arith, Some, get_or}
use mathlib.Core.Option.{none}
use Rattle.atomic_table.specs.Table.{step, Allows, keeps}
use Rattle.lq_model.specs.Positions.{holds_lock}
use Rattle.lq_band_laws.specs.Three.{at}
use Rattle.lq_band_laws.specs.HalfResized.{IsHalfResized}
use Rattle.lq_band_laws.proofs.HalfResizedKept.{fills}
use Rattle.lq_table.specs.Views.{View, Setup, HalfResize, Work}
use Rattle.lq_table.specs.Rule.{words_of, slot_word, account, bands_now, locks_at, Rule}
use Rattle.lq_table.specs.Moves.{Sat}
use Rattle.lq_table.specs.Resizes.{into, with_work, with_resizing, fill_slot_view}
use Rattle.lq_table.proofs.ByName.{slots_long, set_slot}
use Rattle.lq_table.proofs.SettledKept.{settled_same}
use Rattle.lq_log.specs.Made.{becomes}
use Rattle.lq_table.proofs.ResizeSlotsKept.{resizing_rule, resizing_known, works_on, fates_resizing}

module _ (k : Setup) where
  module _ (slots id : ℕ) (m : Sat) (b i : ℕ) (t : HalfResize) (below : b < 3) (inside : i < k.max_len) (holds : holds_lock m.0.place.position ≡ true) (under_way : m.0.holder.resizing ≡ Some t) (some_share : 0 < m.0.share.shares) where
    abbrev word : ℕ
    word = slot_word k b i

    -- a packet in hand is put into an empty slot
    pub fills_slot : (n : ℕ) (hand : List ℕ) → (at b t.works).hand ≡ n ∷ hand → get_or (at b t.works).slots i 0 ≡ 0 → Allows (Rule k) slots id m word (λ _. n + 1) (λ _. becomes (λ _. fill_slot_view b i n hand t) (step slots word (n + 1) 0 none) m (n + 1))
    fills_slot n hand has_it empty_ s r1 deep here small =
        let v : View = m.0 in let r = resizing_rule k s r1 (Some t) (resizing_known k s r1 id v (Some t) here some_share holds under_way) in let p = r.parts in let g = r.state in let W = words_of k s.words in let a = account k g in
        let y : Work = at b t.works in
        let old = subst (λ (ls : List ℕ). IsHalfResized (at b W.slots) (at b W.producers) (locks_at b s.views) (bands_now g.left a.bands b) y.waiting y.slots ls) has_it ((p.station.rings.half_resized t refl).ring b below) in
        let new = fills _ _ _ _ _ _ hand n old i (let l = slots_long k s.words b r.wide below in omega arith) (ap (λ (xs : List ℕ). get_or xs i 0) old.known_is ∙ empty_) in (
          with_resizing (Some (with_work b (into i n hand y) t)) v,
          keeps,
          tt,
          works_on k s r word (n + 1) id b v t (into i n hand y) (set (at b W.slots) i (n + 1)) W.fates v.settled here some_share holds under_way below (set_slot k s.words (n + 1) b i below inside) refl new (fates_resizing k s.views id v W.fates a b t (into i n hand y) g.left here refl p.station.fates)
              (settled_same s.views id v (with_resizing (Some (with_work b (into i n hand y) t)) v) here W.fates p.seats.settled refl),
          refl,
        )
