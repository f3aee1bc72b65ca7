-- `take_producer` keeps the rule of the table.
use Rattle.std.proofs.Common.{◌≡◌, ℕ, ◌+◌, ◌*◌, ◌<◌, false, eqb, set, refl, sym, ◌∙◌, subst, arith, None, eq-eqb, ne_eqb, get_or}
use mathlib.Core.Logic.{dite}
use mathlib.Core.Option.{none}
use native.Mathlib.Decide.{ℕ_discrete}
use prog.Atomic.{either}
use Rattle.atomic_table.specs.Table.{step, Allows, keeps, stepped}
use Rattle.lq_band_laws.specs.Three.{at}
use Rattle.lq_band_laws.specs.Ring.{locked_at, IsRing}
use Rattle.lq_band_laws.proofs.Kept.{locks}
use Rattle.lq_table.specs.Places.{producer_place}
use Rattle.lq_table.specs.Views.{View, Setup}
use Rattle.lq_table.specs.Rule.{words_of, account, bands_now, locks_at, Rule}
use Rattle.lq_table.specs.Moves.{Sat}
use Rattle.lq_table.specs.Producers.{with_lock_at, SeesProducer}
use Rattle.lq_table.proofs.shared.Shared.take_producer.Invariants.{take_producer_told, take_producer_told_all}
use Rattle.lq_table.proofs.ByName.{producer_of}
use Rattle.lq_table.proofs.Frames.{locks_here, calm_even, rule_same}
use Rattle.lq_table.proofs.ProducersKept.{producer_step}
use Rattle.lq_table.proofs.Loads.{also}
use Rattle.lq_table.proofs.ProducerSole.{sees_producer}

module _ (k : Setup) where
  pub gets_producer : (slots id : ℕ) (m : Sat) (b i : ℕ) → b < 3 → (at b m.0.locks).holds ≡ false → 0 < m.0.share.shares
      → Allows (Rule k) slots id m (producer_place b) (λ n. either (eqb n (2 * i)) (2 * i + 1) n) (take_producer_told b i k.max_len (step slots (producer_place b) (2 * i) (2 * i + 1) none) m)
  gets_producer slots id m b i below free some_share s r deep here small =
      let v : View = m.0 in let p = r.parts in let W = words_of k s.words in let word = producer_of k s.words b below in
      dite (ℕ_discrete (get_or s.words (producer_place b) 0) (2 * i))
      (λ even. let w : View = with_lock_at b (locked_at i) v in
      let is : at b W.producers ≡ 2 * i = sym word ∙ even in
      let calm : r.state.resizing ≡ None = calm_even k.max_len W.size W.producers W.slots _ _ _ r.state.resizing s.views b i p.station.rings below is in let old = (p.station.rings.running calm).ring b below in
      let ring = locks _ _ _ _ _ _ id (at b v.locks) old (locks_here k s.views id v w here b) i free is in (
        w,
        keeps,
        tt,
        subst (λ c. Rule k (stepped s (producer_place b) (either c (2 * i + 1) (get_or s.words (producer_place b) 0)) id m.1 w keeps)) (sym (eq-eqb _ _ even))
            (producer_step k s r id b (2 * i + 1) v (locked_at i) calm below here some_share (subst (λ (x : ℕ). IsRing W.size (at b W.slots) (x + 1) (set (locks_at b s.views) id (locked_at i)) (bands_now r.state.left (account k r.state).bands b) (at b r.state.ends)) is ring)),
        ((λ _. (refl, let a = old.index_within in let w' = old.word_is in let o = old.one in let h = p.station.rings.within in omega arith)), λ no_. absurd (no_ even)),
      ))
      (λ odd. (
        v,
        keeps,
        tt,
        subst (λ c. Rule k (stepped s (producer_place b) (either c (2 * i + 1) (get_or s.words (producer_place b) 0)) id m.1 v keeps)) (sym (ne_eqb _ _ odd)) (rule_same k s r (producer_place b) id v here),
        ((λ even. absurd (odd even)), λ _. refl),
      ))

module _ (k : Setup) (slots id : ℕ) (m : Sat) (b : ℕ) (below : b < 3) (some_share : 0 < m.0.share.shares) where
  pub gets_producer_sole : (i : ℕ) → (at b m.0.locks).holds ≡ false
      → Allows (Rule k) slots id m (producer_place b) (λ n. either (eqb n (2 * i)) (2 * i + 1) n) (take_producer_told_all b i k.max_len (step slots (producer_place b) (2 * i) (2 * i + 1) none) m)
  gets_producer_sole i free = also k slots id m (producer_place b) (λ n. either (eqb n (2 * i)) (2 * i + 1) n) (take_producer_told b i k.max_len (step slots (producer_place b) (2 * i) (2 * i + 1) none) m) (SeesProducer b m.0)
      (λ s r here. sees_producer k s r id m.0 here b below some_share)
      (gets_producer k slots id m b i below free some_share)
