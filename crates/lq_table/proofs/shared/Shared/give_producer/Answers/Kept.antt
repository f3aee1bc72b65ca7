-- `give_producer` keeps the rule of the table.
use Rattle.std.proofs.Common.{◌≡◌, ℕ, ◌*◌, ◌<◌, true, set, refl, sym, ap, ◌∙◌, subst, Some, None}
use mathlib.Core.Option.{none}
use Rattle.atomic_table.specs.Table.{step, Allows, keeps}
use Rattle.lq_band_laws.specs.Three.{at}
use Rattle.lq_band_laws.specs.Ring.{unlocked, index_given, IsRing}
use Rattle.lq_band_laws.proofs.Kept.{gives}
use Rattle.lq_table.specs.Places.{producer_place}
use Rattle.lq_table.specs.Views.{View, Setup, HolderPart}
use Rattle.lq_table.specs.Rule.{words_of, account, holders, bands_now, locks_at, Rule}
use Rattle.lq_table.specs.Moves.{Sat}
use Rattle.lq_table.specs.Producers.{with_lock_at}
use Rattle.lq_table.proofs.Frames.{locks_here, calm_here}
use Rattle.lq_table.proofs.ProducersKept.{producer_step}
use Rattle.lq_log.specs.Made.{becomes}

module _ (k : Setup) where
  pub gives_producer : (slots id : ℕ) (m : Sat) (b size i : ℕ) → b < 3 → (at b m.0.locks).holds ≡ true → (at b m.0.locks).size ≡ Some size → i ≡ index_given size (at b m.0.locks) → 0 < m.0.share.shares → m.0.holder.resizing ≡ None
      → Allows (Rule k) slots id m (producer_place b) (λ _. 2 * i) (λ _. becomes (λ _. with_lock_at b unlocked) (step slots (producer_place b) (2 * i) 0 none) m (2 * i))
  gives_producer slots id m b size i below has knows is some_share no_resizing s r deep here small =
      let v : View = m.0 in let p = r.parts in let g = r.state in let W = words_of k s.words in let D : HolderPart = holders g (account k g) W.size in
      let calm : g.resizing ≡ None = calm_here k.infos k.max_len W.size W.producers W.slots _ _ _ r.qdisc.locked W.xoff r.home g.past D g.resizing s.views id v b p.station.rings p.station.lends refl here below has no_resizing in
      let old = (p.station.rings.running calm).ring b below in let w : View = with_lock_at b unlocked v in
      let at_b = locks_here k s.views id v w here b in
      let same : size ≡ W.size = (old.knows id (at b v.locks) at_b).size_is size has knows in
      let ring = gives _ _ _ _ _ _ id (at b v.locks) old at_b has in (
        w,
        keeps,
        tt,
        producer_step k s r id b (2 * i) v unlocked calm below here some_share (subst (λ (x : ℕ). IsRing W.size (at b W.slots) (2 * x) (set (locks_at b s.views) id unlocked) (bands_now g.left (account k g).bands b) (at b g.ends)) (sym (is ∙ ap (λ (x : ℕ). index_given x (at b v.locks)) same)) ring),
        refl,
      )
