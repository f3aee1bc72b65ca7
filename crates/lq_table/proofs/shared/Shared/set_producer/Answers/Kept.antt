-- `set_producer` keeps the rule of the table.
use Rattle.std.proofs.Common.{◌≡◌, ◌≢◌, ℕ, ◌+◌, ◌*◌, ◌<◌, true, List, set, refl, sym, ap, ◌∙◌, subst, arith, ⊎_elim, Some}
use Rattle.std.proofs.lemmas.Bool.{cases_eq, lt-ltb}
use Rattle.std.proofs.lemmas.Option.{same_Some}
use mathlib.Core.Option.{none}
use Rattle.atomic_table.specs.Table.{step, Allows, keeps}
use Rattle.lq_model.specs.Positions.{holds_lock}
use Rattle.lq_band_laws.specs.Three.{at, put}
use Rattle.lq_band_laws.specs.Ring.{Lock, locked_at}
use Rattle.lq_band_laws.specs.HalfResized.{IsHalfResized}
use Rattle.lq_band_laws.proofs.Seats.{each_same}
use Rattle.lq_band_laws.proofs.Three.{at_put_same, at_put_other}
use Rattle.lq_band_laws.proofs.HalfResizedKept.{reindexes}
use Rattle.lq_table.specs.Places.{producer_place}
use Rattle.lq_table.specs.Views.{View, Setup, HalfResize}
use Rattle.lq_table.specs.Rule.{words_of, account, bands_now, IsLocker, IsResizing, locks_at, Rule}
use Rattle.lq_table.specs.Moves.{Sat}
use Rattle.lq_table.specs.Producers.{with_lock_at}
use Rattle.lq_table.proofs.ByName.{set_producer}
use Rattle.lq_table.proofs.Quiet.{beside}
use Rattle.lq_table.proofs.ResizeSlotsKept.{resizing_rule, resizing_known}
use Rattle.lq_table.proofs.Frames.{none_some, locks_here, locks_same, locks_after}
use Rattle.lq_log.specs.Made.{becomes}

module _ (k : Setup) where
  -- control sets the producer of a band
  pub sets_producer : (slots id : ℕ) (m : Sat) (b i : ℕ) (t : HalfResize) → b < 3 → holds_lock m.0.place.position ≡ true → m.0.holder.resizing ≡ Some t → (at b m.0.locks).holds ≡ true → 0 < m.0.share.shares
      → Allows (Rule k) slots id m (producer_place b) (λ _. 2 * i + 1) (λ _. becomes (λ _. with_lock_at b (locked_at i)) (step slots (producer_place b) (2 * i + 1) 0 none) m (2 * i + 1))
  sets_producer slots id m b i t below holds under_way locked some_share s r1 deep here small =
      let v : View = m.0 in let r = resizing_rule k s r1 (Some t) (resizing_known k s r1 id v (Some t) here some_share holds under_way) in
      let p = r.parts in let g = r.state in let a = account k g in let W = words_of k s.words in let w : View = with_lock_at b (locked_at i) v in let live = lt-ltb 0 v.share.shares some_share in
      let x : ℕ = 2 * i + 1 in let y = p.station.rings.half_resized t refl in
      let new = reindexes _ _ _ _ _ _ _ id i (at b v.locks) (y.ring b below) (locks_here k s.views id v w here b) locked in (
        w,
        keeps,
        tt,
        beside k s r (producer_place b) x id v (put b (locked_at i) v.locks) (put b x W.producers) W.slots here live (set_producer k s.words x b below (let wide = r.wide in omega arith)) record {
          positive = p.station.rings.positive;
          within = p.station.rings.within;
          running = λ calm. absurd (none_some (sym calm));
          half_resized = λ u is. subst (λ (z : HalfResize). IsResizing k.max_len (put b x W.producers) W.slots (set s.views id w) a.len (bands_now g.left a.bands) z) (same_Some t u is) record {
            len_is = y.len_is;
            len_positive = y.len_positive;
            len_within = y.len_within;
            kept = y.kept;
            ring = λ c l. ⊎_elim
                (λ (e : c ≡ b). subst (λ (z : ℕ). IsHalfResized (at z W.slots) (at z (put b x W.producers)) (locks_at z (set s.views id w)) (bands_now g.left a.bands z) (at z t.works).waiting (at z t.works).slots (at z t.works).hand) (sym e)
                (subst (λ (z : ℕ × List Lock). IsHalfResized (at b W.slots) z.0 z.1 (bands_now g.left a.bands b) (at b t.works).waiting (at b t.works).slots (at b t.works).hand)
                (λ j. (sym (at_put_same b x W.producers) j, sym (locks_after k s.views id v w here b ∙ ap (set (locks_at b s.views) id) (at_put_same b (locked_at i) v.locks)) j)) new))
                (λ (n : c ≢ b). subst (λ (z : ℕ × List Lock). IsHalfResized (at c W.slots) z.0 z.1 (bands_now g.left a.bands c) (at c t.works).waiting (at c t.works).slots (at c t.works).hand)
                (λ j. (sym (at_put_other b c x W.producers below l n) j, sym (locks_same k s.views id v w here c (at_put_other b c (locked_at i) v.locks below l n)) j)) (y.ring c l))
                (cases_eq c b);
            control = each_same IsLocker s.views id w y.control (λ _ _ _. (live, holds));
          };
        },
        refl,
      )
