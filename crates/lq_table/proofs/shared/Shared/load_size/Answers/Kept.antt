-- `load_size` keeps the rule of the table.
use Rattle.std.proofs.Common.{◌≡◌, ℕ, zero, suc, ◌<◌, Bool, true, false, List, set, refl, sym, ap, ◌∙◌, subst}
use Rattle.std.specs.Prelude.{if◌then◌else◌}
use Rattle.std.proofs.lemmas.Bool.{lt-ltb}
use mathlib.Core.Option.{none}
use Rattle.atomic_table.specs.Table.{step, Allows, keeps}
use Rattle.lq_band_laws.specs.Three.{at}
use Rattle.lq_band_laws.specs.Ring.{Lock, sized_if, sized_at, IsRing}
use Rattle.lq_band_laws.specs.HalfResized.{IsHalfResized}
use Rattle.lq_band_laws.proofs.HalfResizedKept.{half_resized_sized}
use Rattle.lq_band_laws.proofs.Kept.{sizes_if}
use Rattle.lq_table.specs.Places.{size_place}
use Rattle.lq_table.specs.Views.{View, Setup, HolderPart}
use Rattle.lq_table.specs.Rule.{words_of, account, bands_now, locks_at, Rule}
use Rattle.lq_table.specs.Moves.{Sat}
use Rattle.lq_table.specs.Producers.{load_size_view}
use Rattle.lq_table.proofs.shared.Shared.load_size.Invariants.{load_size_told}
use Rattle.lq_table.proofs.ByName.{set_back}
use Rattle.lq_table.proofs.Quiet.{beside}
use Rattle.lq_table.proofs.Frames.{locks_here, locks_after, control_same}

module _ (k : Setup) where
  at_sized : (z b : ℕ) (v : View) → at b (load_size_view z v).locks ≡ sized_if z (at b v.locks)
  at_sized z zero v = refl
  at_sized z (suc zero) v = refl
  at_sized z (suc (suc b)) v = refl

  sized_holds : (z : ℕ) (l : Lock) → (sized_if z l).holds ≡ true → l.holds ≡ true
  sized_holds z l = go l.holds refl
    where
      go : (b : Bool) → l.holds ≡ b → (sized_if z l).holds ≡ true → l.holds ≡ true
      go true e h = e
      go false e h = sym (ap (λ (b : Bool). (if b then sized_at z l else l).holds) e) ∙ h

  pub loads_size : (slots id : ℕ) (m : Sat) → 0 < m.0.share.shares → Allows (Rule k) slots id m size_place (λ n. n) (load_size_told k.max_len (step slots size_place 0 0 none) m)
  loads_size slots id m some_share s r deep here small =
      let v : View = m.0 in let p = r.parts in let g = r.state in let a = account k g in let W = words_of k s.words in let w : View = load_size_view W.size v in let live = lt-ltb 0 v.share.shares some_share in
      let first = p.station.rings.positive in let few = p.station.rings.within in
      let locks_sized : (b : ℕ) → locks_at b (set s.views id w) ≡ set (locks_at b s.views) id (sized_if W.size (at b v.locks)) = λ b. locks_after k s.views id v w here b ∙ ap (set (locks_at b s.views) id) (at_sized W.size b v) in (
        w,
        keeps,
        tt,
        beside k s r size_place W.size id v w.locks W.producers W.slots here live (set_back k s.words size_place) record {
          positive = p.station.rings.positive;
          within = p.station.rings.within;
          running = λ calm. let x = p.station.rings.running calm in record {
            size_is = x.size_is;
            ring = λ b h. subst (λ (ls : List Lock). IsRing W.size (at b W.slots) (at b W.producers) ls (bands_now g.left a.bands b) (at b g.ends)) (sym (locks_sized b))
                (sizes_if _ _ _ _ _ _ id (at b v.locks) (x.ring b h) (locks_here k s.views id v w here b));
          };
          half_resized = λ t now. let x = p.station.rings.half_resized t now in record {
            len_is = x.len_is;
            len_positive = x.len_positive;
            len_within = x.len_within;
            kept = x.kept;
            ring = λ b h. subst (λ (ls : List Lock). IsHalfResized (at b W.slots) (at b W.producers) ls (bands_now g.left a.bands b) (at b t.works).waiting (at b t.works).slots (at b t.works).hand) (sym (locks_sized b))
                (half_resized_sized W.size _ _ _ _ _ _ _ id (at b v.locks) (x.ring b h) (locks_here k s.views id v w here b));
            control = control_same k s.views id v w here x.control (λ b h has. sized_holds W.size (at b v.locks) (sym (ap (λ (l : Lock). l.holds) (at_sized W.size b v)) ∙ has)) (λ l h. (l, h));
          };
        },
        (refl, first, few, λ has. sym (ap (λ (h : HolderPart). h.size) (p.station.lends.knows id v here live has).is)),
      )
