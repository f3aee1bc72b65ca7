-- `store_size` keeps the rule of the table.
use Rattle.std.proofs.Common.{◌≡◌, ℕ, ◌<◌, true, List, [], length, set, refl, sym, ap, ◌∙◌, subst, arith, Some, None}
use Rattle.std.proofs.lemmas.Bool.{lt-ltb}
use mathlib.Core.Option.{none}
use Rattle.atomic_table.specs.Table.{step, Allows, keeps}
use Rattle.lq_model.specs.Positions.{holds_lock}
use Rattle.lq_ring_core.specs.Slots.{round}
use Rattle.lq_band_laws.specs.Three.{Three, at, all_three}
use Rattle.lq_band_laws.specs.Ring.{Ends, at_start, Lock, locked_at, IsRing}
use Rattle.lq_band_laws.specs.Times.{times}
use Rattle.lq_band_laws.specs.HalfResized.{IsRefilled}
use Rattle.lq_band_laws.proofs.Seats.{total_same}
use Rattle.lq_band_laws.proofs.StoredKept.{stored_as}
use Rattle.lq_band_laws.proofs.Three.{at_all}
use Rattle.lq_band_laws.proofs.HalfResizedKept.{restarts, just_got}
use Rattle.lq_table.specs.Places.{size_place}
use Rattle.lq_table.specs.Views.{View, Setup, State, HolderPart, HalfResize}
use Rattle.lq_table.specs.Rule.{words_of, account, holders, owes, unstored, bands_now, Rule}
use Rattle.lq_table.specs.Moves.{Sat}
use Rattle.lq_table.specs.Resizes.{store_size_view}
use Rattle.lq_table.proofs.ByName.{set_size}
use Rattle.lq_table.proofs.ResizeSlotsKept.{resizing_rule, resizing_known}
use Rattle.lq_table.proofs.Frames.{none_some, locks_here, locks_same, rule_after, stays, lends_held, holder_now}
use Rattle.lq_table.proofs.SeatFrames.{seats_same}
use Rattle.lq_table.proofs.StationFrames.{stands_same}
use Rattle.lq_log.specs.Made.{becomes}

module _ (k : Setup) where
  -- the size is stored, once the slots have what each band keeps, the producers are set and no fate is owed
  pub stores_size : (slots id : ℕ) (m : Sat) (t : HalfResize) → holds_lock m.0.place.position ≡ true → m.0.holder.resizing ≡ Some t → 0 < m.0.share.shares
      → ((b : ℕ) → b < 3 → IsRefilled (at b t.works).slots (at b t.works).kept t.len × (at b m.0.locks ≡ locked_at (round t.len (length (at b t.works).kept))) × ((at b t.works).waiting ≡ []))
      → Allows (Rule k) slots id m size_place (λ _. t.len) (λ _. becomes (λ _. store_size_view t) (step slots size_place t.len 0 none) m t.len)
  stores_size slots id m t holds under_way some_share ready s r1 deep here small =
      let v : View = m.0 in let r = resizing_rule k s r1 (Some t) (resizing_known k s r1 id v (Some t) here some_share holds under_way) in let live = lt-ltb 0 v.share.shares some_share in
      let p = r.parts in let g = r.state in let a = account k g in let q = r.qdisc in let W = words_of k s.words in let w : View = store_size_view t v in
      let at_ = p.station.lends.knows id v here live holds in let mach = stays k s r id v w here live refl refl refl refl in
      let res = p.station.rings.half_resized t refl in let ends' : Three Ends = all_three at_start in let g' : State = record g { ends = ends'; resizing = None } in let D' : HolderPart = holders g' a t.len in (
        w,
        keeps,
        tt,
        rule_after k s r size_place t.len id s.homes r.home w (record W { size = t.len }) q g' a r.deep (set_size k s.words t.len (let wide = r.wide in omega arith)) refl record {
          seats = seats_same k s r id v w here live q g' refl refl refl (λ e1 e2. (e1, ap (λ (z : State). record z { ends = ends'; resizing = None }) e2));
          machine = mach;
          station = record {
            stands = stands_same p.station.stands refl;
            ties = p.station.ties;
            lends = lends_held k s r id v here live holds w q.locked W.xoff g.past D' refl (holder_now at_ refl (λ j. record (at_.is j) { size = t.len; ends = ends'; resizing = None }));
            fates = record {
              stored = stored_as (length k.infos) W.fates (unstored s.views (Some t) g.left) a.fates p.station.fates.stored (unstored (set s.views id w) None g.left) a.fates
                  (λ n. let z = total_same (λ u. owes n u.packets.owed) s.views id v w here refl in let none_ : (b : ℕ) → b < 3 → times n (at b t.works).waiting ≡ 0 = λ b h. ap (times n) (ready b h).2 in let x0 = none_ 0 (omega arith) in let x1 = none_ 1 (omega arith) in let x2 = none_ 2 (omega arith) in omega arith)
                  (λ _. refl);
              shrunk = λ u is. absurd (none_some is);
              purged = p.station.fates.purged;
            };
            rings = record {
              positive = res.len_positive;
              within = res.len_within;
              running = λ _. record {
                size_is = sym res.len_is;
                ring = λ b h. let old = res.ring b h in let y = ready b h in let at_l = locks_here k s.views id v w here b in let few = old.one in let now = bands_now g.left a.bands b in
                    let line : now.line ≡ (at b t.works).kept = res.kept b h in
                    let index : old.index ≡ round t.len (length now.line) = sym (old.knows id (at b v.locks) at_l (ap (λ (x : Lock). x.holds) y.1)) ∙ (ap (λ (x : Lock). x.index) y.1 ∙ ap (λ (ls : List ℕ). round t.len (length ls)) (sym line)) in
                    subst (λ (z : List Lock × Ends). IsRing t.len (at b W.slots) (at b W.producers) z.0 now z.1) (λ j. (sym (locks_same k s.views id v w here b refl) j, sym (at_all b at_start) j))
                    (restarts t.len _ _ _ _ _ _ _ old res.len_positive (subst (λ (z : List ℕ × List ℕ). IsRefilled z.0 z.1 t.len) (λ j. (sym old.known_is j, sym line j)) y.0) index
                    (just_got _ id _ (at b v.locks) at_l y.1 (omega arith)));
              };
              half_resized = λ u is. absurd (none_some is);
            };
            stops = p.station.stops;
          };
          account = p.account;
        },
        refl,
      )
