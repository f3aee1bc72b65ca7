-- `load_inside` keeps the rule of the table.
use Rattle.std.proofs.Common.{◌≡◌, ℕ, ◌<◌, Bool, true, ◌∷◌, ◌++◌, get_or, refl, ap, ap₂, subst}
use Rattle.std.proofs.lemmas.Bool.{lt-ltb}
use mathlib.Core.Option.{none}
use Rattle.atomic_table.specs.Table.{step, Allows, keeps}
use Rattle.lq_model.specs.declared.machine.ControlStep.TheVariants.{LoadInside}
use Rattle.lq_model.specs.declared.machine.Position.TheVariants.{Control}
use Rattle.lq_model.specs.declared.machine.Seat.{Seat}
use Rattle.lq_model.specs.Machine.{Qdisc}
use Rattle.lq_model.specs.Control.{is_control, found_inside}
use Rattle.lq_model.specs.Kept.{IsInductive}
use Rattle.lq_table.specs.Places.{inside_place}
use Rattle.lq_table.specs.Views.{View, Setup, HolderPart}
use Rattle.lq_table.specs.Rule.{words_of, account, holders, Rule}
use Rattle.lq_table.specs.Moves.{Sat}
use Rattle.lq_table.specs.Inside.{load_inside_view}
use Rattle.lq_table.proofs.ByName.{set_back}
use Rattle.lq_table.proofs.Middle.{middle, controls_in}
use Rattle.lq_table.proofs.StopsKept.{stops_moved}
use Rattle.lq_table.proofs.Frames.{same_xoff, rule_after, opened, closed, same_past, lends_step, moves}
use Rattle.lq_table.proofs.SeatFrames.{seats_same}
use Rattle.lq_table.proofs.StationFrames.{station_kept, stands_same, ties_same}
use Rattle.lq_table.proofs.ControlsKept.{firsts_now}
use Rattle.lq_log.specs.Made.{becomes}

module _ (k : Setup) where
  -- control loads the calls inside
  pub finds : (slots id : ℕ) (m : Sat) (holds : Bool) → m.0.place.position ≡ Control holds → 0 < m.0.share.shares → Allows (Rule k) slots id m inside_place (λ n. n) (becomes load_inside_view (step slots inside_place 0 0 none) m)
  finds slots id m holds position some_share s r deep here small =
      let v : View = m.0 in let q = r.qdisc in let p = r.parts in let g = r.state in let a = account k g in let W = words_of k s.words in let live = lt-ltb 0 v.share.shares some_share in let mid = middle s.views id v here live in
      let D : HolderPart = holders g a W.size in let n : ℕ = get_or s.words inside_place 0 in let w : View = load_inside_view n v in
      let first : v.control.first ≡ true = p.machine.firsts.control id v here live (ap is_control position) in let knows = p.machine.firsts.knows id v here first in
      let word : n ≡ q.inside = p.station.stands.inside in let q' : Qdisc = record q { phase = found_inside q.inside q.phase } in
      let same : found_inside n v.control.phase ≡ found_inside q.inside q.phase = ap₂ found_inside word knows.0 in
      let at_control : Seat = record v.place { position = Control holds } in let is : v.place ≡ at_control = λ j. record v.place { position = position j } in
      let done = controls_in q mid.before mid.after at_control LoadInside holds refl refl refl (subst (λ (u : Seat). IsInductive (record { qdisc = q; seats = mid.before ++ u ∷ mid.after })) is (opened s.views id v here live q p.machine.invariant)) in (
        w,
        keeps,
        tt,
        rule_after k s r inside_place n id s.homes r.home w W q' g a r.deep (set_back k s.words inside_place) refl record {
          seats = seats_same k s r id v w here live q' g refl refl refl (λ e1 e2. (ap (λ (z : Qdisc). record z { phase = found_inside z.inside z.phase }) e1, e2));
          machine = moves k s r id v w here live q' refl refl (closed s.views id v here live w q' at_control live is done) (λ y own. own)
              (firsts_now s.views id v w here q.phase (found_inside q.inside q.phase) q.purge q.purge p.machine.firsts first refl same knows.1 refl);
          station = station_kept k s r id v w here W r.home q' g a refl (λ _. refl) refl (λ _ _ l h. (l, h))
              (stands_same p.station.stands refl)
              (ties_same p.station.ties refl refl)
              (lends_step k.infos W.xoff W.xoff g.past g.past same_past same_xoff q.locked r.home s.views D id v w here p.station.lends (p.station.lends.knows id v here))
              (stops_moved q.phase q.locked q.xoff a.stops g.shut (found_inside q.inside q.phase) q.locked q.xoff (λ e. ap (found_inside q.inside) e) (λ e. e) refl p.station.stops);
          account = p.account;
        },
        refl,
      )
