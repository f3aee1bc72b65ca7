-- What the beginning and the end of a call of control share.
use Rattle.std.proofs.Common.{◌≡◌, ℕ, true, false, true≢false, ◌∷◌, ◌++◌, set, get_or, refl, sym, ◌∙◌, Option, Some}
use mathlib.Core.Option.{some}
use lib.ListN.{get_elem?}
use Rattle.atomic_table.specs.Table as table
use Rattle.lq_device.specs.Station.{StationState}
use Rattle.lq_model.specs.declared.machine.Packet.{Packet}
use Rattle.lq_model.specs.declared.machine.Seat.{Seat}
use Rattle.lq_model.specs.Positions.{holds_lock, own_packet}
use Rattle.lq_model.specs.Kept.{IsInductive}
use Rattle.lq_table.specs.Views.{View, Setup, HolderPart}
use Rattle.lq_table.specs.Rule.{words_of, account, holders, is_live, Rule}
use Rattle.lq_table.proofs.ControlsKept.{firsts_now}
use Rattle.lq_table.proofs.ByName.{set_back}
use Rattle.lq_table.proofs.Middle.{middle}
use Rattle.lq_table.proofs.Frames.{same_xoff, rule_after, closed, same_past, lends_step, moves}
use Rattle.lq_table.proofs.SeatFrames.{seats_same}
use Rattle.lq_table.proofs.StationFrames.{station_kept}

module _ (k : Setup) where
  abbrev St : Type 0
  St = table.State (Option StationState) View

  -- a load of word 0 by which the seat's place alone changes, from outside the lock to outside
  pub places : (s : St) (r : Rule k s) (id : ℕ) (v : View) (t : Seat) → get_elem? s.views id ≡ some v → is_live v ≡ true
      → ((here : get_elem? s.views id ≡ some v) (live : is_live v ≡ true) → IsInductive (record { qdisc = r.qdisc; seats = (middle s.views id v here live).before ++ t ∷ (middle s.views id v here live).after }))
      → holds_lock v.place.position ≡ false → holds_lock t.position ≡ false → ((y : Packet) → own_packet t.position ≡ Some y → own_packet v.place.position ≡ Some y) → v.control.first ≡ true
      → Rule k record { words = set s.words 0 (get_or s.words 0 0); homes = s.homes; views = set s.views id (record v { place = t }) }
  places s r id v t here live machine free free' own first =
      let q = r.qdisc in let p = r.parts in let g = r.state in let a = account k g in let W = words_of k s.words in let D : HolderPart = holders g a W.size in let w : View = record v { place = t } in
      rule_after k s r 0 (get_or s.words 0 0) id s.homes r.home w W q g a r.deep (set_back k s.words 0) refl record {
        seats = seats_same k s r id v w here live q g refl refl refl (λ e1 e2. (e1, e2));
        machine = moves k s r id v w here live q refl refl (closed s.views id v here live w q t live refl (machine here live)) own
            (let knows = p.machine.firsts.knows id v here first in firsts_now s.views id v w here q.phase q.phase q.purge q.purge p.machine.firsts first refl knows.0 knows.1 refl);
        station = station_kept k s r id v w here W r.home q g a refl (λ _. refl) refl (λ _ _ _ h. absurd (true≢false (sym h ∙ free)))
            p.station.stands
            p.station.ties
            (lends_step k.infos W.xoff W.xoff g.past g.past same_past same_xoff q.locked r.home s.views D id v w here p.station.lends (λ _ h. absurd (true≢false (sym h ∙ free'))))
            p.station.stops;
        account = p.account;
      }
