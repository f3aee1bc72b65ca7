-- What the words tell a seat that has the table alone.
use Rattle.std.proofs.Common.{None, ◌≡◌, ℕ, ◌+◌, ◌*◌, ◌<◌, ◌≤◌, arith, Bool, true, false, List, Option, get_or, refl, sym, ap, ap₂, ◌∙◌}
use Rattle.std.specs.Prelude.{is_some, slice_index}
use Rattle.std.proofs.lemmas.Bool.{lt-ltb}
use mathlib.Core.Option.{some}
use lib.ListN.{get_elem?}
use Rattle.atomic_table.specs.Table as table
use Rattle.lq_device.specs.Station.{StationState}
use Rattle.lq_model.specs.Account.{Account}
use Rattle.lq_model.specs.Machine.{Qdisc, bit, state_word}
use Rattle.lq_model.specs.Positions.{holds_lock}
use Rattle.lq_table.specs.Places.{state_place, lock_place}
use Rattle.lq_table.specs.Views.{View, Setup, State, HolderPart, first_account}
use Rattle.lq_account_laws.specs.Trail.{down_of}
use Rattle.lq_account_laws.proofs.Trails.{down-is}
use Rattle.lq_table.specs.Rule.{words_of, xoff_word, account, holders, event_word, Rule}
use Rattle.lq_table.specs.Moves.{is_set}
use Rattle.lq_table.specs.Sees.{IsSole, account_of, IsAccounts, HasSent}
use Rattle.lq_table.specs.States.{SeesState, SeesDown}
use Rattle.lq_table.proofs.Bits.{has_sched, has_deactivated, has_missed, has_draining}
use Rattle.lq_table.proofs.ByName.{xoff_of}
use Rattle.lq_table.proofs.StopsKept.{agree}

bit_small : (b : Bool) → bit b ≤ 1
bit_small true = omega arith
bit_small false = omega arith

four_bits : (s d m r : Bool) → bit s + 2 * bit d + 4 * bit m + 8 * bit r < 16
four_bits s d m r = let a = bit_small s in let b = bit_small d in let c = bit_small m in let e = bit_small r in omega arith

-- what the state word tells the first seat
pub sees_down : (k : Setup) (s : table.State (Option StationState) View) (r : Rule k s) (id : ℕ) (v : View) → get_elem? s.views id ≡ some v → v.control.first ≡ true → SeesDown v (get_or s.words state_place 0)
sees_down k s r id v here first = let q = r.qdisc in let t = r.parts.station.stands in let e : ℕ = event_word (account k r.state).down in
    let down : down_of v.trail ≡ (account k r.state).down = ap down_of (r.parts.seats.trails.knows id v here first) ∙ down-is k.infos (first_account k) refl r.state.past in record {
      down = ap (is_set 2) t.state ∙ has_deactivated q.sched q.deactivated q.missed q.draining e ∙ r.parts.station.ties.down ∙ sym (ap (λ (o : Option ℕ). is_some o) down);
      event = λ event is. (state_word q, four_bits q.sched q.deactivated q.missed q.draining, t.state ∙ ap (λ (o : Option ℕ). state_word q + 256 * event_word o) (sym down ∙ is));
    }

module _ (k : Setup) (s : table.State (Option StationState) View) (r : Rule k s) (id : ℕ) (v : View) (here : get_elem? s.views id ≡ some v) (some_share : 0 < v.share.shares) (sole : IsSole v) where
  pub knows_qdisc : v.whole.qdisc ≡ r.qdisc
  knows_qdisc = (r.parts.seats.sole id v here sole.0 sole.1).0

  pub knows_account : account_of v ≡ account k r.state
  knows_account = ap₂ account (r.parts.seats.shares.about id v here (lt-ltb 0 v.share.shares some_share)) (r.parts.seats.sole id v here sole.0 sole.1).1

  pub knows_state : v.whole.state ≡ r.state
  knows_state = (r.parts.seats.sole id v here sole.0 sole.1).1

  pub sees_state : SeesState v (get_or s.words state_place 0)
  sees_state = let q = r.qdisc in let t = r.parts.station.stands in let e : ℕ = event_word (account k r.state).down in record {
    scheduled = ap (is_set 1) t.state ∙ has_sched q.sched q.deactivated q.missed q.draining e ∙ sym (ap (λ (z : Qdisc). z.sched) knows_qdisc);
    down = ap (is_set 2) t.state ∙ has_deactivated q.sched q.deactivated q.missed q.draining e ∙ r.parts.station.ties.down ∙ sym (ap (λ (a : Account). is_some a.down) knows_account);
    missed = ap (is_set 4) t.state ∙ has_missed q.sched q.deactivated q.missed q.draining e ∙ sym (ap (λ (z : Qdisc). z.missed) knows_qdisc);
    draining = ap (is_set 8) t.state ∙ has_draining q.sched q.deactivated q.missed q.draining e ∙ sym (ap (λ (z : Qdisc). z.draining) knows_qdisc);
    event = λ event down. (state_word q, four_bits q.sched q.deactivated q.missed q.draining, t.state ∙ ap (λ (o : Option ℕ). state_word q + 256 * event_word o) (ap (λ (a : Account). a.down) (sym knows_account) ∙ down));
  }

  pub sees_lock : get_or s.words lock_place 0 ≡ bit v.whole.qdisc.locked
  sees_lock = r.parts.station.stands.lock ∙ sym (ap (λ (z : Qdisc). bit z.locked) knows_qdisc)

  pub sees_stop : v.whole.state.shut ≡ None → (queue : ℕ) → get_or s.words (xoff_word k queue) 0 ≡ slice_index (account_of v).stops queue
  sees_stop no_shut queue = xoff_of k s.words queue ∙ ap (λ (ls : List ℕ). slice_index ls queue) (sym r.parts.station.stands.xoff ∙ agree _ _ _ _ r.state.shut (sym (ap (λ (g : State). g.shut) knows_state) ∙ no_shut) r.parts.station.stops) ∙ sym (ap (λ (a : Account). slice_index a.stops queue) knows_account)

  -- what the holder would have
  pub knows_holders : (size : ℕ) → holders r.state (account k r.state) size ≡ holders v.whole.state (account_of v) size
  knows_holders size = ap₂ (λ (g : State) (a : Account). holders g a size) (sym knows_state) (sym knows_account)

  pub holds_accounts : holds_lock v.place.position ≡ true → IsAccounts v
  holds_accounts holds = let at = r.parts.station.lends.knows id v here (lt-ltb 0 v.share.shares some_share) holds in
      let size : (words_of k s.words).size ≡ v.holder.size = sym (ap (λ (z : HolderPart). z.size) at.is) in
      at.is ∙ ap (holders r.state (account k r.state)) size ∙ knows_holders v.holder.size

  pub holds_sent : holds_lock v.place.position ≡ true → HasSent v
  holds_sent holds = let at = r.parts.station.lends.knows id v here (lt-ltb 0 v.share.shares some_share) holds in
      ap (λ (a : Account). a.sent a.unit) knows_account ∙ (r.parts.account.sends.sent ∙ sym (ap (λ (z : HolderPart). z.station.device.accepted) at.is))
