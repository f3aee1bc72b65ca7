-- What is held or lies in the requeue slot is a packet of the station, on one of its queues.
use Rattle.std.proofs.Common.{◌≡◌, ℕ, true, Contains, refl, sym, subst, Option, Some, None}
use Rattle.std.specs.List.{slice_get}
use mathlib.Core.Option.{some}
use lib.ListN.{get_elem?}
use Rattle.atomic_table.specs.Table as table
use Rattle.lq_device.specs.Station.{StationState}
use Rattle.lq_model.specs.Account.{held_in}
use Rattle.lq_model.specs.Legal.{brought_by}
use Rattle.lq_account_laws.proofs.Lists.{drop-in}
use Rattle.lq_table.specs.Views.{View, Setup}
use Rattle.lq_table.specs.Rule.{account, is_live, Rule}
use Rattle.lq_table.specs.Moves.{IsPacketOf, IsKnownSlot}
use Rattle.lq_table.proofs.Accounts.{contains_get}

module _ (k : Setup) (s : table.State (Option StationState) View) (r : Rule k s) (id : ℕ) (v : View) (here : get_elem? s.views id ≡ some v) (live : is_live v ≡ true) where
  -- a packet that was brought
  pub knows_brought : (n : ℕ) → Contains (brought_by r.state.past) n → IsPacketOf v.share.about n
  knows_brought n has = let p = r.parts in let known = p.account.accounted.brought.packets n has in
      subst (λ (y : Setup). IsPacketOf y n) (sym (p.seats.shares.about id v here live)) (known.0, r.setup.queues_are n known.0 known.1)

  pub knows_slot : IsKnownSlot v.share.about (account k r.state).slot
  knows_slot = by (account k r.state).slot refl
    where
      by : (o : Option ℕ) → (account k r.state).slot ≡ o → IsKnownSlot v.share.about o
      by None e = tt
      by (Some n) e = knows_brought n (r.parts.account.accounted.brought.slot n e)

  pub knows_held : (b n : ℕ) → slice_get (held_in (account k r.state) b) 0 ≡ Some n → IsPacketOf v.share.about n
  knows_held b n is = let a = account k r.state in knows_brought n (r.parts.account.accounted.brought.lines b n (drop-in (a.bands b).taken (a.bands b).line n (contains_get (held_in a b) 0 n is)))
