-- What a seat that has the table alone, and is in no call, knows of what is left: a load of the run lock tells it.
use Rattle.std.proofs.Common.{◌≡◌, inl, inr, slice_index, ℕ, ◌<◌, true, false, List, length-drop, sym, ap, ◌∙◌, subst, arith, Option, None}
use Rattle.std.specs.Prelude.{is_some}
use Rattle.std.proofs.lemmas.List.{get_or_past}
use mathlib.Core.Logic.{dite}
use mathlib.Core.Option.{some, none}
use native.Mathlib.Decide.{dec_lt}
use lib.ListN.{get_elem?}
use Rattle.atomic_table.specs.Table as table
use Rattle.atomic_table.specs.Table.{step, Allows}
use Rattle.lq_device.specs.Station.{StationState}
use Rattle.lq_model.specs.Account.{Account}
use Rattle.lq_model.specs.Machine.{Qdisc, is_closed}
use Rattle.lq_model.specs.Plan.{owner_in}
use Rattle.lq_band_laws.specs.Seats.{total}
use Rattle.lq_account_laws.specs.Places.{IsPlaced}
use Rattle.lq_table.specs.Places.{lock_place}
use Rattle.lq_table.specs.Views.{View, Setup, State, PacketPart, Left}
use Rattle.lq_table.specs.Rule.{words_of, stops_offset, account, machine_of, bands_now, has_turn, is_live, Ties, Rule}
use Rattle.lq_table.specs.Moves.{Sat, unchanged}
use Rattle.lq_table.specs.AtRest.{IsSoleAtRest, IsFatedOrHeld, IsRest, KnowsRest}
use Rattle.lq_table.proofs.shared.Shared.load_lock.Invariants.{load_lock_told}
use Rattle.lq_table.proofs.AllAtRest.{unlocked, nothing, no_purge, home, all_bands, none_at_all}
use Rattle.lq_table.proofs.Ends.{live, rests, nobody}
use Rattle.lq_table.proofs.Decided.{all_placed}
use Rattle.lq_table.proofs.Loads.{also, loads_any}
use Rattle.lq_table.proofs.SoleFacts.{knows_qdisc, knows_account, knows_state}
use Rattle.lq_table.proofs.StopsKept.{agree, free_none}
use Rattle.lq_table.proofs.Ties.{holds_none}

placed_kept : (a : Account) (n : ℕ) → a.hand ≡ None → IsPlaced a n → IsFatedOrHeld a n
placed_kept a n empty (inl fate) = inl fate
placed_kept a n empty (inr (inl is_held)) = inr is_held
placed_kept a n empty (inr (inr in_hand)) = absurd cc

module _ (k : Setup) (s : table.State (Option StationState) View) (r : Rule k s) (id : ℕ) (v : View) (at_id : get_elem? s.views id ≡ some v) (alone : IsSoleAtRest v) (some_queue : 0 < k.queues) where
  abbrev all : v.share.shares ≡ 1024
  all = alone.0.0

  abbrev a : Account
  a = account k r.state

  lives : is_live v ≡ true
  lives = live k s r id v at_id all alone.1

  -- a word that is none of the queues' reads as 0
  opens : ((queue : ℕ) → queue < k.queues → slice_index (words_of k s.words).xoff queue ≡ 0) → (queue : ℕ) → slice_index (words_of k s.words).xoff queue ≡ 0
  opens all_zero queue = dite (dec_lt queue k.queues) (all_zero queue)
      (λ past. get_or_past (words_of k s.words).xoff queue 0 (let d = length-drop (stops_offset k) s.words in let w = r.wide in omega arith))

  ties_now : r.state.left ≡ None → Ties k.infos r.qdisc a a.bands
  ties_now left_none = subst (λ (o : Option Left). Ties k.infos r.qdisc a (bands_now o a.bands)) left_none r.parts.station.ties

  shut_none : r.state.shut ≡ None
  shut_none = free_none r.qdisc.phase r.qdisc.locked r.qdisc.xoff a.stops r.state.shut (unlocked k s r (rests k s r id v at_id all alone.1)) r.parts.station.stops

  stops_are : (queue : ℕ) → slice_index (words_of k s.words).xoff queue ≡ slice_index a.stops queue
  stops_are queue = ap (λ (xs : List ℕ). slice_index xs queue) (sym r.parts.station.stands.xoff ∙ agree r.qdisc.phase r.qdisc.locked r.qdisc.xoff a.stops r.state.shut shut_none r.parts.station.stops)

  rest : IsRest k v r.qdisc r.state a
  unfolding lives
  rest = let p = r.parts in let q = r.qdisc in let g = r.state in
      let none_busy = nobody k s r id v at_id all alone.1 alone.2 alone.3 in
      let hand : a.hand ≡ None = (home k s r (rests k s r id v at_id all alone.1)).hand_empty in
      record {
        hand_empty = hand;
        shut = shut_none;
        kept = λ n inside st own taken. let o : ℕ = owner_in k.infos n in let turn = p.seats.given.turn o (r.setup.owners n inside) in
            let nobodys : total (λ u. has_turn k.infos o u.packets.busy) s.views ≡ 0 = none_at_all (λ u. has_turn k.infos o u.packets.busy) s.views (λ j u e. ap (λ (x : PacketPart). has_turn k.infos o x.busy) (none_busy j u e).0) in
            let word = (p.seats.given.words_are id v at_id lives).1 o own in
            placed_kept a n hand (all_placed k g.past (all_bands k.infos r.setup.bands) p.account.accounted.comes n (p.seats.given.over n inside st (let e = turn.1 in omega arith)));
        quiet = λ unscheduled up all_zero. let active : q.deactivated ≡ false = p.station.ties.down ∙ ap is_some up in
            let left_none : g.left ≡ None = p.account.leaves.none_left (no_purge k s r (rests k s r id v at_id all alone.1) active) in
            holds_none k.infos (machine_of q s.views) a (ties_now left_none) (nothing k s r (rests k s r id v at_id all alone.1) unscheduled active (opens (λ queue h. stops_are queue ∙ all_zero queue h)));
        purged = λ first phase no_purge_. let knows = p.machine.firsts.knows id v at_id first in
            holds_none k.infos (machine_of q s.views) a (ties_now (p.account.leaves.none_left (sym knows.1 ∙ no_purge_))) (p.machine.invariant.kept.purged_holds_nothing (sym knows.0 ∙ phase)).1;
        down = λ first. sym p.station.ties.down ∙ (p.machine.invariant.deactivation ∙ ap is_closed (sym (p.machine.firsts.knows id v at_id first).0));
        unit = p.account.sends.unit;
        hung = λ queue two. p.account.device.hung queue two;
      }

  pub knows_rest : KnowsRest v
  unfolding lives
  knows_rest = let some_share : 0 < v.share.shares = omega (arith, all) in
      subst (λ (z : Setup × Qdisc × State × Account). IsRest z.0 v z.1 z.2 z.3)
      (λ j. (sym (r.parts.seats.shares.about id v at_id lives) j, sym (knows_qdisc k s r id v at_id some_share alone.0) j, sym (knows_state k s r id v at_id some_share alone.0) j, sym (knows_account k s r id v at_id some_share alone.0) j)) rest

-- what a load of the run lock tells
pub loads_lock : (k : Setup) (slots id : ℕ) (m : Sat) → 0 < k.queues → Allows (Rule k) slots id m lock_place (λ x. x) (load_lock_told (step slots lock_place 0 0 none) m)
loads_lock k slots id m some_queue = also k slots id m lock_place (λ x. x) (unchanged (step slots lock_place 0 0 none) m) (λ _. IsSoleAtRest m.0 → KnowsRest m.0) (λ s r here alone. knows_rest k s r id m.0 here alone some_queue) (loads_any k slots id m lock_place)
