-- Between any two steps somebody comes for what waits.
use Rattle.std.proofs.Common.{◌≡◌, ℕ, false, List, length-drop, Contains, Option, None, Some, refl, sym, ap, ◌∙◌, subst, ⊎_elim, arith, eqb, ◌⊎◌, inl}
use Rattle.std.specs.Prelude.{slice_index}
use Rattle.lq_model.specs.Kept.{IsInductive}
use Rattle.lq_model.specs.Machine.{Machine}
use Rattle.lq_model.specs.Positions.{Holds}
use Rattle.lq_run_core.proofs.Bounded.{not-kept}
use Rattle.lq_run_core.proofs.Comes.{somebody}
use Rattle.lq_run_core.proofs.Sent.{is-sent}
use Rattle.lq_run_core.specs.Comes.{ControlMoves, SomebodyMoves}
use Rattle.lq_run_core.specs.Waits.{AllOpen}
use Rattle.lq_model.specs.Account.{held}
use Rattle.lq_account_laws.specs.Places.{InBand}
use Rattle.lq_account_laws.proofs.Changes.{held-cases}
use Rattle.std.specs.Option.{option_map}
use Rattle.lq_table.specs.Rule.{words_of, account, event_word, bands_now, Ties, Rule}
use Rattle.lq_table.specs.Moves.{is_set}
use Rattle.lq_table.specs.Views.{Setup, Left, machine_packet}
use Rattle.lq_table.proofs.Bits.{has_deactivated}
use Rattle.lq_table.proofs.Ties.{holds_tied}
use Rattle.lq_table_laws.specs.Stands.{Table, machine_by, AreOpen, AreQueuesOpen, LeavesNoPacket}

pub no_packet_left : (m : Machine) → IsInductive m → LeavesNoPacket m
no_packet_left m kept = record {
  comes = λ p active waits. somebody p m kept.kept active waits;
  few = λ p n c goes. not-kept p m n c kept.kept.one_holder goes;
  sent = λ p n c waits goes calm more. is-sent p m n c kept waits goes calm more;
}

-- BY THE WORDS

module _ (k : Setup) (s : Table) (r : Rule k s) where
  abbrev machine : Machine
  machine = machine_by r

  -- what the account holds the machine holds, and where a purge is half done that is in the requeue slot
  pub holds : (n : ℕ) → Contains (held (account k r.state)) n → Holds machine (machine_packet k.infos n)
  holds n is = by r.state.left refl
    where
      by : (o : Option Left) → r.state.left ≡ o → Holds machine (machine_packet k.infos n)
      by None e = holds_tied k.infos machine (account k r.state) (subst (λ (o : Option Left). Ties k.infos r.qdisc (account k r.state) (bands_now o (account k r.state).bands)) e r.parts.station.ties) n is
      by (Some l) e = ⊎_elim
          (λ (slot : (account k r.state).slot ≡ Some n). inl (r.parts.station.ties.slot ∙ ap (option_map (machine_packet k.infos)) slot))
          (λ (i : InBand (account k r.state) n). absurd (let gone = r.parts.account.leaves.lines l e i.band i.below in
          let none_left = length-drop ((account k r.state).bands i.band).taken ((account k r.state).bands i.band).line in let inside = i.holds.1 in let all = gone.1 in omega arith))
          (held-cases (account k r.state) n is)

  active : AreOpen (words_of k s.words) → r.qdisc.deactivated ≡ false
  active o = let q = r.qdisc in sym (ap (is_set 2) r.parts.station.stands.state ∙ has_deactivated q.sched q.deactivated q.missed q.draining (event_word (account k r.state).down)) ∙ o.active

  pub all_open : AreQueuesOpen (words_of k s.words) → AllOpen machine
  all_open o queue = ap (λ (n : ℕ). eqb n 0) (ap (λ (ns : List ℕ). slice_index ns queue) r.parts.station.stands.xoff ∙ o queue)

  pub comes : (n : ℕ) → AreOpen (words_of k s.words) → Contains (held (account k r.state)) n → SomebodyMoves machine ⊎ ControlMoves machine
  comes n o is = somebody (machine_packet k.infos n) machine r.parts.machine.invariant.kept (active o) (record { waits = inl (holds n is); queues_open = all_open o.queues_open })
