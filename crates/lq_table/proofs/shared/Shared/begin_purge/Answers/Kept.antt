-- `begin_purge` keeps the rule of the table.
use Rattle.std.proofs.Common.{inl, ◌≡◌, ℕ, ◌+◌, ◌*◌, ◌<◌, true, true≢false, refl, sym, ap, ◌∙◌, Option, None}
use Rattle.std.proofs.lemmas.Bool.{lt-ltb}
use mathlib.Core.Option.{none}
use Rattle.atomic_table.specs.Table.{step, Allows, keeps}
use Rattle.lq_model.specs.declared.fate.Cause.TheVariants as cause
use Rattle.lq_model.specs.declared.machine.Phase.{Phase}
use Rattle.lq_model.specs.declared.machine.Phase.TheVariants.{Active, Closing, Quiet, Purged}
use Rattle.lq_model.specs.declared.machine.Position.TheVariants.{Control}
use Rattle.lq_model.specs.Machine.{is_closed, state_word}
use Rattle.lq_model.specs.Control.{is_quiet, is_control}
use Rattle.lq_model.specs.Positions.{holds_lock}
use Rattle.lq_account_laws.proofs.Trails.{down-is}
use Rattle.lq_account_laws.specs.Trail.{down_of}
use Rattle.lq_table.specs.Places.{state_place}
use Rattle.lq_table.specs.Views.{View, Setup, first_account}
use Rattle.lq_table.specs.Rule.{account, event_word, Rule}
use Rattle.lq_table.specs.Moves.{Sat}
use Rattle.lq_table.specs.Purges.{begin_purge_view}
use Rattle.lq_table.proofs.shared.Shared.begin_purge.Invariants.{begin_purge_told}
use Rattle.lq_table.proofs.BeginPurgeKept.{bits_small, held_few, held_known, held_packets, purges_as, some_of}

quiet_closed : (p : Phase) → is_quiet p ≡ true → is_closed p ≡ true
quiet_closed Active h = absurd (true≢false (sym h))
quiet_closed Closing h = absurd (true≢false (sym h))
quiet_closed Quiet h = refl
quiet_closed Purged h = refl

module _ (k : Setup) where
  -- a purge begins for the event that deactivated the station
  pub purges : (slots id : ℕ) (m : Sat) → m.0.place.position ≡ Control true → is_quiet m.0.control.phase ≡ true → m.0.control.purge ≡ None → m.0.holder.resizing ≡ None → m.0.packets.owed ≡ None → m.0.packets.fresh ≡ None → 0 < m.0.share.shares
      → Allows (Rule k) slots id m state_place (λ x. x) (begin_purge_told (step slots state_place 0 0 none) m)
  purges slots id m position quiet no_purge no_resizing no_debts no_fresh some_share s r deep here small =
      let v : View = m.0 in let p = r.parts in let q = r.qdisc in let a = account k r.state in let live = lt-ltb 0 v.share.shares some_share in
      let first : v.control.first ≡ true = p.machine.firsts.control id v here live (ap is_control position) in let knows = p.machine.firsts.knows id v here first in
      let phase : is_quiet q.phase ≡ true = ap is_quiet (sym knows.0) ∙ quiet in let no_left = p.account.leaves.none_left (sym knows.1 ∙ no_purge) in
      let down = some_of a.down (sym p.station.ties.down ∙ (p.machine.invariant.deactivation ∙ quiet_closed q.phase phase)) in (
        begin_purge_view (cause.Event down.0) (record { low = a.bands 0; mid = a.bands 1; high = a.bands 2 }) v,
        keeps,
        tt,
        purges_as k s r id v (cause.Event down.0) here position no_purge no_debts no_fresh some_share down.1 (inl phase),
        (
          down.0,
          state_word q,
          record { low = a.bands 0; mid = a.bands 1; high = a.bands 2 },
          p.account.accounted.down down.0 down.1,
          bits_small q,
          p.station.stands.state ∙ ap (λ (o : Option ℕ). state_word q + 256 * event_word o) down.1,
          held_few k s r id v here some_share (ap holds_lock position) no_resizing no_left,
          held_packets k s r id v here some_share,
          held_known k s r id v here some_share,
          ap down_of (p.seats.trails.knows id v here first) ∙ (down-is k.infos (first_account k) refl r.state.past ∙ down.1),
          refl,
        ),
      )
