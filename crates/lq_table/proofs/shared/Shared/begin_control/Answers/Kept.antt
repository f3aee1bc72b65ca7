-- `begin_control` keeps the rule of the table.
use Rattle.std.proofs.Common.{◌≡◌, ℕ, ◌<◌, true, false, refl, ap}
use Rattle.std.proofs.lemmas.Bool.{lt-ltb}
use mathlib.Core.Option.{none}
use Rattle.atomic_table.specs.Table.{step, Allows, keeps}
use Rattle.lq_model.specs.declared.machine.Beginning.TheVariants.{Controls}
use Rattle.lq_model.specs.declared.machine.Position.TheVariants.{Idle, Control}
use Rattle.lq_model.specs.declared.machine.Seat.{Seat}
use Rattle.lq_model.specs.Positions.{holds_lock}
use Rattle.lq_table.specs.Views.{View, Setup}
use Rattle.lq_table.specs.Rule.{Rule}
use Rattle.lq_table.specs.Moves.{Sat}
use Rattle.lq_table.specs.Controls.{begin_control_view}
use Rattle.lq_model.specs.Steps.{is_idle}
use Rattle.lq_table.proofs.Middle.{middle, begins_in}
use Rattle.lq_table.proofs.Frames.{opened}
use Rattle.lq_table.proofs.ControlCalls.{places}
use Rattle.lq_log.specs.Made.{becomes}

module _ (k : Setup) where
  pub begins_control : (slots id : ℕ) (m : Sat) → m.0.place.position ≡ Idle → m.0.control.first ≡ true → 0 < m.0.share.shares → Allows (Rule k) slots id m 0 (λ x. x) (becomes (λ _. begin_control_view) (step slots 0 0 0 none) m)
  begins_control slots id m position first some_share s r deep here small =
      let v : View = m.0 in let live = lt-ltb 0 v.share.shares some_share in let t : Seat = record v.place { position = Control false } in (
        begin_control_view v,
        keeps,
        tt,
        places k s r id v t here live
            (λ here live. let mid = middle s.views id v here live in begins_in r.qdisc mid.before mid.after v.place Controls (ap is_idle position) tt (opened s.views id v here live r.qdisc r.parts.machine.invariant))
            (ap holds_lock position) refl (λ y own. absurd cc) first,
        refl,
      )
