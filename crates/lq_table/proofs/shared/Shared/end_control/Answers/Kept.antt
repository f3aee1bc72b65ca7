-- `end_control` keeps the rule of the table.
use Rattle.std.proofs.Common.{◌≡◌, ℕ, ◌<◌, false, refl, ap}
use Rattle.std.proofs.lemmas.Bool.{lt-ltb}
use mathlib.Core.Option.{none}
use Rattle.atomic_table.specs.Table.{step, Allows, keeps}
use Rattle.lq_model.specs.declared.machine.Position.TheVariants.{Idle, Control}
use Rattle.lq_model.specs.declared.machine.Seat.{Seat}
use Rattle.lq_model.specs.Control.{is_control}
use Rattle.lq_model.specs.Positions.{holds_lock}
use Rattle.lq_table.specs.Views.{View, Setup}
use Rattle.lq_table.specs.Rule.{Rule}
use Rattle.lq_table.specs.Moves.{Sat}
use Rattle.lq_table.specs.Controls.{end_control_view}
use Rattle.lq_table.proofs.Middle.{middle, to_idle}
use Rattle.lq_table.proofs.Frames.{opened}
use Rattle.lq_table.proofs.ControlCalls.{places}
use Rattle.lq_log.specs.Made.{becomes}

module _ (k : Setup) where
  pub returns_control : (slots id : ℕ) (m : Sat) → m.0.place.position ≡ Control false → 0 < m.0.share.shares → Allows (Rule k) slots id m 0 (λ x. x) (becomes (λ _. end_control_view) (step slots 0 0 0 none) m)
  returns_control slots id m position some_share s r deep here small =
      let v : View = m.0 in let live = lt-ltb 0 v.share.shares some_share in let t : Seat = record v.place { position = Idle } in (
        end_control_view v,
        keeps,
        tt,
        places k s r id v t here live
            (λ here live. let mid = middle s.views id v here live in to_idle r.qdisc mid.before mid.after v.place (Control false) position refl (opened s.views id v here live r.qdisc r.parts.machine.invariant))
            (ap holds_lock position) refl (λ y own. absurd cc) (r.parts.machine.firsts.control id v here live (ap is_control position)),
        refl,
      )
