-- What the steps of the machine make of what a seat knows that has the table alone.
use Rattle.std.proofs.Common.{◌≡◌, Bool, true, false, refl, ap}
use Rattle.std.specs.Prelude.{if◌then◌else◌, is_some}
use Rattle.lq_model.specs.Account.{Back}
use Rattle.lq_model.specs.declared.machine.Answer.TheVariants.{Plain}
use Rattle.lq_model.specs.declared.machine.Position.{Position}
use Rattle.lq_model.specs.declared.machine.Seat.{Seat}
use Rattle.lq_model.specs.Machine.{Qdisc}
use Rattle.lq_model.specs.Positions.{in_hand}
use Rattle.lq_model.specs.Steps.{After, step_at}
use Rattle.lq_table.specs.Views.{View}
use Rattle.lq_table.specs.Moves.{seen_by, pass_view, stepped}
use Rattle.lq_table.specs.States.{backing, set_bit_view, set_bit_alone}
use Rattle.lq_table.specs.Sees.{Solo, solo, heard}

pub either_raised : (b : Bool) (x y : After) (c : Bool) → x.seat.raised ≡ c → y.seat.raised ≡ c → (if b then x else y).seat.raised ≡ c
either_raised true x y c e e' = e
either_raised false x y c e e' = e'

pub either_words : (b : Bool) (x y : After) (q : Qdisc) → (b ≡ true → x.qdisc ≡ q) → (b ≡ false → y.qdisc ≡ q) → (if b then x else y).qdisc ≡ q
either_words true x y q e e' = e refl
either_words false x y q e e' = e' refl

-- a step that leaves the raised mark
pub record Leaves (y : Position) (to : Qdisc → Qdisc) : Type 0 where
  pub raised : (seen : Qdisc) (s : Seat) → (step_at y Plain seen s).seat.raised ≡ s.raised
  pub words : (q : Qdisc) (s : Seat) → (step_at y Plain q s).qdisc ≡ to q

-- what it makes of the solo view
pub solo_step : (v : View) (seen : Qdisc) (to : Qdisc → Qdisc) → Leaves v.place.position to
    → solo (stepped Plain seen v) ≡ record (solo v) { whole = record (solo v).whole { missed = (to v.whole.qdisc).missed; draining = (to v.whole.qdisc).draining; scheduled = (to v.whole.qdisc).sched; locked = (to v.whole.qdisc).locked } }
solo_step v seen to l = let a = l.raised seen v.place in let b = l.words v.whole.qdisc v.place in
    λ j. record (solo v) { raised = a j; whole = record (solo v).whole { missed = (b j).missed; draining = (b j).draining; scheduled = (b j).sched; locked = (b j).locked } }

-- MISSED or DRAINING is set by the holder
pub record Sets (y : Position) (to : Qdisc → Qdisc) : Type 0 where
  pub raised : (seen : Qdisc) (s : Seat) → (step_at y Plain seen s).seat.raised ≡ s.raised
  pub missed : (q : Qdisc) (s : Seat) → (step_at y Plain q s).qdisc.missed ≡ (to q).missed
  pub draining : (q : Qdisc) (s : Seat) → (step_at y Plain q s).qdisc.draining ≡ (to q).draining
  pub scheduled : (q : Qdisc) (s : Seat) → (step_at y Plain q s).qdisc.sched ≡ (to q).sched
  pub locked : (q : Qdisc) (s : Seat) → (step_at y Plain q s).qdisc.locked ≡ (to q).locked

pub set_step : (v : View) (to : Qdisc → Qdisc) → Sets v.place.position to
    → solo (set_bit_view v) ≡ set_bit_alone v (record (solo v) { whole = record (solo v).whole { missed = (to v.whole.qdisc).missed; draining = (to v.whole.qdisc).draining; scheduled = (to v.whole.qdisc).sched; locked = (to v.whole.qdisc).locked } })
set_step v to t = by (is_some (in_hand v.place.position))
  where
    w : Solo
    w = record (solo v) { whole = record (solo v).whole { missed = (to v.whole.qdisc).missed; draining = (to v.whole.qdisc).draining; scheduled = (to v.whole.qdisc).sched; locked = (to v.whole.qdisc).locked } }

    bits : solo (pass_view v) ≡ w
    bits = let a = t.raised (seen_by v) v.place in let b = t.missed v.whole.qdisc v.place in let c = t.draining v.whole.qdisc v.place in let d = t.scheduled v.whole.qdisc v.place in let e = t.locked v.whole.qdisc v.place in
        λ j. record (solo v) { raised = a j; whole = record (solo v).whole { missed = b j; draining = c j; scheduled = d j; locked = e j } }

    by : (b : Bool) → solo (if b then backing v else pass_view v) ≡ (if b then heard Back w else w)
    by true = ap (heard Back) bits
    by false = bits
