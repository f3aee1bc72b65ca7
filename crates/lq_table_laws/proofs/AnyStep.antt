-- What is so of a step of any kind.
use Rattle.std.proofs.Common.{◌≡◌, ℕ, Bool, true, false, List, refl, sym, ap, ◌∙◌, subst, get_or}
use Rattle.std.specs.Prelude.{if◌then◌else◌}
use mathlib.Core.Option.{some}
use lib.ListN.{get_elem?}
use Rattle.lq_log.specs.Made.{Made, cut}
use Rattle.lq_model.specs.Machine.{Machine}
use Rattle.lq_run_core.specs.Progress.{Course}
use Rattle.lq_table.specs.Rule.{is_live}
use Rattle.lq_table.specs.Step.{Standing, Step, step_leaves}
use Rattle.lq_table.specs.Views.{Setup, View}
use Rattle.lq_table_laws.specs.StepMoves.{IsLogged, IsMadeAs, terms}
use Rattle.lq_table_laws.specs.Stepped.{KeepsStation, KeepsWord, Leads, Remains, Stepped, machine_after, machine_before, none_sent, of_control}
use Rattle.lq_table_laws.proofs.Looks.{looks_only}

-- one move of a call, one of control, and none
abbrev pub one_move : Course
one_move = none_sent 1 0

abbrev pub one_of_control : Course
one_of_control = of_control 1 18

abbrev pub no_move : Course
no_move = none_sent 0 0

-- one course or the other
pub either : {m n : Machine} {yes no : Course} (b : Bool) → (b ≡ true → Leads yes m n) → (b ≡ false → Leads no m n) → Leads (if b then yes else no) m n
either true is other = is refl
either false is other = other refl

pub remains : (v : View) → Remains v v
remains v = record { share = refl; place = refl; holder = refl; control = refl }

-- a step of this kind, of a seat that has this, is its moves
abbrev pub AreItsMoves : {k : Setup} {place : ℕ} → Step → Standing → Stepped k place → Type 0
AreItsMoves {k = k} x s t = Leads (terms k x s).course (machine_before t) (machine_after t)

-- and one at this word
abbrev pub MovesAt : Step → Standing → ℕ → Type 0
MovesAt x s place = (t : Stepped s.view.share.about place) → IsMadeAs x s t → AreItsMoves x s t

module _ {k : Setup} {place : ℕ} {x : Step} {s : Standing} {t : Stepped k place} (m : IsMadeAs x s t) where
  pub here : get_elem? t.old.views t.seat ≡ some s.view
  here = t.here ∙ ap some m.knew

  pub live : is_live s.view ≡ true
  live = ap is_live (sym m.knew) ∙ t.live

  -- what its log says of it
  pub logs : IsLogged (get_or (step_leaves x s).steps 0 cut) t
  logs = subst (λ (z : Made). IsLogged z t) (sym (ap (λ (zs : List Made). get_or zs 0 cut) m.appends)) m.logged

  -- a look by which the seat stays where it is
  pub stays : KeepsStation t → KeepsWord t → (w : View) → t.after ≡ w → Remains s.view w → Leads no_move (machine_before t) (machine_after t)
  stays same word w is e = looks_only k t.old t.rule place t.stored t.seat s.view t.after t.homes t.rule_after here live same (subst (Remains s.view) (sym is) e) word
