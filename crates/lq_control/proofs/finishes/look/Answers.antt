use Rattle.std.proofs.Common.{◌≡◌, ℕ, Bool, true, false, List, [], ◌∷◌, ◌++◌, None, sym, ap, ◌∙◌, subst}
use Rattle.std.specs.Prelude.{not, bit_and}
use Rattle.std.proofs.lemmas.Bool.{eq-eqb}
use Rattle.lq_table.specs.Sees.{view, setup, IsSole, account_of}
use Rattle.lq_table.specs.Step.{LoadInside, LoadLock, LoadState, MakesSteps, Step}
use Rattle.lq_table.specs.Moves.{is_set}
use Rattle.lq_table.specs.Views.{View, Setup}
use Rattle.lq_run.specs.Steps.{MakesStepsOf}
use Rattle.lq_table.proofs.StepsThen.{makes_then}
use Rattle.lq_control.specs.EndSteps.{AllHung, Deactivated, LoadStops, NotOver, NotQuiet, Over, are_quiet}
use Rattle.lq_control.specs.Finish.{AreKept, AreStopsBelow, Hangs, IsActiveOrPurged, IsLook}
use Rattle.lq_control.specs.Steps.{CallInside, NoCall}
use Rattle.lq_control.proofs.FinishLemmas.{not_eqb}
use Rattle.lq_control.proofs.Looks.{IsLooked, LooksAt, kept_looked, looked_inside, looked_still, looked_then, looks_at}
use Rattle.lq_control.proofs.Looks.{over_looked, told_hangs, told_over, told_quiet, told_up, up_looked}
use Rattle.lq_control.proofs.finishes.look.Given as given
use Rattle.lq_control.proofs.finishes.look.Goals as goal
use Rattle.lq_control.proofs.finishes.look.Goals.{After-are_stops-open, After-load_inside, After-load_state-state, Else-state-ne0}

-- What the run lock and the state tell.
module _ (g : given.Over) (c : After-load_state-state g) where
  abbrev k : Setup
  k = setup c.args.shared.now

  abbrev state : ℕ
  state = c.load_state-state.result

  abbrev loaded : View
  loaded = view c.load_state-state.new.cpu

  words : LooksAt k c.load_lock-lock.result state c.args.cpu.now c.load_state-state.new.cpu
  words =
      let a = c.load_lock-lock.ensures in let b = c.load_state-state.ensures in let r = c.requires in
      looks_at k c.load_lock-lock.result state c.args.cpu.now c.load_lock-lock.new.cpu c.load_state-state.new.cpu r.seat.2 r.at r.sole
      (a.makes.seat, a.makes.carries, a.makes.places, a.makes.has) a.makes.knows a.makes.told.0 a.makes (b.makes.seat, b.makes.carries, b.makes.places, b.makes.has) b.makes.knows b.makes.told.0.1 b.makes

pub returns-then-state-ne0 : goal.returns-then-state-ne0
returns-then-state-ne0 g c =
    let h = words g c.before in let down = ap not (not_eqb (bit_and c.load_state-state.result 2) 0 c.if-state-ne0.true) in record {
      same = h.same;
      kept = h.kept;
      shows = told_over (k g c.before) (state g c.before) (loaded g c.before) h.told down;
      makes = (LoadLock c.load_lock-lock.result ∷ LoadState c.load_state-state.result ∷ [], Deactivated down, h.makes);
    }

-- It isn't deactivated, and this stays so by further looks.
module _ (g : given.Over) (c : Else-state-ne0 g) where
  up : is_set 2 c.load_state-state.result ≡ false
  up = ap not (eq-eqb (bit_and c.load_state-state.result 2) 0 c.if-state-ne0.false)

  kept : (w : View) → IsLook (loaded g c.before) w → AreKept (k g c.before) w
  kept w look = kept_looked (k g c.before) (loaded g c.before) w look (words g c.before).kept

  still_up : (w : View) → IsLook (loaded g c.before) w → (account_of w).down ≡ None
  still_up w look =
      let b = c.before in up_looked (loaded g b) w look (told_up (k g b) (state g b) (loaded g b) (words g b).told up)

pub returns-then-are_stops : goal.returns-then-are_stops
returns-then-are_stops g c =
    let a = c.before.before.before in let b = a.before in let h = words g b in let e = c.are_stops.ensures in
    let old = c.load_state-state.new.cpu in let new = c.are_stops.new.cpu in let moved = looked_still old new e.same in
    let stops = e.sole h.told.sole h.told.rest.shut c.if-are_stops.true in
    let hung = subst (λ (all : Bool). MakesStepsOf (LoadStops (k g b).queues 2 all) old new) c.if-are_stops.true e.makes in record {
      same = looked_then c.args.cpu.now old new h.same moved;
      kept = kept g a (view new) moved.1;
      shows = subst Hangs (sym e.same.1) (told_hangs (k g b) (state g b) (loaded g b) h.told (up g a) c.args.shared.now.sized.4 stops);
      makes = (LoadLock c.load_lock-lock.result ∷ LoadState c.load_state-state.result ∷ [] ++ hung.0, AllHung (up g a) hung.1, makes_then h.makes hung.2);
    }

-- What is known after both looks at the stop words, of which the first found that not all are hung.
module _ (g : given.Over) (c : After-are_stops-open g) where
  abbrev at_up : Else-state-ne0 g
  at_up = c.before.before.before.before.before

  abbrev at_words : After-load_state-state g
  at_words = at_up.before

  moved : IsLooked c.load_state-state.new.cpu c.are_stops-open.new.cpu
  moved =
      let old = c.load_state-state.new.cpu in let one = c.are_stops.new.cpu in let two = c.are_stops-open.new.cpu in
      looked_then old one two (looked_still old one c.are_stops.ensures.same) (looked_still one two c.are_stops-open.ensures.same)

  abbrev is_quiet : Bool
  is_quiet = are_quiet c.are_stops-open.result c.load_lock-lock.result c.load_state-state.result

  -- not all are hung
  not_hung : MakesStepsOf (LoadStops (k g at_words).queues 2 false) c.load_state-state.new.cpu c.are_stops.new.cpu
  not_hung = subst (λ (all : Bool). MakesStepsOf (LoadStops (k g at_words).queues 2 all) c.load_state-state.new.cpu c.are_stops.new.cpu) c.if-are_stops.false c.are_stops.ensures.makes

  are_open : MakesStepsOf (LoadStops (k g at_words).queues 0 c.are_stops-open.result) c.are_stops.new.cpu c.are_stops-open.new.cpu
  are_open = c.are_stops-open.ensures.makes

  abbrev loads : List Step
  loads = LoadLock c.load_lock-lock.result ∷ LoadState c.load_state-state.result ∷ [] ++ not_hung.0 ++ are_open.0

  makes : MakesSteps loads c.args.cpu.now c.are_stops-open.new.cpu
  makes = makes_then (makes_then (words g at_words).makes not_hung.2) are_open.2

pub returns-then-not-are_quiet : goal.returns-then-not-are_quiet
returns-then-not-are_quiet g c =
    let a = c.before.before in let two = c.are_stops-open.new.cpu in let to_two = moved g a in
    let busy = subst (λ (q : Bool). q ≡ false) c.are_quiet.ensures.quiet c.if-not-are_quiet.true in record {
      same = looked_then c.args.cpu.now c.load_state-state.new.cpu two (words g (at_words g a)).same to_two;
      kept = kept g (at_up g a) (view two) to_two.1;
      shows = still_up g (at_up g a) (view two) to_two.1;
      makes = (loads g a, NotQuiet (up g (at_up g a)) (not_hung g a).1 (are_open g a).1 busy, makes g a);
    }

-- What is known once the calls inside are loaded.
module _ (g : given.Over) (c : After-load_inside g) where
  abbrev at_stops : After-are_stops-open g
  at_stops = c.before.before.before.before

  to_end : IsLooked c.load_state-state.new.cpu c.load_inside.new.cpu
  to_end =
      let i = c.load_inside.ensures in let two = c.are_stops-open.new.cpu in let b = words g (at_words g at_stops) in
      let settled = subst IsActiveOrPurged (sym (c.are_stops-open.ensures.same.1 ∙ c.are_stops.ensures.same.1)) b.told.settled in
      looked_then c.load_state-state.new.cpu two c.load_inside.new.cpu (moved g at_stops)
      (looked_inside c.load_inside.result two c.load_inside.new.cpu settled (i.makes.seat, i.makes.carries, i.makes.places, i.makes.has) i.makes.knows)

  quiet : is_quiet g at_stops ≡ true
  quiet = subst (λ (q : Bool). q ≡ true) c.are_quiet.ensures.quiet c.if-not-are_quiet.false

  same : IsLooked c.args.cpu.now c.load_inside.new.cpu
  same = looked_then c.args.cpu.now c.load_state-state.new.cpu c.load_inside.new.cpu (words g (at_words g at_stops)).same to_end

  kept_to_end : AreKept (setup c.args.shared.now) (view c.load_inside.new.cpu)
  kept_to_end = kept g (at_up g at_stops) (view c.load_inside.new.cpu) to_end.1

pub returns-then-load_inside-ne0 : goal.returns-then-load_inside-ne0
returns-then-load_inside-ne0 g c =
    let b = c.before in let a = at_stops g b in let w = c.load_inside.new.cpu in record {
      same = same g b;
      kept = kept_to_end g b;
      shows = still_up g (at_up g a) (view w) (to_end g b).1;
      makes = (
        loads g a ++ LoadInside c.load_inside.result ∷ [],
        NotOver (up g (at_up g a)) (not_hung g a).1 (are_open g a).1 (quiet g b) (CallInside c.if-load_inside-ne0.true),
        makes_then (makes g a) c.load_inside.ensures.makes,
      );
    }

pub returns : goal.returns
returns g c =
    let b = c.before in let a = at_stops g b in let d = at_words g a in let t = (words g d).told in let w = c.load_inside.new.cpu in
    let first = c.are_stops.ensures.same.1 in let opened = c.are_quiet.ensures.opened c.if-not-are_quiet.false in
    let shut = ap (λ (x : View). x.whole.state.shut) first ∙ t.rest.shut in
    let stops = c.are_stops-open.ensures.sole (subst IsSole (sym first) t.sole) shut opened in
    let all_open = subst (AreStopsBelow (k g d).queues 0) first stops in
    let over = told_quiet (k g d) (state g d) (loaded g d) t c.are_stops-open.result _ (up g (at_up g a)) (quiet g b) all_open in record {
      same = same g b;
      kept = kept_to_end g b;
      shows = over_looked (loaded g d) (view w) (to_end g b).1 over;
      makes =
          let none = subst (λ (n : ℕ). MakesSteps (LoadInside n ∷ []) c.are_stops-open.new.cpu w) c.if-load_inside-ne0.false c.load_inside.ensures.makes in
          (loads g a ++ LoadInside 0 ∷ [], Over (up g (at_up g a)) (not_hung g a).1 (are_open g a).1 (quiet g b) NoCall, makes_then (makes g a) none);
    }
