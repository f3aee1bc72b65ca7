-- What the steps of a begin come to: what they leave as it was, what a seat knows that has the table alone, and where they lead.
use Rattle.std.proofs.Common.{◌≡◌, ℕ, Bool, true, false, not, if◌then◌else◌, List, [], ◌∷◌, ◌++◌, get_or, ◌<◌, Option, None, Some, refl, sym, ap, ◌∙◌, subst}
use Rattle.std.proofs.lemmas.Bool.{false≢true, true≢false}
use Rattle.lq_device.specs.Station.{StationState}
use Rattle.lq_model.specs.Steps.{gives_up}
use Rattle.lq_model.specs.declared.machine.Attempt.{Attempt}
use Rattle.lq_model.specs.declared.machine.Attempt.TheVariants.{Direct, Interrupt, Queued}
use Rattle.lq_model.specs.declared.machine.Position.{Position}
use Rattle.lq_model.specs.declared.machine.Position.TheVariants.{Try1}
use Rattle.lq_table.specs.Locks.{locked_to}
use Rattle.lq_table.specs.Moves.{IsKnownSlot}
use Rattle.lq_table.specs.Rule.{shown, IsResting}
use Rattle.lq_table.specs.Sees.{view, position, slot, solo, IsAccounts, IsSole, Solo}
use Rattle.lq_table.specs.States.{missed_to}
use Rattle.lq_table.specs.Step.{MakesSteps, MoveStation, Standing, Step, TryLock, standing, step_tells, steps_leave, steps_tell}
use Rattle.lq_table.specs.Views.{HolderPart, Setup, SharePart, View}
use Rattle.lq_table.specs.declared.shared.Cpu.{Cpu}
use Rattle.lq_run.specs.Runs.{BeginsAsHolder, HasNone, StandsWithoutStation, after_got, after_missed, run_got}
use Rattle.lq_run.specs.Steps.{AtOnce, Begin, InTheEnd, MakesStepsOf, Missed, MissedBefore}
use Rattle.lq_run.proofs.Keeps.{IsElseKept, IsEventless, kept_still}
use Rattle.lq_table.proofs.StepsThen.{leave_then, stands_after, tell_first, tell_last}
use Rattle.lq_run.proofs.Tried.{sole_still, still, tried, noted}
use Rattle.lq_run.proofs.TryLemmas.{place_locked, place_missed, LeadsGot, Touches, first_got, first_leads, first_locked, missed_leads, missed_touches, second_got, second_leads, second_locked, touches_then}

three : (xs ys zs : List Step) (s : Standing) → steps_leave (xs ++ ys ++ zs) s ≡ steps_leave zs (steps_leave ys (steps_leave xs s))
three xs ys zs s = leave_then (xs ++ ys) zs s ∙ ap (steps_leave zs) (leave_then xs ys s)

tell_third : (xs ys zs : List Step) (s : Standing) → steps_tell (xs ++ ys ++ zs) s → steps_tell zs (steps_leave ys (steps_leave xs s))
tell_third xs ys zs s t = subst (steps_tell zs) (leave_then xs ys s) (tell_last (xs ++ ys) zs s t)

tell_second : (xs ys zs : List Step) (s : Standing) → steps_tell (xs ++ ys ++ zs) s → steps_tell ys (steps_leave xs s)
tell_second xs ys zs s t = tell_last xs ys s (tell_first (xs ++ ys) zs s t)

-- WHEREVER IT BEGINS

pub record IsBegun (answer : Bool) (s z : Standing) : Type 0 where
  pub rest : still z.view ≡ still s.view
  pub indices : z.indices ≡ s.indices
  pub sole : IsSole s.view → (answer ≡ not s.view.whole.qdisc.locked) × (solo z.view ≡ locked_to true (if answer then solo s.view else missed_to true (solo s.view))) × (answer ≡ true → IsAccounts z.view)

begun_as : (answer : Bool) (s z y : Standing) → z ≡ y → IsBegun answer s y → IsBegun answer s z
begun_as answer s z y e b = subst (IsBegun answer s) (sym e) b

pub begun : {answer : Bool} {xs : List Step} → Begin answer xs → (s : Standing) → steps_tell xs s → IsBegun answer s (steps_leave xs s)
begun (AtOnce {first} t) s told =
    let move = MoveStation ∷ [] in let y = tried t s (tell_first first move s told) in let z = steps_leave first s in
    begun_as true s (steps_leave (first ++ move) s) (steps_leave move z) (leave_then first move s) (record {
      rest = y.rest;
      indices = y.indices;
      sole = λ alone. (let q = y.sole alone in (q.1, q.0, q.2));
    })
begun (MissedBefore {first} {noted = second} t n) s told =
    let y = tried t s (tell_first first second s told) in let z = steps_leave first s in
    let w = noted n z (tell_last first second s told) in
    begun_as false s (steps_leave (first ++ second) s) (steps_leave second z) (leave_then first second s) (record {
      rest = w.rest ∙ y.rest;
      indices = w.indices ∙ y.indices;
      sole = λ alone. (let q = y.sole alone in (q.1, w.step ∙ ap (λ (k : Solo). missed_to true k) q.0, λ yes. absurd (false≢true yes)));
    })
begun (InTheEnd {first} {noted = second} {again = third} t n r) s told =
    let move = MoveStation ∷ [] in let told_ = tell_first (first ++ second ++ third) move s told in
    let y = tried t s (tell_first first second s (tell_first (first ++ second) third s told_)) in let z = steps_leave first s in
    let w = noted n z (tell_second first second third s told_) in let u = steps_leave second z in
    let k = tried r u (tell_third first second third s told_) in let o = steps_leave third u in
    begun_as true s (steps_leave (first ++ second ++ third ++ move) s) (steps_leave move o) (leave_then (first ++ second ++ third) move s ∙ ap (steps_leave move) (three first second third s)) (record {
      rest = k.rest ∙ (w.rest ∙ y.rest);
      indices = k.indices ∙ (w.indices ∙ y.indices);
      sole = λ alone.
          let again = k.sole (sole_still s.view u.view (w.rest ∙ y.rest) alone) in
          let held : u.view.whole.qdisc.locked ≡ true = ap (λ (q : Solo). q.whole.locked) (w.step ∙ ap (λ (q : Solo). missed_to true q) (y.sole alone).0) in
          absurd (true≢false (again.1 ∙ ap not held));
    })
begun (Missed {first} {noted = second} {again = third} t n r) s told =
    let y = tried t s (tell_first first second s (tell_first (first ++ second) third s told)) in let z = steps_leave first s in
    let w = noted n z (tell_second first second third s told) in let u = steps_leave second z in
    let k = tried r u (tell_third first second third s told) in let o = steps_leave third u in
    begun_as false s (steps_leave (first ++ second ++ third) s) o (three first second third s) (record {
      rest = k.rest ∙ (w.rest ∙ y.rest);
      indices = k.indices ∙ (w.indices ∙ y.indices);
      sole = λ alone.
          let again = k.sole (sole_still s.view u.view (w.rest ∙ y.rest) alone) in let q = y.sole alone in
          (q.1, again.0 ∙ ap (λ (i : Solo). locked_to true i) (w.step ∙ ap (λ (i : Solo). missed_to true i) q.0), λ yes. absurd (false≢true yes));
    })

module _ {D : Type 0} where
  pub kept_begun : {answer : Bool} {b a : Cpu D} → MakesStepsOf (Begin answer) b a → IsElseKept b a × IsEventless b a
  kept_begun {answer} {b} {a} x = let m = x.2 in let y = begun x.1 (standing b) m.told in kept_still b a m.seat (m.places ∙ y.indices) (ap still m.knows ∙ y.rest)

-- FROM A FIRST TRY

gives_up_is : (x : Attempt) → gives_up x ≡ after_missed (Try1 x)
gives_up_is (Direct p) = refl
gives_up_is (Queued p) = refl
gives_up_is Interrupt = refl

-- what lay in the slot is carried
carried : (z : Standing) (d : HolderPart) (rest : List (ℕ × Option StationState)) → z.slot ≡ (0, Some (shown d)) ∷ rest → (steps_leave (MoveStation ∷ []) z).station ≡ Some (shown d)
carried z d rest e = ap (λ (ys : List (ℕ × Option StationState)). (get_or ys 0 (0, None)).1) e

module _ {D : Type 0} where
  -- where the seat stands then
  pub record Leads (answer : Bool) (b a : Cpu D) : Type 0 where
    pub got : answer ≡ true → BeginsAsHolder b a
    pub missed : answer ≡ false → StandsWithoutStation (after_missed (position b)) b a

module _ {D : Type 0} (b a : Cpu D) (x : Attempt) (here : position b ≡ Try1 x) (none_ : HasNone b) where
  as_holder : (w : Standing) (d : HolderPart) → step_tells (TryLock (Some d)) w → slot a ≡ (0, None) ∷ [] → a.station ≡ Some (shown d) → (view a).share ≡ w.view.share
      → LeadsGot x (view b).place.run d (view a) → BeginsAsHolder b a
  as_holder w d t slots station share l = let holder = l.2 in (
    l.0 ∙ sym (ap (after_got (view a)) here),
    (slots, station ∙ ap (λ (h : HolderPart). Some (shown h)) (sym holder)),
    subst (λ (h : HolderPart). IsResting h.size h.ends × (h.resizing ≡ None)) (sym holder) (t.0, t.3),
    subst (λ (h : HolderPart). 0 < h.size) (sym holder) t.1,
    ap (λ (h : HolderPart). h.hand) holder ∙ t.2,
    ap (λ (h : HolderPart). h.shut) holder ∙ t.4,
    subst (λ (y : Setup × Option ℕ). IsKnownSlot y.0 y.1) (λ j. (sym (ap (λ (y : SharePart). y.about) share) j, sym (ap (λ (h : HolderPart). h.slot) holder) j)) t.5,
    l.1 ∙ sym (ap (run_got (view b).place.run) here),
  )

  leads_from : {answer : Bool} {xs : List Step} → Begin answer xs → MakesSteps xs b a → Leads answer b a
  leads_from (AtOnce {first} t) m =
      let s = standing b in let y = tried t s (tell_first first (MoveStation ∷ []) s m.told) in let z = steps_leave first s in
      let e : standing a ≡ steps_leave (MoveStation ∷ []) z = stands_after (first ++ MoveStation ∷ []) b a m ∙ leave_then first (MoveStation ∷ []) s in
      let d = y.got refl in let va : view a ≡ _ = (λ j. (e j).view) ∙ d.1 in let touched = first_got x d.0 (view b) (view a) here va in record {
        got = λ _. as_holder s d.0 d.3 ((λ j. (e j).slot) ∙ ap (λ (st : Option StationState). (0, st) ∷ []) (y.station ∙ none_.1)) ((λ j. (e j).station) ∙ carried z d.0 s.slot d.2)
            (ap (λ (v : View). v.share) touched.4) (first_leads x d.0 (view b) (view a) here va);
        missed = λ no_. absurd (true≢false no_);
      }
  leads_from (MissedBefore {first} {noted = second} t n) m =
      let s = standing b in let y = tried t s (tell_first first second s m.told) in let z = steps_leave first s in
      let w = noted n z (tell_last first second s m.told) in let u = steps_leave second z in
      let e : standing a ≡ u = stands_after (first ++ second) b a m ∙ leave_then first second s in
      let va = (λ j. (e j).view) ∙ w.view in let h = y.held refl in let one = first_locked x (view b) z.view here h.0 in record {
        got = λ yes. absurd (false≢true yes);
        missed = λ _. (
          ap (λ (v : View). v.place.position) va ∙ (ap (λ (p : Position). (place_missed p true z.view).position) one.1 ∙ (gives_up_is x ∙ sym (ap after_missed here))),
          ((λ j. (e j).slot) ∙ (w.slot ∙ (h.1 ∙ none_.0)), (λ j. (e j).station) ∙ (w.station ∙ (y.station ∙ none_.1))),
          ap (λ (v : View). v.holder) va ∙ ap (λ (v : View). v.holder) h.0,
        );
      }
  leads_from (InTheEnd {first} {noted = second} {again = third} t n r) m =
      let s = standing b in let move = MoveStation ∷ [] in let told = tell_first (first ++ second ++ third) move s m.told in
      let y = tried t s (tell_first first second s (tell_first (first ++ second) third s told)) in let z = steps_leave first s in
      let w = noted n z (tell_second first second third s told) in let u = steps_leave second z in
      let k = tried r u (tell_third first second third s told) in let o = steps_leave third u in
      let e : standing a ≡ steps_leave move o = stands_after (first ++ second ++ third ++ move) b a m ∙ (leave_then (first ++ second ++ third) move s ∙ ap (steps_leave move) (three first second third s)) in
      let h = y.held refl in let one = first_locked x (view b) z.view here h.0 in
      let d = k.got refl in let va = (λ j. (e j).view) ∙ d.1 in
      let last = second_got x d.0 u.view (view a) (missed_leads x z.view u.view one.1 w.view) va in record {
        got = λ _. as_holder u d.0 d.3 ((λ j. (e j).slot) ∙ ap (λ (st : Option StationState). (0, st) ∷ []) (k.station ∙ (w.station ∙ (y.station ∙ none_.1)))) ((λ j. (e j).station) ∙ carried o d.0 u.slot d.2)
            (ap (λ (v : View). v.share) last.4) (second_leads x d.0 (view b) z.view u.view (view a) here h.0 w.view va);
        missed = λ no_. absurd (true≢false no_);
      }
  leads_from (Missed {first} {noted = second} {again = third} t n r) m =
      let s = standing b in
      let y = tried t s (tell_first first second s (tell_first (first ++ second) third s m.told)) in let z = steps_leave first s in
      let w = noted n z (tell_second first second third s m.told) in let u = steps_leave second z in
      let k = tried r u (tell_third first second third s m.told) in let o = steps_leave third u in
      let e : standing a ≡ o = stands_after (first ++ second ++ third) b a m ∙ three first second third s in
      let h = y.held refl in let one = first_locked x (view b) z.view here h.0 in
      let g = k.held refl in let va = (λ j. (e j).view) ∙ g.0 in let try2 = missed_leads x z.view u.view one.1 w.view in record {
        got = λ yes. absurd (false≢true yes);
        missed = λ _. (
          ap (λ (v : View). v.place.position) va ∙ (ap (λ (p : Position). (place_locked p u.view).position) try2 ∙ (gives_up_is x ∙ sym (ap after_missed here))),
          ((λ j. (e j).slot) ∙ (g.1 ∙ (w.slot ∙ (h.1 ∙ none_.0))), (λ j. (e j).station) ∙ (k.station ∙ (w.station ∙ (y.station ∙ none_.1)))),
          ap (λ (v : View). v.holder) va ∙ (ap (λ (v : View). v.holder) w.view ∙ ap (λ (v : View). v.holder) h.0),
        );
      }

  pub leads : {answer : Bool} → MakesStepsOf (Begin answer) b a → Leads answer b a
  leads y = leads_from y.1 y.2

-- and its raised mark
touched : {answer : Bool} {xs : List Step} → Begin answer xs → (s : Standing) → steps_tell xs s → (x : Attempt) → s.view.place.position ≡ Try1 x → Touches s.view (steps_leave xs s).view
touched (AtOnce {first} t) s told x here =
    let move = MoveStation ∷ [] in let d = (tried t s (tell_first first move s told)).got refl in
    first_got x d.0 s.view (steps_leave (first ++ move) s).view here ((λ j. (leave_then first move s j).view) ∙ d.1)
touched (MissedBefore {first} {noted = second} t n) s told x here =
    let z = steps_leave first s in let h = (tried t s (tell_first first second s told)).held refl in let w = noted n z (tell_last first second s told) in
    let a = (steps_leave (first ++ second) s).view in let one = first_locked x s.view z.view here h.0 in
    touches_then s.view z.view a one.0 (missed_touches x true z.view a one.1 ((λ j. (leave_then first second s j).view) ∙ w.view))
touched (InTheEnd {first} {noted = second} {again = third} t n r) s told_ x here =
    let move = MoveStation ∷ [] in let told = tell_first (first ++ second ++ third) move s told_ in
    let y = tried t s (tell_first first second s (tell_first (first ++ second) third s told)) in let z = steps_leave first s in
    let w = noted n z (tell_second first second third s told) in let u = steps_leave second z in
    let d = (tried r u (tell_third first second third s told)).got refl in let a = (steps_leave (first ++ second ++ third ++ move) s).view in
    let e = leave_then (first ++ second ++ third) move s ∙ ap (steps_leave move) (three first second third s) in
    let one = first_locked x s.view z.view here (y.held refl).0 in
    touches_then s.view z.view a one.0 (touches_then z.view u.view a (missed_touches x false z.view u.view one.1 w.view) (second_got x d.0 u.view a (missed_leads x z.view u.view one.1 w.view) ((λ j. (e j).view) ∙ d.1)))
touched (Missed {first} {noted = second} {again = third} t n r) s told x here =
    let y = tried t s (tell_first first second s (tell_first (first ++ second) third s told)) in let z = steps_leave first s in
    let w = noted n z (tell_second first second third s told) in let u = steps_leave second z in
    let g = (tried r u (tell_third first second third s told)).held refl in let a = (steps_leave (first ++ second ++ third) s).view in
    let one = first_locked x s.view z.view here (y.held refl).0 in
    touches_then s.view z.view a one.0 (touches_then z.view u.view a (missed_touches x false z.view u.view one.1 w.view) (second_locked x u.view a (missed_leads x z.view u.view one.1 w.view) ((λ j. (three first second third s j).view) ∙ g.0)))

pub raised_begun : {answer : Bool} {xs : List Step} → Begin answer xs → (s : Standing) → steps_tell xs s → (x : Attempt) → s.view.place.position ≡ Try1 x → (steps_leave xs s).view.place.raised ≡ s.view.place.raised
raised_begun begin s told x here = let y = touched begin s told x here in ap (λ (z : View). z.place.raised) y.4 ∙ y.3
