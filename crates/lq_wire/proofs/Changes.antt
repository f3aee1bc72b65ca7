-- Events of the plan, one after the other.
use Rattle.std.proofs.Common.{◌≡◌, ℕ, suc, ◌+◌, ◌≤◌, Bool, true, false, cond, List, [], ◌∷◌, ◌++◌, Option, Some, filter, slice_get, refl, sym, ap, ◌∙◌, arith}
use Rattle.std.specs.Option.{option_map_or}
use Rattle.lq_model.specs.Alone.{RunningStation, before_of, changed, served}
use Rattle.lq_model.specs.Capture.{Packets}
use Rattle.lq_model.specs.Numbers.{first_numbers}
use Rattle.lq_model.specs.Plan.{Plan}
use Rattle.lq_model.specs.Wire.{Wired, with_changes}
use Rattle.lq_model.specs.declared.fate.Info.{Info}
use Rattle.lq_model.specs.declared.plan.EventKind.{EventKind}
use Rattle.lq_model.specs.declared.plan.EventKind.TheVariants as kind
use Rattle.lq_model.specs.declared.plan.EventPlan.{EventPlan}
use Rattle.lq_lone.specs.Lone.{HaveOneQueue, IsLengthened}
use Rattle.lq_plan.specs.Limits.{IsKindWithin}
use Rattle.lq_wire.specs.Wired.{IsWired, StepsTo, load}
use Rattle.lq_wire.specs.declared.wired.Wired.{Wired as Linked}

-- an event that the limits allow gives the bands a slot
pub lengthened : (k : EventKind) (most : ℕ) → IsKindWithin most k → IsLengthened k
lengthened kind.Down most within = tt
lengthened kind.Up most within = tt
lengthened (kind.Resize len) most within = within.0
lengthened (kind.TxQueueLen len) most within = within.0
lengthened (kind.Swap params) most within = tt

-- the events below e that come before such a packet
abbrev pub below : Plan → (ℕ → Bool) → ℕ → List ℕ
below plan test e = filter (λ event. test (before_of plan event)) (first_numbers e)

-- those were done
pub record HaveDone (plan : Plan) (packets : Packets) (test : ℕ → Bool) (now e : ℕ) (old m : Linked) : Type 0 where
  pub done : (infos : List Info) (w : Wired) → HaveOneQueue infos → IsWired old w → StepsTo old.wire.card packets now (with_changes plan infos (below plan test e)) w m
  pub loaded : load m ≤ load old
  pub bypass : m.station.bypass ≡ old.station.bypass
  pub card : m.wire.card ≡ old.wire.card

one-kept : (b : Bool) (x : ℕ) (kept more last : List ℕ) → more ≡ kept ++ last → cond b (x ∷ more) more ≡ cond b (x ∷ kept) kept ++ last
one-kept true x kept more last is = ap (λ l. x ∷ l) is
one-kept false x kept more last is = is

last-of : (test : ℕ → Bool) (xs : List ℕ) (e : ℕ) → filter test (xs ++ e ∷ []) ≡ filter test xs ++ cond (test e) (e ∷ []) []
last-of test [] e = refl
last-of test (x ∷ xs) e = one-kept (test x) x (filter test xs) (filter test (xs ++ e ∷ [])) (cond (test e) (e ∷ []) []) (last-of test xs e)

module _ (plan : Plan) (infos : List Info) where
  both : (xs ys : List ℕ) (s : RunningStation) → with_changes plan infos (xs ++ ys) s ≡ with_changes plan infos ys (with_changes plan infos xs s)
  both [] ys s = refl
  both (x ∷ xs) ys s = both xs ys _

  -- one event more is looked at
  looked : (test : ℕ → Bool) (e : ℕ) (event : EventPlan) (b : Bool) (s : RunningStation) → slice_get plan.events e ≡ Some event → test event.before ≡ b
      → with_changes plan infos (below plan test (e + 1)) s ≡ with_changes plan infos (cond b (e ∷ []) []) (with_changes plan infos (below plan test e) s)
  looked test e event b s is now =
      let so : test (before_of plan e) ≡ b = ap (λ (o : Option EventPlan). test (option_map_or (λ v. v.before) o 0)) is ∙ now in
      let next : e + 1 ≡ suc e = omega arith in
      ap (λ (k : ℕ). with_changes plan infos (below plan test k) s) next
      ∙ (ap (λ (l : List ℕ). with_changes plan infos l s) (last-of (λ event. test (before_of plan event)) (first_numbers e) e)
      ∙ (ap (λ (c : Bool). with_changes plan infos (below plan test e ++ cond c (e ∷ []) []) s) so ∙ both (below plan test e) (cond b (e ∷ []) []) s))

  pub one-more : (test : ℕ → Bool) (e : ℕ) (event : EventPlan) (s : RunningStation) → slice_get plan.events e ≡ Some event → test event.before ≡ true
      → served infos (changed plan e event.kind (with_changes plan infos (below plan test e) s)) ≡ with_changes plan infos (below plan test (e + 1)) s
  one-more test e event s is now =
      let t = with_changes plan infos (below plan test e) s in
      sym (looked test e event true s is now ∙ ap (λ (o : Option EventPlan). option_map_or (λ v. served infos (changed plan e v.kind t)) o t) is)

  pub none-more : (test : ℕ → Bool) (e : ℕ) (event : EventPlan) (s : RunningStation) → slice_get plan.events e ≡ Some event → test event.before ≡ false
      → with_changes plan infos (below plan test e) s ≡ with_changes plan infos (below plan test (e + 1)) s
  none-more test e event s is now = sym (looked test e event false s is now)
