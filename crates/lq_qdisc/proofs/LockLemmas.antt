-- What the steps on the run lock come to, and where a try of it leads.
use Rattle.std.proofs.Common.{◌≡◌, ℕ, Bool, true, false, not, List, [], ◌∷◌, ◌++◌, refl, ap, ◌∙◌, subst}
use Rattle.lq_model.specs.declared.machine.Attempt.TheVariants.{Direct}
use Rattle.lq_model.specs.declared.machine.Packet.{Packet}
use Rattle.lq_model.specs.declared.machine.Position.{Position}
use Rattle.lq_model.specs.declared.machine.Position.TheVariants.{Put, Recheck, Try1}
use Rattle.lq_run.specs.Runs.{BeginsAsHolder}
use Rattle.lq_run.specs.Steps.{AtOnce, Begin, End, InTheEnd, MakesStepsOf, Missed, MissedBefore}
use Rattle.lq_run.proofs.Begins.{begun, kept_begun}
use Rattle.lq_run.proofs.Ends.{alone_ended, rest_ended}
use Rattle.lq_table.proofs.StepsThen.{leave_then, tell_first, tell_last}
use Rattle.lq_run.proofs.Tried.{noted, still, tried}
use Rattle.lq_run.proofs.TryLemmas.{first_leads, first_locked, missed_leads, place_locked, place_missed, second_leads}
use Rattle.lq_ring.specs.StepLists.{MakesStepsFrom}
use Rattle.lq_table.specs.Moves.{IsKnownSlot}
use Rattle.lq_table.specs.Sees.{view, IsSeatOf}
use Rattle.lq_table.specs.Step.{MoveStation, Standing, Step, steps_leave, steps_tell}
use Rattle.lq_table.specs.Views.{PacketPart, Setup, View}
use Rattle.lq_ring.specs.Put.{no_locks}
use Rattle.lq_table.specs.declared.shared.Cpu.{Cpu}
use Rattle.lq_table.specs.declared.shared.Shared.{Shared}
use Rattle.lq_qdisc.specs.Parts.{MayServe}
use Rattle.lq_qdisc.specs.Sends.{IsBringing}
use Rattle.lq_qdisc.proofs.TakeLemmas.{seat_same}
use Rattle.lq_qdisc.proofs.PutLemmas.{BringsUnlocked}
use Rattle.lq_qdisc.proofs.ViewRelations.{GetsLock, IsCalm, IsLockReleased, Misses}

negated : (b c : Bool) → b ≡ not c → c ≡ not b
negated true true e = e
negated true false e = refl
negated false true e = refl
negated false false e = e

calm : (v w : View) → still w ≡ still v → IsCalm v w
calm v w e = record { share = ap (λ (z : View). z.share) e; state = ap (λ (z : View). z.whole.state) e; settled = ap (λ (z : View). z.settled) e }

-- the run lock is got, or missed; it is released
pub gets_lock : {xs : List Step} → Begin true xs → (s : Standing) → steps_tell xs s → GetsLock s.view (steps_leave xs s).view
gets_lock {xs} begin s told = let y = begun begin s told in record {
  calm = calm s.view (steps_leave xs s).view y.rest;
  sole = λ alone. (let q = y.sole alone in (negated true _ q.0, q.1, q.2 refl));
}

pub misses : {xs : List Step} → Begin false xs → (s : Standing) → steps_tell xs s → Misses s.view (steps_leave xs s).view
misses {xs} begin s told = let y = begun begin s told in record {
  calm = calm s.view (steps_leave xs s).view y.rest;
  sole = λ alone. (let q = y.sole alone in (negated false _ q.0, q.1));
}

pub releases : {xs : List Step} → End xs → (s : Standing) → steps_tell xs s → IsLockReleased s.view (steps_leave xs s).view
releases {xs} end s told = record { calm = calm s.view (steps_leave xs s).view (rest_ended end s).0; sole = alone_ended end s told }

-- the seat brings what it brought
pub brings_still : {n : ℕ} {answer : Bool} {xs : List Step} → Begin answer xs → (s : Standing) → steps_tell xs s → BringsUnlocked n s.view → BringsUnlocked n (steps_leave xs s).view
brings_still begin s told brings = let e = (begun begin s told).rest in (ap (λ (z : View). z.packets.fresh) e ∙ brings.0, ap (λ (z : View). z.locks) e ∙ brings.1)

-- WHERE A FIRST TRY FOR A PACKET LEADS THAT MAY GO PAST THE BANDS

three : (xs ys zs : List Step) (s : Standing) → steps_leave (xs ++ ys ++ zs) s ≡ steps_leave zs (steps_leave ys (steps_leave xs s))
three xs ys zs s = leave_then (xs ++ ys) zs s ∙ ap (steps_leave zs) (leave_then xs ys s)

tell_second : (xs ys zs : List Step) (s : Standing) → steps_tell (xs ++ ys ++ zs) s → steps_tell ys (steps_leave xs s)
tell_second xs ys zs s t = tell_last xs ys s (tell_first (xs ++ ys) zs s t)

tell_third : (xs ys zs : List Step) (s : Standing) → steps_tell (xs ++ ys ++ zs) s → steps_tell zs (steps_leave ys (steps_leave xs s))
tell_third xs ys zs s t = subst (steps_tell zs) (leave_then xs ys s) (tell_last (xs ++ ys) zs s t)

module _ (p : Packet) where
  pub got_at : {xs : List Step} → Begin true xs → (s : Standing) → steps_tell xs s → s.view.place.position ≡ Try1 (Direct p) → (steps_leave xs s).view.place.position ≡ Recheck p
  got_at (AtOnce {first} t) s told here =
      let move = MoveStation ∷ [] in let d = (tried t s (tell_first first move s told)).got refl in
      (first_leads (Direct p) d.0 s.view (steps_leave (first ++ move) s).view here ((λ j. (leave_then first move s j).view) ∙ d.1)).0
  got_at (InTheEnd {first} {noted = second} {again = third} t n r) s told_ here =
      let move = MoveStation ∷ [] in let told = tell_first (first ++ second ++ third) move s told_ in
      let y = tried t s (tell_first first second s (tell_first (first ++ second) third s told)) in let z = steps_leave first s in
      let w = noted n z (tell_second first second third s told) in let u = steps_leave second z in
      let d = (tried r u (tell_third first second third s told)).got refl in let a = (steps_leave (first ++ second ++ third ++ move) s).view in
      let e = leave_then (first ++ second ++ third) move s ∙ ap (steps_leave move) (three first second third s) in
      (second_leads (Direct p) d.0 s.view z.view u.view a here (y.held refl).0 w.view ((λ j. (e j).view) ∙ d.1)).0

  pub missed_at : {xs : List Step} → Begin false xs → (s : Standing) → steps_tell xs s → s.view.place.position ≡ Try1 (Direct p) → (steps_leave xs s).view.place.position ≡ Put p false
  missed_at (MissedBefore {first} {noted = second} t n) s told here =
      let y = tried t s (tell_first first second s told) in let z = steps_leave first s in let w = noted n z (tell_last first second s told) in
      let one = first_locked (Direct p) s.view z.view here (y.held refl).0 in
      ap (λ (x : Standing). x.view.place.position) (leave_then first second s)
      ∙ (ap (λ (v : View). v.place.position) w.view ∙ ap (λ (at : Position). (place_missed at true z.view).position) one.1)
  missed_at (Missed {first} {noted = second} {again = third} t n r) s told here =
      let y = tried t s (tell_first first second s (tell_first (first ++ second) third s told)) in let z = steps_leave first s in
      let w = noted n z (tell_second first second third s told) in let u = steps_leave second z in
      let g = (tried r u (tell_third first second third s told)).held refl in let one = first_locked (Direct p) s.view z.view here (y.held refl).0 in
      ap (λ (x : Standing). x.view.place.position) (three first second third s)
      ∙ (ap (λ (v : View). v.place.position) g.0 ∙ ap (λ (at : Position). (place_locked at u.view).position) (missed_leads (Direct p) z.view u.view one.1 w.view))

module _ {D : Type 0} where
  -- a call that answered so
  pub begins_as : {answer : Bool} (got : Bool) (b a : Cpu D) → answer ≡ got → MakesStepsOf (Begin answer) b a → MakesStepsFrom (λ s. Begin got) b a
  begins_as got b a is begins = subst (λ (x : Bool). MakesStepsOf (Begin x) b a) is begins

  -- who got it may serve the bands, and brings what it brought
  pub serves_begun : (t : Shared D) {answer : Bool} (b a : Cpu D) → IsSeatOf t b → (view b).locks ≡ no_locks → MakesStepsOf (Begin answer) b a → BeginsAsHolder b a → MayServe t a
  serves_begun t b a seat free begins h = let k = (kept_begun begins).0 in record {
    serving = (h.1, h.2, k.3 ∙ free, h.5);
    hand = h.4;
    slot = subst (λ (s : Setup). IsKnownSlot s (view a).holder.slot) (seat_same t b a k.0 k.1 seat).2 h.6;
  }

  pub brings_begun : (t : Shared D) (n : ℕ) {answer : Bool} (b a : Cpu D) → MakesStepsOf (Begin answer) b a → IsBringing t n b → IsBringing t n a
  brings_begun t n b a begins x = let k = (kept_begun begins).0 in (x.0, x.1, ap (λ (p : PacketPart). p.fresh) k.2 ∙ x.2, ap (λ (p : PacketPart). p.owed) k.2 ∙ x.3)
