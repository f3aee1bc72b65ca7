use Rattle.std.proofs.Common.{rules, ◌≡◌, ◌+◌, ◌++◌, ℕ, [], ◌∷◌, drop, length, refl, ap, ◌∙◌, arith, List}
use Rattle.std.proofs.lemmas.List.{length-append}
use Rattle.lq_ring_core.specs.Slots.{round}
use Rattle.lq_band_laws.specs.Three.{Three, at}
use Rattle.lq_band_laws.specs.Ring.{locked_at}
use Rattle.lq_band_laws.specs.HalfResized.{IsRefilled}
use Rattle.lq_band_laws.proofs.Three.{three_cases}
use Rattle.lq_model.specs.Positions.{holds_lock}
use Rattle.lq_table.specs.Views.{View, HalfResize}
use Rattle.lq_table.specs.Resizes.{BeginsResize, resizing_of, with_work}
use Rattle.lq_table.specs.Rule.{shown}
use Rattle.lq_table.specs.Sees.{view, IsSeatOf}
use Rattle.lq_table.specs.Step.{BeginResize, MakesSteps, StoreSize}
use Rattle.lq_table.specs.declared.shared.Cpu.{Cpu}
use Rattle.lq_table.specs.declared.shared.Shared.{Shared}
use Rattle.lq_ring.specs.StepLists.{TurnsThree}
use Rattle.lq_ring.proofs.StepsThen.{makes_then}
use Rattle.lq_ring.specs.Resized.{all_lost}
use Rattle.lq_ring.proofs.InTurn.{IsReadyToResize, all_ready, begun_from, ready_step, refilled_of, resize_is, turns4, waits0, waits1, waits2}
use Rattle.lq_ring.proofs.resize.turn_all.Given as given
use Rattle.lq_table.proofs.OneStep.{restarts}
use Rattle.lq_ring.proofs.resize.turn_all.Goals as goal

abbrev begun-is : {D : Type 0} {len event : ℕ} (t : Shared D) (b a : Cpu D) → IsSeatOf t b → (held : ℕ → List ℕ) × (slots : Three (List ℕ)) × (found : ℕ) × MakesSteps (BeginResize len event held slots found ∷ []) b a
    → BeginsResize t.infos.now t.max_len len event (view b) (view a)
begun-is {D} {len} {event} t b a seat m = begun_from t b a len event m.0 m.1 m.2 seat m.3

low_ready : (g : given.Over) (c : goal.After-turn_at-arg-1 g) → IsReadyToResize c.args.shared.now.max_len c.args.shared.now.infos.now (shown (view c.args.cpu.now).holder) c.args.resize.size c.args.resize.len c.args.resize.event 0 (view c.begin_resize.new.cpu)
low_ready g c =
    let v = view c.args.cpu.now in let b = begun-is c.args.shared.now c.args.cpu.now c.begin_resize.new.cpu c.requires.seat c.begin_resize.ensures.makes in let v1 = view c.begin_resize.new.cpu in
    let all = all_ready _ c.args.resize.size c.args.resize.len c.args.resize.event _ b.0 b.1 v v1 b.2 (ap holds_lock c.requires.at.0) (λ b h. (c.requires.locks b h).0) c.requires.rests.2 b.3 b.4 in
    all 0 (omega arith)

pub turn_at-low-requires-clause-turner : goal.turn_at-low-requires-clause-turner
turn_at-low-requires-clause-turner g c _ _ = let r = low_ready g c in (r.turner, r.event_is)

pub turn_at-low-requires-clause-lock : goal.turn_at-low-requires-clause-lock
turn_at-low-requires-clause-lock g c _ _ = (low_ready g c).lock

pub turn_at-low-requires-clause-ready : goal.turn_at-low-requires-clause-ready
turn_at-low-requires-clause-ready g c _ _ =
    let r = low_ready g c in (shown (view c.args.cpu.now).holder, r.held, c.begin_resize.ensures.makes.3.carries ∙ c.requires.station, r.whole, r.packets)

mid_ready : (g : given.Over) (c : goal.After-turn_at-arg-2-1 g) → IsReadyToResize c.args.shared.now.max_len c.args.shared.now.infos.now (shown (view c.args.cpu.now).holder) c.args.resize.size c.args.resize.len c.args.resize.event 1 (view c.turn_at-low.new.cpu)
mid_ready g c =
    let v = view c.args.cpu.now in let b = begun-is c.args.shared.now c.args.cpu.now c.begin_resize.new.cpu c.requires.seat c.begin_resize.ensures.makes in let v1 = view c.begin_resize.new.cpu in
    let all = all_ready _ c.args.resize.size c.args.resize.len c.args.resize.event _ b.0 b.1 v v1 b.2 (ap holds_lock c.requires.at.0) (λ b h. (c.requires.locks b h).0) c.requires.rests.2 b.3 b.4 in
    let low = c.turn_at-low.ensures.stands in
    ready_step _ _ _ _ _ (shown v.holder) 0 1 low.0 _ _ v1 _ (omega arith) (omega arith) (λ e. absurd (omega arith)) low.1.1 (all 1 (omega arith))

pub turn_at-mid-requires-clause-turner : goal.turn_at-mid-requires-clause-turner
turn_at-mid-requires-clause-turner g c _ _ = let r = mid_ready g c in (r.turner, r.event_is)

pub turn_at-mid-requires-clause-lock : goal.turn_at-mid-requires-clause-lock
turn_at-mid-requires-clause-lock g c _ _ = (mid_ready g c).lock

pub turn_at-mid-requires-clause-ready : goal.turn_at-mid-requires-clause-ready
turn_at-mid-requires-clause-ready g c _ _ =
    let r = mid_ready g c in (shown (view c.args.cpu.now).holder, r.held, c.turn_at-low.ensures.stands.1.0.1 ∙ (c.begin_resize.ensures.makes.3.carries ∙ c.requires.station), r.whole, r.packets)

high_ready : (g : given.Over) (c : goal.After-turn_at-arg-3-1 g) → IsReadyToResize c.args.shared.now.max_len c.args.shared.now.infos.now (shown (view c.args.cpu.now).holder) c.args.resize.size c.args.resize.len c.args.resize.event 2 (view c.turn_at-mid.new.cpu)
high_ready g c =
    let v = view c.args.cpu.now in let b = begun-is c.args.shared.now c.args.cpu.now c.begin_resize.new.cpu c.requires.seat c.begin_resize.ensures.makes in let v1 = view c.begin_resize.new.cpu in
    let all = all_ready _ c.args.resize.size c.args.resize.len c.args.resize.event _ b.0 b.1 v v1 b.2 (ap holds_lock c.requires.at.0) (λ b h. (c.requires.locks b h).0) c.requires.rests.2 b.3 b.4 in
    let low = c.turn_at-low.ensures.stands in let mid = c.turn_at-mid.ensures.stands in let v2 = view c.turn_at-low.new.cpu in let st = shown v.holder in
    let next = ready_step _ _ _ _ _ st 0 2 low.0 _ _ v1 v2 (omega arith) (omega arith) (λ e. absurd (omega arith)) low.1.1 (all 2 (omega arith)) in
    ready_step _ _ _ _ _ st 1 2 mid.0 _ _ v2 _ (omega arith) (omega arith) (λ e. absurd (omega arith)) mid.1.1 next

pub turn_at-high-requires-clause-turner : goal.turn_at-high-requires-clause-turner
turn_at-high-requires-clause-turner g c _ _ = let r = high_ready g c in (r.turner, r.event_is)

pub turn_at-high-requires-clause-lock : goal.turn_at-high-requires-clause-lock
turn_at-high-requires-clause-lock g c _ _ = (high_ready g c).lock

pub turn_at-high-requires-clause-ready : goal.turn_at-high-requires-clause-ready
turn_at-high-requires-clause-ready g c _ _ =
    let r = high_ready g c in (shown (view c.args.cpu.now).holder, r.held, c.turn_at-mid.ensures.stands.1.0.1 ∙ (c.turn_at-low.ensures.stands.1.0.1 ∙ (c.begin_resize.ensures.makes.3.carries ∙ c.requires.station)), r.whole, r.packets)

pub store_size-requires-clause-ready : goal.store_size-requires-clause-ready
store_size-requires-clause-ready g c _ _ =
    let len = c.args.resize.len in let b = begun-is c.args.shared.now c.args.cpu.now c.begin_resize.new.cpu c.requires.seat c.begin_resize.ensures.makes in let low = c.turn_at-low.ensures.stands in let mid = c.turn_at-mid.ensures.stands in let high = c.turn_at-high.ensures.stands in
    let v4 = view c.turn_at-high.new.cpu in
    let t : HalfResize = with_work 2 high.0 (with_work 1 mid.0 (with_work 0 low.0 (resizing_of len c.args.resize.event b.0 b.1))) in (
      t,
      turns4 len c.args.resize.event b.0 b.1 (view c.args.cpu.now) _ _ _ v4 low.0 mid.0 high.0 _ _ _ b.2 low.1.1 mid.1.1 high.1.1,
      refl,
      three_cases (λ b. IsRefilled (at b t.works).slots (at b t.works).kept t.len × (at b v4.locks ≡ locked_at (round t.len (length (at b t.works).kept))) × ((at b t.works).waiting ≡ []))
          (refilled_of _ len _ low.0 low.2, ap (λ (x : View). at 0 x.locks) high.1.1 ∙ (ap (λ (x : View). at 0 x.locks) mid.1.1 ∙ (ap (λ (x : View). at 0 x.locks) low.1.1 ∙ ap locked_at low.3)), low.2.waiting_is)
          (refilled_of _ len _ mid.0 mid.2, ap (λ (x : View). at 1 x.locks) high.1.1 ∙ (ap (λ (x : View). at 1 x.locks) mid.1.1 ∙ ap locked_at mid.3), mid.2.waiting_is)
          (refilled_of _ len _ high.0 high.2, ap (λ (x : View). at 2 x.locks) high.1.1 ∙ ap locked_at high.3, high.2.waiting_is),
    )

pub returns : goal.returns
returns g c = record {
  makes =
      let len = c.args.resize.len in let event = c.args.resize.event in let v = view c.args.cpu.now in let b = begun-is c.args.shared.now c.args.cpu.now c.begin_resize.new.cpu c.requires.seat c.begin_resize.ensures.makes in let low = c.turn_at-low.ensures.stands in let mid = c.turn_at-mid.ensures.stands in let high = c.turn_at-high.ensures.stands in
      let held = b.0 in let v1 = view c.begin_resize.new.cpu in let v2 = view c.turn_at-low.new.cpu in let v3 = view c.turn_at-mid.new.cpu in let v4 = view c.turn_at-high.new.cpu in
      let t : HalfResize = with_work 2 high.0 (with_work 1 mid.0 (with_work 0 low.0 (resizing_of len event held b.1))) in
      let under_way = turns4 len event held b.1 v v1 v2 v3 v4 low.0 mid.0 high.0 _ _ _ b.2 low.1.1 mid.1.1 high.1.1 in
      let n0 : c.turn_at-low.result.dropped ≡ length (drop len (held 0)) = c.turn_at-low.ensures.count.0 ∙ ap length (waits0 len event held b.1 v v1 v2 v3 v4 low.0 mid.0 high.0 _ _ _ b.2 low.1.1 mid.1.1 high.1.1) in
      let n1 : c.turn_at-mid.result.dropped ≡ length (drop len (held 1)) = c.turn_at-mid.ensures.count.0 ∙ ap length (waits1 len event held b.1 v v1 v2 v3 v4 low.0 mid.0 high.0 _ _ _ b.2 low.1.1 mid.1.1 high.1.1) in
      let n2 : c.turn_at-high.result.dropped ≡ length (drop len (held 2)) = c.turn_at-high.ensures.count.0 ∙ ap length (waits2 len event held b.1 v v1 v2 v3 v4 low.0 mid.0 high.0 _ _ _ b.2 low.1.1 mid.1.1 high.1.1) in
      let all : length (all_lost len held) ≡ length (drop len (held 0)) + (length (drop len (held 1)) + length (drop len (held 2))) =
      length-append (drop len (held 0)) (drop len (held 1) ++ drop len (held 2)) ∙ ap (λ (n : ℕ). length (drop len (held 0)) + n) (length-append (drop len (held 1)) (drop len (held 2))) in (
        held,
        (let m = c.begin_resize.ensures.makes in let one = c.turn_at-low.ensures.makes in let two = c.turn_at-mid.ensures.makes in let three = c.turn_at-high.ensures.makes in (
          BeginResize len event held m.1 m.2 ∷ one.0 ++ two.0 ++ three.0 ++ StoreSize len ∷ [],
          TurnsThree one.1 two.1 three.1,
          makes_then (makes_then (makes_then (makes_then m.3 one.2) two.2) three.2) c.store_size.ensures.makes,
        )),
        (search rules, resize_is len event held b.1 v v1 v2 v3 v4 low.0 mid.0 high.0 _ _ _ b.2 low.1.1 mid.1.1 high.1.1 t (view c.store_size.new.cpu) refl (restarts c.store_size.ensures.makes t under_way)),
        omega arith,
      );
  few = search rules;
}
