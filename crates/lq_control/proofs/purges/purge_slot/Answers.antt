use Rattle.std.proofs.Common.{◌≡◌, ℕ, Option, Some, None, [], ◌∷◌, refl, sym, ap, ◌∙◌, subst}
use Rattle.std.specs.Option.{option_map, unwrap_or}
use Rattle.lq_device.specs.Station.{StationState, with_slot}
use Rattle.lq_model.specs.declared.fate.Fate.{Fate}
use Rattle.lq_model.specs.declared.fate.Fate.TheVariants as fate
use Rattle.lq_table.specs.Sees.{carried, steps}
use Rattle.lq_table.specs.Step.{MakesSteps, SetStation, Settle}
use Rattle.lq_table.specs.Views.{no_station}
use Rattle.lq_table.specs.declared.shared.Cpu.{Cpu}
use Rattle.lq_qdisc.specs.Seats.{KeepsSeatAndView}
use Rattle.lq_ring.specs.StepLists.{MakesStepsFrom}
use Rattle.lq_ring.proofs.StepsThen.{makes_then}
use Rattle.lq_control.specs.Steps.{ResetSlot}
use Rattle.lq_control.proofs.purges.purge_slot.Goals as goal

packet_of : (f : Fate) (s : Option ℕ) → option_map (λ (x : ℕ × Fate). x.0) (option_map {U = ℕ × Fate} (λ n. (n, f)) s) ≡ s
packet_of f None = refl
packet_of f (Some n) = refl

-- the fate that is owed names the packet
owes_same : (f : Fate) (s t : Option ℕ) → option_map {U = ℕ × Fate} (λ n. (n, f)) s ≡ option_map {U = ℕ × Fate} (λ n. (n, f)) t → s ≡ t
owes_same f s t e = sym (packet_of f s) ∙ (ap (λ (o : Option (ℕ × Fate)). option_map (λ (x : ℕ × Fate). x.0) o) e ∙ packet_of f t)

abbrev slot_of : Option StationState → Option ℕ
slot_of o = (unwrap_or o no_station).slot

-- the station's slot is emptied
emptied : {D : Type 0} (b a : Cpu D) (st to : StationState) → KeepsSeatAndView b a → steps a ≡ steps b → b.station ≡ Some st → to ≡ with_slot st None → a.station ≡ Some to
    → MakesSteps (SetStation (with_slot (carried b) None) ∷ []) b a
emptied b a st to same made was is now = record {
  seat = same.0;
  knows = same.3;
  has = same.2;
  carries = now ∙ ap Some (is ∙ ap (λ (o : Option StationState). with_slot (unwrap_or o no_station) None) (sym was));
  places = same.1;
  made = made;
  told = (tt, tt);
}

pub returns-clause-makes : goal.returns-clause-makes
returns-clause-makes g c s owed =
    let n = c.in-Some.n in let b = c.args.cpu.now in let f : Fate = fate.Purged c.args.cause in let lent = c.station_mut.ensures.value in let may = c.requires.slot in
    let first = emptied b _ c.station_mut.result.now c.take_slot.new.self ((refl, refl), refl, refl, refl) refl lent c.take_slot.ensures.empty refl in
    let there : may.0 ≡ Some n = sym (ap slot_of may.1) ∙ (ap slot_of lent ∙ (sym c.take_slot.ensures.taken ∙ c.in-Some.is)) in
    let same : s ≡ Some n = owes_same f s may.0 (sym owed ∙ may.2) ∙ there in
    subst (λ (o : Option ℕ). MakesStepsFrom (ResetSlot c.args.cause o) b c.settle.new.cpu) (sym same)
    (SetStation (with_slot (carried b) None) ∷ Settle n f ∷ [], refl, makes_then first c.settle.ensures.makes)
