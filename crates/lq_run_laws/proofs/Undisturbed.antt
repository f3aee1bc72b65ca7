-- A step of a seat that is outside, or on its way out, adds no packet and sets neither bit.
use Rattle.std.proofs.Common.{◌≡◌, ℕ, Bool, true, false, List, [], Contains, None, subst, get_or}
use Rattle.lq_model.specs.declared.machine.Packet.{Packet}
use Rattle.lq_model.specs.declared.machine.Position.{Position}
use Rattle.lq_model.specs.declared.machine.Seat.{Seat}
use Rattle.lq_model.specs.Machine.{Qdisc, band_at}
use Rattle.lq_model.specs.Steps.{After}
use Rattle.lq_model.specs.Positions.{may_be_inside}
use Rattle.lq_run_laws.proofs.Local as local
use Rattle.lq_run_laws.proofs.Local.{Local}
use Rattle.lq_run_laws.proofs.Bands.{taken-holds, cut-holds}

-- what is empty stays so, and what is clear
pub record Undisturbed (q q' : Qdisc) : Type 0 where
  pub slot : q.slot ≡ None → q'.slot ≡ None
  pub bands : (k : ℕ) (p : Packet) → Contains (band_at q' k) p → Contains (band_at q k) p
  pub missed : q.missed ≡ false → q'.missed ≡ false
  pub draining : q.draining ≡ false → q'.draining ≡ false

-- a step that changes no list
listless : (q q' : Qdisc) → (q.slot ≡ None → q'.slot ≡ None) → q'.bands ≡ q.bands → (q.missed ≡ false → q'.missed ≡ false) → (q.draining ≡ false → q'.draining ≡ false) → Undisturbed q q'
listless q q' slot bands missed draining = record {
  slot = slot;
  bands = λ k p held. subst (λ (lists : List (List Packet)). Contains (get_or lists k []) p) bands held;
  missed = missed;
  draining = draining;
}

pub undisturbed : {sole : Bool} {free : Packet → Type 0} {q : Qdisc} {s : Seat} {before : Position} {after : After} → Local sole free q s before after → may_be_inside before ≡ true → Undisturbed q after.qdisc
undisturbed {q = q} (local.purge_takes u p rest under more at) may = record {
  slot = λ none. none;
  bands = λ k r held. taken-holds q.bands u.band k p rest r at held;
  missed = λ clear. clear;
  draining = λ clear. clear;
}
undisturbed {q = q} (local.resizes len none) may = record {
  slot = λ none. none;
  bands = λ k r held. cut-holds q.bands len k r held;
  missed = λ clear. clear;
  draining = λ clear. clear;
}
undisturbed _ may = listless _ _ (λ none. cc) (cc) (λ clear. cc) (λ clear. cc)
