-- What a look at the head of a band leaves of what a seat tells at run time.
use Rattle.std.proofs.Common.{◌≡◌, ℕ, zero, suc, ◌-◌, Bool, List, [], ◌∷◌, refl, ap, ◌∙◌, arith, Option}
use Rattle.lq_device.specs.Station.{StationState}
use Rattle.lq_model.specs.declared.machine.Answer.TheVariants.{Plain}
use Rattle.lq_model.specs.declared.machine.Packet.{Packet}
use Rattle.lq_model.specs.declared.machine.Position.{Position}
use Rattle.lq_model.specs.declared.machine.Position.TheVariants.{Scan}
use Rattle.lq_model.specs.declared.machine.Seat.{Seat}
use Rattle.lq_model.specs.Machine.{Qdisc}
use Rattle.lq_model.specs.Steps.{scan, step_at}
use Rattle.lq_table.specs.Views.{View, machine_packet}
use Rattle.lq_table.specs.Marks.{marks_of}
use Rattle.lq_table.specs.Consumers.{head_slot_view_empty, head_slot_view, seen_band}
use Rattle.lq_table.specs.Moves.{Sat}
use Rattle.lq_table.proofs.shared.Shared.head_slot.Invariants.{head_slot_told}
use Rattle.atomic_table.specs.Table.{Step}

scan_raised : (ps : List Packet) (b : ℕ) (second : Bool) (q : Qdisc) (s : Seat) → (scan ps b second q s).seat.raised ≡ s.raised
scan_raised [] b second q s = refl
scan_raised (p ∷ ps) b second q s = refl

module _ (v : View) (b : ℕ) (second : Bool) (is : v.place.position ≡ Scan b second) where
  same_raised : (q : Qdisc) → (step_at v.place.position Plain q v.place).seat.raised ≡ v.place.raised
  same_raised q = ap (λ (y : Position). (step_at y Plain q v.place).seat.raised) is ∙ scan_raised _ b second q v.place

  none_marks : marks_of (head_slot_view_empty b v) ≡ marks_of v
  none_marks = let e = same_raised (seen_band b []) in λ j. record (marks_of v) { raised = e j }

  taken_marks : (n : ℕ) → marks_of (head_slot_view b n v) ≡ marks_of v
  taken_marks n = let e = same_raised (seen_band b (machine_packet v.share.about.infos n ∷ [])) in λ j. record (marks_of v) { raised = e j }

pub head_marks : (b found : ℕ) (second : Bool) (s : Step (Option StationState)) (m m' : Sat) → m.0.place.position ≡ Scan b second → head_slot_told b s m found m' → marks_of m'.0 ≡ marks_of m.0
head_marks b zero second s m m' is h = ap (λ (z : Sat). marks_of z.0) (h.0 refl) ∙ none_marks m.0 b second is
head_marks b (suc n) second s m m' is h = ap (λ (z : Sat). marks_of z.0) (h.1 (omega arith)) ∙ taken_marks m.0 b second is (suc n - 1)
