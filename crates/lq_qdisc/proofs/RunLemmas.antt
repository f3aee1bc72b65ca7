-- What a run leaves.
use Rattle.std.proofs.Common.{◌≡◌, ℕ, ◌+◌, ◌==◌, add-zero, if◌then◌else◌, false, true, refl, Option, None, Some, sym, ap, ◌∙◌, List, [], ◌∷◌, ◌++◌, length, length-append, append_assoc}
use Rattle.std.proofs.lemmas.List.{length_push}
use Rattle.std.specs.Prelude.{MatchOption, is_some}
use Rattle.std.proofs.lemmas.Bool.{true≢false}
use Rattle.lq_model.specs.Device as device
use Rattle.lq_model.specs.Device.{is_busy}
use Rattle.lq_model.specs.Positions.{in_hand}
use Rattle.lq_model.specs.declared.device.Tx.{Tx}
use Rattle.lq_model.specs.declared.device.Tx.TheVariants as tx
use Rattle.lq_model.specs.Steps.{step_at}
use Rattle.lq_model.specs.declared.machine.Answer.TheVariants.{Plain}
use Rattle.lq_model.specs.declared.fate.Fate.{Fate}
use Rattle.lq_model.specs.declared.fate.Info.{Info}
use Rattle.lq_model.specs.declared.machine.Position.{Position}
use Rattle.lq_model.specs.declared.machine.Position.TheVariants.{Quota, Unlock}
use Rattle.lq_model.specs.declared.state.TheConstants.{QUOTA}
use Rattle.lq_run.specs.Runs.{begins}
use Rattle.lq_table.specs.Views.{HolderPart, View}
use Rattle.lq_table.specs.States.{backing, set_bit_view, set_bit_alone}
use Rattle.lq_table.specs.Fates.{fate_sent}
use Rattle.lq_table.specs.Moves.{pass_view, seen_by}
use Rattle.lq_model.specs.Account.{Back}
use Rattle.lq_table.specs.Sees.{Solo, heard}
use Rattle.lq_qdisc.specs.Calls.{Dequeues, FindsPacket, KeepsFates, Picks}
use Rattle.lq_qdisc.specs.Direct.{Directs, position_in_run}
use Rattle.lq_qdisc.specs.declared.answers.Taken.{Taken}
use Rattle.lq_qdisc.specs.declared.answers.Taken.TheVariants as taken
use Rattle.lq_qdisc.specs.declared.answers.Through.{Through}
use Rattle.lq_qdisc.specs.declared.answers.Through.TheVariants as through
use Rattle.lq_qdisc.specs.declared.answers.Why.TheVariants as why

-- how many packets the device has accepted
abbrev pub count : View → ℕ
count v = length v.holder.station.device.accepted

-- fates stay
pub fates_then : (u v w : View) → KeepsFates u v → KeepsFates v w → KeepsFates u w
fates_then u v w x y = (y.0 ++ x.0, y.1 ∙ (ap (λ (l : List (ℕ × Fate)). y.0 ++ l) x.1 ∙ sym (append_assoc y.0 x.0 u.settled)))

pub fates_same : (v w : View) → w.settled ≡ v.settled → KeepsFates v w
fates_same v w same = ([], same)

pub directs_fates : (t : Through) (n queue : ℕ) (old new : View) → Directs t n queue old new → KeepsFates old new
directs_fates through.Yes n queue old new d = ((n, fate_sent old.holder.station) ∷ [], d.settled)
directs_fates (through.Back why.Stopped) n queue old new d = fates_same old new d.settled
directs_fates (through.Back why.Busy) n queue old new d = fates_same old new d.settled

-- the device accepts a packet only in a direct transmit that is answered Yes
abbrev pub through_count : Through → ℕ
through_count through.Yes = 1
through_count (through.Back reason) = 0

pub dequeues_count : (t : Taken) (infos : List Info) (v w : View) → Dequeues t infos v w → count w ≡ count v
dequeues_count taken.Empty infos v w d = ap (λ (h : HolderPart). length h.station.device.accepted) d.1.holder
dequeues_count taken.Stopped infos v w d = ap (λ (h : HolderPart). length h.station.device.accepted) d.1.holder
dequeues_count (taken.Packet n) infos v w d = found v.holder.slot d where
  found : (o : Option ℕ) → MatchOption o (FindsPacket n v w) (λ m. (m ≡ n) × Picks n v w) → count w ≡ count v
  found None f = ap (λ (h : HolderPart). length h.station.device.accepted) f.holder
  found (Some m) p = ap count p.1.is

one_taken : (answer : Tx) (n : ℕ) → is_busy answer ≡ false → device.taken answer n ≡ n ∷ []
one_taken tx.Sent n e = refl
one_taken tx.SentStop n e = refl
one_taken tx.SentHang n e = refl
one_taken tx.Busy n e = absurd (true≢false e)

pub directs_count : (t : Through) (n queue : ℕ) (v w : View) → Directs t n queue v w → count w ≡ count v + through_count t
directs_count through.Yes n queue v w d =
    ap (λ (h : HolderPart). length h.station.device.accepted) d.holder
    ∙ (ap length (d.called.answers.accepted ∙ ap (λ (l : List ℕ). v.holder.station.device.accepted ++ l) (one_taken d.answer n d.accepted)) ∙ length_push v.holder.station.device.accepted n)
directs_count (through.Back why.Stopped) n queue v w d = ap (λ (h : HolderPart). length h.station.device.accepted) d.holder ∙ sym (add-zero _)
directs_count (through.Back why.Busy) n queue v w d =
    ap (λ (h : HolderPart). length h.station.device.accepted) d.holder ∙ (ap length d.called.answers.accepted ∙ length-append v.holder.station.device.accepted [])

-- where the quota is reached, MISSED is set
pub set_at_quota : (v : View) → v.place.position ≡ position_in_run v → v.place.run ≡ QUOTA → set_bit_view v ≡ pass_view v
set_at_quota v at run =
    ap (λ (y : Position). if is_some (in_hand y) then backing v else pass_view v) (at ∙ ap (λ (k : ℕ). if k == QUOTA then Quota else begins v) run)

-- then the run lock is released next, and nothing else changes
abbrev pub over : View → View
over v = record v { place = record v.place { position = Unlock }; whole = record v.whole { qdisc = record v.whole.qdisc { missed = true } } }

pub over_at_quota : (v w : View) → w ≡ set_bit_view v → v.place.position ≡ position_in_run v → v.place.run ≡ QUOTA → w ≡ over v
over_at_quota v w is at run =
    is ∙ (set_at_quota v at run ∙ ap (λ (y : Position). record v { place = (step_at y Plain (seen_by v) v.place).seat; whole = record v.whole { qdisc = (step_at y Plain v.whole.qdisc v.place).qdisc } })
    (at ∙ ap (λ (k : ℕ). if k == QUOTA then Quota else begins v) run))

pub laid_at_quota : (v : View) (w : Solo) → v.place.position ≡ position_in_run v → v.place.run ≡ QUOTA → set_bit_alone v w ≡ w
laid_at_quota v w at run = ap (λ (y : Position). if is_some (in_hand y) then heard Back w else w) (at ∙ ap (λ (k : ℕ). if k == QUOTA then Quota else begins v) run)
