-- At a free lock with neither bit set nothing is exposed.
use Rattle.std.proofs.Common.{◌≡◌, ℕ, Bool, true, false, Option, Some, refl, sym, ap, ◌∙◌, subst}
use Rattle.lq_model.specs.declared.machine.Packet.{Packet}
use Rattle.lq_model.specs.declared.machine.Position.{Position}
use Rattle.lq_model.specs.declared.machine.Position.TheVariants.{Control}
use Rattle.lq_model.specs.declared.machine.Seat.{Seat}
use Rattle.lq_model.specs.Machine.{Qdisc, Machine, Purge, seat_at}
use Rattle.lq_model.specs.Steps.{After, with_seat}
use Rattle.lq_model.specs.Positions.{BitsClear, IsClear, holds_lock, looked_below}
use Rattle.lq_model.specs.Kept.{IsInductive, LockFreeClear}
use Rattle.lq_model.specs.Quiet.{Moves}
use Rattle.lq_run_laws.proofs.Local as local
use Rattle.lq_run_laws.proofs.Local.{Local}
use Rattle.lq_run_laws.proofs.LocalSteps.{Moved, moved}
use Rattle.lq_run_laws.proofs.Frames.{holder-locks}
use Rattle.lq_run_laws.proofs.Beside.{beside, stays-locked}
use Rattle.lq_run_laws.proofs.Rely.{clear-beside, bits-before}
use Rattle.lq_run_laws.proofs.LookedClear.{Below, below-now, looked-before, holder-shows}

-- a holder releases the lock where it has looked at all
releases : {sole : Bool} {free : Packet → Type 0} {q : Qdisc} {s : Seat} {before : Position} {after : After} (m : Machine) → Local sole free q s before after
    → holds_lock before ≡ true → q.locked ≡ true → after.qdisc.locked ≡ false
    → ((band : ℕ) → looked_below q.purge before ≡ Some band → q.missed ≡ false → q.draining ≡ false → Below m q band)
    → after.qdisc.missed ≡ false → after.qdisc.draining ≡ false → Below m after.qdisc 3
releases m local.unlock h locked e looked missed draining = let c = looked 3 refl missed draining in record { slot = c.slot; bands = c.bands }
releases m (local.run_end none) h locked e looked missed draining =
    let c = looked 3 (ap (λ (u : Option Purge). looked_below u (Control true)) none) missed draining in record { slot = c.slot; bands = c.bands }
releases m (local.releases none closed) h locked e looked missed draining =
    let c = looked 3 (ap (λ (u : Option Purge). looked_below u (Control true)) none) missed draining in record { slot = c.slot; bands = c.bands }
releases m _ h locked e looked missed draining = absurd cc

pub lock-free-clear : (m n : Machine) → IsInductive m → Moves m n → LockFreeClear n
lock-free-clear m n h moves = subst LockFreeClear (sym t.is) (λ free bits. go (holds_lock (seat_at m t.i).position) refl free bits)
  where
    t : Moved m n
    t = moved m n moves

    outside : (b : Bool) → m.qdisc.locked ≡ b → holds_lock (seat_at m t.i).position ≡ false → t.after.qdisc.locked ≡ false → BitsClear t.after.qdisc → IsClear (with_seat m t.i t.after)
    outside true locked out free bits = absurd (let still = stays-locked t.leads out locked in cc)
    outside false was out free bits =
        let leaves = beside t.leads out (free ∙ sym was) in
        clear-beside m t.i t.after 3 t.inside leaves bits.missed (h.kept.lock_free_clear was (bits-before leaves bits))

    go : (b : Bool) → holds_lock (seat_at m t.i).position ≡ b → t.after.qdisc.locked ≡ false → BitsClear t.after.qdisc → IsClear (with_seat m t.i t.after)
    go true holds free bits =
        below-now m t.i t.after 3 t.inside
        (releases m t.leads holds (holder-locks m t.i h.kept.one_holder holds) free (looked-before m t.i h.kept.looked_clear) bits.missed bits.draining)
        (λ k below p own. holder-shows _ p holds own)
    go false out free bits = outside m.qdisc.locked refl out free bits
