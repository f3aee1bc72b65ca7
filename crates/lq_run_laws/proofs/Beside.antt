-- What a step of a seat beside the holder of the run lock leaves alone.
use Rattle.std.proofs.Common.{◌≡◌, ℕ, Bool, true, false, ◌++◌, [], ◌∷◌, ◌⊎◌, inl, inr, length, Contains, Some, refl, sym, ap, subst, get_or}
use Rattle.lq_model.specs.declared.machine.Packet.{Packet}
use Rattle.lq_model.specs.declared.machine.Attempt.{Attempt}
use Rattle.lq_model.specs.declared.machine.Attempt.TheVariants.{Queued, Direct, Interrupt}
use Rattle.lq_model.specs.declared.machine.Position.{Position}
use Rattle.lq_model.specs.declared.machine.Position.TheVariants.{Put, Try1, Miss}
use Rattle.lq_model.specs.declared.machine.Seat.{Seat}
use Rattle.lq_model.specs.Machine.{Qdisc, band_at}
use Rattle.lq_model.specs.Steps.{After, joined_band}
use Rattle.std.proofs.lemmas.List.{length-set}
use Rattle.std.proofs.lemmas.List.Elements.{Contains-push_cases}
use Rattle.lq_model.specs.Positions.{holds_lock, hidden_packet, own_packet}
use Rattle.lq_run_laws.proofs.Local.{Local}
use Rattle.lq_run_laws.proofs.Local as local
use Rattle.lq_run_laws.proofs.Bands.{set-holds}

-- a step from one position and qdisc to another leaves alone what a holder rests on
pub record IsBeside (before : Position) (q : Qdisc) (after : Position) (q' : Qdisc) : Type 0 where
  pub missed : q'.missed ≡ false → q.missed ≡ false
  pub draining : q'.draining ≡ q.draining
  pub slot : q'.slot ≡ q.slot
  pub purge : q'.purge ≡ q.purge
  pub queues : length q'.xoff ≡ length q.xoff
  pub bands : (k : ℕ) (p : Packet) → Contains (band_at q' k) p → Contains (band_at q k) p ⊎ ((hidden_packet after ≡ Some p) × (own_packet before ≡ Some p))
  pub queued : (p : Packet) → hidden_packet before ≡ Some p → q'.missed ≡ false → hidden_packet after ≡ Some p

-- a step that changes nothing that a holder rests on
pub alike : (before after : Position) (q q' : Qdisc) → q'.missed ≡ q.missed → q'.draining ≡ q.draining → q'.slot ≡ q.slot → q'.purge ≡ q.purge
    → length q'.xoff ≡ length q.xoff → q'.bands ≡ q.bands → ((p : Packet) → hidden_packet before ≡ Some p → q'.missed ≡ false → hidden_packet after ≡ Some p) → IsBeside before q after q'
alike before after q q' missed draining slot purge queues bands hidden = record {
  missed = λ e. cc;
  draining = draining;
  slot = slot;
  purge = purge;
  queues = queues;
  bands = λ k p held. inl (subst (λ lists. Contains (get_or lists k []) p) bands held);
  queued = hidden;
}

-- a packet that a seat beside the holder puts into its band is hidden
join-hides : (p : Packet) (q : Qdisc) → IsBeside (Put p false) q (Try1 (Queued p)) (joined_band p q)
join-hides p q = record {
  missed = λ e. e;
  draining = refl;
  slot = refl;
  purge = refl;
  queues = refl;
  bands = λ k r held. joined_by k r (set-holds q.bands p.band k (band_at q p.band ++ p ∷ []) r held);
  queued = λ r e clear. cc;
}
  where
    joined_by : (k : ℕ) (r : Packet) → Contains (band_at q k) r ⊎ ((k ≡ p.band) × Contains (band_at q p.band ++ p ∷ []) r)
        → Contains (band_at q k) r ⊎ ((Some p ≡ Some r) × (Some p ≡ Some r))
    joined_by k r (inl old) = inl old
    joined_by k r (inr at) = elim (Contains-push_cases (band_at q p.band) p r at.1) [
      | inl old ↦ inl (subst (λ n. Contains (band_at q n) r) (sym at.0) old)
      | inr own ↦ inr (ap Some own, ap Some own)
    ]

-- between its tries a transmit's packet stays hidden
missed-hides : (attempt : Attempt) (p : Packet) → hidden_packet (Try1 attempt) ≡ Some p → hidden_packet (Miss attempt) ≡ Some p
missed-hides (Queued r) p e = e
missed-hides (Direct r) p e = cc
missed-hides Interrupt p e = cc

-- a free lock may be taken; nobody but its holder releases it
pub stays-locked : {sole : Bool} {free : Packet → Type 0} {q : Qdisc} {s : Seat} {before : Position} {after : After} → Local sole free q s before after
    → holds_lock before ≡ false → q.locked ≡ true → after.qdisc.locked ≡ true
stays-locked (local.enter_transmit p) h locked = locked
stays-locked _ h locked = cc

-- a seat that neither holds the lock nor takes it leaves alone what the holder rests on
pub beside : {sole : Bool} {free : Packet → Type 0} {q : Qdisc} {s : Seat} {before : Position} {after : After} → Local sole free q s before after
    → holds_lock before ≡ false → after.qdisc.locked ≡ q.locked → IsBeside before q after.seat.position after.qdisc
beside (local.put_join p) h same = join-hides p _
beside (local.try1_held attempt e) h same = alike _ _ _ _ refl refl refl refl refl refl (λ p hidden c. missed-hides attempt p hidden)
beside (local.miss_sets attempt e) h same = record {
  missed = λ c. cc;
  draining = refl;
  slot = refl;
  purge = refl;
  queues = refl;
  bands = λ k p held. inl held;
  queued = λ p hidden c. cc;
}
beside {q = q} (local.wake_opens queue) h same = alike _ _ _ _ refl refl refl refl (length-set q.xoff queue 0) refl (λ p e c. cc)
beside (local.try1_queued_word p run free full) h same = alike _ _ _ _ refl refl refl refl refl refl (λ r e c. cc)
beside (local.try1_queued_bands p run free none) h same = alike _ _ _ _ refl refl refl refl refl refl (λ r e c. cc)
beside (local.miss_set_queued p missed) h same = alike _ _ _ _ refl refl refl refl refl refl (λ r e c. cc)
beside _ h same = alike _ _ _ _ (cc) (cc) (cc) (cc) (cc) (cc) (λ p e c. cc)
