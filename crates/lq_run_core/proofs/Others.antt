-- What a move of one seat leaves of the ways of the others.
use Rattle.std.proofs.Common.{◌≡◌, ◌≢◌, ℕ, zero, suc, ◌<◌, ◌≤◌, Bool, true, false, ◌⊎◌, inl, inr, List, [], ◌∷◌, ◌++◌, length, refl, arith, get_or, set}
use Rattle.std.specs.Prelude.{if◌then◌else◌, is_some}
use Rattle.std.proofs.lemmas.List.{get_or-set_same, get_or-set_other, set_past}
use Rattle.std.proofs.lemmas.Bool.{cases_lt, cases_eq}
use Rattle.lq_model.specs.declared.machine.Packet.{Packet}
use Rattle.lq_model.specs.declared.machine.Call.TheVariants.{Transmit}
use Rattle.lq_model.specs.declared.machine.Position.{Position}
use Rattle.lq_model.specs.declared.machine.Position.TheVariants.{Enter, Deq, Scan}
use Rattle.lq_model.specs.declared.machine.Seat.{Seat}
use Rattle.lq_model.specs.Machine.{Qdisc}
use Rattle.lq_model.specs.Steps.{After}
use Rattle.lq_model.specs.Positions.{holds_lock}
use Rattle.lq_run_laws.proofs.Local as local
use Rattle.lq_run_laws.proofs.Local.{Local, Sends}
use Rattle.lq_run_core.specs.Measure.{first_look, second_look, has_any, waits_in, is_ahead, is_held, way}
use Rattle.lq_run_core.proofs.Tests.{or-more}
use Rattle.lq_run_core.proofs.OneSeat.{ahead-less}

-- THE OTHERS

-- what waited waits still
pub record Grows (q q' : Qdisc) : Type 0 where
  pub slot : is_some q.slot ≡ true → is_some q'.slot ≡ true
  pub bands : (band : ℕ) → waits_in band q.bands ≡ true → waits_in band q'.bands ≡ true

ahead-more : (q q' : Qdisc) → Grows q q' → (band : ℕ) → is_ahead band q.bands ≡ true → is_ahead band q'.bands ≡ true
ahead-more q q' more zero = or-more _ _ _ _ (more.bands 0) (or-more _ _ _ _ (more.bands 1) (more.bands 2))
ahead-more q q' more (suc zero) = or-more _ _ _ _ (more.bands 1) (more.bands 2)
ahead-more q q' more (suc (suc zero)) = more.bands 2
ahead-more q q' more (suc (suc (suc band))) = λ e. e

-- the way of another seat doesn't grow, as long as what waited waits still, or it isn't the holder
pub way-more : (q q' : Qdisc) → Grows q q' → (position : Position) → way q'.slot q'.bands position ≤ way q.slot q.bands position
way-more q q' more Deq =
    omega (arith, ahead-less (is_held q.slot q.bands) (is_held q'.slot q'.bands) first_look (or-more _ _ _ _ more.slot (ahead-more q q' more 0)))
way-more q q' more (Scan band second) =
    omega (arith, ahead-less (is_ahead band q.bands) (is_ahead band q'.bands) (if second then second_look else first_look) (ahead-more q q' more band))
way-more q q' more (Enter (Transmit p)) = omega arith
way-more q q' more _ = omega arith

pub way-free : (q q' : Qdisc) (position : Position) → holds_lock position ≡ false → way q'.slot q'.bands position ≤ way q.slot q.bands position
way-free q q' Deq e = cc
way-free q q' (Scan band second) e = cc
way-free q q' (Enter (Transmit p)) e = omega arith
way-free q q' _ e = omega arith

-- a packet that joins a band takes none away
joined-waits : (bands : List (List Packet)) (band k : ℕ) (p : Packet) → waits_in k bands ≡ true → waits_in k (set bands band (get_or bands band [] ++ p ∷ [])) ≡ true
joined-waits bands band k p e = go (cases_eq k band) (cases_lt band (length bands))
  where
    any : (xs : List Packet) → has_any (xs ++ p ∷ []) ≡ true
    any [] = refl
    any (x ∷ xs) = refl

    go : (k ≡ band) ⊎ (k ≢ band) → (band < length bands) ⊎ (length bands ≤ band) → waits_in k (set bands band (get_or bands band [] ++ p ∷ [])) ≡ true
    go (inl same) (inl within) = rw same (rw (get_or-set_same bands band (get_or bands band [] ++ p ∷ []) [] within) (any (get_or bands band [])))
    go (inl same) (inr past) = rw (set_past bands band (get_or bands band [] ++ p ∷ []) past) e
    go (inr other) _ = rw (get_or-set_other bands band k (get_or bands band [] ++ p ∷ []) [] other) e

-- only the holder takes packets
pub takes-or-grows : {sole : Bool} {free : Packet → Type 0} {q : Qdisc} {s : Seat} {position : Position} {a : After}
    → Local sole free q s position a → (holds_lock position ≡ true) ⊎ Grows q a.qdisc
takes-or-grows {q = q} (local.put_join p) = inr (record { slot = λ e. e; bands = λ k e. joined-waits q.bands p.band k p e })
takes-or-grows (local.put_join_word p run _) = inl refl
takes-or-grows (local.put_join_bands p run _) = inl refl
takes-or-grows (local.xmit_busy p direct) = inl refl
takes-or-grows (local.deq_slot p) = inl refl
takes-or-grows (local.scan_takes band second p rest _) = inl refl
takes-or-grows (local.miss_back p direct) = inl refl
takes-or-grows (local.drain_back p direct) = inl refl
takes-or-grows (local.purge_begins _ _) = inl refl
takes-or-grows (local.purge_takes u p rest _ _ _) = inl refl
takes-or-grows (local.resizes len _) = inl refl
takes-or-grows _ = inr (record { slot = λ e. e; bands = λ k e. e })
