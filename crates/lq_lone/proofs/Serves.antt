-- What serving makes of a station as code has it.
use Rattle.std.proofs.Common.{◌≡◌, ◌⊎◌, inl, inr, ℕ, zero, suc, ◌+◌, ◌<◌, ◌==◌, Bool, true, false, cond, List, [], ◌∷◌, ◌++◌, length, Option, Some, None, nat_lt, slice_get, refl, sym, ap, ap₂, subst, ◌∙◌, eq-eqb, length-append, append-nil, arith}
use Rattle.std.specs.Prelude.{is_some, option_to_list, not}
use Rattle.lq_model.specs.Account.{Account, Event, Take, held, with_at}
use Rattle.lq_model.specs.Alone.{RunningStation, next_taken, opened, served}
use Rattle.lq_model.specs.Band.{Band, held_of, taken_by}
use Rattle.lq_model.specs.declared.fate.Info.{Info}
use Rattle.lq_model.specs.Wire.{sent_now}
use Rattle.lq_lone.specs.Lone.{HaveOneQueue, IsLone, Rest, LoneState, StepsLone, TakesNext, HasNothingToServe, first_of, is_stopped, is_down, is_empty, station_with, slot_taken, low_taken, mid_taken, high_taken, none_taken}
use Rattle.lq_lone.proofs.Serving.{sent-on, served-band, served-none, served-slot}

-- THE NEXT PACKET

pub is-none : (o : Option ℕ) → is_some o ≡ false → o ≡ None
is-none None e = refl
is-none (Some n) e = cc

holds-some : (l : List ℕ) (n : ℕ) → slice_get l 0 ≡ Some n → nat_lt 0 (length l) ≡ true
holds-some [] n e = cc
holds-some (x ∷ xs) n e = grind arith

is-long : (l : List ℕ) (n : ℕ) → slice_get l 0 ≡ Some n → 0 < length l
is-long [] n e = absurd cc
is-long (x ∷ xs) n e = omega arith

holds-none : (l : List ℕ) → slice_get l 0 ≡ None → nat_lt 0 (length l) ≡ false
holds-none [] e = refl
holds-none (x ∷ xs) e = cc

-- which band the next packet comes from, by whether each holds something
abbrev by-bands : Bool → Bool → Bool → Option Event
by-bands low mid high = cond low (Some (Take 0)) (cond mid (Some (Take 1)) (cond high (Some (Take 2)) None))

module _ (x : Rest) (len : ℕ) (clean : Bool) where
  abbrev a : Account
  a = (station_with x len None false clean).account

  abbrev holding : ℕ → Bool
  holding band = nat_lt 0 (length (held_of (x.bands band)))

  next-is : (low mid high : Bool) → holding 0 ≡ low → holding 1 ≡ mid → holding 2 ≡ high → next_taken a ≡ by-bands low mid high
  next-is low mid high l m h = ap (λ (b : Bool). by-bands b (holding 1) (holding 2)) l ∙ ap₂ (λ (b c : Bool). by-bands low b c) m h

  long-by : (l m h : ℕ) → length (held_of (x.bands 0)) ≡ l → length (held_of (x.bands 1)) ≡ m → length (held_of (x.bands 2)) ≡ h → length (held a) ≡ l + (m + h)
  long-by l m h ls ms hs =
      length-append (held_of (x.bands 0)) (held_of (x.bands 1) ++ held_of (x.bands 2))
      ∙ (ap (λ (k : ℕ). length (held_of (x.bands 0)) + k) (length-append (held_of (x.bands 1)) (held_of (x.bands 2))) ∙ (ap₂ (λ (k j : ℕ). k + (j + length (held_of (x.bands 2)))) ls ms ∙ ap (λ (k : ℕ). l + (m + k)) hs))

  is-held : (band n : ℕ) → band < 3 → slice_get (held_of (x.bands band)) 0 ≡ Some n → 0 < length (held a)
  is-held zero n within first = let all = long-by _ _ _ refl refl refl in let some = is-long (held_of (x.bands 0)) n first in omega arith
  is-held (suc zero) n within first = let all = long-by _ _ _ refl refl refl in let some = is-long (held_of (x.bands 1)) n first in omega arith
  is-held (suc (suc zero)) n within first = let all = long-by _ _ _ refl refl refl in let some = is-long (held_of (x.bands 2)) n first in omega arith
  is-held (suc (suc (suc k))) n within first = absurd (omega arith)

-- SERVED

-- a station that is deactivated, or whose queue is stopped, isn't served
pub same-served : (infos : List Info) (s : RunningStation) (m : LoneState) → IsLone m s → (m.down ≡ true) ⊎ (m.stopped ≡ true) → served infos s ≡ s
same-served infos s m lone why = ap (served infos) lone.is ∙ (shut x.down m.stopped (off why) ∙ sym lone.is)
  where
    x : Rest
    x = lone.rest

    shut : (o : Option ℕ) (b : Bool) → (is_some o ≡ true) ⊎ (b ≡ true) → served infos (station_with (record x { down = o }) m.len m.slot b m.clean) ≡ station_with (record x { down = o }) m.len m.slot b m.clean
    shut (Some e) b off = refl
    shut None true off = refl
    shut None false (inl wrong) = cc
    shut None false (inr wrong) = cc

    off : (m.down ≡ true) ⊎ (m.stopped ≡ true) → (is_some x.down ≡ true) ⊎ (m.stopped ≡ true)
    off (inl d) = inl (lone.down ∙ d)
    off (inr d) = inr d

pub not-served : (infos : List Info) (s : RunningStation) (m : LoneState) → IsLone m s → (m.down ≡ true) ⊎ (m.stopped ≡ true) → StepsLone None m s (served infos s)
not-served infos s m lone why =
    let same = same-served infos s m lone why in
    record { is = record { rest = lone.rest; is = same ∙ lone.is; low = lone.low; mid = lone.mid; high = lone.high; down = lone.down }; sent = ap sent_now same ∙ sym (append-nil (sent_now s)) }

module _ (infos : List Info) (s : RunningStation) (old : LoneState) (queues : HaveOneQueue infos) (lone : IsLone old s) (running : old.stopped ≡ false) (active : old.down ≡ false) where
  abbrev x : Rest
  x = lone.rest

  off : x.down ≡ None
  off = is-none x.down (lone.down ∙ active)

  at : (slot : Option ℕ) → old.slot ≡ slot → s ≡ station_with x old.len slot false old.clean
  at slot is = lone.is ∙ ap₂ (λ (o : Option ℕ) (b : Bool). station_with x old.len o b old.clean) is running

  -- the packet stands behind what was sent before
  pub sent-behind : (y : Rest) (n : ℕ) (t : RunningStation) → y.unit ≡ x.unit → y.sent ≡ x.sent → t ≡ station_with (sent-on y n) old.len None true false → sent_now t ≡ sent_now s ++ n ∷ []
  sent-behind y n t unit sent is =
      ap sent_now is
      ∙ (ap (λ (b : Bool). cond b (y.sent y.unit ++ n ∷ []) (y.sent y.unit)) (eq-eqb y.unit y.unit refl)
      ∙ (ap₂ (λ (f : ℕ → List ℕ) (u : ℕ). f u ++ n ∷ []) sent unit ∙ ap (λ (l : List ℕ). l ++ n ∷ []) (sym (ap sent_now lone.is))))

  pub by-slot : (n : ℕ) → old.slot ≡ Some n → StepsLone (Some n) (record old { slot = None; stopped = true; clean = false }) s (served infos s)
  by-slot n slot =
      let is = ap (served infos) (at (Some n) slot) ∙ served-slot infos x old.len n old.clean queues off in
      record {
        is = record { rest = sent-on x n; is = is; low = lone.low; mid = lone.mid; high = lone.high; down = lone.down };
        sent = sent-behind x n (served infos s) refl refl is;
      }

  pub by-none : old.slot ≡ None → first_of old.low ≡ None → first_of old.mid ≡ None → first_of old.high ≡ None → StepsLone None (record old { stopped = false; clean = true }) s (served infos s)
  by-none slot low mid high =
      let next = next-is x old.len old.clean false false false (holds-none _ (ap first_of lone.low ∙ low)) (holds-none _ (ap first_of lone.mid ∙ mid)) (holds-none _ (ap first_of lone.high ∙ high)) in
      let is = ap (served infos) (at None slot) ∙ served-none infos x old.len old.clean off next in
      let same = ap (λ (o : Option ℕ). station_with x old.len o false true) slot in
      record {
        is = record { rest = x; is = is ∙ sym same; low = lone.low; mid = lone.mid; high = lone.high; down = lone.down };
        sent = ap sent_now is ∙ (ap sent_now (sym lone.is) ∙ sym (append-nil (sent_now s)));
      }

  -- what is left of a rest where the first packet of a band was taken and sent
  abbrev taken-from : ℕ → Rest
  taken-from band = record x { bands = with_at band (taken_by (x.bands band) 1) x.bands }

  pub by-low : (n : ℕ) → old.slot ≡ None → first_of old.low ≡ Some n → StepsLone (Some n) (record old { low = taken_by old.low 1; stopped = true; clean = false }) s (served infos s)
  by-low n slot first =
      let here = ap first_of lone.low ∙ first in
      let next = next-is x old.len old.clean true _ _ (holds-some _ n here) refl refl in
      let is = ap (served infos) (at None slot) ∙ served-band infos x old.len 0 n old.clean queues off next here (is-held x old.len old.clean 0 n (omega arith) here) in
      let same = ap (λ (o : Option ℕ). station_with (sent-on (taken-from 0) n) old.len o true false) slot in
      record {
        is = record { rest = sent-on (taken-from 0) n; is = is ∙ sym same; low = ap (λ (b : Band). taken_by b 1) lone.low; mid = lone.mid; high = lone.high; down = lone.down };
        sent = sent-behind (taken-from 0) n (served infos s) refl refl is;
      }

  pub by-mid : (n : ℕ) → old.slot ≡ None → first_of old.low ≡ None → first_of old.mid ≡ Some n → StepsLone (Some n) (record old { mid = taken_by old.mid 1; stopped = true; clean = false }) s (served infos s)
  by-mid n slot low first =
      let here = ap first_of lone.mid ∙ first in
      let next = next-is x old.len old.clean false true _ (holds-none _ (ap first_of lone.low ∙ low)) (holds-some _ n here) refl in
      let is = ap (served infos) (at None slot) ∙ served-band infos x old.len 1 n old.clean queues off next here (is-held x old.len old.clean 1 n (omega arith) here) in
      let same = ap (λ (o : Option ℕ). station_with (sent-on (taken-from 1) n) old.len o true false) slot in
      record {
        is = record { rest = sent-on (taken-from 1) n; is = is ∙ sym same; low = lone.low; mid = ap (λ (b : Band). taken_by b 1) lone.mid; high = lone.high; down = lone.down };
        sent = sent-behind (taken-from 1) n (served infos s) refl refl is;
      }

  pub by-high : (n : ℕ) → old.slot ≡ None → first_of old.low ≡ None → first_of old.mid ≡ None → first_of old.high ≡ Some n → StepsLone (Some n) (record old { high = taken_by old.high 1; stopped = true; clean = false }) s (served infos s)
  by-high n slot low mid first =
      let here = ap first_of lone.high ∙ first in
      let next = next-is x old.len old.clean false false true (holds-none _ (ap first_of lone.low ∙ low)) (holds-none _ (ap first_of lone.mid ∙ mid)) (holds-some _ n here) in
      let is = ap (served infos) (at None slot) ∙ served-band infos x old.len 2 n old.clean queues off next here (is-held x old.len old.clean 2 n (omega arith) here) in
      let same = ap (λ (o : Option ℕ). station_with (sent-on (taken-from 2) n) old.len o true false) slot in
      record {
        is = record { rest = sent-on (taken-from 2) n; is = is ∙ sym same; low = lone.low; mid = lone.mid; high = ap (λ (b : Band). taken_by b 1) lone.high; down = lone.down };
        sent = sent-behind (taken-from 2) n (served infos s) refl refl is;
      }

  -- where nothing is held the station is open, and clean
  pub none-is : old.slot ≡ None → first_of old.low ≡ None → first_of old.mid ≡ None → first_of old.high ≡ None → served infos s ≡ station_with x old.len None false true
  none-is slot low mid high =
      let next = next-is x old.len old.clean false false false (holds-none _ (ap first_of lone.low ∙ low)) (holds-none _ (ap first_of lone.mid ∙ mid)) (holds-none _ (ap first_of lone.high ∙ high)) in
      ap (served infos) (at None slot) ∙ served-none infos x old.len old.clean off next

  -- by the packet that was taken, where these are the station and the packet
  abbrev served-as : Option ℕ → LoneState → Type 0
  served-as o mid = StepsLone o (record mid { stopped = is_some o; clean = not (is_some o) }) s (served infos s)

  as-taken : (o o' : Option ℕ) (mid mid' : LoneState) → o ≡ o' → mid ≡ mid' → served-as o' mid' → served-as o mid
  as-taken o o' mid mid' same new done = subst (λ (p : Option ℕ). served-as p mid) (sym same) (subst (served-as o') (sym new) done)

  pub serves : (o : Option ℕ) (mid : LoneState) → TakesNext o old mid → served-as o mid
  serves o mid (slot_taken n is slot new) = as-taken o (Some n) mid _ is new (by-slot n slot)
  serves o mid (low_taken n is slot first new) = as-taken o (Some n) mid _ is new (by-low n slot first)
  serves o mid (mid_taken n is slot low first new) = as-taken o (Some n) mid _ is new (by-mid n slot low first)
  serves o mid (high_taken n is slot low mids first new) = as-taken o (Some n) mid _ is new (by-high n slot low mids first)
  serves o mid (none_taken is slot low mids high new) = as-taken o None mid _ is new (by-none slot low mids high)

-- after a packet was taken, or none, nothing is held or the station is stopped
pub settles : (o : Option ℕ) (old mid : LoneState) → TakesNext o old mid → HasNothingToServe (record mid { stopped = is_some o; clean = not (is_some o) })
settles (Some n) old mid taken = is_stopped refl
settles None old mid (slot_taken n is slot new) = cc
settles None old mid (low_taken n is slot first new) = cc
settles None old mid (mid_taken n is slot low first new) = cc
settles None old mid (high_taken n is slot low mids first new) = cc
settles None old mid (none_taken is slot low mids high new) =
    subst (λ (m : LoneState). HasNothingToServe (record m { stopped = false; clean = true })) (sym new) (is_empty refl slot low mids high)

-- a station that is settled stays as it is where it is served
pub stays : (infos : List Info) (s : RunningStation) (m : LoneState) → HaveOneQueue infos → IsLone m s → HasNothingToServe m → StepsLone None m s (served infos s)
stays infos s m queues lone (is_stopped stopped) = not-served infos s m lone (inr stopped)
stays infos s m queues lone (is_down down) = not-served infos s m lone (inl down)
stays infos s m queues lone (is_empty clean slot low mid high) = go m.stopped m.down refl refl
  where
    go : (b d : Bool) → m.stopped ≡ b → m.down ≡ d → StepsLone None m s (served infos s)
    go true d stopped down = not-served infos s m lone (inr stopped)
    go false true running down = not-served infos s m lone (inl down)
    go false false running down =
        subst (λ (n : LoneState). StepsLone None n s (served infos s)) (ap₂ (λ (b c : Bool). record m { stopped = b; clean = c }) (sym running) (sym clean))
        (by-none infos s m queues lone running down slot low mid high)

-- OPENED

opened-is : (x : Rest) (len : ℕ) (slot : Option ℕ) (stopped clean : Bool) → opened (station_with x len slot stopped clean) ≡ station_with x len slot false clean
opened-is x len slot true clean = refl
opened-is x len slot false clean = refl

pub opens : (m : LoneState) (s : RunningStation) → IsLone m s → IsLone (record m { stopped = false }) (opened s)
opens m s lone = record { rest = lone.rest; is = ap opened lone.is ∙ opened-is lone.rest m.len m.slot m.stopped m.clean; low = lone.low; mid = lone.mid; high = lone.high; down = lone.down }

-- what was opened and then served
pub from-opened : (o : Option ℕ) (m new : LoneState) (s t : RunningStation) → IsLone m s → StepsLone o new (opened s) t → StepsLone o new s t
from-opened o m new s t lone steps = record {
  is = steps.is;
  sent = steps.sent ∙ ap (λ (l : List ℕ). l ++ option_to_list o) (ap sent_now (ap opened lone.is ∙ opened-is lone.rest m.len m.slot m.stopped m.clean) ∙ sym (ap sent_now lone.is));
}
