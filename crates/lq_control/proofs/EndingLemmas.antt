-- A station that a seat has alone is woken and served until it is done, and purged where it hangs.
use Rattle.std.proofs.Common.{◌≡◌, ◌≢◌, ◌⊎◌, inl, inr, ℕ, ◌<◌, ◌≤◌, Bool, true, false, List, [], length, Option, None, IsSome, refl, sym, ap, ◌∙◌, subst, arith}
use Rattle.std.specs.Prelude.{is_some, is_none, slice_index, ◌||◌, ◌&&◌, if◌then◌else◌}
use Rattle.std.proofs.lemmas.Bool.{and_from, and_parts, cases_Bool, cases_lt, or_cases, or_left, or_right, true≢false}
use Rattle.std.proofs.lemmas.List.{get_or_past}
use Rattle.lq_account_laws.proofs.EndRounds.{finished_done}
use Rattle.lq_account_laws.proofs.Purges.{purge_empties}
use Rattle.lq_model.specs.Account.{Account, Purge, after, held, is_all_open, is_hung, with_fates}
use Rattle.lq_account_laws.proofs.Taken.{next_none}
use Rattle.lq_model.specs.Alone.{RunningStation, finished, is_done, next_taken, opened, purged_if_hung, served}
use Rattle.lq_model.specs.declared.fate.Cause.TheVariants as cause
use Rattle.lq_model.specs.declared.fate.Fate.TheVariants as fate
use Rattle.lq_model.specs.declared.fate.Info.{Info}
use Rattle.lq_table.specs.Sees.{Solo}
use Rattle.lq_qdisc.specs.Alone.{IsAlone, Does, account_in, running}
use Rattle.lq_qdisc.proofs.AloneRests.{rests_served}
use Rattle.lq_control.proofs.Rounds.{all_of, each_of, finished_next, is_round, opened_none}
use Rattle.lq_control.specs.Ending.{IsEndedAlike, IsFinishedAlone, cleared_if_hung, purged_as_hung}

none-some : {X : Type 0} (o : Option X) → o ≡ None → IsSome o → ⊥
none-some o none some = cc

not-true : (b : Bool) → (b ≡ true → ⊥) → b ≡ false
not-true true no_ = absurd (no_ refl)
not-true false no_ = refl

or-false : (b : Bool) → (b || false) ≡ b
or-false true = refl
or-false false = refl

or-true : (b : Bool) → (b || true) ≡ true
or-true true = refl
or-true false = refl

-- each queue has this stop value
abbrev pub AreValues : ℕ → List ℕ → Type 0
AreValues value stops = (queue : ℕ) → queue < length stops → slice_index stops queue ≡ value

pub alike_same : (infos : List Info) (start : Account) (v : Solo) → IsAlone infos start v → IsEndedAlike infos start v v
alike_same infos start v alone = record { alone = alone; down = refl; ends = refl }

-- no queue is stopped where each is hung, or each is open
none-stopped : (value : ℕ) (stops : List ℕ) → value ≢ 1 → ((queue : ℕ) → queue < length stops → slice_index stops queue ≡ value) → (queue : ℕ) → slice_index stops queue ≢ 1
none-stopped value stops other each queue one = by_below (cases_lt queue (length stops))
  where
    by_below : (queue < length stops) ⊎ (length stops ≤ queue) → ⊥
    by_below (inl below) = other (sym (each queue below) ∙ one)
    by_below (inr past) = let none : slice_index stops queue ≡ 0 = get_or_past stops queue 0 past in omega (arith, one)

module _ (infos : List Info) (start : Account) (old now : Solo) (r : IsEndedAlike infos start old now) where
  -- one more round; it changes nothing where the station is done
  module _ (low : now.raised ≡ false) (mid new : Solo) (active : (account_in start now).down ≡ None) (wakes : Does infos start opened now mid) (drains : Does infos start (served infos) mid new) where
    woken : IsAlone infos start mid × (running start mid ≡ opened (running start now))
    woken = wakes r.alone

    drained : IsAlone infos start new × (running start new ≡ served infos (running start mid))
    drained = drains woken.0

    round : running start new ≡ served infos (opened (running start now))
    round = drained.1 ∙ ap (served infos) woken.1

    same : ((queue : ℕ) → slice_index (account_in start now).stops queue ≢ 1) → running start new ≡ running start now
    same other = round ∙ ap (served infos) (opened_none (running start now) other) ∙ rests_served infos start now r.alone low

    alike-same : ((queue : ℕ) → slice_index (account_in start now).stops queue ≢ 1) → IsEndedAlike infos start old new
    alike-same other = record {
      alone = drained.0;
      down = ap (λ (s : RunningStation). s.account.down) (same other) ∙ r.down;
      ends = ap (finished infos) (same other) ∙ r.ends;
    }

    pub alike_further : IsEndedAlike infos start old new
    alike_further = by_done (cases_Bool (is_done (account_in start now)))
      where
        by_why : (is_hung (account_in start now) ≡ true) ⊎ ((is_all_open (account_in start now) && is_none (next_taken (account_in start now))) ≡ true) → IsEndedAlike infos start old new
        by_why (inl hung) = alike-same (none-stopped 2 (account_in start now).stops (λ e. omega (arith, e)) (each_of 2 (account_in start now).stops hung))
        by_why (inr idle) = alike-same (none-stopped 0 (account_in start now).stops (λ e. omega (arith, e)) (each_of 0 (account_in start now).stops (and_parts (is_all_open (account_in start now)) _ idle).0))

        by_done : (is_done (account_in start now) ≡ true) ⊎ (is_done (account_in start now) ≡ false) → IsEndedAlike infos start old new
        by_done (inl done) = by_why (or_cases (is_hung (account_in start now)) _ (sym (ap (λ (o : Option ℕ). is_some o || (is_hung (account_in start now) || (is_all_open (account_in start now) && is_none (next_taken (account_in start now))))) active) ∙ done))
        by_done (inr goes) = let next = is_round infos (running start now) r.alone.sender.station goes in record {
          alone = drained.0;
          down = ap (λ (s : RunningStation). s.account.down) round ∙ (next.active ∙ (sym active ∙ r.down));
          ends = ap (finished infos) round ∙ (sym (finished_next infos (running start now) r.alone.sender.station goes) ∙ r.ends);
        }

  -- nothing is held, and it is deactivated or open
  module _ (none : held (account_in start now) ≡ []) (over : IsSome (account_in start now).down ⊎ AreValues 0 (account_in start now).stops) where
    done : is_done (account_in start now) ≡ true
    done = by_over over
      where
        by_over : IsSome (account_in start now).down ⊎ AreValues 0 (account_in start now).stops → is_done (account_in start now) ≡ true
        by_over (inl some) = or_left (is_some (account_in start now).down) _ some
        by_over (inr opens) = or_right (is_some (account_in start now).down) _ (or_right (is_hung (account_in start now)) _
            (and_from (is_all_open (account_in start now)) _ (all_of 0 (account_in start now).stops opens) (ap is_none (next_none (account_in start now) none))))

    ends : record (running start now) { account = purged_if_hung (account_in start now) } ≡ finished infos (running start old)
    ends = sym (finished_done infos (running start now) done) ∙ r.ends

    -- the purge would find nothing
    unpurged : (b : Bool) → (if b then after (Purge (cause.Hung (account_in start now).unit)) (account_in start now) else account_in start now).fates ≡ (account_in start now).fates
    unpurged true = ap (λ (ns : List ℕ). with_fates ns (fate.Purged (cause.Hung (account_in start now).unit)) (account_in start now).fates) none
    unpurged false = refl

    pub over_finishes : IsFinishedAlone infos start old now
    over_finishes = record {
      alone = r.alone;
      fates = sym (unpurged (is_hung (account_in start now))) ∙ ap (λ (s : RunningStation). s.account.fates) ends;
      active = λ active. by_over (r.down ∙ active) over;
    }
      where
        not-hung : AreValues 0 (account_in start now).stops → is_hung (account_in start now) ≡ false
        not-hung opens = not-true (is_hung (account_in start now)) (λ hung. let two : slice_index (account_in start now).stops 0 ≡ 2 = each_of 2 (account_in start now).stops hung 0 r.alone.sender.station.queues in
            let zero_ : slice_index (account_in start now).stops 0 ≡ 0 = opens 0 r.alone.sender.station.queues in omega (arith, two, zero_))

        by_over : (account_in start now).down ≡ None → IsSome (account_in start now).down ⊎ AreValues 0 (account_in start now).stops → running start now ≡ cleared_if_hung (finished infos (running start old))
        by_over active (inl some) = absurd (none-some (account_in start now).down active some)
        by_over active (inr opens) =
            ap (λ (b : Bool). record (running start now) { clean = b }) (sym (or-false (running start now).clean) ∙ ap (λ (b : Bool). (running start now).clean || b) (sym (not-hung opens)))
            ∙ ap cleared_if_hung (sym (ap (λ (b : Bool). record (running start now) { account = if b then after (Purge (cause.Hung (account_in start now).unit)) (account_in start now) else account_in start now }) (not-hung opens)) ∙ ends)

  -- it hangs, and was purged
  pub purged_finishes : (unit : ℕ) (new : Solo) → now.raised ≡ false → (account_in start now).down ≡ None → AreValues 2 (account_in start now).stops → (account_in start now).unit ≡ unit → new ≡ purged_as_hung unit now → IsFinishedAlone infos start old new
  purged_finishes unit new low active values of_unit is = subst (IsFinishedAlone infos start old) (sym is) (record {
    alone = record {
      sender = record {
        sole = r.alone.sender.sole;
        tells = r.alone.sender.tells;
        station = record { queues = r.alone.sender.station.queues; known = r.alone.sender.station.known; hand = r.alone.sender.station.hand; busies = r.alone.sender.station.busies };
      };
      rests = record {
        unlocked = refl;
        scheduled = r.alone.rests.scheduled;
        missed = λ e. absurd (true≢false (sym e));
        empty = λ _. purge_empties (cause.Hung unit) (account_in start now);
        waits = λ _ e. absurd (true≢false e);
        shut = λ up. absurd (true≢false (sym up ∙ low));
        off = λ _. refl;
      };
    };
    fates = ap (λ (s : RunningStation). s.account.fates) ends-hung;
    active = λ _. cleared ∙ ap cleared_if_hung ends-hung;
  })
    where
      hung : is_hung (account_in start now) ≡ true
      hung = all_of 2 (account_in start now).stops values

      done-hung : is_done (account_in start now) ≡ true
      done-hung = or_right (is_some (account_in start now).down) _ (or_left (is_hung (account_in start now)) _ hung)

      ends-hung : record (running start now) { account = after (Purge (cause.Hung unit)) (account_in start now) } ≡ finished infos (running start old)
      ends-hung = ap (λ (u : ℕ). record (running start now) { account = after (Purge (cause.Hung u)) (account_in start now) }) (sym of_unit)
          ∙ (sym (ap (λ (b : Bool). record (running start now) { account = if b then after (Purge (cause.Hung (account_in start now).unit)) (account_in start now) else account_in start now }) hung)
          ∙ (sym (finished_done infos (running start now) done-hung) ∙ r.ends))

      cleared : running start (purged_as_hung unit now) ≡ cleared_if_hung (record (running start now) { account = after (Purge (cause.Hung unit)) (account_in start now) })
      cleared = ap (λ (b : Bool). record (running start now) { account = after (Purge (cause.Hung unit)) (account_in start now); clean = b })
          (sym (or-true (running start now).clean) ∙ ap (λ (b : Bool). (running start now).clean || b) (sym hung))
