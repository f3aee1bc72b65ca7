-- A packet that goes past the bands.
use Rattle.lq_table.specs.Sees.{Solo, heard}
use Rattle.lq_table.specs.States.{missed_to}
use Rattle.lq_table.specs.Locks.{locked_to}
use Rattle.lq_qdisc.specs.Stations.{AreStopValues, IsBetweenOffers}
use Rattle.lq_qdisc.specs.Alone.{HasAll, IsAlone, account_in, bits_are_clear, running}
use Rattle.lq_qdisc.proofs.AloneForms.{DirectsAlone, LaysAlone, SendsAlone, ended, stopping, through_of}
use Rattle.std.proofs.Common.{◌≡◌, ℕ, ◌+◌, ◌≤◌, ◌<◌, Bool, true, false, not, ◌&&◌, ◌||◌, [], ◌++◌, ◌⊎◌, inl, inr, List, None, length, if◌then◌else◌, option_to_list, refl, sym, ap, ap₂, subst, ◌∙◌, arith}
use Rattle.std.proofs.lemmas.Bool.{eqb-true, true≢false}
use Rattle.lq_account_laws.proofs.Answers.{slot_after}
use Rattle.lq_account_laws.proofs.Taken.{slot_none}
use Rattle.lq_account_laws.proofs.Turns.{busy_answer}
use Rattle.lq_model.specs.Account.{Account, Back, Direct, after, held}
use Rattle.lq_model.specs.Alone.{RunningStation, answered, gone_direct, next_answer, offered}
use Rattle.lq_model.specs.Band.{Band, held_of}
use Rattle.lq_model.specs.Device.{is_busy}
use Rattle.lq_model.specs.Plan.{queue_in}
use Rattle.lq_model.specs.declared.device.Tx.{Tx}
use Rattle.lq_model.specs.declared.device.Tx.TheVariants.{Sent, SentStop, SentHang, Busy}
use Rattle.lq_model.specs.declared.fate.Info.{Info}
use Rattle.lq_qdisc.specs.declared.answers.Through.{Through}
use Rattle.lq_qdisc.specs.declared.answers.Through.TheVariants as through
use Rattle.lq_qdisc.specs.declared.answers.Why.TheVariants as why
use Rattle.lq_qdisc.proofs.AloneBrought.{direct_closed, direct_open}
use Rattle.lq_qdisc.proofs.AloneOffers.{IsOffered, is_offered}
use Rattle.lq_qdisc.proofs.AloneRests.{ended_rests}
use Rattle.lq_qdisc.proofs.AloneTurns.{IsBehind, is_behind, sent_running, sent_tells}

both-clear : (missed draining : Bool) → not (missed || draining) ≡ true → (missed ≡ false) × (draining ≡ false)
both-clear false false clean = (refl, refl)
both-clear true draining clean = absurd (true≢false (sym clean))
both-clear false true clean = absurd (true≢false (sym clean))

clean-if : (missed draining : Bool) → missed ≡ false → draining ≡ false → not (missed || draining) ≡ true
clean-if false false m d = refl
clean-if true draining m d = cc
clean-if missed true m d = cc

not-clean : (missed draining : Bool) → missed ≡ true → not (missed || draining) ≡ false
not-clean true draining m = refl
not-clean false draining m = cc

slot-behind-none : (answer : Tx) (n : ℕ) → through_of answer ≡ through.Yes → slot_after answer n ≡ None
slot-behind-none Sent n e = refl
slot-behind-none SentStop n e = refl
slot-behind-none SentHang n e = refl
slot-behind-none Busy n e = cc

still-within : (answer : Tx) (busies limit : ℕ) → busies ≤ limit → (is_busy answer ≡ true → busies < limit) → busies + (if is_busy answer then 1 else 0) ≤ limit
still-within Sent busies limit within below = omega arith
still-within SentStop busies limit within below = omega arith
still-within SentHang busies limit within below = omega arith
still-within Busy busies limit within below = (let low = below refl in omega arith)

-- either the device accepted the packet, or it was busy
either : (answer : Tx) → ((through_of answer ≡ through.Yes) × (is_busy answer ≡ false)) ⊎ ((through_of answer ≡ through.Back why.Busy) × (is_busy answer ≡ true))
either Sent = inl (refl, refl)
either SentStop = inl (refl, refl)
either SentHang = inl (refl, refl)
either Busy = inr (refl, refl)

-- the bits, the mark and SCHED were clear, and the seat has the lock
module _ (infos : List Info) (start : Account) (n : ℕ) (v : Solo) (low : v.raised ≡ false) (active : (account_in start v).down ≡ None) (clean : bits_are_clear v ≡ true) (h : IsAlone infos start v) where
  bits : (v.whole.missed ≡ false) × (v.whole.draining ≡ false)
  bits = both-clear v.whole.missed v.whole.draining clean

  none-held : held (account_in start v) ≡ []
  none-held = h.rests.empty clean

  slot-empty : (account_in start v).slot ≡ None
  slot-empty = slot_none (account_in start v).slot _ none-held

  -- the packet and the seat where the station is just as if the packet had gone direct
  abbrev Goes : Solo → Type 0
  Goes w = IsAlone infos start w × (running start w ≡ gone_direct infos n (running start v))

  -- the queue isn't open
  past-closed : (new : Solo) → LaysAlone start (queue_in infos n) (heard (Direct n) (locked_to true v)) new → Goes (ended new)
  past-closed new l = subst (λ (w : Solo). Goes (ended w)) (sym l.1) (
    record {
      sender = record {
        sole = h.sender.sole;
        tells = h.sender.tells;
        station = record { queues = h.sender.station.queues; known = h.sender.station.known; hand = refl; busies = h.sender.station.busies };
      };
      rests = ended_rests infos start (missed_to true (heard Back (stopping (heard (Direct n) (locked_to true v))))) h.rests.scheduled active
          (λ e. absurd (true≢false (sym e))) (λ e. absurd (true≢false e)) (λ _ e. absurd (true≢false (sym e)));
    },
    sym (direct_closed infos n (running start v) l.0),
  )

  -- or it is
  module _ (answered_ : Through) (new : Solo) (s : SendsAlone start (queue_in infos n) answered_ (heard (Direct n) (locked_to true v)) new) where
    left : IsBehind s.answer (heard (Direct n) (locked_to true v)) new
    left = is_behind s.answer (queue_in infos n) (length (account_in start v).stops) (heard (Direct n) (locked_to true v)) new s.view_is

    account-is : account_in start new ≡ answered s.answer (queue_in infos n) (after (Direct n) (account_in start v))
    account-is = ap (λ (r : RunningStation). r.account) (sent_running start (queue_in infos n) answered_ (heard (Direct n) (locked_to true v)) new h.sender.tells s false)
        ∙ ap {A = Tx} {B = Account} (λ answer. answered answer (queue_in infos n) (after (Direct n) (account_in start v))) (sym s.is)

    now : IsOffered s.answer n (after (Direct n) (account_in start v)) (answered s.answer (queue_in infos n) (after (Direct n) (account_in start v)))
    now = is_offered s.answer (queue_in infos n) n (after (Direct n) (account_in start v)) refl slot-empty h.sender.station.known (eqb-true _ 0 s.opens)

    held-now : through_of s.answer ≡ through.Yes → held (account_in start new) ≡ []
    held-now yes_ =
        ap held account-is
        ∙ ap₂ (λ slot (bands : ℕ → Band). option_to_list slot ++ (held_of (bands 0) ++ (held_of (bands 1) ++ held_of (bands 2))))
        (now.slot ∙ slot-behind-none s.answer n yes_ ∙ sym slot-empty) now.bands
        ∙ none-held

    clean-is : bits_are_clear new ≡ not (is_busy s.answer)
    clean-is = by_either (either s.answer)
      where
        by_either : ((through_of s.answer ≡ through.Yes) × (is_busy s.answer ≡ false)) ⊎ ((through_of s.answer ≡ through.Back why.Busy) × (is_busy s.answer ≡ true))
            → bits_are_clear new ≡ not (is_busy s.answer)
        by_either (inl yes_) = clean-if new.whole.missed new.whole.draining (left.missed yes_.0 ∙ bits.0) (left.draining ∙ bits.1) ∙ sym (ap not yes_.1)
        by_either (inr back) = not-clean new.whole.missed new.whole.draining (left.busy back.0) ∙ sym (ap not back.1)

    not-busy : bits_are_clear new ≡ true → through_of s.answer ≡ through.Yes
    not-busy e = by_either (either s.answer)
      where
        by_either : ((through_of s.answer ≡ through.Yes) × (is_busy s.answer ≡ false)) ⊎ ((through_of s.answer ≡ through.Back why.Busy) × (is_busy s.answer ≡ true))
            → through_of s.answer ≡ through.Yes
        by_either (inl yes_) = yes_.0
        by_either (inr back) = absurd (true≢false (sym e ∙ clean-is ∙ ap not back.1))

    between-new : IsBetweenOffers (running start new)
    between-new = subst IsBetweenOffers (sym (sent_running start (queue_in infos n) answered_ (heard (Direct n) (locked_to true v)) new h.sender.tells s (bits_are_clear new))) (record {
      queues = subst (λ (a : Account). 0 < length a.stops) again (subst (λ (m : ℕ). 0 < m) (sym now.count) h.sender.station.queues);
      known = subst (λ (a : Account). AreStopValues a.stops) again now.known;
      hand = ap (λ (a : Account). a.hand) (sym again) ∙ now.hand;
      busies = still-within (next_answer (running start v)) (running start v).device.busies (running start v).device.params.busy_limit h.sender.station.busies (busy_answer (running start v).device _);
    })
      where
        again : answered s.answer (queue_in infos n) (after (Direct n) (account_in start v)) ≡ answered (next_answer (running start v)) (queue_in infos n) (after (Direct n) (account_in start v))
        again = ap {A = Tx} {B = Account} (λ answer. answered answer (queue_in infos n) (after (Direct n) (account_in start v))) s.is

    -- after an answer Yes the bits are still clear
    pub still_clean : answered_ ≡ through.Yes → bits_are_clear new ≡ true
    still_clean yes_ = clean-if new.whole.missed new.whole.draining (left.missed (sym s.through ∙ yes_) ∙ bits.0) (left.draining ∙ bits.1)

    pub sent_sole : HasAll new
    sent_sole = (left.shares ∙ h.sender.sole.0, left.told ∙ h.sender.sole.1)

    past-open : Goes (ended new)
    past-open = (
      record {
        sender = record {
          sole = sent_sole;
          tells = sent_tells start (queue_in infos n) answered_ (heard (Direct n) (locked_to true v)) new h.sender.tells s;
          station = record { queues = between-new.queues; known = between-new.known; hand = between-new.hand; busies = between-new.busies };
        };
        rests = ended_rests infos start new (left.scheduled ∙ h.rests.scheduled ∙ sym left.raised) (ap (λ (a : Account). a.down) account-is ∙ now.down ∙ active)
            (λ e. held-now (not-busy e))
            (λ missed e. absurd (true≢false (sym (clean-if new.whole.missed new.whole.draining missed (left.draining ∙ bits.1)) ∙ e)))
            (λ up e. absurd (true≢false (sym (missed-up new.raised new.whole.missed (not new.whole.scheduled) (left.raised ∙ low) up) ∙ (both-clear new.whole.missed new.whole.draining e).0)));
      },
      sent_running start (queue_in infos n) answered_ (heard (Direct n) (locked_to true v)) new h.sender.tells s (bits_are_clear new)
          ∙ ap (λ (b : Bool). record (offered (queue_in infos n) (record (running start v) { account = after (Direct n) (account_in start v) })) { clean = b })
          (clean-is ∙ ap {A = Tx} {B = Bool} (λ answer. not (is_busy answer)) s.is)
          ∙ sym (direct_open infos n (running start v) s.opens),
    )
      where
        missed-up : (raised missed b : Bool) → raised ≡ false → (raised || (missed && b)) ≡ true → missed ≡ true
        missed-up false true b r up = refl
        missed-up false false b r up = cc
        missed-up true missed b r up = cc

  -- after a direct transmit, and the end of the run
  pub past_left : (t : Through) (new : Solo) → DirectsAlone start (queue_in infos n) t (heard (Direct n) (locked_to true v)) new → Goes (ended new) × HasAll new × (t ≡ through.Yes → bits_are_clear new ≡ true)
  past_left through.Yes new d = (past-open through.Yes new d, sent_sole through.Yes new d, still_clean through.Yes new d)
  past_left (through.Back why.Busy) new d = (past-open (through.Back why.Busy) new d, sent_sole (through.Back why.Busy) new d, λ e. cc)
  past_left (through.Back why.Stopped) new d = (past-closed new d, subst HasAll (sym d.1) h.sender.sole, λ e. cc)
