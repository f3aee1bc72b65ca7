-- A packet is brought to a station with one queue.
use Rattle.std.proofs.Common.{◌≡◌, ◌≢◌, ℕ, ◌==◌, Bool, true, false, not, ◌&&◌, ◌||◌, List, [], ◌∷◌, None, if◌then◌else◌, refl, ap, ◌∙◌}
use Rattle.std.proofs.lemmas.Bool.{cond-true, cond-false, eq-eqb, ne_eqb, and_right}
use Rattle.lq_model.specs.Band.{IsOccupied, MayBeFull}
use Rattle.lq_model.specs.Account.{Account, Join, Full, Direct, Back, is_open, is_shared, after}
use Rattle.lq_model.specs.Alone.{RunningStation, brought_in, gone_direct, gone_through, next_answer, offered, joined_or_full, served, taken_in}
use Rattle.lq_model.specs.Device.{is_busy}
use Rattle.lq_model.specs.Plan.{band_in, queue_in}
use Rattle.lq_model.specs.declared.fate.Info.{Info}
use Rattle.lq_account_laws.proofs.OneQueue.{one_open, seen_is}

-- JOIN OR FULL

pub queued_full : (n band seen : ℕ) (a : Account) → IsOccupied a.len (a.bands band) → MayBeFull a.len (a.bands band) seen → joined_or_full n band a ≡ after (Full n seen) a
queued_full n band seen a occupied full = cond-true _ _ _ (eq-eqb _ _ occupied) ∙ ap (λ shown. after (Full n shown) a) (seen_is (a.bands band) full)

pub queued_join : (n band : ℕ) (a : Account) → (IsOccupied a.len (a.bands band) → ⊥) → joined_or_full n band a ≡ after (Join n band) a
queued_join n band a room = cond-false _ _ _ (ne_eqb _ _ room)

-- PAST THE BANDS OR THROUGH THEM

pub brought_direct : (infos : List Info) (bypass : Bool) (n : ℕ) (s : RunningStation) → s.account.down ≡ None → (bypass && s.clean) ≡ true → brought_in infos bypass n s ≡ gone_direct infos n s
brought_direct infos bypass n s active past = ap (λ down. taken_in infos bypass n down s) active ∙ cond-true _ _ _ past

pub brought_through : (infos : List Info) (bypass : Bool) (n : ℕ) (s : RunningStation) → s.account.down ≡ None → (bypass && s.clean) ≡ false → brought_in infos bypass n s ≡ gone_through infos n s
brought_through infos bypass n s active through = ap (λ down. taken_in infos bypass n down s) active ∙ cond-false _ _ _ through

direct-on : (infos : List Info) (n : ℕ) (s : RunningStation) → queue_in infos n ≡ 0
    → gone_direct infos n s
    ≡ (if is_open s.account 0 then record (offered 0 (record s { account = after (Direct n) s.account })) { clean = not (is_busy (next_answer s)) }
    else record s { account = after Back (after (Direct n) s.account); clean = false })
direct-on infos n s queue = ap {A = ℕ} {B = RunningStation} (λ queue. if is_open s.account queue
    then record (offered queue (record s { account = after (Direct n) s.account })) { clean = not (is_busy (next_answer s)) }
    else record s { account = after Back (after (Direct n) s.account); clean = false }) queue

-- the packet is offered to the device
pub direct_open : (infos : List Info) (n : ℕ) (s : RunningStation) → queue_in infos n ≡ 0 → s.account.stops ≡ 0 ∷ []
    → gone_direct infos n s ≡ record (offered 0 (record s { account = after (Direct n) s.account })) { clean = not (is_busy (next_answer s)) }
direct_open infos n s queue stops = direct-on infos n s queue ∙ cond-true _ _ _ (one_open s.account 0 stops)

-- or it is laid into the requeue slot
pub direct_closed : (infos : List Info) (n : ℕ) (s : RunningStation) (stop : ℕ) → queue_in infos n ≡ 0 → s.account.stops ≡ stop ∷ [] → stop ≢ 0
    → gone_direct infos n s ≡ record s { account = after Back (after (Direct n) s.account); clean = false }
direct_closed infos n s stop queue stops closed = direct-on infos n s queue ∙ cond-false _ _ _ (one_open s.account stop stops ∙ ne_eqb stop 0 closed)

-- the packet joined its band or was dropped, and the station was served
abbrev pub served_after : List Info → ℕ → RunningStation → RunningStation
served_after infos n s = served infos (record s { account = joined_or_full n (band_in infos n) s.account })

through-on : (infos : List Info) (n : ℕ) (s : RunningStation) (stop : ℕ) → (served_after infos n s).account.stops ≡ stop ∷ []
    → gone_through infos n s ≡ record (served_after infos n s) { clean = (served_after infos n s).clean && (stop == 0) }
through-on infos n s stop stops = by-parts (served_after infos n s) stop stops
  where
    by-parts : (t : RunningStation) (stop : ℕ) → t.account.stops ≡ stop ∷ []
        → record t { clean = t.clean && (is_shared t.account || is_open t.account 0) } ≡ record t { clean = t.clean && (stop == 0) }
    by-parts t stop stops = ap (λ stops. record t { clean = t.clean && (is_shared (record t.account { stops = stops }) || is_open (record t.account { stops = stops }) 0) }) stops

pub through_open : (infos : List Info) (n : ℕ) (s : RunningStation) → (served_after infos n s).account.stops ≡ 0 ∷ [] → gone_through infos n s ≡ served_after infos n s
through_open infos n s stops = through-on infos n s 0 stops ∙ same (served_after infos n s)
  where
    and-true : (b : Bool) → (b && true) ≡ b
    and-true true = refl
    and-true false = refl

    same : (t : RunningStation) → record t { clean = t.clean && true } ≡ t
    same t = ap (λ clean. record t { clean = clean }) (and-true t.clean)

pub through_closed : (infos : List Info) (n : ℕ) (s : RunningStation) (stop : ℕ) → (served_after infos n s).account.stops ≡ stop ∷ [] → stop ≢ 0
    → gone_through infos n s ≡ record (served_after infos n s) { clean = false }
through_closed infos n s stop stops closed = through-on infos n s stop stops ∙ shut (served_after infos n s)
  where
    shut : (t : RunningStation) → record t { clean = t.clean && (stop == 0) } ≡ record t { clean = false }
    shut t = ap (λ clean. record t { clean = clean }) (and_right t.clean (stop == 0) (ne_eqb stop 0 closed))
