-- A packet is brought to a station as code has it.
use Rattle.std.proofs.Common.{◌≡◌, ◌⊎◌, inl, inr, ℕ, zero, suc, ◌+◌, ◌<◌, ◌==◌, ◌&&◌, ◌||◌, Bool, true, false, cond, List, [], ◌∷◌, ◌++◌, length, Option, Some, None, nat_lt, refl, sym, ap, ap₂, subst, ◌∙◌, append-nil, eq-eqb}
use Rattle.std.specs.Prelude.{if◌then◌else◌, is_some, option_to_list, not}
use Rattle.lq_model.specs.Account.{Account, Back, Direct, Join, Full, after, is_open, is_shared, with_at}
use Rattle.lq_model.specs.Alone.{RunningStation, answered, brought_in, gone_direct, gone_through, is_occupied, joined_or_full, next_answer, offered, seen_in, served, taken_in}
use Rattle.lq_model.specs.Band.{Band, joined}
use Rattle.lq_model.specs.Device.{is_busy, told_after}
use Rattle.lq_model.specs.Plan.{band_in, queue_in}
use Rattle.lq_model.specs.declared.device.Tx.{Tx}
use Rattle.lq_model.specs.declared.fate.Fate.TheVariants as fate
use Rattle.lq_model.specs.declared.fate.Info.{Info}
use Rattle.lq_model.specs.Wire.{sent_now}
use Rattle.lq_lone.specs.Lone.{HaveOneQueue, IsLone, Rest, LoneState, StepsLone, HasNothingToServe, is_stopped, is_down, is_empty, station_with}
use Rattle.lq_lone.proofs.Serving.{sent-on, stops-at}
use Rattle.lq_lone.proofs.Serves.{is-none, not-served, stays}

-- PAST THE BANDS

direct-open : (infos : List Info) (x : Rest) (len n : ℕ) (slot : Option ℕ) → HaveOneQueue infos → x.down ≡ None
    → brought_in infos true n (station_with x len slot false true) ≡ station_with (sent-on x n) len slot true true
direct-open infos x len n slot queues active =
    let s = station_with x len slot false true in let t : RunningStation = record s { account = after (Direct n) s.account } in
    ap (λ (o : Option ℕ). taken_in infos true n o s) active
    ∙ (ap (λ (q : ℕ). cond (is_open s.account q) (record (offered q t) { clean = not (is_busy (next_answer s)) }) (record s { account = after Back t.account; clean = false })) (queues n)
    ∙ ap (λ (answer : Tx). record { account = answered answer 0 t.account; clean = not (is_busy answer); device = told_after answer t.device }) (stops-at x len slot false true))

direct-shut : (infos : List Info) (x : Rest) (len n : ℕ) (slot : Option ℕ) → HaveOneQueue infos → x.down ≡ None
    → brought_in infos true n (station_with x len slot true true) ≡ station_with x len (Some n) true false
direct-shut infos x len n slot queues active =
    let s = station_with x len slot true true in let t : RunningStation = record s { account = after (Direct n) s.account } in
    ap (λ (o : Option ℕ). taken_in infos true n o s) active
    ∙ ap (λ (q : ℕ). cond (is_open s.account q) (record (offered q t) { clean = not (is_busy (next_answer s)) }) (record s { account = after Back t.account; clean = false })) (queues n)

-- a packet more was sent
sent-more : (x : Rest) (n len : ℕ) (slot : Option ℕ) (clean : Bool) (s t : RunningStation) → t ≡ station_with (sent-on x n) len slot true clean → sent_now s ≡ x.sent x.unit → sent_now t ≡ sent_now s ++ n ∷ []
sent-more x n len slot clean s t is was =
    ap sent_now is ∙ (ap (λ (b : Bool). cond b (x.sent x.unit ++ n ∷ []) (x.sent x.unit)) (eq-eqb x.unit x.unit refl) ∙ ap (λ (l : List ℕ). l ++ n ∷ []) (sym was))

module _ (infos : List Info) (s : RunningStation) (m : LoneState) (n : ℕ) (queues : HaveOneQueue infos) (lone : IsLone m s) (active : m.down ≡ false) where
  abbrev x : Rest
  x = lone.rest

  off : x.down ≡ None
  off = is-none x.down (lone.down ∙ active)

  at : (stopped : Bool) → m.stopped ≡ stopped → m.clean ≡ true → s ≡ station_with x m.len m.slot stopped true
  at stopped is clean = lone.is ∙ ap₂ (station_with x m.len m.slot) is clean

  pub passes-open : m.stopped ≡ false → m.clean ≡ true → StepsLone (Some n) (record m { stopped = true }) s (served infos (brought_in infos true n s))
  passes-open running clean =
      let brought = ap (brought_in infos true n) (at false running clean) ∙ direct-open infos x m.len n m.slot queues off in
      let is = brought ∙ ap (station_with (sent-on x n) m.len m.slot true) (sym clean) in
      let now : IsLone (record m { stopped = true }) (brought_in infos true n s) = record { rest = sent-on x n; is = is; low = lone.low; mid = lone.mid; high = lone.high; down = lone.down } in
      let rest = not-served infos (brought_in infos true n s) (record m { stopped = true }) now (inr refl) in
      record { is = rest.is; sent = rest.sent ∙ (append-nil _ ∙ sent-more x n m.len m.slot m.clean s (brought_in infos true n s) is (ap sent_now lone.is)) }

  pub passes-shut : m.stopped ≡ true → m.clean ≡ true → StepsLone None (record m { slot = Some n; clean = false }) s (served infos (brought_in infos true n s))
  passes-shut stopped clean =
      let is = ap (brought_in infos true n) (at true stopped clean) ∙ direct-shut infos x m.len n m.slot queues off in
      let same = ap (λ (b : Bool). station_with x m.len (Some n) b false) (sym stopped) in
      let now : IsLone (record m { slot = Some n; clean = false }) (brought_in infos true n s) = record { rest = x; is = is ∙ same; low = lone.low; mid = lone.mid; high = lone.high; down = lone.down } in
      let rest = not-served infos (brought_in infos true n s) (record m { slot = Some n; clean = false }) now (inr stopped) in
      record { is = rest.is; sent = rest.sent ∙ ap (λ (l : List ℕ). l ++ []) (ap sent_now is ∙ sym (ap sent_now lone.is)) }

-- REFUSED

pub refuses : (infos : List Info) (s : RunningStation) (m : LoneState) (n : ℕ) (bypass : Bool) → IsLone m s → m.down ≡ true → StepsLone None m s (served infos (brought_in infos bypass n s))
refuses infos s m n bypass lone down = go lone.rest.down refl
  where
    x : Rest
    x = lone.rest

    go : (o : Option ℕ) → x.down ≡ o → StepsLone None m s (served infos (brought_in infos bypass n s))
    go None none = absurd (let wrong : false ≡ true = ap is_some (sym none) ∙ (lone.down ∙ down) in cc)
    go (Some e) by =
        let t = station_with x m.len m.slot m.stopped m.clean in
        let is = ap (brought_in infos bypass n) lone.is ∙ ap (λ (o : Option ℕ). taken_in infos bypass n o t) by in
        let now : IsLone m (brought_in infos bypass n s) = record {
          rest = record x { fates = with_at n (Some (fate.Refused e)) x.fates };
          is = is;
          low = lone.low;
          mid = lone.mid;
          high = lone.high;
          down = lone.down;
        } in
        let rest = not-served infos (brought_in infos bypass n s) m now (inl down) in
        record { is = rest.is; sent = rest.sent ∙ ap (λ (l : List ℕ). l ++ []) (ap sent_now is ∙ sym (ap sent_now lone.is)) }

-- THROUGH THE BANDS

open-is : (stopped : Bool) → ((if stopped then 1 else 0) == 0) ≡ not stopped
open-is true = refl
open-is false = refl

-- behind serving, the next packet may go past the bands where it might and the queue is open
through : (infos : List Info) (s : RunningStation) (m : LoneState) → IsLone m s
    → IsLone (record m { clean = m.clean && not m.stopped }) (record s { clean = s.clean && (is_shared s.account || is_open s.account 0) })
through infos s m lone = record {
  rest = lone.rest;
  is = ap (λ (t : RunningStation). record t { clean = t.clean && (is_shared t.account || is_open t.account 0) }) lone.is
      ∙ ap (λ (b : Bool). station_with lone.rest m.len m.slot m.stopped (m.clean && b)) (open-is m.stopped);
  low = lone.low;
  mid = lone.mid;
  high = lone.high;
  down = lone.down;
}

pub settled-still : (m : LoneState) → HasNothingToServe m → HasNothingToServe (record m { clean = m.clean && not m.stopped })
settled-still m (is_stopped stopped) = is_stopped stopped
settled-still m (is_down down) = is_down down
settled-still m (is_empty clean slot low mid high) = go m.stopped refl
  where
    go : (b : Bool) → m.stopped ≡ b → HasNothingToServe (record m { clean = m.clean && not m.stopped })
    go true stopped = is_stopped stopped
    go false running = is_empty (ap₂ (λ (b c : Bool). b && not c) clean running) slot low mid high

pub goes-through : (infos : List Info) (s : RunningStation) (m1 m2 : LoneState) (o : Option ℕ) (n : ℕ) (bypass : Bool) → HaveOneQueue infos → s.account.down ≡ None → (bypass && s.clean) ≡ false
    → StepsLone o m2 (record s { account = joined_or_full n (band_in infos n) s.account }) (served infos (record s { account = joined_or_full n (band_in infos n) s.account })) → HasNothingToServe m2
    → sent_now (record s { account = joined_or_full n (band_in infos n) s.account }) ≡ sent_now s
    → StepsLone o (record m2 { clean = m2.clean && not m2.stopped }) s (served infos (brought_in infos bypass n s))
goes-through infos s m1 m2 o n bypass queues active dirty steps settled same =
    let t = served infos (record s { account = joined_or_full n (band_in infos n) s.account }) in
    let is : brought_in infos bypass n s ≡ record t { clean = t.clean && (is_shared t.account || is_open t.account 0) } =
    ap (λ (o : Option ℕ). taken_in infos bypass n o s) active ∙ ap (λ (b : Bool). cond b (gone_direct infos n s) (gone_through infos n s)) dirty in
    let now = subst (IsLone (record m2 { clean = m2.clean && not m2.stopped })) (sym is) (through infos t m2 steps.is) in
    let rest = stays infos (brought_in infos bypass n s) (record m2 { clean = m2.clean && not m2.stopped }) queues now (settled-still m2 settled) in
    record { is = rest.is; sent = rest.sent ∙ (append-nil _ ∙ (ap sent_now is ∙ (steps.sent ∙ ap (λ (l : List ℕ). l ++ option_to_list o) same))) }

-- JOINED, OR DROPPED AS FULL

-- what is behind
abbrev rest-joined : Rest → Bool → ℕ → ℕ → ℕ → Rest
rest-joined x occupied len n band =
    cond occupied (record x { fates = with_at n (Some (fate.Full (seen_in len (x.bands band)))) x.fates }) (record x { bands = with_at band (joined (x.bands band) n) x.bands })

joined-is : (x : Rest) (occupied : Bool) (len n band : ℕ) (slot : Option ℕ) (stopped clean : Bool) → is_occupied len (x.bands band) ≡ occupied
    → record (station_with x len slot stopped clean) { account = joined_or_full n band (station_with x len slot stopped clean).account } ≡ station_with (rest-joined x occupied len n band) len slot stopped clean
joined-is x true len n band slot stopped clean is =
    let a = (station_with x len slot stopped clean).account in
    ap (λ (b : Bool). record (station_with x len slot stopped clean) { account = cond b (after (Full n (seen_in len (x.bands band))) a) (after (Join n band) a) }) is
joined-is x false len n band slot stopped clean is =
    let a = (station_with x len slot stopped clean).account in
    ap (λ (b : Bool). record (station_with x len slot stopped clean) { account = cond b (after (Full n (seen_in len (x.bands band))) a) (after (Join n band) a) }) is

module _ (s : RunningStation) (m : LoneState) (n : ℕ) (lone : IsLone m s) where
  joining : (band : ℕ) (occupied : Bool) → is_occupied m.len (lone.rest.bands band) ≡ occupied
      → record s { account = joined_or_full n band s.account } ≡ station_with (rest-joined lone.rest occupied m.len n band) m.len m.slot m.stopped m.clean
  joining band occupied is =
      ap (λ (t : RunningStation). record t { account = joined_or_full n band t.account }) lone.is ∙ joined-is lone.rest occupied m.len n band m.slot m.stopped m.clean is

  pub joins-low : (b : Band) → b ≡ cond (is_occupied m.len m.low) m.low (joined m.low n) → IsLone (record m { low = b }) (record s { account = joined_or_full n 0 s.account })
  joins-low b new = go (is_occupied m.len m.low) refl
    where
      go : (occupied : Bool) → is_occupied m.len m.low ≡ occupied → IsLone (record m { low = b }) (record s { account = joined_or_full n 0 s.account })
      go true is = record { rest = rest-joined lone.rest true m.len n 0; is = joining 0 true (ap (is_occupied m.len) lone.low ∙ is); low = lone.low ∙ sym (new ∙ ap (λ (c : Bool). cond c m.low (joined m.low n)) is); mid = lone.mid; high = lone.high; down = lone.down }
      go false is = record {
        rest = rest-joined lone.rest false m.len n 0;
        is = joining 0 false (ap (is_occupied m.len) lone.low ∙ is);
        low = ap (λ (c : Band). joined c n) lone.low ∙ sym (new ∙ ap (λ (c : Bool). cond c m.low (joined m.low n)) is);
        mid = lone.mid;
        high = lone.high;
        down = lone.down;
      }

  pub joins-mid : (b : Band) → b ≡ cond (is_occupied m.len m.mid) m.mid (joined m.mid n) → IsLone (record m { mid = b }) (record s { account = joined_or_full n 1 s.account })
  joins-mid b new = go (is_occupied m.len m.mid) refl
    where
      go : (occupied : Bool) → is_occupied m.len m.mid ≡ occupied → IsLone (record m { mid = b }) (record s { account = joined_or_full n 1 s.account })
      go true is = record { rest = rest-joined lone.rest true m.len n 1; is = joining 1 true (ap (is_occupied m.len) lone.mid ∙ is); low = lone.low; mid = lone.mid ∙ sym (new ∙ ap (λ (c : Bool). cond c m.mid (joined m.mid n)) is); high = lone.high; down = lone.down }
      go false is = record {
        rest = rest-joined lone.rest false m.len n 1;
        is = joining 1 false (ap (is_occupied m.len) lone.mid ∙ is);
        low = lone.low;
        mid = ap (λ (c : Band). joined c n) lone.mid ∙ sym (new ∙ ap (λ (c : Bool). cond c m.mid (joined m.mid n)) is);
        high = lone.high;
        down = lone.down;
      }

  pub joins-high : (b : Band) → b ≡ cond (is_occupied m.len m.high) m.high (joined m.high n) → IsLone (record m { high = b }) (record s { account = joined_or_full n 2 s.account })
  joins-high b new = go (is_occupied m.len m.high) refl
    where
      go : (occupied : Bool) → is_occupied m.len m.high ≡ occupied → IsLone (record m { high = b }) (record s { account = joined_or_full n 2 s.account })
      go true is = record { rest = rest-joined lone.rest true m.len n 2; is = joining 2 true (ap (is_occupied m.len) lone.high ∙ is); low = lone.low; mid = lone.mid; high = lone.high ∙ sym (new ∙ ap (λ (c : Bool). cond c m.high (joined m.high n)) is); down = lone.down }
      go false is = record {
        rest = rest-joined lone.rest false m.len n 2;
        is = joining 2 false (ap (is_occupied m.len) lone.high ∙ is);
        low = lone.low;
        mid = lone.mid;
        high = ap (λ (c : Band). joined c n) lone.high ∙ sym (new ∙ ap (λ (c : Bool). cond c m.high (joined m.high n)) is);
        down = lone.down;
      }

-- nothing is sent meanwhile
pub joined-sends : (s : RunningStation) (n band : ℕ) → sent_now (record s { account = joined_or_full n band s.account }) ≡ sent_now s
joined-sends s n band = go (is_occupied s.account.len (s.account.bands band)) refl
  where
    go : (b : Bool) → is_occupied s.account.len (s.account.bands band) ≡ b → sent_now (record s { account = joined_or_full n band s.account }) ≡ sent_now s
    go b is = ap (λ (c : Bool). sent_now (record s { account = cond c (after (Full n (seen_in s.account.len (s.account.bands band))) s.account) (after (Join n band) s.account) })) is ∙ by b
      where
        by : (c : Bool) → sent_now (record s { account = cond c (after (Full n (seen_in s.account.len (s.account.bands band))) s.account) (after (Join n band) s.account) }) ≡ sent_now s
        by true = refl
        by false = refl
