-- The first sender's packets meet the plan's events.
use Rattle.std.proofs.Common.{◌≡◌, ℕ, ◌<◌, List, [], ◌∷◌, inl, inr, length, Contains, Option, Some, None, refl, sym, ap, ◌∙◌, subst, slice_get, ◌↔◌, arith}
use Rattle.std.proofs.lemmas.Option.{same_Some, slice_get_within}
use Rattle.lq_model.specs.Account.{Account, Event, Join, Full, Refuse, Direct, Resize, Purge, after, after_all}
use Rattle.lq_model.specs.Legal.{IsLegal, brought, brought_by}
use Rattle.lq_model.specs.Plan.{Plan, owner_in, station_in}
use Rattle.lq_model.specs.Settled.{IsBehind, MeetsEvents, down_at}
use Rattle.lq_model.specs.declared.fate.Cause.TheVariants as cause
use Rattle.lq_model.specs.declared.fate.Fate.{Fate}
use Rattle.lq_model.specs.declared.fate.Fate.TheVariants as fate
use Rattle.lq_model.specs.declared.fate.Info.{Info}
use Rattle.lq_account_laws.specs.Accounts.{IsClosed}
use Rattle.lq_account_laws.specs.Progress.{start_of}
use Rattle.lq_account_laws.proofs.AsPlanned.{legal-of}
use Rattle.lq_account_laws.proofs.Brought.{brought-cases, held-brought}
use Rattle.lq_account_laws.proofs.Changes.{Gives, fate-cases}
use Rattle.lq_account_laws.proofs.Changes.Gives.{gives_refused, gives_shrunk, gives_purged}
use Rattle.lq_account_laws.proofs.Law.{IsSound, sound}
use Rattle.lq_account_laws.proofs.Lists.{drop-in, none-in, at-cases}
use Rattle.lq_account_laws.proofs.Waiting.{fate-stays, waits-held, waits-brought}
use Rattle.lq_account_laws.specs.Trail.{trail_of, IsTrail, MeetsDown}
use Rattle.lq_account_laws.proofs.Trails.{trail-tail, trail-head, brings-own, brought-in-trail}
use Rattle.lq_account_laws.proofs.Legal.{legal-before}

module _ (plan : Plan) (infos : List Info) (station : ℕ) (inside : station < length plan.stations) where
  abbrev account : List Event → Account
  account past = after_all (start_of plan station) past

  abbrev Trails : List Event → Type 0
  Trails past = IsTrail plan station (trail_of infos past)

  -- what drops a packet of the first sender stands behind it
  shrunk-now : (past : List Event) (e : Event) (n event : ℕ) → IsSound plan infos station past (account past) → Trails (e ∷ past) → owner_in infos n ≡ 0
      → Gives (account past) e n (fate.Shrunk event) → IsBehind plan n event
  shrunk-now past e n event known trail owner (gives_shrunk len k m b below dropped) =
      (trail-head plan infos station (Resize len event) past refl trail).ahead n
      (brought-in-trail infos n owner past (held-brought known.known b n (drop-in len _ n dropped)))

  purged-now : (past : List Event) (e : Event) (n event : ℕ) → IsSound plan infos station past (account past) → Trails (e ∷ past) → owner_in infos n ≡ 0
      → Gives (account past) e n (fate.Purged (cause.Event event)) → IsBehind plan n event
  purged-now past e n event known trail owner (gives_purged c m held) =
      (trail-head plan infos station (Purge (cause.Event event)) past refl trail).ahead n
      (brought-in-trail infos n owner past (waits-brought known.known n (waits-held (account past) n held)))

  refused-now : (past : List Event) (e : Event) (n event : ℕ) → Trails (e ∷ past) → owner_in infos n ≡ 0
      → Gives (account past) e n (fate.Refused event) → down_at plan station n ≡ Some event
  refused-now past e n event trail owner (gives_refused m k) =
      (trail-head plan infos station (Refuse n event) past (brings-own infos (Refuse n event) n refl owner) trail).meets_down

  pub shrunk-behind : (past : List Event) → IsLegal plan infos station (start_of plan station) past → Trails past → (n event : ℕ) → owner_in infos n ≡ 0
      → (account past).fates n ≡ Some (fate.Shrunk event) → IsBehind plan n event
  shrunk-behind [] legal trail n event owner is = absurd cc
  shrunk-behind (e ∷ past) legal trail n event owner is = elim (fate-cases e (account past) n (fate.Shrunk event) is) [
    | inl old ↦ shrunk-behind past (legal-before legal) (trail-tail plan infos station e past trail) n event owner old
    | inr new ↦ shrunk-now past e n event (sound plan infos station past inside (legal-before legal)) trail owner new
  ]

  pub purged-behind : (past : List Event) → IsLegal plan infos station (start_of plan station) past → Trails past → (n event : ℕ) → owner_in infos n ≡ 0
      → (account past).fates n ≡ Some (fate.Purged (cause.Event event)) → IsBehind plan n event
  purged-behind [] legal trail n event owner is = absurd cc
  purged-behind (e ∷ past) legal trail n event owner is = elim (fate-cases e (account past) n (fate.Purged (cause.Event event)) is) [
    | inl old ↦ purged-behind past (legal-before legal) (trail-tail plan infos station e past trail) n event owner old
    | inr new ↦ purged-now past e n event (sound plan infos station past inside (legal-before legal)) trail owner new
  ]

  -- a packet of the first sender is refused exactly where the plan has its station deactivated
  pub refused-down : (past : List Event) → Trails past → (n event : ℕ) → owner_in infos n ≡ 0
      → (account past).fates n ≡ Some (fate.Refused event) → down_at plan station n ≡ Some event
  refused-down [] trail n event owner is = absurd cc
  refused-down (e ∷ past) trail n event owner is = elim (fate-cases e (account past) n (fate.Refused event) is) [
    | inl old ↦ refused-down past (trail-tail plan infos station e past trail) n event owner old
    | inr new ↦ refused-now past e n event trail owner new
  ]

  refused-by : (past : List Event) (e : Event) (n event : ℕ) → MeetsDown plan station e → brought e ≡ Some n → down_at plan station n ≡ Some event
      → (after e (account past)).fates n ≡ Some (fate.Refused event)
  refused-by past (Join m band) n event meets is down = absurd (let at : down_at plan station m ≡ None = meets in let same = same_Some m n is in let at' = ap (down_at plan station) same in cc)
  refused-by past (Full m seen) n event meets is down = absurd (let at : down_at plan station m ≡ None = meets in let same = same_Some m n is in let at' = ap (down_at plan station) same in cc)
  refused-by past (Direct m) n event meets is down = absurd (let at : down_at plan station m ≡ None = meets in let same = same_Some m n is in let at' = ap (down_at plan station) same in cc)
  refused-by past (Refuse m k) n event meets is down =
      let at : down_at plan station m ≡ Some k = meets in let same = same_Some m n is in let at' = ap (down_at plan station) same in
      let events : k ≡ event = same_Some k event cc in
      subst (λ i. (after (Refuse m k) (account past)).fates i ≡ Some (fate.Refused event)) same
      (refuse-gives m k ∙ ap (λ z. Some (fate.Refused z)) events)
    where
      refuse-gives : (m k : ℕ) → (after (Refuse m k) (account past)).fates m ≡ Some (fate.Refused k)
      refuse-gives m k = at-cases (λ (o : Option Fate). o ≡ Some (fate.Refused k)) m m (Some (fate.Refused k)) (account past).fates (λ same. refl) (λ other. absurd (other refl))
  refused-by past e n event meets is down = absurd cc

  pub down-refused : (past : List Event) → IsLegal plan infos station (start_of plan station) past → Trails past → (n event : ℕ) → owner_in infos n ≡ 0
      → Contains (brought_by past) n → down_at plan station n ≡ Some event → (account past).fates n ≡ Some (fate.Refused event)
  down-refused [] legal trail n event owner came down = absurd (none-in [] n refl came)
  down-refused (e ∷ past) legal trail n event owner came down = elim (brought-cases e past n came) [
    | inl old ↦ let known = sound plan infos station past inside (legal-before legal) in
        fate-stays infos station past (account past) known.known known.order known.free e legal.comes.1.0 n (fate.Refused event)
        (down-refused past (legal-before legal) (trail-tail plan infos station e past trail) n event owner old down)
    | inr now ↦ refused-by past e n event (trail-head plan infos station e past (brings-own infos e n now owner) trail).meets_down now down
  ]

  -- of the packets of a closed account
  pub record MeetsEventsAt (fates : List Fate) : Type 0 where
    pub refused : (n event : ℕ) → n < length infos → station_in infos n ≡ station → owner_in infos n ≡ 0 → (slice_get fates n ≡ Some (fate.Refused event)) ↔ (down_at plan station n ≡ Some event)
    pub shrunk : (n event : ℕ) → n < length infos → station_in infos n ≡ station → owner_in infos n ≡ 0 → slice_get fates n ≡ Some (fate.Shrunk event) → IsBehind plan n event
    pub purged : (n event : ℕ) → n < length infos → station_in infos n ≡ station → owner_in infos n ≡ 0 → slice_get fates n ≡ Some (fate.Purged (cause.Event event)) → IsBehind plan n event

  pub meets-at : (fates : List Fate) (past : List Event) (a : Account) → IsClosed plan infos fates station past a → Trails past → MeetsEventsAt fates
  meets-at fates past a closed trail = record {
    refused = λ n event within at owner. (
      λ there. refused-down past trail n event owner (has n (fate.Refused event) within at there),
      λ down. let d = closed.decided n within at in d.1 ∙ (sym d.2 ∙ (ap (λ x. x.fates n) closed.account
          ∙ down-refused past legal trail n event owner (came n d.0 (ap (λ x. x.fates n) (sym closed.account) ∙ d.2)) down)),
    );
    shrunk = λ n event within at owner there. shrunk-behind past legal trail n event owner (has n (fate.Shrunk event) within at there);
    purged = λ n event within at owner there. purged-behind past legal trail n event owner (has n (fate.Purged (cause.Event event)) within at there);
  }
    where
      legal : IsLegal plan infos station (start_of plan station) past
      legal = legal-of plan infos fates station past a closed

      has : (n : ℕ) (f : Fate) → n < length infos → station_in infos n ≡ station → slice_get fates n ≡ Some f → (account past).fates n ≡ Some f
      has n f within at there = let d = closed.decided n within at in ap (λ x. x.fates n) (sym closed.account) ∙ (d.2 ∙ (sym d.1 ∙ there))

      came : (n : ℕ) (f : Fate) → (account past).fates n ≡ Some f → Contains (brought_by past) n
      came n f is = (sound plan infos station past inside legal).known.fates n f is

-- where each station's packets meet the events, all do
pub all-meet : (plan : Plan) (infos : List Info) (fates : List Fate) → length fates ≡ length infos → ((n : ℕ) → n < length infos → station_in infos n < length plan.stations)
    → ((station : ℕ) (inside : station < length plan.stations) → MeetsEventsAt plan infos station inside fates) → MeetsEvents plan infos fates
all-meet plan infos fates len of_plan each = record {
  refused = λ n event within owner. (each (station_in infos n) (of_plan n within)).refused n event within refl owner;
  shrunk = λ n event owner there. let w = inside n _ there in (each (station_in infos n) (of_plan n w)).shrunk n event w refl owner there;
  purged = λ n event owner there. let w = inside n _ there in (each (station_in infos n) (of_plan n w)).purged n event w refl owner there;
}
  where
    inside : (n : ℕ) (f : Fate) → slice_get fates n ≡ Some f → n < length infos
    inside n f there = let w = slice_get_within fates n f there in omega arith
