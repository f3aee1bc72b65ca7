-- Which packets were let into a band, and what the band had when a packet was dropped as full.
use Rattle.std.proofs.Common.{◌≡◌, ◌≢◌, ℕ, ◌-◌, ◌<◌, ◌≤◌, true, List, [], ◌∷◌, inl, inr, length, Contains, AllPairs, Option, Some, refl, sym, ap, ◌∙◌, subst, slice_get, arith}
use Rattle.std.specs.Option.{option_map_or}
use Rattle.std.proofs.lemmas.Option.{slice_get_cases}
use Rattle.lq_model.specs.Band.{batch}
use Rattle.lq_model.specs.Account.{Account, Event, Join, Full, Refuse, Resize, held_in, new_account, after}
use Rattle.lq_model.specs.Legal.{brought, brought_by, MayCome, MayDrop, IsInTurn, IsPlanned}
use Rattle.lq_model.specs.Plan.{Plan, band_in}
use Rattle.lq_model.specs.Settled.{is_let_in, let_in, GivesLength, IsFullFate}
use Rattle.lq_model.specs.declared.fate.Fate.{Fate}
use Rattle.lq_model.specs.declared.fate.Fate.TheVariants as fate
use Rattle.lq_model.specs.declared.fate.Info.{Info}
use Rattle.lq_model.specs.declared.plan.StationPlan.{StationPlan}
use Rattle.lq_account_laws.specs.Accounts.{AreDecided}
use Rattle.lq_account_laws.specs.Places.{AreBrought, KeepsOrder, Precedes}
use Rattle.lq_account_laws.specs.Progress.{len_of}
use Rattle.lq_account_laws.proofs.Lists.{none-in, here-in, drop-in, get-in}
use Rattle.lq_account_laws.proofs.Changes.{Joins, Gives, line-cases, fate-cases, len-cases}
use Rattle.lq_account_laws.proofs.Changes.Joins.{joins}
use Rattle.lq_account_laws.proofs.Changes.Gives.{gives_sent, gives_full, gives_refused, gives_shrunk, gives_purged}
use Rattle.lq_account_laws.proofs.Brought.{brought-before, not-before}
use Rattle.lq_account_laws.proofs.Order.{never-itself, held-pairs}
use Rattle.lq_account_laws.proofs.Counted.{WasLetIn, no-fewer}

-- the packet was brought, and is neither dropped as full nor refused
pub record LetIn (past : List Event) (a : Account) (n : ℕ) : Type 0 where
  pub came : Contains (brought_by past) n
  pub fate : (f : Fate) → a.fates n ≡ Some f → is_let_in f ≡ true

-- what the band of a packet had when it was dropped as full
pub record SawFull (plan : Plan) (infos : List Info) (station : ℕ) (past : List Event) (a : Account) (n seen : ℕ) : Type 0 where
  pub another : seen ≢ n
  pub same_band : band_in infos seen ≡ band_in infos n
  pub seen_in : LetIn past a seen
  pub len : ℕ
  pub given : GivesLength plan station len
  -- the packets that the band held
  pub holds : List ℕ
  pub pairs : AllPairs (Precedes infos) holds
  pub all_in : (m : ℕ) → Contains holds m → LetIn past a m
  pub all_of_band : (m : ℕ) → Contains holds m → band_in infos m ≡ band_in infos n
  pub enough : len - batch len ≤ length holds

pub record AreSeen (plan : Plan) (infos : List Info) (station : ℕ) (past : List Event) (a : Account) : Type 0 where
  pub lines : (b n : ℕ) → Contains (a.bands b).line n → LetIn past a n
  pub len : GivesLength plan station a.len
  pub full : (n seen : ℕ) → a.fates n ≡ Some (fate.Full seen) → SawFull plan infos station past a n seen

-- the station is one of the plan
pub station-of : (plan : Plan) (station : ℕ) → station < length plan.stations → (s : StationPlan) × (slice_get plan.stations station ≡ Some s) × (s.len ≡ len_of plan station)
station-of plan station inside = elim (slice_get_cases plan.stations station).1 [
  | inl found ↦ (found.0, found.2, sym (ap (λ (o : Option StationPlan). option_map_or (λ s. s.len) o 0) found.2))
  | inr past ↦ absurd (let least = past.0 in omega arith)
]

pub seen-start : (plan : Plan) (infos : List Info) (station queues : ℕ) → station < length plan.stations → AreSeen plan infos station [] (new_account (len_of plan station) station queues)
seen-start plan infos station queues inside = record {
  lines = λ b n h. absurd (none-in [] n refl h);
  len = inl (station-of plan station inside);
  full = λ n seen h. absurd cc;
}

module _ (plan : Plan) (infos : List Info) (station : ℕ) (past : List Event) (a : Account) (known : AreBrought infos station past a) (order : KeepsOrder infos a) (h : AreSeen plan infos station past a) where
  given-in : (e : Event) → IsInTurn infos past (brought e) → (n : ℕ) (f : Fate) → Contains (brought_by past) n → Gives a e n f → is_let_in f ≡ true
  given-in e turn n f came (gives_sent m u s hand unit serial) = refl
  given-in e turn n f came (gives_full m seen) = absurd (not-before infos past (Full n seen) n turn refl came)
  given-in e turn n f came (gives_refused m event) = absurd (not-before infos past (Refuse n event) n turn refl came)
  given-in e turn n f came (gives_shrunk len event m b below dropped) = refl
  given-in e turn n f came (gives_purged cause m held) = refl

  pub let-in-stays : (e : Event) → IsInTurn infos past (brought e) → (n : ℕ) → LetIn past a n → LetIn (e ∷ past) (after e a) n
  let-in-stays e turn n was = record {
    came = brought-before e past n was.came;
    fate = λ f here. elim (fate-cases e a n f here) [ inl old ↦ was.fate f old | inr new ↦ given-in e turn n f was.came new ];
  }

  joined-in : (e : Event) → IsInTurn infos past (brought e) → (b n : ℕ) → Joins e b n → LetIn (e ∷ past) (after e a) n
  joined-in e turn b n (joins m k) = record {
    came = here-in n (brought_by past);
    fate = λ f here. absurd (not-before infos past (Join n b) n turn refl (known.fates n f here));
  }

  full-stays : (e : Event) → IsInTurn infos past (brought e) → (n seen : ℕ) → SawFull plan infos station past a n seen → SawFull plan infos station (e ∷ past) (after e a) n seen
  full-stays e turn n seen was = record {
    another = was.another;
    same_band = was.same_band;
    seen_in = let-in-stays e turn seen was.seen_in;
    len = was.len;
    given = was.given;
    holds = was.holds;
    pairs = was.pairs;
    all_in = λ m here. let-in-stays e turn m (was.all_in m here);
    all_of_band = was.all_of_band;
    enough = was.enough;
  }

  saw-full : (n seen : ℕ) → MayDrop infos station a n seen → IsInTurn infos past (Some n) → SawFull plan infos station (Full n seen ∷ past) (after (Full n seen) a) n seen
  saw-full n seen may turn =
      let band : ℕ = band_in infos n in
      let in_line : Contains (a.bands (band_in infos n)).line seen = get-in (a.bands (band_in infos n)).line _ seen may.full.seen_is in
      record {
        another = λ same. not-before infos past (Full n seen) n turn refl (subst (λ k. Contains (brought_by past) k) same (known.lines (band_in infos n) seen in_line));
        same_band = order.bands (band_in infos n) seen in_line;
        seen_in = let-in-stays (Full n seen) turn seen (h.lines (band_in infos n) seen in_line);
        len = a.len;
        given = h.len;
        holds = held_in a (band_in infos n);
        pairs = held-pairs infos station past a known order (band_in infos n);
        all_in = λ m here. let-in-stays (Full n seen) turn m (h.lines (band_in infos n) m (drop-in (a.bands (band_in infos n)).taken (a.bands (band_in infos n)).line m here));
        all_of_band = λ m here. order.bands (band_in infos n) m (drop-in (a.bands (band_in infos n)).taken (a.bands (band_in infos n)).line m here);
        enough = may.full.holds;
      }

  new-full : (e : Event) → MayCome infos station past a e → IsInTurn infos past (brought e) → (n seen : ℕ) → Gives a e n (fate.Full seen) → SawFull plan infos station (e ∷ past) (after e a) n seen
  new-full e may turn n seen (gives_full m k) = saw-full n seen may turn

  len-step : (e : Event) → IsPlanned plan station past a e → GivesLength plan station (after e a).len
  len-step e plans = elim (len-cases e a) [
    | inl same ↦ subst (GivesLength plan station) (sym same) h.len
    | inr resize ↦ subst (λ e. GivesLength plan station (after e a).len) (sym resize.2) (resized resize.0 resize.1 (subst (λ e. IsPlanned plan station past a e) resize.2 plans))
  ]
    where
      resized : (len event : ℕ) → IsPlanned plan station past a (Resize len event) → GivesLength plan station len
      resized len event (inl plans) = inr (event, inl plans.0)
      resized len event (inr change) = inr (event, inr change.planned)

  pub seen-step : (e : Event) → MayCome infos station past a e → IsPlanned plan station past a e → IsInTurn infos past (brought e) → AreSeen plan infos station (e ∷ past) (after e a)
  seen-step e may plans turn = record {
    lines = λ b n here. elim (line-cases e a b n here) [ inl old ↦ let-in-stays e turn n (h.lines b n old) | inr new ↦ joined-in e turn b n new ];
    len = len-step e plans;
    full = λ n seen here. elim (fate-cases e a n (fate.Full seen) here) [ inl old ↦ full-stays e turn n seen (h.full n seen old) | inr new ↦ new-full e may turn n seen new ];
  }

-- WHEN ALL IS DECIDED

module _ (plan : Plan) (infos : List Info) (fates : List Fate) (station : ℕ) (past : List Event) (a : Account) (known : AreBrought infos station past a) (decided : AreDecided infos fates station a) where
  info-of : (n : ℕ) → n < length infos → (info : Info) × (slice_get infos n ≡ Some info)
  info-of n inside = elim (slice_get_cases infos n).1 [ inl found ↦ (found.0, found.2) | inr past ↦ absurd (let least = past.0 in omega arith) ]

  was-let-in : (band n : ℕ) → band_in infos n ≡ band → LetIn past a n → WasLetIn fates infos station band n
  was-let-in band n of_band let_in =
      let packet = known.packets n let_in.came in
      let settled = decided n packet.0 packet.1 in
      let info = info-of n packet.0 in
      record {
        fate = settled.0;
        info = info.0;
        has_fate = settled.1;
        has_info = info.1;
        is_in = let_in.fate settled.0 settled.2;
        of_station = sym (ap (λ (o : Option Info). option_map_or (λ i. i.station) o 0) info.1) ∙ packet.1;
        of_band = sym (ap (λ (o : Option Info). option_map_or (λ i. i.band) o 0) info.1) ∙ of_band;
      }

  pub full-fate : (n seen : ℕ) → SawFull plan infos station past a n seen → IsFullFate plan infos fates station n seen
  full-fate n seen saw =
      let seen_packet = was-let-in (band_in infos n) seen saw.same_band saw.seen_in in
      record {
        another = saw.another;
        same_station = (known.packets seen saw.seen_in.came).1;
        same_band = saw.same_band;
        seen_let_in = (seen_packet.fate, seen_packet.has_fate, seen_packet.is_in);
        enough = (
          saw.len,
          saw.given,
          let few : length saw.holds ≤ let_in fates infos station (band_in infos n) =
              no-fewer (Precedes infos) (never-itself infos) fates infos station (band_in infos n) saw.holds saw.pairs (λ m here. was-let-in (band_in infos n) m (saw.all_of_band m here) (saw.all_in m here)) in
              let least = saw.enough in omega arith,
        );
      }
