-- The laws by which a step of one seat keeps the parts of the rule that speak of the seats, one for each kind of step.
use Rattle.std.proofs.Common.{◌≡◌, ◌≢◌, ℕ, ◌<◌, Bool, true, List, ◌∷◌, set, refl, sym, ap, ◌∙◌, subst, Option, Some, None, eqb, cond}
use Rattle.std.proofs.lemmas.Bool.{ltb-true}
use mathlib.Core.Option.{some}
use lib.ListN.{get_elem?}
use Rattle.atomic_table.specs.Table as table
use Rattle.lq_device.specs.Station.{StationState}
use Rattle.lq_model.specs.Account.{Account, Event, after}
use Rattle.lq_model.specs.Device.{DeviceState}
use Rattle.lq_model.specs.Legal.{brought, brought_by}
use Rattle.lq_model.specs.Machine.{Qdisc}
use Rattle.lq_model.specs.Plan.{owner_in}
use Rattle.lq_model.specs.declared.fate.Fate.{Fate}
use Rattle.lq_account_laws.specs.Trail.{is_own, trail_of}
use Rattle.lq_band_laws.proofs.Seats.{each_step}
use Rattle.lq_table.specs.Views.{View, Setup, SharePart, PacketPart, State}
use Rattle.lq_table.specs.Rule.{words_of, times, is_live, account, KnowsPackets, PacketsKnown, Turns, Given, Settled, Trails, Gone, Sole, SeatParts, Rule}
use Rattle.lq_table.proofs.Accounts.{quiet_after, others_after}
use Rattle.lq_table.proofs.SettledKept.{settled_same}
use Rattle.lq_table.proofs.GivenKept.{given_same, given_brought}
use Rattle.lq_table.proofs.TrailsKept.{trails_same, trails_own, trails_brought}
use Rattle.lq_table.proofs.UnitsKept.{BringsNone, gone_same, gone_step}
use Rattle.lq_table.proofs.Frames.{none_some, shares_same, packets_same, turns_same, turns_brought, sole_step}

-- what a seat has at each step but one at a turn word
abbrev pub has_of : View → SharePart × Option ℕ × List ℕ × Bool
has_of u = (u.share, u.packets.busy, u.turns, u.control.first)

-- and what it knows of packets, fates and events
abbrev pub known_by : View → PacketPart × List (ℕ × Fate) × List Event × DeviceState × List (ℕ × List ℕ) × Bool
known_by u = (u.packets, u.settled, u.trail, u.control.origin, u.control.gone, u.whole.told)

-- the events, and the device as it came
abbrev events_and_origin_of : State → List Event × DeviceState
events_and_origin_of g = (g.past, g.origin)

module _ (k : Setup) (s : table.State (Option StationState) View) (r : Rule k s) (id : ℕ) (v w : View) (here : get_elem? s.views id ≡ some v) (live : is_live v ≡ true) where
  -- the seat that knew the whole state knows the next
  abbrev Knows : Qdisc → State → Type 0
  Knows q' g' = v.whole.qdisc ≡ r.qdisc → v.whole.state ≡ r.state → (w.whole.qdisc ≡ q') × (w.whole.state ≡ g')

  pub sole_on : (q' : Qdisc) (g' : State) → w.share ≡ v.share → w.whole.told ≡ v.whole.told → Knows q' g' → Sole (set s.views id w) q' g'
  sole_on q' g' share told next = sole_step k s.views id v w here r.qdisc q' r.state g' r.parts.seats.shares r.parts.seats.sole (ltb-true 0 v.share.shares live) share told next

  -- a step that takes and gives no turn and brings no packet; what else may change is given
  pub seats_with : (fates' : List ℕ) (past' : List Event) (origin' : DeviceState) (q' : Qdisc) (g' : State) (a' : Account) → events_and_origin_of g' ≡ (past', origin') → has_of w ≡ has_of v → w.packets.fresh ≡ v.packets.fresh → brought_by past' ≡ brought_by r.state.past
      → PacketsKnown k (set s.views id w) past' a' → Settled fates' (set s.views id w) → Trails k.infos past' origin' (set s.views id w) → Gone k past' (set s.views id w) → Sole (set s.views id w) q' g'
      → SeatParts k (words_of k s.words).turns fates' (set s.views id w) q' g' a'
  seats_with fates' past' origin' q' g' a' is has fresh same packets settled trails gone sole =
      let p = r.parts in let W = words_of k s.words in let share = ap (λ x. x.0) has in let busy = ap (λ x. x.1) has in let same' : brought_by g'.past ≡ brought_by r.state.past = ap (λ (x : List Event × DeviceState). brought_by x.0) is ∙ same in
      let known = subst (λ (x : List Event × DeviceState). PacketsKnown k (set s.views id w) x.0 a' × Trails k.infos x.0 x.1 (set s.views id w) × Gone k x.0 (set s.views id w)) (sym is) (packets, trails, gone) in record {
        shares = shares_same k s.views id v w here live p.seats.shares share;
        packets = known.0;
        turns = turns_same k s.views id v w here W.turns r.state.past g'.past p.seats.turns same' share busy fresh;
        given = given_same k s.views id v w here W.turns p.seats.given busy fresh same' share (ap (λ x. x.2) has);
        settled = settled;
        trails = known.1;
        gone = known.2;
        sole = sole;
      }

  -- a step without an event; what is known of packets and of stored fates is given
  pub seats_settled : (fates' : List ℕ) (q' : Qdisc) (g' : State) → events_and_origin_of g' ≡ events_and_origin_of r.state → has_of w ≡ has_of v → ◌≡◌ {A = Option ℕ × List Event × DeviceState × List (ℕ × List ℕ)} (w.packets.fresh, w.trail, w.control.origin, w.control.gone) (v.packets.fresh, v.trail, v.control.origin, v.control.gone)
      → PacketsKnown k (set s.views id w) r.state.past (account k r.state) → Settled fates' (set s.views id w) → Sole (set s.views id w) q' g' → SeatParts k (words_of k s.words).turns fates' (set s.views id w) q' g' (account k r.state)
  seats_settled fates' q' g' is has known packets settled sole = let p = r.parts in let g = r.state in
      seats_with fates' g.past g.origin q' g' (account k g) is has (ap (λ x. x.0) known) refl packets settled
      (trails_same k.infos s.views id v w here p.seats.trails (ap (λ x. x.0) has) (ap (λ x. x.3) has) (ap (λ x. x.2) known) (ap (λ x. x.1) known) refl)
      (gone_same k s.views id v w here p.seats.gone (ap (λ x. x.3) known)) sole

  -- a step without an event and without a fate
  pub seats_same : (q' : Qdisc) (g' : State) → events_and_origin_of g' ≡ events_and_origin_of r.state → has_of w ≡ has_of v → known_by w ≡ known_by v → Knows q' g'
      → SeatParts k (words_of k s.words).turns (words_of k s.words).fates (set s.views id w) q' g' (account k r.state)
  seats_same q' g' is has known next = let p = r.parts in let W = words_of k s.words in let share = ap (λ x. x.0) has in
      seats_settled W.fates q' g' is has (λ j. ((known j).0.fresh, (known j).2, (known j).3, (known j).4))
      (packets_same k s.views id v w here r.state.past (account k r.state) p.seats.packets share (ap (λ x. x.0) known))
      (settled_same s.views id v w here W.fates p.seats.settled (ap (λ x. x.1) known))
      (sole_on q' g' share (ap (λ x. x.5) known) next)

  -- an event that brings no packet and gives no fate
  pub packets_heard : (e : Event) (a' : Account) → brought_by (e ∷ r.state.past) ≡ brought_by r.state.past → ((n : ℕ) → a'.fates n ≡ (account k r.state).fates n) → w.share ≡ v.share → w.packets ≡ v.packets → PacketsKnown k (set s.views id w) (e ∷ r.state.past) a'
  packets_heard e a' same keep share packets = let g = r.state in let a = account k g in
      each_step (λ u. KnowsPackets k g.past a u.share u.packets) (λ u. KnowsPackets k (e ∷ g.past) a' u.share u.packets) s.views id w r.parts.seats.packets
      (subst (λ (z : SharePart × PacketPart). KnowsPackets k (e ∷ g.past) a' z.0 z.1) (λ j. (sym share j, sym packets j)) (quiet_after k g.past a a' e v.share v.packets same keep (r.parts.seats.packets id v here)))
      (λ j u _ _ y. quiet_after k g.past a a' e u.share u.packets same keep y)

  -- a step with such an event, which isn't on the trail and brings no unit
  pub seats_heard : (e : Event) (q' : Qdisc) (g' : State) (a' : Account) → events_and_origin_of g' ≡ (e ∷ r.state.past, r.state.origin) → has_of w ≡ has_of v → known_by w ≡ known_by v → brought_by (e ∷ r.state.past) ≡ brought_by r.state.past → trail_of k.infos (e ∷ r.state.past) ≡ trail_of k.infos r.state.past
      → BringsNone k r.state.past e → ((n : ℕ) → a'.fates n ≡ (account k r.state).fates n) → Knows q' g' → SeatParts k (words_of k s.words).turns (words_of k s.words).fates (set s.views id w) q' g' a'
  seats_heard e q' g' a' is has known same unheard none keep next = let p = r.parts in let g = r.state in let W = words_of k s.words in let share = ap (λ x. x.0) has in
      seats_with W.fates (e ∷ g.past) g.origin q' g' a' is has (ap (λ x. x.0.fresh) known) same
      (packets_heard e a' same keep share (ap (λ x. x.0) known))
      (settled_same s.views id v w here W.fates p.seats.settled (ap (λ x. x.1) known))
      (trails_same k.infos s.views id v w here p.seats.trails share (ap (λ x. x.3) has) (ap (λ x. x.3) known) (ap (λ x. x.2) known) unheard)
      (gone_step k s.views id v w here e none p.seats.gone (ap (λ x. x.4) known))
      (sole_on q' g' share (ap (λ x. x.5) known) next)

  -- a step of the first seat with an event of control, after which the device came as `origin'`
  pub seats_by_control : (e : Event) (origin' : DeviceState) (q' : Qdisc) (g' : State) (a' : Account) → events_and_origin_of g' ≡ (e ∷ r.state.past, origin') → has_of w ≡ has_of v → ◌≡◌ {A = Option ℕ × List (ℕ × Fate) × DeviceState × List Event × Bool} (w.packets.fresh, w.settled, w.control.origin, w.trail, w.whole.told) (v.packets.fresh, v.settled, origin', e ∷ v.trail, v.whole.told) → v.control.first ≡ true
      → brought_by (e ∷ r.state.past) ≡ brought_by r.state.past → is_own k.infos e ≡ true → PacketsKnown k (set s.views id w) (e ∷ r.state.past) a' → Gone k (e ∷ r.state.past) (set s.views id w) → Knows q' g'
      → SeatParts k (words_of k s.words).turns (words_of k s.words).fates (set s.views id w) q' g' a'
  seats_by_control e origin' q' g' a' is has known first same own packets gone next = let p = r.parts in let W = words_of k s.words in
      seats_with W.fates (e ∷ r.state.past) origin' q' g' a' is has (ap (λ x. x.0) known) same packets
      (settled_same s.views id v w here W.fates p.seats.settled (ap (λ x. x.1) known))
      (trails_own k.infos s.views id v w here e own p.seats.trails p.machine.firsts.one first (ap (λ x. x.0) has) (ap (λ x. x.3) has) (ap (λ x. x.2) known) (ap (λ x. x.3) known))
      gone (sole_on q' g' (ap (λ x. x.0) has) (ap (λ x. x.4) known) next)

  -- a step with the event that brings the packet n of the seat
  pub seats_brought : (e : Event) (n : ℕ) (q' : Qdisc) (g' : State) → events_and_origin_of g' ≡ (e ∷ r.state.past, r.state.origin) → has_of w ≡ has_of v → ◌≡◌ {A = Option ℕ × List (ℕ × Fate) × DeviceState × List (ℕ × List ℕ) × Bool} (w.packets.fresh, w.settled, w.control.origin, w.control.gone, w.whole.told) (None, v.settled, v.control.origin, v.control.gone, v.whole.told) → v.packets.fresh ≡ Some n
      → brought e ≡ Some n → is_own k.infos e ≡ eqb (owner_in k.infos n) 0 → w.trail ≡ cond (is_own v.share.about.infos e) (e ∷ v.trail) v.trail → BringsNone k r.state.past e
      → ((m : ℕ) (f : Fate) → w.packets.owed ≡ Some (m, f) → (after e (account k r.state)).fates m ≡ Some f) → ((m : ℕ) → m ≢ n → (after e (account k r.state)).fates m ≡ (account k r.state).fates m) → Knows q' g'
      → SeatParts k (words_of k s.words).turns (words_of k s.words).fates (set s.views id w) q' g' (after e (account k r.state))
  seats_brought e n q' g' is has known is_fresh now own trail none owed keep next =
      let p = r.parts in let g = r.state in let a = account k g in let W = words_of k s.words in let share = ap (λ x. x.0) has in let busy = ap (λ x. x.1) has in let first = ap (λ x. x.3) has in
      let fresh = ap (λ x. x.0) known in let know = p.seats.packets id v here in let mine = know.fresh n is_fresh in
      let past_now = subst (λ (x : List Event × DeviceState). SeatsAfter x.0 x.1) (sym is) (
        each_step (λ u. KnowsPackets k g.past a u.share u.packets) (λ u. KnowsPackets k (e ∷ g.past) (after e a) u.share u.packets) s.views id w p.seats.packets
            record { own = subst (λ (x : SharePart). (o : ℕ) → 0 < times o x.owners → o < k.senders) (sym share) know.own; fresh = λ _ h. absurd (none_some (sym fresh ∙ h)); owed = owed }
            (others_after k s.views g.past a id v n e p.seats.shares p.account.accounted.brought here know is_fresh now keep),
        turns_brought k s.views id v w here W.turns g.past e n p.seats.turns is_fresh now share busy fresh,
        given_brought k s.views id v w here W.turns e n p.seats.given now ((p.seats.turns.knows id v here).fresh n is_fresh) busy share (ap (λ x. x.2) has),
        trails_brought k s.views id v w here e n own p.seats.trails p.seats.shares (p.seats.shares.about id v here live) (know.own _ mine.0) mine.0 share first (ap (λ x. x.2) known) trail,
        gone_step k s.views id v w here e none p.seats.gone (ap (λ x. x.3) known),
      ) in record {
        shares = shares_same k s.views id v w here live p.seats.shares share;
        packets = past_now.0;
        turns = past_now.1;
        given = past_now.2;
        settled = settled_same s.views id v w here W.fates p.seats.settled (ap (λ x. x.1) known);
        trails = past_now.3;
        gone = past_now.4;
        sole = sole_on q' g' share (ap (λ x. x.4) known) next;
      }
    where
      SeatsAfter : List Event → DeviceState → Type 0
      SeatsAfter past origin = PacketsKnown k (set s.views id w) past (after e (account k r.state)) × Turns k (words_of k s.words).turns (set s.views id w) past × Given k (words_of k s.words).turns (set s.views id w) past × Trails k.infos past origin (set s.views id w) × Gone k past (set s.views id w)
