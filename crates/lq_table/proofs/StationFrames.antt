-- The laws by which a step keeps the parts of the rule that speak of the station and of the account.
use Rattle.std.proofs.Common.{◌≡◌, ℕ, ◌+◌, ◌*◌, Bool, true, List, ◌∷◌, set, refl, sym, ap, ◌∙◌, subst, Option, Some}
use Rattle.std.specs.Prelude.{is_some}
use Rattle.std.specs.Option.{option_map}
use mathlib.Core.Option.{some}
use mathlib.Core.Option as maybe
use lib.ListN.{get_elem?}
use Rattle.atomic_table.specs.Table as table
use Rattle.lq_device.specs.Station.{StationState}
use Rattle.lq_model.specs.Account.{Account, Event, after}
use Rattle.lq_model.specs.Band.{Band}
use Rattle.lq_model.specs.Device.{DeviceState}
use Rattle.lq_model.specs.Legal.{MayCome, IsInTurn, brought}
use Rattle.lq_model.specs.Machine.{Qdisc, Purge, bit, state_word}
use Rattle.lq_model.specs.Positions.{holds_lock}
use Rattle.lq_model.specs.declared.fate.Fate.{Fate}
use Rattle.lq_model.specs.declared.fate.Info.{Info}
use Rattle.lq_model.specs.declared.machine.Packet.{Packet}
use Rattle.lq_account_laws.specs.Trail.{FindsNothing}
use Rattle.lq_band_laws.specs.Three.{Three}
use Rattle.lq_band_laws.specs.Ring.{Ends, Lock}
use Rattle.lq_table.specs.Views.{View, Setup, State, HalfResize, Left, machine_packet}
use Rattle.lq_table.specs.Rule.{Words, words_of, is_live, account, holders, bands_of, bands_now, event_word, Stands, Ties, Lends, FatesStored, Leaves, Rings, Accounted, AreStops, IsPresentUnit, IsDevice, StationParts, AccountParts, Rule}
use Rattle.lq_table.proofs.Frames.{fates_same, rings_same, account_step}
use Rattle.lq_table.proofs.AccountKept.{IsCounted}

-- THE WORDS

-- a step at the bits
pub stands_state : {k : Setup} {w w' : Words} {q q' : Qdisc} {down down' : Option ℕ} → Stands k w q down → w'.state ≡ state_word q' + 256 * event_word down' → ◌≡◌ {A = ℕ × List ℕ × ℕ × Bool × List ℕ × ℕ × Bool} (w'.lock, w'.xoff, w'.inside, q'.locked, q'.xoff, q'.inside, q'.bypass) (w.lock, w.xoff, w.inside, q.locked, q.xoff, q.inside, q.bypass) → Stands k w' q' down'
stands_state t state e = record {
  state = state;
  lock = ap (λ x. x.0) e ∙ (t.lock ∙ sym (ap (λ x. bit x.3) e));
  xoff = ap (λ x. x.4) e ∙ (t.xoff ∙ sym (ap (λ x. x.1) e));
  inside = ap (λ x. x.2) e ∙ (t.inside ∙ sym (ap (λ x. x.5) e));
  bypass = ap (λ x. x.6) e ∙ t.bypass;
}

-- what the words of the machine say
abbrev words_and_machine_of : Words → Qdisc → Option ℕ → ℕ × ℕ × List ℕ × ℕ × ℕ × Bool × List ℕ × ℕ × Bool × Option ℕ
words_and_machine_of w q down = (w.state, w.lock, w.xoff, w.inside, state_word q, q.locked, q.xoff, q.inside, q.bypass, down)

pub stands_same : {k : Setup} {w w' : Words} {q q' : Qdisc} {down down' : Option ℕ} → Stands k w q down → words_and_machine_of w' q' down' ≡ words_and_machine_of w q down → Stands k w' q' down'
stands_same t e = stands_state t (ap (λ x. x.0) e ∙ (t.state ∙ sym (ap (λ x. x.4 + 256 * event_word x.9) e))) (λ j. ((e j).1, (e j).2, (e j).3, (e j).5, (e j).6, (e j).7, (e j).8))

-- what the machine has of the account
abbrev machine_and_account_of : Qdisc → Account → List (List Packet) × Option Packet × ℕ × Bool × Option ℕ × ℕ × Option ℕ
machine_and_account_of q a = (q.bands, q.slot, q.len, q.deactivated, a.slot, a.len, a.down)

pub ties_same : {infos : List Info} {q q' : Qdisc} {a a' : Account} {bands bands' : ℕ → Band} → Ties infos q a bands → machine_and_account_of q' a' ≡ machine_and_account_of q a → bands' ≡ bands → Ties infos q' a' bands'
ties_same {infos} t e same = record {
  bands_are = ap (λ x. x.0) e ∙ (t.bands_are ∙ sym (ap (bands_of infos) same));
  slot = ap (λ x. x.1) e ∙ (t.slot ∙ sym (ap (λ x. option_map (machine_packet infos) x.4) e));
  len = ap (λ x. x.2) e ∙ (t.len ∙ sym (ap (λ x. x.5) e));
  down = ap (λ x. x.3) e ∙ (t.down ∙ sym (ap (λ x. is_some x.6) e));
}

-- THE RINGS AND THE FATE WORDS

-- what the rings and the fate words are said of, but for the seats and the fates
abbrev rings_and_fates_of : Words → State → Account → List ℕ × ℕ × Three ℕ × Three (List ℕ) × ℕ × (ℕ → Band) × Three Ends × Option HalfResize × Option Left
rings_and_fates_of w g a = (w.fates, w.size, w.producers, w.slots, a.len, bands_now g.left a.bands, g.ends, g.resizing, g.left)

module _ (k : Setup) (s : table.State (Option StationState) View) (r : Rule k s) (id : ℕ) (v w : View) (here : get_elem? s.views id ≡ some v) where
  -- a step at no ring and no fate word
  pub station_kept : (W' : Words) (home' : maybe.Option (Option StationState)) (q' : Qdisc) (g' : State) (a' : Account) → rings_and_fates_of W' g' a' ≡ rings_and_fates_of (words_of k s.words) r.state (account k r.state) → ((n : ℕ) → a'.fates n ≡ (account k r.state).fates n) → ◌≡◌ {A = Option (ℕ × Fate) × Three Lock} (w.packets.owed, w.locks) (v.packets.owed, v.locks)
      → ((t : HalfResize) → r.state.resizing ≡ Some t → is_live v ≡ true → holds_lock v.place.position ≡ true → (is_live w ≡ true) × (holds_lock w.place.position ≡ true))
      → Stands k W' q' a'.down → Ties k.infos q' a' (bands_now g'.left a'.bands) → Lends k.infos q'.locked W'.xoff home' (set s.views id w) g'.past (holders g' a' W'.size) → AreStops g'.shut q'.phase q'.locked q'.xoff a'.stops
      → StationParts k W' home' (set s.views id w) q' g' a'
  station_kept W' home' q' g' a' e keep mine goes_on stands ties lends stops =
      let p = r.parts in let g = r.state in let a = account k g in let W = words_of k s.words in record {
        stands = stands;
        ties = ties;
        lends = lends;
        fates = subst (λ (x : List ℕ × Option HalfResize × Option Left). FatesStored k.infos x.0 (set s.views id w) a' x.1 x.2) (λ j. ((sym e j).0, (sym e j).7, (sym e j).8))
            (fates_same k s.views id v w here W.fates a a' g.resizing g.left p.station.fates (ap (λ x. x.0) mine) keep);
        rings = subst (λ (x : ℕ × Three ℕ × Three (List ℕ) × ℕ × (ℕ → Band) × Three Ends × Option HalfResize). Rings k.max_len x.0 x.1 x.2 (set s.views id w) x.3 x.4 x.5 x.6)
            (λ j. ((sym e j).1, (sym e j).2, (sym e j).3, (sym e j).4, (sym e j).5, (sym e j).6, (sym e j).7))
            (rings_same k s.views id v w here k.max_len W.size W.producers W.slots a.len (bands_now g.left a.bands) g.ends g.resizing p.station.rings (ap (λ x. x.1) mine) goes_on);
        stops = stops;
      }

-- THE ACCOUNT

module _ (k : Setup) (s : table.State (Option StationState) View) (r : Rule k s) where
  -- no event, but another part of a purge
  pub leaves_now : {purge : Option Purge} {left : Option Left} → Leaves left purge (account k r.state) → AccountParts k purge left r.state.past r.state.station r.state.origin (account k r.state)
  leaves_now leaves = let p = r.parts.account in record { accounted = p.accounted; find_nothing = p.find_nothing; sends = p.sends; device = p.device; leaves = leaves }

  -- one more event
  pub account_after : {purge : Option Purge} {left : Option Left} {st : StationState} {origin : DeviceState} (e : Event) (a' : Account) → after e (account k r.state) ≡ a' → MayCome k.infos k.station r.state.past (account k r.state) e → IsInTurn k.infos r.state.past (brought e) → IsCounted e → FindsNothing (account k r.state) e
      → IsPresentUnit st a' → IsDevice k.infos k.station a'.stops origin st.device → Leaves left purge a' → AccountParts k purge left (e ∷ r.state.past) st origin a'
  account_after e a' is may turn counted finds sends device leaves = record {
    accounted = subst (Accounted k (e ∷ r.state.past)) is (account_step k r.state.past e r.parts.account.accounted may turn counted);
    find_nothing = (r.parts.account.find_nothing, finds);
    sends = sends;
    device = device;
    leaves = leaves;
  }

  -- one that changes nothing of the device
  pub account_heard : {purge : Option Purge} {left : Option Left} (e : Event) → ◌≡◌ {A = ℕ × (ℕ → List ℕ) × List ℕ} ((after e (account k r.state)).unit, (after e (account k r.state)).sent, (after e (account k r.state)).stops) ((account k r.state).unit, (account k r.state).sent, (account k r.state).stops)
      → MayCome k.infos k.station r.state.past (account k r.state) e → IsInTurn k.infos r.state.past (brought e) → IsCounted e → FindsNothing (account k r.state) e → Leaves left purge (after e (account k r.state))
      → AccountParts k purge left (e ∷ r.state.past) r.state.station r.state.origin (after e (account k r.state))
  account_heard e same may turn counted finds leaves = let p = r.parts.account in let a = account k r.state in account_after e (after e a) refl may turn counted finds
      record { unit = ap (λ x. x.0) same ∙ p.sends.unit; sent = ap (λ (x : ℕ × (ℕ → List ℕ) × List ℕ). x.1 x.0) same ∙ p.sends.sent; small = p.sends.small }
      (subst (λ (xs : List ℕ). IsDevice k.infos k.station xs r.state.origin r.state.station.device) (sym (ap (λ x. x.2) same)) p.device) leaves
