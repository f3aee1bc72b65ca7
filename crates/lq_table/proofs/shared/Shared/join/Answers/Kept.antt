-- `join` keeps the rule of the table.
use Rattle.std.proofs.Common.{◌≡◌, ◌≢◌, ℕ, ◌+◌, ◌<◌, ◌≤◌, Bool, true, false, true≢false, eqb, List, [], ◌∷◌, ◌++◌, length, slice_index, set, refl, sym, ap, ◌∙◌, subst, arith, ⊎_elim, Option, None, get_or, get_or-set_same, get_or-set_other, length-set, eq-eqb, ne_eqb}
use Rattle.std.specs.Prelude.{if◌then◌else◌, Contains}
use Rattle.std.proofs.lemmas.List.Elements.{Contains-append_cases}
use Rattle.std.proofs.lemmas.Bool.{false≢true, lt-ltb}
use mathlib.Core.Logic.{dite}
use mathlib.Core.Option.{some, none}
use native.Mathlib.Decide.{ℕ_discrete, dec_le}
use lib.ListN.{get_elem?}
use Rattle.atomic_table.specs.Table.{step, Allows, Splits, Joins, keeps}
use Rattle.atomic_table.proofs.Lists.{at_set}
use Rattle.lq_model.specs.Device.{DeviceState}
use Rattle.lq_model.specs.Account.{Event}
use Rattle.lq_model.specs.Words.{word_of}
use Rattle.lq_model.specs.declared.fate.Fate.{Fate}
use Rattle.lq_model.specs.Plan.{owner_in}
use Rattle.lq_model.specs.declared.machine.Packet.{Packet}
use Rattle.lq_model.specs.declared.machine.Position.{Position}
use Rattle.lq_model.specs.declared.machine.Position.TheVariants.{Idle, Control}
use Rattle.lq_model.specs.declared.machine.Seat.{Seat}
use Rattle.lq_model.specs.Machine.{Qdisc, bit}
use Rattle.lq_model.specs.Control.{is_control}
use Rattle.lq_model.specs.Positions.{holds_lock, own_packet}
use Rattle.lq_model.specs.Kept.{IsInductive}
use Rattle.lq_run_laws.proofs.Seats.{extends}
use Rattle.lq_band_laws.specs.Seats.{Each}
use Rattle.lq_band_laws.specs.Three.{all_three}
use Rattle.lq_band_laws.specs.Ring.{unlocked}
use Rattle.lq_band_laws.proofs.Seats.{total_set, total_one, total_two, each_same}
use Rattle.lq_table.specs.Views.{View, Setup, PacketPart, HolderPart, FirstPart, no_packets, spent}
use Rattle.lq_table.specs.Rule.{words_of, account, holders, times, is_live, machine_of, KnowsHolder, KnowsPackets, Owns, KnowsTurn, KnowsWords, bands_now, Rule, IsGone}
use Rattle.lq_table.proofs.UnitsKept.{either_gone, none_gone}
use Rattle.lq_table.specs.Moves.{at_rest, Sat}
use Rattle.lq_table.specs.Seats.{with_turns, join_view, learn_view}
use Rattle.lq_table.proofs.shared.Shared.join.Invariants.{learn_told, learn_told_all}
use Rattle.lq_account_laws.specs.Trail.{trail_of}
use Rattle.lq_table.proofs.ByName.{set_back}
use Rattle.lq_table.proofs.SettledKept.{settled_same}
use Rattle.lq_table.proofs.GivenKept.{given_with}
use Rattle.lq_run_laws.proofs.Among.{among-at as here}
use Rattle.lq_table.proofs.Middle.{to_idle, middle}
use Rattle.lq_table.proofs.Facts.{one_where, none_settled}
use Rattle.lq_table.proofs.Frames.{same_xoff, none_some, fates_same, rings_same, firsts_same, packets_same, rule_after, opened, closed, same_past, lends_step, moves}
use Rattle.lq_table.proofs.SeatFrames.{seats_settled}
use Rattle.lq_table.proofs.StationFrames.{station_kept}
use Rattle.lq_device.specs.Station.{StationState}
use Rattle.lq_table.proofs.Loads.{also}
use Rattle.lq_run_laws.proofs.SeatsKept as core
use Rattle.atomic_table.specs.Table as table

pub times_append : (y : ℕ) (xs ys : List ℕ) → times y (xs ++ ys) ≡ times y xs + times y ys
times_append y [] ys = omega arith
times_append y (x ∷ xs) ys = let more : times y (xs ++ ys) ≡ times y xs + times y ys = times_append y xs ys in omega arith

-- turn words of two seats
with_turns_long : (os ts us : List ℕ) → length (with_turns os ts us) ≡ length us
with_turns_long [] ts us = refl
with_turns_long (o ∷ os) ts us = length-set (with_turns os ts us) o (slice_index ts o) ∙ with_turns_long os ts us

with_turns_in : (y : ℕ) (os ts us : List ℕ) → 0 < times y os → y < length us → slice_index (with_turns os ts us) y ≡ slice_index ts y
with_turns_in y [] ts us h l = absurd (omega arith)
with_turns_in y (o ∷ os) ts us h l = dite (ℕ_discrete y o)
    (λ same. ap (λ (z : ℕ). get_or (set (with_turns os ts us) z (slice_index ts z)) y 0) (sym same) ∙ get_or-set_same (with_turns os ts us) y (slice_index ts y) 0 (let e = with_turns_long os ts us in omega arith))
    (λ other. get_or-set_other (with_turns os ts us) o y (slice_index ts o) 0 other ∙ with_turns_in y os ts us (let z : one_where (eqb y o) ≡ 0 = ap one_where (ne_eqb y o other) in omega arith) l)

with_turns_out : (y : ℕ) (os ts us : List ℕ) → times y os ≡ 0 → slice_index (with_turns os ts us) y ≡ slice_index us y
with_turns_out y [] ts us h = refl
with_turns_out y (o ∷ os) ts us h = get_or-set_other (with_turns os ts us) o y (slice_index ts o) 0 (λ same. let z : one_where (eqb y o) ≡ 1 = ap one_where (eq-eqb y o same) in omega arith)
    ∙ with_turns_out y os ts us (omega arith)

either_first : (a b : FirstPart) → bit a.first + bit b.first ≤ 1 → bit (if a.first then a else b).first ≡ bit a.first + bit b.first
either_first a b few = go a.first refl few
  where
    go : (c : Bool) → a.first ≡ c → bit c + bit b.first ≤ 1 → bit (if c then a else b).first ≡ bit c + bit b.first
    go true e few = let z = ap bit e in omega arith
    go false e few = omega arith

either_knows : (a b : FirstPart) (q : Qdisc) → (a.first ≡ true → (a.phase ≡ q.phase) × (a.purge ≡ q.purge)) → (b.first ≡ true → (b.phase ≡ q.phase) × (b.purge ≡ q.purge))
    → (if a.first then a else b).first ≡ true → ((if a.first then a else b).phase ≡ q.phase) × ((if a.first then a else b).purge ≡ q.purge)
either_knows a b q f g = go a.first refl
  where
    go : (c : Bool) → a.first ≡ c → (if c then a else b).first ≡ true → ((if c then a else b).phase ≡ q.phase) × ((if c then a else b).purge ≡ q.purge)
    go true e _ = f e
    go false e h = g h

either_owner : (a b : FirstPart) (xs ys : List ℕ) → (a.first ≡ true → 0 < times 0 xs) → (b.first ≡ true → 0 < times 0 ys) → (if a.first then a else b).first ≡ true → 0 < times 0 (xs ++ ys)
either_owner a b xs ys f g = go a.first refl
  where
    go : (c : Bool) → a.first ≡ c → (if c then a else b).first ≡ true → 0 < times 0 (xs ++ ys)
    go true e _ = let h = f e in let all = times_append 0 xs ys in omega arith
    go false e h = let h' = g h in let all = times_append 0 xs ys in omega arith

either_trail : (a b : FirstPart) (xs ys trail : List Event) → (a.first ≡ true → xs ≡ trail) → (b.first ≡ true → ys ≡ trail) → (if a.first then a else b).first ≡ true → (if a.first then xs else ys) ≡ trail
either_trail a b xs ys trail f g = go a.first refl
  where
    go : (c : Bool) → a.first ≡ c → (if c then a else b).first ≡ true → (if c then xs else ys) ≡ trail
    go true e _ = f e
    go false e h = g h

either_came : (a b : FirstPart) (origin : DeviceState) → (a.first ≡ true → a.origin ≡ origin) → (b.first ≡ true → b.origin ≡ origin) → (if a.first then a else b).first ≡ true → (if a.first then a else b).origin ≡ origin
either_came a b origin f g = go a.first refl
  where
    go : (c : Bool) → a.first ≡ c → (if c then a else b).first ≡ true → (if c then a else b).origin ≡ origin
    go true e _ = f e
    go false e h = g h

either_stays : (a b : FirstPart) → a.first ≡ true → (if a.first then a else b).first ≡ true
either_stays a b e = ap (λ (c : Bool). (if c then a else b).first) e ∙ e

rest_unlocked : (position : Position) → at_rest position ≡ true → holds_lock position ≡ false
rest_unlocked Idle rest = refl
rest_unlocked (Control true) rest = absurd (true≢false (sym rest))
rest_unlocked (Control false) rest = refl
rest_unlocked _ rest = absurd (false≢true rest)

each_joined : (P : View → Type 0) (views : List View) (id other : ℕ) (both gone : View) → Each P views → P both → P gone → Each P (set (set views id both) other gone)
each_joined P views id other both gone h mine theirs = each_same P (set views id both) other gone (each_same P views id both h mine) theirs

module _ (k : Setup) where
  pub joins : (id : ℕ) (v : View) (other : ℕ) (w : View) → 0 < v.share.shares → 0 < w.share.shares → at_rest w.place.position ≡ true → w.place.raised ≡ false → w.packets ≡ no_packets → w.locks ≡ all_three unlocked → Joins (Rule k) id v other w (join_view v w) spent
  joins id v other w some_share some_share' idle calm no_packet bare s r at_id apart there =
      let none_owed : w.packets.owed ≡ None = ap (λ (x : PacketPart). x.owed) no_packet in
      let p = r.parts in let q = r.qdisc in let g = r.state in let a = account k g in let W = words_of k s.words in let D : HolderPart = holders g a W.size in let vs = s.views in let both : View = join_view v w in let mid = set vs id both in
      let live : is_live v ≡ true = lt-ltb 0 v.share.shares some_share in let live_w : is_live w ≡ true = lt-ltb 0 w.share.shares some_share' in let live' : is_live both ≡ true = lt-ltb 0 both.share.shares (omega arith) in
      let was : get_elem? vs other ≡ some w = ⊎_elim (λ (t : (other ≡ id) × (both ≡ w)). absurd (apart t.0)) (λ (t : (other ≢ id) × (get_elem? vs other ≡ some w)). t.1) (at_set vs id other both w there) in
      let sum : (y : ℕ) → times y both.share.owners ≡ times y v.share.owners + times y w.share.owners = λ y. times_append y v.share.owners w.share.owners in
      let m = middle mid other w there live_w in
      let first : IsInductive (machine_of q mid) = closed vs id v at_id live both q v.place live' refl (opened vs id v at_id live q p.machine.invariant) in
      let turn_mine = p.seats.given.words_are id v at_id live in let turn_theirs = p.seats.given.words_are other w was live_w in
      let both_words : KnowsWords k.senders W.turns both.share.owners both.turns = (
        with_turns_long w.share.owners w.turns v.turns ∙ turn_mine.0,
        λ y h. dite (dec_le 1 (times y w.share.owners))
            (λ yes. with_turns_in y w.share.owners w.turns v.turns yes (let small = (p.seats.packets other w was).own y yes in let long = turn_mine.0 in omega arith) ∙ turn_theirs.1 y yes)
            (λ no_. with_turns_out y w.share.owners w.turns v.turns (omega arith) ∙ turn_mine.1 y (let d = sum y in omega arith)),
      ) in
      let knows : (o : Option Packet) → Owns k v.share v.packets.busy o → Owns k both.share v.packets.busy o = λ o h y e. let a = h y e in let n = a.1 in (a.0, (let d = sum y.owner in omega arith), a.2, a.3, a.4) in
      let mine = p.seats.packets id v at_id in let theirs = p.seats.packets other w was in let turn = p.seats.turns.knows id v at_id in record {
        home = r.home;
        qdisc = q;
        state = g;
        setup = r.setup;
        wide = r.wide;
        deep = r.deep;
        parts = record {
          seats = record {
            shares = record {
              sum = let a = total_set (λ u. u.share.shares) vs id v both at_id in let b = total_set (λ u. u.share.shares) mid other w spent there in let c = p.seats.shares.sum in omega arith;
              owners = λ y h. let a = total_set (λ u. times y u.share.owners) vs id v both at_id in let b = total_set (λ u. times y u.share.owners) mid other w spent there in let c = p.seats.shares.owners y h in let d = sum y in omega arith;
              about = each_joined (λ u. is_live u ≡ true → u.share.about ≡ k) vs id other both spent p.seats.shares.about (λ _. p.seats.shares.about id v at_id live) (λ e. absurd (false≢true e));
              spent = each_joined (λ u. is_live u ≡ false → (u.packets ≡ no_packets) × (u.locks ≡ all_three unlocked)) vs id other both spent p.seats.shares.spent (λ gone. absurd (true≢false (sym live' ∙ gone))) (λ _. (refl, refl));
            };
            packets = each_joined (λ u. KnowsPackets k g.past a u.share u.packets) vs id other both spent p.seats.packets
                (record {
                  own = λ y h. dite (dec_le 1 (times y v.share.owners)) (λ yes. mine.own y (omega arith)) (λ no_. theirs.own y (let d = sum y in omega arith));
                  fresh = λ n e. let f = mine.fresh n e in let f0 = f.0 in ((let d = sum (owner_in k.infos n) in omega arith), f.1);
                  owed = mine.owed;
                })
                record { own = λ y h. absurd (omega arith); fresh = λ n e. absurd (none_some e); owed = λ n f e. absurd (none_some e) };
            turns = record {
              long = p.seats.turns.long;
              brought = p.seats.turns.brought;
              knows = each_joined (λ u. KnowsTurn k W.turns u.share u.packets) vs id other both spent p.seats.turns.knows
                  (record { busy = λ n e. (let f = turn.busy n e in let f0 = f.0 in ((let d = sum (owner_in k.infos n) in omega arith), f.1)); fresh = turn.fresh }) record { busy = λ n e. absurd (none_some e); fresh = λ n e. absurd (none_some e) };
            };
            given = given_with k mid other w spent there W.turns {past = g.past} (given_with k vs id v both at_id W.turns {past = g.past} p.seats.given refl refl refl (each_same (λ u. is_live u ≡ true → KnowsWords k.senders W.turns u.share.owners u.turns) vs id both p.seats.given.words_are (λ _. both_words))) (ap (λ (x : PacketPart). x.busy) (sym no_packet)) (ap (λ (x : PacketPart). x.fresh) (sym no_packet)) refl
                (each_joined (λ u. is_live u ≡ true → KnowsWords k.senders W.turns u.share.owners u.turns) vs id other both spent p.seats.given.words_are (λ _. both_words) (λ e. absurd (false≢true e)));
            settled = record {
              written = p.seats.settled.written;
              stand = each_joined (λ u. (n : ℕ) (f : Fate) → Contains u.settled (n, f) → slice_index W.fates n ≡ word_of f) vs id other both spent p.seats.settled.stand
                  (λ n f has. ⊎_elim (p.seats.settled.stand id v at_id n f) (p.seats.settled.stand other w was n f) (Contains-append_cases v.settled w.settled (n, f) has)) (none_settled W.fates);
            };
            trails = record {
              owner = each_joined (λ u. u.control.first ≡ true → 0 < times 0 u.share.owners) vs id other both spent p.seats.trails.owner (either_owner v.control w.control v.share.owners w.share.owners (p.seats.trails.owner id v at_id) (p.seats.trails.owner other w was)) (λ e. absurd (false≢true e));
              knows = each_joined (λ u. u.control.first ≡ true → u.trail ≡ trail_of k.infos g.past) vs id other both spent p.seats.trails.knows (either_trail v.control w.control v.trail w.trail (trail_of k.infos g.past) (p.seats.trails.knows id v at_id) (p.seats.trails.knows other w was)) (λ e. absurd (false≢true e));
              came = each_joined (λ u. u.control.first ≡ true → u.control.origin ≡ g.origin) vs id other both spent p.seats.trails.came (either_came v.control w.control g.origin (p.seats.trails.came id v at_id) (p.seats.trails.came other w was)) (λ e. absurd (false≢true e));
            };
            gone = record { each = each_joined (λ u. (unit : ℕ) (sent : List ℕ) → Contains u.control.gone (unit, sent) → IsGone k g.past unit sent) vs id other both spent p.seats.gone.each (either_gone k g.past v.control w.control (p.seats.gone.each id v at_id) (p.seats.gone.each other w was)) (none_gone k g.past) };
            sole = each_joined (λ u. u.share.shares ≡ 1024 → u.whole.told ≡ true → (u.whole.qdisc ≡ q) × (u.whole.state ≡ g)) vs id other both spent p.seats.sole (λ _ e. absurd (false≢true e)) (λ all. absurd (omega arith));
          };
          machine = record {
            invariant = subst (λ (ss : List Seat). IsInductive (record { qdisc = q; seats = ss })) (sym (m.gone spent refl))
                (core.leaves q (extends (record w.place { position = Idle }) m.before m.after refl calm) (to_idle q m.before m.after w.place w.place.position refl idle (opened mid other w there live_w q first)));
            hands = each_joined (λ u. is_live u ≡ true → Owns k u.share u.packets.busy (own_packet u.place.position)) vs id other both spent p.machine.hands (λ _. knows (own_packet v.place.position) (p.machine.hands id v at_id live)) (λ e. absurd (false≢true e));
            firsts = record {
              one = let a = total_set (λ u. bit u.control.first) vs id v both at_id in let b = total_set (λ u. bit u.control.first) mid other w spent there in let c = p.machine.firsts.one in
                  let two = total_two (λ u. bit u.control.first) vs id other v w at_id was apart in let d = either_first v.control w.control (omega arith) in omega arith;
              live = each_joined (λ u. u.control.first ≡ true → is_live u ≡ true) vs id other both spent p.machine.firsts.live (λ _. live') (λ e. absurd (false≢true e));
              knows = each_joined (λ u. u.control.first ≡ true → (u.control.phase ≡ q.phase) × (u.control.purge ≡ q.purge)) vs id other both spent p.machine.firsts.knows (either_knows v.control w.control q (p.machine.firsts.knows id v at_id) (p.machine.firsts.knows other w was)) (λ e. absurd (false≢true e));
              control = each_joined (λ u. is_live u ≡ true → is_control u.place.position ≡ true → u.control.first ≡ true) vs id other both spent p.machine.firsts.control (λ _ control. let f = p.machine.firsts.control id v at_id live control in either_stays v.control w.control f) (λ e. absurd (false≢true e));
            };
          };
          station = record {
            stands = p.station.stands;
            ties = p.station.ties;
            lends = record {
              home = p.station.lends.home;
              away = p.station.lends.away;
              knows = each_joined (KnowsHolder k.infos W.xoff g.past D) vs id other both spent p.station.lends.knows (λ _. p.station.lends.knows id v at_id live) (λ e. absurd (false≢true e));
            };
            fates = fates_same k mid other w spent there W.fates a a g.resizing g.left (fates_same k vs id v both at_id W.fates a a g.resizing g.left p.station.fates refl (λ _. refl)) (sym none_owed) (λ _. refl);
            rings = rings_same k mid other w spent there k.max_len W.size W.producers W.slots a.len (bands_now g.left a.bands) g.ends g.resizing
                (rings_same k vs id v both at_id k.max_len W.size W.producers W.slots a.len (bands_now g.left a.bands) g.ends g.resizing p.station.rings refl (λ _ _ _ h. (live', h)))
                (sym bare) (λ _ _ _ h. absurd (true≢false (sym h ∙ rest_unlocked w.place.position idle)));
            stops = p.station.stops;
          };
          account = p.account;
        };
      }

  -- a load, at which a seat is learn_view the whole state; where it isn't sole it may lose it again
  pub learns : (slots id : ℕ) (m : Sat) → 0 < m.0.share.shares → Allows (Rule k) slots id m 0 (λ x. x) (learn_told (step slots 0 0 0 none) m)
  learns slots id m some_share s r deep at_id small =
      let v : View = m.0 in let p = r.parts in let q = r.qdisc in let g = r.state in let a = account k g in let W = words_of k s.words in let D : HolderPart = holders g a W.size in let w : View = learn_view q g v in let live : is_live v ≡ true = lt-ltb 0 v.share.shares some_share in (
        w,
        keeps,
        tt,
        rule_after k s r 0 (get_or s.words 0 0) id s.homes r.home w W q g a r.deep (set_back k s.words 0) refl record {
          seats = seats_settled k s r id v w at_id live W.fates q g refl refl refl (packets_same k s.views id v w at_id g.past a p.seats.packets refl refl) (settled_same s.views id v w at_id W.fates p.seats.settled refl)
              (each_same (λ u. u.share.shares ≡ 1024 → u.whole.told ≡ true → (u.whole.qdisc ≡ q) × (u.whole.state ≡ g)) s.views id w p.seats.sole (λ _ _. (refl, refl)));
          machine = moves k s r id v w at_id live q refl refl (closed s.views id v at_id live w q v.place live refl (opened s.views id v at_id live q p.machine.invariant)) (λ y e. e)
              (firsts_same k s.views id v w at_id q.phase q.phase q.purge q.purge p.machine.firsts live refl refl refl refl (λ c. c));
          station = station_kept k s r id v w at_id W r.home q g a refl (λ _. refl) refl (λ _ _ l h. (l, h))
              p.station.stands
              p.station.ties
              (lends_step k.infos W.xoff W.xoff g.past g.past same_past same_xoff q.locked r.home s.views D id v w at_id p.station.lends (p.station.lends.knows id v at_id))
              p.station.stops;
          account = p.account;
        },
        (q, g, refl),
      )

few_shares : (k : Setup) (s : table.State (Option StationState) View) (id : ℕ) (v : View) → Rule k s → get_elem? s.views id ≡ some v → v.share.shares ≤ 1024
few_shares k s id v r here = let one = total_one (λ (u : View). u.share.shares) s.views id v here in let sum = r.parts.seats.shares.sum in omega arith

pub learns_all : (k : Setup) (slots id : ℕ) (m : Sat) → 0 < m.0.share.shares → Allows (Rule k) slots id m 0 (λ x. x) (learn_told_all (step slots 0 0 0 none) m)
learns_all k slots id m h = also k slots id m 0 (λ x. x) (λ x m'. learn_told (step slots 0 0 0 none) m x m') (λ _. m.0.share.shares ≤ 1024) (λ s r here. few_shares k s id m.0 r here) (learns k slots id m h)
