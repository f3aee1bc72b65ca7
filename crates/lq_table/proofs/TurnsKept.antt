-- What the steps on a turn word share.
use Rattle.std.proofs.Common.{◌≡◌, ◌≢◌, ℕ, ◌<◌, Bool, true, List, length, set, refl, sym, ap, ◌∙◌, subst, arith, Option, Some, None, eq-eqb, ne_eqb, get_or, length-set, get_or-set_same, get_or-set_other}
use Rattle.std.specs.Prelude.{if◌then◌else◌, nat_lt}
use Rattle.lq_model.specs.Positions.{holds_lock, own_packet}
use Rattle.lq_model.specs.declared.machine.Seat.{Seat}
use Rattle.lq_model.specs.declared.fate.Info.{Info}
use Rattle.std.proofs.lemmas.Bool.{ltb-true}
use mathlib.Core.Logic.{dite}
use mathlib.Core.Option.{some}
use lib.ListN.{get_elem?}
use native.Mathlib.Decide.{ℕ_discrete}
use Rattle.atomic_table.specs.Table as table
use Rattle.lq_device.specs.Station.{StationState}
use Rattle.lq_model.specs.Plan.{owner_in}
use Rattle.lq_band_laws.specs.Seats.{Each}
use Rattle.lq_band_laws.proofs.Seats.{each_step, each_same}
use Rattle.lq_table.specs.Places.{turn_place}
use Rattle.lq_table.specs.Views.{View, Setup, SharePart, HolderPart}
use Rattle.lq_table.specs.Rule.{words_of, times, is_live, account, holders, Holder, KnowsPackets, KnowsTurn, KnowsWords, has_turn, Given, Turns, Rule}
use Rattle.lq_table.proofs.UnitsKept.{gone_same}
use Rattle.lq_table.proofs.ByName.{set_turn}
use Rattle.lq_table.proofs.Accounts.{owners_apart}
use Rattle.lq_table.proofs.SettledKept.{settled_same}
use Rattle.lq_table.proofs.TrailsKept.{trails_same}
use Rattle.lq_table.proofs.Frames.{shares_same, sole_step, rule_after, stays_out, lends_step, same_past, same_xoff}
use Rattle.lq_table.proofs.StationFrames.{station_kept, stands_same}

-- whose turn it is counts at that packet's owner
pub has_mine : (infos : List Info) (n y : ℕ) → owner_in infos n ≡ y → has_turn infos y (Some n) ≡ 1
has_mine infos n y e = ap (λ (b : Bool). if b then 1 else 0) (eq-eqb (owner_in infos n) y e)

pub has_other : (infos : List Info) (n y : ℕ) → owner_in infos n ≢ y → has_turn infos y (Some n) ≡ 0
has_other infos n y e = ap (λ (b : Bool). if b then 1 else 0) (ne_eqb (owner_in infos n) y e)

module _ (k : Setup) (s : table.State (Option StationState) View) (r : Rule k s) (id : ℕ) (v w : View) (here : get_elem? s.views id ≡ some v) (live : is_live v ≡ true) (o : ℕ) (small : o < k.senders) (mine : 0 < times o v.share.owners) (x : ℕ) where
  pub same_word : get_or (set (words_of k s.words).turns o x) o 0 ≡ x
  same_word = get_or-set_same (words_of k s.words).turns o x 0 (let l = r.parts.seats.turns.long in omega arith)

  pub other_word : (y : ℕ) → y ≢ o → get_or (set (words_of k s.words).turns o x) y 0 ≡ get_or (words_of k s.words).turns y 0
  other_word y h = get_or-set_other (words_of k s.words).turns o y x 0 h

  -- the other seats know of their turns what they knew
  pub others_turns : (j : ℕ) (u : View) → j ≢ id → get_elem? s.views j ≡ some u → KnowsTurn k (words_of k s.words).turns u.share u.packets → KnowsTurn k (set (words_of k s.words).turns o x) u.share u.packets
  others_turns j u apart at_j y = record {
    busy = λ l h. let b = y.busy l h in (b.0, other_word (owner_in k.infos l) (λ e. owners_apart k s.views r.parts.seats.shares id j v u o (owner_in k.infos l) small here at_j apart mine b.0 e) ∙ b.1);
    fresh = y.fresh;
  }

  -- each seat knows the words of its owners
  pub words_after : w.share ≡ v.share → w.turns ≡ set v.turns o x → Each (λ u. is_live u ≡ true → KnowsWords k.senders (set (words_of k s.words).turns o x) u.share.owners u.turns) (set s.views id w)
  words_after share turns = each_step (λ u. is_live u ≡ true → KnowsWords k.senders (words_of k s.words).turns u.share.owners u.turns) (λ u. is_live u ≡ true → KnowsWords k.senders (set (words_of k s.words).turns o x) u.share.owners u.turns) s.views id w r.parts.seats.given.words_are
      (λ _. let old = r.parts.seats.given.words_are id v here live in (
        ap length turns ∙ (length-set v.turns o x ∙ old.0),
        λ y h. dite (ℕ_discrete y o)
            (λ same. ap (λ (ts : List ℕ). get_or ts y 0) turns ∙ (ap (λ (z : ℕ). get_or (set v.turns o x) z 0) same ∙ (get_or-set_same v.turns o x 0 (let l = old.0 in omega arith) ∙ (sym same_word ∙ ap (λ (z : ℕ). get_or (set (words_of k s.words).turns o x) z 0) (sym same)))))
            (λ other. ap (λ (ts : List ℕ). get_or ts y 0) turns ∙ (get_or-set_other v.turns o y x 0 other ∙ (old.1 y (subst (λ (z : SharePart). 0 < times y z.owners) share h) ∙ sym (other_word y other)))),
      ))
      (λ j u apart at_j y live_u. let old = y live_u in (old.0, λ z h. old.1 z h ∙ sym (other_word z (λ e. owners_apart k s.views r.parts.seats.shares id j v u o z small here at_j apart mine h e))))

  -- the rule after it, from the parts that speak of turns
  pub turn_stored : own_packet v.place.position ≡ None → w.share ≡ v.share → w.place ≡ v.place → w.control ≡ v.control → w.locks ≡ v.locks → w.holder ≡ v.holder → w.whole ≡ v.whole → w.settled ≡ v.settled → w.trail ≡ v.trail → w.packets.owed ≡ v.packets.owed
      → KnowsPackets k r.state.past (account k r.state) w.share w.packets
      → Turns k (set (words_of k s.words).turns o x) (set s.views id w) r.state.past → Given k (set (words_of k s.words).turns o x) (set s.views id w) r.state.past
      → Rule k record { words = set s.words (turn_place o) x; homes = s.homes; views = set s.views id w }
  turn_stored out share place control locks holder whole settled trail owed packets turns given =
      let p = r.parts in let g = r.state in let a = account k g in let q = r.qdisc in let W = words_of k s.words in let D : HolderPart = holders g a W.size in let mach = stays_out k s r id v w here live place share out control in
      rule_after k s r (turn_place o) x id s.homes r.home w (record W { turns = set W.turns o x }) q g a r.deep (set_turn k s.words x o small (let wide = r.wide in omega arith)) refl record {
        seats = record {
          shares = shares_same k s.views id v w here live p.seats.shares share;
          packets = each_same (λ u. KnowsPackets k g.past a u.share u.packets) s.views id w p.seats.packets packets;
          turns = turns;
          given = given;
          settled = settled_same s.views id v w here W.fates p.seats.settled settled;
          trails = trails_same k.infos s.views id v w here p.seats.trails share (ap (λ z. z.first) control) (ap (λ z. z.origin) control) trail refl;
          gone = gone_same k s.views id v w here p.seats.gone (ap (λ z. z.gone) control);
          sole = sole_step k s.views id v w here q q g g p.seats.shares p.seats.sole (ltb-true 0 v.share.shares live) share (ap (λ z. z.told) whole) (λ e1 e2. (ap (λ z. z.qdisc) whole ∙ e1, ap (λ z. z.state) whole ∙ e2));
        };
        machine = mach;
        station = station_kept k s r id v w here (record W { turns = set W.turns o x }) r.home q g a refl (λ _. refl) (λ j. (owed j, locks j)) (λ _ _ l h. (ap (λ (z : SharePart). nat_lt 0 z.shares) share ∙ l, ap (λ (z : Seat). holds_lock z.position) place ∙ h))
            (stands_same p.station.stands refl)
            p.station.ties
            (lends_step k.infos W.xoff W.xoff g.past g.past same_past same_xoff q.locked r.home s.views D id v w here p.station.lends
            (subst (λ (z : SharePart × Seat × HolderPart). nat_lt 0 z.0.shares ≡ true → holds_lock z.1.position ≡ true → Holder k.infos W.xoff g.past D z.1.position z.2) (λ j. (sym share j, sym place j, sym holder j)) (p.station.lends.knows id v here)))
            p.station.stops;
        account = p.account;
      }
