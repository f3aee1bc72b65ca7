-- `split` keeps the rule of the table.
use Rattle.std.proofs.Common.{◌≡◌, ◌⊎◌, ℕ, ◌+◌, ◌*◌, ◌<◌, ◌≤◌, Bool, true, false, true≢false, List, [], ◌∷◌, ◌++◌, length, slice_index, set, refl, sym, ap, ◌∙◌, subst, arith, inl, inr, ⊎_elim, Option, Some, None, ne_eqb}
use Rattle.std.specs.Prelude.{if◌then◌else◌, Contains}
use Rattle.std.proofs.lemmas.Bool.{false≢true, lt-ltb}
use Rattle.std.proofs.lemmas.List.{append-nil, map_push}
use Rattle.atomic_table.specs.Table.{Splits}
use Rattle.lq_model.specs.Account.{Account}
use Rattle.lq_model.specs.Legal.{brought_by}
use Rattle.lq_model.specs.Words.{word_of}
use Rattle.lq_model.specs.declared.fate.Fate.{Fate}
use Rattle.lq_model.specs.Band.{Band}
use Rattle.lq_model.specs.declared.fate.Info.{Info}
use Rattle.lq_model.specs.declared.machine.Position.{Position}
use Rattle.lq_model.specs.declared.machine.Position.TheVariants.{Control}
use Rattle.lq_model.specs.declared.machine.Seat.{Seat}
use Rattle.lq_model.specs.Machine.{Qdisc, Purge, idle_seat, bit}
use Rattle.lq_model.specs.Control.{is_quiet, is_control}
use Rattle.lq_model.specs.Positions.{own_packet}
use Rattle.lq_model.specs.Kept.{IsInductive}
use Rattle.lq_run_laws.proofs.Seats.{extends}
use Rattle.lq_band_laws.specs.Seats.{total, Each}
use Rattle.lq_band_laws.specs.Three.{Three, at, all_three}
use Rattle.lq_band_laws.specs.Ring.{Ends, Lock, unlocked, locking, IsRing}
use Rattle.lq_band_laws.specs.HalfResized.{IsHalfResized}
use Rattle.lq_band_laws.proofs.StoredKept.{stored_as}
use Rattle.lq_band_laws.proofs.Seats.{total_set, total_same, total_snoc, total_one, each_snoc, each_same}
use Rattle.lq_band_laws.proofs.Three.{at_all}
use Rattle.lq_table.specs.Views.{View, Setup, HolderPart, Left, HalfResize, no_packets}
use Rattle.lq_table.specs.Rule.{words_of, account, holders, times, is_live, seats_of, KnowsHolder, KnowsPackets, Owns, owes, KnowsTurn, has_turn, KnowsWords, locks_at, IsLocker, Rings, bands_now, Rule, unstored, FatesStored, IsGone}
use Rattle.lq_table.proofs.UnitsKept.{none_gone}
use Rattle.lq_table.specs.Moves.{at_rest}
use Rattle.lq_table.specs.Seats.{without, split_view, split_view_new}
use Rattle.lq_account_laws.specs.Trail.{trail_of}
use Rattle.lq_run_laws.proofs.Among.{among-at as here, among-within as inside}
use Rattle.lq_table.proofs.Middle.{middle}
use Rattle.lq_table.proofs.Facts.{one_where, none_settled, rest_owns}
use Rattle.lq_table.proofs.Frames.{none_some, fates_same, rings_same, opened}
use Rattle.lq_table.proofs.PurgeEnds.{ring_snoc}
use Rattle.lq_table.proofs.SeatsKept.{times_one, times_without}
use Rattle.lq_run_laws.proofs.SeatsKept as core

seats_snoc : (views : List View) (w : View) → is_live w ≡ true → seats_of (views ++ w ∷ []) ≡ seats_of views ++ w.place ∷ []
seats_snoc [] w live = ap (λ (b : Bool). if b then w.place ∷ [] else []) live
seats_snoc (x ∷ xs) w live = more (is_live x) x.place (seats_of (xs ++ w ∷ [])) (seats_of xs) (seats_snoc xs w live)
  where
    more : (b : Bool) (p : Seat) (ss ts : List Seat) → ss ≡ ts ++ w.place ∷ [] → (if b then p ∷ ss else ss) ≡ (if b then p ∷ ts else ts) ++ w.place ∷ []
    more true p ss ts e = ap (λ (zs : List Seat). p ∷ zs) e
    more false p ss ts e = e

rest_apart : (position : Position) → at_rest position ≡ true → position ≡ Control true → ⊥
rest_apart position rest e = absurd (let c = ap at_rest e in cc)

-- beside a seat at rest a purge that is half done is one of a deactivation
rest_calm : (q : Qdisc) (xs ys : List Seat) (s : Seat) → at_rest s.position ≡ true → IsInductive (record { qdisc = q; seats = xs ++ s ∷ ys }) → (o : Option Purge) → q.purge ≡ o → (q.purge ≡ None) ⊎ (is_quiet q.phase ≡ true)
rest_calm q xs ys s rest h None e = inl e
rest_calm q xs ys s rest h (Some u) e = ⊎_elim (λ still. inr still)
    (λ all. absurd (rest_apart s.position rest (sym (ap (λ (t : Seat). t.position) (here xs ys s)) ∙ all (length xs) (inside xs ys s)))) (h.purging u e).alone

locks_snoc : (b : ℕ) (views : List View) (w : View) → w.locks ≡ all_three unlocked → locks_at b (views ++ w ∷ []) ≡ locks_at b views ++ unlocked ∷ []
locks_snoc b views w e = map_push (λ v. at b v.locks) views w ∙ ap (λ (l : Lock). locks_at b views ++ l ∷ []) (ap (at b) e ∙ at_all b unlocked)

half_resized_snoc : (slots : List ℕ) (word : ℕ) (seats : List Lock) (band : Band) (waiting known hand : List ℕ) → IsHalfResized slots word seats band waiting known hand → IsHalfResized slots word (seats ++ unlocked ∷ []) band waiting known hand
half_resized_snoc slots word seats band waiting known hand t = record {
  index = t.index;
  known_is = t.known_is;
  none_taken = t.none_taken;
  word_is = t.word_is;
  one = let a = total_snoc locking seats unlocked in let o = t.one in omega arith;
  knows = each_snoc (λ l. l.holds ≡ true → l.index ≡ t.index) seats unlocked t.knows (λ e. absurd (false≢true e));
  none_stored = each_snoc (λ l. l.stored ≡ false) seats unlocked t.none_stored refl;
  once = t.once;
}

rings_snoc : (m size : ℕ) (ps : Three ℕ) (ss : Three (List ℕ)) (views : List View) (len : ℕ) (bands : ℕ → Band) (ends : Three Ends) (resizing : Option HalfResize) (w : View) → w.locks ≡ all_three unlocked → Rings m size ps ss views len bands ends resizing
    → Rings m size ps ss (views ++ w ∷ []) len bands ends resizing
rings_snoc m size ps ss views len bands ends resizing w bare r = record {
  positive = r.positive;
  within = r.within;
  running = λ calm. let x = r.running calm in record {
    size_is = x.size_is;
    ring = λ b h. subst (λ (ls : List Lock). IsRing size (at b ss) (at b ps) ls (bands b) (at b ends)) (sym (locks_snoc b views w bare)) (ring_snoc size (at b ss) (at b ps) (locks_at b views) (bands b) (at b ends) (x.ring b h));
  };
  half_resized = λ t now. let x = r.half_resized t now in record {
    len_is = x.len_is;
    len_positive = x.len_positive;
    len_within = x.len_within;
    kept = x.kept;
    ring = λ b h. subst (λ (ls : List Lock). IsHalfResized (at b ss) (at b ps) ls (bands b) (at b t.works).waiting (at b t.works).slots (at b t.works).hand) (sym (locks_snoc b views w bare))
        (half_resized_snoc (at b ss) (at b ps) (locks_at b views) (bands b) (at b t.works).waiting (at b t.works).slots (at b t.works).hand (x.ring b h));
    control = each_snoc IsLocker views w x.control (λ b h has. absurd (true≢false (sym has ∙ ap (λ (l : Lock). l.holds) (ap (at b) bare ∙ at_all b unlocked))));
  };
}

fates_snoc : (infos : List Info) (words : List ℕ) (views : List View) (a : Account) (resizing : Option HalfResize) (left : Option Left) (w : View) → w.packets.owed ≡ None → FatesStored infos words views a resizing left → FatesStored infos words (views ++ w ∷ []) a resizing left
fates_snoc infos words views a resizing left w none_owed f = let same : (n : ℕ) → total (λ v. owes n v.packets.owed) (views ++ w ∷ []) ≡ total (λ v. owes n v.packets.owed) views = λ n. (let e = total_snoc (λ v. owes n v.packets.owed) views w in let z : owes n w.packets.owed ≡ 0 = ap (owes n) none_owed in omega arith) in record {
  stored = stored_as (length infos) words (unstored views resizing left) a.fates f.stored (unstored (views ++ w ∷ []) resizing left) a.fates (λ n. let e = same n in omega arith) (λ _. refl);
  shrunk = f.shrunk;
  purged = f.purged;
}

-- what each seat has, after a split of one of them and after a join of two
each_split : (P : View → Type 0) (views : List View) (id : ℕ) (left right : View) → Each P views → P left → P right → Each P (set views id left ++ right ∷ [])
each_split P views id left right h mine theirs = each_snoc P (set views id left) right (each_same P views id left h mine) theirs

module _ (k : Setup) where
  pub splits : (id : ℕ) (v : View) (o : ℕ) → 2 ≤ v.share.shares → 0 < times o v.share.owners → at_rest v.place.position ≡ true → v.packets.fresh ≡ None → v.packets.busy ≡ None → 0 < o → Splits (Rule k) id v (split_view o v) (split_view_new o v)
  splits id v o many has idle none_fresh none_busy other_owner s r at_id =
      let p = r.parts in let q = r.qdisc in let g = r.state in let a = account k g in let W = words_of k s.words in let D : HolderPart = holders g a W.size in let left : View = split_view o v in let right : View = split_view_new o v in let vs = s.views in
      let live : is_live v ≡ true = lt-ltb 0 v.share.shares (omega arith) in let live' : is_live left ≡ true = lt-ltb 0 left.share.shares (omega arith) in
      let less : (y : ℕ) → times y (without o v.share.owners) + times y (o ∷ []) ≡ times y v.share.owners = λ y. times_without o y v.share.owners has in
      let mid = middle vs id v at_id live in let same : seats_of (set vs id left) ≡ seats_of vs = mid.is left live' ∙ sym mid.was in
      let know = p.seats.packets id v at_id in let own = know.own o has in
      let turns_as : (y : ℕ) → total (λ u. has_turn k.infos y u.packets.busy) (set vs id left ++ right ∷ []) ≡ total (λ u. has_turn k.infos y u.packets.busy) vs =
      λ y. (let a = total_snoc (λ u. has_turn k.infos y u.packets.busy) (set vs id left) right in let b = total_same (λ u. has_turn k.infos y u.packets.busy) vs id v left at_id refl in omega arith) in
      let calm = rest_calm q mid.before mid.after v.place idle (opened vs id v at_id live q p.machine.invariant) q.purge refl in record {
        home = r.home;
        qdisc = q;
        state = g;
        setup = r.setup;
        wide = r.wide;
        deep = r.deep;
        parts = record {
          seats = record {
            shares = record {
              sum = let a = total_snoc (λ u. u.share.shares) (set vs id left) right in let b = total_set (λ u. u.share.shares) vs id v left at_id in let c = p.seats.shares.sum in omega arith;
              owners = λ y h. let a = total_snoc (λ u. times y u.share.owners) (set vs id left) right in let b = total_set (λ u. times y u.share.owners) vs id v left at_id in let c = p.seats.shares.owners y h in let d = less y in omega arith;
              about = each_split (λ u. is_live u ≡ true → u.share.about ≡ k) vs id left right p.seats.shares.about (λ _. p.seats.shares.about id v at_id live) (λ _. p.seats.shares.about id v at_id live);
              spent = each_split (λ u. is_live u ≡ false → (u.packets ≡ no_packets) × (u.locks ≡ all_three unlocked)) vs id left right p.seats.shares.spent (λ gone. absurd (true≢false (sym live' ∙ gone))) (λ _. (refl, refl));
            };
            packets = each_split (λ u. KnowsPackets k g.past a u.share u.packets) vs id left right p.seats.packets
                (record { own = λ y h. know.own y (let d = less y in omega arith); fresh = λ n e. absurd (none_some (sym none_fresh ∙ e)); owed = know.owed }) record { own = λ y h. subst (λ (z : ℕ). z < k.senders) (sym (times_one y o h)) own; fresh = λ n e. absurd (none_some e); owed = λ n f e. absurd (none_some e) };
            turns = record {
              long = p.seats.turns.long;
              brought = p.seats.turns.brought;
              knows = each_split (λ u. KnowsTurn k W.turns u.share u.packets) vs id left right p.seats.turns.knows (record { busy = λ n e. absurd (none_some (sym none_busy ∙ e)); fresh = λ n e. absurd (none_some (sym none_fresh ∙ e)) }) record { busy = λ n e. absurd (none_some e); fresh = λ n e. absurd (none_some e) };
            };
            given = record {
              turn = λ y h. let t = p.seats.given.turn y h in (t.0, t.1 ∙ ap (λ (z : ℕ). 2 * t.0 + z) (sym (turns_as y)));
              one = λ y h. let e = turns_as y in let m = p.seats.given.one y h in omega arith;
              over = p.seats.given.over;
              words_are = let old = p.seats.given.words_are id v at_id live in each_split (λ u. is_live u ≡ true → KnowsWords k.senders W.turns u.share.owners u.turns) vs id left right p.seats.given.words_are (λ _. (old.0, λ y h. old.1 y (let d = less y in omega arith))) (λ _. (old.0, λ y h. old.1 y (subst (λ (z : ℕ). 0 < times z v.share.owners) (sym (times_one y o h)) has)));
              now = each_split (λ u. (n : ℕ) → u.packets.busy ≡ Some n → u.packets.fresh ≡ None → Contains (brought_by g.past) n) vs id left right p.seats.given.now (p.seats.given.now id v at_id) (λ n e _. absurd (none_some e));
            };
            settled = record {
              written = p.seats.settled.written;
              stand = each_split (λ u. (n : ℕ) (f : Fate) → Contains u.settled (n, f) → slice_index W.fates n ≡ word_of f) vs id left right p.seats.settled.stand (p.seats.settled.stand id v at_id) (none_settled W.fates);
            };
            trails = record {
              owner = each_split (λ u. u.control.first ≡ true → 0 < times 0 u.share.owners) vs id left right p.seats.trails.owner
                  (λ is. let had = p.seats.trails.owner id v at_id is in let d = less 0 in
                  let z : times 0 (o ∷ []) ≡ 0 = ap (λ (b : Bool). one_where b + 0) (ne_eqb 0 o (λ e. omega arith)) in omega arith)
                  (λ e. absurd (false≢true e));
              knows = each_split (λ u. u.control.first ≡ true → u.trail ≡ trail_of k.infos g.past) vs id left right p.seats.trails.knows (p.seats.trails.knows id v at_id) (λ e. absurd (false≢true e));
              came = each_split (λ u. u.control.first ≡ true → u.control.origin ≡ g.origin) vs id left right p.seats.trails.came (p.seats.trails.came id v at_id) (λ e. absurd (false≢true e));
            };
            gone = record { each = each_split (λ u. (unit : ℕ) (sent : List ℕ) → Contains u.control.gone (unit, sent) → IsGone k g.past unit sent) vs id left right p.seats.gone.each (p.seats.gone.each id v at_id) (none_gone k g.past) };
            sole = each_split (λ u. u.share.shares ≡ 1024 → u.whole.told ≡ true → (u.whole.qdisc ≡ q) × (u.whole.state ≡ g)) vs id left right p.seats.sole (λ all. absurd (let one = total_one (λ u. u.share.shares) vs id v at_id in let sum = p.seats.shares.sum in omega arith)) (λ all. absurd (omega arith));
          };
          machine = record {
            invariant = subst (λ (ss : List Seat). IsInductive (record { qdisc = q; seats = ss })) (sym (seats_snoc (set vs id left) right refl ∙ ap (λ (ss : List Seat). ss ++ idle_seat ∷ []) same))
                (core.joins q (extends idle_seat (seats_of vs) [] refl refl) calm (subst (λ (ss : List Seat). IsInductive (record { qdisc = q; seats = ss })) (sym (append-nil (seats_of vs))) p.machine.invariant));
            hands = each_split (λ u. is_live u ≡ true → Owns k u.share u.packets.busy (own_packet u.place.position)) vs id left right p.machine.hands (λ _ y e. absurd (let c : None ≡ Some y = sym (rest_owns v.place.position idle) ∙ e in cc)) (λ _ y e. absurd (none_some e));
            firsts = record {
              one = let a = total_snoc (λ u. bit u.control.first) (set vs id left) right in let b = total_set (λ u. bit u.control.first) vs id v left at_id in let c = p.machine.firsts.one in omega arith;
              live = each_split (λ u. u.control.first ≡ true → is_live u ≡ true) vs id left right p.machine.firsts.live (λ _. live') (λ e. absurd (false≢true e));
              knows = each_split (λ u. u.control.first ≡ true → (u.control.phase ≡ q.phase) × (u.control.purge ≡ q.purge)) vs id left right p.machine.firsts.knows (p.machine.firsts.knows id v at_id) (λ e. absurd (false≢true e));
              control = each_split (λ u. is_live u ≡ true → is_control u.place.position ≡ true → u.control.first ≡ true) vs id left right p.machine.firsts.control (λ _. p.machine.firsts.control id v at_id live) (λ _ e. absurd (false≢true e));
            };
          };
          station = record {
            stands = p.station.stands;
            ties = p.station.ties;
            lends = record {
              home = p.station.lends.home;
              away = p.station.lends.away;
              knows = each_split (KnowsHolder k.infos W.xoff g.past D) vs id left right p.station.lends.knows (λ _. p.station.lends.knows id v at_id live) (λ _ e. absurd (false≢true e));
            };
            fates = fates_snoc k.infos W.fates (set vs id left) a g.resizing g.left right refl (fates_same k vs id v left at_id W.fates a a g.resizing g.left p.station.fates refl (λ _. refl));
            rings = rings_snoc k.max_len W.size W.producers W.slots (set vs id left) a.len (bands_now g.left a.bands) g.ends g.resizing right refl
                (rings_same k vs id v left at_id k.max_len W.size W.producers W.slots a.len (bands_now g.left a.bands) g.ends g.resizing p.station.rings refl (λ _ _ _ h. (live', h)));
            stops = p.station.stops;
          };
          account = p.account;
        };
      }
