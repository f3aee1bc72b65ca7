-- `begin_resize` keeps the rule of the table.
use Rattle.lq_account_laws.specs.Places.{Precedes}
use Rattle.std.proofs.Common.{◌≡◌, ℕ, zero, suc, ◌+◌, ◌<◌, ◌≤◌, true, false, true≢false, List, [], ◌∷◌, ◌++◌, length, map, take, drop, set, refl, sym, ap, ◌∙◌, subst, arith, ⊎_elim, Option, Some, None, get_or}
use Rattle.std.specs.Prelude.{is_none, is_some}
use Rattle.std.specs.List.{AllPairs}
use Rattle.std.proofs.lemmas.Bool.{cases_lt, cases_order, lt-ltb}
use Rattle.std.proofs.lemmas.Option.{same_Some}
use mathlib.Core.Option.{none}
use Rattle.atomic_table.specs.Table.{step, Allows, keeps}
use Rattle.lq_account_laws.specs.Trail.{FindsNothing}
use Rattle.lq_account_laws.proofs.Brought.{held-brought}
use Rattle.lq_account_laws.proofs.Order.{never-itself, held-band}
use Rattle.lq_account_laws.proofs.Purges.{with_fates_in, with_fates_out}
use Rattle.lq_account_laws.proofs.Waiting.{fate-stays, waits-dropped}
use Rattle.lq_model.specs.Account.{Account, Event, Resize, after, held_in, dropped_in}
use Rattle.lq_model.specs.Band.{Band, held_of, resized}
use Rattle.lq_model.specs.Control.{is_control}
use Rattle.lq_model.specs.Positions.{holds_lock}
use Rattle.lq_model.specs.Kept.{IsInductive}
use Rattle.lq_model.specs.Machine.{Qdisc, is_closed}
use Rattle.lq_model.specs.declared.fate.Fate.TheVariants as fate
use Rattle.lq_model.specs.declared.fate.Info.{Info}
use Rattle.lq_model.specs.declared.machine.ControlStep.TheVariants.{Resize as ResizeStep}
use Rattle.lq_model.specs.declared.machine.Packet.{Packet}
use Rattle.lq_model.specs.declared.machine.Phase.{Phase}
use Rattle.lq_model.specs.declared.machine.Phase.TheVariants.{Active, Closing, Quiet, Purged}
use Rattle.lq_model.specs.declared.machine.Position.{Position}
use Rattle.lq_model.specs.declared.machine.Position.TheVariants.{Control}
use Rattle.lq_model.specs.declared.machine.Seat.{Seat}
use Rattle.lq_band_laws.specs.Three.{Three, at}
use Rattle.lq_band_laws.specs.Ring.{Ends, Lock, IsAtRest, word_at}
use Rattle.lq_band_laws.specs.HalfResized.{IsHalfResized, IsDistinct, IsBeforeResize}
use Rattle.lq_band_laws.proofs.Kept.{lock_alone}
use Rattle.lq_band_laws.proofs.Lines.{word_at-past, word_at-get_or}
use Rattle.lq_band_laws.proofs.Seats.{total_same, each_step}
use Rattle.lq_band_laws.proofs.StoredKept.{decides}
use Rattle.lq_band_laws.proofs.Three.{three_cases}
use Rattle.lq_band_laws.proofs.Times.{in_times, times_append, times_drop}
use Rattle.lq_band_laws.proofs.HalfResizedKept.{begins, unturned}
use Rattle.lq_table.specs.Places.{size_place}
use Rattle.lq_table.specs.Views.{View, Setup, State, HolderPart, HalfResize, Work, machine_packet}
use Rattle.lq_table.specs.Rule.{words_of, machine_of, account, holders, owes, waiting_of, unstored, bands_of, Holder, IsLocker, IsResizing, IsResting, locks_at, KnowsPackets, Rule}
use Rattle.lq_table.proofs.UnitsKept.{gone_step}
use Rattle.lq_table.specs.Moves.{Sat}
use Rattle.lq_table.specs.Resizes.{may_resize, each_band, resizing_of, begin_resize_view}
use Rattle.lq_table.proofs.shared.Shared.begin_resize.Invariants.{begin_resize_told}
use Rattle.lq_table.proofs.Accounts.{quiet_after}
use Rattle.lq_table.proofs.ByName.{slots_long, set_back}
use Rattle.lq_table.proofs.Facts.{map_none, leaving_rule}
use Rattle.lq_table.proofs.HeldOnce.{no_fate, held_once}
use Rattle.lq_table.proofs.Middle.{middle, controls_in}
use Rattle.lq_account_laws.proofs.Changes.{band-held}
use Rattle.lq_account_laws.proofs.Lists.{none-in}
use Rattle.lq_table.proofs.Ties.{nothing_in, holds_none}
use Rattle.lq_table.proofs.ResizeSlotsKept.{resizing_rule, resizing_known}
use Rattle.lq_table.proofs.SoleFacts.{knows_account}
use Rattle.lq_table.proofs.Frames.{at_map, none_some, none_left, locks_here, locks_same, firsts_same, rule_after, opened, closed, lends_held, moves}
use Rattle.lq_table.proofs.SeatFrames.{seats_by_control}
use Rattle.lq_table.proofs.StationFrames.{stands_same, account_heard}

-- a line in each owner's order has no packet twice
distinct : (k : Setup) (line : List ℕ) → AllPairs (Precedes k.infos) line → IsDistinct line
distinct k line pairs i j n e e' = ⊎_elim (λ h. h)
    (⊎_elim (λ (h : i < j). absurd (apart i j h e e')) (λ (h : j < i). absurd (apart j i h e' e)))
    (cases_order i j)
  where
    inside : (i : ℕ) → word_at line i ≡ n + 1 → i < length line
    inside i e = ⊎_elim (λ l. l) (λ past. let z = word_at-past line i past in absurd (omega arith)) (cases_lt i (length line))

    is : (i : ℕ) → word_at line i ≡ n + 1 → get_or line i n ≡ n
    is i e = let w = word_at-get_or line i n (inside i e) in omega arith

    apart : (i j : ℕ) → i < j → word_at line i ≡ n + 1 → word_at line j ≡ n + 1 → ⊥
    apart i j h e e' = never-itself k.infos n (subst (λ (x : ℕ × ℕ). Precedes k.infos x.0 x.1) (λ a. (is i e a, is j e' a)) (pairs i j n h (inside j e')))

each_at : {A : Type 0} (f : ℕ → A) (b : ℕ) → b < 3 → at b (each_band f) ≡ f b
each_at f = three_cases (λ b. at b (each_band f) ≡ f b) refl refl refl

rest_of : (size b : ℕ) (e : Three Ends) → IsResting size e → IsAtRest size (at b e)
rest_of size zero e r = r.0
rest_of size (suc zero) e r = r.1
rest_of size (suc (suc b)) e r = r.2

map_take : {A B : Type 0} (f : A → B) (n : ℕ) (xs : List A) → take n (map f xs) ≡ map f (take n xs)
map_take f zero xs = refl
map_take f (suc n) [] = refl
map_take f (suc n) (x ∷ xs) = ap (λ (ys : List _). f x ∷ ys) (map_take f n xs)

-- the machine's bands, cut to the length, are those of the resized account
bands_cut : (infos : List Info) (bands : ℕ → Band) (len : ℕ) → map (λ (band : List Packet). take len band) (bands_of infos bands) ≡ bands_of infos (λ b. resized (bands b) len)
bands_cut infos bands len = let cut = λ (b : ℕ). map_take (machine_packet infos) len (held_of (bands b)) in λ j. cut 0 j ∷ cut 1 j ∷ cut 2 j ∷ []

-- a deactivated station whose bands may be resized was purged
closed_purged : (phase : Phase) → may_resize phase ≡ true → is_closed phase ≡ true → phase ≡ Purged
closed_purged Active may closed_ = absurd (true≢false (sym closed_))
closed_purged Closing may closed_ = absurd (true≢false (sym may))
closed_purged Quiet may closed_ = absurd (true≢false (sym may))
closed_purged Purged may closed_ = refl

module _ (k : Setup) where
  -- a resize begins
  pub begins_resize : (slots id : ℕ) (m : Sat) (len event : ℕ) → m.0.place.position ≡ Control true → may_resize m.0.control.phase ≡ true → m.0.control.purge ≡ None → m.0.holder.resizing ≡ None → IsResting m.0.holder.size m.0.holder.ends
      → ((b : ℕ) → b < 3 → ((at b m.0.locks).holds ≡ true) × ((at b m.0.locks).stored ≡ false)) → 0 < len → len ≤ k.max_len → 0 < m.0.share.shares
      → Allows (Rule k) slots id m size_place (λ n. n) (begin_resize_told k.infos k.max_len len event (step slots size_place 0 0 none) m)
  begins_resize slots id m len event position phase no_purge no_resizing rests locked some_len fits some_share s r2 deep here small =
      let v : View = m.0 in let live = lt-ltb 0 v.share.shares some_share in let holds : holds_lock v.place.position ≡ true = ap holds_lock position in
      let r1 = resizing_rule k s r2 None (resizing_known k s r2 id v None here some_share holds no_resizing) in
      let first : v.control.first ≡ true = r1.parts.machine.firsts.control id v here live (ap is_control position) in
      let free : r1.qdisc.purge ≡ None = sym (r1.parts.machine.firsts.knows id v here first).1 ∙ no_purge in
      let r : Rule k s = leaving_rule k s r1 None (r1.parts.account.leaves.none_left free) in
      let p = r.parts in let g = r.state in let a = account k g in let q = r.qdisc in let W = words_of k s.words in let mid = middle s.views id v here live in let run = p.station.rings.running refl in
      let D : HolderPart = holders g a W.size in
      let at_ : Holder k.infos W.xoff g.past D (Control true) v.holder = subst (λ (z : Position). Holder k.infos W.xoff g.past D z v.holder) position (p.station.lends.knows id v here live holds) in
      let held : ℕ → List ℕ = held_in a in let t : HalfResize = resizing_of len event held W.slots in let e : Event = Resize len event in let g' : State = record g { past = e ∷ g.past; resizing = Some t } in let a' : Account = after e a in
      let works : ℕ → Work = λ b. record { kept = take len (held b); waiting = drop len (held b); slots = at b W.slots; hand = [] } in let w : View = begin_resize_view t v in
      let rest : IsResting W.size g.ends = subst (λ (z : HolderPart). IsResting z.size z.ends) at_.is rests in
      let may : a.hand ≡ None = map_none (machine_packet k.infos) a.hand (sym at_.in_hand) in let drops : List ℕ = dropped_in len a 0 ++ (dropped_in len a 1 ++ dropped_in len a 2) in
      let same : (c : ℕ) → locks_at c (set s.views id w) ≡ locks_at c s.views = λ c. locks_same k s.views id v w here c refl in
      let stays_decided = fate-stays k.infos k.station g.past a p.account.accounted.brought p.account.accounted.order p.account.accounted.free e may in
      let none_held = λ (purged : q.phase ≡ Purged). holds_none k.infos (machine_of q s.views) a p.station.ties (p.machine.invariant.kept.purged_holds_nothing purged).1 in
      let phase_is : v.control.phase ≡ q.phase = (p.machine.firsts.knows id v here first).0 in
      let empty : FindsNothing a e = λ x down. none_held (closed_purged q.phase (subst (λ (z : Phase). may_resize z ≡ true) phase_is phase) (sym p.machine.invariant.deactivation ∙ (p.station.ties.down ∙ ap is_some down))) in
      let q' : Qdisc = record q { bands = map (λ (band : List Packet). take len band) q.bands; len = len } in
      let at_control : Seat = record v.place { position = Control true } in
      let stepped_ = controls_in q mid.before mid.after at_control (ResizeStep len) true refl refl (ap (λ (o : Option _). is_none o) free)
      (subst (λ (u : Seat). IsInductive (record { qdisc = q; seats = mid.before ++ u ∷ mid.after })) (λ j. record v.place { position = position j }) (opened s.views id v here live q p.machine.invariant)) in
      let D' : HolderPart = holders g' a' W.size in let sums = λ (n : ℕ). times_append n (dropped_in len a 0) (dropped_in len a 1 ++ dropped_in len a 2) in let sums' = λ (n : ℕ). times_append n (dropped_in len a 1) (dropped_in len a 2) in (
        w,
        keeps,
        tt,
        rule_after k s r size_place W.size id s.homes r.home w W q' g' a' r.deep (set_back k s.words size_place) refl record {
          seats = seats_by_control k s r id v w here live e g.origin q' g' a' refl refl (λ j. (v.packets.fresh, v.settled, p.seats.trails.came id v here first j, e ∷ v.trail, v.whole.told)) first refl refl
              (each_step (λ u. KnowsPackets k g.past a u.share u.packets) (λ u. KnowsPackets k (e ∷ g.past) a' u.share u.packets) s.views id w p.seats.packets
              (let x = p.seats.packets id v here in let y = quiet_after k g.past a a e v.share v.packets refl (λ _. refl) x in record { own = y.own; fresh = y.fresh; owed = λ n z h. stays_decided n z (x.owed n z h) })
              (λ j u _ _ x. let y = quiet_after k g.past a a e u.share u.packets refl (λ _. refl) x in record { own = y.own; fresh = y.fresh; owed = λ n z h. stays_decided n z (x.owed n z h) }))
              (gone_step k s.views id v w here e tt p.seats.gone refl) (λ e1 e2. (ap (λ (z : Qdisc). record z { bands = map (λ (band : List Packet). take len band) z.bands; len = len }) e1, ap (λ (z : State). record z { past = e ∷ z.past; resizing = Some t }) e2));
          machine = moves k s r id v w here live q' refl refl (closed s.views id v here live w q' at_control live (λ j. record v.place { position = position j }) stepped_) (λ y own. own)
              (firsts_same k s.views id v w here q.phase q.phase q.purge q.purge p.machine.firsts live refl refl refl refl (λ h. h));
          station = record {
            stands = stands_same p.station.stands refl;
            ties = record { bands_are = ap (λ (bs : List (List Packet)). map (λ (band : List Packet). take len band) bs) p.station.ties.bands_are ∙ bands_cut k.infos a.bands len; slot = p.station.ties.slot; len = refl; down = p.station.ties.down };
            lends = lends_held k s r id v here live holds w q.locked W.xoff (e ∷ g.past) D' refl
                (subst (λ (z : Position). Holder k.infos W.xoff (e ∷ g.past) D' z w.holder) (sym position) record {
                  is = λ j. record (at_.is j) { resizing = Some t };
                  in_hand = at_.in_hand;
                  looked = λ _ y. absurd (omega arith);
                  stopping = tt;
                  alive = λ _. at_.alive refl;
                });
            fates = record {
              stored = decides (length k.infos) W.fates (unstored s.views None None) a.fates p.station.fates.stored (unstored (set s.views id w) (Some t) None) a'.fates drops
                  (λ n. let z = total_same (λ u. owes n u.packets.owed) s.views id v w here refl in let x = sums n in let y = sums' n in omega arith)
                  (λ n. let x = sums n in let y = sums' n in let x0 = times_drop n len (held_in a 0) in let x1 = times_drop n len (held_in a 1) in let x2 = times_drop n len (held_in a 2) in let o = held_once k g.past a p.account.accounted n in omega arith)
                  (λ n h. (no_fate a p.account.accounted.free n (waits-dropped len a n h), (fate.Shrunk event, with_fates_in drops n (fate.Shrunk event) a.fates h)))
                  (λ n out. with_fates_out drops n (fate.Shrunk event) a.fates out);
              shrunk = λ u is n h. subst (λ (y : HalfResize). 0 < waiting_of n y.works → a'.fates n ≡ Some (fate.Shrunk y.event)) (same_Some t u is)
                  (λ some_. with_fates_in drops n (fate.Shrunk event) a.fates (in_times n drops (let x = sums n in let y = sums' n in omega arith))) h;
              purged = λ l is. absurd (none_some is);
            };
            rings = record {
              positive = p.station.rings.positive;
              within = p.station.rings.within;
              running = λ c. absurd (none_some (sym c));
              half_resized = λ u is. subst (λ (y : HalfResize). IsResizing k.max_len W.producers W.slots (set s.views id w) len a'.bands y) (same_Some t u is) record {
                len_is = refl;
                len_positive = some_len;
                len_within = fits;
                kept = λ b h. sym (ap (λ (y : Work). y.kept) (each_at works b h));
                ring = λ b h. subst (λ (y : List Lock × Work). IsHalfResized (at b W.slots) (at b W.producers) y.0 (resized (a.bands b) len) y.1.waiting y.1.slots y.1.hand)
                    (λ j. (sym (same b) j, sym (each_at works b h) j))
                    (begins _ _ _ _ _ _ (run.ring b h) id (at b v.locks) len (locks_here k s.views id v w here b) (locked b h).0 (locked b h).1 (rest_of W.size b g.ends rest).2 (distinct k (a.bands b).line (p.account.accounted.order.lines b)));
                control = each_step (λ _. Unit {0}) IsLocker s.views id w (λ _ _ _. tt) (λ _ _ _. (live, holds))
                    (λ j u apart at_j _ b h also. absurd (lock_alone (locks_at b s.views) id j (at b v.locks) (at b u.locks) (locks_here k s.views id v w here b) (at_map (λ (y : View). at b y.locks) s.views j u at_j) apart (run.ring b h).one (locked b h).0 also));
              };
            };
            stops = p.station.stops;
          };
          account = account_heard k s r e refl may tt tt empty (none_left _ _);
        },
        (
          held,
          W.slots,
          refl,
          (λ b h. subst (λ (z : HolderPart). IsBeforeResize z.size k.max_len (at b W.slots) (held b) (at b z.ends)) (sym at_.is)
              (unturned _ k.max_len _ _ _ _ _ (run.ring b h) (rest_of W.size b g.ends rest) (slots_long k s.words b r.wide h) (distinct k (a.bands b).line (p.account.accounted.order.lines b)))),
          (λ b n _ h. (held-band k.infos k.station g.past a p.account.accounted.brought p.account.accounted.order b n h, (p.account.accounted.brought.packets n (held-brought p.account.accounted.brought b n h)).0)),
          (λ purged b below. nothing_in (held_in a b) (λ n is. none-in _ n (none_held (sym phase_is ∙ purged)) (band-held a b n below is))),
          λ sole b _. ap (λ (y : Account). held_in y b) (sym (knows_account k s r id v here some_share sole)),
        ),
      )
