-- In a resize half done control empties and fills slots, and stores the fates of what it dropped: the machine and the account stay.
use Rattle.std.specs.Prelude.{◌||◌}
use Rattle.std.proofs.Common.{◌≡◌, ◌≢◌, ℕ, ◌+◌, ◌-◌, ◌<◌, ◌≤◌, Bool, true, false, eqb, eq-eqb, ne_eqb, List, [], ◌∷◌, length, set, refl, sym, ap, ◌∙◌, subst, arith, ⊎_elim, Option, Some, None, Contains, zero, suc}
use Rattle.std.proofs.lemmas.Bool.{cases_eq, lt-ltb}
use Rattle.std.proofs.lemmas.Option.{same_Some}
use mathlib.Core.Option.{some}
use lib.ListN.{get_elem?}
use Rattle.atomic_table.specs.Table as table
use Rattle.atomic_table.specs.Table.{step, Allows, keeps}
use Rattle.lq_device.specs.Station.{StationState}
use Rattle.lq_account_laws.proofs.Lists.{none-in, here-in, there-in, cons-in}
use Rattle.lq_model.specs.Account.{Account}
use Rattle.lq_model.specs.Positions.{holds_lock}
use Rattle.lq_model.specs.Machine.{Purge}
use Rattle.lq_model.specs.declared.fate.Fate.{Fate}
use Rattle.lq_model.specs.declared.fate.Fate.TheVariants as fate
use Rattle.lq_band_laws.specs.Three.{Three, at, put}
use Rattle.lq_band_laws.specs.Ring.{Lock}
use Rattle.lq_band_laws.specs.Times.{times}
use Rattle.lq_band_laws.specs.HalfResized.{IsHalfResized}
use Rattle.lq_band_laws.proofs.Seats.{total_same}
use Rattle.lq_band_laws.proofs.Three.{at_put_same, at_put_other}
use Rattle.lq_band_laws.proofs.StoredKept.{stored_as}
use Rattle.lq_table.specs.Views.{View, Setup, State, HolderPart, HalfResize, Work, Left}
use Rattle.lq_table.specs.Rule.{words_of, account, holders, owes, waiting_of, unstored, FatesStored, bands_now, Leaves, IsResizing, locks_at, Settled, Parts, Rule}
use Rattle.lq_table.specs.Resizes.{is_word, with_work, with_resizing}
use Rattle.lq_table.proofs.Frames.{none_some, packets_same, locks_same, control_same, rule_after, stays, lends_held, holder_now}
use Rattle.lq_table.proofs.SeatFrames.{seats_settled, sole_on}
use Rattle.lq_table.proofs.StationFrames.{stands_same}

-- WORDS OF PACKETS

pub word_member : (x : ℕ) (ns : List ℕ) → is_word x ns ≡ true → (x ≡ x - 1 + 1) × Contains ns (x - 1)
word_member x [] e = absurd (cc)
word_member x (n ∷ ns) e = ⊎_elim
    (λ (h : x ≡ n + 1). ((omega arith), subst (λ (y : ℕ). Contains (n ∷ ns) y) (let q : n ≡ x - 1 = omega arith in q) (here-in n ns)))
    (λ (no_ : x ≢ n + 1). let more = word_member x ns (sym (ap (λ (b : Bool). b || is_word x ns) (ne_eqb x (n + 1) no_)) ∙ e) in (more.0, there-in n ns (x - 1) more.1))
    (cases_eq x (n + 1))

pub word_other : (x : ℕ) (ns : List ℕ) → is_word x ns ≡ false → (n : ℕ) → Contains ns n → x ≢ n + 1
word_other x [] e n h same = absurd (none-in [] n refl h)
word_other x (y ∷ ns) e n h same = ⊎_elim
    (λ (is : y ≡ n). let z : true ≡ false = sym (ap (λ (b : Bool). b || is_word x ns) (eq-eqb x (y + 1) (same ∙ ap (λ (z : ℕ). z + 1) (sym is)))) ∙ e in absurd (cc))
    (λ (more : Contains ns n). word_other x ns (rest (eqb x (y + 1)) e) n more same)
    (cons-in y ns n h)
  where
    rest : (c : Bool) → (c || is_word x ns) ≡ false → is_word x ns ≡ false
    rest true e = absurd (cc)
    rest false e = e

pub waiting_put : (n b : ℕ) (x : Work) (w : Three Work) → waiting_of n (put b x w) + times n (at b w).waiting ≡ waiting_of n w + times n x.waiting
waiting_put n zero x w = omega arith
waiting_put n (suc zero) x w = omega arith
waiting_put n (suc (suc b)) x w = omega arith

pub waiting_at : (n b : ℕ) (w : Three Work) → times n (at b w).waiting ≤ waiting_of n w
waiting_at n zero w = omega arith
waiting_at n (suc zero) w = omega arith
waiting_at n (suc (suc b)) w = omega arith

pub by_bool : (c : Bool) (P : Bool → Type 0) → (c ≡ true → P true) → (c ≡ false → P false) → P c
by_bool true P y n = y refl
by_bool false P y n = n refl

-- the rule, with what is known of the resize written out
abbrev pub resizing_rule : (k : Setup) (s : table.State (Option StationState) View) (r : Rule k s) (o : Option HalfResize) → r.state.resizing ≡ o → Rule k s
resizing_rule k s r o is = record {
  home = r.home;
  qdisc = r.qdisc;
  state = record r.state { resizing = o };
  setup = r.setup;
  wide = r.wide;
  deep = r.deep;
  parts = subst (λ (z : Option HalfResize). Parts k (words_of k s.words) r.home s.views r.qdisc (record r.state { resizing = z }) (account k r.state)) is r.parts;
}

-- what the holder knows of the resize is so
pub resizing_known : (k : Setup) (s : table.State (Option StationState) View) (r : Rule k s) (id : ℕ) (v : View) (o : Option HalfResize) → get_elem? s.views id ≡ some v → 0 < v.share.shares → holds_lock v.place.position ≡ true → v.holder.resizing ≡ o → r.state.resizing ≡ o
resizing_known k s r id v o here some_share holds under_way = sym (ap (λ (h : HolderPart). h.resizing) (r.parts.station.lends.knows id v here (lt-ltb 0 v.share.shares some_share) holds).is) ∙ under_way

-- a purge takes packets from a line, and leaves the line
pub line_now : (left : Option Left) (purge : Option Purge) (a : Account) → Leaves left purge a → (b : ℕ) → b < 3 → (bands_now left a.bands b).line ≡ (a.bands b).line
line_now None purge a x b h = refl
line_now (Some l) purge a x b h = (x.lines l refl b h).0

module _ (k : Setup) where
  -- control of a resize that is half done changes what stands of a band
  pub works_on : (s : table.State (Option StationState) View) (r1 : Rule k s) (i x id b : ℕ) (v : View) (t : HalfResize) (y : Work) (sb fs : List ℕ) (more : List (ℕ × Fate)) → get_elem? s.views id ≡ some v → 0 < v.share.shares → holds_lock v.place.position ≡ true → v.holder.resizing ≡ Some t → b < 3
      → words_of k (set s.words i x) ≡ record (words_of k s.words) { slots = put b sb (words_of k s.words).slots; fates = fs } → y.kept ≡ (at b t.works).kept
      → IsHalfResized sb (at b (words_of k s.words).producers) (locks_at b s.views) (bands_now r1.state.left (account k r1.state).bands b) y.waiting y.slots y.hand
      → FatesStored k.infos fs (set s.views id (record (with_resizing (Some (with_work b y t)) v) { settled = more })) (account k r1.state) (Some (with_work b y t)) r1.state.left
      → Settled fs (set s.views id (record (with_resizing (Some (with_work b y t)) v) { settled = more }))
      → Rule k record { words = set s.words i x; homes = s.homes; views = set s.views id (record (with_resizing (Some (with_work b y t)) v) { settled = more }) }
  works_on s r1 i x id b v t y sb fs more here some_share holds under_way below is kept_same new stored settled_are =
      let r = resizing_rule k s r1 (Some t) (resizing_known k s r1 id v (Some t) here some_share holds under_way) in let live = lt-ltb 0 v.share.shares some_share in
      let p = r.parts in let g = r.state in let a = account k g in let q = r.qdisc in let W = words_of k s.words in let t' : HalfResize = with_work b y t in let w : View = record (with_resizing (Some t') v) { settled = more } in
      let g' : State = record g { resizing = Some t' } in let D' : HolderPart = holders g' a W.size in let res = p.station.rings.half_resized t refl in let at_ = p.station.lends.knows id v here live holds in let mach = stays k s r id v w here live refl refl refl refl in
      let same : (c : ℕ) → locks_at c (set s.views id w) ≡ locks_at c s.views = λ c. locks_same k s.views id v w here c refl in
      rule_after k s r i x id s.homes r.home w (record W { slots = put b sb W.slots; fates = fs }) q g' a r.deep is refl record {
        seats = seats_settled k s r id v w here live fs q g' refl refl refl (packets_same k s.views id v w here g.past a p.seats.packets refl refl) settled_are
            (sole_on k s r id v w here live q g' refl refl (λ e1 e2. (e1, ap (λ (z : State). record z { resizing = Some t' }) e2)));
        machine = mach;
        station = record {
          stands = stands_same p.station.stands refl;
          ties = p.station.ties;
          lends = lends_held k s r id v here live holds w q.locked W.xoff g.past D' refl (holder_now at_ refl (λ j. record (at_.is j) { resizing = Some t' }));
          fates = stored;
          rings = record {
            positive = p.station.rings.positive;
            within = p.station.rings.within;
            running = λ calm. absurd (none_some (sym calm));
            half_resized = λ u now. subst (λ (z : HalfResize). IsResizing k.max_len W.producers (put b sb W.slots) (set s.views id w) a.len (bands_now g.left a.bands) z) (same_Some t' u now) record {
              len_is = res.len_is;
              len_positive = res.len_positive;
              len_within = res.len_within;
              kept = λ c l. res.kept c l ∙ ⊎_elim
                  (λ (e : c ≡ b). subst (λ (z : ℕ). (at z t.works).kept ≡ (at z t'.works).kept) (sym e) (sym kept_same ∙ sym (ap (λ (z : Work). z.kept) (at_put_same b y t.works))))
                  (λ (n : c ≢ b). sym (ap (λ (z : Work). z.kept) (at_put_other b c y t.works below l n)))
                  (cases_eq c b);
              ring = λ c l. ⊎_elim
                  (λ (e : c ≡ b). subst (λ (z : ℕ). IsHalfResized (at z (put b sb W.slots)) (at z W.producers) (locks_at z (set s.views id w)) (bands_now g.left a.bands z) (at z t'.works).waiting (at z t'.works).slots (at z t'.works).hand) (sym e)
                  (subst (λ (z : List ℕ × List Lock × Work). IsHalfResized z.0 (at b W.producers) z.1 (bands_now g.left a.bands b) z.2.waiting z.2.slots z.2.hand)
                  (λ j. (sym (at_put_same b sb W.slots) j, sym (same b) j, sym (at_put_same b y t.works) j)) new))
                  (λ (n : c ≢ b). subst (λ (z : List ℕ × List Lock × Work). IsHalfResized z.0 (at c W.producers) z.1 (bands_now g.left a.bands c) z.2.waiting z.2.slots z.2.hand)
                  (λ j. (sym (at_put_other b c sb W.slots below l n) j, sym (same c) j, sym (at_put_other b c y t.works below l n) j)) (res.ring c l))
                  (cases_eq c b);
              control = control_same k s.views id v w here res.control (λ c l z. z) (λ l h. (l, h));
            };
          };
          stops = p.station.stops;
        };
        account = p.account;
      }

  -- where the same packets wait, the fates stand as they are
  pub fates_resizing : (views : List View) (id : ℕ) (v : View) (words : List ℕ) (a : Account) (b : ℕ) (t : HalfResize) (y : Work) (left : Option Left) → get_elem? views id ≡ some v → y.waiting ≡ (at b t.works).waiting → FatesStored k.infos words views a (Some t) left
      → FatesStored k.infos words (set views id (with_resizing (Some (with_work b y t)) v)) a (Some (with_work b y t)) left
  fates_resizing views id v words a b t y left here same f =
      let t' : HalfResize = with_work b y t in let w : View = with_resizing (Some t') v in
      let waits_same : (n : ℕ) → waiting_of n t'.works ≡ waiting_of n t.works = λ n. let z = waiting_put n b y t.works in let e = ap (times n) same in omega arith in record {
        stored = stored_as (length k.infos) words (unstored views (Some t) left) a.fates f.stored (unstored (set views id w) (Some t') left) a.fates
            (λ n. let e = total_same (λ u. owes n u.packets.owed) views id v w here refl in let z = waits_same n in omega arith) (λ _. refl);
        shrunk = λ u is n h. f.shrunk t refl n (let z = waits_same n in let h' : 0 < waiting_of n t'.works = subst (λ (z : HalfResize). 0 < waiting_of n z.works) (sym (same_Some t' u is)) h in omega arith) ∙ ap (λ (z : HalfResize). Some (fate.Shrunk z.event)) (same_Some t' u is);
        purged = f.purged;
      }
