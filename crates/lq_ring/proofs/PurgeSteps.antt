-- The takes of a purge, one after another.
use Rattle.std.proofs.Common.{◌≡◌, ℕ, zero, suc, ◌+◌, ◌<◌, ◌≤◌, List, [], ◌∷◌, take, drop, length, refl, sym, ap, ◌∙◌, subst, arith, Option, Some, None, slice_get, length-drop, Contains}
use Rattle.std.proofs.lemmas.List.{drop-drop}
use Rattle.std.proofs.lemmas.Option.{same_Some}
use Rattle.lq_account_laws.proofs.Lists.{drop-in}
use Rattle.lq_device.specs.Station.{StationState, with_ends}
use Rattle.lq_model.specs.Band.{Band, held_of, taken_by}
use Rattle.lq_model.specs.Machine.{Purge}
use Rattle.lq_model.specs.declared.fate.Fate.{Fate}
use Rattle.lq_model.specs.declared.fate.Fate.TheVariants as fate
use Rattle.lq_band_laws.specs.Three.{Three, at, put}
use Rattle.lq_band_laws.specs.Ring.{Ends, IsAtRest, after_take, taken_on}
use Rattle.lq_band_laws.proofs.Three.{at_put_same, put_at}
use Rattle.lq_band_laws.proofs.Kept.{rest_after}
use Rattle.lq_table.specs.Views.{View, Left, WholePart}
use Rattle.lq_table.specs.Rule.{shown}
use Rattle.lq_table.specs.Sees.{solo}
use Rattle.lq_table.specs.Fates.{settle_view_owed}
use Rattle.lq_table.specs.Purges.{purge_slot_view, purge_slot_view_empty, purged_one}
use Rattle.lq_ring.specs.Take.{emptied_count, emptied_times, having_ends}
use Rattle.lq_ring.specs.Fates.{fates_onto}
use Rattle.lq_ring.specs.Purged.{purged_by, purged_to, IsBandPurged, going_on}
use Rattle.lq_ring.proofs.PutSteps.{put_put}
use Rattle.lq_ring.proofs.TakeSteps.{shown_put}

-- the first n packets of the band were purged
pub record IsPurgedTo (b n : ℕ) (l : Left) (v w : View) : Type 0 where
  pub ends : Ends
  pub whole : WholePart
  pub is : w ≡ purged_to b n l ends whole v
  pub few : n ≤ length (held_of (at b l.bands))
  pub rests : IsAtRest v.holder.size ends
  pub told : whole.told ≡ v.whole.told
  pub alone : solo (record v { whole = whole }) ≡ solo v

-- one packet was taken from the band and its fate was stored, and all slots were emptied that this asks
abbrev pub purging_one : ℕ → ℕ → Left → View → View
purging_one b n l v = let size = v.holder.size in let own = at b v.holder.ends in
    having_ends b (after_take size own) (emptied_times size (emptied_count size (taken_on own)) (taken_on (at b v.whole.state.ends))) (settle_view_owed (purge_slot_view b n l v))

-- this is done to the first packet that the band holds
abbrev pub PurgesOne : ℕ → Left → View → View → Type 0
PurgesOne b l v w = (n : ℕ) × (slice_get (held_of (at b l.bands)) 0 ≡ Some n) × (w ≡ purging_one b n l v)

-- the fates of the first packets, and that of the next
pub fates_next : (f : Fate) (ns : List ℕ) (k n : ℕ) (fates : List (ℕ × Fate)) → slice_get ns k ≡ Some n → (n, f) ∷ fates_onto f (take k ns) fates ≡ fates_onto f (take (k + 1) ns) fates
fates_next f [] k n fates e = cc
fates_next f (m ∷ ns) zero n fates e = ap (λ (z : ℕ). (z, f) ∷ fates) (sym (same_Some m n e))
fates_next f (m ∷ ns) (suc k) n fates e = fates_next f ns k n ((m, f) ∷ fates) e ∙ ap (λ (z : ℕ). fates_onto f (take z (m ∷ ns)) fates) (let q : suc (k + 1) ≡ suc k + 1 = omega arith in q)

first_of : (k n : ℕ) (ns : List ℕ) → slice_get (drop k ns) 0 ≡ Some n → (slice_get ns k ≡ Some n) × (k < length ns)
first_of zero n [] e = cc
first_of zero n (m ∷ ns) e = (e, omega arith)
first_of (suc k) n [] e = cc
first_of (suc k) n (m ∷ ns) e = let r = first_of k n ns e in let l = r.1 in (r.0, omega arith)

taken_none : (band : Band) → taken_by band 0 ≡ band
taken_none band = λ j. record { line = band.line; taken = (let q : band.taken + 0 ≡ band.taken = omega arith in q) j }

taken_next : (band : Band) (k : ℕ) → taken_by (taken_by band k) 1 ≡ taken_by band (k + 1)
taken_next band k = λ j. record { line = band.line; taken = (let q : band.taken + k + 1 ≡ band.taken + (k + 1) = omega arith in q) j }

purged_none : (b : ℕ) (l : Left) → purged_by b 0 l ≡ l
purged_none b l = (λ j. record l { bands = put b (taken_none (at b l.bands) j) l.bands }) ∙ (λ j. record l { bands = put_at b l.bands j })

purged_next_left : (b k : ℕ) (l : Left) → purged_one b (purged_by b k l) ≡ purged_by b (k + 1) l
purged_next_left b k l =
    (λ j. record l { bands = put b (taken_by (at_put_same b (taken_by (at b l.bands) k) l.bands j) 1) (put b (taken_by (at b l.bands) k) l.bands) })
    ∙ ((λ j. record l { bands = put_put b (taken_by (taken_by (at b l.bands) k) 1) (taken_by (at b l.bands) k) l.bands j })
    ∙ (λ j. record l { bands = put b (taken_next (at b l.bands) k j) l.bands }))

-- what the band still holds
pub held_left : (b k : ℕ) (l : Left) → held_of (at b (purged_by b k l).bands) ≡ drop k (held_of (at b l.bands))
held_left b k l = ap held_of (at_put_same b (taken_by (at b l.bands) k) l.bands) ∙ sym (drop-drop k (at b l.bands).taken (at b l.bands).line)

-- they are no more than the ring has slots
pub few_left : (b k : ℕ) (l : Left) (size size' : ℕ) → size' ≡ size → length (held_of (at b l.bands)) ≤ size → length (held_of (at b (purged_by b k l).bands)) ≤ size'
few_left b k l size size' same few = let held : List ℕ = held_of (at b l.bands) in let left = ap length (held_left b k l) ∙ length-drop k held in omega arith

pub none_purged : (b : ℕ) (l : Left) (v : View) → b < 3 → v.holder.left ≡ Some l → IsAtRest v.holder.size (at b v.holder.ends) → IsPurgedTo b 0 l v v
none_purged b l v below left rests = record {
  ends = at b v.holder.ends;
  whole = v.whole;
  is = λ j. record v { holder = record v.holder { ends = sym (put_at b v.holder.ends) j; left = (left ∙ ap (λ (x : Left). Some x) (sym (purged_none b l))) j } };
  few = omega arith;
  rests = rests;
  told = refl;
  alone = refl;
}

pub next_purged : (b k n : ℕ) (l : Left) (v u w : View) → v.packets.owed ≡ None → IsPurgedTo b k l v u → slice_get (held_of (at b (purged_by b k l).bands)) 0 ≡ Some n → w ≡ purging_one b n (purged_by b k l) u → IsPurgedTo b (k + 1) l v w
next_purged b k n l v u w none_owed p first is =
    let f : Fate = fate.Purged l.cause in let held : List ℕ = held_of (at b l.bands) in let size = v.holder.size in let e : Ends = p.ends in let E : Three Ends = v.holder.ends in
    let x : View = purged_to b k l e p.whole v in let y : View = purging_one b n (purged_by b k l) x in
    let next = first_of k n held (ap (λ (ns : List ℕ). slice_get ns 0) (sym (held_left b k l)) ∙ first) in let inside = next.1 in
    let ends_is : y.holder.ends ≡ put b (after_take size e) E =
    (λ j. put b (after_take size (at_put_same b e E j)) (put b (taken_on (at_put_same b e E j)) (put b e E)))
    ∙ (put_put b (after_take size e) (taken_on e) (put b e E) ∙ put_put b (after_take size e) e E) in
    record {
      ends = after_take size e;
      whole = y.whole;
      is = is ∙ (ap (purging_one b n (purged_by b k l)) p.is ∙ (λ j. record v {
        packets = record v.packets { owed = sym none_owed j };
        holder = record v.holder { ends = ends_is j; left = Some (purged_next_left b k l j) };
        whole = y.whole;
        settled = fates_next f held k n v.settled next.0 j;
      }));
      few = omega arith;
      rests = rest_after size e p.rests;
      told = p.told;
      alone = p.alone;
    }

pub all_purged : (b k : ℕ) (u0 : Purge) (l : Left) (v u w : View) → IsPurgedTo b k l v u → held_of (at b (purged_by b k l).bands) ≡ [] → w ≡ purge_slot_view_empty u0 u → IsBandPurged b u0 l v w × (k ≡ length (held_of (at b l.bands)))
all_purged b k u0 l v u w p none_left is =
    let held : List ℕ = held_of (at b l.bands) in let few = p.few in let dl = length-drop k held in
    let gone : length (drop k held) ≡ 0 = ap length (sym (held_left b k l) ∙ none_left) in
    let all : k ≡ length held = omega arith in
    let y : View = purge_slot_view_empty u0 (purged_to b k l p.ends p.whole v) in (
      record {
        ends = p.ends;
        whole = y.whole;
        is = is ∙ (ap (purge_slot_view_empty u0) p.is ∙ ap (λ (z : ℕ). record (purged_to b z l p.ends p.whole (going_on u0 v)) { whole = y.whole }) all);
        rests = p.rests;
        told = p.told;
        alone = p.alone;
      },
      all,
    )

-- the station as the holder knows it
pub purged_station : (b n : ℕ) (l : Left) (v w : View) (st : Option StationState) → b < 3 → w ≡ purging_one b n l v
    → (let c = after_take v.holder.size (at b v.holder.ends) in st ≡ Some (with_ends (shown v.holder) b c.head c.tail)) → st ≡ Some (shown w.holder)
purged_station b n l v w st below is e =
    let own : Ends = at b v.holder.ends in let c : Ends = after_take v.holder.size own in
    e ∙ ap (λ (x : StationState). Some x) (sym (shown_put b c v.holder below)
    ∙ ((λ j. shown (record v.holder { ends = sym (put_put b c (taken_on own) v.holder.ends) j })) ∙ (λ j. shown (sym is j).holder)))

-- what a band still holds is what it held
pub still_held : (b k : ℕ) (l : Left) (n : ℕ) → Contains (held_of (at b (purged_by b k l).bands)) n → Contains (held_of (at b l.bands)) n
still_held b k l n h = drop-in k (held_of (at b l.bands)) n (subst (λ (ns : List ℕ). Contains ns n) (held_left b k l) h)
