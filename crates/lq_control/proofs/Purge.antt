-- A purge, band after band.
use Rattle.std.proofs.Common.{◌≡◌, ℕ, ◌+◌, ◌<◌, ◌≤◌, true, false, List, [], ◌∷◌, ◌++◌, take, length, refl, sym, ap, ◌∙◌, subst, arith, Option, Some, None}
use Rattle.std.proofs.lemmas.List.{length-append}
use Rattle.std.specs.Option.{option_to_list}
use Rattle.lq_model.specs.Band.{Band, held_of}
use Rattle.lq_model.specs.Control.{after_purge}
use Rattle.lq_model.specs.Machine.{Purge}
use Rattle.lq_model.specs.declared.fate.Cause.{Cause}
use Rattle.lq_model.specs.declared.fate.Fate.{Fate}
use Rattle.lq_model.specs.declared.fate.Fate.TheVariants as fate
use Rattle.lq_band_laws.specs.Three.{Three, at}
use Rattle.lq_band_laws.specs.Ring.{IsAtRest}
use Rattle.lq_table.specs.Views.{View, Setup, Left}
use Rattle.lq_table.specs.Sees.{view, IsSameSeat, Whole, solo}
use Rattle.lq_table.specs.declared.shared.Cpu.{Cpu}
use Rattle.lq_table.specs.Rule.{IsResting}
use Rattle.lq_table.specs.Moves.{IsKnownSlot}
use Rattle.std.specs.Prelude.{IfSome}
use Rattle.lq_table.specs.Purges.{first_purge, next_band, begin_purge_view, purge_going, purge_ending, no_missed, no_draining, reset_missed_view, reset_missed_view_in, reset_draining_view, reset_draining_view_in}
use Rattle.lq_table.specs.States.{missed_to, draining_to}
use Rattle.lq_ring.specs.Fates.{fates_onto}
use Rattle.lq_ring.specs.Purged.{purged_by, purged_to, IsBandPurged, going_on}
use Rattle.lq_ring.proofs.FatesOnto.{fates_append}
use Rattle.lq_ring.proofs.TakeSteps.{rest_put}
use Rattle.lq_control.specs.Control.{all_purged, IsPurgeDone, IsPurged}

-- all packets of the band that a purge has come to are purged, and so many they are
abbrev pub IsEmptied : ℕ → ℕ → View → View → Type 0
IsEmptied band count v w = (u : Purge) (l : Left) → v.control.purge ≡ Some u → v.holder.left ≡ Some l → IsBandPurged band u l v w × (count ≡ length (held_of (at band l.bands)))

-- what the takes of a purge leave as it was
pub record IsStill (v w : View) : Type 0 where
  pub place : w.place ≡ v.place
  pub share : w.share ≡ v.share
  pub packets : w.packets ≡ v.packets
  pub locks : w.locks ≡ v.locks
  pub size : w.holder.size ≡ v.holder.size
  pub resizing : w.holder.resizing ≡ v.holder.resizing

pub still_same : (v w : View) → w ≡ v → IsStill v w
still_same v w e = record {
  place = ap (λ (x : View). x.place) e;
  share = ap (λ (x : View). x.share) e;
  packets = ap (λ (x : View). x.packets) e;
  locks = ap (λ (x : View). x.locks) e;
  size = ap (λ (x : View). x.holder.size) e;
  resizing = ap (λ (x : View). x.holder.resizing) e;
}

pub still_then : (v w x : View) → IsStill v w → IsStill w x → IsStill v x
still_then v w x a b = record {
  place = b.place ∙ a.place;
  share = b.share ∙ a.share;
  packets = b.packets ∙ a.packets;
  locks = b.locks ∙ a.locks;
  size = b.size ∙ a.size;
  resizing = b.resizing ∙ a.resizing;
}

pub still_purged : (b : ℕ) (u : Purge) (l : Left) (v w : View) → IsBandPurged b u l v w → IsStill v w
still_purged b u l v w p = record {
  place = ap (λ (x : View). x.place) p.is;
  share = ap (λ (x : View). x.share) p.is;
  packets = ap (λ (x : View). x.packets) p.is;
  locks = ap (λ (x : View). x.locks) p.is;
  size = ap (λ (x : View). x.holder.size) p.is;
  resizing = ap (λ (x : View). x.holder.resizing) p.is;
}

pub rests_purged : (b : ℕ) (u : Purge) (l : Left) (v w : View) → IsBandPurged b u l v w → IsResting v.holder.size v.holder.ends → IsResting w.holder.size w.holder.ends
rests_purged b u l v w p rests = subst (λ (x : View). IsResting x.holder.size x.holder.ends) (sym p.is) (rest_put v.holder.size b p.ends v.holder.ends rests p.rests)

-- How far a purge has come: this band is next, with what is left; the seat is the one that it began with, the rings are at rest,
-- and the rest is as the requeue slot's purge left it.
module _ {D : Type 0} where
  pub record IsComeTo (u : Purge) (l : Left) (paid : View) (begun now : Cpu D) : Type 0 where
    pub seat : IsSameSeat begun now
    pub still : IsStill paid (view now)
    pub purge : (view now).control.purge ≡ Some u
    pub left : (view now).holder.left ≡ Some l
    pub rests : IsResting (view now).holder.size (view now).holder.ends

  -- from one band to the next
  pub comes_on : (b : ℕ) (u : Purge) (l : Left) (paid : View) (begun now next : Cpu D)
      → IsComeTo u l paid begun now → IsSameSeat now next → IsBandPurged b u l (view now) (view next)
      → IsComeTo (next_band u) (purged_by b (length (held_of (at b l.bands))) l) paid begun next
  comes_on b u l paid begun now next h same p = record {
    seat = (same.0 ∙ h.seat.0, same.1 ∙ h.seat.1);
    still = still_then paid (view now) (view next) h.still (still_purged b u l (view now) (view next) p);
    purge = ap (λ (x : View). x.control.purge) p.is;
    left = ap (λ (x : View). x.holder.left) p.is;
    rests = rests_purged b u l (view now) (view next) p h.rests;
  }

take_all : (ns : List ℕ) → take (length ns) ns ≡ ns
take_all [] = refl
take_all (n ∷ ns) = ap (λ (ms : List ℕ). n ∷ ms) (take_all ns)

-- what a seat knows of the whole state, but where it stands
abbrev whole_of : View → Whole
whole_of v = (solo v).whole

known_purged : (b : ℕ) (u : Purge) (l : Left) (v w : View) → IsBandPurged b u l v w → whole_of w ≡ whole_of v
known_purged b u l v w p = ap whole_of p.is ∙ ap (λ x. x.whole) p.alone

told_purged : (b : ℕ) (u : Purge) (l : Left) (v w : View) → IsBandPurged b u l v w → w.whole.told ≡ v.whole.told
told_purged b u l v w p = ap (λ (x : View). x.whole.told) p.is ∙ p.told

module _ (l : Left) where
  abbrev pub low_count : ℕ
  low_count = length (held_of (at 0 l.bands))

  abbrev pub mid_count : ℕ
  mid_count = length (held_of (at 1 l.bands))

  abbrev pub high_count : ℕ
  high_count = length (held_of (at 2 l.bands))

  -- the bands after one, two and three of them were purged
  abbrev pub left1 : Left
  left1 = purged_by 0 low_count l

  abbrev pub left2 : Left
  left2 = purged_by 1 mid_count left1

  abbrev pub left3 : Left
  left3 = purged_by 2 high_count left2

abbrev pub purge1 : Purge
purge1 = next_band first_purge

abbrev pub purge2 : Purge
purge2 = next_band purge1

abbrev pub purge3 : Purge
purge3 = next_band purge2

abbrev pub purge4 : Purge
purge4 = record purge3 { missed = true }

abbrev pub paid_slot : Cause → Option ℕ → View → View
paid_slot cause s v = record v { packets = record v.packets { owed = None }; settled = fates_onto (fate.Purged cause) (option_to_list s) v.settled }

module _ (cause : Cause) (s : Option ℕ) (l : Left) (v v1 v2 v3 v4 v5 v6 : View) (cause_is : l.cause ≡ cause) (e1 : v1 ≡ paid_slot cause s v) (p0 : IsBandPurged 0 first_purge l v1 v2) (p1 : IsBandPurged 1 purge1 (left1 l) v2 v3) (p2 : IsBandPurged 2 purge2 (left2 l) v3 v4)
    (e5 : v5 ≡ reset_missed_view v4) (e6 : v6 ≡ reset_draining_view v5) where
  -- the bits are cleared
  cleared : v6 ≡ purge_ending no_draining (purge_going no_missed purge4 v4)
  cleared =
      let five : v5 ≡ purge_going no_missed purge4 v4 = e5 ∙ ap (λ (o : Option Purge). reset_missed_view_in o v4) (ap (λ (x : View). x.control.purge) p2.is) in
      e6 ∙ (ap (λ (o : Option Purge). reset_draining_view_in o v5) (ap (λ (x : View). x.control.purge) five) ∙ ap (purge_ending no_draining) five)

  abbrev ended : View → View
  ended x = purge_ending no_draining (purge_going no_missed purge4 x)

  abbrev step2 : View → View
  step2 x = purged_to 2 (high_count l) (left2 l) p2.ends p2.whole (going_on purge2 x)

  abbrev step1 : View → View
  step1 x = purged_to 1 (mid_count l) (left1 l) p1.ends p1.whole (going_on purge1 x)

  abbrev step0 : View → View
  step0 x = purged_to 0 (low_count l) l p0.ends p0.whole (going_on first_purge x)

  fates_are : (step2 (step1 (step0 (paid_slot cause s v)))).settled ≡ fates_onto (fate.Purged cause) (all_purged s l.bands) v.settled
  fates_are =
      let f : Fate = fate.Purged cause in let low = held_of l.bands.low in let mid = held_of l.bands.mid in let high = held_of l.bands.high in let from = fates_onto f (option_to_list s) v.settled in
      (λ j. fates_onto (fate.Purged (cause_is j)) (take_all high j) (fates_onto (fate.Purged (cause_is j)) (take_all mid j) (fates_onto (fate.Purged (cause_is j)) (take_all low j) from)))
      ∙ (fates_append f mid high (fates_onto f low from) ∙ (fates_append f low (mid ++ high) from ∙ fates_append f (option_to_list s) (low ++ (mid ++ high)) v.settled))

  told_is : p2.whole.told ≡ v.whole.told
  told_is = p2.told ∙ (told_purged 1 purge1 (left1 l) v2 v3 p1 ∙ (told_purged 0 first_purge l v1 v2 p0 ∙ ap (λ (x : View). x.whole.told) e1))

  known_is : whole_of (record v { whole = p2.whole }) ≡ whole_of v
  known_is = ap (λ x. x.whole) p2.alone ∙ (known_purged 1 purge1 (left1 l) v2 v3 p1 ∙ (known_purged 0 first_purge l v1 v2 p0 ∙ ap whole_of e1))

  pub emptied : IsPurgeDone cause (all_purged s l.bands) v v6
  emptied =
      let y : View = ended (step2 (step1 (step0 (paid_slot cause s v)))) in
      let size1 : v1.holder.size ≡ v.holder.size = ap (λ (x : View). x.holder.size) e1 in
      let size2 : v2.holder.size ≡ v.holder.size = (still_purged 0 first_purge l v1 v2 p0).size ∙ size1 in
      let size3 : v3.holder.size ≡ v.holder.size = (still_purged 1 purge1 (left1 l) v2 v3 p1).size ∙ size2 in record {
        ends = record { low = p0.ends; mid = p1.ends; high = p2.ends };
        whole = y.whole;
        is = cleared ∙ (ap ended p2.is ∙ (ap (λ (x : View). ended (step2 x)) p1.is ∙ (ap (λ (x : View). ended (step2 (step1 x))) p0.is ∙ (ap (λ (x : View). ended (step2 (step1 (step0 x)))) e1
            ∙ (λ j. record y { settled = fates_are j })))));
        rests = (subst (λ (z : ℕ). IsAtRest z p0.ends) size1 p0.rests, subst (λ (z : ℕ). IsAtRest z p1.ends) size2 p1.rests, subst (λ (z : ℕ). IsAtRest z p2.ends) size3 p2.rests);
        told = told_is;
        alone = λ j. record (solo v) { told = told_is j; whole = record (known_is j) { missed = false; draining = false } };
      }

pub count_all : (s : Option ℕ) (l : Left) → length (all_purged s l.bands) ≡ length (option_to_list s) + low_count l + mid_count l + high_count l
count_all s l =
    let low = held_of l.bands.low in let mid = held_of l.bands.mid in let high = held_of l.bands.high in
    let a = length-append (option_to_list s) (low ++ (mid ++ high)) in let b = length-append low (mid ++ high) in let c = length-append mid high in omega arith

pub slot_few : (s : Option ℕ) → length (option_to_list s) ≤ 1
slot_few None = omega arith
slot_few (Some n) = omega arith

-- with its event
pub purged_of : (cause : Cause) (bands : Three Band) (lost : List ℕ) (v u w : View) → v.packets.owed ≡ None → u ≡ begin_purge_view cause bands v → IsPurgeDone cause lost u w → IsPurged cause lost v w
purged_of cause bands lost v u w none_owed e p =
    let after = λ (x : View). record x {
      packets = record x.packets { owed = None };
      holder = record x.holder { ends = p.ends; left = None };
      control = record x.control { phase = after_purge x.control.phase; purge = None };
      whole = p.whole;
      settled = fates_onto (fate.Purged cause) lost x.settled;
    } in record {
      ends = p.ends;
      whole = p.whole;
      is = p.is ∙ (ap after e ∙ (λ j. record (after (begin_purge_view cause bands v)) { packets = record v.packets { owed = sym none_owed j } }));
      rests = subst (λ (n : ℕ). IsResting n p.ends) (ap (λ (x : View). x.holder.size) e) p.rests;
      told = p.told ∙ ap (λ (x : View). x.whole.told) e;
      alone = ap (λ (x : View). solo (record x { whole = p.whole })) (sym e) ∙ (p.alone ∙ ap (λ (x : View). missed_to false (draining_to false (solo x))) e);
    }

pub slot_within : (k : Setup) (s : Option ℕ) → IsKnownSlot k s → IfSome s (λ n. n < length k.infos)
slot_within k None known = tt
slot_within k (Some n) known = known.0
