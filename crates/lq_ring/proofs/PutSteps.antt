-- The steps of a put one after another.
use Rattle.std.proofs.Common.{◌≡◌, ℕ, zero, suc, refl, ap, ◌∙◌}
use Rattle.lq_band_laws.specs.Three.{Three, at, put}
use Rattle.lq_band_laws.specs.Ring.{Lock, unlocked, locked_at, sized_at, with_room, having_stored}
use Rattle.lq_band_laws.proofs.Three.{at_put_same}
use Rattle.lq_table.specs.Views.{View}
use Rattle.lq_table.specs.Producers.{with_lock_at, load_size_view, producer_slot_view_full, store_slot_view}
use Rattle.lq_ring.specs.Put.{no_locks, putting, dropping_full}

-- the seat has just got the producer lock of the band, with the index i
abbrev just_locked : ℕ → ℕ → Three Lock
just_locked b i = put b (locked_at i) no_locks

pub put_put : {A : Type 0} (b : ℕ) (x y : A) (t : Three A) → put b x (put b y t) ≡ put b x t
put_put zero x y t = refl
put_put (suc zero) x y t = refl
put_put (suc (suc b)) x y t = refl

pub put_none : (b : ℕ) → put b unlocked no_locks ≡ no_locks
put_none zero = refl
put_none (suc zero) = refl
put_none (suc (suc b)) = refl

sized_just : (b z i : ℕ) (v : View) → (load_size_view z (record v { locks = just_locked b i })).locks ≡ put b (sized_at z (locked_at i)) no_locks
sized_just zero z i v = refl
sized_just (suc zero) z i v = refl
sized_just (suc (suc b)) z i v = refl

pub sized_locks : (b z i : ℕ) (v : View) → v.locks ≡ just_locked b i → (load_size_view z v).locks ≡ put b (sized_at z (locked_at i)) no_locks
sized_locks b z i v e = ap (λ (ls : Three Lock). (load_size_view z (record v { locks = ls })).locks) e ∙ sized_just b z i v

module _ (b z i n : ℕ) (v v1 : View) (had : v.locks ≡ just_locked b i) (loaded : v1 ≡ load_size_view z v) where
  -- the lock, once the size was loaded
  pub locks1 : v1.locks ≡ put b (sized_at z (locked_at i)) no_locks
  locks1 = ap (λ (x : View). x.locks) loaded ∙ sized_locks b z i v had

  pub lock1 : at b v1.locks ≡ sized_at z (locked_at i)
  lock1 = ap (at b) locks1 ∙ at_put_same b _ no_locks

  pub ends_full : (m : ℕ) (v2 v3 : View) → v2 ≡ producer_slot_view_full n m v1 → v3 ≡ with_lock_at b unlocked v2 → v3 ≡ dropping_full n m v
  ends_full m v2 v3 e2 e3 =
      let back : put b unlocked (load_size_view z v).locks ≡ no_locks = ap (put b unlocked) (sized_locks b z i v had) ∙ (put_put b unlocked _ no_locks ∙ put_none b) in
      e3 ∙ (ap (λ (x : View). with_lock_at b unlocked x) e2 ∙ (ap (λ (x : View). with_lock_at b unlocked (producer_slot_view_full n m x)) loaded ∙ (λ j. record (producer_slot_view_full n m v) { locks = back j })))

  module _ (v2 : View) (seen : v2 ≡ with_lock_at b (with_room (at b v1.locks)) v1) where
    abbrev roomy : Lock
    roomy = with_room (sized_at z (locked_at i))

    pub locks2 : v2.locks ≡ put b roomy no_locks
    locks2 = ap (λ (x : View). x.locks) seen ∙ ((λ j. put b (with_room (lock1 j)) (locks1 j)) ∙ put_put b roomy _ no_locks)

    pub lock2 : at b v2.locks ≡ roomy
    lock2 = ap (at b) locks2 ∙ at_put_same b roomy no_locks

    module _ (v3 : View) (put_is : v3 ≡ store_slot_view b n v2) where
      pub locks3 : v3.locks ≡ put b (having_stored roomy) no_locks
      locks3 = ap (λ (x : View). x.locks) put_is ∙ ((λ j. put b (having_stored (lock2 j)) (locks2 j)) ∙ put_put b (having_stored roomy) _ no_locks)

      pub lock3 : at b v3.locks ≡ having_stored roomy
      lock3 = ap (at b) locks3 ∙ at_put_same b _ no_locks

      pub ends_put : (v4 : View) → v4 ≡ with_lock_at b unlocked v3 → v4 ≡ putting b n v
      ends_put v4 given =
          let back : put b unlocked v3.locks ≡ no_locks = ap (put b unlocked) locks3 ∙ (put_put b unlocked _ no_locks ∙ put_none b) in
          given ∙ ((λ j. record (put_is j) { locks = back j }) ∙ ((λ j. record (store_slot_view b n (seen j)) { locks = no_locks }) ∙ (λ j. record (store_slot_view b n (with_lock_at b roomy (loaded j))) { locks = no_locks })))
